use Rattle.atl_market.proofs.WriterLaws.{fits_one_more}
use Rattle.atl_market.proofs.work.add_writer.Goals as goal

pub add-requires : goal.add-requires
add-requires c = fits_one_more c.args.writers.now.numbers c.args.unit c.args.writers.now.room c.requires
