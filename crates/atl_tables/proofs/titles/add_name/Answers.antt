use Rattle.atl_tables.proofs.SeenLaws.{has_more}
use Rattle.atl_tables.proofs.titles.add_name.Goals as goal

pub returns-clause-seen : goal.returns-clause-seen
returns-clause-seen c =
    has_more c.args.seen.now c.insert.new.self c.in_ok-lowered.lowered c.args.name.now c.in_ok-new.ensures.updates
    (rw c.as_str.ensures at c.in_ok-lowered.ensures.ok)
