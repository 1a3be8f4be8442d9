use Rattle.std.proofs.Common.{◌∙◌, subst, sym}
use Rattle.atl_parsing.specs.declared.request.Progress.TheVariants.{Missing}
use Rattle.atl_parsing.specs.Heads.{ComesTo, IsShortBy}
use Rattle.atl_requests.proofs.IoLaws as laws
use Rattle.atl_requests.proofs.io.receive_in.Goals as goal

pub progress_if_due-requires : goal.progress_if_due-requires
progress_if_due-requires g c =
    laws.short_of_equal c.deref.result.now c.loop-outcome.seen.items c.loop-outcome.missing c.deref.ensures.value
    c.loop-outcome.invariant.short

pub loop-outcome-preserved : goal.loop-outcome-preserved
loop-outcome-preserved g c =
    let lacks : ComesTo c.loop-outcome.seen.items (Missing c.in-Missing.count) = laws.missing_of_equal c.deref.result.now c.loop-outcome.seen.items c.in_ok-outcome.field-0 c.in-Missing.count c.deref.ensures.value c.in-Missing.is c.in_ok-outcome.ensures in
    record {
      consumed = laws.collected_bytes_are_read (g.R.Read.remaining c.args.reader.now) (g.R.Read.remaining c.loop-outcome.reader) (g.R.Read.remaining c.read_more.new.reader) c.loop-outcome.seen.items c.read_more.new.seen.items c.in-Ok.count c.loop-outcome.invariant.consumed c.in-Ok.ensures.more;
      progress = laws.read_so_far (g.R.Read.remaining c.loop-outcome.reader) (g.R.Read.remaining c.read_more.new.reader) c.loop-outcome.seen.items c.read_more.new.seen.items c.in-Ok.count (laws.more_while_missing c.loop-outcome.seen.items c.in-Missing.count lacks) c.in-Ok.ensures.more;
      short = subst (λ n. IsShortBy c.read_more.new.seen.items n) (sym c.saturating_sub-missing.ensures) (laws.short_by_less (g.R.Read.remaining c.loop-outcome.reader) (g.R.Read.remaining c.read_more.new.reader) c.loop-outcome.seen.items c.read_more.new.seen.items c.in-Missing.count c.in-Ok.count lacks c.in-Ok.ensures.more);
      room = c.read_more.auto.room ∙ c.loop-outcome.invariant.room;
      few = c.in-Ok.ensures.ends.0;
      goes_on = c.in-Ok.ensures.ends.1;
    }

pub returns-in-Err-clause-receives : goal.returns-in-Err-clause-receives
returns-in-Err-clause-receives g c =
    let lacks : ComesTo c.loop-outcome.seen.items (Missing c.in-Missing.count) = laws.missing_of_equal c.deref.result.now c.loop-outcome.seen.items c.in_ok-outcome.field-0 c.in-Missing.count c.deref.ensures.value c.in-Missing.is c.in_ok-outcome.ensures in
    laws.fault_ends_reading (g.R.Read.remaining c.args.reader.now) (g.R.Read.remaining c.loop-outcome.reader) (g.R.Read.remaining c.read_more.new.reader) c.loop-outcome.seen.items c.read_more.new.seen.items c.in-Err.fault c.loop-outcome.invariant.consumed (laws.more_while_missing c.loop-outcome.seen.items c.in-Missing.count lacks) c.in-Err.ensures.more
