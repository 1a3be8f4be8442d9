use Rattle.std.proofs.Common.{◌≡◌, ◌++◌, drop, length, map}
use Rattle.atl_tables.specs.Each.{conditions_on_each}
use Rattle.atl_tables.specs.EachIndex.{EachIndex}
use Rattle.atl_tables.specs.Faults.{first_fault}
use Rattle.atl_tables.proofs.world_draft.resolve_all.Given as goal

-- The first fault of the tables not looked up yet is that of all tables. The records so far, followed by those of the
-- tables not looked up yet, are all records. There is one record, in its ranges, for each table looked up.
abbrev pub invariant-loop-i : goal.invariant-loop-i
invariant-loop-i g l = record {
  faults : first_fault (conditions_on_each (g.D.Draft.unknown l.all) l.i (drop l.i l.drafts))
      ≡ first_fault (conditions_on_each (g.D.Draft.unknown l.all) 0 l.drafts);
  records : l.records ++ map (g.D.Draft.record_of l.all) (drop l.i l.drafts) ≡ map (g.D.Draft.record_of l.all) l.drafts;
  sound : EachIndex (g.D.Draft.is_sound l.all) l.records;
  count : length l.records ≡ l.i;
}
