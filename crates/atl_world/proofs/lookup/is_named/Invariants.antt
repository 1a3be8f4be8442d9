use Rattle.std.proofs.Common.{◌≡◌}
use Rattle.atl_world.proofs.LookupLaws.{same_from}
use Rattle.atl_world.proofs.lookup.is_named.Given as goal

-- the word means the name from index i on exactly if it means the whole name, ignoring ASCII case
abbrev pub invariant-loop-i : goal.invariant-loop-i
invariant-loop-i l = same_from l.name l.quoted l.word l.i ≡ same_from l.name l.quoted l.word 0
