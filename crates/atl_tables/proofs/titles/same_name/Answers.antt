use Rattle.std.proofs.lemmas.Bool.Decides.{same_from_decides}
use Rattle.std.proofs.lemmas.Slice.Eq.{bytes_eq-Decides}
use Rattle.atl_world.specs.Names.{same_name}
use Rattle.atl_tables.proofs.titles.same_name.Goals as goal

pub returns : goal.returns
unfolding same_name
returns c =
    same_from_decides _ _ (rw (c.as_bytes.ensures, c.as_bytes-2.ensures) at c.eq_ignore_ascii_case.ensures.test)
    (bytes_eq-Decides _ _)
