use Rattle.std.proofs.Common.{subst, sym}
use Rattle.std.specs.Str.{IsUtf8}
use Rattle.atl_world.proofs.NameLaws.{name_ok-IsUtf8}
use Rattle.atl_campaign.proofs.assembly.records.moved_name.Goals as goal

-- the bytes of a name that keeps the name rule are UTF-8, so that `unwrap` gets a string
pub unwrap-letters-requires : goal.unwrap-letters-requires
unwrap-letters-requires c =
    c.from_utf8.ensures.succeeds (subst IsUtf8 (sym c.into_vec.ensures) (name_ok-IsUtf8 _ c.requires))
