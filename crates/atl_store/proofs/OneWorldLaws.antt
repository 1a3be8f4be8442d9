-- Law: two world texts with campaigns whose rows one database holds read as equal worlds.
use Rattle.std.proofs.Common.{◌≡◌, ◌∙◌, Result, Ok, sym, ap}
use Rattle.atl_world.specs.Worlds.{WorldValue}
use Rattle.atl_tables.specs.World.{world_of}
use Rattle.atl_tables.specs.declared.fault.WorldFault.{WorldFault}
use Rattle.atl_store.specs.OneWorld.{HoldsOneWorld}
use Rattle.atl_store.proofs.AlikeLaws.{one_text}

pub same_world : (v w : WorldValue) → ◌≡◌ {A = Result WorldValue WorldFault} (Ok v) (Ok w) → v ≡ w
same_world v w is = cc

-- the tables of one database hold texts of at most one world (`HoldsOneWorld`)
pub holds_one_world : HoldsOneWorld
holds_one_world v w db one other c d reads others h j =
    same_world v w (sym reads ∙ ap world_of (one_text db one other c d h j) ∙ others)
