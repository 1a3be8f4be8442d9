-- The two formats of campaigns, by number. See docs/FORMATS.md, "Tables".
use Rattle.std.specs.Prelude.{ℕ}
use Rattle.atl_world.specs.declared.format.Format.{Format}
use Rattle.atl_world.specs.declared.format.Format.TheVariants.{First, Second}

-- the number of a format: 1 for the one without markets, 2 for the one with markets
abbrev pub format_number : Format → ℕ
format_number First = 1
format_number Second = 2
