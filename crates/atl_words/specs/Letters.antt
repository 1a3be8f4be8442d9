-- The bytes that mailings, texts with a player's orders, treat specially.
use Prim.Native.Char.{code}
use Rattle.std.specs.Prelude.{ℕ}

-- the tab, which separates words as the space does
abbrev pub tab : ℕ
tab = code "\t"

-- the line feed, which ends a line
abbrev pub line_feed : ℕ
line_feed = code "\n"

-- the carriage return, of which one is dropped at the end of a line
abbrev pub carriage_return : ℕ
carriage_return = code "\r"

-- the semicolon, which begins a comment
abbrev pub semicolon : ℕ
semicolon = code ";"
