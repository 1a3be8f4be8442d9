-- The bytes that names and words of orders treat specially.
use Prim.Native.Char.{code}
use Rattle.std.specs.Prelude.{ℕ}

-- the space, the first printable byte of ASCII
abbrev pub space : ℕ
space = code " "

-- the tilde, the last printable byte of ASCII
abbrev pub tilde : ℕ
tilde = code "~"

-- the quotation mark, which no name has
abbrev pub quote : ℕ
quote = code "\""

-- the underscore, which means a space in a word without quotes
abbrev pub underscore : ℕ
underscore = code "_"
