-- The verb that a word is. See docs/RULES.md, "Orders".
use Rattle.std.specs.Prelude.{List, [], ◌∷◌, codes, Option, Some, find, if◌then◌else◌}
use Rattle.atl_world.specs.declared.verb.Verb.{Verb}
use Rattle.atl_world.specs.declared.verb.Verb.TheVariants.{Name, Guard, Enter, Leave, Promote, Give, Pay, Transfer, Sell, Buy, Tax, Recruit, Quit, Move, Sail, Build, Teach, Study, Produce, Work}
use Rattle.atl_world.specs.Verbs.{keyword}
use Rattle.atl_words.specs.Words.{WordText, is_word}

-- the verbs that an order's line can begin with; FORM is left out, since it has lines of its own
abbrev pub listed_verbs : List Verb
listed_verbs =
    Name ∷ Guard ∷ Enter ∷ Leave ∷ Promote ∷ Give ∷ Pay ∷ Transfer ∷ Sell ∷ Buy
    ∷ Tax ∷ Recruit ∷ Quit ∷ Move ∷ Sail ∷ Build ∷ Teach ∷ Study ∷ Produce ∷ Work ∷ []

-- the verb other than FORM whose keyword a word is, in any case; BOARD is read as ENTER, and None comes for other words
abbrev pub verb_of : WordText → Option Verb
verb_of w = if is_word (codes "BOARD") w then Some Enter else find (λ verb. is_word (keyword verb) w) listed_verbs
