-- Texts joined one after another.
use Rattle.std.specs.Prelude.{ℕ, List, [], ◌∷◌}
use Rattle.atl_world.specs.Texts.{◌▸◌}

-- the texts that `text` makes of a list's elements, one after another
abbrev pub each_text : {A : Type 0} → (A → List ℕ) → List A → List ℕ
each_text text [] = []
each_text text (x ∷ xs) = text x ▸ each_text text xs

-- the texts of a list, with a separator between each two
abbrev pub separated_texts : (separator : List ℕ) → List (List ℕ) → List ℕ
separated_texts separator [] = []
separated_texts separator (text ∷ texts) = text ▸ each_text (λ t. separator ▸ t) texts
