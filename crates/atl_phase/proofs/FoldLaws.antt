-- Laws of folds and of mapped lists. `fold f s xs` begins with s, and takes the step f for each element of the list xs
-- in turn. `drop i xs` is the list from index i on. `get_or xs i none` is the element at i, or `none` past the end.
use Rattle.std.proofs.Common.{◌≡◌, ◌+◌, ◌<◌, ◌≤◌, ℕ, List, [], ◌∷◌, length, map, drop, get_or, refl, sym, ap, subst, ◌∙◌, arith}
use Rattle.std.specs.Prelude.{fold}
use Rattle.std.specs.List.{All}
use Rattle.std.proofs.lemmas.List.{drop_all, drop_more, get_or-map, length-map}

-- There is an element at i. If the fold over the elements from i on gives `whole`, so does the fold over those after
-- it, once the step at i is taken. `before` and `after` are what the fold has made before and after this step; `none`
-- stands in where there is no element.
pub fold_after_step : {S A : Type 0} (f : S → A → S) (xs : List A) (i : ℕ) (none : A) (before : S) {after whole : S}
    → i < length xs
    → after ≡ f before (get_or xs i none) → fold f before (drop i xs) ≡ whole → fold f after (drop (i + 1) xs) ≡ whole
fold_after_step f xs i none before inside step all =
    ap (λ s. fold f s (drop (i + 1) xs)) step ∙ sym (ap (fold f before) (drop_more xs i none inside)) ∙ all

-- if no element is left from index i on, and the fold over those left, begun with `later`, gives `whole`, then `later`
-- is `whole`
pub fold_ended : {S A : Type 0} (f : S → A → S) (xs : List A) (i : ℕ) (later : S) {whole : S} → length xs ≤ i
    → fold f later (drop i xs) ≡ whole → later ≡ whole
fold_ended f xs i later ended all = sym (ap (fold f later) (drop_all i xs ended)) ∙ all

-- to fold over a list xs, taking g of each element, is to fold over the list of what g makes of them
pub fold_mapped : {S A B : Type 0} (f : S → B → S) (g : A → B) (s : S) (xs : List A)
    → fold (λ r x. f r (g x)) s xs ≡ fold f s (map g xs)
fold_mapped f g s [] = refl
fold_mapped f g s (x ∷ xs) = fold_mapped f g (f s (g x)) xs

-- If ys is xs with g mapped over it, and P holds of each element of ys, P holds of g of the element of xs at an index i
-- below the length of xs. Past the end d stands in.
pub each_mapped : {A B : Type 0} (P : B → Type 0) (g : A → B) (xs : List A) (ys : List B) → map g xs ≡ ys → All P ys
    → (i : ℕ) (d : A) → i < length xs → P (g (get_or xs i d))
each_mapped P g xs ys is all i d inside =
    let long : length (map g xs) ≡ length xs = length-map xs g in
    subst P (get_or-map g xs i d (g d) inside) (subst (All P) (sym is) all i (g d) (omega (arith, long, inside)))
