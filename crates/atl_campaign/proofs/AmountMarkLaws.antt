-- Laws of MarksAmounts: the dirty set of the books has only amounts of the first `things` things, and room for all.
-- `marks` is this dirty set with its room; e and t are the entry and the thing of an amount.
use Rattle.std.proofs.Common.{◌≡◌, ℕ, ◌*◌, ◌<◌, ◌≤◌, Bool, true, ◌||◌, sym, ◌∙◌, subst, refl, arith}
use Rattle.std.proofs.lemmas.Bool.{false≢true}
use Rattle.std.specs.declared.cmp.Ordering.TheVariants.{Less, Equal, Greater}
use Rattle.std.specs.Ordering.{nat_cmp, eq_by_cmp, is_eq}
use Rattle.std.specs.Cmp.{nat_cmp_total}
use Rattle.std.specs.FinMap.{nat_cmp-IsAntisymmetric}
use Rattle.std.specs.FinSet as set
use Rattle.atl_world.specs.RoomySets.{RoomySet}
use Rattle.atl_world.proofs.SetLaws.{len-below}
use Rattle.atl_records.specs.Books.{thing_index, amount_number}
use Rattle.atl_campaign.specs.KeptLists.{MarksAmounts}
use Rattle.atl_records.specs.Limits.{entry_count}
use Rattle.atl_campaign.specs.Marks.{AreOfThings, amount_marked}
use Rattle.atl_records.specs.declared.books.BooksEntry.{BooksEntry}
use Rattle.atl_records.specs.declared.books.Thing.{Thing}
use Rattle.atl_records.proofs.EveryEntryLaws.{entry_small}

or_there : (n k : ℕ) (there : Bool) (P : ℕ → Type 0) → (eq_by_cmp nat_cmp k n || there) ≡ true → P n
    → (there ≡ true → P k) → P k
or_there n k there P h itself others = elim (nat_cmp k n) as (λ r. nat_cmp k n ≡ r → (is_eq r || there) ≡ true → P k) [
  | Less ↦ λ _ yes. others yes
  | Equal ↦ λ e _. subst P (sym (nat_cmp-IsAntisymmetric k n e)) itself
  | Greater ↦ λ _ yes. others yes
] refl h

number_small : (things : ℕ) (e : BooksEntry) (t : Thing) → thing_index t < things
    → amount_number e t < entry_count * things
number_small things e t small = omega (arith, small, entry_small e)

-- an empty dirty set with room for all amounts of the first `things` things keeps MarksAmounts
pub none_marked : (things room : ℕ) → entry_count * things ≤ room
    → MarksAmounts things (record { numbers = set.empty; room = room })
none_marked things room enough =
    record { room = enough; numbers = λ k there. absurd (false≢true (sym (set.contains-empty nat_cmp k) ∙ there)) }

more_of_things : (things : ℕ) (s : set.FinSet nat_cmp) (e : BooksEntry) (t : Thing) → thing_index t < things
    → AreOfThings things s → AreOfThings things (amount_marked s e t)
more_of_things things s e t small are k there =
    or_there (amount_number e t) k (set.contains s k) (λ n. n < entry_count * things) (sym (set.contains-insert nat_cmp_total s (amount_number e t) k) ∙ there) (number_small things e t small) (are k)

-- a dirty set still has only amounts of the first `things` things, and room for all (MarksAmounts), once an amount of
-- one of these things is added
pub more_marked : (things : ℕ) (marks : RoomySet) (e : BooksEntry) (t : Thing) → thing_index t < things
    → MarksAmounts things marks → MarksAmounts things (record marks { numbers = amount_marked marks.numbers e t })
more_marked things marks e t small are =
    record { room = are.room; numbers = more_of_things things marks.numbers e t small are.numbers }

-- one more amount, of one of the first `things` things, has room in a dirty set that keeps MarksAmounts
pub fits_amount : (things : ℕ) (marks : RoomySet) (e : BooksEntry) (t : Thing) → thing_index t < things
    → MarksAmounts things marks → set.len (amount_marked marks.numbers e t) ≤ marks.room
fits_amount things marks e t small are =
    let few = len-below (entry_count * things) (amount_marked marks.numbers e t) (more_of_things things marks.numbers e t small are.numbers) in
    omega (arith, few, are.room)
