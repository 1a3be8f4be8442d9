-- Laws of rules that are checked entry by entry. The method `all` of an iterator answers whether a closure is true of
-- all entries. So it decides Every, which says that P holds of each number of a map with its value. `Decides b A` says
-- that b is true exactly where A holds. An entry of a map is a number with its value.
use Rattle.std.proofs.Common.{◌≡◌, ℕ, zero, suc, ◌+◌, ◌<◌, ◌≤◌, inl, inr, arith, Bool, true, false, List, [], ◌∷◌, Option, Some, None, Bor, is_some, option_copied, Decides, length, get_or, refl, sym, ap, ◌∙◌}
use Rattle.std.proofs.lemmas.Bool.{cases_lt, false≢true}
use Rattle.std.proofs.lemmas.Bool.Decides.{Decides-like}
use Rattle.std.proofs.lemmas.Iterator.{cases_from_all}
use Rattle.std.proofs.lemmas.Iterator.Consumers.{YieldsList-from_first}
use Rattle.std.proofs.lemmas.List.Folds.{none_from_all_within}
use Rattle.std.specs.Bool.{MatchBool}
use Rattle.std.specs.Fn.{Called}
use Rattle.std.specs.Iterator.{YieldsThen, YieldsFirstBy}
use Rattle.std.specs.List.{AllWithin, HoldsAt, FoldsTo}
use Rattle.std.specs.Option.{MatchOption}
use denote.Param.Members.{Mut}
use Rattle.std.specs.Ordering.{nat_cmp}
use Rattle.std.specs.FinMap.{FinMap, get, entries, len}
use Rattle.atl_world.specs.Every.{Every, HasValue, EachEntry}
use Rattle.atl_campaign.specs.Good.{IsNumbered}
use Rattle.atl_world.proofs.EveryLaws.{none_some, every-from_each, each-from_every}

-- whether a look-up of number n gives a value decides whether the map has one there
pub Decides-there : {V : Type 0} (m : FinMap nat_cmp V) (n : ℕ) (b : Bool) → b ≡ is_some (get m n)
    → Decides b (HasValue m n)
Decides-there {V} m n b is = (λ e. found (get m n) (sym is ∙ e), λ there. is ∙ ap is_some there.1)
  where
    found : (o : Option V) → is_some o ≡ true → (v : V) × (o ≡ Some v)
    found None e = absurd (false≢true e)
    found (Some v) e = (v, refl)

-- a borrowed look-up gives a value exactly if its copy does
pub copied_some : {V : Type 0} (o : Option (Bor V)) → is_some (option_copied o) ≡ is_some o
copied_some None = refl
copied_some (Some v) = refl

-- ---- whether all entries are so, by `all` over them

module _ {V : Type 0} (P : ℕ → V → Type 0) where
  each_at : (es : List (ℕ × V)) (k : ℕ) (d : ℕ × V) → EachEntry P es → k < length es
      → P (get_or es k d).0 (get_or es k d).1
  each_at [] k d each inside = absurd (omega (arith, inside))
  each_at (e ∷ es) zero d each inside = each.0
  each_at (e ∷ es) (suc k) d each inside = each_at es k d each.1 (omega (arith, inside))

  at_each : (es : List (ℕ × V)) → AllWithin (λ e. P e.0 e.1) es 0 (length es) → EachEntry P es
  at_each [] within = tt
  at_each (e ∷ es) within =
      (within 0 e (omega arith) (omega arith), at_each es (λ k d least inside. within (suc k) d (omega arith) (omega (arith, inside))))

  answered : (es : List (ℕ × V)) (r : Bool)
      → MatchBool r (AllWithin (λ e. P e.0 e.1) es 0 (length es)) ((k : ℕ) × (k < length es) × HoldsAt (λ e. ¬ (P e.0 e.1)) es k)
      → Decides r (EachEntry P es)
  answered es true within = (λ _. at_each es within, λ _. refl)
  answered es false found = (
    λ e. absurd (false≢true e),
    λ each. absurd (none_from_all_within (λ e. ¬ (P e.0 e.1)) es (λ k d least inside never. never (each_at es k d each inside)) found),
  )

  abbrev shown : ℕ × Bor V → ℕ × V
  shown e = (e.0, e.1.now)

  -- `ran` is what the kit says of a call of `all` over the entries s: by g it calls the closure f on one after another,
  -- up to the first answer false. Its own answer is r, and u are the entries left over. The laws suppose that f stays
  -- as it is where it answers true.
  module _ {F : Type 0} {g : Mut F ((ℕ × Bor V) × Unit {0}) Bool} {s : List (ℕ × V)} (u : List (ℕ × V)) (f : F) (r : Bool)
      (ran : (xs : List (ℕ × Bor V)) × (o : Option (ℕ × Bor V)) × (j : F) × YieldsThen (YieldsFirstBy shown (λ t. t)) s xs o u × FoldsTo (λ p x q. Called g p (x, tt) true q) f xs j × MatchOption o (r ≡ true) (λ x. (r ≡ false) × ((h : F) × Called g j (x, tt) false h))) where
    -- the answer of `all` over borrowed entries decides whether P holds of each (EachEntry), if the closure decides P
    pub each_by_all : (es : List (ℕ × V)) → s ≡ es
        → ((x : ℕ × Bor V) (q : F) → Called g f (x, tt) true q → (q ≡ f) × P x.0 x.1.now)
        → ((x : ℕ × Bor V) (q : F) → Called g f (x, tt) false q → ¬ (P x.0 x.1.now)) → Decides r (EachEntry P es)
    each_by_all es is holds fails =
        answered es r
        (cases_from_all u f r (λ e. P e.0 e.1) (λ e. ¬ (P e.0 e.1)) ran (YieldsList-from_first shown (λ t. t) es is) holds fails)

    -- the answer of `all` over a map's entries decides whether P holds of each (Every), if the closure decides P
    pub every_by_all : (m : FinMap nat_cmp V) → s ≡ entries m
        → ((x : ℕ × Bor V) (q : F) → Called g f (x, tt) true q → (q ≡ f) × P x.0 x.1.now)
        → ((x : ℕ × Bor V) (q : F) → Called g f (x, tt) false q → ¬ (P x.0 x.1.now)) → Decides r (Every P m)
    every_by_all m is holds fails =
        Decides-like r (every-from_each P m) (each-from_every P m) (each_by_all (entries m) is holds fails)

-- ---- the numbers that come next

-- a map without a value under n gives None there
pub free_from : {V : Type 0} (m : FinMap nat_cmp V) (n : ℕ) → ¬ (HasValue m n) → get m n ≡ None
free_from {V} m n none =
    elim (get m n) as (λ o. get m n ≡ o → o ≡ None) [ None ↦ λ _. refl | Some v ↦ λ is. absurd (none (v, is)) ] refl

module _ {V : Type 0} (m : FinMap nat_cmp V) (next : ℕ) where
  -- a number n of the map is at least `least`, and below `next`; its value v does not matter
  abbrev Between : ℕ → ℕ → V → Type 0
  Between least n v = (least ≤ n) × (n < next)

  before : (n : ℕ) (v : V) → ((q : ℕ) → next ≤ q → get m q ≡ None) → get m n ≡ Some v → n < next
  before n v free is = elim (cases_lt n next) [ inl l ↦ l | inr l ↦ none_some v (sym (free n l) ∙ is) ]

  from_one : (n : ℕ) (v : V) → get m 0 ≡ None → get m n ≡ Some v → 1 ≤ n
  from_one zero v first is = none_some v (sym first ∙ is)
  from_one (suc n) v first is = omega arith

  -- nothing is under `next` or above it, if all numbers of the map are below `next`
  pub free_from_next : Every (λ n v. n < next) m → (n : ℕ) → next ≤ n → get m n ≡ None
  free_from_next few n l = free_from m n (λ there. let low = few n there.0 there.1 in omega (arith, low))

  -- all numbers of the map are below `next`, if nothing is under `next` or above it
  pub every_before : ((n : ℕ) → next ≤ n → get m n ≡ None) → Every (λ n v. n < next) m
  every_before free n v is = before n v free is

  -- a map whose numbers are all from 1 to `next - 1`, and as many as these, has exactly these numbers (IsNumbered)
  pub numbered : EachEntry (Between 1) (entries m) → next ≡ len m + 1 → IsNumbered m next
  numbered each count =
      let few = every-from_each (Between 1) m each in
      record {
        first = free_from m 0 (λ there. let least = (few 0 there.0 there.1).0 in omega (arith, least));
        count = count;
        free = λ n l. free_from m n (λ there. let most = (few n there.0 there.1).1 in omega (arith, most));
      }

  -- the numbers of a map that are exactly those from 1 to `next - 1` are all at least 1 and below `next`
  pub each_numbered : IsNumbered m next → EachEntry (Between 1) (entries m)
  each_numbered is =
      each-from_every (Between 1) m (λ n v there. (from_one n v is.first there, before n v is.free there))
