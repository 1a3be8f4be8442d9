-- Laws of the campaign assembled from rows: names keep their rule if they do in the rows, and amounts their bound.
-- w is the world, f the format of the tables, and p are the rows. The laws suppose `RowsKeep f w p`: the world keeps
-- its rules, and the rows those by which they are just the rows of this campaign.
use Rattle.std.proofs.Common.{◌≡◌, ℕ, suc, ◌≤◌, ◌+◌, ◌*◌, ◌&&◌, List, [], ◌∷◌, Bool, true, false, cond, not, map, Some, sym, ap, subst, ◌∙◌, arith, inl, inr}
use Rattle.std.specs.Prelude.{ℤ, pos, negsuc}
use Rattle.std.specs.List.{list_all, AllByRecursion, IsDistinct}
use Rattle.std.specs.Ordering.{nat_cmp, eq_by_cmp}
use Rattle.std.specs.Cmp.{eq_by_cmp_equiv}
use Rattle.std.specs.Cmp.Lexicographic.{slice_cmp, nat_list_cmp_total}
use Rattle.std.specs.FinMap.{FinMap, get}
use Rattle.std.proofs.lemmas.Bool.{and_parts, false≢true}
use Rattle.std.proofs.lemmas.Int.{ints}
use Rattle.atl_world.specs.Names.{name_ok, pass_ok}
use Rattle.atl_world.specs.Worlds.{WorldValue}
use Rattle.atl_world.specs.declared.format.Format.{Format}
use Rattle.atl_records.specs.Limits.{most_in_joining, most_in_month}
use Rattle.atl_rows.specs.declared.parts.Parts.{Parts}
use Rattle.atl_rows.specs.declared.parts.StoredFaction.{StoredFaction}
use Rattle.atl_rows.specs.declared.parts.StoredUnit.{StoredUnit}
use Rattle.atl_rows.specs.declared.parts.StoredStructure.{StoredStructure}
use Rattle.atl_rows.specs.declared.parts.StoredBooks.{StoredBooks}
use Rattle.atl_records.specs.declared.records.Faction.{Faction}
use Rattle.atl_records.specs.declared.books.BooksEntry.{BooksEntry}
use Rattle.atl_records.specs.declared.books.Thing.{Thing}
use Rattle.atl_records.specs.Books.{account_cmp, amount_in, AreBooks, BooksValue, IsWithin, no_amounts, with_amount}
use Rattle.atl_campaign.specs.Founding.{thing_count}
use Rattle.atl_campaign.specs.FromRows.{as_u32, faction_of, structure_of, unit_of, by_number, with_books_rows, campaign_row_of, campaign_of}
use Rattle.atl_campaign.specs.Good.{AreNamed, AreAmountsWithin, amount_bound}
use Rattle.atl_campaign.specs.RowRules.{faction_named, books_in_range, books_bound, is_within, AreJoinedNamesDistinct, AreRowsNamed}
use Rattle.atl_campaign.specs.Rows.{is_zero}
use Rattle.atl_records.proofs.BookLaws.{amount-no_amounts, amount-with_amount, AreBooks-no_amounts, AreBooks-with_amount}
use Rattle.atl_state.proofs.BooksRowLaws.{IsBooked, account_there, with_booked_row}
use Rattle.atl_campaign.proofs.FromRowLaws.{by_number-every, from_le}
use Rattle.atl_campaign.proofs.MapOfRowsLaws.{HasNumber, row_of, rows_found, same_count, each_passes}
use Rattle.atl_state.proofs.SaidLaws.{RowsKeep, factions_apart, all_booked, ranges}

-- ---- joined names

abbrev same_text : List ℕ → List ℕ → Bool
same_text a b = eq_by_cmp (slice_cmp nat_cmp) a b

text_itself : (a : List ℕ) → same_text a a ≡ true
text_itself a = (eq_by_cmp_equiv nat_list_cmp_total).refl a

some_same : (f g : Faction) → Some f ≡ Some g → f ≡ g
some_same f g e = cc

module _ (m : FinMap nat_cmp Faction) where
  abbrev number : StoredFaction → ℕ
  number r = as_u32 r.number

  abbrev Found : StoredFaction → Type 0
  Found r = get m (number r) ≡ Some (faction_of r)

  -- if the map `m` has the faction read from a row under the row's number (`Found`), the row has the joined name of the
  -- faction that `m` has there
  its_name : (r : StoredFaction) (n : ℕ) (f : Faction) → Found r → number r ≡ n → get m n ≡ Some f
      → r.joined_as ≡ f.joined_as
  its_name r n f found e is =
      ap (λ (x : Faction). x.joined_as) (some_same (faction_of r) f (sym found ∙ ap (get m) e ∙ is))

  later_differs : (name : List ℕ) (rows : List StoredFaction) (n : ℕ) (f : Faction)
      → AllByRecursion (λ y. same_text name y ≡ false) (map (λ r. r.joined_as) rows) → AllByRecursion Found rows
      → HasNumber number rows n → get m n ≡ Some f
      → same_text name f.joined_as ≡ false
  later_differs name [] n f d all there is = absurd there
  later_differs name (r ∷ rows) n f d all (inl e) is = ap (same_text name) (sym (its_name r n f all.0 e is)) ∙ d.0
  later_differs name (r ∷ rows) n f d all (inr there) is = later_differs name rows n f d.1 all.1 there is

  clash : (a b : List ℕ) → a ≡ b → same_text a b ≡ false → ⊥
  clash a b e d = false≢true (sym (ap (same_text a) e ∙ d) ∙ text_itself a)

  -- Two factions with the same joined name have the same number, if both are read from rows (`Found`) whose joined
  -- names differ.
  one_name : (rows : List StoredFaction) (n k : ℕ) (f g : Faction) → AreJoinedNamesDistinct rows
      → AllByRecursion Found rows → HasNumber number rows n → HasNumber number rows k → get m n ≡ Some f
      → get m k ≡ Some g → f.joined_as ≡ g.joined_as → n ≡ k
  unfolding IsDistinct
  one_name [] n k f g d all a b is at e = absurd a
  one_name (r ∷ rows) n k f g d all (inl x) (inl y) is at e = sym x ∙ y
  one_name (r ∷ rows) n k f g d all (inl x) (inr y) is at e =
      absurd
      (clash r.joined_as g.joined_as (its_name r n f all.0 x is ∙ e) (later_differs r.joined_as rows k g d.0 all.1 y at))
  one_name (r ∷ rows) n k f g d all (inr x) (inl y) is at e =
      absurd
      (clash r.joined_as f.joined_as (its_name r k g all.0 y at ∙ sym e) (later_differs r.joined_as rows n f d.0 all.1 x is))
  one_name (r ∷ rows) n k f g d all (inr x) (inr y) is at e = one_name rows n k f g d.1 all.1 x y is at e

-- ---- amounts

passing_is_within : (bound : ℕ) (z : ℤ) → is_within bound z ≡ true → IsWithin bound z
passing_is_within bound (pos n) h = let most : n ≤ bound = from_le n bound h in record { most = omega (arith, ints); least = omega (arith, ints) }
passing_is_within bound (negsuc n) h = let most : suc n ≤ bound = from_le (suc n) bound h in record { most = omega (arith, ints); least = omega (arith, ints) }

abbrev AreAllWithin : ℕ → BooksValue → Type 0
AreAllWithin bound books = (e : BooksEntry) (t : Thing) → IsWithin bound (amount_in books e t)

within-with_amount : (bound : ℕ) (books : BooksValue) (e : BooksEntry) (t : Thing) (z : ℤ) → IsWithin bound z
    → AreAllWithin bound books → AreAllWithin bound (with_amount books e t z)
within-with_amount bound books e t z here old f u =
    subst (IsWithin bound) (sym (amount-with_amount books e t z f u)) (elim (eq_by_cmp account_cmp (f, u) (e, t)) as (λ b. IsWithin bound (cond b z (amount_in books f u))) [ true ↦ here | false ↦ old f u ])

within-put : (things bound : ℕ) (rows : List StoredBooks) (books : BooksValue) → AreBooks things books
    → AllByRecursion (IsBooked things) rows → AllByRecursion (λ r. IsWithin bound r.amount) rows
    → AreAllWithin bound books → AreAllWithin bound (with_books_rows rows books)
within-put things bound [] books are booked here old = old
within-put things bound (r ∷ rows) books are booked here old =
    let a = booked.0.account in
    subst (λ b. AreAllWithin bound (with_books_rows rows b)) (sym (with_booked_row things books r are booked.0))
    (within-put things bound rows (with_amount books a.0 a.1 r.amount) (AreBooks-with_amount books a.0 a.1 r.amount things are (account_there things r booked.0)) booked.1 here.1 (within-with_amount bound books a.0 a.1 r.amount here.0 old))

within-no_amounts : (things bound : ℕ) → AreAllWithin bound (no_amounts things)
within-no_amounts things bound e t =
    subst (IsWithin bound) (sym (amount-no_amounts things e t))
    (record { most = omega (arith, ints); least = omega (arith, ints) })

module _ (f : Format) (w : WorldValue) (p : Parts) (k : RowsKeep f w p) where
  factions : FinMap nat_cmp Faction
  factions = by_number (λ r. as_u32 r.number) faction_of p.factions

  -- in the campaign assembled from rows, names and pass texts keep their rules, and no two factions joined under one
  -- name (AreNamed), if that is so in the rows
  pub AreNamed-said : AreRowsNamed p → AreNamed (campaign_of w p)
  unfolding campaign_of
  AreNamed-said h =
      let pass = pass_ok (campaign_row_of p).pass in
      let people = list_all faction_named p.factions in
      let units = list_all (λ (r : StoredUnit). name_ok r.name) p.units in
      let structures = list_all (λ (r : StoredStructure). name_ok r.name) p.structures in
      let outer = and_parts ((pass && people) && units) structures h.texts in
      let middle = and_parts (pass && people) units outer.0 in
      let inner = and_parts pass people middle.0 in
      let found = rows_found (λ r. as_u32 r.number) faction_of p.factions (factions_apart f w p k) in
      record {
        pass = inner.0;
        factions =
            by_number-every (λ r. as_u32 r.number) faction_of
            (λ n f. (name_ok f.joined_as ≡ true) × (name_ok f.name ≡ true) × (pass_ok f.pass ≡ true)) faction_named
            (λ r e. let last = and_parts (name_ok r.joined_as && name_ok r.name) (pass_ok r.pass) e in let first = and_parts (name_ok r.joined_as) (name_ok r.name) last.0 in (first.0, first.1, last.1)) p.factions inner.1;
        joined = λ n f is m g at e.
            one_name (by_number (λ r. as_u32 r.number) faction_of p.factions) p.factions n m f g h.joined found (row_of (λ r. as_u32 r.number) faction_of p.factions n (f, is)) (row_of (λ r. as_u32 r.number) faction_of p.factions m (g, at)) is at e;
        units = by_number-every (λ r. as_u32 r.number) (unit_of p.has) (λ n u. name_ok u.holding.name ≡ true) (λ r. name_ok r.name) (λ r e. e) p.units middle.1;
        structures = by_number-every (λ r. as_u32 r.number) structure_of (λ n s. name_ok s.name ≡ true) (λ r. name_ok r.name) (λ r e. e) p.structures outer.1;
      }

  same_bound : amount_bound (campaign_of w p) ≡ books_bound p
  unfolding campaign_of
  same_bound =
      ap (λ n. most_in_month * (as_u32 (campaign_row_of p).month + 1) + most_in_joining * n)
      (same_count (λ r. as_u32 r.number) faction_of p.factions (factions_apart f w p k))

  below : AreAllWithin (books_bound p) (with_books_rows p.books (no_amounts (thing_count w)))
  below =
      within-put (thing_count w) (books_bound p) p.books (no_amounts (thing_count w)) (AreBooks-no_amounts (thing_count w)) (all_booked f w p k)
      (each_passes (books_in_range (books_bound p)) (λ r. IsWithin (books_bound p) r.amount) (λ r h. passing_is_within (books_bound p) r.amount (and_parts (not (is_zero r.amount)) (is_within (books_bound p) r.amount) h).1) p.books (ranges f w p k).books)
      (within-no_amounts (thing_count w) (books_bound p))

  -- each amount of the books of the campaign assembled from rows is, without its sign, at most its `amount_bound`
  pub AreAmountsWithin-said : AreAmountsWithin (campaign_of w p)
  unfolding campaign_of
  AreAmountsWithin-said e t =
      subst (λ bound. IsWithin bound (amount_in (with_books_rows p.books (no_amounts (thing_count w))) e t))
      (sym same_bound) (below e t)
