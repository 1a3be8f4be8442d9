-- Laws on writing a single item or skill of a unit: its row alone, of the table `has`, is put or deleted.
-- `unit` and `thing` are numbers, `sort` is the kind of the thing (item or skill), and `amount` what the unit has of it
-- in the campaign `c`. To rewrite rows is to make them those of the campaign (`RewritesThings`). `old` is the state
-- before the row is put or deleted, and `new` after it. Each step is in a database with the ten tables.
use Rattle.std.proofs.Common.{◌≡◌, ◌≢◌, ◌==◌, ◌||◌, ℕ, pos, Bool, true, false, [], ◌∷◌, take, refl, sym, ap, ◌∙◌, subst, inr, true≢false, arith}
use Rattle.std.proofs.lemmas.Bool.{and_parts, and_from}
use Rattle.std.proofs.Math.Bool.{and-false, and-or_distrib_left}
use Rattle.sqlite.specs.Order.{Row}
use Rattle.sqlite.specs.State.{State}
use Rattle.sqlite_value.specs.declared.value.Value.TheVariants.{Int}
use Rattle.atl_campaign.specs.Campaign.{CampaignValue}
use Rattle.atl_sql.specs.declared.rows.has.ThingKind.{ThingKind}
use Rattle.atl_sql.specs.declared.rows.has.ThingKind.TheVariants.{Item, Skill}
use Rattle.atl_sql.specs.Written.{sort_number}
use Rattle.atl_descriptions.specs.Tables.{has_table}
use Rattle.atl_sql.specs.Shown.{int, has_key, has_row}
use Rattle.atl_writing.specs.Rows.{HasRowsOf, amount_under}
use Rattle.atl_sql.specs.Inside.{DoesInside, HasTables, Puts, Drops}
use Rattle.atl_writing.specs.Marked.{unit_and_thing_pass}
use Rattle.atl_writing.specs.Rewriting.{FindsByNumbers, RewritesThings, is_owner_and_thing}
use Rattle.atl_writing.proofs.HasTableLaws.{three_same, row_has_amount, amount_has_row}
use Rattle.atl_writing.proofs.RewriteLaws.{rewrites_key, kept_only}
use Rattle.atl_writing.proofs.WholeLaws.{inside_weaker}
use Rattle.atl_world.proofs.GeneralLaws.{same_key, key_itself, is_equal, equal_itself}

-- `unit_and_thing_pass` finds rows of one kind by unit and thing: a test "`f` or `g`" finds what `f` or `g` finds, and
-- a test that is always false finds nothing (`FindsByNumbers`)
pub finds_things : (sort : ThingKind) → FindsByNumbers (unit_and_thing_pass sort)
finds_things sort = record { either = either; none = none }
  where
    either : (f g : ℕ → ℕ → Bool) (r : Row)
        → unit_and_thing_pass sort (λ n t. f n t || g n t) r
        ≡ (unit_and_thing_pass sort f r || unit_and_thing_pass sort g r)
    either f g (Int (pos unit) ∷ Int (pos number) ∷ Int (pos thing) ∷ row) =
        and-or_distrib_left (number == sort_number sort) (f unit thing) (g unit thing)
    either f g row = refl

    none : (r : Row) → unit_and_thing_pass sort (λ n t. false) r ≡ false
    none (Int (pos unit) ∷ Int (pos number) ∷ Int (pos thing) ∷ row) = and-false (number == sort_number sort)
    none row = refl

pub same_sort : (a b : ThingKind) → sort_number a ≡ sort_number b → a ≡ b
same_sort Item Item same = refl
same_sort Item Skill same = absurd (omega (arith, same))
same_sort Skill Item same = absurd (omega (arith, same))
same_sort Skill Skill same = refl

module _ (unit : ℕ) (sort : ThingKind) (thing : ℕ) where
  abbrev is_here : Row → Bool
  is_here r = unit_and_thing_pass sort (is_owner_and_thing unit thing) r

  key_of : (r : Row) → is_here r ≡ true → take 3 r ≡ has_key unit (sort_number sort) thing
  key_of (Int (pos n) ∷ Int (pos number) ∷ Int (pos t) ∷ row) is =
      let one = and_parts _ _ is in
      let two = and_parts _ _ one.1 in
      ap (λ k. has_key k number t) (same_key n unit two.0)
      ∙ ap (λ k. has_key unit k t) (is_equal number (sort_number sort) one.0)
      ∙ ap (has_key unit (sort_number sort)) (same_key t thing two.1)
  key_of row is = absurd (true≢false (sym is))

  of_key : (r : Row) → take 3 r ≡ has_key unit (sort_number sort) thing → is_here r ≡ true
  of_key [] key = absurd cc
  of_key (u ∷ []) key = absurd cc
  of_key (u ∷ v ∷ []) key = absurd cc
  of_key (u ∷ v ∷ w ∷ row) key =
      let first : u ≡ int unit = cc in
      let second : v ≡ int (sort_number sort) = cc in
      let third : w ≡ int thing = cc in
      ap (λ x. is_here (x ∷ v ∷ w ∷ row)) first ∙ ap (λ x. is_here (int unit ∷ x ∷ w ∷ row)) second
      ∙ ap (λ x. is_here (int unit ∷ int (sort_number sort) ∷ x ∷ row)) third
      ∙ and_from _ _ (equal_itself (sort_number sort)) (and_from _ _ (key_itself unit) (key_itself thing))

  module _ (c : CampaignValue) (amount : ℕ) (is : amount ≡ amount_under c.units unit sort thing) where
    abbrev row : Row
    row = has_row unit (sort_number sort) thing amount

    wanted_here : (r : Row) → is_here r ≡ true → HasRowsOf c.units r → (amount ≢ 0) × (r ≡ row)
    wanted_here r here of =
        let had = row_has_amount c.units r of in
        let keys = three_same had.0 (sort_number had.1) had.2 unit (sort_number sort) thing (ap (take 3) (sym had.4) ∙ key_of r here) in
        let Determines : ℕ → ThingKind → ℕ → Type 0 = λ n s t. (amount_under c.units n s t ≢ 0) × (r ≡ has_row n (sort_number s) t (amount_under c.units n s t)) in
        let says : Determines unit sort thing = subst (λ n. Determines n sort thing) keys.0 (subst (λ s. Determines had.0 s thing) (same_sort had.1 sort keys.1) (subst (Determines had.0 had.1) keys.2 (had.3, had.4))) in
        (λ none. says.0 (sym is ∙ none), says.1 ∙ ap (has_row unit (sort_number sort) thing) (sym is))

    -- if the amount is 0, no row that the table `has` has to have is of this unit, kind and thing
    pub zero_amount_has_no_row : amount ≡ 0 → (r : Row) → HasRowsOf c.units r
        → take 3 r ≢ has_key unit (sort_number sort) thing
    zero_amount_has_no_row none r of key = (wanted_here r (of_key r key) of).0 none

    -- to put the row of an amount that is not 0 rewrites the rows of its unit, kind and thing, and no others
    pub thing_put : amount ≢ 0 → (old new : State) → DoesInside HasTables (Puts has_table 3 row) old new
        → DoesInside HasTables (RewritesThings c sort (is_owner_and_thing unit thing)) old new
    thing_put some old new did =
        inside_weaker HasTables (Puts has_table 3 row) (RewritesThings c sort (is_owner_and_thing unit thing)) old new
        (λ has puts. rewrites_key is_here (λ r. take 3 r ≡ has_key unit (sort_number sort) thing) (λ r. r ≡ row) (HasRowsOf c.units) key_of of_key
        (λ r same. (ap (take 3) same, subst (HasRowsOf c.units) (sym same) (amount_has_row c.units unit sort thing amount is some)))
        (λ r here of. (wanted_here r here of).1)
        has_table old.now new.now puts.rows puts.others)
        did

    -- to delete the row of an amount that is 0 rewrites the rows of its unit, kind and thing, and no others
    pub thing_dropped : amount ≡ 0 → (old new : State)
        → DoesInside HasTables (Drops has_table 3 (has_key unit (sort_number sort) thing)) old new
        → DoesInside HasTables (RewritesThings c sort (is_owner_and_thing unit thing)) old new
    thing_dropped none old new did =
        inside_weaker HasTables (Drops has_table 3 (has_key unit (sort_number sort) thing))
        (RewritesThings c sort (is_owner_and_thing unit thing)) old new
        (λ has drops. rewrites_key is_here (λ r. take 3 r ≡ has_key unit (sort_number sort) thing) (λ r. ⊥) (HasRowsOf c.units) key_of of_key (λ r never. absurd never)
        (λ r here of. (wanted_here r here of).0 none)
        has_table old.now new.now (λ r. let so = drops.rows r in (λ h. inr (so.0 h), λ h. so.1 (kept_only h))) drops.others)
        did
