-- Laws of moving and removing a unit with marks: but for marks they do what with_place and without_unit do.
-- c is the campaign before, and n the unit's number. `with_place` puts the unit in region r and structure s, and
-- `without_unit` removes it; both give a structure that the unit owned and leaves to its next owner, and `with_place`
-- gives the unit one that it enters and nobody owns. A unit's goods are its items and days of study.
use Rattle.std.proofs.Common.{◌≡◌, ◌==◌, ℕ, Bool, true, false, Option, Some, None, refl, sym, ap, ◌∙◌}
use Rattle.std.specs.Prelude.{if◌then◌else◌}
use Rattle.std.specs.FinMap.{FinMap, get}
use Rattle.std.specs.Ordering.{nat_cmp}
use Rattle.atl_world.proofs.TrackLaws.{remove_none}
use Rattle.atl_records.specs.declared.records.Unit.{Unit}
use Rattle.atl_campaign.specs.Marking.{mark_structure, handed_marked, put_marked, place_marked, place_marked_at, taken_marked, gone_marked, gone_marked_at, whole_marked}
use Rattle.atl_campaign.specs.Owners.{heir, is_owned_by, after_handover, with_position, with_place, with_place_at, without_unit, without_unit_at}
use Rattle.atl_campaign.specs.Campaign.{MarkedCampaign, with_owner}

-- the campaign with the given units, and with unit n, its row and all its goods marked, unless None is given for the
-- unit
abbrev with_units_marked : MarkedCampaign → ℕ → FinMap nat_cmp Unit → Option Unit → MarkedCampaign
with_units_marked c n units o = record { value = record c.value { units = units }; marks = whole_marked c.marks n o }

-- taking out a unit that isn't there changes nothing and marks nothing
pub taken_none : (c : MarkedCampaign) (n : ℕ) → get c.value.units n ≡ None → c ≡ taken_marked c n
taken_none c n none =
    sym
    (ap (λ m. with_units_marked c n m (get c.value.units n)) (remove_none c.value.units n none) ∙ ap (with_units_marked c n c.value.units) none)

-- ---- what becomes of the campaign, but for its marks

by_test : (b : Bool) (c d : MarkedCampaign) → (if b then d else c).value ≡ (if b then d.value else c.value)
by_test true c d = refl
by_test false c d = refl

-- handing a structure from one owner to another with its mark (`handed_marked`) does to the campaign's value what
-- `after_handover` does
pub after_handover-what : (c : MarkedCampaign) (s from to : ℕ)
    → (handed_marked c s from to).value ≡ after_handover c.value s from to
after_handover-what c s from to =
    by_test (is_owned_by (get c.value.structures s) from) c
    (record { value = with_owner c.value s to; marks = mark_structure c s })

value-handed_twice : (c : MarkedCampaign) (s n next t : ℕ)
    → (handed_marked (handed_marked c s n next) t 0 n).value ≡ after_handover (after_handover c.value s n next) t 0 n
value-handed_twice c s n next t =
    after_handover-what (handed_marked c s n next) t 0 n
    ∙ ap (λ d. after_handover d t 0 n) (after_handover-what c s n next)

place_at : (c : MarkedCampaign) (n r s : ℕ) (o : Option Unit)
    → (place_marked_at c n r s o).value ≡ with_place_at c.value n r s o
place_at c n r s None = refl
place_at c n r s (Some u) =
    by_test (u.structure == s) (handed_marked (handed_marked (put_marked c n r s) u.structure n (heir c.value u.structure n)) s 0 n) (put_marked c n r s)
    ∙ ap (λ d. if u.structure == s then with_position c.value n r s else d) (value-handed_twice (put_marked c n r s) u.structure n (heir c.value u.structure n) s)

-- moving a unit with marks (`place_marked`) does to the campaign's value what `with_place` does
pub place-what : (c : MarkedCampaign) (n r s : ℕ) → (place_marked c n r s).value ≡ with_place c.value n r s
unfolding place_marked with_place
place-what c n r s = place_at c n r s (get c.value.units n)

gone_at : (c : MarkedCampaign) (n : ℕ) (o : Option Unit) → (gone_marked_at c n o).value ≡ without_unit_at c.value n o
gone_at c n None = refl
gone_at c n (Some u) = after_handover-what (taken_marked c n) u.structure n (heir c.value u.structure n)

-- removing a unit with marks (`gone_marked`) does to the campaign's value what `without_unit` does
pub gone-what : (c : MarkedCampaign) (n : ℕ) → (gone_marked c n).value ≡ without_unit c.value n
unfolding gone_marked without_unit
gone-what c n = gone_at c n (get c.value.units n)

-- ---- where the unit is known

-- moving a unit that isn't there changes nothing and marks nothing
pub place_none : (c : MarkedCampaign) (n r s : ℕ) → get c.value.units n ≡ None → c ≡ place_marked c n r s
unfolding place_marked
place_none c n r s none = sym (ap (place_marked_at c n r s) none)

-- moving a unit that stays in its structure sets where it is, and marks it and its row (`put_marked`), and no structure
-- gets another owner
pub place_stays : (c : MarkedCampaign) (n r s : ℕ) (u : Unit) → get c.value.units n ≡ Some u → (u.structure == s) ≡ true
    → put_marked c n r s ≡ place_marked c n r s
unfolding place_marked
place_stays c n r s u is same =
    sym
    (ap (place_marked_at c n r s) is ∙ ap (λ b. if b then put_marked c n r s else handed_marked (handed_marked (put_marked c n r s) u.structure n (heir c.value u.structure n)) s 0 n) same)

-- Moving a unit to another structure s (0: none) puts it there, and marks it and its row. The structure left goes to
-- the next owner (`heir`) if the unit owned it, and s to the unit if it has no owner; what is handed over is marked.
pub place_leaves : (c : MarkedCampaign) (n r s : ℕ) (u : Unit) → get c.value.units n ≡ Some u
    → (u.structure == s) ≡ false
    → handed_marked (handed_marked (put_marked c n r s) u.structure n (heir c.value u.structure n)) s 0 n
    ≡ place_marked c n r s
unfolding place_marked
place_leaves c n r s u is same =
    sym
    (ap (place_marked_at c n r s) is ∙ ap (λ b. if b then put_marked c n r s else handed_marked (handed_marked (put_marked c n r s) u.structure n (heir c.value u.structure n)) s 0 n) same)

-- removing a unit that isn't there changes nothing and marks nothing
pub gone_none : (c : MarkedCampaign) (n : ℕ) → get c.value.units n ≡ None → c ≡ gone_marked c n
unfolding gone_marked
gone_none c n none = sym (ap (gone_marked_at c n) none)

-- removing a unit that is there takes it out, marked with its row and goods. The structure that it was inside, if it
-- owned that, goes to the next owner (`heir`) and is marked.
pub gone_some : (c : MarkedCampaign) (n : ℕ) (u : Unit) → get c.value.units n ≡ Some u
    → handed_marked (taken_marked c n) u.structure n (heir c.value u.structure n) ≡ gone_marked c n
unfolding gone_marked
gone_some c n u is = sym (ap (gone_marked_at c n) is)
