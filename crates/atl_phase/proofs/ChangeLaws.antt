-- Laws of a change to the holding of one unit: the campaign after it, and which marks are set. `ChangesHolding` says
-- that unit n, if it is there, holds what f makes of its holding. Nothing else changes, all changes are marked, and no
-- mark is lost. In the laws campaign c or a is before the change, d after it, and b between two changes.
use Rattle.std.proofs.Common.{◌≡◌, ◌≢◌, ℕ, Option, Some, None, refl, sym, ap, ◌∙◌}
use Rattle.std.specs.Ordering.{nat_cmp}
use Rattle.std.specs.FinMap.{FinMap, get, insert}
use Rattle.atl_world.specs.Sums.{with_changed_option}
use Rattle.atl_world.proofs.Maps.{insert_over}
use Rattle.atl_world.proofs.SumLaws.{put_same}
use Rattle.atl_records.specs.declared.records.Unit.{Unit}
use Rattle.atl_records.specs.Holdings.{HoldingValue, with_amount_of}
use Rattle.atl_campaign.specs.Lending.{with_holding_at}
use Rattle.atl_campaign.specs.Marking.{mark_item, mark_skill, mark_unit_row}
use Rattle.atl_campaign.specs.Marks.{Marks}
use Rattle.atl_campaign.specs.Campaign.{MarkedCampaign, CampaignValue, unit_changed, with_item, with_men, with_money, with_skill}
use Rattle.atl_campaign.proofs.CoverLaws.{marks-refl, marks-trans}
use Rattle.atl_world.proofs.EveryLaws.{get-insert_other}
use Rattle.atl_campaign.proofs.HoldingLaws.{marks-item, marks-skill, marks-unit_row}
use Rattle.atl_campaign.proofs.RegionLaws.{get-insert_same}
use Rattle.atl_phase.specs.Holdings.{ChangesHolding}
use Rattle.atl_phase.proofs.MarkLaws.{marks_by}

-- to change unit n by f and then by g is to change it once, by f and then g
pub changed_twice : (f g : Unit → Unit) (c : CampaignValue) (n : ℕ)
    → unit_changed g (unit_changed f c n) n ≡ unit_changed (λ u. g (f u)) c n
changed_twice f g c n = by_unit (get c.units n) refl
  where
    by_unit : (o : Option Unit) → get c.units n ≡ o
        → unit_changed g (record c { units = with_changed_option f c.units n o }) n
        ≡ record c { units = with_changed_option (λ u. g (f u)) c.units n o }
    by_unit None is = ap (λ o. record c { units = with_changed_option g c.units n o }) is
    by_unit (Some u) is =
        ap (λ o. record c { units = with_changed_option g (insert c.units n (f u)) n o }) (get-insert_same c.units n (f u)) ∙ ap (λ m. record c { units = m }) (insert_over c.units n (f u) (g (f u)))

pub identity_changes_nothing : (c : CampaignValue) (n : ℕ) → unit_changed (λ u. u) c n ≡ c
identity_changes_nothing c n = by_unit (get c.units n) refl
  where
    by_unit : (o : Option Unit) → get c.units n ≡ o → record c { units = with_changed_option (λ u. u) c.units n o } ≡ c
    by_unit None is = refl
    by_unit (Some u) is = ap (λ m. record c { units = m }) (put_same c.units n u u is refl)

-- to change by f what unit n holds, if the unit is there, is to give it f of its holding (`with_holding_at`)
pub changed_held : (f : HoldingValue → HoldingValue) (c d : CampaignValue) (n : ℕ)
    → d ≡ unit_changed (λ u. record u { holding = f u.holding }) c n → (u : Unit) → get c.units n ≡ Some u
    → d ≡ with_holding_at c n (f u.holding) (Some u)
changed_held f c d n what u is =
    what
    ∙ ap (λ o. record c { units = with_changed_option (λ (v : Unit). record v { holding = f v.holding }) c.units n o })
    is

-- a change of unit n by f leaves each other unit k as it is
pub change_keeps_others : (f : Unit → Unit) (c : CampaignValue) (n k : ℕ) → k ≢ n
    → get (unit_changed f c n).units k ≡ get c.units k
change_keeps_others f c n k apart = by_unit (get c.units n)
  where
    by_unit : (o : Option Unit) → get (with_changed_option f c.units n o) k ≡ get c.units k
    by_unit None = refl
    by_unit (Some u) = get-insert_other c.units n k (f u) apart

-- an unchanged campaign counts as one in which the holding of unit n was changed by f (`ChangesHolding`), if it has no
-- unit n
pub nobody_changes : (c : MarkedCampaign) (n : ℕ) (f : HoldingValue → HoldingValue) → get c.value.units n ≡ None
    → ChangesHolding c c n f
nobody_changes c n f none = record {
  value = sym (ap (λ o. record c.value { units = with_changed_option (λ (u : Unit). record u { holding = f u.holding }) c.value.units n o }) none);
  marks = marks-refl c;
  goods = refl;
}

-- a change of unit n's holding by f is one by g too (`ChangesHolding`), if f and g make the same of what it holds
pub changes_as : (c d : MarkedCampaign) (n : ℕ) (f g : HoldingValue → HoldingValue) (u : Unit)
    → get c.value.units n ≡ Some u → f u.holding ≡ g u.holding → ChangesHolding c d n f → ChangesHolding c d n g
changes_as c d n f g u is same old = record {
  value =
      changed_held f c.value d.value n old.value u is ∙ ap (λ h. with_holding_at c.value n h (Some u)) same
      ∙ sym (changed_held g c.value (unit_changed (λ v. record v { holding = g v.holding }) c.value n) n refl u is);
  marks = old.marks;
  goods = old.goods;
}

-- a change of unit n's holding by f and one by g after it are together one by f and then g (`ChangesHolding`)
pub then_changes : (a b d : MarkedCampaign) (n : ℕ) (f g : HoldingValue → HoldingValue) → ChangesHolding a b n f
    → ChangesHolding b d n g → ChangesHolding a d n (λ h. g (f h))
then_changes a b d n f g one two = record {
  value =
      two.value ∙ ap (λ c. unit_changed (λ u. record u { holding = g u.holding }) c n) one.value
      ∙ changed_twice (λ u. record u { holding = f u.holding }) (λ u. record u { holding = g u.holding }) a.value n;
  marks = marks-trans a b d one.marks two.marks;
  goods = two.goods ∙ one.goods;
}

abbrev items_and_days_of : HoldingValue → FinMap nat_cmp ℕ × FinMap nat_cmp ℕ
items_and_days_of h = (h.items, h.days)

-- a setter that changes neither items nor days, and marks the unit's row, marks all that it changes (`ChangesHolding`)
row_changes : (f : HoldingValue → HoldingValue) → ((h : HoldingValue) → items_and_days_of (f h) ≡ items_and_days_of h)
    → (c d : MarkedCampaign) (n : ℕ)
    → d.value ≡ unit_changed (λ u. record u { holding = f u.holding }) c.value n → d.marks ≡ mark_unit_row c n → ChangesHolding c d n f
row_changes f same c d n what marks =
    let with_other : Unit → Unit = λ u. record u { holding = f u.holding } in
    record {
      value = what;
      marks = marks_by c d (record { value = unit_changed with_other c.value n; marks = mark_unit_row c n }) what marks (marks-unit_row with_other (λ u. same u.holding) c n);
      goods = ap (λ (m : Marks). m.goods) marks;
    }

-- setting unit n's men to `men`, with its row marked, changes its men and nothing else (`ChangesHolding`)
pub men_changes : (c d : MarkedCampaign) (n men : ℕ) → d.value ≡ with_men c.value n men → d.marks ≡ mark_unit_row c n
    → ChangesHolding c d n (λ h. record h { men = men })
men_changes c d n men = row_changes (λ h. record h { men = men }) (λ h. refl) c d n

-- setting unit n's money to `money`, with its row marked, changes its money and nothing else (`ChangesHolding`)
pub money_changes : (c d : MarkedCampaign) (n money : ℕ) → d.value ≡ with_money c.value n money
    → d.marks ≡ mark_unit_row c n → ChangesHolding c d n (λ h. record h { money = money })
money_changes c d n money = row_changes (λ h. record h { money = money }) (λ h. refl) c d n

-- setting unit n's amount of one item to `amount`, with this item marked, changes that amount alone (`ChangesHolding`)
pub item_changes : (c d : MarkedCampaign) (n item amount : ℕ) → d.value ≡ with_item c.value n item amount
    → d.marks ≡ mark_item c n item amount
    → ChangesHolding c d n (λ h. record h { items = with_amount_of h.items item amount })
item_changes c d n item amount what marks = record {
  value = what;
  marks = marks_by c d (record { value = with_item c.value n item amount; marks = mark_item c n item amount }) what marks (marks-item c n item amount);
  goods = ap (λ (m : Marks). m.goods) marks;
}

-- setting unit n's days of one skill to `days`, with this skill marked, changes these days alone (`ChangesHolding`)
pub skill_changes : (c d : MarkedCampaign) (n skill days : ℕ) → d.value ≡ with_skill c.value n skill days
    → d.marks ≡ mark_skill c n skill → ChangesHolding c d n (λ h. record h { days = with_amount_of h.days skill days })
skill_changes c d n skill days what marks = record {
  value = what;
  marks = marks_by c d (record { value = with_skill c.value n skill days; marks = mark_skill c n skill }) what marks (marks-skill c n skill days);
  goods = ap (λ (m : Marks). m.goods) marks;
}
