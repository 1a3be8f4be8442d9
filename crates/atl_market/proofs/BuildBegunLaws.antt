-- Laws of BUILD: beginning a structure, and doing more of one, keeps what BUILD needs (`CanBuild`). `c` is the campaign
-- before the change, with what BUILD needs (`can`), and `d` the one after it. A change that BUILD may make
-- (`StepsWell`) also keeps the month and the balance of the books. It moves no amount of the books further than
-- `build_remaining` falls.
use Rattle.std.proofs.Common.{◌≡◌, ℕ, ◌≤◌, Bool, true, false, codes, decimal, ◌++◌, Some, refl, sym, ap, ◌∙◌, lit≤}
use Rattle.std.specs.Prelude.{pos, IsTrue, if◌then◌else◌}
use Rattle.std.specs.FinMap.{get}
use Rattle.atl_world.specs.Names.{name_ok}
use Rattle.atl_world.specs.Worlds.{WorldValue}
use Rattle.atl_world.specs.declared.world.Kind.{Kind}
use Rattle.atl_world.specs.ByNumber.{size_of}
use Rattle.atl_records.specs.declared.books.BooksEntry.{BooksEntry}
use Rattle.atl_records.specs.declared.books.Thing.{Thing}
use Rattle.atl_records.specs.declared.records.Structure.{Structure}
use Rattle.atl_records.specs.Books.{amount_in, booked}
use Rattle.atl_records.specs.Limits.{last_unit, most_structures}
use Rattle.atl_campaign.specs.Campaign.{CampaignValue}
use Rattle.atl_campaign.specs.Totals.{total}
use Rattle.atl_campaign.proofs.BegunLaws.{IsFresh, built, raised, steady_built, steady_raised, total_built, total_raised}
use Rattle.atl_campaign.proofs.NumberedNameLaws.{numbered_name_ok}
use Rattle.atl_phase.specs.Meaning.{IsSameMonth}
use Rattle.atl_phase.specs.Bounds.{StepsWell}
use Rattle.atl_market.specs.Build.{name_prefix}
use Rattle.atl_market.specs.Bounds.{CanBuild, build_remaining}
use Rattle.atl_phase.proofs.MeaningLaws.{same_month_by}
use Rattle.atl_phase.proofs.OrderEffectLaws.{bound_unused_by}

-- A change that leaves what BUILD needs (`CanBuild`), and keeps the month, books, totals and what BUILD may still book,
-- is one that BUILD may make (`StepsWell`).
pub unbooked_change_steps_well : (w : WorldValue) (c d : CampaignValue) → CanBuild w d → IsSameMonth c d
    → d.books ≡ c.books → ((t : Thing) → total d t ≡ total c t)
    → ((e : BooksEntry) (t : Thing) → build_remaining d e t ≡ build_remaining c e t)
    → StepsWell CanBuild build_remaining w c d
unbooked_change_steps_well w c d can same books totals reserves = record {
  holds_still = can;
  same_month = same;
  balances = λ old t. ap pos (totals t) ∙ old t ∙ ap (λ b. booked b t) (sym books);
  uses_bound = λ e t. bound_unused_by (build_remaining c e t) (build_remaining d e t) (amount_in c.books e t) (amount_in d.books e t) (reserves e t) (ap (λ b. amount_in b e t) books);
}

-- the name that a structure is begun with, such as `Ship 7`, keeps the rule of names for numbers up to 999,999,999
pub first_name_ok : (k : Kind) (number : ℕ) → number ≤ last_unit → IsTrue (name_ok (name_prefix k ++ decimal number))
first_name_ok k number l = by_sort k.ship
  where
    by_sort : (ship : Bool) → name_ok ((if ship then codes "Ship " else codes "Building ") ++ decimal number) ≡ true
    by_sort true =
        numbered_name_ok (codes "Ship ") (record { bytes = refl; begins = refl; some = lit≤ tt; few = lit≤ tt }) number
        l
    by_sort false =
        numbered_name_ok (codes "Building ") (record { bytes = refl; begins = refl; some = lit≤ tt; few = lit≤ tt })
        number l

-- beginning structure `s`, which can be begun (`IsFresh`), is a change that BUILD may make (`StepsWell`), if the number
-- that it gets is at most 10,000 (`room`)
pub raised_well : (w : WorldValue) (c : CampaignValue) (s : Structure) (fresh : IsFresh w c s) (room : c.next_structure ≤ most_structures) (can : CanBuild w c)
    → StepsWell CanBuild build_remaining w c (raised w c s fresh room can.steady)
raised_well w c s fresh room can =
    unbooked_change_steps_well w c (raised w c s fresh room can.steady) (record { steady = steady_raised w c s fresh room can.steady; kinds = can.kinds })
    (same_month_by refl) refl (total_raised w c s fresh room can.steady) (λ e t. refl)

-- Doing more of structure `s`, which has the number `k`, up to its kind's size, is a change that BUILD may make
-- (`StepsWell`). `done` is how much of the structure is done then.
pub built_well : (w : WorldValue) (c : CampaignValue) (k : ℕ) (s : Structure) (done : ℕ) (is : get c.structures k ≡ Some s) (more : s.done ≤ done) (most : done ≤ size_of w s.kind) (can : CanBuild w c)
    → StepsWell CanBuild build_remaining w c (built w c k s done is)
built_well w c k s done is more most can =
    unbooked_change_steps_well w c (built w c k s done is) (record { steady = steady_built w c k s done is more most can.steady; kinds = can.kinds })
    (same_month_by refl) refl (total_built w c k s done is more most can.steady) (λ e t. refl)
