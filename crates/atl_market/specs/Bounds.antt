-- What BUILD needs of a campaign and its world (`CanBuild`), and for proofs alone how far BUILD may still move the
-- books (`build_remaining`).
use Rattle.std.specs.Prelude.{ℕ, ◌≡◌, ◌==◌, length, Some, if◌then◌else◌}
use Rattle.std.specs.List.{slice_get}
use Rattle.atl_world.specs.Worlds.{IsKind, WorldValue}
use Rattle.atl_world.specs.Sums.{sum_over}
use Rattle.atl_world.specs.declared.world.Kind.{Kind}
use Rattle.atl_records.specs.Books.{entry_index}
use Rattle.atl_records.specs.declared.books.BooksEntry.{BooksEntry}
use Rattle.atl_records.specs.declared.books.BooksEntry.TheVariants.{Used}
use Rattle.atl_records.specs.declared.books.Thing.{Thing}
use Rattle.atl_records.specs.declared.books.Thing.TheVariants.{Item}
use Rattle.atl_records.specs.Holdings.{HoldingValue, amount_of}
use Rattle.atl_campaign.specs.Good.{IsSteady}
use Rattle.atl_campaign.specs.Campaign.{CampaignValue}
use Rattle.atl_phase.specs.Bounds.{RemainingBound}

-- what BUILD needs: the campaign is steady, and each kind of the world keeps the rules of kinds (`IsKind`)
pub record CanBuild (w : WorldValue) (c : CampaignValue) : Type 0 where
  pub steady : IsSteady w c
  -- each kind of the world keeps the rules of kinds, so its material and its skill are of the world
  pub kinds : (i : ℕ) (k : Kind) → slice_get w.kinds i ≡ Some k → IsKind (length w.items) (length w.skills) k

-- how much of a thing BUILD may still book under an entry for what a unit holds: under Used all of an item, else 0
abbrev pub still_bookable : BooksEntry → Thing → HoldingValue → ℕ
still_bookable e (Item i) h = if entry_index e == entry_index Used then amount_of h.items i else 0
still_bookable e t h = 0

-- The bound on what BUILD may still book: Used of an item by all that the units hold of it, nothing else. It falls with
-- each order by at least what the order books, as material that is used is no longer held.
abbrev pub build_remaining : RemainingBound
build_remaining c e t = sum_over (λ u. still_bookable e t u.holding) c.units
