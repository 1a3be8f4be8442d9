-- Bounds on the amounts of the books: the room that each phase requires (`HaveRoom`). The rest is for proofs alone:
-- the conditions on the step that carries out one order, and on steps that are carried out in turn (`CanInTurn`).
use Rattle.std.specs.Prelude.{⊤, ℕ, ℤ, pos, ◌≡◌, ◌≤◌, ◌+◌, ◌*◌, ◌+ℤ◌, ◌≤ℤ◌, List, [], ◌∷◌, Some, IfSome}
use Rattle.std.specs.FinMap.{get}
use Rattle.atl_world.specs.Worlds.{WorldValue}
use Rattle.atl_orders.specs.Bounds.{IsOrderOf}
use Rattle.atl_records.specs.declared.books.BooksEntry.{BooksEntry}
use Rattle.atl_records.specs.declared.books.BooksEntry.TheVariants.{Lost}
use Rattle.atl_records.specs.declared.books.Thing.{Thing}
use Rattle.atl_records.specs.declared.books.Thing.TheVariants.{Item}
use Rattle.atl_records.specs.declared.records.Unit.{Unit}
use Rattle.atl_records.specs.Books.{amount_in}
use Rattle.atl_campaign.specs.Campaign.{CampaignValue}
use Rattle.atl_campaign.specs.Totals.{Balances}
use Rattle.atl_phase.specs.Meaning.{BookBound, Condition, IsSameMonth, most_moved, moves_only}
use Rattle.atl_phase.specs.Month.{Aliases}
use Rattle.atl_phase.specs.OrderEffects.{Affects, IsStillThere, OrderMeaning, Unaffected}
use Rattle.atl_phase.specs.PhaseOrders.{Task}
use Rattle.atl_phase.specs.Unbooked.{moves_nothing}

-- ---- by how much the amounts of the books may move

-- the bound on the books of a number of steps together, if each step moves the amounts by at most the given bound
abbrev pub moved_times : ℕ → BookBound → BookBound
moved_times steps book_bound e t = steps * book_bound e t

-- the greatest size of an amount of the books, above or below 0: 9*10^18 + 99999999999999, which still fits an i64
abbrev pub amount_limit : ℕ
amount_limit = 9000000000000000000 + most_moved

-- an amount that can move by `most`, up or down, without passing `amount_limit` in size
pub record HasRoom (most : ℕ) (amount : ℤ) : Type 0 where
  pub above : (amount +ℤ pos most) ≤ℤ pos amount_limit
  pub below : pos most ≤ℤ (amount +ℤ pos amount_limit)

-- each amount of the books can move as far as its bound says without passing `amount_limit` in size
abbrev pub HaveRoom : BookBound → CampaignValue → Type 0
HaveRoom book_bound c = (e : BooksEntry) (t : Thing) → HasRoom (book_bound e t) (amount_in c.books e t)

-- by how much the steps still to come may move each amount of the books, as a function of the campaign so far
abbrev pub RemainingBound : Type 0
RemainingBound = CampaignValue → BookBound

-- A step moves an amount of the books from `before` to `after`, up or down. `remaining` says how far this step and all
-- later ones may move it, and `left` how far the later ones may. The step moves it by at most `remaining` less `left`,
-- so `left` isn't above `remaining`.
pub record UsesBound (remaining left : ℕ) (before after : ℤ) : Type 0 where
  pub above : (after +ℤ pos left) ≤ℤ (before +ℤ pos remaining)
  pub below : (before +ℤ pos left) ≤ℤ (after +ℤ pos remaining)

-- ---- the step of one order

-- After a step `holds` is true of the campaign. Month, reports and set of factions are the same (`IsSameMonth`), and
-- the books balance if they did before. No amount of the books moves further than its bound in `remaining` falls.
pub record StepsWell (holds : Condition) (remaining : RemainingBound) (w : WorldValue) (before after : CampaignValue) : Type 0 where
  pub holds_still : holds w after
  pub same_month : IsSameMonth before after
  pub balances : Balances before → Balances after
  pub uses_bound : (e : BooksEntry) (t : Thing) →
      UsesBound (remaining before e t) (remaining after e t) (amount_in before.books e t) (amount_in after.books e t)

-- the relation `unaffected`, of a unit before to the unit after, is reflexive and transitive, and relates only units of
-- the same faction
pub record IsUnaffectedRelation (unaffected : Unaffected) : Type 0 where
  pub same : (u : Unit) → unaffected u u
  pub transitive : (u v x : Unit) → unaffected u v → unaffected v x → unaffected u x
  pub faction : (u v : Unit) → unaffected u v → v.faction ≡ u.faction

-- unit u is there under the number that an order is for, and is of the faction that wrote the order
pub record IsUnitOf (c : CampaignValue) (t : Task) (u : Unit) : Type 0 where
  pub there : get c.units t.unit ≡ Some u
  pub faction : u.faction ≡ t.faction

-- The conditions on a phase that carries its orders out one by one, as `step` says of each; of an order that it passes
-- over (None) nothing is asked. They are on orders for units of their writer's faction, each in a campaign of which
-- `holds` is true. An order that can be read with the world does as `StepsWell` says: it keeps `holds`, month and
-- balance, and moves no amount further than its remaining bound falls. Each unit that an order doesn't affect is there
-- after it, and has changed at most as `unaffected` allows. No remaining bound is above `book_bound`.
pub record IsOrderly (step : OrderMeaning) (holds : Condition) (remaining : RemainingBound) (book_bound : BookBound)
    (affects : Affects) (unaffected : Unaffected) : Type 0 where
  -- each order that can be read with the world, for a unit of its writer's faction, does as `StepsWell` says, if
  -- `holds` is true before
  pub well : (w : WorldValue) (a : Aliases) (c : CampaignValue) (t : Task) (x : Unit) →
      holds w c → IsOrderOf w t.order_value → IsUnitOf c t x →
      IfSome (step w a t) (λ effect. StepsWell holds remaining w c (effect c x).0)
  -- `unaffected` can be used over several orders: it is reflexive, transitive, and keeps the faction
  pub unaffected_is_relation : IsUnaffectedRelation unaffected
  -- if `holds` is true before an order for a unit of its writer's faction, each unit that it doesn't affect is there
  -- after it, and `unaffected` relates what the unit was to what it is
  pub is_unaffected : (w : WorldValue) (a : Aliases) (c : CampaignValue) (t : Task) (x : Unit) → holds w c → IsUnitOf c t x →
      (n : ℕ) (u : Unit) → get c.units n ≡ Some u → (affects t n u.faction → ⊥) →
      IfSome (step w a t) (λ effect. IsStillThere unaffected (effect c x).0 n u)
  -- where `holds` is true, no amount of the books has a remaining bound above the bound of the phase
  pub bounded : (w : WorldValue) (c : CampaignValue) → holds w c → (e : BooksEntry) (t : Thing) → remaining c e t ≤ book_bound e t

-- ---- what is left of the bounds of single phases

-- the remaining bound of a phase that books nothing: 0 for each amount
abbrev pub nothing_remaining : RemainingBound
nothing_remaining c = moves_nothing

-- The bound on the books for listed items, each a number with an amount. Under Lost an item may move by at most the sum
-- of its listed amounts, and no other amount of the books moves.
abbrev pub items_bound : List (ℕ × ℕ) → BookBound
items_bound [] e t = 0
items_bound (x ∷ xs) e t = moves_only x.1 Lost (Item x.0) e t + items_bound xs e t

-- ---- steps in turn

-- The condition that `step` can be carried out for each element of a list in turn, the first element first. `can` holds
-- of each in the campaign that the steps ahead of it leave. Payments of shares are such steps.
abbrev pub CanInTurn : {X : Type 0} → (CampaignValue → X → Type 0) → (CampaignValue → X → CampaignValue)
    → CampaignValue → List X → Type 0
CanInTurn can step c [] = ⊤
CanInTurn can step c (x ∷ xs) = can c x × CanInTurn can step (step c x) xs
