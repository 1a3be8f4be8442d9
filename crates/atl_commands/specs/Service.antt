-- A service as contracts see it: its connection, its world and, while it is open, its campaign; and its invariant. `g`
-- is the kind of store, in memory or in files, and `state g conn` the state of the database under a connection. A disk
-- is clean if each read has returned what was written (docs/PROVED.md, "Premises").
use Rattle.std.specs.Prelude.{◌≡◌, ℕ, List, Bool, true, false, Option, Ok, refl}
use Rattle.std.specs.Coded.{Coded, code_by, coded×, coded_option}
use Rattle.sqlite_trees.specs.declared.store.Store.{Ghosts}
use Rattle.sqlite.specs.Held.{Held, held_code, state}
use Rattle.sqlite.specs.State.{HasCleanDisk}
use Rattle.atl_world.specs.Worlds.{WorldValue, world_code}
use Rattle.atl_tables.specs.World.{world_of}
use Rattle.atl_campaign.specs.Campaign.{CampaignValue, MarkedCampaign, campaign_code}
use Rattle.atl_campaign.specs.Marks.{no_marks}
use Rattle.atl_campaign.specs.Good.{IsGood}
use Rattle.atl_keeping.specs.Keeps.{HoldsCampaign}
use Rattle.atl_keeping.specs.WorldText.{world_text}

-- the value of a service: the connection to the database, the world, and the campaign while the service is open, else
-- None
pub record ServiceValue (S : Type 0) : Type 0 where
  pub conn : Held S
  pub world : WorldValue
  pub campaign : Option CampaignValue

-- for proofs alone: the code of a service's value, which the kit requires of each type; `store` is that of its store
abbrev pub service_code : {S : Type 0} → Coded S → Coded (ServiceValue S)
service_code {S} store =
    code_by (Held S × (WorldValue × Option CampaignValue))
    (coded× (held_code store) (coded× world_code (coded_option campaign_code)))
    (λ e. (e.conn, (e.world, e.campaign)))
    (λ p. record { conn = p.0; world = p.1.0; campaign = p.1.1 })
    (λ _. refl)

-- the world text that the tables of the connection hold; empty if they hold none
abbrev pub text_in : {S : Type 0} → Ghosts S → Held S → List ℕ
text_in g conn = world_text (state g conn)

-- The service is consistent: its connection is in no transaction and, while the service is open, its campaign is good.
-- While it is open and the disk is clean, its tables hold the campaign and a text of its world.
pub record IsConsistent {S : Type 0} (g : Ghosts S) (conn : Held S)
    (w : WorldValue) (c : CampaignValue) (is_open : Bool) : Type 0 where
  pub idle : conn.in_transaction ≡ false
  pub good : is_open ≡ true → IsGood w c
  pub tables : is_open ≡ true → HoldsCampaign g conn (text_in g conn) c
  -- while the service is open and the disk is clean, the world text that its tables hold reads as its world
  pub text : is_open ≡ true → HasCleanDisk (state g conn) → world_of (text_in g conn) ≡ Ok w

-- The invariant of every service: it is consistent, and while it is open nothing of its campaign is marked: all
-- changes have been written.
pub record IsService {S : Type 0} (g : Ghosts S) (conn : Held S)
    (w : WorldValue) (c : MarkedCampaign) (is_open : Bool) : Type 0 where
  pub consistent : IsConsistent g conn w c.value is_open
  pub unmarked : is_open ≡ true → c.marks ≡ no_marks
