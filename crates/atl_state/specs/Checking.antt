-- The twelve rules of the tables, and what `check` may answer. See docs/FORMATS.md, "Rules of the tables". f is the
-- format of the tables, w the world, and p are the rows.
use Rattle.std.specs.Prelude.{◌≡◌, ◌≤◌, ℕ, ◌<◌, pos, IsTrue, Result, Ok, Err, ⊤}
use Rattle.std.specs.List.{list_all}
use Rattle.atl_world.specs.Worlds.{WorldValue}
use Rattle.atl_world.specs.declared.format.Format.{Format}
use Rattle.atl_world.specs.declared.format.Format.TheVariants.{First, Second}
use Rattle.atl_records.specs.declared.books.BooksEntry.{BooksEntry}
use Rattle.atl_records.specs.declared.books.Thing.{Thing}
use Rattle.atl_state.specs.declared.checking.CheckFault.{CheckFault}
use Rattle.atl_state.specs.declared.checking.CheckFault.TheVariants.{Damaged, Memory}
use Rattle.atl_state.specs.declared.checking.Rule.{Rule}
use Rattle.atl_state.specs.declared.checking.Rule.TheVariants.{OneRow, Ranges, Names, Known, Next, Days, Gone, Owners, Water, Guards, Books, Mail}
use Rattle.atl_rows.specs.declared.parts.Parts.{Parts}
use Rattle.atl_records.specs.Books.{amount_in, entry_index}
use Rattle.atl_campaign.specs.FromRows.{campaign_of}
use Rattle.atl_campaign.specs.Good.{AreKnown, AreNumbered, AreDays, GoneHaveNone, UnitlessAreGone, AreOwned, AreAfloat, AreOfOneFaction, guards, HasValidMail, AreReported, HasNoStocks, IsGood}
use Rattle.atl_records.specs.Limits.{first_entry_count}
use Rattle.atl_campaign.specs.Marks.{no_marks}
use Rattle.atl_campaign.specs.RowRules.{is_one_campaign_row, are_of_format, AreRowsInRange, AreRowsNamed, is_of_unit, is_of_market, is_booked}
use Rattle.atl_campaign.specs.Rows.{AreRowsOf}
use Rattle.atl_campaign.specs.Campaign.{CampaignValue, MarkedCampaign}
use Rattle.atl_campaign.specs.Totals.{Balances}

-- the number of a rule, from 1 to 12
abbrev pub rule_number : Rule → ℕ
rule_number OneRow = 1
rule_number Ranges = 2
rule_number Names = 3
rule_number Known = 4
rule_number Next = 5
rule_number Days = 6
rule_number Gone = 7
rule_number Owners = 8
rule_number Water = 9
rule_number Guards = 10
rule_number Books = 11
rule_number Mail = 12

-- The rows p of format f keep rule r. OneRow, Ranges and Names are about the rows, Known and Books about the rows and
-- the campaign read from them (`campaign_of`), and all others about this campaign alone.
abbrev pub KeepsRule : Format → WorldValue → Parts → Rule → Type 0
KeepsRule f w p OneRow = IsTrue (is_one_campaign_row f p.campaign) × IsTrue (are_of_format f p.markets)
KeepsRule f w p Ranges = AreRowsInRange w p
KeepsRule f w p Names = AreRowsNamed p
KeepsRule f w p Known =
    AreKnown w (campaign_of w p)
    × IsTrue (list_all (is_of_unit (campaign_of w p)) p.has)
    × IsTrue (list_all (is_of_market w) p.markets)
KeepsRule f w p Next = AreNumbered (campaign_of w p)
KeepsRule f w p Days = AreDays (campaign_of w p)
KeepsRule f w p Gone = GoneHaveNone (campaign_of w p) × UnitlessAreGone (campaign_of w p)
KeepsRule f w p Owners = AreOwned (campaign_of w p)
KeepsRule f w p Water = AreAfloat w (campaign_of w p)
KeepsRule f w p Guards = AreOfOneFaction guards (campaign_of w p)
KeepsRule f w p Books = IsTrue (list_all (is_booked f w) p.books) × Balances (campaign_of w p)
KeepsRule f w p Mail = HasValidMail (campaign_of w p) × AreReported (campaign_of w p)

-- the rows keep each rule whose number is below n
abbrev pub KeepsRulesBelow : Format → WorldValue → Parts → ℕ → Type 0
KeepsRulesBelow f w p n = (r : Rule) → rule_number r < n → KeepsRule f w p r

-- the rows break rule r, and keep all rules before it
pub record IsFirstBroken (f : Format) (w : WorldValue) (p : Parts) (r : Rule) : Type 0 where
  pub before : KeepsRulesBelow f w p (rule_number r)
  pub broken : ¬ KeepsRule f w p r

-- a campaign uses no markets: nothing is in stock, and the amounts under the entries of markets, those that the first
-- format lacks, are 0
pub record IsWithoutMarkets (c : CampaignValue) : Type 0 where
  pub stocks : HasNoStocks c
  pub entries : (e : BooksEntry) (t : Thing) → first_entry_count ≤ entry_index e → amount_in c.books e t ≡ pos 0

-- the format's tables can hold the campaign: those of the first if it uses no markets, those of the second always
abbrev pub Fits : Format → CampaignValue → Type 0
Fits First c = IsWithoutMarkets c
Fits Second c = ⊤

-- c is a good campaign that has exactly the rows p, in any order, fits the format, and has nothing marked
pub record IsChecked (f : Format) (w : WorldValue) (p : Parts) (c : MarkedCampaign) : Type 0 where
  pub rows : AreRowsOf f c.value p
  pub fits : Fits f c.value
  pub good : IsGood w c.value
  pub marks : c.marks ≡ no_marks

-- What `check_as` may answer: a good campaign with exactly these rows, which fits the format and has nothing marked;
-- Damaged with the first rule that they break; or Memory.
abbrev pub Checks : Format → WorldValue → Parts → Result MarkedCampaign CheckFault → Type 0
Checks f w p (Ok c) = IsChecked f w p c
Checks f w p (Err (Damaged r)) = IsFirstBroken f w p r
Checks f w p (Err Memory) = ⊤

-- if the rows are those of a good campaign d that the format can hold, the answer is d or Memory
abbrev pub GivesBack : Format → WorldValue → Parts → Result MarkedCampaign CheckFault → Type 0
GivesBack f w p (Ok c) = (d : CampaignValue) → IsGood w d → Fits f d → AreRowsOf f d p → c.value ≡ d
GivesBack f w p (Err (Damaged r)) = (d : CampaignValue) → IsGood w d → Fits f d → ¬ (AreRowsOf f d p)
GivesBack f w p (Err Memory) = ⊤

-- What a check of the rules with numbers below n may answer. It is Ok only if the rows keep them all, Damaged only with
-- the first rule that they break, or Memory. For the steps of `check_as` alone.
abbrev pub ChecksBelow : Format → WorldValue → Parts → ℕ → Result (Prim.Unit {0}) CheckFault → Type 0
ChecksBelow f w p n (Ok u) = KeepsRulesBelow f w p n
ChecksBelow f w p n (Err (Damaged r)) = IsFirstBroken f w p r
ChecksBelow f w p n (Err Memory) = ⊤
