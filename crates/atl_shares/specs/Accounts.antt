-- For proofs alone: the accounts in which the code adds up the upkeep of a faction's units in a region. An account has
-- the money that these units have left and are short of after their own upkeep, and how much they gave (`given`) and
-- got (`covered`) so far.
use Rattle.std.specs.Prelude.{List, min, unwrap_or, ℕ, ◌+◌, ◌-◌, ◌≤◌, ◌==◌, if◌then◌else◌}
use Rattle.std.specs.Ordering.{nat_cmp}
use Rattle.std.specs.FinMap.{FinMap, get, insert}
use Rattle.std.specs.List.{sum_by}
use Rattle.atl_shares.specs.declared.accounts.Account.{Account}
use Rattle.atl_shares.specs.declared.upkeep_sharing.UpkeepInput.{UpkeepInput}
use Rattle.atl_shares.specs.declared.upkeep_sharing.UpkeepResult.{UpkeepResult}
use Rattle.atl_shares.specs.UpkeepSharing.{given_among, left_of, paid_by, peers_of, short_of, starved_of}
use Rattle.atl_world.specs.Groups.{group_of}

-- accounts by region, and then by faction
abbrev pub FactionAccounts : Type 0
FactionAccounts = FinMap nat_cmp (FinMap nat_cmp Account)

-- the account of no units: nothing is left, short, given or covered
abbrev pub no_account : Account
no_account = record { left = 0; short = 0; given = 0; covered = 0 }

-- the account of a faction in a region; `no_account` where the map has none
abbrev pub account_at : FactionAccounts → (region faction : ℕ) → Account
account_at m region faction = unwrap_or (get (group_of m region) faction) no_account

-- a map of accounts in which that of a faction in a region is `a`
abbrev pub with_account : FactionAccounts → (region faction : ℕ) → Account → FactionAccounts
with_account m region faction a = insert m region (insert (group_of m region) faction a)

-- a map of accounts in which that of a faction in a region is `a`, if by `a` its units are short; else as it was
abbrev pub with_if_short : FactionAccounts → (region faction : ℕ) → Account → FactionAccounts
with_if_short m region faction a = if a.short == 0 then m else with_account m region faction a

-- what the listed units of a faction in a region have left after their own upkeep, at this maintenance for each man
abbrev pub left_among : ℕ → (region faction : ℕ) → List UpkeepInput → ℕ
left_among maintenance region faction inputs = sum_by (left_of maintenance) (peers_of region faction inputs)

-- what the listed units of a faction in a region are short of for their own upkeep, at this maintenance for each man
abbrev pub short_among : ℕ → (region faction : ℕ) → List UpkeepInput → ℕ
short_among maintenance region faction inputs = sum_by (short_of maintenance) (peers_of region faction inputs)

-- the money that units of an account with some left give to those that are short: the lesser of all left and all short
abbrev pub to_give : Account → ℕ
to_give a = min a.left a.short

-- What upkeep takes from a unit in its turn, at this maintenance for each man, by the account of its faction in its
-- region. It pays for its own men, gives what it has left, and gets what it is short of, the last two until the amount
-- to give (`to_give`) is used up. The men starve for whom money is missing still.
abbrev pub upkeep_result_by : ℕ → Account → UpkeepInput → UpkeepResult
upkeep_result_by maintenance a input = record {
  unit = input.unit;
  faction = input.faction;
  paid = paid_by maintenance input + min (to_give a - a.given) (left_of maintenance input);
  starved = starved_of maintenance (short_of maintenance input - min (to_give a - a.covered) (short_of maintenance input));
}

-- An account after the turn of one more unit, at this maintenance for each man. Added is what the unit gave to others,
-- and what it got from them, each until the amount to give (`to_give`) is used up.
abbrev pub account_after : ℕ → Account → UpkeepInput → Account
account_after maintenance a input = record a {
  given = a.given + min (to_give a - a.given) (left_of maintenance input);
  covered = a.covered + min (to_give a - a.covered) (short_of maintenance input);
}

-- the amounts given and covered so far by an account are both at most its amount to give (`to_give`), so that the code
-- can subtract them from it
pub record IsOpen (a : Account) : Type 0 where
  pub given : a.given ≤ to_give a
  pub covered : a.covered ≤ to_give a

-- the money left that an account counts: `left`, what its units have left, or 0 if none of them is short (`short` is 0)
abbrev pub counted_left : (short left : ℕ) → ℕ
counted_left short left = if short == 0 then 0 else left

-- The account of a faction in a region at this maintenance for each man, with nothing given or covered yet. What the
-- units `all` are short of is counted, and what those `counted` have left, if any is short (`counted_left`). The code
-- counts first all that is short, with `counted` empty, and then unit by unit what is left.
abbrev pub opened : ℕ → (all counted : List UpkeepInput) → (region faction : ℕ) → Account
opened maintenance all counted region faction =
    let short = short_among maintenance region faction all in
    record { left = counted_left short (left_among maintenance region faction counted); short = short; given = 0; covered = 0 }

-- The account of a faction in a region, at this maintenance for each man; `all` are the units of upkeep. `left` and
-- `short` are what the faction's units there have left (0 if none is short) and are short of. The units `before` had
-- their turn: what these had left was given, and what they were short of was covered, up to `given_among`.
abbrev pub account_of : ℕ → (all before : List UpkeepInput) → (region faction : ℕ) → Account
account_of maintenance all before region faction =
    let given = given_among maintenance (peers_of region faction all) in
    record {
      left = counted_left (short_among maintenance region faction all) (left_among maintenance region faction all);
      short = short_among maintenance region faction all;
      given = min (left_among maintenance region faction before) given;
      covered = min (short_among maintenance region faction before) given;
    }
