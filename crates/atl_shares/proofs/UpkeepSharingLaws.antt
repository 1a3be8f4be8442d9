-- Laws of the accounts of upkeep: what the code computes with them for each unit in turn is what the definition says.
-- An account has the money that a faction's units in a region have left and are short of, and how much of it was given
-- and covered so far. In the laws m is the maintenance of each man (or, by its type, a map of accounts), and s and g
-- are the numbers of a region and a faction.
use Rattle.std.proofs.Common.{◌≡◌, ◌==◌, ◌++◌, ℕ, zero, suc, ◌+◌, ◌-◌, ◌*◌, ◌≤◌, ◌<◌, min, Bool, true, false, cond, List, [], ◌∷◌, length, get_or, take, filter, sum_by, unwrap_or, refl, sym, ap, ◌∙◌, mul_comm, add-zero, arith, Some}
use Rattle.std.specs.Prelude.{All, nat_lt}
use Rattle.std.specs.Ordering.{nat_cmp}
use Rattle.std.specs.FinMap.{empty, get, get-empty}
use Rattle.std.proofs.Math.Nat.{div-lt_iff_lt-mul, div-zero}
use Rattle.std.proofs.lemmas.Bool.Decides.{nat_tests}
use Rattle.std.proofs.lemmas.List.Elements.{filter-append}
use Rattle.std.proofs.lemmas.List.Sums.{sum_by-append}
use Rattle.std.proofs.lemmas.Bool.{lt-ltb}
use Rattle.atl_world.specs.Limits.{most_per_head}
use Rattle.atl_world.specs.Groups.{group_of}
use Rattle.atl_world.proofs.GeneralLaws.{is_equal}
use Rattle.atl_records.specs.Limits.{holding_limit, men_limit}
use Rattle.atl_world.proofs.EveryLaws.{same_number}
use Rattle.atl_shares.specs.declared.accounts.Account.{Account}
use Rattle.atl_shares.specs.declared.upkeep_sharing.UpkeepInput.{UpkeepInput}
use Rattle.atl_shares.specs.declared.upkeep_sharing.UpkeepResult.{UpkeepResult}
use Rattle.atl_shares.specs.Accounts.{FactionAccounts, IsOpen, account_after, account_at, account_of, counted_left, left_among, no_account, opened, short_among, to_give, upkeep_result_by, with_account, with_if_short}
use Rattle.atl_shares.specs.InTurn.{amount_in_turn}
use Rattle.atl_shares.specs.UpkeepSharing.{AreInOrder, EachCanSpare, given_among, is_input_of, left_of, paid_by, peers_of, short_of, starved_of, upkeep_result_among}
use Rattle.atl_shares.proofs.GroupedLaws.{get-grouped}

-- ---- a unit more

is_own_input : (p : UpkeepInput) → is_input_of p.region p.faction p ≡ true
is_own_input p = rw (same_number p.region, same_number p.faction) refl

-- `amount` gives of each unit the amount that is summed; unit `p` is added to the units `xs`
module _ (amount : UpkeepInput → ℕ) (xs : List UpkeepInput) (p : UpkeepInput) where
  more_among : (s g : ℕ)
      → sum_by amount (peers_of s g (xs ++ p ∷ []))
      ≡ sum_by amount (peers_of s g xs) + cond (is_input_of s g p) (amount p) 0
  more_among s g =
      ap (sum_by amount) (filter-append (is_input_of s g) xs (p ∷ []))
      ∙ sum_by-append amount (peers_of s g xs) (peers_of s g (p ∷ []))
      ∙ ap (λ n. sum_by amount (peers_of s g xs) + n) (sum_of_one (is_input_of s g p))
    where
      sum_of_one : (b : Bool) → sum_by amount (cond b (p ∷ []) []) ≡ cond b (amount p) 0
      sum_of_one true = omega arith
      sum_of_one false = refl

  more_own : sum_by amount (peers_of p.region p.faction (xs ++ p ∷ []))
      ≡ sum_by amount (peers_of p.region p.faction xs) + amount p
  more_own =
      more_among p.region p.faction
      ∙ ap (λ b. sum_by amount (peers_of p.region p.faction xs) + cond b (amount p) 0) (is_own_input p)

  more_other : (s g : ℕ) → is_input_of s g p ≡ false
      → sum_by amount (peers_of s g (xs ++ p ∷ [])) ≡ sum_by amount (peers_of s g xs)
  more_other s g is =
      more_among s g ∙ ap (λ b. sum_by amount (peers_of s g xs) + cond b (amount p) 0) is
      ∙ add-zero (sum_by amount (peers_of s g xs))

-- ---- an account is set in the map

abbrev account : (left short given covered : ℕ) → Account
account left short given covered = record { left = left; short = short; given = given; covered = covered }

account_is : (a b c d e f g h : ℕ) → a ≡ e → b ≡ f → c ≡ g → d ≡ h → account a b c d ≡ account e f g h
account_is a b c d e f g h x y z u = rw (x, y, z, u) refl

each_account : (P : ℕ → ℕ → Account → Type 0) (m : FactionAccounts) (p : UpkeepInput) (a : Account)
    → P p.region p.faction a → ((s g : ℕ) → is_input_of s g p ≡ false → P s g (account_at m s g))
    → (s g : ℕ) → P s g (account_at (with_account m p.region p.faction a) s g)
each_account P m p a here others s g = by_test (is_input_of s g p) refl
  where
    account_found : (test : Bool) → is_input_of s g p ≡ test
        → account_at (with_account m p.region p.faction a) s g ≡ unwrap_or (cond test (Some a) (get (group_of m s) g)) no_account
    account_found test is =
        ap (λ o. unwrap_or o no_account)
        (get-grouped m p.region p.faction a s g ∙ ap (λ b. cond b (Some a) (get (group_of m s) g)) is)

    by_test : (test : Bool) → is_input_of s g p ≡ test → P s g (account_at (with_account m p.region p.faction a) s g)
    by_test true is =
        let region : p.region ≡ s = grind (arith, nat_tests) in
        let faction : p.faction ≡ g = grind (arith, nat_tests) in
        rw (account_found true is, ← region, ← faction) here
    by_test false is = rw (account_found false is) (others s g is)

-- P holds of each account by region and faction, once `a` is set under those of unit `p`, if it holds of `a` and of all
-- other accounts. If the units of `a` aren't short, the map stays, and P has to hold of the account found there.
each_if_short : (P : ℕ → ℕ → Account → Type 0) (m : FactionAccounts) (p : UpkeepInput) (a : Account)
    → ((a.short == 0) ≡ true → P p.region p.faction (account_at m p.region p.faction))
    → ((a.short == 0) ≡ false → P p.region p.faction a)
    → ((s g : ℕ) → is_input_of s g p ≡ false → P s g (account_at m s g))
    → (s g : ℕ) → P s g (account_at (with_if_short m p.region p.faction a) s g)
each_if_short P m p a none some others s g = by_short (a.short == 0) refl
  where
    by_test : (test : Bool) → is_input_of s g p ≡ test → P p.region p.faction (account_at m p.region p.faction)
        → P s g (account_at m s g)
    by_test true is old =
        let region : p.region ≡ s = grind (arith, nat_tests) in
        let faction : p.faction ≡ g = grind (arith, nat_tests) in
        rw (← region, ← faction) old
    by_test false is old = others s g is

    by_short : (b : Bool) → (a.short == 0) ≡ b → P s g (account_at (cond b m (with_account m p.region p.faction a)) s g)
    by_short true is = by_test (is_input_of s g p) refl (none is)
    by_short false is = each_account P m p a (some is) others s g

-- ---- what is left counts only where units are short

counted : (short left : ℕ) (b : Bool) → (short == 0) ≡ b → counted_left short left ≡ cond b 0 left
counted short left b is = ap (λ t. cond t 0 left) is

-- where nothing is left, nothing is counted as left, whether units are short or not
pub nothing_left : (short : ℕ) → counted_left short 0 ≡ 0
nothing_left short = by_test (short == 0) refl
  where
    by_test : (b : Bool) → (short == 0) ≡ b → counted_left short 0 ≡ 0
    by_test true is = counted short 0 true is
    by_test false is = counted short 0 false is

gives_all : (short left : ℕ) → min (counted_left short left) short ≡ min left short
gives_all short left = by_test (short == 0) refl
  where
    by_test : (b : Bool) → (short == 0) ≡ b → min (counted_left short left) short ≡ min left short
    by_test true is = omega (arith, counted short left true is, is_equal short 0 is)
    by_test false is = omega (arith, counted short left false is)

-- ---- the units are counted

-- before any unit is counted, each account is that of no units (`opened`), since the map is empty
pub no_accounts : (m s g : ℕ) → account_at empty s g ≡ opened m [] [] s g
no_accounts m s g = rw (get-empty nat_cmp s, get-empty nat_cmp g) refl

-- before any unit is counted, no account is short of anything: the bound is that of 0 units
pub none_short : (m s g : ℕ) → (account_at empty s g).short ≤ most_per_head * men_limit * 0
none_short m s g = rw (no_accounts m s g) (omega arith)

-- `m` is the maintenance of each man. The units `before` are counted in `accounts`, and unit `p` is the next one. `a`
-- is the account of the faction of `p` in the region of `p`, with `p` counted; it is set in the map if it is short.
module _ (m : ℕ) (before : List UpkeepInput) (p : UpkeepInput) (accounts : FactionAccounts) (a : Account) where
  -- if each account has what the units `before` are short of, it has what they and `p` are short of once `p` is counted
  pub short_more : ((s g : ℕ) → account_at accounts s g ≡ opened m before [] s g)
      → a ≡ record (account_at accounts p.region p.faction) { short = (account_at accounts p.region p.faction).short + short_of m p }
      → (s g : ℕ) → account_at (with_if_short accounts p.region p.faction a) s g ≡ opened m (before ++ p ∷ []) [] s g
  short_more each is =
      each_if_short (λ s g b. b ≡ opened m (before ++ p ∷ []) [] s g) accounts p a
      (λ none. each p.region p.faction ∙ account_is _ _ _ _ _ _ _ _ (same_left _ _) (no_more (is_equal a.short 0 none)) refl refl) (λ some. this)
      (λ s g apart. each s g ∙ account_is _ _ _ _ _ _ _ _ (same_left _ _) (sym (more_other (short_of m) before p s g apart)) refl refl)
    where
      same_left : (x y : ℕ) → counted_left x 0 ≡ counted_left y 0
      same_left x y = nothing_left x ∙ sym (nothing_left y)

      this : a ≡ opened m (before ++ p ∷ []) [] p.region p.faction
      this =
          is ∙ ap (λ (b : Account). record b { short = b.short + short_of m p }) (each p.region p.faction)
          ∙ account_is _ _ _ _ _ _ _ _ (same_left _ _) (sym (more_own (short_of m) before p)) refl refl

      no_more : a.short ≡ 0
          → short_among m p.region p.faction before ≡ short_among m p.region p.faction (before ++ p ∷ [])
      no_more none = omega (arith, none, ap (λ (b : Account). b.short) this, more_own (short_of m) before p)

  -- what the units `all` that are of the faction of `p` in its region are short of
  abbrev all_short : (all : List UpkeepInput) → ℕ
  all_short all = short_among m p.region p.faction all

  -- If each account has what the units `all` are short of and what `before` have left, then with unit `p` counted each
  -- has what `before` and `p` have left. An account whose units aren't short counts nothing as left (`counted_left`).
  pub left_more : (all : List UpkeepInput) → ((s g : ℕ) → account_at accounts s g ≡ opened m all before s g)
      → a ≡ record (account_at accounts p.region p.faction) { left = (account_at accounts p.region p.faction).left + left_of m p }
      → (s g : ℕ) → account_at (with_if_short accounts p.region p.faction a) s g ≡ opened m all (before ++ p ∷ []) s g
  left_more all each is =
      each_if_short (λ s g b. b ≡ opened m all (before ++ p ∷ []) s g) accounts p a
      (λ none. each p.region p.faction ∙ account_is _ _ _ _ _ _ _ _ (counted (all_short all) _ true (none_short true none) ∙ sym (counted (all_short all) _ true (none_short true none))) refl refl refl)
      (λ some. this ∙ account_is _ _ _ _ _ _ _ _ (now_left (none_short false some)) refl refl refl)
      (λ s g apart. each s g ∙ account_is _ _ _ _ _ _ _ _ (ap (counted_left (short_among m s g all)) (sym (more_other (left_of m) before p s g apart))) refl refl refl)
    where
      this : a
          ≡ account (counted_left (all_short all) (left_among m p.region p.faction before) + left_of m p) (all_short all) 0 0
      this = is ∙ ap (λ (b : Account). record b { left = b.left + left_of m p }) (each p.region p.faction)

      none_short : (b : Bool) → (a.short == 0) ≡ b → (all_short all == 0) ≡ b
      none_short b is = ap (λ (c : Account). c.short == 0) (sym this) ∙ is

      now_left : (all_short all == 0) ≡ false
          → counted_left (all_short all) (left_among m p.region p.faction before) + left_of m p ≡ counted_left (all_short all) (left_among m p.region p.faction (before ++ p ∷ []))
      now_left some =
          ap (λ n. n + left_of m p) (counted (all_short all) _ false some) ∙ sym (more_own (left_of m) before p)
          ∙ sym (counted (all_short all) _ false some)

-- Let each account be short of at most what `n` units can be short of, and unit p of at most what one can be. With p
-- counted, its account is `a`, which is set if it is short. Then each is short of at most what `n + 1` units can be.
pub few_short : (m n : ℕ) (accounts : FactionAccounts) (p : UpkeepInput) (a : Account)
    → short_of m p ≤ most_per_head * men_limit
    → ((s g : ℕ) → (account_at accounts s g).short ≤ most_per_head * men_limit * n)
    → a ≡ record (account_at accounts p.region p.faction) { short = (account_at accounts p.region p.faction).short + short_of m p }
    → (s g : ℕ)
    → (account_at (with_if_short accounts p.region p.faction a) s g).short ≤ most_per_head * men_limit * (n + 1)
few_short m n accounts p a short each is =
    let old = each p.region p.faction in
    each_if_short (λ s g b. b.short ≤ most_per_head * men_limit * (n + 1)) accounts p a
    (λ none. omega (arith, old)) (λ some. rw is (omega (arith, old, short))) (λ s g apart. omega (arith, each s g))

-- Let each account have at most as much money left as `n` units can have, and unit p at most as much as one can have.
-- With p counted, its account is `a`, which is set if it is short. Then each has at most what `n + 1` units can have.
pub few_left : (m n : ℕ) (accounts : FactionAccounts) (p : UpkeepInput) (a : Account) → left_of m p ≤ holding_limit
    → ((s g : ℕ) → (account_at accounts s g).left ≤ holding_limit * n)
    → a ≡ record (account_at accounts p.region p.faction) { left = (account_at accounts p.region p.faction).left + left_of m p }
    → (s g : ℕ) → (account_at (with_if_short accounts p.region p.faction a) s g).left ≤ holding_limit * (n + 1)
few_left m n accounts p a left each is =
    let old = each p.region p.faction in
    each_if_short (λ s g b. b.left ≤ holding_limit * (n + 1)) accounts p a
    (λ none. omega (arith, old)) (λ some. rw is (omega (arith, old, left))) (λ s g apart. omega (arith, each s g))

-- once all units are counted, each account is that of all units, of which none had its turn
pub all_counted : (m : ℕ) (all : List UpkeepInput) (s g : ℕ) → opened m all all s g ≡ account_of m all [] s g
all_counted m all s g = account_is _ _ _ _ _ _ _ _ refl refl (omega arith) (omega arith)

-- ---- the units of lower numbers

-- `t` and `q` are tests of the elements of a list
module _ {A : Type 0} where
  filters_swap : (t q : A → Bool) (xs : List A) → filter q (filter t xs) ≡ filter t (filter q xs)
  filters_swap t q [] = refl
  filters_swap t q (x ∷ xs) = grind (arith, filters_swap t q xs)

  none_pass : (t : A → Bool) (xs : List A) → All (λ x. t x ≡ false) xs → filter t xs ≡ []
  none_pass t [] h = refl
  none_pass t (x ∷ xs) h = rw (h 0 x (omega arith)) (none_pass t xs (λ k d l. h (suc k) d (omega (arith, l))))

abbrev is_lower : ℕ → UpkeepInput → Bool
is_lower n p = nat_lt p.unit n

no_lower : (a b : ℕ) → b < a + 1 → nat_lt a b ≡ false
no_lower a b l = grind (arith, nat_tests, l)

-- In a list of units with rising numbers, those with lower numbers than the unit at index `i` of the list are the first
-- `i`. `d` is what a look-up past the end of the list would give.
pub lower_first : (all : List UpkeepInput) (i : ℕ) (d : UpkeepInput) → AreInOrder all → i < length all
    → filter (is_lower (get_or all i d).unit) all ≡ take i all
lower_first [] i d order l = absurd (omega (arith, l))
lower_first (p ∷ ps) zero d order l =
    rw (no_lower p.unit p.unit (omega arith))
    (none_pass (is_lower p.unit) ps (λ k e h. no_lower _ p.unit (omega (arith, order 0 (suc k) e (omega arith) (omega (arith, h))))))
lower_first (p ∷ ps) (suc i) d order l =
    rw (lt-ltb p.unit (get_or ps i d).unit (order 0 (suc i) d (omega arith) l))
    (ap (λ l. p ∷ l) (lower_first ps i d (λ j k e h m. order (suc j) (suc k) e (omega (arith, h)) (omega (arith, m))) (omega (arith, l))))

-- ---- the upkeep of all units

-- what units gave so far with what the next one gives: what all these want to give, at most the amount to give
next_dealt : (before want amount give : ℕ) → give ≡ amount
    → min before amount + min (give - min before amount) want ≡ min (before + want) amount
next_dealt before want amount give is = omega (arith, is)

-- what a unit gives or gets in turn: what all units up to and with it do together, less what those before it do
is_dealt : (before want amount give : ℕ) → give ≡ amount
    → min (give - min before amount) want ≡ min (before + want) amount - min before amount
is_dealt before want amount give is = omega (arith, is)

-- `m` is the maintenance of each man, and `all` are all units. The units `before` had their turn, unit `p` has it next,
-- and `accounts` has each account as it is then.
module _ (m : ℕ) (all before : List UpkeepInput) (p : UpkeepInput) (accounts : FactionAccounts)
    (each : (s g : ℕ) → account_at accounts s g ≡ account_of m all before s g) where
  -- the account of the unit's faction in its region, as its turn comes
  abbrev now : Account
  now = account_of m all before p.region p.faction

  abbrev peers : List UpkeepInput
  peers = peers_of p.region p.faction all

  -- the money that the unit's peers with some left give to those that are short
  abbrev amount : ℕ
  amount = given_among m peers

  to_give_is : to_give now ≡ amount
  to_give_is = gives_all (short_among m p.region p.faction all) (left_among m p.region p.faction all)

  -- Let `a` be the account of the unit's faction in its region after its turn; it is set if it is short. Then each
  -- account is that of all units (`account_of`), of which `before` and then `p` had their turn.
  pub upkeep_result_more : (a : Account) → a ≡ account_after m (account_at accounts p.region p.faction) p
      → (s g : ℕ)
      → account_at (with_if_short accounts p.region p.faction a) s g ≡ account_of m all (before ++ p ∷ []) s g
  upkeep_result_more a is =
      each_if_short (λ s g b. b ≡ account_of m all (before ++ p ∷ []) s g) accounts p a
      (λ none. each p.region p.faction ∙ account_is _ _ _ _ _ _ _ _ refl refl (none_dealt _ _ (none_short none)) (none_dealt _ _ (none_short none))) (λ some. this)
      (λ s g apart. each s g ∙ account_is _ _ _ _ _ _ _ _ refl refl
      (sym (ap (λ n. min n (given_among m (peers_of s g all))) (more_other (left_of m) before p s g apart)))
      (sym (ap (λ n. min n (given_among m (peers_of s g all))) (more_other (short_of m) before p s g apart))))
    where
      this : a ≡ account_of m all (before ++ p ∷ []) p.region p.faction
      this =
          is ∙ ap (λ b. account_after m b p) (each p.region p.faction)
          ∙ account_is _ _ _ _ _ _ _ _ refl refl
          (next_dealt (left_among m p.region p.faction before) (left_of m p) amount (to_give now) to_give_is ∙ sym (ap (λ n. min n amount) (more_own (left_of m) before p)))
          (next_dealt (short_among m p.region p.faction before) (short_of m p) amount (to_give now) to_give_is ∙ sym (ap (λ n. min n amount) (more_own (short_of m) before p)))

      none_short : (a.short == 0) ≡ true → short_among m p.region p.faction all ≡ 0
      none_short none = ap (λ (b : Account). b.short) (sym this) ∙ is_equal a.short 0 none

      none_dealt : (x y : ℕ) → short_among m p.region p.faction all ≡ 0 → min x amount ≡ min y amount
      none_dealt x y none = omega (arith, none)

  before_among : filter (is_lower p.unit) all ≡ before
      → filter (is_lower p.unit) peers ≡ peers_of p.region p.faction before
  before_among first =
      filters_swap (is_input_of p.region p.faction) (is_lower p.unit) all ∙ ap (peers_of p.region p.faction) first

  -- if the units that had their turn before a unit are those with lower numbers, upkeep takes from it by its account
  -- what the definition says (`upkeep_result_among`)
  pub upkeep_result_is : filter (is_lower p.unit) all ≡ before
      → upkeep_result_by m (account_at accounts p.region p.faction) p ≡ upkeep_result_among m peers p
  upkeep_result_is first =
      ap (λ b. upkeep_result_by m b p) (each p.region p.faction)
      ∙ same_upkeep_result _ _ _ _ (ap (λ n. paid_by m p + n) (part_of (left_of m))) (ap (λ n. starved_of m (short_of m p - n)) (part_of (short_of m)))
    where
      -- what a unit gives or gets by the account is what it gives or gets in turn, after its peers with lower numbers
      part_of : (f : UpkeepInput → ℕ)
          → min (to_give now - min (sum_by f (peers_of p.region p.faction before)) amount) (f p)
          ≡ amount_in_turn amount (sum_by f (filter (is_lower p.unit) peers)) (f p)
      part_of f =
          is_dealt (sum_by f (peers_of p.region p.faction before)) (f p) amount (to_give now) to_give_is
          ∙ ap (λ xs. amount_in_turn amount (sum_by f xs) (f p)) (sym (before_among first))

      upkeep_result : (paid starved : ℕ) → UpkeepResult
      upkeep_result paid starved = record { unit = p.unit; faction = p.faction; paid = paid; starved = starved }

      same_upkeep_result : (a b c d : ℕ) → a ≡ c → b ≡ d → upkeep_result a b ≡ upkeep_result c d
      same_upkeep_result a b c d x y = rw (x, y) refl

  -- by the account of the unit's faction in its region, at most the amount to give was given so far, and was covered
  pub account_open : IsOpen (account_at accounts p.region p.faction)
  account_open =
      rw (each p.region p.faction) (record { given = omega (arith, to_give_is); covered = omega (arith, to_give_is) })

-- ---- a unit pays no more than it has

few_starve : (m men short : ℕ) → short ≤ m * men → starved_of m short ≤ men
few_starve zero men short most = let none = div-zero (short + 0) in omega (arith, none)
few_starve (suc k) men short most =
    let some : 1 ≤ suc k = omega arith in
    let rounded : short + (suc k - 1) < (men + 1) * suc k = omega (arith, mul_comm (suc k) men) in
    let fewer : starved_of (suc k) short < men + 1 = (div-lt_iff_lt-mul some).1 rounded in
    omega arith

-- upkeep takes no more from any unit than its money and its men
pub can_spare : EachCanSpare
can_spare m peers p =
    let given = given_among m peers in
    let before = filter (is_lower p.unit) peers in
    let short = short_of m p - amount_in_turn given (sum_by (short_of m) before) (short_of m p) in
    record {
      paid = within given (sum_by (left_of m) before) p.money (m * p.men);
      starved = few_starve m p.men short (omega arith);
    }
  where
    within : (given before money due : ℕ) → min money due + amount_in_turn given before (money - min money due) ≤ money
    within given before money due = omega arith
