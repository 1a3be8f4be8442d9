-- Laws of the lists of units by region, faction and structure: they have just the units of each as units come, change
-- and go. A unit's key is the number of its region, faction or structure, which says in whose list the unit is.
-- `belongs_to` gives this key.
-- `old`, `mid` and `new` are the lists before a change, within it and after it; in `AreUnitLists-set`, `old` and `new`
-- are the units. Where a unit changes, u is the unit before and v the unit after; n or k is its number, `key` its key.
-- Lists are the same (`SameLists`) if they are under each key; a key without a list counts as one with the empty list.
use Rattle.std.proofs.Common.{◌≡◌, ◌≢◌, ◌==◌, ℕ, true, false, cond, Option, Some, None, List, [], map, filter, refl, sym, ap, subst, ◌∙◌, arith, inl, inr}
use Rattle.std.specs.declared.cmp.Ordering.TheVariants.{Less, Equal, Greater}
use Rattle.std.specs.Prelude.{Result, Ok, Err, OnOk, OnErr, unwrap_or}
use Rattle.std.specs.Ordering.{nat_cmp, is_eq}
use Rattle.std.specs.Cmp.{nat_cmp_total, ranked}
use Rattle.std.specs.FinMap.{FinMap, get, insert, remove, empty, get-empty, get-insert, get-remove, nat_cmp-IsAntisymmetric}
use Rattle.std.proofs.lemmas.Bool.{cases_eq}
use Rattle.atl_world.proofs.SumLaws.{numbers_where-insert_other, numbers_where-insert_known, put_back_keeps_map, remove_undoes_insert}
use Rattle.atl_world.specs.Sums.{with_changed_value, with_changed_option, numbers_where}
use Rattle.atl_world.proofs.Maps.{entries-empty}
use Rattle.atl_world.proofs.GeneralLaws.{key_itself}
use Rattle.atl_containers.specs.Ordered.{put_number, take_number}
use Rattle.atl_lists.specs.Lists.{AreInsideLists, AreLists, AreUnitLists, SameLists, ListsUnit, UnlistsUnit, list_of, list_keys_of, listed_unless, relisted_inside, unlisted_unless}
use Rattle.atl_lists.specs.declared.lists.ListKeys.{ListKeys}
use Rattle.atl_lists.specs.declared.lists.UnitLists.{UnitLists}
use Rattle.atl_records.specs.declared.records.Unit.{Unit}
use Rattle.atl_containers.proofs.OrderedLaws.{numbers_where-insert_new, numbers_where-lost, numbers_where-gained, taken_put}
use Rattle.atl_world.proofs.EveryLaws.{same_number, other_number}

removed_unit_is_absent : (units : FinMap nat_cmp Unit) (k : ℕ) → get (remove units k) k ≡ None
removed_unit_is_absent units k = get-remove nat_cmp_total units k k ∙ ap (λ b. cond b None (get units k)) (key_itself k)

each_list_after_put : (lists : FinMap nat_cmp (List ℕ)) (k : ℕ) (xs : List ℕ) (P : ℕ → List ℕ → Type 0) → P k xs
    → ((r : ℕ) → k ≢ r → P r (list_of lists r)) → (r : ℕ) → P r (list_of (insert lists k xs) r)
each_list_after_put lists k xs P here there r =
    rw (get-insert nat_cmp_total lists k xs r)
    (elim (nat_cmp r k) as (λ o. nat_cmp r k ≡ o → P r (unwrap_or (cond (is_eq o) (Some xs) (get lists r)) [])) [
      | Less ↦ λ e. there r (λ same. let l = ranked r k Less (sym e) in omega arith)
      | Equal ↦ λ e. rw (nat_cmp-IsAntisymmetric r k e) here
      | Greater ↦ λ e. there r (λ same. let l = ranked r k Greater (sym e) in omega arith)
    ] refl)

module _ (belongs_to : Unit → ℕ) where
  -- the lists by a key stay those of the units (AreLists) when u comes, and its new number k is put into its key's list
  pub AreLists-added : (units : FinMap nat_cmp Unit) (lists : FinMap nat_cmp (List ℕ)) (k : ℕ) (u : Unit)
      → get units k ≡ None → AreLists belongs_to units lists
      → AreLists belongs_to (insert units k u) (insert lists (belongs_to u) (put_number k (list_of lists (belongs_to u))))
  AreLists-added units lists k u fresh old =
      let own = belongs_to u in
      each_list_after_put lists own (put_number k (list_of lists own)) (λ r xs. xs ≡ numbers_where (λ v. belongs_to v == r) (insert units k u))
      (ap (put_number k) (old own) ∙ sym (numbers_where-insert_new (λ v. belongs_to v == own) units k u fresh (same_number own)))
      (λ r ne. old r ∙ sym (numbers_where-insert_other (λ v. belongs_to v == r) units k u fresh (other_number own r ne)))

  -- the lists by a key stay those of the units (AreLists) when unit u changes to v with the same key
  pub AreLists-kept : (units : FinMap nat_cmp Unit) (lists : FinMap nat_cmp (List ℕ)) (k : ℕ) (u v : Unit)
      → get units k ≡ Some u → belongs_to u ≡ belongs_to v → AreLists belongs_to units lists
      → AreLists belongs_to (insert units k v) lists
  AreLists-kept units lists k u v is same old r =
      old r ∙ sym (numbers_where-insert_known (λ w. belongs_to w == r) units k u v is (ap (λ q. q == r) same))

  AreLists-undone : (units : FinMap nat_cmp Unit) (lists : FinMap nat_cmp (List ℕ)) (k : ℕ) (u : Unit)
      → get units k ≡ None → AreLists belongs_to (insert units k u) lists
      → AreLists belongs_to units (insert lists (belongs_to u) (take_number k (list_of lists (belongs_to u))))
  AreLists-undone units lists k u fresh old =
      let own = belongs_to u in
      each_list_after_put lists own (take_number k (list_of lists own)) (λ r xs. xs ≡ numbers_where (λ v. belongs_to v == r) units)
      (ap (take_number k) (old own ∙ numbers_where-insert_new (λ v. belongs_to v == own) units k u fresh (same_number own)) ∙ taken_put k _)
      (λ r ne. old r ∙ numbers_where-insert_other (λ v. belongs_to v == r) units k u fresh (other_number own r ne))

  -- the lists by a key stay those of the units (AreLists) when unit k is removed, and taken out of the list of its key
  pub AreLists-removed : (units : FinMap nat_cmp Unit) (lists : FinMap nat_cmp (List ℕ)) (k : ℕ) (u : Unit)
      → get units k ≡ Some u → AreLists belongs_to units lists
      → AreLists belongs_to (remove units k) (insert lists (belongs_to u) (take_number k (list_of lists (belongs_to u))))
  AreLists-removed units lists k u is old =
      AreLists-undone (remove units k) lists k u (removed_unit_is_absent units k) (subst (λ (m : FinMap nat_cmp Unit). AreLists belongs_to m lists) (put_back_keeps_map units k u is) old)

-- ---- lists under a key, and those of the same numbers

-- lists that are the same under each key as the lists of the units are these units' lists too
pub AreLists-same : (belongs_to : Unit → ℕ) (units : FinMap nat_cmp Unit) (old new : FinMap nat_cmp (List ℕ))
    → SameLists new old → AreLists belongs_to units old → AreLists belongs_to units new
AreLists-same belongs_to units old new same is k = same k ∙ is k

module _ (belongs_to : Unit → ℕ) (units : FinMap nat_cmp Unit) (old new : FinMap nat_cmp (List ℕ)) (n key : ℕ) where
  -- the lists `new` are those of the units with a new unit n (AreLists), if they are `old`, the lists of the units
  -- without n, with n put into the list of its key, `key`
  pub AreLists-came : (u : Unit) → belongs_to u ≡ key → get units n ≡ None
      → new ≡ insert old key (put_number n (list_of old key)) → AreLists belongs_to units old
      → AreLists belongs_to (insert units n u) new
  AreLists-came u own fresh put is =
      subst (λ l. AreLists belongs_to (insert units n u) l) (sym (put ∙ ap (λ k. insert old k (put_number n (list_of old k))) (sym own))) (AreLists-added belongs_to units old n u fresh is)

  -- the lists `new` are those of the units without n, if they are `old`, the lists of the units, with n taken out of
  -- the list of its key, `key`
  pub AreLists-went : (u : Unit) → belongs_to u ≡ key → get units n ≡ Some u
      → SameLists new (insert old key (take_number n (list_of old key))) → AreLists belongs_to units old
      → AreLists belongs_to (remove units n) new
  AreLists-went u own there same is =
      AreLists-same belongs_to (remove units n) (insert old key (take_number n (list_of old key))) new same
      (subst (λ k. AreLists belongs_to (remove units n) (insert old k (take_number n (list_of old k)))) own (AreLists-removed belongs_to units old n u there is))

-- putting a list under the key k leaves the list under another key r as it is
pub listed_else : (lists : FinMap nat_cmp (List ℕ)) (k : ℕ) (xs : List ℕ) (r : ℕ) → k ≢ r
    → list_of (insert lists k xs) r ≡ list_of lists r
listed_else lists k xs r =
    each_list_after_put lists k xs (λ q ys. k ≢ q → ys ≡ list_of lists q) (λ apart. absurd (apart refl)) (λ q _ _. refl)
    r

pub listed_there : (lists : FinMap nat_cmp (List ℕ)) (k : ℕ) (xs : List ℕ) → list_of (insert lists k xs) k ≡ xs
listed_there lists k xs =
    ap (λ o. unwrap_or o [])
    (get-insert nat_cmp_total lists k xs k ∙ ap (λ b. cond b (Some xs) (get lists k)) (key_itself k))

-- if the lists `old` have just the units of each key (AreLists), so do the lists `new`: to `mid`, n is put into the
-- list of `key`, and to `new`, it is taken out again
pub AreLists-undone_at : (belongs_to : Unit → ℕ) (units : FinMap nat_cmp Unit) (old mid new : FinMap nat_cmp (List ℕ)) (n key : ℕ)
    → mid ≡ insert old key (put_number n (list_of old key))
    → SameLists new (insert mid key (take_number n (list_of mid key)))
    → AreLists belongs_to units old → AreLists belongs_to units new
AreLists-undone_at belongs_to units old mid new n key put same is =
    AreLists-same belongs_to units (insert mid key (take_number n (list_of mid key))) new same
    (each_list_after_put mid key (take_number n (list_of mid key)) (λ r xs. xs ≡ numbers_where (λ v. belongs_to v == r) units)
    (ap (take_number n) (ap (λ l. list_of l key) put ∙ listed_there old key (put_number n (list_of old key))) ∙ taken_put n (list_of old key) ∙ is key)
    (λ r ne. ap (λ l. list_of l r) put ∙ listed_else old key (put_number n (list_of old key)) r ne ∙ is r))

-- taking a number out of the list of a key that has none changes no list
pub none_taken : (lists : FinMap nat_cmp (List ℕ)) (key n : ℕ) → get lists key ≡ None
    → SameLists lists (insert lists key (take_number n (list_of lists key)))
unfolding take_number
none_taken lists key n none k =
    sym (each_list_after_put lists key (take_number n (list_of lists key)) (λ q xs. xs ≡ list_of lists q)
    (ap (λ o. take_number n (unwrap_or o [])) none ∙ sym (ap (λ o. unwrap_or o []) none)) (λ q ne. refl) k)

-- ---- the lists of structures, which are lists by a key but for that under 0

-- the lists of `some` are those of `all`, but with an empty list under 0
abbrev AreListsBut0 : (some all : FinMap nat_cmp (List ℕ)) → Type 0
AreListsBut0 some all = (k : ℕ) → list_of some k ≡ cond (k == 0) [] (list_of all k)

-- `some` still has the lists of `all`, but an empty one under 0 (AreListsBut0), once f changes the list of a key in
-- both, or in `all` alone where the key is 0
AreListsBut0-changed : (f : List ℕ → List ℕ) (some all : FinMap nat_cmp (List ℕ)) (key : ℕ) → AreListsBut0 some all
    → AreListsBut0 (cond (key == 0) some (insert some key (f (list_of some key)))) (insert all key (f (list_of all key)))
AreListsBut0-changed f some all key bare =
    elim (cases_eq key 0) [
      | inl none ↦ rw none (each_list_after_put all 0 (f (list_of all 0)) (λ r xs. list_of some r ≡ cond (r == 0) [] xs) (bare 0) (λ r _. bare r))
      | inr there ↦ rw (other_number key 0 there)
          (each_list_after_put some key (f (list_of some key)) (λ r xs. xs ≡ cond (r == 0) [] (list_of (insert all key (f (list_of all key))) r))
          (rw (other_number key 0 there, listed_there all key (f (list_of all key))) (ap f (rw (other_number key 0 there) at (bare key))))
          (λ r ne. rw (listed_else all key (f (list_of all key)) r ne) (bare r)))
    ]

module _ (units : FinMap nat_cmp Unit) (lists : FinMap nat_cmp (List ℕ)) (are : AreInsideLists units lists) where
  outside : List ℕ
  outside = numbers_where (λ u. u.structure == 0) units

  -- the lists by structure, with the numbers of the units inside no structure (`outside`) under 0
  whole : FinMap nat_cmp (List ℕ)
  whole = insert lists 0 outside

  whole_listed : AreLists (λ u. u.structure) units whole
  unfolding whole outside
  whole_listed =
      each_list_after_put lists 0 outside (λ r xs. xs ≡ numbers_where (λ u. u.structure == r) units) refl
      (λ r ne. rw (other_number r 0 (λ e. ne (sym e))) at (are r))

  AreListsBut0-whole : AreListsBut0 lists whole
  unfolding whole
  AreListsBut0-whole =
      each_list_after_put lists 0 outside (λ r xs. list_of lists r ≡ cond (r == 0) [] xs) (are 0)
      (λ r ne. rw (other_number r 0 (λ e. ne (sym e))) refl)

bare_inside : (units : FinMap nat_cmp Unit) (some all : FinMap nat_cmp (List ℕ)) → AreListsBut0 some all
    → AreLists (λ u. u.structure) units all → AreInsideLists units some
bare_inside units some all bare are k = bare k ∙ ap (cond (k == 0) []) (are k)

module _ (units : FinMap nat_cmp Unit) (old new : FinMap nat_cmp (List ℕ)) (n key : ℕ) (u : Unit) (own : u.structure ≡ key) where
  -- the lists by structure stay those of the units when a unit comes, and is put into the list of its structure unless
  -- that is 0
  pub AreInsideLists-came : get units n ≡ None → new ≡ listed_unless old n key 0 → AreInsideLists units old
      → AreInsideLists (insert units n u) new
  AreInsideLists-came fresh put is =
      let all = whole units old is in
      rw put
      (bare_inside (insert units n u) _ (insert all key (put_number n (list_of all key))) (AreListsBut0-changed (put_number n) old all key (AreListsBut0-whole units old is))
      (AreLists-came (λ v. v.structure) units all _ n key u own fresh refl (whole_listed units old is)))

  -- the lists by structure stay those of the units when a unit is removed, and is taken out of the list of its
  -- structure unless that is 0
  pub AreInsideLists-went : get units n ≡ Some u → SameLists new (unlisted_unless old n key 0)
      → AreInsideLists units old → AreInsideLists (remove units n) new
  AreInsideLists-went there same is k =
      let all = whole units old is in
      same k
      ∙ bare_inside (remove units n) _ (insert all key (take_number n (list_of all key))) (AreListsBut0-changed (take_number n) old all key (AreListsBut0-whole units old is))
      (AreLists-went (λ v. v.structure) units all _ n key u own there (λ r. refl) (whole_listed units old is)) k

AreInsideLists-kept : (units : FinMap nat_cmp Unit) (lists : FinMap nat_cmp (List ℕ)) (n : ℕ) (u v : Unit)
    → get units n ≡ Some u → u.structure ≡ v.structure → AreInsideLists units lists
    → AreInsideLists (insert units n v) lists
AreInsideLists-kept units lists n u v there same is =
    bare_inside (insert units n v) lists (whole units lists is) (AreListsBut0-whole units lists is) (AreLists-kept (λ w. w.structure) units _ n u v there same (whole_listed units lists is))

-- ---- nobody is listed

nobody_listed : (belongs_to : Unit → ℕ) → AreLists belongs_to empty empty
nobody_listed belongs_to k =
    ap (λ o. unwrap_or o []) (get-empty nat_cmp k)
    ∙ sym (ap (λ es. map (λ e. e.0) (filter (λ e. belongs_to e.1 == k) es)) entries-empty)

nobody_bare : AreListsBut0 empty empty
nobody_bare k = elim (k == 0) as (λ b. list_of empty k ≡ cond b [] (list_of empty k)) [
  | true ↦ ap (λ o. unwrap_or o []) (get-empty nat_cmp k)
  | false ↦ refl
]

-- the lists of no units are none at all: by region, by faction and by structure
pub AreUnitLists-nobody : AreUnitLists empty (record { by_region = empty; by_faction = empty; by_structure = empty })
AreUnitLists-nobody = record {
  regions = nobody_listed (λ u. u.region);
  factions = nobody_listed (λ u. u.faction);
  structures = bare_inside empty empty empty nobody_bare (nobody_listed (λ u. u.structure));
}

-- ---- units that change, or come and go again

-- all lists stay those of the units (AreUnitLists) when a unit changes, but its region, faction and structure don't
pub AreUnitLists-kept : (units : FinMap nat_cmp Unit) (lists : UnitLists) (n : ℕ) (u v : Unit) → get units n ≡ Some u
    → list_keys_of u ≡ list_keys_of v → AreUnitLists units lists → AreUnitLists (insert units n v) lists
AreUnitLists-kept units lists n u v is same old = record {
  regions = AreLists-kept (λ w. w.region) units lists.by_region n u v is (ap (λ (l : ListKeys). l.region) same) old.regions;
  factions = AreLists-kept (λ w. w.faction) units lists.by_faction n u v is (ap (λ (l : ListKeys). l.faction) same) old.factions;
  structures = AreInsideLists-kept units lists.by_structure n u v is (ap (λ (l : ListKeys). l.structure) same) old.structures;
}

put_there : (units : FinMap nat_cmp Unit) (n : ℕ) (u : Unit) → get (insert units n u) n ≡ Some u
put_there units n u = get-insert nat_cmp_total units n u n ∙ ap (λ b. cond b (Some u) (get units n)) (key_itself n)

-- the lists by region, faction and structure have just the units of each (AreUnitLists) again once a new unit with the
-- keys l is put into them (`mid`) and taken out again (`new`)
pub AreUnitLists-back : (units : FinMap nat_cmp Unit) (n : ℕ) (u : Unit) (l : ListKeys) (old mid new : UnitLists)
    → get units n ≡ None → list_keys_of u ≡ l → ListsUnit n l old mid → UnlistsUnit n l mid new → AreUnitLists units old
    → AreUnitLists units new
AreUnitLists-back units n u l old mid new fresh own puts takes is =
    subst (λ (m : FinMap nat_cmp Unit). AreUnitLists m new) (remove_undoes_insert units n u fresh) (takes (insert units n u) u own (put_there units n u) (puts units u own fresh is))

-- ---- a unit that is listed elsewhere

module _ (belongs_to : Unit → ℕ) where
  AreLists-moved : (units : FinMap nat_cmp Unit) (lists : FinMap nat_cmp (List ℕ)) (k : ℕ) (u v : Unit)
      → get units k ≡ Some u → belongs_to u ≢ belongs_to v → AreLists belongs_to units lists
      → AreLists belongs_to (insert units k v) (insert (insert lists (belongs_to v) (put_number k (list_of lists (belongs_to v)))) (belongs_to u) (take_number k (list_of lists (belongs_to u))))
  AreLists-moved units lists k u v is apart old =
      let from = belongs_to u in
      let to = belongs_to v in
      each_list_after_put (insert lists to (put_number k (list_of lists to))) from (take_number k (list_of lists from)) (λ r xs. xs ≡ numbers_where (λ w. belongs_to w == r) (insert units k v))
      (ap (take_number k) (old from) ∙ sym (numbers_where-lost (λ w. belongs_to w == from) units k u v is (same_number from) (other_number to from (λ e. apart (sym e)))))
      (λ r ne. each_list_after_put lists to (put_number k (list_of lists to)) (λ r xs. from ≢ r → xs ≡ numbers_where (λ w. belongs_to w == r) (insert units k v))
      (λ _. ap (put_number k) (old to) ∙ sym (numbers_where-gained (λ w. belongs_to w == to) units k u v is (other_number from to apart) (same_number to)))
      (λ q ne2 ne3. old q ∙ sym (numbers_where-insert_known (λ w. belongs_to w == q) units k u v is (other_number from q ne3 ∙ sym (other_number to q ne2)))) r ne)

  relisted : (units : FinMap nat_cmp Unit) (lists : FinMap nat_cmp (List ℕ)) (k : ℕ) (u v : Unit) → get units k ≡ Some u
      → AreLists belongs_to units lists
      → AreLists belongs_to (insert units k v) (unlisted_unless (listed_unless lists k (belongs_to v) (belongs_to u)) k (belongs_to u) (belongs_to v))
  relisted units lists k u v is old =
      let from = belongs_to u in
      let to = belongs_to v in
      elim (cases_eq from to) [
        | inl same ↦ rw (ap (λ q. from == q) (sym same) ∙ same_number from, ap (λ q. to == q) same ∙ same_number to) (AreLists-kept belongs_to units lists k u v is same old)
        | inr apart ↦ rw (other_number from to apart, other_number to from (λ e. apart (sym e)), listed_else lists to (put_number k (list_of lists to)) from (λ e. apart (sym e))) (AreLists-moved units lists k u v is apart old)
      ]

  -- If the lists `old` have just the units of each key (AreLists), so do the lists `new` once unit n is changed from u
  -- to v. They are `old` with n put into the list of its new key, `to` (`mid`), and then taken out of that of its old
  -- key, `from`. Where both are one key, nothing is done.
  pub AreLists-relisted : (units : FinMap nat_cmp Unit) (old mid new : FinMap nat_cmp (List ℕ)) (n from to : ℕ) (u v : Unit)
      → get units n ≡ Some u → belongs_to u ≡ from → belongs_to v ≡ to → mid ≡ listed_unless old n to from
      → SameLists new (unlisted_unless mid n from to)
      → AreLists belongs_to units old → AreLists belongs_to (insert units n v) new
  AreLists-relisted units old mid new n from to u v is own goes put same lists =
      AreLists-same belongs_to (insert units n v) (unlisted_unless mid n from to) new same
      (subst (λ m. AreLists belongs_to (insert units n v) (unlisted_unless m n from to)) (sym put)
      (subst (λ q. AreLists belongs_to (insert units n v) (unlisted_unless (listed_unless old n to q) n q to)) own
      (subst (λ q. AreLists belongs_to (insert units n v) (unlisted_unless (listed_unless old n q (belongs_to u)) n (belongs_to u) q)) goes (relisted units old n u v is lists))))

  -- if the lists `old` have just the units of each key (AreLists), so do the lists `new`: to `mid`, n is put into the
  -- list of `key`, and to `new`, it is taken out again. Where `key` is `other`, nothing is done.
  pub AreLists-apart : (units : FinMap nat_cmp Unit) (old mid new : FinMap nat_cmp (List ℕ)) (n key other : ℕ)
      → mid ≡ listed_unless old n key other → SameLists new (unlisted_unless mid n key other)
      → AreLists belongs_to units old → AreLists belongs_to units new
  AreLists-apart units old mid new n key other put same is =
      elim (key == other) as (λ b. mid ≡ cond b old (insert old key (put_number n (list_of old key))) → SameLists new (cond b mid (insert mid key (take_number n (list_of mid key)))) → AreLists belongs_to units new) [
        | true ↦ λ p s. AreLists-same belongs_to units mid new s (subst (λ m. AreLists belongs_to units m) (sym p) is)
        | false ↦ λ p s. AreLists-undone_at belongs_to units old mid new n key p s is
      ] put same

-- the lists by structure stay those of the units when a unit changes its structure, and is moved from the old one's
-- list to the new one's; structure 0 has no list
pub AreInsideLists-relisted : (units : FinMap nat_cmp Unit) (old new : FinMap nat_cmp (List ℕ)) (n from to : ℕ) (u v : Unit)
    → get units n ≡ Some u → u.structure ≡ from → v.structure ≡ to → SameLists new (relisted_inside old n from to)
    → AreInsideLists units old → AreInsideLists (insert units n v) new
AreInsideLists-relisted units old new n from to u v is own goes same lists =
    elim (cases_eq from to) [
      | inl one ↦ λ k. same k ∙ rw (ap (λ q. from == q) (sym one) ∙ same_number from) (AreInsideLists-kept units old n u v is (own ∙ one ∙ sym goes) lists k)
      | inr apart ↦
          let all = whole units old lists in
          let put = insert all to (put_number n (list_of all to)) in
          let taken = insert put from (take_number n (list_of put from)) in
          let bare = AreListsBut0-changed (take_number n) (listed_unless old n to 0) put from (AreListsBut0-changed (put_number n) old all to (AreListsBut0-whole units old lists)) in
          λ k.
          same k ∙ rw (other_number from to apart)
          (bare_inside (insert units n v) _ taken bare
          (AreLists-relisted (λ w. w.structure) units all put taken n from to u v is own goes (rw (other_number to from (λ e. apart (sym e))) refl) (λ r. rw (other_number from to apart) refl) (whole_listed units old lists)) k)
    ]

-- all lists stay those of the units when f changes unit n, if it is there, and f leaves every unit's region, faction
-- and structure as they are
pub AreUnitLists-changed : (f : Unit → Unit) → ((u : Unit) → list_keys_of u ≡ list_keys_of (f u))
    → (units : FinMap nat_cmp Unit) (lists : UnitLists) (n : ℕ) → AreUnitLists units lists
    → AreUnitLists (with_changed_value f units n) lists
AreUnitLists-changed f stays units lists n is = by_unit (get units n) refl
  where
    by_unit : (o : Option Unit) → get units n ≡ o → AreUnitLists (with_changed_option f units n o) lists
    by_unit None e = is
    by_unit (Some u) e = AreUnitLists-kept units lists n u (f u) e (stays u) is

-- The lists by region, faction and structure still have just the units of each (AreUnitLists) after a call with the
-- result r. f leaves these three as they are, of every unit. If r is Ok, f changed unit n, if it is there; if r is Err,
-- nothing changed.
pub AreUnitLists-set : {A E : Type 0} (r : Result A E) (f : Unit → Unit)
    → ((u : Unit) → list_keys_of u ≡ list_keys_of (f u)) → (old new : FinMap nat_cmp Unit) (lists : UnitLists) (n : ℕ)
    → OnOk r (new ≡ with_changed_value f old n) → OnErr r (new ≡ old)
    → AreUnitLists old lists → AreUnitLists new lists
AreUnitLists-set (Ok a) f stays old new lists n put same is =
    subst (λ (units : FinMap nat_cmp Unit). AreUnitLists units lists) (sym put)
    (AreUnitLists-changed f stays old lists n is)
AreUnitLists-set (Err e) f stays old new lists n put same is =
    subst (λ (units : FinMap nat_cmp Unit). AreUnitLists units lists) (sym same) is
