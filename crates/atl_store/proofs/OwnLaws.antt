-- Laws on reading the table `campaign`: it has one row that keeps the first rule, or a fault refuses the load.
-- To judge the rows gives Ok with the row and its world, Damaged by the first rule, or Memory.
-- That a fault refuses the load means: loading may return it (`RefusesToLoadIn`).
-- The first rule is that on the campaign row (`AreOwnRow`). `rows` are the rows that the SELECT shows, and `items` the
-- same, parsed. `own` is a parsed row, `h` a row without its world text, `text`; `r` is the result of judging. `f` is
-- the format that the file is to have, `g` the kind of store, and `old` the connection before the SELECT.
use Rattle.std.proofs.Common.{◌≡◌, ℕ, false, List, [], ◌∷◌, map, length, Result, Ok, Err, IfOk, IfErr, IsPermutation, refl, sym, ap, ◌∙◌, subst, inl, inr, IsUtf8}
use Rattle.sqlite.specs.Held.{Held, state}
use Rattle.sqlite.specs.Order.{Row, column}
use Rattle.sqlite.specs.declared.types.Value.TheVariants.{Text}
use Rattle.sqlite_rules.specs.Lists.{Has}
use Rattle.sqlite_trees.specs.declared.store.Store.{Ghosts}
use Rattle.atl_world.specs.Worlds.{WorldValue}
use Rattle.atl_tables.specs.World.{world_of_text}
use Rattle.atl_world.specs.declared.format.Format.{Format}
use Rattle.atl_state.specs.declared.checking.Rule.TheVariants.{OneRow, Ranges, Names, Known, Next, Days, Gone, Owners, Water, Guards, Books, Mail}
use Rattle.atl_rows.specs.declared.parts.StoredCampaignRow.{StoredCampaignRow}
use Rattle.atl_store.specs.Gathering.{campaign_row_fault, IsOwnRow, Judges, JudgesOwn, JudgesRows, JudgesFormat, OwnRead}
use Rattle.atl_store.specs.Loading.{own_stored, AreOwnRow, RefusesToLoadIn}
use Rattle.atl_sql.specs.Reading.{Selects, RefusesToSelect}
use Rattle.atl_descriptions.specs.Statements.{selection}
use Rattle.atl_descriptions.specs.Sets.{rows_in}
use Rattle.atl_columns.specs.Forms.{IsTyped}
use Rattle.atl_sql.specs.Stored.{first_columns, AreTyped}
use Rattle.atl_sql.specs.Shown.{campaign_stored, campaign_forms}
use Rattle.atl_sql.specs.declared.fault.ReadFault.{ReadFault}
use Rattle.atl_sql.specs.declared.fault.ReadFault.TheVariants as read
use Rattle.atl_store.specs.declared.fault.LoadFault.{LoadFault}
use Rattle.atl_store.specs.declared.fault.LoadFault.TheVariants.{Store, Damaged, NotACampaign, OtherFormat, Memory}
use Rattle.atl_descriptions.specs.Tables.{Own, campaign_table}
use Rattle.atl_descriptions.specs.declared.records.campaign.StoredCampaign.{StoredCampaign}
use Rattle.atl_world.specs.declared.format.Format.TheVariants.{First}
use Rattle.atl_sql.proofs.RowsLaws.{asked_rows}
use Rattle.atl_sql.proofs.SelectLaws.{reads_part}
use Rattle.atl_sql.proofs.SelectingLaws.{never_other}

-- a list whose image by `f` is one element has one element
pub one_mapped : {A B : Type 0} (f : A → B) (xs : List A) (y : B) → map f xs ≡ y ∷ []
    → (x : A) × (xs ≡ x ∷ []) × (f x ≡ y)
one_mapped f [] y is = absurd (let k = is in cc)
one_mapped f (x ∷ []) y is = (x, refl, let k = is in cc)
one_mapped f (x ∷ z ∷ xs) y is = absurd (let k = is in cc)

-- SQL shows the row `own` and the row `h` with this text alike: both have the same id, format and text
module _ (own : StoredCampaign) (h : StoredCampaignRow) (text : List ℕ) (is : campaign_stored own ≡ own_stored text h) where
  same_column : (n : ℕ) → column (campaign_stored own) n ≡ column (own_stored text h) n
  same_column n = ap (λ r. column r n) is

  pub same_id : own.head.id ≡ h.id
  same_id = let e = same_column 0 in cc

  pub same_format : own.head.format ≡ h.format
  same_format = let e = same_column 1 in cc

  pub same_text : own.world ≡ text
  same_text = let e = same_column 7 in cc

-- if the shown rows keep the first rule (`AreOwnRow`), the parsed row keeps it too
pub own_read : (f : Format) (items : List StoredCampaign) (rows : List Row) (h : StoredCampaignRow) (text : List ℕ) (w : WorldValue)
    → map campaign_stored items ≡ map (first_columns (length campaign_forms)) rows → AreOwnRow f rows h text w
    → (own : StoredCampaign) × IsOwnRow f items own w
own_read f items rows h text w shown own =
    let one = one_mapped campaign_stored items (own_stored text h) (shown ∙ own.shown) in (
      one.0,
      record {
        only = one.1;
        id = same_id one.0 h text one.2 ∙ own.id;
        format = same_format one.0 h text one.2 ∙ own.format;
        world = subst (λ t. world_of_text f t ≡ Ok w) (sym (same_text one.0 h text one.2)) own.world;
      },
    )

-- if the shown rows keep the first rule, each value is of its column's form
pub own_typed : (f : Format) (rows : List Row) (h : StoredCampaignRow) (text : List ℕ) (w : WorldValue)
    → AreOwnRow f rows h text w → AreTyped campaign_forms rows
own_typed f rows h text w own row there =
    let one = one_mapped (first_columns (length campaign_forms)) rows (own_stored text h) own.shown in
    typed row (found row there one.0 one.1 ∙ one.2)
  where
    found : (row : Row) → Has rows row → (r : Row) → rows ≡ r ∷ []
        → first_columns (length campaign_forms) row ≡ first_columns (length campaign_forms) r
    found row there r is = elim (subst (λ l. Has l row) is there) [
      | inl same ↦ ap (first_columns (length campaign_forms)) same
      | inr none ↦ absurd none
    ]

    typed : (row : Row) → first_columns (length campaign_forms) row ≡ own_stored text h → IsTyped campaign_forms row
    typed row is =
        let at = λ (n : ℕ). ap (λ (r : Row). column r n) is in
        ((h.id, at 0), ((h.format, at 1), ((h.month, at 2), ((h.next_faction, at 3), ((h.next_unit, at 4), ((h.next_structure, at 5), ((h.pass, at 6), ((text, at 7, own.utf8), tt))))))))

-- the world text of a row that was read is UTF-8
own_utf8 : (own : StoredCampaign) (rows : List Row) → AreTyped campaign_forms rows
    → map (first_columns (length campaign_forms)) rows ≡ campaign_stored own ∷ [] → IsUtf8 own.world
own_utf8 own rows typed shown =
    let one = one_mapped (first_columns (length campaign_forms)) rows (campaign_stored own) shown in
    let (text, is, utf8) = (typed one.0 (subst (λ l. Has l one.0) (sym one.1) (inl refl))).1.1.1.1.1.1.1.0 in
    let there : column one.0 7 ≡ Text own.world = ap (λ r. column r 7) one.2 in
    subst IsUtf8 (let e : Text text ≡ Text own.world = sym is ∙ there in cc) utf8

-- what is true of Ok, of Memory and of Damaged by the first rule is true of any judged result (`Judges`)
judged_as : (Is : StoredCampaign × WorldValue → Type 0) (Nothing : Type 0) (P : Result (StoredCampaign × WorldValue) LoadFault → Type 0)
    → ((both : StoredCampaign × WorldValue) → Is both → P (Ok both)) → P (Err Memory)
    → (Nothing → P (Err (Damaged OneRow)))
    → (r : Result (StoredCampaign × WorldValue) LoadFault) → Judges Is Nothing r → P r
judged_as Is Nothing P read lacks broken (Ok both) judged = read both judged
judged_as Is Nothing P read lacks broken (Err Memory) judged = lacks
judged_as Is Nothing P read lacks broken (Err (Damaged OneRow)) judged = broken judged
judged_as Is Nothing P read lacks broken (Err Store) judged = absurd judged
judged_as Is Nothing P read lacks broken (Err NotACampaign) judged = absurd judged
judged_as Is Nothing P read lacks broken (Err OtherFormat) judged = absurd judged
judged_as Is Nothing P read lacks broken (Err (Damaged Ranges)) judged = absurd judged
judged_as Is Nothing P read lacks broken (Err (Damaged Names)) judged = absurd judged
judged_as Is Nothing P read lacks broken (Err (Damaged Known)) judged = absurd judged
judged_as Is Nothing P read lacks broken (Err (Damaged Next)) judged = absurd judged
judged_as Is Nothing P read lacks broken (Err (Damaged Days)) judged = absurd judged
judged_as Is Nothing P read lacks broken (Err (Damaged Gone)) judged = absurd judged
judged_as Is Nothing P read lacks broken (Err (Damaged Owners)) judged = absurd judged
judged_as Is Nothing P read lacks broken (Err (Damaged Water)) judged = absurd judged
judged_as Is Nothing P read lacks broken (Err (Damaged Guards)) judged = absurd judged
judged_as Is Nothing P read lacks broken (Err (Damaged Books)) judged = absurd judged
judged_as Is Nothing P read lacks broken (Err (Damaged Mail)) judged = absurd judged

module _ (f : Format) where
  -- if `items` show the first columns of `rows`, and each value there is of its column's form, a result that judging
  -- `items` may give (`JudgesOwn`) is one that judging `rows` may give (`JudgesRows`)
  pub judged_rows : (items : List StoredCampaign) (rows : List Row) (r : Result (StoredCampaign × WorldValue) LoadFault)
      → map campaign_stored items ≡ map (first_columns (length campaign_forms)) rows → AreTyped campaign_forms rows
      → JudgesOwn f items r → JudgesRows f rows r
  judged_rows items rows r shown typed =
      judged_as (λ both. IsOwnRow f items both.0 both.1) ((own : StoredCampaign) (w : WorldValue) → ¬ IsOwnRow f items own w) (JudgesRows f rows) (λ both own.
      let is = sym shown ∙ ap (map campaign_stored) own.only in
      record { shown = is; id = own.id; format = own.format; utf8 = own_utf8 both.0 rows typed is; world = own.world }) tt
      (λ none h text w own. let was = own_read f items rows h text w shown own in none was.0 w was.1) r

  -- the fault of loading for a fault of parsing the rows is one that judging them may give (`JudgesRows`): Damaged by
  -- the first rule if a value is of another type, else Memory
  pub unread_rows : (rows : List Row) (fault : ReadFault) → (fault ≡ read.OtherType → ¬ AreTyped campaign_forms rows)
      → ((fault ≡ read.OtherType → ⊥) → fault ≡ read.Memory) → JudgesRows f rows (Err (campaign_row_fault fault))
  unread_rows rows read.OtherType other which = λ h text w own. other refl (own_typed f rows h text w own)
  unread_rows rows read.Memory other which = tt
  unread_rows rows read.Store other which = absurd (let e = which (λ e. cc) in cc)
  unread_rows rows read.Refused other which = absurd (let e = which (λ e. cc) in cc)

module _ (f : Format) {S : Type 0} (g : Ghosts S) (old : Held S) where
  -- outside a transaction a fault of judging the rows of `campaign` refuses the load
  pub refuses_own : old.in_transaction ≡ false → (rows : List Row) (r : Result (StoredCampaign × WorldValue) LoadFault)
      → JudgesFormat f rows r → Selects g (selection campaign_table 1) old rows
      → IfErr r (RefusesToLoadIn f g old)
  refuses_own idle rows r (inl other) says = subst (λ answer. IfErr answer (RefusesToLoadIn f g old)) (sym other.1) (rows, says, other.0)
  refuses_own idle rows r (inr judged) says =
      judged_as (λ both. AreOwnRow f rows both.0.head both.0.world both.1) ((h : StoredCampaignRow) (text : List ℕ) (w : WorldValue) → ¬ AreOwnRow f rows h text w) (λ answer. IfErr answer (RefusesToLoadIn f g old)) (λ both own. tt) (idle, inr (rows, says)) (λ none. record { rows = rows; selects = says; broken = none; of_format = judged.0 }) r judged.1

  rows_own : (rows : List Row) (r : Result (StoredCampaign × WorldValue) LoadFault) → JudgesRows f rows r
      → Selects g (selection campaign_table 1) old rows → IfOk r (λ both. OwnRead g old f both.0 both.1)
  rows_own rows (Err fault) judged says = tt
  rows_own rows (Ok both) judged says = record { rows = rows; selects = says; row = judged; table = λ begins. subst (IsPermutation (rows_in campaign_table (state g old).now.trees)) judged.shown (asked_rows First (selection campaign_table 1) (rows_in campaign_table) 8 (reads_part Own 8 refl) (state g old) (state g says.0) (state g says.1) rows says.2 says.3 begins) }

  -- if judging gives a row and a world, the campaign row is read (`OwnRead`)
  pub own_is : (rows : List Row) (r : Result (StoredCampaign × WorldValue) LoadFault) → JudgesFormat f rows r
      → Selects g (selection campaign_table 1) old rows
      → IfOk r (λ both. OwnRead g old f both.0 both.1)
  own_is rows r (inl other) says = subst (λ answer. IfOk answer (λ both. OwnRead g old f both.0 both.1)) (sym other.1) tt
  own_is rows r (inr judged) says = rows_own rows r judged.1 says

  -- outside a transaction a fault of asking for the campaign row refuses the load
  pub unasked_own : old.in_transaction ≡ false → (fault : ReadFault)
      → RefusesToSelect g (selection campaign_table 1) old fault → RefusesToLoadIn f g old (campaign_row_fault fault)
  unasked_own idle read.Store refused = inr (inl refused)
  unasked_own idle read.Memory refused = (idle, inl refused)
  unasked_own idle read.Refused refused = refused
  unasked_own idle read.OtherType refused = absurd (never_other g (selection campaign_table 1) old read.OtherType refused refl)
