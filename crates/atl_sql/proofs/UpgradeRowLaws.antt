-- Laws on the statement of an upgrade on the table `campaign`: it sets format and world text.
-- `head` has the values that stay. `before` is the old world text, and `text` the new one.
use Rattle.std.proofs.Common.{◌≡◌, ℕ, pos, List, [], ◌∷◌, refl, sym, ap, ◌∙◌}
use Rattle.sqlite_tied.specs.Compute.{everything}
use Rattle.sqlite.specs.declared.types.Value.TheVariants.{Null, Int, Text}
use Rattle.sqlite.specs.Term.{Term, lit, col}
use Rattle.sqlite.specs.Listing.{understood}
use Rattle.sqlite.specs.Order.{Row, column}
use Rattle.sqlite_trees.specs.Tree.{rowid}
use Rattle.atl_world.specs.declared.format.Format.TheVariants.{First}
use Rattle.atl_descriptions.specs.Sets.{visible_row}
use Rattle.atl_descriptions.specs.Tables.{campaign_table}
use Rattle.atl_sql.specs.Shown.{CampaignRowValue, int, campaign_row, campaign_row_in, campaign_row_values}
use Rattle.atl_descriptions.specs.Statements.{upgrading_upsert}
use Rattle.atl_sql.specs.PutsCampaignRow.{UpgradesCampaignRow}
use Rattle.atl_sql.proofs.OwnRowLaws.{MeansOwn, changed_to, puts_own}
use Rattle.atl_sql.proofs.StatementLaws.{DoneBy, done_by}
use Rattle.atl_sql.proofs.Terms.{cast_int}

-- the terms of the UPDATE of `upgrading_upsert`: format 2, the new world text, and the other columns as they were
abbrev upgrade_update_terms : List Term
upgrade_update_terms =
    col 1 0 ∷ lit Null ∷ lit (Int (pos 2)) ∷ col 1 3 ∷ col 1 4 ∷ col 1 5 ∷ col 1 6 ∷ col 1 7 ∷ col 0 5 ∷ []

upgrades_own : MeansOwn upgrading_upsert upgrade_update_terms
unfolding understood everything
upgrades_own = record { is = λ more indexes. refl; plain = λ more indexes. (refl, refl) }

update_upgrades_row : (head : CampaignRowValue) (text before : List ℕ) (r : Row)
    → visible_row campaign_table r ≡ campaign_row_in First head before
    → changed_to upgrade_update_terms head text r ≡ campaign_row head text
update_upgrades_row head text before r shows =
    let id : rowid r ≡ int 1 = ap (λ row. column row 0) shows in
    let month : column r 3 ≡ int head.month = ap (λ row. column row 2) shows in
    let faction : column r 4 ≡ int head.next_faction = ap (λ row. column row 3) shows in
    let unit : column r 5 ≡ int head.next_unit = ap (λ row. column row 4) shows in
    let structure : column r 6 ≡ int head.next_structure = ap (λ row. column row 5) shows in
    let pass : column r 7 ≡ Text head.pass = ap (λ row. column row 6) shows in
    rw (pass, structure, unit, faction, month, id, cast_int (pos 1), cast_int (pos 2), cast_int (pos head.month), cast_int (pos head.next_faction), cast_int (pos head.next_unit), cast_int (pos head.next_structure)) refl

-- inside a transaction, on a campaign's tables, the statement gives the only campaign row, if it is of the first format
-- and of the values `head`, the second format and a new world text (`UpgradesCampaignRow`)
pub puts_upgraded : (head : CampaignRowValue) (text : List ℕ)
    → DoneBy upgrading_upsert (campaign_row_values head text) (UpgradesCampaignRow head text)
puts_upgraded head text = done_by upgrading_upsert (campaign_row_values head text) (UpgradesCampaignRow head text) (λ old new count inside ran. (
  ran.1.mode ∙ sym inside,
  λ has.
      let put = puts_own upgrading_upsert upgrade_update_terms upgrades_own old new head text count has ran in
      record { does = λ before is. put.again (campaign_row_in First head before) (campaign_row head text) refl refl is (λ r shows. update_upgrades_row head text before r shows); tables = put.tables; carries = put.carries },
))
