-- Laws on the upsert of the table `campaign`: it inserts the row, or changes all columns but id, format and world text.
-- `head` and `world` are the values and the world text that the statement is given. `before` and `text` are those of
-- the row that is there. In a term, `col 0 n` is the parameter at the index `n`, and `col 1 n` the value at the index
-- `n` of the stored row, where 0 is the rowid.
use Rattle.std.proofs.Common.{◌≡◌, ℕ, pos, List, [], ◌∷◌, refl, sym, ap, ◌∙◌}
use Rattle.sqlite_tied.specs.Compute.{everything}
use Rattle.sqlite.specs.declared.types.Value.TheVariants.{Null, Text}
use Rattle.sqlite.specs.Term.{Term, lit, col}
use Rattle.sqlite.specs.Listing.{understood}
use Rattle.sqlite.specs.Order.{Row, column}
use Rattle.sqlite_trees.specs.Tree.{rowid}
use Rattle.atl_descriptions.specs.Sets.{visible_row}
use Rattle.atl_descriptions.specs.Tables.{campaign_table}
use Rattle.atl_sql.specs.Shown.{CampaignRowValue, int, campaign_row, campaign_row_values}
use Rattle.atl_sql.specs.PutsCampaignRow.{PutsCampaignRow}
use Rattle.atl_descriptions.specs.Statements.{campaign_upsert}
use Rattle.atl_sql.proofs.OwnRowLaws.{MeansOwn, changed_to, puts_own}
use Rattle.atl_sql.proofs.StatementLaws.{DoneBy, done_by}
use Rattle.atl_sql.proofs.Terms.{cast_int}

-- the terms of the UPDATE of `campaign_upsert`: id, format and world text stay, the other columns become the parameters
abbrev campaign_update_terms : List Term
campaign_update_terms = col 1 0 ∷ lit Null ∷ col 1 2 ∷ col 0 0 ∷ col 0 1 ∷ col 0 2 ∷ col 0 3 ∷ col 0 4 ∷ col 1 8 ∷ []

campaign_upsert_meaning : MeansOwn campaign_upsert campaign_update_terms
unfolding understood everything
campaign_upsert_meaning = record { is = λ more indexes. refl; plain = λ more indexes. (refl, refl) }

update_keeps_world_text : (head before : CampaignRowValue) (world text : List ℕ) (r : Row)
    → visible_row campaign_table r ≡ campaign_row before text
    → changed_to campaign_update_terms head world r ≡ campaign_row head text
update_keeps_world_text head before world text r shows =
    let id : rowid r ≡ int 1 = ap (λ row. column row 0) shows in
    let format : column r 2 ≡ int 2 = ap (λ row. column row 1) shows in
    let kept : column r 8 ≡ Text text = ap (λ row. column row 7) shows in
    rw (kept, format, id, cast_int (pos 1), cast_int (pos 2), cast_int (pos head.month), cast_int (pos head.next_faction), cast_int (pos head.next_unit), cast_int (pos head.next_structure)) refl

-- Inside a transaction, on a campaign's tables, the upsert inserts the row if the table is empty. The only row, if of
-- the second format, gets the values `head` and keeps its world text (`PutsCampaignRow`).
pub puts_campaign : (head : CampaignRowValue) (world : List ℕ)
    → DoneBy campaign_upsert (campaign_row_values head world) (PutsCampaignRow head world)
puts_campaign head world = done_by campaign_upsert (campaign_row_values head world) (PutsCampaignRow head world) (λ old new count inside ran. (
  ran.1.mode ∙ sym inside,
  λ has.
      let put = puts_own campaign_upsert campaign_update_terms campaign_upsert_meaning old new head world count has ran in
      record {
        does = record { first = put.first; again = λ before text is. put.again (campaign_row before text) (campaign_row head text) refl refl is (λ r shows. update_keeps_world_text head before world text r shows) };
        tables = put.tables;
        carries = put.carries;
      },
))
