-- Laws on `write_marked`: in a database with the ten tables the marked rows of each are written, one after another.
-- `c` is the campaign with its marks. A part is rewritten if its marked rows become those of the campaign and its other
-- rows stay (`Becomes`). `old` is the database, or the state, before a step or all steps, `new` after it, and `mid`
-- between two. `ps` and `qs` are the parts that the first and the second step rewrite; `own` is the campaign row.
use Rattle.std.proofs.Common.{◌≡◌, ◌≢◌, ◌++◌, ◌⊎◌, Bool, true, false, List, [], ◌∷◌, take, refl, sym, ap, ◌∙◌, subst, inl, inr}
use Rattle.std.specs.List.{list_all}
use Rattle.sqlite.specs.Effect.{Database}
use Rattle.sqlite.specs.Order.{Row}
use Rattle.sqlite.specs.State.{State}
use Rattle.sqlite_rules.specs.Lists.{Has}
use Rattle.atl_campaign.specs.Campaign.{MarkedCampaign}
use Rattle.atl_descriptions.specs.Sets.{rows_in}
use Rattle.atl_descriptions.specs.Tables.{Part, Own, table_of, all_parts, campaign_table}
use Rattle.atl_sql.specs.Shown.{campaign_row}
use Rattle.atl_writing.specs.Rows.{campaign_row_of, rows_for}
use Rattle.atl_sql.specs.PutsCampaignRow.{PutsCampaignRow}
use Rattle.atl_sql.specs.Inside.{DoesInside, HasTables, Alters}
use Rattle.atl_writing.specs.Marked.{is_marked}
use Rattle.atl_writing.specs.Changing.{campaign_row_after, own_after, WritesChanges}
use Rattle.atl_writing.specs.Rewriting.{Becomes, Rewrites, RewritesCampaignRow, RewritesParts, RewritesWithOwn}
use Rattle.atl_sql.proofs.CarryLaws.{carries_none}
use Rattle.atl_sql.proofs.PartLaws.{is_among, are_apart, all_among}
use Rattle.atl_writing.proofs.TurnLaws.{one_changed, both_changed}
use Rattle.atl_writing.proofs.WholeLaws.{inside_weaker}

-- ---- the campaign's own row

module _ (c : MarkedCampaign) where
  head_put : (b : Bool) → c.marks.row ≡ b → b ≡ true → (old new : Database)
      → PutsCampaignRow (campaign_row_of c.value) [] old new → RewritesCampaignRow c old new
  head_put b is set old new did before text was =
      let puts = did.again before text was in
      let row = campaign_row (campaign_row_of c.value) text in
      subst (λ (k : Bool). Alters campaign_table (λ r. r ≡ campaign_row (campaign_row_after k c.value before) text) old new) (sym (is ∙ set)) (record {
        rows = λ r. (λ there. only r ((puts.rows r).0 there), λ same. (puts.rows r).1 (inl same));
        others = puts.others;
      })
    where
      only : (r : Row)
          → (r ≡ campaign_row (campaign_row_of c.value) text)
          ⊎ (Has (rows_in campaign_table old.trees) r × (take 1 r ≢ take 1 (campaign_row (campaign_row_of c.value) text)))
          → r ≡ campaign_row (campaign_row_of c.value) text
      only r (inl same) = same
      only r (inr kept) = absurd (kept.1 (ap (take 1) ((was r).0 kept.0)))

  -- if the campaign row is marked, putting it rewrites it
  pub head_done : c.marks.row ≡ true → (old new : State)
      → DoesInside HasTables (PutsCampaignRow (campaign_row_of c.value) []) old new
      → DoesInside HasTables (RewritesCampaignRow c) old new
  head_done is old new did =
      inside_weaker HasTables (PutsCampaignRow (campaign_row_of c.value) []) (RewritesCampaignRow c) old new
      (λ has puts. head_put true is refl old.now new.now puts) did

  -- if the campaign row isn't marked, to do nothing rewrites it
  pub head_left : c.marks.row ≡ false → (s : State) → DoesInside HasTables (RewritesCampaignRow c) s s
  head_left is s = (
    refl,
    λ has. record {
      does = λ before text was. subst (λ k. Alters campaign_table (λ r. r ≡ campaign_row (campaign_row_after k c.value before) text) s.now s.now) (sym is) (record { rows = was; others = λ t listed other. refl });
      tables = has;
      carries = carries_none s.now;
    },
  )

-- ---- one table after another

module _ (c : MarkedCampaign) where
  -- rewriting the campaign row rewrites its part, `Own`
  pub own_rewritten : (old new : Database) → RewritesCampaignRow c old new → RewritesWithOwn c (Own ∷ []) old new
  own_rewritten old new did before text was =
      one_changed (Becomes c (own_after c before text)) Own _ old new (did before text was) (λ rows. rows)

  -- rewriting a table's marked rows rewrites its part (`RewritesParts`), if its rows don't depend on the campaign row,
  -- for which the empty row `[]` stands here
  pub part_rewritten : (part : Part)
      → ((own : Row) (before after : List Row) → Becomes c [] part before after → Becomes c own part before after)
      → (old new : Database)
      → Rewrites (table_of part) (is_marked c.marks part) (rows_for [] c.value part) old new
      → RewritesParts c (part ∷ []) old new
  part_rewritten part any old new did own = one_changed (Becomes c own) part _ old new did (any own _ _)

  -- rewriting some parts, the campaign row among them, and then others rewrites all of them, if no part is in both
  -- lists
  pub own_then_rewritten : (ps qs : List Part) → are_apart ps qs ≡ true → (old mid new : Database)
      → RewritesWithOwn c ps old mid → RewritesParts c qs mid new → RewritesWithOwn c (ps ++ qs) old new
  own_then_rewritten ps qs apart old mid new first second before text was = let own = own_after c before text in both_changed (Becomes c own) ps qs apart old mid new (first before text was) (second own)

  -- once all parts are rewritten, all that is marked is written (`WritesChanges`)
  pub all_rewritten : (parts : List Part) → list_all (is_among parts) all_parts ≡ true → (old new : Database)
      → RewritesWithOwn c parts old new → WritesChanges c old new
  all_rewritten parts all old new did before text was =
      record { rows = λ part. (did before text was).done part (all_among parts all part) }
