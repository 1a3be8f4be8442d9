use Rattle.std.proofs.Common.{length, refl, sym, ap, ◌∙◌}
use Rattle.std.specs.FinMap.{FinMap, get}
use Rattle.std.specs.Ordering.{nat_cmp}
use Rattle.atl_world.specs.Worlds.{IsMarket}
use Rattle.atl_tables.specs.RegionTable.{region_known, region_of}
use Rattle.atl_world.specs.Sums.{by_number}
use Rattle.atl_world.specs.declared.world.Market.{Market}
use Rattle.atl_tables.proofs.FaultLaws.{gives_error, error_of_condition_is_of_list}
use Rattle.atl_tables.proofs.HasNumberLaws.{property_holds_in_map}
use Rattle.atl_tables.proofs.region_table.RegionDraftDraft.resolve.Goals as goal

pub returns-in_err-terrain-clause-value : goal.returns-in_err-terrain-clause-value
unfolding region_known region_of
returns-in_err-terrain-clause-value c =
    gives_error _ _ _ _ _ c.from_residual.ensures.1 (error_of_condition_is_of_list c.in_err-terrain.field-0.0 _ _ (rw c.as_slice.ensures at c.in_err-terrain.ensures.value))

pub returns-in_err-markets-clause-value : goal.returns-in_err-markets-clause-value
unfolding region_known region_of
returns-in_err-markets-clause-value c =
    let terrain = rw c.as_slice.ensures at c.in_ok-terrain.ensures.value in
    rw terrain.0 (gives_error _ _ _ _ _ c.from_residual-in_err-markets.ensures.1 (rw c.as_slice-2.ensures at c.in_err-markets.ensures.value))

pub returns-clause-value : goal.returns-clause-value
unfolding region_known region_of
returns-clause-value c =
    let terrain = rw c.as_slice.ensures at c.in_ok-terrain.ensures.value in
    let markets = rw c.as_slice-2.ensures at c.in_ok-markets.ensures.value in
    let made = c.in_ok-markets-2.ensures.value ∙ ap (by_number (λ (m : Market). m.item)) (c.into_vec.ensures ∙ sym markets.1) in
    rw (terrain.0, terrain.1, c.in_ok-name.ensures, made, markets.0) (refl, refl)

pub returns-clause-sound : goal.returns-clause-sound
returns-clause-sound c =
    let read = c.in_ok-markets.markets in
    let made = c.in_ok-markets-2.ensures.value ∙ ap (by_number (λ (m : Market). m.item)) c.into_vec.ensures in
    record {
      number_is = refl;
      number_least = c.requires.draft.basics.number_least;
      number_most = c.requires.draft.basics.number_most;
      name = rw c.in_ok-name.ensures c.requires.draft.basics.name;
      terrain = rw c.as_slice.ensures at c.in_ok-terrain.ensures.below;
      peasants = c.requires.draft.basics.peasants;
      money = c.requires.draft.basics.money;
      markets = λ i m h. property_holds_in_map (λ (x : Market). x.item) (IsMarket (length c.args.all.now.items)) read c.in_ok-markets.ensures.sound i m (sym (ap (λ (ms : FinMap nat_cmp Market). get ms i) made) ∙ h);
    }
