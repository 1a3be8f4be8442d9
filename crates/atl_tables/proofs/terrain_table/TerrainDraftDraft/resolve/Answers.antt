use Rattle.std.proofs.Common.{refl}
use Rattle.atl_tables.specs.TerrainTable.{terrain_known, terrain_of}
use Rattle.atl_tables.proofs.FaultLaws.{gives_error}
use Rattle.atl_tables.proofs.terrain_table.TerrainDraftDraft.resolve.Goals as goal

pub returns-in_err-keys_name_items-clause-value : goal.returns-in_err-keys_name_items-clause-value
unfolding terrain_known terrain_of
returns-in_err-keys_name_items-clause-value c =
    gives_error _ _ _ _ _ c.from_residual-in_err-keys_name_items.ensures.1 (rw (c.as_str.ensures, c.in_ok-outputs.ensures, c.as_slice.ensures) at c.in_err-keys_name_items.ensures)

pub returns-clause-value : goal.returns-clause-value
unfolding terrain_known terrain_of
returns-clause-value c =
    let known = rw (c.as_str.ensures, c.in_ok-outputs.ensures, c.as_slice.ensures) at c.in_ok-keys_name_items.ensures.0 in
    let amounts = rw (c.as_slice-2.ensures, c.as_slice-3.ensures) at c.in_ok-output.ensures.value in
    rw (known, amounts, c.in_ok-name.ensures) (refl, refl)
