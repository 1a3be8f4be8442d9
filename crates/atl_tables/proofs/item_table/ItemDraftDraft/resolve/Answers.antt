use Rattle.std.proofs.Common.{refl}
use Rattle.atl_tables.specs.ItemTable.{item_known, item_of}
use Rattle.atl_tables.proofs.FaultLaws.{gives_error, error_of_condition_is_of_list}
use Rattle.atl_tables.proofs.item_table.ItemDraftDraft.resolve.Goals as goal

pub returns-in_err-skill-clause-value : goal.returns-in_err-skill-clause-value
unfolding item_known item_of
returns-in_err-skill-clause-value c =
    gives_error _ _ _ _ _ c.from_residual-in_err-skill.ensures.1 (error_of_condition_is_of_list c.in_err-skill.field-0.0 _ _ (rw (c.as_str-at.ensures, c.in_ok-element.ensures, c.as_slice.ensures) at c.in_err-skill.ensures.value))

pub returns-in_err-raw-clause-value : goal.returns-in_err-raw-clause-value
unfolding item_known item_of
returns-in_err-raw-clause-value c =
    let skill = rw (c.as_str-at.ensures, c.in_ok-element.ensures, c.as_slice.ensures) at c.in_ok-skill.ensures.value.0 in
    rw skill (gives_error _ _ _ _ _ c.from_residual-in_err-raw.ensures.1 (error_of_condition_is_of_list c.in_err-raw.field-0.0 _ _ (rw (c.as_str-at.ensures, c.in_ok-element.ensures, c.as_slice-2.ensures) at c.in_err-raw.ensures.value)))

pub returns-clause-value : goal.returns-clause-value
unfolding item_known item_of
returns-clause-value c =
    let skill = rw (c.as_str-at.ensures, c.in_ok-element.ensures, c.as_slice.ensures) at c.in_ok-skill.ensures.value in
    let raw = rw (c.as_str-at.ensures, c.in_ok-element.ensures, c.as_slice-2.ensures) at c.in_ok-raw.ensures.value in
    rw (skill.0, raw.0, skill.1, raw.1, c.in_ok-name.ensures) (refl, refl)

pub returns-clause-sound : goal.returns-clause-sound
returns-clause-sound c = record {
  name = rw c.in_ok-name.ensures c.requires.draft.name;
  weight = c.requires.draft.weight;
  carry = c.requires.draft.carry;
  skill = rw c.as_slice.ensures at c.in_ok-skill.ensures.below;
  level_least = c.requires.draft.making.level_least;
  level = c.requires.draft.making.level;
  raw = rw c.as_slice-2.ensures at c.in_ok-raw.ensures.below;
  raw_is_other = c.in_ok-raw.ensures.other;
  raw_count_least = c.requires.draft.making.raw_count_least;
  raw_count = c.requires.draft.making.raw_count;
}
