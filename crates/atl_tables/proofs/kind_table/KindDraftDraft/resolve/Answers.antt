use Rattle.std.proofs.Common.{refl}
use Rattle.atl_tables.specs.KindTable.{kind_known, kind_of}
use Rattle.atl_tables.proofs.FaultLaws.{gives_error, error_of_condition_is_of_list}
use Rattle.atl_tables.proofs.kind_table.KindDraftDraft.resolve.Goals as goal

pub returns-in_err-material-clause-value : goal.returns-in_err-material-clause-value
unfolding kind_known
returns-in_err-material-clause-value c =
    gives_error _ _ _ _ _ c.from_residual-in_err-material.ensures.1 (error_of_condition_is_of_list c.in_err-material.field-0.0 _ _ (rw (c.as_str-at.ensures, c.in_ok-element.ensures, c.as_slice.ensures) at c.in_err-material.ensures.value))

pub returns-in_err-skill-clause-value : goal.returns-in_err-skill-clause-value
unfolding kind_known
returns-in_err-skill-clause-value c =
    let material = rw (c.as_str-at.ensures, c.in_ok-element.ensures, c.as_slice.ensures) at c.in_ok-material.ensures.value.0 in
    rw material (gives_error _ _ _ _ _ c.from_residual-in_err-skill.ensures.1 (error_of_condition_is_of_list c.in_err-skill.field-0.0 _ _ (rw (c.as_str-at.ensures, c.in_ok-element.ensures, c.as_slice-skills.ensures) at c.in_err-skill.ensures.value)))

pub returns-in_err-helps-clause-value : goal.returns-in_err-helps-clause-value
unfolding kind_known
returns-in_err-helps-clause-value c =
    let material = rw (c.as_str-at.ensures, c.in_ok-element.ensures, c.as_slice.ensures) at c.in_ok-material.ensures.value.0 in
    let skill = rw (c.as_str-at.ensures, c.in_ok-element.ensures, c.as_slice-skills.ensures) at c.in_ok-skill.ensures.value.0 in
    rw (material, skill) (gives_error _ _ _ _ _ c.from_residual-in_err-helps.ensures.1 (error_of_condition_is_of_list c.in_err-helps.field-0.0 _ _ (rw (c.as_str-at.ensures, c.in_ok-element.ensures, c.as_slice-skills.ensures) at c.in_err-helps.ensures.value)))

pub returns-clause-value : goal.returns-clause-value
unfolding kind_known kind_of
returns-clause-value c =
    let material = rw (c.as_str-at.ensures, c.in_ok-element.ensures, c.as_slice.ensures) at c.in_ok-material.ensures.value in
    let skill = rw (c.as_str-at.ensures, c.in_ok-element.ensures, c.as_slice-skills.ensures) at c.in_ok-skill.ensures.value in
    let helps = rw (c.as_str-at.ensures, c.in_ok-element.ensures, c.as_slice-skills.ensures) at c.in_ok-helps.ensures.value in
    rw (material.0, skill.0, helps.0, material.1, skill.1, helps.1, c.in_ok-name.ensures) (refl, refl)

pub returns-clause-sound : goal.returns-clause-sound
returns-clause-sound c = record {
  name = rw c.in_ok-name.ensures c.requires.draft.name;
  material = rw c.as_slice.ensures at c.in_ok-material.ensures.below;
  size_least = c.requires.draft.building.size_least;
  size = c.requires.draft.building.size;
  skill = rw c.as_slice-skills.ensures at c.in_ok-skill.ensures.below;
  level_least = c.requires.draft.building.level_least;
  level = c.requires.draft.building.level;
  capacity = c.requires.draft.purpose.capacity;
  crew = c.requires.draft.purpose.crew;
  helps = rw c.as_slice-skills.ensures at c.in_ok-helps.ensures.below;
}
