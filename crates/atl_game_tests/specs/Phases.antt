-- For these tests alone: the verbs of two phases that only these tests have, one of WORK and one of STUDY.
use Rattle.std.specs.Prelude.{Bool, true, false}
use Rattle.atl_world.specs.declared.verb.Verb.{Verb}
use Rattle.atl_world.specs.declared.verb.Verb.TheVariants.{Study, Work}

-- Whether a verb is WORK, the only verb of the tests' phase `Working`.
abbrev pub is_working : Verb → Bool
is_working Work = true
is_working verb = false

-- Whether a verb is STUDY, the only verb of the tests' phase `Studying`.
abbrev pub is_studying : Verb → Bool
is_studying Study = true
is_studying verb = false
