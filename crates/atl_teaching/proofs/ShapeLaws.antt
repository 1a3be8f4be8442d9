-- The operands of TEACH. Operands have the shape of a verb (`Fits`) if they are of the form that the verb takes.
use Rattle.std.proofs.Common.{◌≡◌, true}
use Rattle.atl_world.specs.declared.verb.Verb.{Verb}
use Rattle.atl_world.specs.declared.verb.Verb.TheVariants as verbs
use Rattle.atl_lines.specs.Orders.{OperandsValue}
use Rattle.atl_phase.proofs.EventLaws.{Fits}
use Rattle.atl_teaching.specs.Teach.{is_teaching}

-- operands with the shape of a verb that passes the test `is_teaching` have the shape of TEACH, the only such verb
pub teach_shape : (v : Verb) (o : OperandsValue) → is_teaching v ≡ true → Fits v o → Fits verbs.Teach o
teach_shape verbs.Teach o of_phase fits = fits
teach_shape v o of_phase fits = cc
