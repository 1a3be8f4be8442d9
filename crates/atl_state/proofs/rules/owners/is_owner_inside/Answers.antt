use Rattle.std.proofs.Common.{◌≡◌, Some, refl, sym, ap, ◌∙◌}
use Rattle.std.proofs.lemmas.Bool.{false≢true}
use Rattle.std.proofs.lemmas.Bool.Decides.{Decides-eqb}
use Rattle.atl_records.specs.declared.records.Unit.{Unit}
use Rattle.atl_world.proofs.EveryLaws.{none_some}
use Rattle.atl_state.proofs.rules.owners.is_owner_inside.Goals as goal

same_unit : (u v : Unit) → Some u ≡ Some v → u ≡ v
same_unit u v e = cc

pub returns-then-structure-eq0 : goal.returns-then-structure-eq0
returns-then-structure-eq0 c = (λ _. record { owned = λ some. absurd (some c.if-structure-eq0.true) }, λ _. refl)

pub returns-in-Some : goal.returns-in-Some
returns-in-Some c =
    let owner = c.in-Some.owner.now in
    let equal = Decides-eqb owner.structure c.args.number in (
      λ e. record { owned = λ _. (owner, sym c.in-Some.ensures, equal.0 e) },
      λ inside. let (u, there, same) = inside.owned c.if-structure-eq0.false in equal.1 (ap (λ (v : Unit). v.structure) (same_unit owner u (c.in-Some.ensures ∙ there)) ∙ same),
    )

pub returns-in-None : goal.returns-in-None
returns-in-None c =
    (λ e. absurd (false≢true e), λ inside. let (u, there, same) = inside.owned c.if-structure-eq0.false in none_some u (c.in-None.ensures ∙ there))
