use Rattle.std.proofs.Common.{◌≡◌, ◌∙◌, ◌⊎◌, inl, inr, refl, sym, arith}
use Rattle.atl_world.proofs.KeyLaws.{rises, rises_more}
use Rattle.std.specs.declared.cmp.Ordering.{Ordering}
use Rattle.std.specs.declared.cmp.Ordering.TheVariants.{Less, Equal, Greater}
use Rattle.std.proofs.lemmas.Bool.{false≢true}
use Rattle.atl_state.proofs.RisingLaws.{less_at}
use Rattle.atl_state.proofs.row_rules.keys.are_sorted.Goals as goal

pub loop-i-init : goal.loop-i-init
loop-i-init g c = λ d k l. absurd (omega (arith, l))

pub returns : goal.returns
returns g c =
    (λ _. rises g.met.K.Ord.total c.args.keys.now c.loop-i.i c.loop-i-test.false c.loop-i.invariant, λ _. refl)

pub loop-i-preserved : goal.loop-i-preserved
loop-i-preserved g c =
    rises_more g.met.K.Ord.total c.args.keys.now c.loop-i.i c.index-keys-i.result c.index-keys-i-in-loop-i.result c.loop-i.auto.i c.loop-i-test.true c.index-keys-i.is c.index-keys-i-in-loop-i.is (sym c.cmp.ensures ∙ c.in-Less.is)
    c.loop-i.invariant

-- an ordering that is Less is neither Equal nor Greater
not_less : {P : Type 0} {p : Ordering} → p ≡ Less → (p ≡ Equal) ⊎ (p ≡ Greater) → P
not_less less (inl equal) = let other : Less ≡ Equal = sym less ∙ equal in absurd (cc)
not_less less (inr greater) = let other : Less ≡ Greater = sym less ∙ greater in absurd (cc)

-- where the second of two neighbours isn't above the first, are_sorted returns false, and the values don't rise
pub returns-in-Equal : goal.returns-in-Equal
returns-in-Equal g c = (
  λ e. absurd (false≢true e),
  λ rise.
      let less = less_at g.K.Ord.cmp c.args.keys.now c.loop-i.i c.index-keys-i.result c.index-keys-i-in-loop-i.result c.loop-i.auto.i c.loop-i-test.true c.index-keys-i.is c.index-keys-i-in-loop-i.is rise in
      not_less (c.cmp.ensures ∙ less) c.in-Equal.is,
)
