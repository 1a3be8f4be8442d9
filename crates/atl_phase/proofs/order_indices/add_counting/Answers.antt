use Rattle.std.proofs.Common.{◌≡◌, ◌++◌, ◌∷◌, [], ◌<◌, ◌≤◌, ◌+◌, length, get_or, refl, sym, ap, subst, ◌∙◌, rules}
use Rattle.std.proofs.lemmas.List.{get_or_read}
use Rattle.atl_orders.specs.declared.mailing.Mailing.{Mailing}
use Rattle.atl_phase.specs.OrderIndices.{mailing_at, no_entry, no_mailing}
use Rattle.atl_phase.proofs.OrderIndexLaws.{Added, added, counts_by, ended, passed}
use Rattle.atl_phase.proofs.order_indices.add_counting.Goals as goal
use Rattle.atl_phase.proofs.order_indices.add_counting.Goals.{then-counts+in_ok-push, else-counts}

pub loop-index-init : goal.loop-index-init
loop-index-init g c = record { there = λ all. all; tasks = refl }

pub loop-index-preserved : goal.loop-index-preserved
loop-index-preserved g c =
    let is_of = g.P.PhaseVerbs.is_of in
    let aliases = c.args.aliases.now in
    let ms = c.args.mailings.now in
    let at = c.args.at in
    let old = c.args.list.now.items in
    let list = c.loop-index.list.items in
    let i = c.loop-index.index in
    let m = c.index-mailings-at.result in
    let e = c.index-entries-index.result in
    let unit = c.unit_of-unit.result in
    let lines = c.args.lines.now in
    let here : m ≡ mailing_at ms at = get_or_read ms at m c.requires.within c.index-mailings-at.is no_mailing in
    let entries = c.as_slice-entries.ensures ∙ ap (λ (x : Mailing). x.entries) here in
    let inside : i < length (mailing_at ms at).entries = subst (λ es. i < length es) entries c.loop-index-test.true in
    let entry : e ≡ get_or (mailing_at ms at).entries i no_entry = get_or_read (mailing_at ms at).entries i e inside (c.index-entries-index.is ∙ ap (λ es. get_or es i e) entries) no_entry in
    let counts = counts_by is_of aliases ms at i m e unit here entry c.unit_of-unit.ensures lines c.counts.result c.requires.lines c.counts.ensures in
    elim c.if-counts.branch [
      | then-counts+in_ok-push w ↦
          let more : c.if-counts.list.items ≡ list ++ record { unit = unit; line = e.line; faction = m.faction; mailing = at; index = i } ∷ [] = search rules in
          added is_of aliases ms at i m e unit here entry c.unit_of-unit.ensures old list c.if-counts.list.items inside c.loop-index.invariant c.requires.within (counts ∙ w.if-counts.true) more
      | else-counts w ↦
          let same : c.if-counts.list.items ≡ list = search rules in
          subst (Added is_of aliases ms at old (i + 1)) (sym same) (passed is_of aliases ms at old list i inside c.loop-index.invariant (counts ∙ w.if-counts.false))
    ]

pub returns : goal.returns
returns g c =
    let ms = c.args.mailings.now in
    let at = c.args.at in
    let i = c.loop-index.index in
    let here = get_or_read ms at c.index-mailings-at.result c.requires.within c.index-mailings-at.is no_mailing in
    let entries = c.as_slice-entries.ensures ∙ ap (λ (x : Mailing). x.entries) here in
    let after : length (mailing_at ms at).entries ≤ i = subst (λ es. length es ≤ i) entries c.loop-index-test.false in
    ended g.P.PhaseVerbs.is_of c.args.aliases.now ms at c.args.list.now.items c.loop-index.list.items i after c.loop-index.invariant
