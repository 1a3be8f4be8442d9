use Rattle.std.proofs.Common.{◌≡◌, ◌+◌, ◌++◌, ◌∷◌, [], drop, filter, get_or, true, false, ap, sym, ◌∙◌, rules, append_assoc}
use Rattle.std.specs.Prelude.{is_some}
use Rattle.std.specs.FinMap.{get, insert}
use Rattle.std.proofs.lemmas.List.{drop_more}
use Rattle.atl_teaching.specs.Teach.{first_mentions}
use Rattle.atl_teaching.proofs.MentionLaws.{all_new, is_new, first_mention_is_kept, later_mention_is_dropped}
use Rattle.atl_teaching.proofs.teach.first_mentions.Goals as goal
use Rattle.atl_teaching.proofs.teach.first_mentions.Goals.{then-is_none+in_ok-insert+in_ok-push, else-is_none}

pub loop-number-init : goal.loop-number-init
loop-number-init c =
    let all = first_mentions c.args.numbers.now in
    ap (λ l. l ++ filter (is_new c.new-seen.result) all) c.new-list.ensures.items
    ∙ ap (λ seen. filter (is_new seen) all) c.new-seen.ensures ∙ all_new all

pub loop-number-preserved : goal.loop-number-preserved
loop-number-preserved c =
    let xs = c.args.numbers.now in
    let i = c.loop-number.number-index in
    let n = get_or xs i 0 in
    let seen = c.loop-number.seen in
    let list = c.loop-number.list.items in
    let rest = drop (i + 1) xs in
    let more = ap (λ ns. filter (is_new seen) (first_mentions ns)) (drop_more xs i 0 c.loop-number-test.true) in
    elim c.if-is_none.branch [
      | then-is_none+in_ok-insert+in_ok-push w ↦
          let new : is_some (get seen n) ≡ false = search rules in
          let last = filter (is_new (insert seen n n)) (first_mentions rest) in
          let pushed : c.if-is_none.list.items ≡ list ++ n ∷ [] = search rules in
          let noted : c.if-is_none.seen ≡ insert seen n n = search rules in
          ap (λ l. l ++ filter (is_new c.if-is_none.seen) (first_mentions rest)) pushed
          ∙ ap (λ s. (list ++ n ∷ []) ++ filter (is_new s) (first_mentions rest)) noted
          ∙ append_assoc list (n ∷ []) last ∙ ap (λ l. list ++ l) (sym (more ∙ first_mention_is_kept seen n rest new))
          ∙ c.loop-number.invariant
      | else-is_none w ↦
          let there : is_some (get seen n) ≡ true = search rules in
          let kept : c.if-is_none.list.items ≡ list = search rules in
          let same : c.if-is_none.seen ≡ seen = search rules in
          ap (λ l. l ++ filter (is_new c.if-is_none.seen) (first_mentions rest)) kept
          ∙ ap (λ s. list ++ filter (is_new s) (first_mentions rest)) same
          ∙ ap (λ l. list ++ l) (sym (more ∙ later_mention_is_dropped seen n rest there)) ∙ c.loop-number.invariant
    ]
