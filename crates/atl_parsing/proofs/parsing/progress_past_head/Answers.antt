use Rattle.atl_parsing.specs.Checks.{head_checks}
use Rattle.atl_parsing.specs.Finding.{field_pairs}
use Rattle.atl_parsing.proofs.HeadLaws as laws
use Rattle.atl_parsing.proofs.parsing.progress_past_head.Goals as goal

pub returns : goal.returns
returns c =
    let found = laws.finds_head c.args.seen.now c.args.front.now c.of-method.result.now c.of-target.result.now c.rest_after-rest.result.now c.args.fields.now c.first_fields-fields.result.now c.args.head.now c.requires.front c.requires.finds c.requires.room c.of-method.ensures c.of-target.ensures c.first_fields-fields.ensures c.rest_after-rest.ensures in
    let checks = head_checks c.args.head.now.version c.of-method.result.now c.of-target.result.now (field_pairs c.args.front.now c.first_fields-fields.result.now) in
    laws.if_ok c.progress_with_body.result (λ outcome h. laws.comes_whole c.args.seen.now c.rest_after-rest.result.now checks outcome found h) c.progress_with_body.ensures
