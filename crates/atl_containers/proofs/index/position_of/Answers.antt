use Rattle.std.proofs.Common.{rules}
use Rattle.std.proofs.lemmas.Fn.{always_returns_same}
use Rattle.atl_containers.specs.declared.index.IndexEntry.{IndexEntry}
use Rattle.atl_containers.proofs.IndexLaws.{found-by_search, missing-by_search}
use Rattle.atl_containers.proofs.index.position_of.Goals as goal

pub returns-clause-found : goal.returns-clause-found
returns-clause-found c =
    found-by_search c.args.entries.now c.args.number c.binary_search_by_key.result c.binary_search_by_key.ensures.bound
    (c.binary_search_by_key.ensures.position (λ (p : IndexEntry). p.number) (always_returns_same _ _ _ (λ a r q k. search rules)))

pub returns-clause-missing : goal.returns-clause-missing
returns-clause-missing c =
    missing-by_search c.args.entries.now c.args.number c.binary_search_by_key.result c.requires c.binary_search_by_key.ensures.bound
    (c.binary_search_by_key.ensures.position (λ (p : IndexEntry). p.number) (always_returns_same _ _ _ (λ a r q k. search rules)))
