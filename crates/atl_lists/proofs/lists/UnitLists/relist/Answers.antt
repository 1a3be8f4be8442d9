use Rattle.std.proofs.Common.{ap, sym, ◌∙◌}
use Rattle.atl_lists.specs.declared.lists.ListKeys.{ListKeys}
use Rattle.atl_lists.proofs.ListLaws.{AreInsideLists-relisted, AreLists-kept, AreLists-relisted, AreLists-apart}
use Rattle.atl_lists.proofs.lists.UnitLists.relist.Goals as goal

pub returns-in-Err-clause-err : goal.returns-in-Err-clause-err
returns-in-Err-clause-err c units is = record {
  regions = AreLists-apart (λ v. v.region) units _ _ _ c.args.number c.args.to.region c.args.from.region c.in_ok-list_unless.ensures.ok c.unlist_unless.ensures is.regions;
  factions = is.factions;
  structures = rw c.in-Err.ensures.err is.structures;
}

pub returns-clause-ok : goal.returns-clause-ok
returns-clause-ok c units u v own goes there is = record {
  regions = AreLists-relisted (λ w. w.region) units _ _ _ c.args.number c.args.from.region c.args.to.region u v there (ap (λ (l : ListKeys). l.region) own) (ap (λ (l : ListKeys). l.region) goes) c.in_ok-list_unless.ensures.ok c.unlist_unless-2.ensures is.regions;
  factions = AreLists-kept (λ w. w.faction) units _ c.args.number u v there (ap (λ (l : ListKeys). l.faction) own ∙ sym c.requires ∙ sym (ap (λ (l : ListKeys). l.faction) goes)) is.factions;
  structures = AreInsideLists-relisted units _ _ c.args.number c.args.from.structure c.args.to.structure u v there (ap (λ (l : ListKeys). l.structure) own) (ap (λ (l : ListKeys). l.structure) goes) c.in-Ok.ensures.ok is.structures;
}
