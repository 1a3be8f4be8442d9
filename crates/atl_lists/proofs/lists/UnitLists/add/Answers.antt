use Rattle.std.proofs.Common.{ap}
use Rattle.atl_lists.specs.declared.lists.ListKeys.{ListKeys}
use Rattle.atl_lists.proofs.ListLaws.{AreInsideLists-came, AreLists-came, AreLists-undone_at}
use Rattle.atl_lists.proofs.lists.UnitLists.add.Goals as goal

pub returns-in-Err-clause-err : goal.returns-in-Err-clause-err
returns-in-Err-clause-err c units fresh is = record {
  regions = AreLists-undone_at (λ v. v.region) units _ _ _ c.args.number c.args.listing.region c.in_ok-list_number.ensures.ok c.unlist_number.ensures is.regions;
  factions = rw c.in-Err.ensures.err is.factions;
  structures = is.structures;
}

pub returns-in-Ok-list_unless-clause-ok : goal.returns-in-Ok-list_unless-clause-ok
returns-in-Ok-list_unless-clause-ok c units u own fresh is = record {
  regions = AreLists-came (λ v. v.region) units _ _ c.args.number c.args.listing.region u (ap (λ (l : ListKeys). l.region) own) fresh c.in_ok-list_number.ensures.ok is.regions;
  factions = AreLists-came (λ v. v.faction) units _ _ c.args.number c.args.listing.faction u (ap (λ (l : ListKeys). l.faction) own) fresh c.in-Ok.ensures.ok is.factions;
  structures = AreInsideLists-came units _ _ c.args.number c.args.listing.structure u (ap (λ (l : ListKeys). l.structure) own) fresh c.in-Ok-list_unless.ensures.ok is.structures;
}

pub returns-in-Err-list_unless-clause-err : goal.returns-in-Err-list_unless-clause-err
returns-in-Err-list_unless-clause-err c units fresh is = record {
  regions = AreLists-undone_at (λ v. v.region) units _ _ _ c.args.number c.args.listing.region c.in_ok-list_number.ensures.ok c.unlist_number-in-Err-list_unless.ensures is.regions;
  factions = AreLists-undone_at (λ v. v.faction) units _ _ _ c.args.number c.args.listing.faction c.in-Ok.ensures.ok c.unlist_number-in-Err-list_unless-2.ensures is.factions;
  structures = rw c.in-Err-list_unless.ensures.err is.structures;
}
