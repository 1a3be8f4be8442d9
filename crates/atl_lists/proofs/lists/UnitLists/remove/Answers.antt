use Rattle.std.proofs.Common.{ap}
use Rattle.atl_lists.specs.declared.lists.ListKeys.{ListKeys}
use Rattle.atl_lists.proofs.ListLaws.{AreInsideLists-went, AreLists-went}
use Rattle.atl_lists.proofs.lists.UnitLists.remove.Goals as goal

pub returns : goal.returns
returns c units u own there is = record {
  regions = AreLists-went (λ v. v.region) units _ _ c.args.number c.args.listing.region u (ap (λ (l : ListKeys). l.region) own) there c.unlist_number.ensures is.regions;
  factions = AreLists-went (λ v. v.faction) units _ _ c.args.number c.args.listing.faction u (ap (λ (l : ListKeys). l.faction) own) there c.unlist_number-2.ensures is.factions;
  structures = AreInsideLists-went units _ _ c.args.number c.args.listing.structure u (ap (λ (l : ListKeys). l.structure) own) there c.unlist_unless.ensures is.structures;
}
