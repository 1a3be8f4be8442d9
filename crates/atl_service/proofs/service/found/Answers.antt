use Rattle.std.proofs.Common.{Some, true, sym, ap, subst}
use Rattle.atl_campaign.specs.Campaign.{CampaignValue, MarkedCampaign}
use Rattle.atl_commands.specs.Service.{IsConsistent}
use Rattle.atl_service.specs.Found.{Founds}
use Rattle.atl_service.proofs.FoundServiceLaws.{refuses_unchanged, founded_consistent, founds_on, refused_by_store}
use Rattle.atl_service.proofs.service.found.Goals as goal

pub returns-in-Err-clause-err : goal.returns-in-Err-clause-err
returns-in-Err-clause-err g c =
    refuses_unchanged g.S.Store c.args.conn c.args.world_text.now c.args.pass.now c.in-Err.why c.in-Err.ensures.err

pub opened-requires : goal.opened-requires
opened-requires g c = record {
  consistent = subst (λ (s : CampaignValue). IsConsistent g.S.Store c.create.new.conn c.in-Ok.both.0 s true) (sym (ap (λ (m : MarkedCampaign). m.value) c.in-Ok-create.ensures.unmarked)) (founded_consistent g.S.Store c.create.new.conn c.in-Ok.both.0 c.in-Ok.both.1.value c.args.world_text.now c.in-Ok-create.ensures.ok.idle c.in-Ok.ensures.good c.in-Ok.ensures.ok.world c.in-Ok-create.ensures.ok.tables);
  unmarked = λ up. ap (λ (m : MarkedCampaign). m.marks) c.in-Ok-create.ensures.unmarked;
}

pub returns-in-Ok-create-clause-ok : goal.returns-in-Ok-create-clause-ok
returns-in-Ok-create-clause-ok g c =
    rw c.opened.ensures (subst (λ (s : CampaignValue). Founds g.S.Store c.args.conn c.args.world_text.now c.args.pass.now (record { conn = c.create.new.conn; world = c.in-Ok.both.0; campaign = Some s })) (sym (ap (λ (m : MarkedCampaign). m.value) c.in-Ok-create.ensures.unmarked))
    (founds_on g.S.Store c.args.conn c.create.new.conn c.in-Ok.both.0 c.in-Ok.both.1.value c.args.world_text.now c.args.pass.now c.in-Ok.ensures.ok c.in-Ok-create.ensures.ok c.create.ensures.later))

pub returns-in-Err-create-clause-err : goal.returns-in-Err-create-clause-err
returns-in-Err-create-clause-err g c =
    rw c.from.ensures (refused_by_store g.S.Store c.args.conn c.create.new.conn c.in-Ok.both.0 c.in-Ok.both.1.value c.args.world_text.now c.args.pass.now c.in-Ok.ensures.ok c.create.ensures.later c.in-Err-create.fault c.in-Err-create.ensures.err)
