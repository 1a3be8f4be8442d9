use Rattle.std.proofs.Common.{[]}
use Rattle.atl_writing.specs.OwnStatements.{joins_head, joins_faction, joins_unit}
use Rattle.atl_keeping.proofs.JoinLaws.{enrolling_done}
use Rattle.atl_sql.proofs.WriteLaws.{among_only, three_steps, stops, stops_second}
use Rattle.atl_keeping.proofs.joining.put_newcomer.Goals as goal

pub returns : goal.returns
returns g c =
    three_steps g.S.Store
    (enrolling_done c.args.arrival.now.number c.args.arrival.now.faction.now c.args.arrival.now.unit_number c.args.arrival.now.unit.now c.args.campaign.now.value [])
    (among_only g.S.Store _ _ joins_head c.in_ok-put_campaign_row.ensures) (among_only g.S.Store _ _ (joins_faction c.requires.faction_is) c.in_ok-put.ensures) (among_only g.S.Store _ _ (joins_unit c.requires.place_is c.requires.unit_is) c.put-2.ensures)

pub returns-in_err-put_campaign_row : goal.returns-in_err-put_campaign_row
returns-in_err-put_campaign_row g c =
    stops g.S.Store (among_only g.S.Store _ _ joins_head c.in_err-put_campaign_row.ensures) c.from_residual.ensures

pub returns-in_err-put : goal.returns-in_err-put
returns-in_err-put g c =
    stops_second g.S.Store (among_only g.S.Store _ _ joins_head c.in_ok-put_campaign_row.ensures) (among_only g.S.Store _ _ (joins_faction c.requires.faction_is) c.in_err-put.ensures) c.from_residual-in_err-put.ensures
