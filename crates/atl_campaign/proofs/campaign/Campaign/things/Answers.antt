use Rattle.atl_campaign.proofs.campaign.Campaign.things.Goals as goal

pub returns-clause-marks : goal.returns-clause-marks
returns-clause-marks c =
    rw (c.len.ensures.value, ← c.self.view_is) c.self.invariant.amounts.numbers

pub returns-clause-books : goal.returns-clause-books
returns-clause-books c = rw (← c.self.view_is) c.len.ensures.books
