use Rattle.std.proofs.Common.{inl, inr, refl}
use Rattle.atl_campaign.proofs.campaign.Campaign.set_stock.Goals as goal

pub returns-clause-marks : goal.returns-clause-marks
returns-clause-marks c =
    elim c.mark_stock.ensures.marks [
      | inl e ↦ inl (rw (← c.self.view_is, c.put_stock.ensures.marks, e) refl)
      | inr e ↦ inr (rw (← c.self.view_is, c.put_stock.ensures.marks, e) refl)
    ]
