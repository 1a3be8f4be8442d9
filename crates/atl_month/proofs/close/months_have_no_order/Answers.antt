use Rattle.atl_month.proofs.MonthLaws.{mail_order_does_not_count}
use Rattle.atl_month.proofs.close.months_have_no_order.Goals as goal

pub returns : goal.returns
returns c = mail_order_does_not_count
