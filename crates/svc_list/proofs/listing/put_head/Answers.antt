use Rattle.svc_list.proofs.Printing.{head_one, head_two}
use Rattle.svc_list.proofs.listing.put_head.Goals as goal

pub returns-in_ok-put_start-in-One : goal.returns-in_ok-put_start-in-One
returns-in_ok-put_start-in-One c = head_one _ _ _ _ _ _ _ c.in-One.is c.in_ok-put_line.ensures c.in_ok-put_line-in-One.ensures c.in_ok-put_start-in-One.ensures

pub returns-in_ok-put_start-in-Two : goal.returns-in_ok-put_start-in-Two
returns-in_ok-put_start-in-Two c = head_two _ _ _ _ _ _ c.in-Two.is c.in_ok-put_line.ensures c.in_ok-put_start-in-Two.ensures
