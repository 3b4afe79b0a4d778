use Rattle.std.proofs.Common.{◌≡◌, drop}
use Rattle.svc_instructions.specs.Instructions.{parts_of}
use Rattle.svc_list.specs.Listings.{led_along}
use Rattle.svc_list.proofs.labels.led_along.Given as goal

abbrev pub invariant-loop-part : goal.invariant-loop-part
invariant-loop-part l = led_along l.address l.word (drop l.part-index l.part-items) ≡ led_along l.address l.word (parts_of l.fn.row)
