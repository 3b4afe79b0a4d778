use Rattle.std.proofs.Common.{◌≡◌, ◌++◌, drop}
use Rattle.svc_instructions.specs.Instructions.{parts_of}
use Rattle.svc_list.specs.Listings.{parts_text}
use Rattle.svc_list.proofs.text.put_parts.Given as goal

abbrev pub invariant-loop-part : goal.invariant-loop-part
invariant-loop-part l = l.out.items ++ parts_text l.to (drop l.part-index l.part-items) l.word ≡ l.initial.out.items ++ parts_text l.to (parts_of l.fn.row) l.word
