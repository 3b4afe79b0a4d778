use Rattle.std.proofs.Common.{◌≡◌, map, take}
use Rattle.svc_draft.proofs.making.places_of.Given as goal

-- those so far
abbrev pub invariant-loop-mark : goal.invariant-loop-mark
invariant-loop-mark l = l.places.items ≡ map (λ m. m.place) (take l.mark-index l.marks)
