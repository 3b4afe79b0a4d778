use Rattle.std.proofs.Common.{◌≡◌, drop}
use Rattle.svc_desk.specs.Held.{held_by}
use Rattle.svc_desk.proofs.packed.Lent.find.Given as goal

-- the file is looked for among those that are left
abbrev pub invariant-loop-size : goal.invariant-loop-size
invariant-loop-size l =
    held_by l.fn.self.sizes.now l.fn.self.contents.now l.fn.name ≡ held_by (drop l.size-index l.size-items) l.rest l.fn.name
