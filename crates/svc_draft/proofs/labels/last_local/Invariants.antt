use Rattle.std.proofs.Common.{◌≡◌, drop, None}
use Rattle.svc_layout.specs.Addresses.{last_local}
use Rattle.svc_draft.proofs.labels.last_local.Given as goal

abbrev pub invariant-loop-local : goal.invariant-loop-local
invariant-loop-local l = last_local l.number l.found (drop l.local-index l.locals) ≡ last_local l.number None l.locals
