use Rattle.std.proofs.Common.{◌≡◌, drop}
use Rattle.svc_layout.specs.Addresses.{first_local}
use Rattle.svc_draft.proofs.labels.first_local.Given as goal

abbrev pub invariant-loop-local : goal.invariant-loop-local
invariant-loop-local l = first_local l.number (drop l.local-index l.locals) ≡ first_local l.number l.locals
