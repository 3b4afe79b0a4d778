use Rattle.std.proofs.Common.{◌≡◌, drop}
use Rattle.svc_tokens.specs.Names.{named_in}
use Rattle.svc_tokens.proofs.names.number_named.Given as goal

abbrev pub invariant-loop-row : goal.invariant-loop-row
invariant-loop-row l = named_in (drop l.row-index l.rows) l.letters ≡ named_in l.rows l.letters
