use Rattle.std.proofs.Common.{ap}
use Rattle.clap.specs.Words.{rule_of}
use Rattle.clap.specs.declared.builder.arg.Arg.{Arg}
use Rattle.svc_arguments.specs.Told.{is_told}
use Rattle.svc_arguments.proofs.command.by_default.Goals as goal

pub returns-in-Some-clause-told : goal.returns-in-Some-clause-told
returns-in-Some-clause-told c = rw c.in-Some.is (ap (λ (a : Arg). is_told (rule_of a)) c.default_value.ensures)
