use Rattle.std.proofs.Common.{◌∙◌}
use Rattle.svc_names.proofs.Last.{last_decides}
use Rattle.svc_names.proofs.name.comes_next.Goals as goal

pub returns-in-Some : goal.returns-in-Some
returns-in-Some c = c.is_before.ensures ∙ last_decides c.args.names.now c.in-Some.last.now c.args.text.now c.args.address c.in-Some.ensures.value
