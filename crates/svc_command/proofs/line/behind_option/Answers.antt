use Rattle.std.proofs.Common.{Some}
use Rattle.std.proofs.lemmas.Bool.Decides.{Decides-eqb}
use Rattle.std.proofs.lemmas.Slice.Eq.{strip_prefix_is}
use Rattle.svc_command.proofs.Asking.{behind_both}
use Rattle.svc_command.proofs.line.behind_option.Goals as goal

pub returns : goal.returns
returns c =
    let long = c.in_ok-long.long.now in
    let first = strip_prefix_is Decides-eqb c.as_bytes.result.now c.as_slice.result.now (Some c.in_ok-long.long) (c.in_ok-long.ensures {u = tt}).cases in
    let second = strip_prefix_is Decides-eqb long c.as_bytes-2.result.now c.strip_prefix-2.result c.strip_prefix-2.ensures.cases in
    behind_both c.args.word.now long c.args.name.now _ c.strip_prefix-2.result
    (rw (c.as_bytes.ensures.value, c.as_slice.ensures) at first) (rw c.as_bytes-2.ensures.value at second)
