use Rattle.std.proofs.Common.{◌∙◌, ap, length, min, take}
use Rattle.svc_replay.proofs.Fronting.{front_is}
use Rattle.svc_replay.proofs.fronts.first.Goals as goal

pub returns : goal.returns
returns c =
    let es = c.args.entries.now in
    ap (λ n. take n es) (c.min-count.ensures ∙ ap (λ n. min n (length es)) c.unwrap_or.ensures) ∙ front_is c.args.most es
