use Rattle.std.proofs.lemmas.Option.{slice_get-get_or}
use Rattle.svc_reasons.proofs.Explaining.{explained}
use Rattle.svc_reasons.proofs.explained.explain_entries.Goals as goal

pub returns : goal.returns
returns c =
    let kept = c.in_ok-recorder.ensures in
    let said = c.retry-answer.ensures in
    explained c.args.compared c.args.image c.args.config c.args.entries.now c.args.index _ _ _ c.in_ok-recorder.recorder c.retry-answer.result
    (slice_get-get_or c.args.entries.now c.args.index _ c.if-index-entries.false)
    kept.image kept.config kept.sound said.answer said.numbers c.entry_compared.ensures c.in_ok-text.ensures
