use Rattle.std.proofs.Common.{◌≡◌, ◌∙◌, ◌++◌, ℕ, List, ap, sym}
use Rattle.svc_answer.specs.Exports.{word_asked}
use Rattle.svc_held.proofs.Ranges.{lists_more}
use Rattle.svc_replay.proofs.export.words_asked.Goals as goal

pub loop-word-preserved : goal.loop-word-preserved
loop-word-preserved c =
    let f = word_asked c.args.asked in
    c.in_ok-push_asked.ensures ∙ ap (λ (words : List ℕ). words ++ f c.loop-word.word) c.loop-word.invariant ∙ sym (lists_more f c.loop-word.word)
