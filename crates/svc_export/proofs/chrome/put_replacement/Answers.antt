use Rattle.std.proofs.Common.{◌∙◌, ◌++◌, ℕ, ap}
use Rattle.std.specs.Prelude.{codes}
use Rattle.svc_export.specs.Chrome.{replacement}
use Rattle.svc_export.specs.Events.{instant}
use Rattle.svc_export.proofs.Texts.{three_more}
use Rattle.svc_export.proofs.chrome.put_replacement.Goals as goal

pub returns : goal.returns
unfolding replacement
returns c =
    three_more c.args.text.now.items c.put_instant.new.text.items c.put_word.new.text.items c.put_event_end.new.text.items _ _ _
    (c.in_ok-put_instant.ensures ∙ ap (λ (unit : ℕ). c.args.text.now.items ++ instant (codes "replacement") c.args.at unit) c.from.ensures)
    c.in_ok-put_word.ensures c.in_ok-put_event_end.ensures
