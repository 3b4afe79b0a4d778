use Rattle.std.proofs.Common.{◌≡◌, ◌∙◌, ap, sym, None, unwrap_or, slice_get, get_or}
use Rattle.svc_machine_laws.specs.Guess.{entry_after}
use Rattle.svc_sequencer.proofs.Placed.{stands_nowhere}
use Rattle.svc_sequencer.proofs.Searched.{found}
use Rattle.svc_sequencer.proofs.sequencer.following.Goals as goal

pub returns-then-not-stands_at : goal.returns-then-not-stands_at
returns-then-not-stands_at c =
    let xs = c.args.entries.now in
    let f = stands_nowhere xs c.args.successors.now c.args.entry c.args.index c.requires.rising c.requires.as_many c.requires.index (λ at. absurd (cc (c.stands_at.ensures.1 at, c.if-not-stands_at.true))) in
    c.entry_from.ensures
    ∙ ap (λ o. unwrap_or o (unwrap_or (slice_get xs 0) 0)) (sym f.next)
    ∙ sym (ap (λ o. unwrap_or o (entry_after xs c.args.entry)) f.successor)

pub returns-in-Some : goal.returns-in-Some
returns-in-Some c =
    let xs = c.args.entries.now in
    let at = c.stands_at.ensures.0 c.if-not-stands_at.false in
    let f = found xs c.args.successors.now c.args.entry c.args.index c.requires.rising c.requires.as_many at.0 at.1 in
    sym (ap (λ o. unwrap_or o (entry_after xs c.args.entry)) (f.successor ∙ c.in-Some.is))

pub returns-in-None : goal.returns-in-None
returns-in-None c =
    let xs = c.args.entries.now in
    let at = c.stands_at.ensures.0 c.if-not-stands_at.false in
    let f = found xs c.args.successors.now c.args.entry c.args.index c.requires.rising c.requires.as_many at.0 at.1 in
    let none : get_or c.args.successors.now c.args.index None ≡ None = c.in-None.is in
    c.entry_from-in-None.ensures
    ∙ ap (λ o. unwrap_or o (unwrap_or (slice_get xs 0) 0)) (sym f.next)
    ∙ sym (ap (λ o. unwrap_or o (entry_after xs c.args.entry)) (f.successor ∙ none))
