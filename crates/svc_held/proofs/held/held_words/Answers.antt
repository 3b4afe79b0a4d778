use Rattle.std.proofs.Common.{◌∙◌, ℕ, List, ap, subst}
use Rattle.svc_image.specs.Image.{IsImage}
use Rattle.svc_core_laws.specs.Turns.{data_words}
use Rattle.svc_machine.specs.Value.{MachineValue}
use Rattle.svc_history_laws.specs.declared.entry.Entry.{Entry}
use Rattle.svc_held.specs.Named.{AreNamed}
use Rattle.svc_held.proofs.Holding.{held, if_ok}
use Rattle.svc_held.proofs.held.held_words.Goals as goal

pub returns : goal.returns
returns c =
    let r = c.args.recorder.now in
    let asked = c.args.asked in
    let same = c.machine-machine.ensures.machine in
    let sound = subst IsImage (c.image.ensures ∙ ap (λ (m : MachineValue). m.image) same) c.start-start.ensures.sound in
    let words = c.words_of.ensures ∙ ap (λ (m : MachineValue). data_words m.image) same in
    if_ok c.named_words.result _ _
    (λ named are.
    held r c.machine-machine.ensures.legal sound asked named.items
    (subst (λ (n : ℕ). AreNamed r.entries n asked named.items) words
    (subst (λ (es : List Entry). AreNamed es c.words_of.result asked named.items) c.entries.ensures.entries are)))
    c.named_words.ensures
