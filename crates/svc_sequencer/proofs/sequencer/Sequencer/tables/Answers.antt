use Rattle.std.proofs.Common.{rules, ◌≡◌, ◌∙◌, Some, None, ap, length, replicate, map}
use Rattle.svc_sequencer.proofs.Guided.{no_successors}
use Rattle.svc_sequencer.proofs.sequencer.Sequencer.tables.Goals as goal

pub returns : goal.returns
returns c =
    let xs = c.in_ok-entries.entries.items in
    let entries : xs ≡ c.args.image.now.entries = c.in_ok-entries.ensures.items ∙ c.entries.ensures.value in
    let count : c.len.result ≡ length xs = c.len.ensures ∙ c.in_ok-entries.entries.ok.0 in
    let made : c.in_ok-successors.successors.items ≡ replicate c.len.result None = c.in_ok-successors.ensures.items_if_clones_equal (λ y h. search (rules, h)) in
    let table : c.in_ok-successors.successors.items ≡ map (λ e. None) c.args.image.now.entries =
    no_successors xs c.in_ok-successors.successors.items (made ∙ ap (λ n. replicate n None) count) ∙ ap (map (λ e. None)) entries in
    λ i. record { entries = entries i; due = Some (c.start.ensures.value i); successors = table i; active = c.new.ensures i }
