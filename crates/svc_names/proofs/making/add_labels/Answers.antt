use Rattle.std.proofs.Common.{◌<◌, List, arith, get_or, length, map, subst, sym, take}
use Rattle.std.proofs.lemmas.List.{take_all, take_more}
use Rattle.svc_asm.specs.declared.labels.Label.{Label}
use Rattle.svc_asm.specs.Labels.{parts_of}
use Rattle.svc_names.specs.Made.{IsTableOf}
use Rattle.svc_names.proofs.Made.{no_labels, none_below}
use Rattle.svc_names.proofs.making.add_labels.Goals as goal

pub loop-label-init : goal.loop-label-init
loop-label-init c = rw (c.requires.empty) (record { made = no_labels; low = λ k d from low. tt })

pub loop-label-preserved : goal.loop-label-preserved
loop-label-preserved c =
    let labels = c.args.labels.now in
    let i = c.loop-label.label-index in
    let inside : i < length labels = c.loop-label-test.true in
    record {
      made = subst (λ (ls : List Label). IsTableOf (map parts_of ls) c.add_label.new.names.items) (sym (take_more labels i _ inside))
          (c.in_ok-add_label.ensures.made (take i labels) c.loop-label.invariant.made (c.loop-label.invariant.low i _ (omega arith) inside));
      low = λ k d from low.
          c.in_ok-add_label.ensures.low (parts_of (get_or labels k d)) (none_below labels c.requires.order i k d _ (omega (arith, from)) low)
          (c.loop-label.invariant.low k d (omega (arith, from)) low);
    }

pub returns : goal.returns
returns c =
    subst (λ (ls : List Label). IsTableOf (map parts_of ls) c.loop-label.names.items) (take_all c.loop-label.label-index c.args.labels.now c.loop-label-test.false)
    c.loop-label.invariant.made
