use Rattle.std.proofs.Common.{◌∙◌, ap, sym, subst, List}
use Rattle.std.specs.Prelude.{map}
use Rattle.svc_retire.specs.declared.spill.SpillPlace.{SpillPlace}
use Rattle.svc_retire.specs.Spills.{spilled_version, IsListed}
use Rattle.svc_retire.proofs.Listing.{empty_list, empty_view}
use Rattle.svc_retire.proofs.spill.Spill.open.Goals as goal

pub invariant_of-result : goal.invariant_of-result
invariant_of-result c =
    subst (λ (places : List SpillPlace). IsListed places c.in-Ok-empty_words.words.items 0) (sym c.in-Ok.ensures) (empty_list c.in-Ok-empty_words.words.items c.args.words c.in-Ok-empty_words.ensures)

pub returns : goal.returns
returns c = ap (λ (places : List SpillPlace). map spilled_version places) c.in-Ok.ensures ∙ empty_view c.args.words
