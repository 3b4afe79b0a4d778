use Rattle.std.proofs.Common.{◌∙◌, ◌≡◌, ap, sym, Some, option_map}
use Rattle.svc_base.specs.declared.ids.WordAddr.{WordAddr}
use Rattle.svc_bus_laws.proofs.RefusalProofs.{same_full}
use Rattle.svc_machine_laws.specs.Refusals.{asked_word, full_set}
use Rattle.svc_bus.specs.State.{bus_state}
use Rattle.svc_machine.proofs.machine.Machine.full_set.Goals as goal

pub returns : goal.returns
returns c =
    rw (← c.self.view_is) (λ t agrees.
    let word : asked_word c.self.inside.image c.args.ask ≡ Some c.in_ok-addr.addr.0 = sym c.asked_word.ensures ∙ ap (option_map (λ (a : WordAddr). a.0)) c.in_ok-addr.was in
    c.set_full.ensures.address ∙ same_full (bus_state c.self.inside.bus) t c.args.unit.0 c.in_ok-addr.addr.0 agrees ∙ ap (full_set t c.args.unit.0) (sym word))
