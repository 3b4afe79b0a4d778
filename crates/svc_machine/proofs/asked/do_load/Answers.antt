use Rattle.std.proofs.Common.{ℕ, List, Option, Some, None, length, ◌≡◌, ◌∙◌, ap, sym, arith}
use Rattle.std.proofs.lemmas.Grind.{common_steps}
use Rattle.svc_core.specs.Places.{trap_of}
use Rattle.svc_core_laws.specs.declared.ask.Ask.TheVariants as ask
use Rattle.svc_core_laws.specs.Numbers.{load_bytes}
use Rattle.svc_core_laws.specs.Turns.{access_trap, data_words}
use Rattle.svc_bus.specs.State.{bus_state}
use Rattle.svc_machine_laws.specs.Refusals.{asked_word, word_unless}
use Rattle.svc_machine_laws.specs.Replies.{serves_at}
use Rattle.svc_machine.specs.Asked.{refused_for}
use Rattle.svc_machine.proofs.AskedTurns.{served_by_one}
use Rattle.svc_machine.proofs.asked.do_load.Goals as goal

pub returns-in_ok-word-in-Ok : goal.returns-in_ok-word-in-Ok
returns-in_ok-word-in-Ok c =
    let inside : access_trap (data_words c.args.image.now) (load_bytes c.args.kind) c.args.addr ≡ None =
    ap (λ (ws : List ℕ). access_trap (length ws) (load_bytes c.args.kind) c.args.addr) (sym c.data_words.ensures.value) ∙ sym c.load_place.ensures.trap ∙ ap trap_of c.in-Ok.is in
    let word : asked_word c.args.image.now (ask.Load c.args.kind c.args.rd c.args.addr) ≡ Some c.in-Ok.access.word =
    ap (λ (o : Option ℕ). word_unless o c.args.addr) inside ∙ ap {B = Option ℕ} (λ (a : ℕ). Some a) (sym c.in-Ok.ensures.place.0) in
    record {
      refused = sym (c.in_ok-word-in-Ok.ensures {u = tt}).refused ∙ sym (ap (refused_for (bus_state c.args.bus.now) c.args.seat.now.lease.unit.0) word);
      unchanged = tt;
      done = λ t p runs.
          let ens = c.in_ok-word-in-Ok.ensures {u = tt} in
          let value = ens.value t p runs in
          let table = ens.table t p runs in
          let served : c.in_ok-word-in-Ok.served ≡ serves_at t p c.in-Ok.access.word = served_by_one c.in_ok-word-in-Ok.served _ (ens.served t p runs) in
          grind (arith, common_steps, value, table, served);
    }
