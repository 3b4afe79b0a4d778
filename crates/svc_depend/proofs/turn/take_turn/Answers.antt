use Rattle.std.proofs.Common.{◌≡◌, ◌∙◌, sym, ap, length}
use Rattle.std.specs.Prelude.{slice_index}
use Rattle.std.specs.Option.{option_copied}
use Rattle.svc_image.specs.Slots.{decoded_at}
use Rattle.svc_core_laws.specs.State.{State}
use Rattle.svc_core_laws.specs.Turns.{arrives}
use Rattle.svc_core_laws.specs.Program.{Run, over, wrote}
use Rattle.svc_core_laws.specs.Steps.{step_of, after_ask}
use Rattle.svc_core_laws.proofs.OneStep.{at_entry, arrives_there}
use Rattle.svc_depend.proofs.Touched.{turn_is, turn_reads, turn_writes}
use Rattle.svc_depend.proofs.turn.take_turn.Goals as goal

here : (c : goal.After-arrive) → option_copied c.find-found.result.decoded ≡ decoded_at c.args.image.now c.args.core.now.pc
here c = c.find-found.ensures.decoded ∙ ap (decoded_at c.args.image.now) c.pc.ensures

whole : (c : goal.After-arrive) → step_of c.args.image.now c.args.core.now c.args.memory.now ≡ at_entry c.args.image.now (after_ask (length c.args.memory.now) c.read_only-2.result c.try_found-ask.result c.try_found-ask.new.self (slice_index c.args.memory.now))
whole c =
    turn_is c.args.image.now c.args.core.now c.try_found-ask.new.self c.try_found-ask.result (option_copied c.find-found.result.decoded) (length c.args.memory.now) c.read_only-2.result
    c.requires.running (here c) c.try_found-ask.ensures.outcome c.requires.words c.read_only-2.ensures.value c.args.memory.now c.try_found-ask.ensures.asked

pub returns-clause-core : goal.returns-clause-core
returns-clause-core c =
    arrives_there c.args.image.now c.answer-kept.new.self c.arrive.new.self c.find-there.result.fetched c.pc-2.result c.find-there.ensures.fetched c.pc-2.ensures c.arrive.ensures
    ∙ (ap (arrives c.args.image.now) c.answer-kept.ensures.core ∙ sym (ap (λ (r : Run State). r.core) (whole c)))

pub returns-clause-memory : goal.returns-clause-memory
returns-clause-memory c = λ a. c.answer-kept.ensures.memory a ∙ sym (ap (λ (r : Run State). over (wrote r.log) (slice_index c.args.memory.now) a) (whole c))

pub returns-clause-reads : goal.returns-clause-reads
returns-clause-reads c =
    c.touch_of-touch.ensures.reads
    ∙ turn_reads c.args.image.now c.args.core.now c.try_found-ask.new.self c.try_found-ask.result (option_copied c.find-found.result.decoded) (length c.args.memory.now) c.read_only.result
    c.requires.running (here c) c.try_found-ask.ensures.outcome c.requires.words c.read_only.ensures.value

pub returns-clause-writes : goal.returns-clause-writes
returns-clause-writes c =
    c.touch_of-touch.ensures.writes
    ∙ turn_writes c.args.image.now c.args.core.now c.try_found-ask.new.self c.try_found-ask.result (option_copied c.find-found.result.decoded) (length c.args.memory.now) c.read_only.result
    c.requires.running (here c) c.try_found-ask.ensures.outcome c.requires.words c.read_only.ensures.value
