use Rattle.std.proofs.Common.{◌≡◌, ◌∙◌, ◌<◌, ◌≤◌, ◌+◌, ℕ, suc, Some, None, length, sym, ap, subst, arith}
use Rattle.std.specs.Prelude.{IfSome}
use Rattle.svc_core_laws.specs.State.{State, limit_of}
use Rattle.svc_depend.proofs.Linked.{more_linked, none_linked, whole_linked}
use Rattle.svc_depend.proofs.Walked.{begun, goes_on, whole, runs_still, none_left, not_both}
use Rattle.svc_depend.proofs.links.link_task.Goals as goal
use Rattle.svc_depend.proofs.links.link_task.Goals.{else-loop-turn-test, then-loop-turn-test+then-not-is_running}

pub loop-turn-init : goal.loop-turn-init
loop-turn-init c = record {
  walked = begun c.args.image.now c.args.entry c.args.memory.now c.args.tracker.now c.start-core.result c.start-core.ensures c.requires.below;
  linked = none_linked c.args.image.now c.args.entry c.args.memory.now c.args.tracker.now c.args.links.now.items c.requires.empty;
}

reads_inside : (c : goal.After-follow) → IfSome c.take_turn-touch.result.reads (λ w. w < length c.loop-turn.tracker.words.items)
reads_inside c =
    let size : length c.loop-turn.memory ≡ length c.loop-turn.tracker.words.items = c.loop-turn.auto.memory ∙ sym c.requires.size ∙ sym c.loop-turn.invariant.walked.size in
    subst (λ (n : ℕ). IfSome c.take_turn-touch.result.reads (λ w. w < n)) size c.take_turn-touch.ensures.read_inside

pub loop-turn-preserved : goal.loop-turn-preserved
loop-turn-preserved c = record {
  walked = goes_on c.args.image.now c.args.entry c.loop-turn._turn c.args.memory.now c.args.tracker.now c.loop-turn.core c.take_turn-touch.new.core c.loop-turn.memory c.take_turn-touch.new.memory c.loop-turn.tracker c.follow.new.self c.take_turn-touch.result
      c.loop-turn.invariant.walked (runs_still c.loop-turn.core.done (sym c.is_running.ensures ∙ c.if-not-is_running.false))
      c.take_turn-touch.ensures.core c.take_turn-touch.ensures.memory c.take_turn-touch.ensures.reads c.take_turn-touch.ensures.writes c.follow.ensures.followed c.follow.ensures.below c.follow.ensures.tracked;
  linked = more_linked c.args.image.now c.args.entry c.loop-turn._turn c.args.memory.now c.args.tracker.now c.loop-turn.core c.loop-turn.memory c.loop-turn.tracker c.take_turn-touch.result.reads c.loop-turn.links.items c.add_link.new.links.items
      c.loop-turn.invariant.walked c.take_turn-touch.ensures.reads (reads_inside c) c.in_ok-add_link.ensures c.loop-turn.invariant.linked;
}

pub unreachable-requires : goal.unreachable-requires
unreachable-requires c =
    let none : c.loop-turn.core.done ≡ None = sym c.done.ensures ∙ c.in-None.is in
    let limit : c.limit-turn-end.result ≡ limit_of c.args.image.now c.args.entry = c.limit-turn-end.ensures.value ∙ ap (λ (s : State). s.limit) c.start-core.ensures in
    elim c.loop-turn-test.branch [
      | else-loop-turn-test w ↦
          let all : c.loop-turn._turn ≡ suc (limit_of c.args.image.now c.args.entry) = omega (arith, limit, w.loop-turn-test.false) in
          none_left c.args.image.now c.args.entry c.loop-turn._turn c.args.memory.now c.args.tracker.now c.loop-turn.core c.loop-turn.memory c.loop-turn.tracker all none c.loop-turn.invariant.walked
      | then-loop-turn-test+then-not-is_running w ↦ not_both c.loop-turn.core.done none (sym w.is_running.ensures ∙ w.if-not-is_running.true)
    ]

pub returns-clause-few : goal.returns-clause-few
returns-clause-few c = let last : c.loop-turn._turn ≤ c.limit-turn-end.result + 1 = c.loop-turn.auto._turn-end in let few = c.loop-turn.invariant.walked.few in omega (arith, last, few, c.limit-turn-end.ensures.few)

pub returns-clause-walked : goal.returns-clause-walked
returns-clause-walked c =
    let ended : c.loop-turn.core.done ≡ Some c.in-Some.end = sym c.done.ensures ∙ c.in-Some.is in
    let limit : c.limit-turn-end.result ≡ limit_of c.args.image.now c.args.entry = c.limit-turn-end.ensures.value ∙ ap (λ (s : State). s.limit) c.start-core.ensures in
    let last : c.loop-turn._turn ≤ c.limit-turn-end.result + 1 = c.loop-turn.auto._turn-end in
    let few : c.loop-turn._turn ≤ suc (limit_of c.args.image.now c.args.entry) = omega (arith, last, limit) in (
      c.loop-turn.core,
      ended,
      whole c.args.image.now c.args.entry c.loop-turn._turn c.args.memory.now c.args.tracker.now c.loop-turn.core c.loop-turn.memory c.loop-turn.tracker c.in-Some.end few ended c.loop-turn.invariant.walked,
    )

pub returns-clause-linked : goal.returns-clause-linked
returns-clause-linked c =
    let ended : c.loop-turn.core.done ≡ Some c.in-Some.end = sym c.done.ensures ∙ c.in-Some.is in
    let limit : c.limit-turn-end.result ≡ limit_of c.args.image.now c.args.entry = c.limit-turn-end.ensures.value ∙ ap (λ (s : State). s.limit) c.start-core.ensures in
    let last : c.loop-turn._turn ≤ c.limit-turn-end.result + 1 = c.loop-turn.auto._turn-end in
    let few : c.loop-turn._turn ≤ suc (limit_of c.args.image.now c.args.entry) = omega (arith, last, limit) in
    whole_linked c.args.image.now c.args.entry c.loop-turn._turn c.args.memory.now c.args.tracker.now c.loop-turn.core c.loop-turn.memory c.loop-turn.tracker c.loop-turn.links.items c.in-Some.end few ended
    c.loop-turn.invariant.walked c.loop-turn.invariant.linked
