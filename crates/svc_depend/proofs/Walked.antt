-- A task is followed to its end.
use Rattle.std.proofs.Common.{ℕ, zero, suc, ◌≡◌, ◌+◌, ◌-◌, ◌*◌, ◌≤◌, ◌++◌, true, false, cond, List, [], Option, Some, None, refl, sym, ap, ◌∙◌, subst, arith, add-one, is_some, is_none}
use Rattle.std.specs.Prelude.{slice_index}
use Rattle.svc_image.specs.Image.{Image}
use Rattle.svc_core_laws.specs.declared.end.End.{End}
use Rattle.svc_core_laws.specs.State.{State, limit_of}
use Rattle.svc_core_laws.specs.Program.{Memory, Program, IsProgram, Run, Want, Action, act, exposed_words, over, output, part, task, wrote}
use Rattle.svc_core_laws.specs.Words.{program, wants}
use Rattle.svc_core_laws.specs.Steps.{step_of, HasRun}
use Rattle.svc_core_laws.proofs.Going.{has_stepped}
use Rattle.svc_core_laws.proofs.Ends.{is_program}
use Rattle.svc_machine_laws.proofs.Parts.{part_stays}
use Rattle.svc_depend_laws.specs.Chain.{Clock, Times, clock_of, tick, word_read, word_written}
use Rattle.svc_depend_laws.specs.Turns.{turns_taken}
use Rattle.svc_depend.specs.declared.tracker.Tracker.{Tracker}
use Rattle.svc_depend.specs.declared.turn.Touch.{Touch}
use Rattle.svc_depend.specs.Tracking.{HasFollowed, IsBelow, IsTracked}
use Rattle.svc_depend.specs.Walks.{IsWalked}

-- before the first turn
pub begun : (img : Image) (entry : ℕ) (before : List ℕ) (t : Tracker) (core : State) → core ≡ (program img).start entry → IsBelow (3 * t.turns) t → IsWalked img entry 0 before t core before t
begun img entry before t core starts below = record {
  core_is = starts;
  memory_is = λ a. refl;
  task = refl;
  size = refl;
  below = below;
  turns = omega arith;
  few = omega arith;
  tracked = λ times h. h;
}

-- one turn more of a task that runs
pub goes_on : (img : Image) (entry n : ℕ) (before : List ℕ) (begun : Tracker) (core then : State) (memory after : List ℕ) (s t : Tracker) (touch : Touch) → IsWalked img entry n before begun core memory s
    → core.done ≡ None
    → then ≡ (step_of img core memory).core → ((a : ℕ) → slice_index after a ≡ over (wrote (step_of img core memory).log) (slice_index memory) a)
    → touch.reads ≡ word_read (wants img core) → touch.writes ≡ word_written (wants img core)
    → HasFollowed s t → IsBelow (3 * t.turns) t
    → ((p : Program State) → (w : Want State) → (m : Memory) → (log : List Action) → (clock : Clock) → touch.reads ≡ word_read w → touch.writes ≡ word_written w
    → IsTracked p (exposed_words log) (wrote log) clock.stores clock.now s
    → IsTracked p (exposed_words (act w m log).log) (wrote (act w m log).log) (tick w log clock).stores (tick w log clock).now t)
    → IsWalked img entry (n + 1) before begun then after t
goes_on img entry n before begun core then memory after s t touch h running core_is memory_is reads writes followed below tracks =
    let p : Program State = program img in
    let base : Memory = slice_index before in
    let r : Run State = part p entry n base in
    let runs : r.core.done ≡ None = sym (ap (λ (x : State). x.done) h.core_is) ∙ running in
    let next : HasRun before [] (part p entry (n + 1) base) then after (output r.log ++ output (step_of img core memory).log) =
    has_stepped img entry n before [] core then memory after (output r.log) (output (step_of img core memory).log) (record { core = h.core_is; memory = h.memory_is; output = refl }) core_is memory_is refl in
    let taken : turns_taken p entry (suc n) base ≡ turns_taken p entry n base + 1 = ap (λ (o : Option End). turns_taken p entry n base + cond (is_some o) 0 1) runs in
    let ticks : (times : Times) → clock_of p entry (suc n) base times ≡ tick (p.want r.core) r.log (clock_of p entry n base times) =
    λ times. ap (λ (o : Option End). cond (is_some o) (clock_of p entry n base times) (tick (p.want r.core) r.log (clock_of p entry n base times))) runs in
    let here : p.want core ≡ p.want r.core = ap p.want h.core_is in
    let count : t.turns ≡ s.turns + 1 = followed.turns in
    subst (λ (j : ℕ). IsWalked img entry j before begun then after t) (sym (add-one n))
    (record {
      core_is = next.core ∙ ap (λ (j : ℕ). (part p entry j base).core) (add-one n);
      memory_is = λ a. next.memory a ∙ ap (λ (j : ℕ). over (wrote (part p entry j base).log) base a) (add-one n);
      task = followed.task ∙ h.task;
      size = followed.size ∙ h.size;
      below = below;
      turns = (let x = h.turns in omega (arith, x, taken, count));
      few = (let x = h.few in omega (arith, x, count));
      tracked = λ times first.
          subst (λ (k : Clock). IsTracked p (exposed_words (part p entry (suc n) base).log) (wrote (part p entry (suc n) base).log) k.stores k.now t) (sym (ticks times))
          (tracks p (p.want r.core) (over (wrote r.log) base) r.log (clock_of p entry n base times) (reads ∙ ap word_read here) (writes ∙ ap word_written here) (h.tracked times first));
    })

-- ---- the end

-- the whole task has the clock and the turns of a part that has ended
module _ {C : Type 0} (p : Program C) (good : IsProgram p) (e n : ℕ) (m : Memory) (end : End) (ended : p.done (part p e n m).core ≡ Some end) where
  is_ended : (k : ℕ) → is_some (p.done (part p e (k + n) m).core) ≡ true
  is_ended k = ap (λ (r : Run C). is_some (p.done r.core)) (part_stays p good e n k m end ended) ∙ ap is_some ended

  clock_stays : (k : ℕ) (times : Times) → clock_of p e (k + n) m times ≡ clock_of p e n m times
  clock_stays zero times = ap (λ j. clock_of p e j m times) (omega arith)
  clock_stays (suc k) times =
      let more : suc k + n ≡ suc (k + n) = omega arith in
      ap (λ j. clock_of p e j m times) more
      ∙ ap (λ b. cond b (clock_of p e (k + n) m times) (tick (p.want (part p e (k + n) m).core) (part p e (k + n) m).log (clock_of p e (k + n) m times))) (is_ended k)
      ∙ clock_stays k times

  turns_stay : (k : ℕ) → turns_taken p e (k + n) m ≡ turns_taken p e n m
  turns_stay zero = ap (λ j. turns_taken p e j m) (omega arith)
  turns_stay (suc k) =
      let more : suc k + n ≡ suc (k + n) = omega arith in
      let none : turns_taken p e (suc (k + n)) m ≡ turns_taken p e (k + n) m + 0 = ap (λ b. turns_taken p e (k + n) m + cond b 0 1) (is_ended k) in
      let rest : turns_taken p e (k + n) m ≡ turns_taken p e n m = turns_stay k in
      ap (λ j. turns_taken p e j m) more ∙ omega (arith, none, rest)

-- a task that was followed until it ended was followed as a whole
pub whole : (img : Image) (entry n : ℕ) (before : List ℕ) (begun : Tracker) (core : State) (memory : List ℕ) (t : Tracker) (end : End) → n ≤ suc (limit_of img entry) → core.done ≡ Some end
    → IsWalked img entry n before begun core memory t → IsWalked img entry (suc (limit_of img entry)) before begun core memory t
whole img entry n before begun core memory t end few done h =
    let p : Program State = program img in
    let base : Memory = slice_index before in
    let k : ℕ = suc (limit_of img entry) - n in
    let back : k + n ≡ suc (limit_of img entry) = omega (arith, few) in
    let ended : p.done (part p entry n base).core ≡ Some end = sym (ap (λ (x : State). x.done) h.core_is) ∙ done in
    let same : part p entry n base ≡ part p entry (suc (limit_of img entry)) base = sym (part_stays p (is_program img) entry n k base end ended) ∙ ap (λ (j : ℕ). part p entry j base) back in
    let clock : (times : Times) → clock_of p entry n base times ≡ clock_of p entry (suc (limit_of img entry)) base times = λ times. sym (clock_stays p (is_program img) entry n base end ended k times) ∙ ap (λ (j : ℕ). clock_of p entry j base times) back in
    let taken : turns_taken p entry n base ≡ turns_taken p entry (suc (limit_of img entry)) base = sym (turns_stay p (is_program img) entry n base end ended k) ∙ ap (λ (j : ℕ). turns_taken p entry j base) back in
    record {
      core_is = h.core_is ∙ ap (λ (r : Run State). r.core) same;
      memory_is = λ a. h.memory_is a ∙ ap (λ (r : Run State). over (wrote r.log) base a) same;
      task = h.task;
      size = h.size;
      below = h.below;
      turns = h.turns ∙ ap (λ (x : ℕ). begun.turns + x) taken;
      few = (let x = h.few in omega (arith, x, few));
      tracked = λ times first.
          subst (λ (c : Clock). IsTracked p (exposed_words (part p entry (suc (limit_of img entry)) base).log) (wrote (part p entry (suc (limit_of img entry)) base).log) c.stores c.now t) (clock times)
          (subst (λ (r : Run State). IsTracked p (exposed_words r.log) (wrote r.log) (clock_of p entry n base times).stores (clock_of p entry n base times).now t) same (h.tracked times first));
    }

-- ---- whether the task runs

pub runs_still : (o : Option End) → is_none o ≡ true → o ≡ None
runs_still None h = refl
runs_still (Some x) h = cc

pub not_both : (o : Option End) → o ≡ None → is_none o ≡ false → ⊥
not_both None e h = cc
not_both (Some x) e h = cc

some_not_none : (o : Option End) → is_some o ≡ true → o ≡ None → ⊥
some_not_none None h e = cc
some_not_none (Some x) h e = cc

-- it does not once its turns are spent
pub none_left : (img : Image) (entry n : ℕ) (before : List ℕ) (begun : Tracker) (core : State) (memory : List ℕ) (t : Tracker) → n ≡ suc (limit_of img entry) → core.done ≡ None → IsWalked img entry n before begun core memory t → ⊥
none_left img entry n before begun core memory t all none h =
    let base : Memory = slice_index before in
    let ends : is_some (task (program img) entry base).core.done ≡ true = (is_program img).ends entry base in
    some_not_none core.done (subst (λ (s : State). is_some s.done ≡ true) (sym (h.core_is ∙ ap (λ (j : ℕ). (part (program img) entry j base).core) all)) ends) none
