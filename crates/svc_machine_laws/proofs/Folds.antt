-- Every list of events, and the headline.
use Rattle.std.proofs.Common.{ℕ, suc, ◌≡◌, ◌+◌, List, [], ◌∷◌, Option, Some, None, refl, sym, ap, ◌∙◌, subst, arith, zero-add, slice_get}
use Rattle.std.specs.List.{AllByRecursion}
use Rattle.std.proofs.lemmas.Option.{none-some}
use Rattle.svc_base.specs.declared.config.Config.{Config}
use Rattle.svc_base.specs.declared.refusal.Refusal.{Refusal}
use Rattle.svc_image.specs.Image.{Image}
use Rattle.svc_core_laws.specs.State.{State}
use Rattle.svc_core_laws.specs.Program.{Program, seq}
use Rattle.svc_core_laws.specs.Words.{program}
use Rattle.svc_core_laws.specs.Sequence.{plain_seq, IsSameSeq}
use Rattle.svc_bus_laws.specs.Versioned.{Versioned}
use Rattle.svc_bus_laws.proofs.OpenedLaws.{opened_law}
use Rattle.svc_machine_laws.specs.PlainMachine.{Task, Plain, Running, runs_of, running}
use Rattle.svc_machine_laws.specs.PlainMachine as plain
use Rattle.svc_machine_laws.specs.Events.{Event, Assign, Submit, Replace, Cancel, Commit, IsEvent, plain_event, plain_submit, plain_cancel}
use Rattle.svc_machine_laws.specs.Standing.{Standing, Whole, whole_of, opened_at, whole_opened, refusal_of, whole_refuse, standing_after, whole_after, after_event, whole_after_event, after_events, whole_after_events, accepted_commits, is_commit, unless}
use Rattle.svc_machine_laws.specs.Reached.{IsReached, AreItsLines}
use Rattle.svc_machine_laws.specs.Headline.{IsSequential}
use Rattle.std.proofs.Common.{is_some}
use Rattle.svc_machine_laws.specs.Events.{asked_want}
use Rattle.svc_machine_laws.proofs.Checks.{check_commits}
use Rattle.svc_machine_laws.proofs.Given.{Given}
use Rattle.svc_machine_laws.proofs.Accepted.{can_submit, can_cancel, can_commit}
use Rattle.svc_machine_laws.proofs.MachineEvents.{machine_event}
use Rattle.svc_machine_laws.proofs.Standings.{event_reached}

-- the refusals of a standing are those of its whole machine
refusal_is : (img : Image) (config : Config) (s : Standing) (x : Event) → refusal_of img config s x ≡ whole_refuse img config (whole_of img s) x
unfolding refusal_of
refusal_is img config s x = refl

module _ (img : Image) (given : Given img) (config : Config) where
  abbrev p : Program State
  p = program img

  -- AN EVENT of the whole machine
  pub whole_event_is : (s : Standing) → IsReached img config s → (x : Event) → IsEvent x → whole_of img (after_event img config s x) ≡ whole_after_event img config (whole_of img s) x
  unfolding after_event whole_after_event standing_after whole_after
  whole_event_is s reached x is =
      split (refusal_of img config s x) refl ∙ ap (λ o. unless o (whole_of img s) (whole_after img (whole_of img s) x)) (refusal_is img config s x)
    where
      split : (o : Option Refusal) → refusal_of img config s x ≡ o → whole_of img (unless o s (standing_after img s x)) ≡ unless o (whole_of img s) (whole_after img (whole_of img s) x)
      split (Some r) h = refl
      split None h = ap {B = Whole} (λ m. record { machine = m; lines = (standing_after img s x).lines }) (machine_event img given config s reached x is h)

  -- EVERY LIST OF EVENTS
  pub events_reached : (s : Standing) (xs : List Event) → AllByRecursion IsEvent xs → IsReached img config s → IsReached img config (after_events img config s xs)
  unfolding after_events
  events_reached s [] are reached = reached
  events_reached s (x ∷ xs) are reached = events_reached (after_event img config s x) xs are.1 (event_reached img given config s reached x are.0)

  pub whole_events_are : (s : Standing) (xs : List Event) → AllByRecursion IsEvent xs → IsReached img config s → whole_of img (after_events img config s xs) ≡ whole_after_events img config (whole_of img s) xs
  unfolding after_events whole_after_events
  whole_events_are s [] are reached = refl
  whole_events_are s (x ∷ xs) are reached =
      whole_events_are (after_event img config s x) xs are.1 (event_reached img given config s reached x are.0)
      ∙ ap (λ w. whole_after_events img config w xs) (whole_event_is s reached x are.0)

  -- the number of commits is that of the accepted commits
  commit_one : (s : Plain) (ts : List Task) (x : Running State) → slice_get (runs_of p (seq p s.commits).memory ts) 0 ≡ Some x → (plain.commit_tasks p s ts).commits ≡ suc s.commits
  commit_one s [] x h = absurd (none-some x h)
  commit_one s (t ∷ ts) x h = refl

  pub step_commits : (s : Standing) (x : Event) → refusal_of img config s x ≡ None → (standing_after img s x).plain.commits ≡ is_commit x + s.plain.commits
  unfolding standing_after plain_event
  step_commits s (Assign unit guess) h = sym (zero-add s.plain.commits)
  step_commits s (Submit b) h = let can = can_submit img config s b h in ap (λ o. (plain_submit img s.plain o b).commits) can.at ∙ check_commits p (plain.submit p s.plain can.place b.local (is_some (asked_want img b))) can.place ∙ sym (zero-add s.plain.commits)
  step_commits s (Replace unit a) h = sym (zero-add s.plain.commits)
  step_commits s (Cancel unit) h = let can = can_cancel img config s unit h in ap (λ o. (plain_cancel s.plain o).commits) can.at ∙ sym (zero-add s.plain.commits)
  step_commits s (Commit by) h =
      let can = can_commit img config s by h in
      let e = commit_one s.plain s.plain.tasks can.run can.here in
      omega (arith, e)

  event_commits : (s : Standing) (x : Event) → (after_event img config s x).plain.commits ≡ unless (whole_refuse img config (whole_of img s) x) 0 (is_commit x) + s.plain.commits
  unfolding after_event
  event_commits s x = split (refusal_of img config s x) refl ∙ ap (λ o. unless o 0 (is_commit x) + s.plain.commits) (refusal_is img config s x)
    where
      split : (o : Option Refusal) → refusal_of img config s x ≡ o → (unless o s (standing_after img s x)).plain.commits ≡ unless o 0 (is_commit x) + s.plain.commits
      split (Some r) h = sym (zero-add s.plain.commits)
      split None h = step_commits s x h

  pub commits_are : (s : Standing) (xs : List Event) → AllByRecursion IsEvent xs → IsReached img config s → (after_events img config s xs).plain.commits ≡ s.plain.commits + accepted_commits img config (whole_of img s) xs
  unfolding after_events accepted_commits
  commits_are s [] are reached = omega arith
  commits_are s (x ∷ xs) are reached =
      let next : Standing = after_event img config s x in
      let w : Whole = whole_of img s in
      let rest = commits_are next xs are.1 (event_reached img given config s reached x are.0) in
      let one = event_commits s x in
      let same : accepted_commits img config (whole_of img next) xs ≡ accepted_commits img config (whole_after_event img config w x) xs = ap (λ v. accepted_commits img config v xs) (whole_event_is s reached x are.0) in
      omega (arith, rest, one, same)

  -- the opening
  opened_lines : (first : ℕ) → AreItsLines img config (opened_at img config first).plain (opened_at img config first).lines
  opened_lines first =
      let law = opened_law config.units config.sets config.ways img.words in
      record { sound = law.0; same_map = law.1; units = refl; caches = refl; sets = refl; ways = refl; words = refl }

  pub opened_reached : (first : ℕ) → IsReached img config (opened_at img config first)
  opened_reached first = record {
    due = tt;
    idle = λ h. refl;
    entries = tt;
    counted = tt;
    commits_few = omega arith;
    accepted_few = omega arith;
    outputs_few = omega arith;
    lines = opened_lines first;
  }

  -- what a reached standing has committed
  pub reached_is : (s : Standing) → IsReached img config s → IsSequential img s.plain.commits (whole_of img s)
  reached_is s reached =
      let same : IsSameSeq img (plain_seq img s.plain.commits) (seq p s.plain.commits) = given.bytes s.plain.commits in
      record {
        tasks = refl;
        memory = λ a. ap (λ (v : Versioned). v.committed a) reached.lines.same_map ∙ same.memory a;
        output = same.output;
        due = same.due;
        stopped = same.stopped;
      }

  -- THE HEADLINE
  pub headline_is : (first : ℕ) (xs : List Event) → AllByRecursion IsEvent xs
      → IsSequential img (accepted_commits img config (whole_opened img config first) xs) (whole_after_events img config (whole_opened img config first) xs)
  headline_is first xs are =
      let start : Standing = opened_at img config first in
      let reached = opened_reached first in
      let count : (after_events img config start xs).plain.commits ≡ accepted_commits img config (whole_of img start) xs = commits_are start xs are reached ∙ zero-add _ in
      subst (λ k. IsSequential img k (whole_after_events img config (whole_of img start) xs)) count
      (subst (IsSequential img (after_events img config start xs).plain.commits) (whole_events_are start xs are reached)
      (reached_is (after_events img config start xs) (events_reached start xs are reached)))
