-- Where a run has stopped, no task needs anything any more.
use Rattle.std.proofs.Common.{ℕ, zero, suc, ◌≡◌, ◌≤◌, true, false, List, [], Option, Some, None, refl, ap, ◌∙◌, subst, arith, inl, inr}
use Rattle.std.proofs.lemmas.Bool.{cases_eq, cases_lt}
use borrow.Author.Tests.{both_ways}
use Rattle.svc_core_laws.specs.Program.{Program, Action, exposed_words, seq, task_log, next_task, due_run, log_of_run}
use Rattle.svc_depend_laws.specs.Needs.{HasNeed, IsNearestOf}

due_none : {C : Type 0} (p : Program C) (j i : ℕ) → j ≤ i → (seq p j).due ≡ None → (seq p i).due ≡ None
due_none p j zero le h = let e : j ≡ zero = omega (arith, le) in subst (λ n. (seq p n).due ≡ None) e h
due_none p j (suc i) le h = elim (cases_eq j (suc i)) [
  | inl e ↦ subst (λ n. (seq p n).due ≡ None) e h
  | inr ne ↦
      let before : (seq p i).due ≡ None = due_none p j i (omega (arith, le, ne)) h in
      ap (λ o. (next_task p (seq p i) o).due) before ∙ before
]

pub ends_for_good : {C : Type 0} (p : Program C) (j k : ℕ) (o : Option ℕ) → (seq p j).due ≡ None → j ≤ k → IsNearestOf p j o → IsNearestOf p k o
ends_for_good {C} p j k o stopped le h = of o h
  where
    silent : (i : ℕ) → j ≤ i → task_log p i ≡ []
    silent i low = ap (λ c. log_of_run (due_run p (seq p i).memory c)) (due_none p j i low stopped)

    back : (d : ℕ) → HasNeed p k d → HasNeed p j d
    back d n = elim (cases_lt n.task j) [
      | inl l ↦ record { task = n.task; early = l; word = n.word; exposes = n.exposes; from = n.from; comes = n.comes; apart = n.apart }
      | inr l ↦ absurd (both_ways false refl (subst (λ (g : List Action). exposed_words g n.word ≡ true) (silent n.task l) n.exposes))
    ]

    there : (d : ℕ) → HasNeed p j d → HasNeed p k d
    there d n = record { task = n.task; early = (let e = n.early in omega (arith, e, le)); word = n.word; exposes = n.exposes; from = n.from; comes = n.comes; apart = n.apart }

    of : (c : Option ℕ) → IsNearestOf p j c → IsNearestOf p k c
    of None x = λ d n. x d (back d n)
    of (Some e) x = record { some = there e x.some; least = λ d n. x.least d (back d n) }
