-- What is told of the active tasks, one task more.
use Rattle.std.proofs.Common.{◌≡◌, ◌∙◌, ◌+◌, ◌++◌, ◌∷◌, [], ℕ, zero, suc, List, Option, ◌≤◌, take, length, refl, ap, sym, subst, arith, append_assoc}
use Rattle.std.specs.Prelude.{slice_get}
use Rattle.std.specs.Io.KnownBytes.{Appends}
use Rattle.std.proofs.lemmas.List.{append-nil, take_all}
use Rattle.svc_core_laws.specs.Program.{Memory, Program, over, part, seq, wrote}
use Rattle.svc_core_laws.specs.State.{State}
use Rattle.svc_machine_laws.specs.PlainMachine.{Plain, Running, Task, running, runs_of}
use Rattle.svc_report.specs.Fields.{optional}
use Rattle.svc_report.proofs.PlainLines.{then_appends}
use Rattle.svc_held.specs.Tasks.{each_task}

module _ (told : ℕ → Running State → List ℕ) where
  -- what is told of the first ones, and of one more
  one_more : (number : ℕ) (runs : List (Running State)) (i : ℕ)
      → each_task told number (take (suc i) runs) ≡ each_task told number (take i runs) ++ optional (told (number + i)) (slice_get runs i)
  one_more number [] zero = refl
  one_more number [] (suc i) = refl
  one_more number (y ∷ runs) zero =
      let n : number ≡ number + 0 = omega arith in
      append-nil (told number y) ∙ ap (λ (m : ℕ). told m y) n
  one_more number (y ∷ runs) (suc i) =
      let n : suc number + i ≡ number + suc i = omega arith in
      ap (λ (l : List ℕ). told number y ++ l)
      (one_more (suc number) runs i ∙ ap (λ (m : ℕ). each_task told (suc number) (take i runs) ++ optional (told m) (slice_get runs i)) n)
      ∙ sym (append_assoc (told number y) (each_task told (suc number) (take i runs)) (optional (told (number + suc i)) (slice_get runs i)))

  -- a writer's text, one task more
  pub task_more : (number : ℕ) (runs : List (Running State)) (i : ℕ) (a b c : Option (List ℕ)) → Appends a b (each_task told number (take i runs))
      → Appends b c (optional (told (number + i)) (slice_get runs i)) → Appends a c (each_task told number (take (i + 1) runs))
  task_more number runs i a b c so_far one =
      let e : i + 1 ≡ suc i = omega arith in
      let whole = ap (λ (n : ℕ). each_task told number (take n runs)) e ∙ one_more number runs i in
      subst (Appends a c) (sym whole) (then_appends a b c (each_task told number (take i runs)) (optional (told (number + i)) (slice_get runs i)) so_far one)

-- each task has a run
pub runs_count : (p : Program State) (m : Memory) (ts : List Task) → length (runs_of p m ts) ≡ length ts
runs_count p m [] = refl
runs_count p m (t ∷ ts) = ap suc (runs_count p (over (wrote (part p t.entry t.turns m).log) m) ts)

-- so many tasks are all
pub all_tasks : (p : Program State) (s : Plain) (n : ℕ) → length s.tasks ≤ n → take n (running p s) ≡ running p s
all_tasks p s n le =
    let count = runs_count p (seq p s.commits).memory s.tasks in
    take_all n (running p s) (omega (arith, le, count))
