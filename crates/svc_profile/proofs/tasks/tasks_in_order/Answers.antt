use Rattle.std.proofs.Common.{◌<◌, ap, length, rules, ◌∙◌, sym, subst}
use Rattle.std.specs.List.{AllByRecursion}
use Rattle.std.proofs.lemmas.List.Elements.{All-from_recursion, recursion_from_All}
use Rattle.std.proofs.lemmas.List.Sorted.{All-permutation, IsNonDecreasingBy-from_sort_by_key, answers_always}
use Rattle.svc_task_runs.specs.declared.task_run.TaskRun.{TaskRun}
use Rattle.svc_profile.specs.Tasks.{in_order}
use Rattle.svc_task_runs.proofs.Begun.{all_before}
use Rattle.svc_profile.proofs.Ordering.{is_in_order}
use Rattle.svc_profile.proofs.tasks.tasks_in_order.Goals as goal

pub returns : goal.returns
returns c =
    let n = length c.args.entries.now in
    let old = c.in_ok-runs.runs.items in
    let new = c.sort_by_key.new.self.items in
    let up = IsNonDecreasingBy-from_sort_by_key (λ (r : TaskRun). r.first) _ c.in_ok-sort_by_key.ensures.sorted (λ a r q k. search rules) in
    let stable = c.sort_by_key.ensures.stable (λ r. r.first) (answers_always _ _ _ (λ f a r g h. search rules)) in
    let before : AllByRecursion (λ (r : TaskRun). r.first < n) old =
    subst (AllByRecursion (λ (r : TaskRun). r.first < n)) (sym c.in_ok-runs.ensures.tasks) (all_before c.args.entries.now) in
    let first = λ (r : TaskRun). r.first < n in
    let all = recursion_from_All first new (All-permutation first old new c.sort_by_key.ensures.permutation (All-from_recursion first old before)) in
    is_in_order n old new up stable all ∙ ap (in_order n) c.in_ok-runs.ensures.tasks
