use Rattle.std.proofs.Common.{◌≡◌, ◌∙◌, ◌++◌, ◌+◌, List, length, map, ap, sym}
use Rattle.std.specs.List.{filter}
use Rattle.std.specs.Option.{option_to_list}
use Rattle.std.proofs.lemmas.List.{append-nil, length-map, with_items_is}
use Rattle.svc_task_runs.specs.declared.runs.TaskRuns.{TaskRuns}
use Rattle.svc_task_runs.specs.declared.task_run.TaskRun.{TaskRun}
use Rattle.svc_task_runs.specs.Runs.{after, goes_on, is_settled}
use Rattle.svc_task_runs.specs.Seen.{seen}
use Rattle.svc_task_runs.proofs.Sorting.{all_go_on, none_settled, stepped}
use Rattle.svc_task_runs.proofs.runs.TaskRuns.step.Goals as goal
use Rattle.svc_task_runs.proofs.runs.TaskRuns.step.Goals.{then-go_on+in_ok-settle, else-go_on}

pub returns : goal.returns
returns c =
    let s = seen c.args.self.now in
    let e = c.args.entry.now in
    let now = map (after c.args.at e) s.active in
    let gone : c.go_on.new.active ≡ now = c.go_on.ensures.tasks ∙ ap (map (after c.args.at e)) c.deref_mut.ensures.value in
    let list = c.args.self.now.active in
    let same = with_items_is list c.go_on.new.active (ap length gone ∙ length-map s.active (after c.args.at e) ∙ sym list.ok.0) in
    let settled : c.if-go_on.self.settled.items ≡ s.settled ++ filter is_settled now =
    elim c.if-go_on.branch [
      | then-go_on+in_ok-settle w ↦ ap (λ (t : TaskRuns). t.settled.items) w.self-is ∙ (w.in_ok-settle.ensures {u = tt}).settled
          ∙ ap (λ (l : List TaskRun). s.settled ++ filter is_settled l) (same ∙ gone)
      | else-go_on w ↦ ap (λ (t : TaskRuns). t.settled.items) w.self-is ∙ sym (append-nil s.settled)
          ∙ ap (λ (l : List TaskRun). s.settled ++ l) (sym (none_settled c.go_on.new.active (sym c.go_on.ensures.settled ∙ w.if-go_on.false)))
          ∙ ap (λ (l : List TaskRun). s.settled ++ filter is_settled l) gone
    ] in
    let active : c.if-go_on.self.active.items ≡ filter goes_on now =
    elim c.if-go_on.branch [
      | then-go_on+in_ok-settle w ↦ ap (λ (t : TaskRuns). t.active.items) w.self-is
          ∙ (w.in_ok-settle.ensures {u = tt}).active ∙ ap (filter goes_on) (same ∙ gone)
      | else-go_on w ↦ ap (λ (t : TaskRuns). t.active.items) w.self-is ∙ same
          ∙ sym (all_go_on c.go_on.new.active (sym c.go_on.ensures.settled ∙ w.if-go_on.false)) ∙ ap (filter goes_on) gone
    ] in
    let count : c.if-go_on.self.commits ≡ s.commits =
    elim c.if-go_on.branch [
      | then-go_on+in_ok-settle w ↦ ap (λ (t : TaskRuns). t.commits) w.self-is
      | else-go_on w ↦ ap (λ (t : TaskRuns). t.commits) w.self-is
    ] in
    stepped c.args.at e s _ (ap (λ n. n + c.commits_in.result) count ∙ ap (λ n. s.commits + n) c.commits_in.ensures.value) settled
    (c.in_ok-push_some.ensures ∙ ap (λ (l : List TaskRun). l ++ option_to_list c.begun-begun.result) active ∙ ap (λ (l : List TaskRun). filter goes_on now ++ l) c.begun-begun.ensures)
