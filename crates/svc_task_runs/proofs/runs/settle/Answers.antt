use Rattle.std.proofs.Common.{◌∙◌, ◌++◌, ◌<◌, ◌∷◌, [], List, ap, append_assoc, arith, length, sym, take}
use Rattle.std.specs.List.{filter}
use Rattle.svc_task_runs.specs.declared.task_run.TaskRun.{TaskRun}
use Rattle.svc_task_runs.specs.Runs.{is_settled}
use Rattle.svc_task_runs.proofs.Sorting.{one_goes, one_goes_out}
use Rattle.svc_task_runs.proofs.runs.settle.Goals as goal
use Rattle.svc_task_runs.proofs.runs.settle.Goals.{then-is_active, else-is_active+in_ok-push}

pub loop-index-preserved : goal.loop-index-preserved
loop-index-preserved c =
    let old = c.args.active.now.items in
    let now = c.loop-index.active.items in
    let i = c.loop-index._index in
    let n = c.loop-index.going in
    let was = c.args.settled.now.items in
    let below = c.loop-index-test.true in
    let count = c.len-index-end.ensures in
    let whole = c.args.active.now.ok.0 in
    let inside : i < length old = omega (arith, below, count, whole) in
    let so_far = c.loop-index.invariant in
    let next = c.index.result.now in
    elim c.if-is_active.branch [
      | then-is_active w ↦
          let it = one_goes old now i n next inside so_far.0 so_far.1 c.index.ensures (sym c.is_active.ensures ∙ w.if-is_active.true) in (
            w.going-is ∙ it.0,
            ap (λ v. v.items) w.active-is ∙ it.1,
            ap (λ v. v.items) w.settled-is ∙ so_far.2 ∙ ap (λ (l : List TaskRun). was ++ l) (sym it.2),
          )
      | else-is_active+in_ok-push w ↦
          let it = one_goes_out old now i n next w.remove.result inside so_far.0 so_far.1 c.index.ensures w.remove.ensures.value (sym c.is_active.ensures ∙ w.if-is_active.false) in (
            w.going-is ∙ it.0,
            ap (λ v. v.items) w.active-is ∙ w.remove.ensures.items ∙ it.1,
            ap (λ v. v.items) w.settled-is ∙ (w.in_ok-push.ensures {u = tt}).items ∙ ap (λ (l : List TaskRun). l ++ (w.remove.result ∷ [])) so_far.2
                ∙ append_assoc was (filter is_settled (take i old)) (w.remove.result ∷ []) ∙ ap (λ (l : List TaskRun). was ++ l) (sym it.2),
          )
    ]
