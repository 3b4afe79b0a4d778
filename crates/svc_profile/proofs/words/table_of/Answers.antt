use Rattle.std.proofs.Common.{◌∙◌, ◌<◌, ◌≤◌, ◌^◌, ◌++◌, ℕ, List, length, ap, subst, sym}
use Rattle.std.specs.Prelude.{flat_map}
use Rattle.std.specs.List.{AllByRecursion, sum_by}
use Rattle.svc_task_runs.specs.Bounds.{IsLight}
use Rattle.svc_task_runs.specs.declared.task_run.TaskRun.{TaskRun}
use Rattle.svc_profile.specs.Column.{Share}
use Rattle.svc_profile.specs.Counts.{all_shares, named_row}
use Rattle.svc_profile.specs.Words.{word_header}
use Rattle.svc_profile.proofs.InColumns.{all_in_column, sum_in_column}
use Rattle.svc_profile.proofs.Inside.{all_few}
use Rattle.svc_profile.proofs.WordRows.{rows}
use Rattle.svc_profile.proofs.words.table_of.Goals as goal

pub tally-requires-clause-few : goal.tally-requires-clause-few
tally-requires-clause-few c k =
    let es = c.args.entries.now in
    let tasks = c.in_ok-runs.ensures.tasks in
    let few = c.in_ok-runs.ensures.few in
    let light = c.in_ok-runs.ensures.light in
    let all = sym (sum_in_column k (all_shares es)) ∙ ap (sum_by (λ (s : Share). s.amount)) (all_in_column k es) in
    subst (λ (n : ℕ). n < 2 ^ 64) (sym all)
    (all_few k es c.requires.few (subst (λ (rs : List TaskRun). length rs ≤ 1000000) tasks few)
    (subst (λ (rs : List TaskRun). AllByRecursion (IsLight 1000000) rs) tasks light))

pub returns : goal.returns
returns c =
    let es = c.args.entries.now in
    let words = c.in_ok-words.words in
    c.in_ok-put_rows.ensures.text
    ∙ ap (λ (l : List ℕ). l ++ flat_map named_row words.entries) c.in_ok-text.ensures.items
    ∙ ap (λ (l : List ℕ). word_header ++ l) (rows es words c.in_ok-words.ensures c.in_ok-put_rows.ensures.ordered)
