-- The bars of a picture: each task's, cut to the entries that are shown.
use Rattle.std.specs.Prelude.{ℕ, ◌+◌, ◌-◌, min, nat_lt, nat_le, ◌==◌, Bool, cond, ◌&&◌, List, Option, Some, None}
use Rattle.std.specs.Prelude.{unwrap_or, length}
use Rattle.std.specs.List.{flat_map}
use Rattle.std.specs.Option.{option_to_list}
use Rattle.svc_history_laws.specs.declared.entry.Entry.{Entry}
use Rattle.svc_task_runs.specs.declared.task_run.TaskRun.{TaskRun}
use Rattle.svc_task_runs.specs.Runs.{tasks_of}
use Rattle.svc_marks.specs.declared.bars.Bar.{Bar}
use Rattle.svc_marks.specs.declared.bars.Window.{Window}

-- n entries from an index on, as far as there are any
abbrev pub window_of : List Entry → (first : ℕ) → (count : ℕ) → Window
window_of es first count = record {
  from = min first (length es);
  to = min first (length es) + min count (length es - min first (length es));
}

-- the entry that decides a task's fate or, until one does, the one after the last shown
abbrev pub end_of : Window → TaskRun → ℕ
end_of w r = unwrap_or r.last w.to

-- one of the entries from a task's assignment to its end is shown
abbrev pub is_shown : Window → TaskRun → Bool
is_shown w r = nat_lt r.first w.to && nat_le w.from (end_of w r)

-- the task from there to there, as far as that is shown
abbrev pub cut : Window → TaskRun → Bar
cut w r = record {
  task = r;
  start = cond (nat_lt r.first w.from) w.from r.first;
  end = cond (nat_lt w.to (end_of w r)) w.to (end_of w r);
}

-- the bar of a task, if any of it is shown
abbrev pub bar_of : Window → TaskRun → Option Bar
bar_of w r = cond (is_shown w r) (Some (cut w r)) None

-- the bars of these tasks
abbrev pub bars_in : Window → List TaskRun → List Bar
bars_in w rs = flat_map (λ r. option_to_list (bar_of w r)) rs

-- the bars of a history
abbrev pub bars_of : List Entry → Window → List Bar
bars_of es w = bars_in w (tasks_of es)

-- the task runs on the unit while the entry at this index is accepted
abbrev pub runs : (unit : ℕ) → (at : ℕ) → Bar → Bool
runs unit at b = (b.task.unit.0 == unit) && (nat_le b.start at && nat_le at b.end)
