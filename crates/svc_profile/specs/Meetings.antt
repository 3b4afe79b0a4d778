-- Where two tasks of a history meet over a word: one squashes the other, or serves its read.
use Rattle.std.specs.Prelude.{ℕ, suc, Bool, cond, List, [], ◌∷◌, ◌++◌, Option, None, Some, map, option_map, position}
use Rattle.std.specs.Prelude.{slice_get, unwrap_or}
use Rattle.std.specs.List.{filter}
use Rattle.svc_base.specs.declared.ids.WordAddr.{WordAddr}
use Rattle.svc_base.specs.declared.ids.UnitId.{UnitId}
use Rattle.svc_history_laws.specs.declared.entry.CutKind.TheVariants as cause
use Rattle.svc_history_laws.specs.declared.entry.Entry.{Entry}
use Rattle.svc_history_laws.specs.declared.entry.ServedKind.TheVariants as served
use Rattle.svc_report.specs.Summary.{is_cause, is_supplier}
use Rattle.svc_task_runs.specs.declared.task_run.TaskRun.{TaskRun}
use Rattle.svc_task_runs.specs.Runs.{Runs, after, is_settled, no_runs, step}
use Rattle.svc_profile.specs.declared.meetings.Meeting.{Meeting}
use Rattle.svc_profile.specs.declared.meetings.Meets.{Meets}
use Rattle.svc_profile.specs.declared.meetings.Meets.TheVariants as meets
use Rattle.svc_profile.specs.declared.totals.Group.TheVariants as group
use Rattle.svc_profile.specs.declared.totals.Measure.TheVariants as measure
use Rattle.svc_profile.specs.Profile.{total, total_of}
use Rattle.svc_profile.specs.Units.{is_on}

-- ---- the tasks and the word

-- the number of the task at a place
abbrev pub number_at : List TaskRun → Option ℕ → ℕ
number_at rs None = 0
number_at rs (Some place) = unwrap_or (option_map (λ r. r.number) (slice_get rs place)) 0

-- the number of the task that a unit runs, which of a legal history's event is one of the active tasks
abbrev pub number_on : List TaskRun → ℕ → ℕ
number_on rs unit = number_at rs (position (λ r. is_on unit r) rs)

-- the same for the unit of a version that was read
abbrev pub number_from : List TaskRun → Option UnitId → ℕ
number_from rs None = 0
number_from rs (Some unit) = number_on rs unit.0

-- the number of a word
abbrev pub word_of : Option WordAddr → ℕ
word_of None = 0
word_of (Some a) = a.0

-- the entry is a meeting of this kind
abbrev pub is_meeting : Meets → Entry → Bool
is_meeting meets.Squash e = is_cause cause.Violation e.cause
is_meeting meets.Supply e = is_supplier served.Version e.served

-- the earlier task, the later one, and the word: the task that stores squashes the first one that it violates; the task
-- whose version is read serves the one that reads
abbrev pub between : Meets → Entry → List TaskRun → (ℕ × ℕ) × ℕ
between meets.Squash e rs = ((number_on rs e.unit.0, unwrap_or e.first 0), word_of e.addr)
between meets.Supply e rs = ((number_from rs e.from, number_on rs e.unit.0), word_of e.addr)

-- ---- all meetings

-- the tasks whose fate the entry at this index decides
abbrev pub settled_by : (at : ℕ) → Entry → List TaskRun → List TaskRun
settled_by at e rs = filter is_settled (map (after at e) rs)

-- the turns of those that it squashes for a violation
abbrev pub turns_lost : List TaskRun → ℕ
turns_lost rs = total rs (total_of measure.Turns group.Violation)

-- the meeting at the entry at this index, where these tasks are active, if it is one
abbrev pub meeting_at : Meets → (at : ℕ) → Entry → List TaskRun → List Meeting
meeting_at m at e rs =
    cond (is_meeting m e) (record { between = between m e rs; turns = turns_lost (settled_by at e rs) } ∷ []) []

-- those at the entries from this index on
unfoldable pub meetings_from : Meets → Runs → (at : ℕ) → List Entry → List Meeting
meetings_from m s at [] = []
meetings_from m s at (e ∷ es) = meeting_at m at e s.active ++ meetings_from m (step at e s) (suc at) es

-- those of a history
abbrev pub meetings_of : Meets → List Entry → List Meeting
meetings_of m es = meetings_from m no_runs 0 es
