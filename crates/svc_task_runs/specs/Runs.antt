-- The tasks that a history begins: what each did, and what became of it.
use Rattle.std.specs.Prelude.{ℕ, suc, ◌+◌, ◌==◌, nat_le, Bool, true, false, cond, not, ◌&&◌, List, [], ◌∷◌, ◌++◌, map}
use Rattle.std.specs.Prelude.{length, Option, Some, None, codes, unwrap_or}
use Rattle.std.specs.List.{filter}
use Rattle.svc_history_laws.specs.declared.entry.Kind.{Kind}
use Rattle.svc_history_laws.specs.declared.entry.Kind.TheVariants.{Assign, Submit, Replace, Cancel, Commit}
use Rattle.svc_history_laws.specs.declared.entry.ReplyKind.{ReplyKind}
use Rattle.svc_history_laws.specs.declared.entry.ReplyKind.TheVariants as reply
use Rattle.svc_history_laws.specs.declared.entry.CutKind.{CutKind}
use Rattle.svc_history_laws.specs.declared.entry.CutKind.TheVariants as cause
use Rattle.svc_history_laws.specs.declared.entry.Entry.{Entry}
use Rattle.svc_history_laws.specs.Board.{commits}
use Rattle.svc_report.specs.Counting.{one_where}
use Rattle.svc_report.specs.Summary.{is_kind}
use Rattle.svc_task_runs.specs.declared.task_run.Fate.{Fate}
use Rattle.svc_task_runs.specs.declared.task_run.Fate.TheVariants as fate
use Rattle.svc_task_runs.specs.declared.task_run.TaskRun.{TaskRun}

-- ---- what an entry does to a task that is active

-- the entry is one of this kind for the task's unit
abbrev pub is_submit_of : Entry → TaskRun → Bool
is_submit_of e r = is_kind Submit e.kind && (e.unit.0 == r.unit.0)

-- the turns that an entry took over
abbrev pub turns_in : Entry → ℕ
turns_in e = unwrap_or e.local 0 + one_where (unwrap_or e.ask false)

-- the reply is that a word was loaded; that it was stored
abbrev pub is_load : ReplyKind → Bool
is_load reply.Loaded = true
is_load _ = false

abbrev pub is_store : ReplyKind → Bool
is_store reply.Stored = true
is_store _ = false

-- there is a number, and it is this one; there is a number, and it isn't above this one
abbrev pub is_number : Option ℕ → ℕ → Bool
is_number None n = false
is_number (Some m) n = m == n

abbrev pub is_not_above : Option ℕ → ℕ → Bool
is_not_above None n = false
is_not_above (Some m) n = nat_le m n

-- the fate of tasks squashed for this cause
abbrev pub fate_of : Option CutKind → Fate
fate_of None = fate.Active
fate_of (Some cause.Violation) = fate.Violation
fate_of (Some cause.Guess) = fate.Guess
fate_of (Some cause.Cancel) = fate.Cancel

-- a task is squashed if the first one that the entry squashes isn't above it, committed if the entry commits the task
-- of its number, and otherwise goes on
abbrev pub fate_after : Entry → TaskRun → Fate
fate_after e r =
    cond (is_not_above e.first r.number) (fate_of e.cause)
    (cond (is_kind Commit e.kind && is_number e.word r.number) fate.Committed fate.Active)

-- the task is still active
abbrev pub is_active : Fate → Bool
is_active fate.Active = true
is_active _ = false

abbrev pub goes_on : TaskRun → Bool
goes_on r = is_active r.fate

abbrev pub is_settled : TaskRun → Bool
is_settled r = not (is_active r.fate)

-- a task of which the entry is a submit, with what that adds
abbrev pub ran : Entry → TaskRun → TaskRun
ran e r =
    cond (is_submit_of e r)
    (record r {
      turns = r.turns + turns_in e;
      loads = r.loads + one_where (is_load e.reply);
      stores = r.stores + one_where (is_store e.reply);
    })
    r

-- an active task after the entry at this index
unfoldable pub after : (at : ℕ) → Entry → TaskRun → TaskRun
after at e r = record (ran e r) { last = cond (is_active (fate_after e r)) None (Some at); fate = fate_after e r }

-- the word for a fate
abbrev pub fate_word : Fate → List ℕ
fate_word fate.Active = codes "active"
fate_word fate.Committed = codes "committed"
fate_word fate.Violation = codes "violation"
fate_word fate.Guess = codes "guess"
fate_word fate.Cancel = codes "cancel"

-- ---- all tasks

-- how many tasks were committed; the tasks whose fate is decided, in the order of the decisions; and the active ones,
-- oldest first
pub record Runs : Type 0 where
  pub commits : ℕ
  pub settled : List TaskRun
  pub active : List TaskRun

abbrev pub no_runs : Runs
no_runs = record { commits = 0; settled = []; active = [] }

-- the task that an assignment at this index begins: its number is how many tasks before it are committed or active
abbrev pub begun : Kind → (at : ℕ) → Entry → Runs → List TaskRun
begun Assign at e s =
    record {
      number = s.commits + length s.active;
      unit = e.unit;
      entry = unwrap_or e.word 0;
      first = at;
      last = None;
      turns = 0;
      loads = 0;
      stores = 0;
      fate = fate.Active;
    } ∷ []
begun Submit at e s = []
begun Replace at e s = []
begun Cancel at e s = []
begun Commit at e s = []

-- the entry at this index
unfoldable pub step : (at : ℕ) → Entry → Runs → Runs
step at e s = record {
  commits = s.commits + commits e.kind;
  settled = s.settled ++ filter is_settled (map (after at e) s.active);
  active = filter goes_on (map (after at e) s.active) ++ begun e.kind at e s;
}

-- the entries from this index on
unfoldable pub runs_from : Runs → (at : ℕ) → List Entry → Runs
runs_from s at [] = s
runs_from s at (e ∷ es) = runs_from (step at e s) (suc at) es

-- the tasks of a history
abbrev pub runs_of : List Entry → Runs
runs_of es = runs_from no_runs 0 es

-- those whose fate is decided, and then the active ones
abbrev pub tasks_of : List Entry → List TaskRun
tasks_of es = (runs_of es).settled ++ (runs_of es).active
