-- What a history charges to the instructions at which its entries ask.
use Rattle.std.specs.Prelude.{ℕ, suc, ◌==◌, min, Bool, true, false, cond, ◌&&◌, is_some, List, [], ◌∷◌, ◌++◌, Option}
use Rattle.std.specs.Prelude.{Some, None, flat_map, option_map, position, slice_get, slice_range, unwrap_or}
use Rattle.svc_base.specs.declared.ids.WordAddr.{WordAddr}
use Rattle.svc_history_laws.specs.declared.entry.CutKind.TheVariants as cause
use Rattle.svc_history_laws.specs.declared.entry.Entry.{Entry}
use Rattle.svc_history_laws.specs.declared.entry.ReplyKind.{ReplyKind}
use Rattle.svc_history_laws.specs.declared.entry.ReplyKind.TheVariants as reply
use Rattle.svc_report.specs.Summary.{is_cause}
use Rattle.svc_task_runs.specs.declared.task_run.TaskRun.{TaskRun}
use Rattle.svc_task_runs.specs.Runs.{Runs, is_load, is_number, is_store, is_submit_of, no_runs, step}
use Rattle.svc_profile.specs.declared.totals.Group.TheVariants as group
use Rattle.svc_profile.specs.Meetings.{settled_by}
use Rattle.svc_profile.specs.Profile.{is_of}
use Rattle.svc_instruction_profile.specs.declared.charge.Charge.{Charge}
use Rattle.svc_instruction_profile.specs.declared.cost.Expense.{Expense}
use Rattle.svc_instruction_profile.specs.declared.cost.Expense.TheVariants as expense

-- ---- one charge

-- something is charged to the instruction at this address, if there is one
abbrev pub charged : Option ℕ → Expense → List Charge
charged None x = []
charged (Some a) x = record { address = a; expense = x } ∷ []

-- the same if the condition holds
abbrev pub charged_where : Bool → Option ℕ → Expense → List Charge
charged_where b a x = cond b (charged a x) []

-- ---- what an entry is charged at its own instruction

-- the reply is that a word was output
abbrev pub is_output : ReplyKind → Bool
is_output reply.Emitted = true
is_output _ = false

-- what an entry does itself
abbrev pub does : Expense → Entry → Bool
does expense.Asked e = true
does expense.Load e = is_load e.reply
does expense.Store e = is_store e.reply
does expense.Output e = is_output e.reply
does expense.Found e = is_cause cause.Violation e.cause
does expense.Lost e = false
does expense.Suffered e = false

-- what is asked of each entry
abbrev pub own_expenses : List Expense
own_expenses = expense.Asked ∷ expense.Load ∷ expense.Store ∷ expense.Output ∷ expense.Found ∷ []

-- what the entry that asks at this address is charged
abbrev pub own_charge : Option ℕ → Entry → Expense → List Charge
own_charge a e x = charged_where (does x e) a x

abbrev pub own_charges : Option ℕ → Entry → List Charge
own_charges a e = flat_map (own_charge a e) own_expenses

-- ---- where the victim of a violation first read the word

-- the address at a place
abbrev pub address_of : List (Option ℕ) → Option ℕ → Option ℕ
address_of asked None = None
address_of asked (Some at) = unwrap_or (slice_get asked at) None

-- what stands from an index on, before another one
abbrev pub between : {A : Type 0} → (first last : ℕ) → List A → List A
between first last xs = slice_range xs (min first last) last

-- both name the same word
abbrev pub is_same_word : Option WordAddr → Option WordAddr → Bool
is_same_word (Some a) (Some b) = a.0 == b.0
is_same_word _ _ = false

-- the entry is a submit of the task, and read the word; a store of less than a word reads it, too
abbrev pub is_read : TaskRun → Option WordAddr → Entry → Bool
is_read r word e = is_submit_of e r && is_some e.served && is_same_word e.addr word

-- the address at which a task first read a word, of the entries since it began and before this index
abbrev pub reader_in : List (Option ℕ) → List Entry → (at : ℕ) → Option WordAddr → TaskRun → Option ℕ
reader_in asked es at word r = address_of (between r.first at asked) (position (is_read r word) (between r.first at es))

-- the same for the active task at a place
abbrev pub reader_at : List (Option ℕ) → List Entry → (at : ℕ) → Option WordAddr → Option TaskRun → Option ℕ
reader_at asked es at word None = None
reader_at asked es at word (Some r) = reader_in asked es at word r

-- the active task that an entry squashes first
abbrev pub victim_of : Entry → List TaskRun → Option TaskRun
victim_of e rs = unwrap_or (option_map (slice_get rs) (position (λ r. is_number e.first r.number) rs)) None

-- where the victim of the entry at this index first read its word
abbrev pub reader_of : List (Option ℕ) → List Entry → (at : ℕ) → Entry → List TaskRun → Option ℕ
reader_of asked es at e rs = reader_at asked es at e.addr (victim_of e rs)

-- a violation is charged there, too
abbrev pub reader_charge : List (Option ℕ) → List Entry → (at : ℕ) → Entry → List TaskRun → List Charge
reader_charge asked es at e rs =
    charged_where (is_cause cause.Violation e.cause) (reader_of asked es at e rs) expense.Suffered

-- ---- the loads of squashed tasks

-- the entry is a submit of the task, and loaded
abbrev pub is_load_of : TaskRun → Entry → Bool
is_load_of r e = is_submit_of e r && is_load e.reply

-- each load of a task among these entries, which ask at these addresses, is charged as lost
abbrev pub loads_lost : TaskRun → List (Option ℕ) → List Entry → List Charge
loads_lost r asked [] = []
loads_lost r [] (e ∷ es) = []
loads_lost r (a ∷ asked) (e ∷ es) = charged_where (is_load_of r e) a expense.Lost ++ loads_lost r asked es

-- a task whose fate this entry decided: if it was squashed, its loads were lost
abbrev pub lost_by : List (Option ℕ) → List Entry → (at : ℕ) → TaskRun → List Charge
lost_by asked es at r =
    cond (is_of group.Squashed r.fate) (loads_lost r (between r.first (suc at) asked) (between r.first (suc at) es)) []

-- ---- all charges

-- what the entry at this index is charged at its own instruction and charges to others, where these tasks are active
abbrev pub charges_at : List (Option ℕ) → List Entry → (at : ℕ) → Entry → List TaskRun → List Charge
charges_at asked es at e rs =
    own_charges (address_of asked (Some at)) e
    ++ reader_charge asked es at e rs
    ++ flat_map (lost_by asked es at) (settled_by at e rs)

-- the same for those from this index on
unfoldable pub charges_from : List (Option ℕ) → List Entry → Runs → (at : ℕ) → List Entry → List Charge
charges_from asked all s at [] = []
charges_from asked all s at (e ∷ es) =
    charges_at asked all at e s.active ++ charges_from asked all (step at e s) (suc at) es

-- all charges of a history whose entries ask at these addresses
abbrev pub charges_of : List (Option ℕ) → List Entry → List Charge
charges_of asked es = charges_from asked es no_runs 0 es
