-- What the program prints of a run.
use Rattle.std.specs.Prelude.{◌≡◌, ℕ, Bool, List, ◌++◌, Option, None, Some, length, codes, decimal}
use Rattle.std.specs.Io.KnownBytes.{Appends}
use Rattle.svc_base.specs.declared.config.Config.{Config}
use Rattle.svc_image.specs.Image.{Image}
use Rattle.svc_core_laws.specs.declared.end.Ending.{Ending}
use Rattle.svc_core_laws.specs.declared.end.Ending.TheVariants as ending
use Rattle.svc_core_laws.specs.Sequence.{plain_seq, ending_of}
use Rattle.svc_machine.specs.Reads.{is_full}
use Rattle.svc_history_laws.specs.declared.entry.Entry.{Entry}
use Rattle.svc_history_laws.specs.Board.{board}
use Rattle.svc_history_laws.specs.Legal.{LegalHistory}
use Rattle.svc_history.specs.Recorded.{Recorded, IsLegal}
use Rattle.svc_schedule.specs.declared.policies.First.TheVariants.{Older, Younger}
use Rattle.svc_schedule.specs.declared.policies.Oldest.{Oldest}
use Rattle.svc_schedule.specs.declared.policies.Random.{Random}
use Rattle.svc_schedule.specs.declared.policies.Rotate.{Rotate}
use Rattle.svc_schedule.specs.declared.policies.Youngest.{Youngest}
use Rattle.svc_schedule.specs.Orders.{Draws, GoesByAge, Rotates, generator_of}
use Rattle.svc_schedule.specs.Steps.{GoesOn, IsScheduled}
use Rattle.svc_script.specs.declared.script.Step.{Step}
use Rattle.svc_script.specs.Events.{HasLedOn}
use Rattle.svc_script.specs.Leading.{IsOpened}
use Rattle.svc_script.specs.Suppliers.{AllAlike, IsFaultOfRest}
use Rattle.svc_report.specs.declared.counts.Counts.{Counts}
use Rattle.svc_report.specs.declared.table.TableRow.{TableRow}
use Rattle.svc_report.specs.Summary.{counts_of, summary_of}
use Rattle.svc_report.specs.Table.{summary_row}
use Rattle.svc_request.specs.declared.request.Order.{Order}
use Rattle.svc_request.specs.declared.request.Order.TheVariants as order
use Rattle.svc_request.specs.declared.request.Compared.{Compared}
use Rattle.svc_request.specs.declared.request.Compared.TheVariants as compared
use Rattle.svc_request.specs.declared.faults.Fault.{Fault}
use Rattle.svc_request.specs.declared.faults.Fault.TheVariants as fault
use Rattle.svc_request.specs.Faults.{TellsOfTrace}

-- the exit status of a run: 0 if the program exited, otherwise 2
abbrev pub status_of : Ending → ℕ
status_of (ending.Exit code) = 0
status_of (ending.Trap number) = 2
status_of (ending.Full entry) = 2
status_of (ending.Open entry) = 2

-- how the run stands after an image's first k tasks; if it goes on, `full` says whether no further event is accepted
abbrev pub ending_after : Image → ℕ → Bool → Ending
ending_after img k full = ending_of full (plain_seq img k).stopped (plain_seq img k).due

-- what a writer holds has grown by the summary of an image's first k tasks, run one after another on one flat memory,
-- with how many they are and with these counts, if any; the exit status is that of their ending
pub record Reports (img : Image) (k tasks : ℕ) (full : Bool) (counts : Option Counts) (old new : Option (List ℕ))
    (exit : ℕ) : Type 0 where
  pub text : Appends old new (summary_of (plain_seq img k).output tasks (ending_after img k full) counts)
  pub status : exit ≡ status_of (ending_after img k full)

-- a run of the image on a machine of the configuration: a legal history, and the machine where it leads
pub record IsRunOf (img : Image) (config : Config) (r : Recorded) : Type 0 where
  pub image : r.machine.image ≡ img
  pub config_is : r.machine.config ≡ config
  pub legal : IsLegal r

-- a run goes on by this order from where another one stands, with bursts of at most `burst` turns: each entry that it
-- adds is that of one step, and there are as many steps as the configuration has turns unless its ending isn't open
abbrev pub GoesOnBy : Order → (burst : ℕ) → (start r : Recorded) → Type 0
GoesOnBy order.Rotate burst start r = (old : Rotate) × (new : Rotate) × GoesOn Rotates burst old new start r
GoesOnBy order.Oldest burst start r = (old : Oldest) × (new : Oldest) × GoesOn (GoesByAge Older) burst old new start r
GoesOnBy order.Youngest burst start r =
    (old : Youngest) × (new : Youngest) × GoesOn (GoesByAge Younger) burst old new start r
GoesOnBy (order.Random seed) burst start r =
    (old : Random) × (old.generator ≡ generator_of seed) × (new : Random) × GoesOn Draws burst old new start r

-- a run of the image goes by this order, with bursts of at most `burst` turns: each of its entries is that of one step,
-- and it has as many steps as the configuration has turns unless its ending isn't open
abbrev pub IsScheduledBy : Order → (burst : ℕ) → Image → Config → Recorded → Type 0
IsScheduledBy order.Rotate burst img config r =
    (old : Rotate) × (new : Rotate) × IsScheduled Rotates img config burst old new r
IsScheduledBy order.Oldest burst img config r =
    (old : Oldest) × (new : Oldest) × IsScheduled (GoesByAge Older) img config burst old new r
IsScheduledBy order.Youngest burst img config r =
    (old : Youngest) × (new : Youngest) × IsScheduled (GoesByAge Younger) img config burst old new r
IsScheduledBy (order.Random seed) burst img config r =
    (old : Random) × (old.generator ≡ generator_of seed) × (new : Random) × IsScheduled Draws img config burst old new r

-- a run begins by these events, and then goes by this order: the script leads from before any event to where the order
-- goes on
pub record IsContinuedBy (steps : List Step) (by : Order) (burst : ℕ) (img : Image) (config : Config)
    (r : Recorded) : Type 0 where
  pub opened : Recorded
  pub before : IsOpened img config opened
  pub start : Recorded
  pub led : HasLedOn steps (length steps) opened start
  pub goes : GoesOnBy by burst start r

-- how many tasks a history has committed
abbrev pub tasks_of : Recorded → ℕ
tasks_of r = (board r.entries).committed

-- the report of a run is that of the tasks that its history has committed, with the history's counts
abbrev pub ReportsOn : Recorded → Option (List ℕ) → Option (List ℕ) → ℕ → Type 0
ReportsOn r old new exit =
    Reports r.machine.image (tasks_of r) (tasks_of r) (is_full r.machine) (Some (counts_of r.entries)) old new exit

-- the same as a row of a table, without the output words
pub record ReportsRow (row : TableRow) (r : Recorded) (old new : Option (List ℕ)) (exit : ℕ) : Type 0 where
  pub text : Appends old new (summary_row row (tasks_of r)
      (ending_after r.machine.image (tasks_of r) (is_full r.machine)) (counts_of r.entries))
  pub status : exit ≡ status_of (ending_after r.machine.image (tasks_of r) (is_full r.machine))

-- the report of a run, as a row of a table if one is asked for
abbrev pub ReportsRun : Option TableRow → Recorded → Option (List ℕ) → Option (List ℕ) → ℕ → Type 0
ReportsRun None r old new exit = ReportsOn r old new exit
ReportsRun (Some row) r old new exit = ReportsRow row r old new exit

-- the row that says how many entries were found sound
abbrev pub sound_row : ℕ → List ℕ
sound_row n = codes "sound," ++ (decimal n ++ codes "\n")

-- entries are the same in the columns that are compared
abbrev pub AreSameIn : Compared → (found es : List Entry) → Type 0
AreSameIn compared.All found es = found ≡ es
AreSameIn compared.ButSuppliers found es = AllAlike found es

-- the fault is that of these entries, in the columns that are compared
abbrev pub TellsOfColumns : Compared → Image → Config → List Entry → Fault → Type 0
TellsOfColumns compared.All img config es f = TellsOfTrace img config es f
TellsOfColumns compared.ButSuppliers img config es (fault.Trace f) = IsFaultOfRest img config es f
TellsOfColumns compared.ButSuppliers img config es _ = ⊥

-- the entries are a legal history, and what a writer holds has grown by the row that says so
pub record FindsSound (img : Image) (config : Config) (es : List Entry) (old new : Option (List ℕ))
    (exit : ℕ) : Type 0 where
  pub legal : LegalHistory img config es
  pub text : Appends old new (sound_row (length es))
  pub status : exit ≡ 0
