-- The numbers of the refusals.
use Rattle.std.specs.Prelude.{ℕ}
use Rattle.svc_base.specs.declared.refusal.Refusal.{Refusal}
use Rattle.svc_base.specs.declared.refusal.Refusal.TheVariants.{NoSuchUnit, Busy, Idle, Stale, ForeignText, NotEntry}
use Rattle.svc_base.specs.declared.refusal.Refusal.TheVariants.{Stopped, Done, SetFull, NotResident, Pinned}
use Rattle.svc_base.specs.declared.refusal.Refusal.TheVariants.{HeadNotDone, NoTask, IsHead, HistoryFull, EpochsSpent}
use Rattle.svc_base.specs.declared.refusal.Refusal.TheVariants.{EmptyBurst}

-- the number of a refusal
unfoldable pub number_of : Refusal → ℕ
number_of NoSuchUnit = 1
number_of Busy = 2
number_of Idle = 3
number_of Stale = 4
number_of ForeignText = 5
number_of NotEntry = 6
number_of Stopped = 7
number_of Done = 8
number_of (SetFull a) = 9
number_of NotResident = 10
number_of Pinned = 11
number_of HeadNotDone = 12
number_of NoTask = 13
number_of IsHead = 14
number_of HistoryFull = 15
number_of EpochsSpent = 16
number_of EmptyBurst = 17
