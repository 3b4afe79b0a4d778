-- What the steps of a script do to a recorder, and the line of each.
use Rattle.std.specs.Prelude.{◌≡◌, ℕ, zero, suc, not, cond, nat_lt, List, [], ◌∷◌, ◌++◌, Option, Some, None, codes}
use Rattle.std.specs.Prelude.{decimal, slice_get, slice_set, Result, Err, IfOk, IsOk, unwrap_or}
use Rattle.std.specs.Io.KnownBytes.{Appends}
use Rattle.svc_base.specs.declared.ids.UnitId.{UnitId}
use Rattle.svc_base.specs.declared.refusal.Refusal.{Refusal}
use Rattle.svc_base.specs.declared.refusal.Refusal.TheVariants as refusal
use Rattle.svc_base.specs.Refusals.{number_of}
use Rattle.svc_image.specs.Image.{Image}
use Rattle.svc_core_laws.specs.Bursts.{Advance, IsAdvance, is_nothing}
use Rattle.svc_core.specs.declared.burst.Lease.{Lease}
use Rattle.svc_machine_laws.specs.Events.{Event}
use Rattle.svc_machine_laws.specs.Events as event
use Rattle.svc_machine_laws.specs.Standing.{refusal_of, reply_to}
use Rattle.svc_machine.specs.Reads.{lease_of}
use Rattle.svc_history_laws.specs.declared.entry.Entry.{Entry}
use Rattle.svc_history_laws.specs.Entries.{entry_of}
use Rattle.svc_history.specs.Recorded.{IsLegal, Recorded, standing_of}
use Rattle.svc_report.specs.Fields.{ask_word}
use Rattle.svc_report.specs.Trace.{row_of}
use Rattle.svc_script.specs.declared.script.Step.{Step}
use Rattle.svc_script.specs.declared.script.StepKind.{StepKind}
use Rattle.svc_script.specs.declared.script.StepKind.TheVariants as step
use Rattle.svc_script.specs.declared.playing.Answer.{Answer}
use Rattle.svc_script.specs.declared.playing.Answer.TheVariants as answer

-- the line of an answer: an accepted event's row of a trace, a refusal's number, or the local turns of a burst that is
-- kept and whether it asks
abbrev pub answer_row : Answer → List ℕ
answer_row (answer.Accepted e) = row_of e
answer_row (answer.Refused why) = codes "refused," ++ (decimal (number_of why) ++ codes "\n")
answer_row (answer.Taken local ask) = codes "taken," ++ (decimal local ++ (codes "," ++ (ask_word ask ++ codes "\n")))
answer_row answer.Nothing = codes "none\n"

-- the bursts that are kept, by unit
abbrev pub Kept : Type 0
Kept = List (Option Advance)

abbrev pub kept_for : Kept → UnitId → Option Advance
kept_for kept unit = unwrap_or (slice_get kept unit.0) None

-- an event is accepted with this entry, which is appended, and the same machine goes on where the history leads
pub record Accepts (r : Recorded) (x : Event) (e : Entry) (next : Recorded) : Type 0 where
  pub admitted : refusal_of r.machine.image r.machine.config (standing_of r) x ≡ None
  pub entry : e ≡ entry_of x (reply_to r.machine.image (standing_of r) x)
  pub entries : next.entries ≡ r.entries ++ e ∷ []
  pub image : next.machine.image ≡ r.machine.image
  pub config_is : next.machine.config ≡ r.machine.config
  pub legal : IsLegal next

-- an event is tried: it is accepted with its entry, or is refused and changes nothing
abbrev pub Tries : Recorded → Event → Answer → Recorded → Type 0
Tries r x (answer.Accepted e) next = Accepts r x e next
Tries r x (answer.Refused why) next =
    (refusal_of r.machine.image r.machine.config (standing_of r) x ≡ Some why) × (next ≡ r)
Tries r x (answer.Taken local ask) next = ⊥
Tries r x answer.Nothing next = ⊥

-- why there is no task: there is no such unit, or it is idle
abbrev pub no_task : Recorded → UnitId → Refusal
no_task r unit = cond (nat_lt unit.0 r.machine.config.units) refusal.Idle refusal.NoSuchUnit

-- the burst runs the leased task on by at most this many turns
pub record TakesOn (img : Image) (lease : Lease) (turns : ℕ) (burst : Advance) : Type 0 where
  pub unit : burst.unit ≡ lease.unit
  pub epoch : burst.epoch ≡ lease.epoch
  pub start : burst.start ≡ lease.core
  pub advance : IsAdvance img turns burst

-- what runs a unit's task on: a burst, or the refusal if there is no task
abbrev pub HasBurst : Recorded → UnitId → (turns : ℕ) → Option Lease → Result Advance Refusal → Type 0
HasBurst r unit turns None result = result ≡ Err (no_task r unit)
HasBurst r unit turns (Some lease) result = IfOk result (TakesOn r.machine.image lease turns) × IsOk result

-- a unit's task is run on and the burst submitted; without a task this is refused
abbrev pub Submits : Option Lease → (turns : ℕ) → UnitId → Recorded → Answer → Recorded → Type 0
Submits None turns unit r a next = (a ≡ answer.Refused (no_task r unit)) × (next ≡ r)
Submits (Some lease) turns unit r a next =
    (b : Advance) × TakesOn r.machine.image lease turns b × Tries r (event.Submit b) a next

-- a unit's task is run on and the burst kept; without a task nothing is
abbrev pub Takes : Option Lease → (turns : ℕ) → UnitId → Recorded → Kept → Answer → Kept → Type 0
Takes None turns unit r kept a after = (a ≡ answer.Nothing) × (after ≡ kept)
Takes (Some lease) turns unit r kept a after =
    (b : Advance) × TakesOn r.machine.image lease turns b × (a ≡ answer.Taken b.local (not (is_nothing b.ask)))
    × (after ≡ slice_set kept unit.0 (Some b))

-- the burst that is kept for a unit is submitted, and no longer kept; without one nothing is
abbrev pub Gives : Option Advance → Recorded → Answer → Recorded → Type 0
Gives None r a next = (a ≡ answer.Nothing) × (next ≡ r)
Gives (Some b) r a next = Tries r (event.Submit b) a next

-- a step of this kind is done
abbrev pub DoesKind : StepKind → UnitId → Recorded → Kept → Answer → Recorded → Kept → Type 0
DoesKind (step.Assign guess) unit r kept a next after = Tries r (event.Assign unit.0 guess) a next × (after ≡ kept)
DoesKind (step.Submit turns) unit r kept a next after =
    Submits (lease_of r.machine unit.0) turns unit r a next × (after ≡ kept)
DoesKind (step.Replace addr) unit r kept a next after = Tries r (event.Replace unit.0 addr.0) a next × (after ≡ kept)
DoesKind step.Cancel unit r kept a next after = Tries r (event.Cancel unit.0) a next × (after ≡ kept)
DoesKind step.Commit unit r kept a next after = Tries r (event.Commit unit.0) a next × (after ≡ kept)
DoesKind (step.Take turns) unit r kept a next after =
    Takes (lease_of r.machine unit.0) turns unit r kept a after × (next ≡ r)
DoesKind step.Give unit r kept a next after = Gives (kept_for kept unit) r a next × (after ≡ slice_set kept unit.0 None)

-- a script under way: the run, the bursts that are kept, and the text printed so far
pub record Play : Type 0 where
  pub run : Recorded
  pub kept : Kept
  pub text : List ℕ

-- a step leads on, and its line is printed
abbrev pub Plays : Step → Play → Play → Type 0
Plays s p next =
    (a : Answer) × DoesKind s.kind s.unit p.run p.kept a next.run next.kept × (next.text ≡ p.text ++ answer_row a)

-- the first n steps of a script lead on
abbrev pub PlaysTo : List Step → ℕ → Play → Play → Type 0
PlaysTo steps zero p next = next ≡ p
PlaysTo steps (suc n) p next =
    (between : Play) × PlaysTo steps n p between × (s : Step) × (slice_get steps n ≡ Some s) × Plays s between next

-- the first n steps of a script lead from one run to another of the same machine, and what a writer holds has grown by
-- their lines
pub record HasPlayed (steps : List Step) (n : ℕ) (r : Recorded) (kept : Kept) (next : Recorded) (after : Kept)
    (old new : Option (List ℕ)) : Type 0 where
  pub text : List ℕ
  pub steps_done : PlaysTo steps n (record { run = r; kept = kept; text = [] })
      (record { run = next; kept = after; text = text })
  pub lines : Appends old new text
  pub image : next.machine.image ≡ r.machine.image
  pub config_is : next.machine.config ≡ r.machine.config
