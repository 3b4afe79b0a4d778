-- What holds of every standing that events lead to.
use Rattle.std.specs.Prelude.{ℕ, ◌≡◌, ◌+◌, ◌≤◌, true, List, [], ◌∷◌, length, map, is_some}
use Rattle.std.specs.List.{AllByRecursion}
use Rattle.svc_base.specs.declared.config.Config.{Config}
use Rattle.svc_image.specs.Image.{Image, is_entry}
use Rattle.svc_core_laws.specs.State.{State}
use Rattle.svc_core_laws.specs.Program.{output, seq}
use Rattle.svc_core_laws.specs.Words.{program}
use Rattle.svc_core_laws.specs.Turns.{data_words}
use Rattle.svc_bus_laws.specs.LineTable.{LineTable, versioned_map}
use Rattle.svc_bus_laws.specs.Sound.{IsSound}
use Rattle.svc_machine_laws.specs.PlainMachine.{Task, Plain, Running, running, unit_of, IsDue}
use Rattle.svc_machine_laws.specs.WholeMachine.{machine_of}
use Rattle.svc_machine_laws.specs.Standing.{Standing}

-- the line table is sound, has the configuration's form and the image's size, and stands for the plain machine's
-- versioned map
pub record AreItsLines (img : Image) (config : Config) (s : Plain) (t : LineTable) : Type 0 where
  pub sound : IsSound t
  pub same_map : versioned_map t ≡ (machine_of (program img) s).versioned
  pub units : t.units ≡ map unit_of s.tasks
  pub caches : t.caches ≡ config.units
  pub sets : t.sets ≡ config.sets
  pub ways : t.ways ≡ config.ways
  pub words : t.words ≡ data_words img

-- a task began at an entry
abbrev pub BeganAtEntry : Image → Task → Type 0
BeganAtEntry img t = is_entry img t.entry ≡ true

-- a core's count is its task's turns
abbrev pub IsCounted : Running State → Type 0
IsCounted x = x.run.core.count ≡ x.task.turns

-- the words that these tasks have output, which wait for their commits
abbrev pub words_waiting : {C : Type 0} → List (Running C) → ℕ
words_waiting [] = 0
words_waiting (x ∷ runs) = length (output x.run.log) + words_waiting runs

-- the plain machine and the lines of a standing that events lead to
pub record IsReached (img : Image) (config : Config) (s : Standing) : Type 0 where
  -- the head is the due task, and once the run has stopped there is no task
  pub due : IsDue (seq (program img) s.plain.commits).due s.plain.tasks
  pub idle : is_some (seq (program img) s.plain.commits).stopped ≡ true → s.plain.tasks ≡ []
  pub entries : AllByRecursion (BeganAtEntry img) s.plain.tasks
  pub counted : AllByRecursion IsCounted (running (program img) s.plain)
  pub commits_few : s.plain.commits ≤ s.plain.accepted
  pub accepted_few : s.plain.accepted ≤ config.events
  -- there are no more output words than accepted events
  pub outputs_few : length (seq (program img) s.plain.commits).output + words_waiting (running (program img) s.plain)
      ≤ s.plain.accepted
  pub lines : AreItsLines img config s.plain s.lines
