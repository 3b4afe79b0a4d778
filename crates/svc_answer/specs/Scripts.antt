-- What `script` does, and what is printed of it.
use Rattle.std.specs.Prelude.{◌≡◌, ℕ, List, [], Option, None, replicate, length}
use Rattle.svc_base.specs.declared.config.Config.{Config}
use Rattle.svc_image.specs.Image.{Image}
use Rattle.svc_history_laws.specs.declared.entry.Entry.{Entry}
use Rattle.svc_history.specs.Recorded.{Recorded}
use Rattle.svc_script.specs.declared.script.Step.{Step}
use Rattle.svc_script.specs.Playing.{HasPlayed, Kept}
use Rattle.svc_answer.specs.Runs.{IsRunOf, ReportsOn}

-- all steps of a script lead on so, and then the report of the run was printed
abbrev pub HasPlayedAll : (steps : List Step) (r : Recorded) (kept : Kept) (next : Recorded) (after : Kept)
    (old new : Option (List ℕ)) → ℕ → Type 0
HasPlayedAll steps r kept next after old new exit =
    (between : Option (List ℕ)) × HasPlayed steps (length steps) r kept next after old between
    × ReportsOn next between new exit

-- from a machine before any event the script leads to a run, of whose entries something holds; the line of each step
-- was printed, and then the report of that run
pub record PlaysScript (img : Image) (config : Config) (steps : List Step) (Holds : List Entry → Type 0)
    (old new : Option (List ℕ)) (exit : ℕ) : Type 0 where
  pub start : Recorded
  pub started : IsRunOf img config start
  pub none_yet : start.entries ≡ []
  pub last : Recorded
  pub run : IsRunOf img config last
  pub kept : Kept
  pub between : Option (List ℕ)
  pub played : HasPlayed steps (length steps) start (replicate config.units None) last kept old between
  pub report : ReportsOn last between new exit
  pub entries : Holds last.entries
