-- A script that was played to its end, from a machine before any event, is the script that was asked for.
use Rattle.std.specs.Prelude.{IfOk, OnOk, replicate}
use Rattle.std.proofs.Common.{◌≡◌, ◌∙◌, ◌++◌, ℕ, List, [], Option, Some, None, Result, Ok, Err, refl, sym, ap, append_assoc}
use Rattle.svc_base.specs.declared.config.Config.{Config}
use Rattle.svc_image.specs.Image.{Image}
use Rattle.svc_history.specs.Recorded.{Recorded, IsLegal}
use Rattle.svc_script.specs.declared.script.Step.{Step}
use Rattle.std.specs.Io.KnownBytes.{Appends}
use Rattle.svc_history_laws.specs.declared.entry.Entry.{Entry}
use Rattle.svc_script.specs.Playing.{Kept}
use Rattle.svc_answer.specs.Scripts.{HasPlayedAll, PlaysScript}

pub scripted : {E : Type 0} (r : Result ℕ E) (img : Image) (config : Config) (steps : List Step) (Holds : List Entry → Type 0) (start last : Recorded) (kept after : Kept) (old new : Option (List ℕ))
    → start.machine.image ≡ img → start.machine.config ≡ config → start.entries ≡ [] → IsLegal start → kept ≡ replicate config.units None → OnOk r (IsLegal last)
    → IfOk r (HasPlayedAll steps start kept last after old new) → OnOk r (Holds last.entries)
    → IfOk r (PlaysScript img config steps Holds old new)
scripted (Ok exit) img config steps Holds start last kept after old new image is_config none legal empty last_legal (between, played, report) entries =
    record {
      start = start;
      started = record { image = image; config_is = is_config; legal = legal };
      none_yet = none;
      last = last;
      run = record { image = rw (played.image) image; config_is = rw (played.config_is) is_config; legal = last_legal };
      kept = after;
      between = between;
      played = rw (sym empty) played;
      report = report;
      entries = entries;
    }
scripted (Err e) img config steps Holds start last kept after old new image is_config none legal empty last_legal done entries = tt

gathered_lines : (x text y : List ℕ) (mid : Option (List ℕ)) → Appends (Some []) mid x → Appends mid (Some text) y → text ≡ x ++ y
gathered_lines x text y None f g = absurd f
gathered_lines x text y (Some m) f g = g ∙ ap (λ (t : List ℕ). t ++ y) f

-- the steps' lines and the report were gathered in a text, and then that was printed
pub played_through : (exit : ℕ) (steps : List Step) (start last : Recorded) (kept after : Kept) (text : List ℕ) (old new : Option (List ℕ))
    → HasPlayedAll steps start kept last after (Some []) (Some text) exit → Appends old new text → HasPlayedAll steps start kept last after old new exit
played_through exit steps start last kept after text None new (between, played, report) printed = (
  None,
  record { text = played.text; steps_done = played.steps_done; lines = tt; image = played.image; config_is = played.config_is },
  record { text = tt; status = report.status },
)
played_through exit steps start last kept after text (Some xs) None (between, played, report) printed = absurd printed
played_through exit steps start last kept after text (Some xs) (Some ys) (between, played, report) printed = (
  Some (xs ++ played.text),
  record { text = played.text; steps_done = played.steps_done; lines = refl; image = played.image; config_is = played.config_is },
  record { text = printed ∙ ap (λ (t : List ℕ). xs ++ t) (gathered_lines played.text text _ between played.lines report.text) ∙ sym (append_assoc xs played.text _); status = report.status },
)

-- what holds anyway holds of a result
pub always : {E : Type 0} (r : Result ℕ E) (P : Type 0) → P → OnOk r P
always (Ok exit) P holds = holds
always (Err e) P holds = tt
