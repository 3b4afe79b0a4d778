-- Replayed entries are sound.
use Rattle.std.proofs.Common.{◌≡◌, List, Result, Ok, Err, subst, sym}
use Rattle.std.specs.Prelude.{IfOk}
use Rattle.svc_base.specs.declared.config.Config.{Config}
use Rattle.svc_image.specs.Image.{Image}
use Rattle.svc_history_laws.specs.declared.entry.Entry.{Entry}
use Rattle.svc_history.specs.Recorded.{IsLegal, Recorded}
use Rattle.svc_history.specs.declared.trace.TraceFault.{TraceFault}
use Rattle.svc_request.specs.declared.request.Compared.{Compared}
use Rattle.svc_request.specs.declared.request.Compared.TheVariants.{All}
use Rattle.svc_reasons.specs.Explained.{AreSound}

sound_all : (img : Image) (config : Config) (es : List Entry) (result : Result Recorded TraceFault) → IfOk result (λ r. r.machine.image ≡ img) → IfOk result (λ r. r.machine.config ≡ config)
    → IfOk result (λ r. r.entries ≡ es) → IfOk result IsLegal → IfOk result (λ r. AreSound All img config es r.entries)
sound_all img config es (Ok r) image config_is entries legal = (entries, rw (image, config_is) at legal.legal)
sound_all img config es (Err f) image config_is entries legal = tt

pub sound_as : (compared : Compared) → compared ≡ All → (img : Image) (config : Config) (es : List Entry) (result : Result Recorded TraceFault) → IfOk result (λ r. r.machine.image ≡ img)
    → IfOk result (λ r. r.machine.config ≡ config) → IfOk result (λ r. r.entries ≡ es) → IfOk result IsLegal → IfOk result (λ r. AreSound compared img config es r.entries)
sound_as compared is img config es result image config_is entries legal =
    subst (λ (k : Compared). IfOk result (λ r. AreSound k img config es r.entries)) (sym is) (sound_all img config es result image config_is entries legal)
