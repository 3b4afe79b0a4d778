-- The words that a history's entries name have all that the machine holds.
use Rattle.std.proofs.Common.{◌∙◌, List, Option, ap, get_or}
use Rattle.std.specs.Prelude.{Result, Ok, Err, IfOk}
use Rattle.svc_image.specs.Image.{IsImage}
use Rattle.svc_core_laws.specs.Turns.{data_words}
use Rattle.svc_bus.specs.State.{bus_state}
use Rattle.svc_bus_laws.specs.BusState.{without_number}
use Rattle.svc_machine_laws.proofs.Given.{given}
use Rattle.svc_history.specs.Recorded.{IsLegal, Recorded}
use Rattle.svc_held.specs.declared.named.Named.{Named}
use Rattle.svc_held.specs.declared.named.Namers.TheVariants.{Nobody}
use Rattle.svc_span.specs.declared.span.Span.{Span}
use Rattle.svc_held.specs.Held.{IsHeldBy}
use Rattle.svc_held.specs.Named.{AreNamed}
use Rattle.svc_held.proofs.Listed.{nobody_has}
use Rattle.svc_held.proofs.LinesNamed.{no_line, no_spill}

pub held : (r : Recorded) → IsLegal r → IsImage r.machine.image → (asked : Option Span) (named : List Named)
    → AreNamed r.entries (data_words r.machine.image) asked named → IsHeldBy (bus_state r.machine.bus) (data_words r.machine.image) asked named
held r legal is asked named are =
    let img = r.machine.image in
    let config = r.machine.config in
    record {
      marks = are.marks;
      named_is = are.named_is;
      lines = λ u w inside miss.
          legal.here.lines.lines u w ∙ ap without_number (no_line img (given img is) config r.entries legal.legal u w (are.marked.told u w inside miss));
      spill = λ w inside none.
          legal.here.lines.spill w
          ∙ no_spill img config r.entries legal.legal w (λ u. are.marked.told u w inside (nobody_has (get_or are.marks w Nobody) none u));
    }

pub if_ok : {A E : Type 0} (r : Result A E) (P Q : A → Type 0) → ((x : A) → P x → Q x) → IfOk r P → IfOk r Q
if_ok (Ok x) P Q f p = f x p
if_ok (Err e) P Q f p = tt
