-- The rows of the lines of listed words are those of all words.
use Rattle.std.proofs.Common.{◌≡◌, ◌∙◌, [], ℕ, List, Option, None, Some, Bool, refl, ap, sym}
use Rattle.std.specs.Prelude.{cond, flat_map, is_some}
use Rattle.svc_base.specs.declared.config.Config.{Config}
use Rattle.svc_image.specs.Image.{Image}
use Rattle.svc_core_laws.specs.Turns.{data_words}
use Rattle.svc_bus_laws.specs.BusLine.{BusLine}
use Rattle.svc_bus_laws.specs.BusState.{BusState, without_number}
use Rattle.svc_bus_laws.specs.LineTable.{Line}
use Rattle.svc_machine_laws.specs.Events.{Replace}
use Rattle.svc_machine_laws.specs.Standing.{Standing}
use Rattle.svc_held.specs.declared.named.Named.{Named}
use Rattle.svc_span.specs.declared.span.Span.{Span}
use Rattle.svc_held.specs.Held.{HasItsLines, IsHeldBy, is_named_line}
use Rattle.svc_held.proofs.Listed.{all_held, no_line_held, own_line}
use Rattle.svc_moves.specs.Moves.{event_row, named_row, replace_row, replace_rows}

same_some : (o : Option Line) → is_some (without_number o) ≡ is_some o
same_some None = refl
same_some (Some l) = refl

-- whether a line is there, by its bus and by its table
some_line : (b : BusState) (s : Standing) → ((u a : ℕ) → b.lines u a ≡ without_number (s.lines.lines u a)) → (u a : ℕ) → is_some (b.lines u a) ≡ is_some (s.lines.lines u a)
some_line b s same u a = ap is_some (same u a) ∙ same_some (s.lines.lines u a)

pub is_held : (b : BusState) (s : Standing) → ((u a : ℕ) → b.lines u a ≡ without_number (s.lines.lines u a)) → (words : ℕ) (n : Named) → HasItsLines b words n → (unit : ℕ)
    → is_named_line b n unit ≡ is_some (s.lines.lines unit n.word.0)
is_held b s same words n own unit = ap is_some (own_line b words n own unit) ∙ some_line b s same unit n.word.0

pub replaces_held : (img : Image) (config : Config) (s : Standing) (b : BusState) → ((u a : ℕ) → b.lines u a ≡ without_number (s.lines.lines u a))
    → (asked : Option Span) (named : List Named) → IsHeldBy b (data_words img) asked named → (unit : ℕ)
    → flat_map (named_row img config s unit) named ≡ replace_rows img config s unit
replaces_held img config s b same asked named held unit =
    all_held b (data_words img) asked named held (replace_row img config s unit) (named_row img config s unit) (λ w inside. refl)
    (λ w inside nobody miss.
    ap (λ (x : Bool). cond x (event_row img config s unit (Replace unit w)) [])
    (sym (some_line b s same unit w) ∙ ap is_some (no_line_held b (data_words img) asked named held w unit inside nobody)))
