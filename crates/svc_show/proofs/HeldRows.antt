-- The rows of the words that are listed are those of all words.
use Rattle.std.proofs.Common.{◌≡◌, ◌∙◌, ◌<◌, [], ℕ, List, Bool, false, cond, Option, get_or, refl, ap}
use Rattle.std.specs.Prelude.{◌||◌, flat_map, is_some}
use Rattle.std.specs.List.{range_with_len}
use Rattle.svc_base.specs.declared.config.Config.{Config}
use Rattle.svc_image.specs.Image.{Image}
use Rattle.svc_core_laws.specs.Bytes.{word_at}
use Rattle.svc_core_laws.specs.Sequence.{plain_seq}
use Rattle.svc_bus_laws.specs.BusLine.{BusLine}
use Rattle.svc_bus_laws.specs.BusState.{BusState}
use Rattle.svc_machine_laws.specs.PlainMachine.{Plain}
use Rattle.svc_report.specs.Fields.{optional}
use Rattle.svc_held.specs.declared.named.Named.{Named}
use Rattle.svc_held.specs.declared.named.Namers.TheVariants.{Nobody}
use Rattle.svc_span.specs.declared.span.Span.{Span}
use Rattle.svc_held.specs.Held.{IsHeldBy, is_cached, is_named_line}
use Rattle.svc_held.specs.Named.{are_some}
use Rattle.svc_span.specs.Span.{is_asked}
use Rattle.svc_held.proofs.Listed.{all_held, line_held, no_line_held, not_cached}
use Rattle.svc_held.proofs.Ranges.{same_any, same_rows}
use Rattle.svc_show.specs.Named.{named_line, named_lines, named_memory, named_spill}
use Rattle.svc_show.specs.Rows.{line_row, memory_row, spill_row}
use Rattle.svc_show.specs.Show.{line_rows, memory_rows, spill_rows, unit_rows, word_row}

module _ (b : BusState) (words : ℕ) (asked : Option Span) (named : List Named) (held : IsHeldBy b words asked named) where
  unit_held : (unit : ℕ) → flat_map (named_line b unit) named ≡ unit_rows words b unit
  unit_held unit =
      all_held b words asked named held (λ w. optional (line_row unit w) (b.lines unit w)) (named_line b unit)
      (λ w inside. ap (optional (line_row unit w)) (line_held b words asked named held w unit inside))
      (λ w inside nobody miss. ap (optional (line_row unit w)) (no_line_held b words asked named held w unit inside nobody))

  pub lines_held : (units : ℕ) → named_lines units b named ≡ line_rows units words b
  lines_held units = same_rows (λ unit. flat_map (named_line b unit) named) (unit_rows words b) unit_held (range_with_len 0 units)

  pub spills_held : flat_map (named_spill b) named ≡ spill_rows words b
  spills_held =
      all_held b words asked named held (λ w. optional (spill_row w) (b.spill w)) (named_spill b) (λ w inside. refl)
      (λ w inside nobody miss. ap (optional (spill_row w)) (held.spill w inside nobody))

  pub memory_held : (img : Image) (config : Config) (s : Plain) → flat_map (named_memory img config s b asked) named ≡ memory_rows img config s b asked words
  memory_held img config s = all_held b words asked named held (word_row img config s b asked) (named_memory img config s b asked) some none
    where
      row : ℕ → List ℕ
      row w = memory_row w (word_at (plain_seq img s.commits).memory w) (b.backing w)

      some : (w : ℕ) → w < words → named_memory img config s b asked (record { word = record { 0 = w }; by = get_or held.marks w Nobody }) ≡ word_row img config s b asked w
      some w inside =
          let n : Named = record { word = record { 0 = w }; by = get_or held.marks w Nobody } in
          ap (λ (x : Bool). cond ((is_some (b.spill w) || x) || is_asked asked w) (row w) [])
          (same_any (is_named_line b n) (λ u. is_some (b.lines u w))
          (λ u. ap is_some (line_held b words asked named held w u inside)) (range_with_len 0 config.units))

      none : (w : ℕ) → w < words → are_some (get_or held.marks w Nobody) ≡ false → is_asked asked w ≡ false → word_row img config s b asked w ≡ []
      none w inside nobody miss =
          ap (λ (o : Option ℕ). cond ((is_some o || is_cached b config.units w) || is_asked asked w) (row w) []) (held.spill w inside nobody)
          ∙ ap (λ (x : Bool). cond ((false || x) || is_asked asked w) (row w) []) (not_cached b words asked named held w config.units inside nobody)
          ∙ ap (λ (x : Bool). cond x (row w) []) miss
