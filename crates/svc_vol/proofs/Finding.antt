-- The lines that were found, by unit, and the active ones of one more task.
use Rattle.std.proofs.Common.{◌≡◌, ◌∙◌, refl, sym, ap, ap₂, ℕ, zero, suc, ◌+◌, ◌<◌, Option, None, List, [], ◌∷◌, ◌++◌, length, map, get_or, take, option_map}
use Rattle.std.proofs.lemmas.List.{map-append, map_more, get_or-map}
use Rattle.svc_line.specs.Line.{seen_line}
use Rattle.svc_line.specs.declared.line.Line.{Line}
use Rattle.svc_vol.specs.declared.held_line.HeldLine.{HeldLine}
use Rattle.svc_vol.specs.Lines.{UnitLines, lines_at}
use Rattle.svc_vol.specs.Value.{SeenHeldLine, active_line, active_lines, seen_held_line}

-- the line that was found in a unit's cache
pub line_of_unit : (found : List (Option Line)) (unit : ℕ) (default : Option Line) → unit < length found → lines_at (map (option_map seen_line) found) unit ≡ option_map seen_line (get_or found unit default)
line_of_unit found unit default here = get_or-map (option_map seen_line) found unit default None here

-- also where there is no cache
pub line_at : (found : List (Option Line)) (unit : ℕ) → lines_at (map (option_map seen_line) found) unit ≡ option_map seen_line (get_or found unit None)
line_at [] unit = refl
line_at (line ∷ found) zero = refl
line_at (line ∷ found) (suc unit) = line_at found unit

pub active_more : (lines : UnitLines) (units : List ℕ) (items : List (Option HeldLine)) (place unit : ℕ) (active : Option HeldLine) → place < length units → unit ≡ get_or units place 0
    → map (option_map seen_held_line) items ≡ active_lines lines (take place units)
    → option_map seen_held_line active ≡ active_line unit (lines unit)
    → map (option_map seen_held_line) (items ++ active ∷ []) ≡ active_lines lines (take (place + 1) units)
active_more lines units items place unit active here at_place before made =
    map-append (option_map seen_held_line) items (active ∷ [])
    ∙ ap₂ (λ (old : List (Option SeenHeldLine)) (new : Option SeenHeldLine). old ++ new ∷ []) before (made ∙ ap (λ u. active_line u (lines u)) at_place)
    ∙ sym (map_more (λ u. active_line u (lines u)) units place 0 here)
