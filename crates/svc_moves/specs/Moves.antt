-- What may come next at a standing, and which of it would be refused.
use Rattle.std.specs.Prelude.{ℕ, List, [], ◌++◌, cond, flat_map, is_some}
use Rattle.std.specs.List.{range_with_len}
use Rattle.svc_base.specs.declared.config.Config.{Config}
use Rattle.svc_image.specs.Image.{Image}
use Rattle.svc_core_laws.specs.Turns.{data_words}
use Rattle.svc_core_laws.specs.Words.{program}
use Rattle.svc_machine_laws.specs.Events.{Event, Assign, Submit, Replace, Cancel, Commit}
use Rattle.svc_machine_laws.specs.Guess.{guess}
use Rattle.svc_machine_laws.specs.Refusals.{seat_at}
use Rattle.svc_machine_laws.specs.Standing.{Standing, refusal_of}
use Rattle.svc_machine_laws.specs.WholeMachine.{machine_of}
use Rattle.svc_report.specs.Fields.{optional}
use Rattle.svc_held.specs.declared.named.Named.{Named}
use Rattle.svc_moves.specs.Rows.{arg_of, kind_of, move_row}
use Rattle.svc_moves.specs.Turn.{turn_of}

-- the row of a unit's event, with the refusal that the table of refusals has for it
abbrev pub event_row : Image → Config → Standing → (unit : ℕ) → Event → List ℕ
event_row img config s unit x = move_row unit (kind_of x) (arg_of x) (refusal_of img config s x)

-- the next task is begun at the guess, if there is one
abbrev pub assign_row : Image → Config → Standing → (unit : ℕ) → List ℕ
assign_row img config s unit =
    optional (λ entry. event_row img config s unit (Assign unit entry)) (guess (program img) img.entries s.plain)

-- the unit's task is run on by one turn
abbrev pub submit_row : Image → Config → Standing → (unit : ℕ) → List ℕ
submit_row img config s unit =
    event_row img config s unit
    (Submit (turn_of img (record { 0 = unit }) (seat_at (machine_of (program img) s.plain) unit)))

-- the unit's line of a word is replaced, if it has one
abbrev pub replace_row : Image → Config → Standing → (unit word : ℕ) → List ℕ
replace_row img config s unit word =
    cond (is_some (s.lines.lines unit word)) (event_row img config s unit (Replace unit word)) []

abbrev pub named_row : Image → Config → Standing → (unit : ℕ) → Named → List ℕ
named_row img config s unit n = replace_row img config s unit n.word.0

abbrev pub replace_rows : Image → Config → Standing → (unit : ℕ) → List ℕ
replace_rows img config s unit = flat_map (replace_row img config s unit) (range_with_len 0 (data_words img))

-- all that one unit may ask for
abbrev pub unit_moves : Image → Config → Standing → (unit : ℕ) → List ℕ
unit_moves img config s unit =
    assign_row img config s unit ++ (submit_row img config s unit ++ (replace_rows img config s unit
    ++ (event_row img config s unit (Cancel unit) ++ event_row img config s unit (Commit unit))))

-- and all units, in their order
abbrev pub move_rows : Image → Config → Standing → List ℕ
move_rows img config s = flat_map (unit_moves img config s) (range_with_len 0 config.units)
