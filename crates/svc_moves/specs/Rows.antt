-- The row of an event that may come next.
use Rattle.std.specs.Prelude.{ℕ, List, ◌++◌, Option, None, Some, codes, decimal, option_map}
use Rattle.svc_base.specs.declared.refusal.Refusal.{Refusal}
use Rattle.svc_base.specs.Refusals.{number_of}
use Rattle.svc_machine_laws.specs.Events.{Event, Assign, Submit, Replace, Cancel, Commit}
use Rattle.svc_text.specs.Parts.{digits_of}

-- its kind and its argument, as a script has them: the submit is that of a burst of one turn
abbrev pub kind_of : Event → List ℕ
kind_of (Assign unit guess) = codes "assign"
kind_of (Submit b) = codes "submit"
kind_of (Replace unit address) = codes "replace"
kind_of (Cancel unit) = codes "cancel"
kind_of (Commit by) = codes "commit"

abbrev pub arg_of : Event → Option ℕ
arg_of (Assign unit guess) = Some guess
arg_of (Submit b) = Some 1
arg_of (Replace unit address) = Some address
arg_of (Cancel unit) = None
arg_of (Commit by) = None

-- a unit, a kind, an argument if it has one, and why the event is refused, if it is
abbrev pub move_row : (unit : ℕ) → (kind : List ℕ) → (arg : Option ℕ) → Option Refusal → List ℕ
move_row unit kind arg why =
    codes "move," ++ (decimal unit ++ (codes "," ++ (kind ++ (codes "," ++ (digits_of arg ++ (codes ","
    ++ (digits_of (option_map number_of why) ++ codes "\n")))))))
