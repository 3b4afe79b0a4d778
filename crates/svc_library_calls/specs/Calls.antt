-- The names of the calls, file by file.
use Rattle.std.specs.Prelude.{ℕ, Bool, List, [], ◌∷◌, codes}
use Rattle.std.specs.List.{list_any}
use Rattle.std.specs.Str.{bytes_eq}

-- the name is one of these
abbrev pub is_one_of : List (List ℕ) → List ℕ → Bool
is_one_of names name = list_any (bytes_eq name) names

-- on images, and of the plain runner
abbrev pub image_calls : List (List ℕ)
image_calls =
    codes "image_read" ∷ codes "image_read_front" ∷ codes "image_read_second" ∷ codes "image_write"
    ∷ codes "image_copy" ∷ codes "image_upgrade" ∷ codes "run_tasks" ∷ []

-- on machines and recorders
abbrev pub machine_calls : List (List ℕ)
machine_calls =
    codes "machine_open" ∷ codes "machine_open_from" ∷ codes "drive" ∷ codes "recorder_open"
    ∷ codes "check_trace" ∷ codes "run_schedule" ∷ []

-- on why an entry of a trace is faulty
abbrev pub reason_calls : List (List ℕ)
reason_calls = codes "explain_entries" ∷ []

-- on texts
abbrev pub text_calls : List (List ℕ)
text_calls =
    codes "write_trace" ∷ codes "write_entry" ∷ codes "write_summary" ∷ codes "read_trace"
    ∷ codes "read_script" ∷ []

-- on a unit's turns
abbrev pub unit_calls : List (List ℕ)
unit_calls = codes "run_unit" ∷ []
