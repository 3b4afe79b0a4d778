-- What names stand for where a value stands: labels, local labels and the address of what comes next.
use Rattle.std.specs.Prelude.{ℕ, Bool, List, Option, Some, None, if◌then◌else◌, codes, option_map}
use Rattle.std.specs.Str.{bytes_eq}
use Rattle.std.specs.List.{take_while}
use Rattle.svc_layout.specs.Layouts.{Layout}
use Rattle.svc_layout.specs.Places.{here}
use Rattle.svc_layout.specs.Addresses.{address_back, address_ahead, address_of}
use Rattle.svc_expressions.specs.declared.places.Reference.{Reference}
use Rattle.svc_expressions.specs.declared.places.Reference.TheVariants as label
use Rattle.svc_tokens.specs.Characters.{is_from_to, past, value_of, found}

abbrev pub is_decimal : ℕ → Bool
is_decimal c = is_from_to 48 57 c

-- a decimal number, and b for the last label of this number before here, or f for the next one
unfoldable pub reference_named : List ℕ → Option Reference
reference_named name =
    if bytes_eq (past is_decimal name) (codes "b") then option_map (λ n. label.Back n)
    (value_of 10 (take_while is_decimal name)) else
    if bytes_eq (past is_decimal name) (codes "f") then option_map (λ n. label.Ahead n)
    (value_of 10 (take_while is_decimal name)) else
    None

abbrev pub reference_address : Layout → Reference → Option ℕ
reference_address d (label.Back n) = address_back d n
reference_address d (label.Ahead n) = address_ahead d n

-- what a name stands for: a dot for the address of what comes next, and a label for its own
unfoldable pub place_of : Layout → List ℕ → Option ℕ
place_of d name =
    if bytes_eq name (codes ".") then Some (here d) else found (reference_named name) (λ r. reference_address d r)
    (address_of d name)
