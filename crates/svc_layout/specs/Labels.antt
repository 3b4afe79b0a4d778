-- Lines that name what follows, or say what a name is.
use Rattle.std.specs.Map.{update}
use Rattle.std.specs.Prelude.{Option, Some, None, ℕ, ◌+◌, ◌==◌, List, [], ◌∷◌, ◌++◌, length, take, if◌then◌else◌, Bool}
use Rattle.std.specs.Prelude.{true, false, nat_lt, not, is_some, slice_get, option_map, ◌&&◌}
use Rattle.std.specs.Str.{bytes_eq}
use Rattle.svc_layout.specs.declared.section.Spot.{Spot}
use Rattle.svc_layout.specs.declared.source.Binding.{Binding}
use Rattle.svc_layout.specs.declared.source.Local.{Local}
use Rattle.svc_layout.specs.Sources.{binding_with, has_strength, first_by}
use Rattle.svc_layout.specs.Layouts.{Layout}
use Rattle.svc_layout.specs.Places.{place, spot_here, here}
use Rattle.svc_layout.specs.declared.source.Strength.TheVariants as strength

abbrev pub is_place : ℕ → Option ℕ → Bool
is_place place None = false
is_place place (Some address) = address == place

-- a global name of another text above, too
abbrev pub is_shared_twice : Layout → List ℕ → Bool
is_shared_twice d name =
    has_strength strength.Strong (d.source.bindings name)
    && is_some (first_by strength.Strong name (take d.number d.sources))

-- a name that a first pass finds: no other of its text is the same
unfoldable pub with_name : List ℕ → Spot → Layout → Option Layout
with_name name s d =
    if is_some (d.source.names name) then None else
    Some (record d { source = record d.source { names = update bytes_eq d.source.names name (Some s) } })

-- in the second pass it stands where the first found it, and no other text above has a global one
unfoldable pub with_name_again : List ℕ → Spot → Layout → Option Layout
with_name_again name s d =
    if is_place (place d s) (option_map (place d) (d.source.names name)) && not (is_shared_twice d name) then Some d
    else None

abbrev pub with_symbol : List ℕ → Spot → Layout → Option Layout
with_symbol name s d = if d.known then with_name_again name s d else with_name name s d

-- a name and what it is set to, which a first pass may not know yet
abbrev pub with_set : List ℕ → Option Spot → Layout → Option Layout
with_set name (Some s) d = with_symbol name s d
with_set name None d = if d.known then None else Some (record d { lacks_names = true })

-- how other texts find a name, as a first pass notes it
unfoldable pub with_binding : List ℕ → Binding → Layout → Option Layout
with_binding name b d =
    if d.known then Some d else
    Some (record d {
      source = record d.source {
        bindings = update bytes_eq d.source.bindings name (Some (binding_with (d.source.bindings name) b));
      };
    })

-- whether a local label that the first pass found has this number and stands here
abbrev pub is_local : Layout → ℕ → Option Local → Bool
is_local d n None = false
is_local d n (Some l) = l.number == n && place d l.spot == here d

unfoldable pub with_passed : ℕ → Layout → Option Layout
with_passed n d =
    if is_local d n (slice_get d.source.locals d.passed) then Some (record d { passed = d.passed + 1 }) else None

-- a local label that a first pass finds
abbrev pub local_here : ℕ → Layout → Local
local_here n d = record { number = n; spot = spot_here d }

-- a local label: in the first pass one more, of which a text has at most 4,096, and in the second it stands where the
-- first found it
unfoldable pub with_local : ℕ → Layout → Option Layout
with_local n d =
    if d.known then with_passed n d
    else if nat_lt (length d.source.locals) 4096
    then Some (record d { source = record d.source { locals = d.source.locals ++ (local_here n d ∷ []) } })
    else None
