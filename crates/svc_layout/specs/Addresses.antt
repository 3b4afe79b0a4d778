-- What names and local labels stand for.
use Rattle.std.specs.Prelude.{Option, Some, None, ℕ, ◌==◌, List, [], ◌∷◌, take, if◌then◌else◌, Bool, not, is_some}
use Rattle.std.specs.Prelude.{unwrap_or, slice_get, option_map, drop, ◌&&◌}
use Rattle.svc_layout.specs.declared.section.Spot.{Spot}
use Rattle.svc_layout.specs.declared.source.Local.{Local}
use Rattle.svc_layout.specs.Sources.{Source, no_source, first_spot, own_spot, shared_spot}
use Rattle.svc_layout.specs.Layouts.{Layout}
use Rattle.svc_layout.specs.Places.{place, here}

-- where the last label of this number stands, and where this one does if there is none
unfoldable pub last_local : ℕ → Option Spot → List Local → Option Spot
last_local n before [] = before
last_local n before (l ∷ ls) = last_local n (if l.number == n then Some l.spot else before) ls

-- where the first label of this number stands
unfoldable pub first_local : ℕ → List Local → Option Spot
first_local n [] = None
first_local n (l ∷ ls) = if l.number == n then Some l.spot else first_local n ls

-- what a name stands for, where all names are known: what its own text says, and else another one
abbrev pub known_spot : Layout → List ℕ → Option Spot
known_spot d name = first_spot (own_spot d.source name) (shared_spot d.sources name)

-- a name that another text or a weak one stands for, as only the second pass knows
abbrev pub is_foreign : Layout → List ℕ → Bool
is_foreign d name =
    d.known && (is_some (shared_spot d.sources name) && not (is_some (own_spot d.source name)))

-- the address that a name stands for; in the first pass any name may yet come to stand for one
abbrev pub address_of : Layout → List ℕ → Option ℕ
address_of d name = if d.known then option_map (place d) (known_spot d name) else Some (here d)

-- the address that the text which is read gives a name, where the name stands for that
abbrev pub if_same : Option ℕ → Option ℕ → Option ℕ
if_same (Some a) (Some b) = if a == b then Some a else None
if_same _ _ = None

abbrev pub own_address : Layout → List ℕ → Option ℕ
own_address d name = if_same (option_map (place d) (d.source.names name)) (address_of d name)

-- the address of the last local label of a number before here, and of the next one behind here; in the first pass any
-- may yet come
abbrev pub address_back : Layout → ℕ → Option ℕ
address_back d n =
    if d.known then option_map (place d) (last_local n None (take d.passed d.source.locals)) else Some (here d)

abbrev pub address_ahead : Layout → ℕ → Option ℕ
address_ahead d n =
    if d.known then option_map (place d) (first_local n (drop d.passed d.source.locals)) else Some (here d)

-- how far it is to the value whose high part the instruction at a place has; until all are measured, any may yet come
-- to stand there
abbrev pub distance_from : Layout → ℕ → Option ℕ
distance_from d place = if d.distances_known then d.distances place else Some 0

-- the text as the pass before found it
abbrev pub source_before : Layout → Source
source_before d = unwrap_or (slice_get d.sources d.number) no_source

-- the place that it found for a name, where it found the places
abbrev pub spot_before : Layout → List ℕ → Option Spot
spot_before d name = if d.places_known then (source_before d).names name else None

-- the place that a name stands for by a line above, or by the pass before
abbrev pub spot_of : Layout → List ℕ → Option Spot
spot_of d name = first_spot (d.source.names name) (spot_before d name)
