-- Rows of the order of versions on the state that callers see, without numbers: by computation alone.
use Rattle.std.proofs.Common.{◌≡◌, refl, [], ◌∷◌}
use Rattle.svc_bus_laws.specs.Supplier.{Committed}
use Rattle.svc_bus_laws.specs.BusState.{BusState}
use Rattle.svc_bus_laws.specs.BusView.{bus_committed, bus_view, bus_supplier}
use Rattle.svc_bus_laws.specs.BusSteps.{bus_opened, bus_begin, bus_write, bus_read, bus_commit, bus_squash}

abbrev start : BusState
start = bus_opened 4 16 2 (7 ∷ 0 ∷ 0 ∷ 0 ∷ [])

-- tasks begun on units 3, 1, 0, at places 0, 1, 2
abbrev down : BusState
down = bus_write (bus_write (bus_write (bus_begin (bus_begin (bus_begin start 3) 1) 0) 0 0 1) 1 0 2) 2 0 3

down-commits : (bus_committed (bus_commit down) 0 ≡ 1) × (bus_committed (bus_commit (bus_commit down)) 0 ≡ 2) × (bus_committed (bus_commit (bus_commit (bus_commit down))) 0 ≡ 3)
down-commits = (refl, refl, refl)

abbrev down-last : BusState
down-last = bus_begin (bus_commit (bus_commit (bus_commit down))) 2

down-read : (bus_view down-last 0 0 ≡ 3) × (bus_supplier down-last 0 0 ≡ Committed 0) × ((bus_read down-last 0 0).backing 0 ≡ 3)
down-read = (refl, refl, refl)

-- a squash in the middle; then tasks on units 2 and 1, at places 1 and 2
abbrev restarted : BusState
restarted = bus_begin (bus_begin (bus_squash (bus_write (bus_write (bus_write (bus_begin (bus_begin (bus_begin start 0) 1) 2) 0 0 1) 1 0 2) 2 0 3) 1) 2) 1

abbrev between : BusState
between = bus_write (bus_write restarted 2 0 5) 1 0 4

restarted-commits : (bus_committed (bus_commit between) 0 ≡ 1) × (bus_committed (bus_commit (bus_commit between)) 0 ≡ 4) × (bus_committed (bus_commit (bus_commit (bus_commit between))) 0 ≡ 5)
restarted-commits = (refl, refl, refl)

abbrev restarted-last : BusState
restarted-last = bus_begin (bus_commit (bus_commit (bus_commit between))) 3

restarted-read : (bus_view restarted-last 0 0 ≡ 5) × (bus_supplier restarted-last 0 0 ≡ Committed 1)
restarted-read = (refl, refl)
