-- What callers may know of a bus.
use Rattle.svc_bus_laws.specs.BusState.{BusState}
use Rattle.svc_bus.specs.Value.{BusValue, state_in}

-- the lines, their order, and all else except their links
unfoldable pub bus_state : BusValue → BusState
bus_state b = state_in b
