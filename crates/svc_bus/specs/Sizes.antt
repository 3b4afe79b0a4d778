-- The sizes of buses.
use Rattle.std.specs.Prelude.{◌≡◌}
use Rattle.svc_bus_laws.specs.BusState.{BusState}

-- as many caches, each of as many sets and ways, over memories of as many words
pub record AreOfOneSize (b c : BusState) : Type 0 where
  pub caches : b.caches ≡ c.caches
  pub sets : b.sets ≡ c.sets
  pub ways : b.ways ≡ c.ways
  pub words : b.words ≡ c.words
