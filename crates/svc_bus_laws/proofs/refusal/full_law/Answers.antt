use Rattle.svc_bus_laws.proofs.RefusalProofs.{full_refuses, room_allows, named_address}
use Rattle.svc_bus_laws.proofs.refusal.full_law.Goals as goal

pub returns : goal.returns
returns c = record { refuses = full_refuses; allows = room_allows; named = named_address }
