-- A machine before any event.
use Rattle.std.proofs.Common.{ℕ, ◌≡◌, ◌≤◌, List, [], map, None, refl, sym, subst}
use Rattle.svc_base.specs.declared.config.Config.{Config}
use Rattle.svc_image.specs.Image.{Image, IsImage}
use Rattle.svc_bus_laws.specs.BusState.{Agrees}
use Rattle.svc_bus.specs.Value.{BusValue}
use Rattle.svc_bus.specs.State.{bus_state}
use Rattle.svc_machine_laws.specs.Guide.{Guide, guide_opened}
use Rattle.svc_machine_laws.specs.Standing.{no_lines}
use Rattle.svc_machine_laws.proofs.Given.{given}
use Rattle.svc_machine_laws.proofs.Folds.{opened_reached}
use Rattle.svc_machine.specs.declared.seat.Seat.{Seat}
use Rattle.svc_machine.specs.Seats.{plain_of}
use Rattle.svc_machine.specs.Kept.{Kept, whole_seat}

pub opened_kept : (img : Image) → IsImage img → (config : Config) (first : ℕ) (bus : BusValue) (guide : Guide) (seats : List Seat) (places : ℕ) (output : List ℕ) (room : ℕ)
    → seats ≡ [] → output ≡ [] → guide ≡ guide_opened img.entries img.start → Agrees (bus_state bus) (no_lines img config) → config.units ≤ places → config.events ≤ room
    → Kept (record { image = img; config = config; plain = plain_of 0 0 first seats; bus = bus; guide = guide; seats = map whole_seat seats; places = places; output = output; room = room; stopped = None })
opened_kept img is config first bus guide seats places output room no_seats no_output guide_is agrees enough words =
    subst (λ (l : List Seat). Kept (record { image = img; config = config; plain = plain_of 0 0 first l; bus = bus; guide = guide; seats = map whole_seat l; places = places; output = output; room = room; stopped = None }))
    (sym no_seats)
    (record {
      sound = is;
      seats = refl;
      output = no_output;
      stopped = refl;
      guide = guide_is;
      places = enough;
      room = words;
      lines = no_lines img config;
      agrees = agrees;
      reached = opened_reached img (given img is) config first;
    })
