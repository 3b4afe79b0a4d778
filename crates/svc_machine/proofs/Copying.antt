-- Two machines of one image and configuration are of one size, and each has room for what the other one holds.
use Rattle.std.proofs.Common.{ℕ, ◌≡◌, ◌≤◌, List, map, length, sym, ap, ◌∙◌, subst, arith}
use Rattle.svc_base.specs.declared.config.Config.{Config}
use Rattle.svc_image.specs.Image.{Image}
use Rattle.svc_core_laws.specs.State.{State}
use Rattle.svc_core_laws.specs.Program.{seq}
use Rattle.svc_core_laws.specs.Turns.{data_words}
use Rattle.svc_core_laws.specs.Words.{program}
use Rattle.svc_bus.specs.Value.{BusValue}
use Rattle.svc_bus.specs.State.{bus_state}
use Rattle.svc_bus.specs.Sizes.{AreOfOneSize}
use Rattle.svc_machine_laws.specs.Guide.{Guide}
use Rattle.svc_machine_laws.specs.PlainMachine.{Plain}
use Rattle.svc_machine_laws.specs.WholeMachine as whole
use Rattle.svc_machine_laws.specs.WholeMachine.{machine_of}
use Rattle.svc_machine_laws.proofs.Answering as answering
use Rattle.svc_machine_laws.proofs.Room.{tasks_few}
use Rattle.svc_machine.specs.declared.seat.Seat.{Seat}
use Rattle.svc_machine.specs.Kept.{Parts, Kept, whole_seat}
use Rattle.svc_machine.specs.Value.{MachineValue}
use Rattle.svc_machine.proofs.Keeping.{own_standing}
use Rattle.svc_machine.proofs.Seats.{count}

-- of one image and one configuration
pub record AreOfOneImage (m o : MachineValue) : Type 0 where
  pub image : m.image ≡ o.image
  pub config : m.config ≡ o.config

-- what holds of two machines as contracts see them holds of their fields
pub of_one_image : {inside new others other : MachineValue} → inside ≡ new → others ≡ other → new.image ≡ other.image → new.config ≡ other.config → AreOfOneImage inside others
of_one_image is others_are image config = record {
  image = ap (λ (v : MachineValue). v.image) is ∙ image ∙ sym (ap (λ (v : MachineValue). v.image) others_are);
  config = ap (λ (v : MachineValue). v.config) is ∙ config ∙ sym (ap (λ (v : MachineValue). v.config) others_are);
}

module _ (m : Parts) (kept : Kept m) (o : Parts) (others : Kept o) (image : m.image ≡ o.image) (config : m.config ≡ o.config) where
  pub one_size : AreOfOneSize (bus_state m.bus) (bus_state o.bus)
  one_size =
      let a = kept.agrees in
      let b = others.agrees in
      let l = kept.reached.lines in
      let k = others.reached.lines in
      record {
        caches = a.caches ∙ l.caches ∙ ap (λ (c : Config). c.units) config ∙ sym k.caches ∙ sym b.caches;
        sets = a.sets ∙ l.sets ∙ ap (λ (c : Config). c.sets) config ∙ sym k.sets ∙ sym b.sets;
        ways = a.ways ∙ l.ways ∙ ap (λ (c : Config). c.ways) config ∙ sym k.ways ∙ sym b.ways;
        words = a.words ∙ l.words ∙ ap data_words image ∙ sym k.words ∙ sym b.words;
      }

  pub same_entries : m.guide.entries ≡ o.guide.entries
  same_entries =
      ap (λ (g : Guide). g.entries) kept.guide ∙ ap (λ (i : Image). i.entries) image
      ∙ sym (ap (λ (g : Guide). g.entries) others.guide)

  pub seats_fit : (seats : List Seat) → map whole_seat seats ≡ o.seats → length seats ≤ m.places
  seats_fit seats same =
      let few = tasks_few o.image o.config (own_standing o others) others.reached in
      let counts : length o.seats ≡ length o.plain.tasks =
      ap (λ (l : List (whole.Seat State)). length l) others.seats
      ∙ answering.count (program o.image) (seq (program o.image) o.plain.commits).memory o.plain.tasks in
      let n : length seats ≡ length o.seats = sym (count whole_seat seats) ∙ ap (λ (l : List (whole.Seat State)). length l) same in
      let units = ap (λ (c : Config). c.units) config in
      let p = kept.places in
      omega (arith, few, counts, n, units, p)

  pub words_fit : length o.output ≤ m.room
  words_fit =
      let r = others.reached in
      let n : length o.output ≡ length (seq (program o.image) o.plain.commits).output = ap (λ (l : List ℕ). length l) others.output in
      let few = r.outputs_few in
      let accepted = r.accepted_few in
      let events = ap (λ (c : Config). c.events) config in
      let room = kept.room in
      omega (arith, n, few, accepted, events, room)

  -- with as much room as before
  pub kept_copied : (places room : ℕ) → m.places ≤ places → m.room ≤ room
      → Kept (record o { image = m.image; config = m.config; places = places; room = room })
  kept_copied places room more_places more_room =
      let p = kept.places in
      let r = kept.room in
      subst (λ (i : Image). Kept (record o { image = i; config = m.config; places = places; room = room })) (sym image)
      (subst (λ (c : Config). Kept (record o { config = c; places = places; room = room })) (sym config) (record {
        sound = others.sound;
        seats = others.seats;
        output = others.output;
        stopped = others.stopped;
        guide = others.guide;
        places = let units = ap (λ (c : Config). c.units) config in omega (arith, p, more_places, units);
        room = let events = ap (λ (c : Config). c.events) config in omega (arith, r, more_room, events);
        lines = others.lines;
        agrees = others.agrees;
        reached = others.reached;
      }))

  -- and the fields are what they are in the other one
  pub kept_new : (plain : Plain) → plain ≡ o.plain → (bus : BusValue) → bus ≡ o.bus → (guide : Guide) → guide ≡ o.guide
      → (seats : List (whole.Seat State)) → seats ≡ o.seats → (output : List ℕ) → output ≡ o.output
      → (places room : ℕ) → m.places ≤ places → m.room ≤ room
      → Kept (record { image = m.image; config = m.config; plain = plain; bus = bus; guide = guide; seats = seats; places = places; output = output; room = room; stopped = o.stopped })
  kept_new plain plain_is bus bus_is guide guide_is seats seats_are output output_is places room more_places more_room =
      rw (plain_is, bus_is, guide_is, seats_are, output_is) (kept_copied places room more_places more_room)
