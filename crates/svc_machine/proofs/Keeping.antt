-- What every accepted event keeps.
use Rattle.std.proofs.Common.{ℕ, ◌≡◌, ◌≤◌, List, [], ◌∷◌, map, None, Some, Ok, Err, refl, sym, ap, ap₂, ◌∙◌, subst, arith}
use Rattle.std.specs.Prelude.{vec_capacity}
use Rattle.std.specs.List.{AllByRecursion}
use Rattle.svc_base.specs.declared.config.Config.{Config}
use Rattle.svc_base.specs.declared.refusal.Refusal.{Refusal}
use Rattle.svc_image.specs.Image.{Image}
use Rattle.svc_core_laws.specs.State.{State}
use Rattle.svc_core_laws.specs.Program.{Memory, Program, seq}
use Rattle.svc_core_laws.specs.Words.{program}
use Rattle.svc_bus_laws.specs.LineTable.{LineTable}
use Rattle.svc_bus_laws.specs.BusState.{Agrees}
use Rattle.svc_bus_laws.proofs.SeenLaws.{map_seen}
use Rattle.svc_bus.specs.State.{bus_state}
use Rattle.svc_machine_laws.specs.declared.reply.Reply.{Reply}
use Rattle.svc_machine_laws.specs.PlainMachine.{Task, Plain, runs_of}
use Rattle.svc_machine_laws.specs.WholeMachine as whole
use Rattle.svc_machine_laws.specs.WholeMachine.{Machine, machine_of, seat_of}
use Rattle.svc_machine_laws.specs.Events.{Event, IsEvent, plain_event, whole_event}
use Rattle.svc_machine_laws.specs.LineEvents.{line_event}
use Rattle.svc_machine_laws.specs.Guide.{guide_of}
use Rattle.svc_machine_laws.specs.Refusals.{cases_of, first_case, refuse}
use Rattle.svc_machine_laws.specs.Replies.{whole_reply}
use Rattle.svc_machine_laws.specs.Standing.{Standing, refusal_of, standing_after, reply_to, after_event, unless}
use Rattle.svc_machine_laws.specs.Reached.{IsReached, IsCounted}
use Rattle.svc_machine_laws.proofs.Given.{given}
use Rattle.svc_machine_laws.proofs.MachineEvents.{machine_event}
use Rattle.svc_machine_laws.proofs.Standings.{step_reached}
use Rattle.svc_machine_laws.proofs.Answering.{reply_is}
use Rattle.svc_machine.specs.declared.seat.Seat as declared
use Rattle.svc_machine.specs.declared.machine.Machine.TheInside.{Inside}
use Rattle.svc_machine.specs.Seats.{task_of, plain_of}
use Rattle.svc_machine.specs.Value.{MachineValue, StandsAt}
use Rattle.svc_machine.specs.Steps.{Accepts, IsStep, IsTaken}
use Rattle.svc_machine.specs.Kept.{Parts, Kept, machine_value, whole_seat}

-- ---- the plain machine's tasks, from the seats

-- a seat's task: its core has counted its turns
abbrev pub seat_task : whole.Seat State → Task
seat_task s = record { unit = s.unit; epoch = s.epoch; entry = s.entry; turns = s.core.count }

pub tasks_seen : (seats : List declared.Seat) → map task_of seats ≡ map seat_task (map whole_seat seats)
tasks_seen [] = refl
tasks_seen (x ∷ seats) = ap {B = List Task} (λ ts. task_of x ∷ ts) (tasks_seen seats)

counted_tasks : (p : Program State) (ts : List Task) (m : Memory) → AllByRecursion IsCounted (runs_of p m ts) → map seat_task (map seat_of (runs_of p m ts)) ≡ ts
counted_tasks p [] m all = refl
counted_tasks p (t ∷ ts) m all =
    ap₂ {C = List Task} (λ (n : ℕ) (us : List Task). record t { turns = n } ∷ us) all.0 (counted_tasks p ts _ all.1)

-- ---- any line table that the bus agrees with

module _ (m : Parts) (kept : Kept m) where
  -- is one of a standing that events lead to
  pub reached_with : (t : LineTable) → Agrees (bus_state m.bus) t → IsReached m.image m.config (record { plain = m.plain; lines = t })
  reached_with t agrees =
      let r = kept.reached in
      let a = kept.agrees in
      record {
        due = r.due;
        idle = r.idle;
        entries = r.entries;
        counted = r.counted;
        commits_few = r.commits_few;
        accepted_few = r.accepted_few;
        outputs_few = r.outputs_few;
        lines = record {
          sound = agrees.sound;
          same_map = sym (map_seen (bus_state m.bus) t agrees) ∙ map_seen (bus_state m.bus) kept.lines a ∙ r.lines.same_map;
          units = sym agrees.units ∙ a.units ∙ r.lines.units;
          caches = sym agrees.caches ∙ a.caches ∙ r.lines.caches;
          sets = sym agrees.sets ∙ a.sets ∙ r.lines.sets;
          ways = sym agrees.ways ∙ a.ways ∙ r.lines.ways;
          words = sym agrees.words ∙ a.words ∙ r.lines.words;
        };
      }

  pub reached_at : (s : Standing) → StandsAt (machine_value m) s → IsReached m.image m.config s
  reached_at s at =
      subst (λ (q : Plain). IsReached m.image m.config (record { plain = q; lines = s.lines })) at.plain (reached_with s.lines at.lines)

  -- that of the invariant is one
  abbrev pub own_standing : Standing
  own_standing = record { plain = m.plain; lines = kept.lines }

  pub stands : StandsAt (machine_value m) own_standing
  stands = record { plain = refl; lines = kept.agrees }

-- ---- an accepted event

-- the fields after an event: those of the whole machine, and the bus agrees with the line table's step for every line table that it agreed with
pub record Moved (old new : Parts) (x : Event) : Type 0 where
  pub image : new.image ≡ old.image
  pub config : new.config ≡ old.config
  pub tasks : new.plain.tasks ≡ map seat_task new.seats
  pub commits : new.plain.commits ≡ (whole_event old.image (machine_of (program old.image) old.plain) x).versioned.commits
  pub accepted : new.plain.accepted ≡ (whole_event old.image (machine_of (program old.image) old.plain) x).accepted
  pub epoch : new.plain.epoch ≡ (whole_event old.image (machine_of (program old.image) old.plain) x).epoch
  pub seats : new.seats ≡ (whole_event old.image (machine_of (program old.image) old.plain) x).seats
  pub output : new.output ≡ (whole_event old.image (machine_of (program old.image) old.plain) x).output
  pub stopped : new.stopped ≡ (whole_event old.image (machine_of (program old.image) old.plain) x).stopped
  pub guide : new.guide ≡ guide_of (program old.image) old.image.entries (plain_event old.image old.plain x)
  pub places : old.places ≤ new.places
  pub room : old.room ≤ new.room
  pub lines : (t : LineTable) → Agrees (bus_state old.bus) t → Agrees (bus_state new.bus) (line_event old.image (machine_of (program old.image) old.plain) t x)

same_plain : (a b : Plain) → a.commits ≡ b.commits → a.accepted ≡ b.accepted → a.epoch ≡ b.epoch → a.tasks ≡ b.tasks → a ≡ b
same_plain a b k n e ts =
    ap₂ {C = Plain} (λ (k n : ℕ). record { commits = k; accepted = n; epoch = a.epoch; tasks = a.tasks }) k n
    ∙ ap₂ {C = Plain} (λ (e : ℕ) (ts : List Task). record { commits = b.commits; accepted = b.accepted; epoch = e; tasks = ts }) e ts

abbrev pub IsAccepted : Parts → Event → Type 0
IsAccepted m x = Accepts (machine_value m) x

-- the machine's fields
abbrev pub parts_of : Inside → Parts
parts_of m = record {
  image = m.image;
  config = m.config;
  plain = plain_of m.commits m.accepted m.epoch m.seats.items;
  bus = m.bus;
  guide = m.sequencer;
  seats = map whole_seat m.seats.items;
  places = vec_capacity m.seats;
  output = m.output.items;
  room = vec_capacity m.output;
  stopped = m.stopped;
}

-- no case of the table of refusals holds
pub no_refusal : (m : Parts) (kept : Kept m) (x : Event) → IsAccepted m x → first_case (cases_of m.image m.config (machine_of (program m.image) m.plain) kept.lines x) ≡ None
unfolding refusal_of refuse
no_refusal m kept x ok = ok (own_standing m kept) (stands m kept)

module _ (old : Parts) (kept : Kept old) (x : Event) (is : IsEvent x) (ok : IsAccepted old x) where
  abbrev p : Program State
  p = program old.image

  abbrev after : Plain
  after = plain_event old.image old.plain x

  machine_is : machine_of p after ≡ whole_event old.image (machine_of p old.plain) x
  machine_is = machine_event old.image (given old.image kept.sound) old.config (own_standing old kept) kept.reached x is (ok (own_standing old kept) (stands old kept))

  reached_after : (t : LineTable) → Agrees (bus_state old.bus) t → IsReached old.image old.config (record { plain = after; lines = line_event old.image (machine_of p old.plain) t x })
  unfolding standing_after
  reached_after t agrees =
      let s : Standing = record { plain = old.plain; lines = t } in
      step_reached old.image (given old.image kept.sound) old.config s (reached_with old kept t agrees) x is (ok s (record { plain = refl; lines = agrees }))

  -- the reply is the plain machine's
  pub replied : (r : Reply) → ((t : LineTable) → Agrees (bus_state old.bus) t → r ≡ whole_reply old.image (machine_of p old.plain) t x)
      → (s : Standing) → StandsAt (machine_value old) s → r ≡ reply_to old.image s x
  unfolding reply_to
  replied r h s at =
      subst (λ (q : Plain). r ≡ whole_reply old.image (machine_of p q) s.lines x) at.plain (h s.lines at.lines)
      ∙ reply_is old.image (given old.image kept.sound) old.config s x is (ok s at)

  module _ (new : Parts) (moved : Moved old new x) where
    -- the counts and seats make the plain machine after the event
    pub plain_after : new.plain ≡ after
    plain_after =
        let back : map seat_task (machine_of p after).seats ≡ after.tasks = counted_tasks p after.tasks (seq p after.commits).memory (reached_after kept.lines kept.agrees).counted in
        same_plain new.plain after
        (moved.commits ∙ ap (λ (m : Machine State). m.versioned.commits) (sym machine_is))
        (moved.accepted ∙ ap (λ (m : Machine State). m.accepted) (sym machine_is))
        (moved.epoch ∙ ap (λ (m : Machine State). m.epoch) (sym machine_is))
        (moved.tasks ∙ ap (map seat_task) (moved.seats ∙ ap (λ (m : Machine State). m.seats) (sym machine_is)) ∙ back)

    -- the fields but for the image, the configuration and the plain machine, which are known
    abbrev known : Parts
    known = record new { image = old.image; config = old.config; plain = after }

    known_is : known ≡ new
    known_is =
        ap₂ {C = Parts} (λ (i : Image) (c : Config). record known { image = i; config = c }) (sym moved.image) (sym moved.config)
        ∙ ap {B = Parts} (λ (s : Plain). record new { plain = s }) (sym plain_after)

    -- so the fields are what the plain machine says after the event
    pub kept_after : Kept new
    kept_after =
        subst Kept known_is (record {
          sound = kept.sound;
          seats = moved.seats ∙ ap (λ (m : Machine State). m.seats) (sym machine_is);
          output = moved.output ∙ ap (λ (m : Machine State). m.output) (sym machine_is);
          stopped = moved.stopped ∙ ap (λ (m : Machine State). m.stopped) (sym machine_is);
          guide = moved.guide;
          places = let h = kept.places in let n = moved.places in omega (arith, h, n);
          room = let h = kept.room in let n = moved.room in omega (arith, h, n);
          lines = line_event old.image (machine_of p old.plain) kept.lines x;
          agrees = moved.lines kept.lines kept.agrees;
          reached = reached_after kept.lines kept.agrees;
        })

    -- and the machine stands where the event leads from each standing
    pub stands_after : (s : Standing) → StandsAt (machine_value old) s → StandsAt (machine_value new) (standing_after old.image s x)
    unfolding standing_after
    stands_after s at =
        subst (λ (q : Plain). StandsAt (machine_value new) (record { plain = plain_event old.image q x; lines = line_event old.image (machine_of p q) s.lines x })) at.plain
        (record { plain = plain_after; lines = moved.lines s.lines at.lines })

-- ---- accepted or not

refused_stays : (img : Image) (config : Config) (s : Standing) (x : Event) (r : Refusal) → refusal_of img config s x ≡ Some r → after_event img config s x ≡ s
unfolding after_event
refused_stays img config s x r h = ap (λ o. unless o s (standing_after img s x)) h

accepted_leads : (img : Image) (config : Config) (s : Standing) (x : Event) → refusal_of img config s x ≡ None → after_event img config s x ≡ standing_after img s x
unfolding after_event
accepted_leads img config s x h = ap (λ o. unless o s (standing_after img s x)) h

-- a refused event is a step that changes nothing
pub refused_step : (v : MachineValue) (x : Event) (e : Refusal) → ((s : Standing) → StandsAt v s → Some e ≡ refusal_of v.image v.config s x) → IsStep v v x (Err e)
refused_step v x e why = record {
  refused = λ s at. sym (why s at);
  reply = λ s at. tt;
  standing = λ s at. subst (StandsAt v) (sym (refused_stays v.image v.config s x e (sym (why s at)))) at;
  image = refl;
  config = refl;
  unchanged = refl;
}

-- an accepted one is what was done with it
pub accepted_step : (old new : MachineValue) (x : Event) (r : Reply) → Accepts old x → IsTaken old new x r → IsStep old new x (Ok r)
accepted_step old new x r ok done = record {
  refused = ok;
  reply = done.reply_is;
  standing = λ s at. subst (StandsAt new) (sym (accepted_leads old.image old.config s x (ok s at))) (done.standing s at);
  image = done.image;
  config = done.config;
  unchanged = tt;
}

-- what every accepted event comes to
pub taken_as : (old new : Parts) (kept : Kept old) (v : MachineValue) → machine_value old ≡ v → (x : Event) (is : IsEvent x) (ok : IsAccepted old x) → Moved old new x
    → (r : Reply) → ((t : LineTable) → Agrees (bus_state old.bus) t → r ≡ whole_reply old.image (machine_of (program old.image) old.plain) t x)
    → IsTaken v (machine_value new) x r
taken_as old new kept v seen x is ok moved r answers =
    subst (λ (u : MachineValue). IsTaken u (machine_value new) x r) seen (record {
      reply_is = replied old kept x is ok r answers;
      standing = stands_after old kept x is ok new moved;
      image = moved.image;
      config = moved.config;
    })
