-- A schedule leads to one standing.
use Rattle.std.proofs.Common.{ℕ, suc, ◌≡◌, ◌≤◌, ◌<◌, ◌+◌, Bool, true, false, cond, List, [], ◌∷◌, Option, Some, None, refl, sym, ap, ap₂, ◌∙◌, subst, arith, is_some, drop, length, get_or}
use Rattle.std.proofs.lemmas.List.{drop_all, drop_more}
use Rattle.svc_base.specs.declared.config.Config.{Config}
use Rattle.svc_base.specs.declared.ids.UnitId.{UnitId}
use Rattle.svc_image.specs.Image.{Image}
use Rattle.svc_core_laws.specs.State.{State}
use Rattle.svc_core_laws.specs.Words.{program}
use Rattle.svc_core_laws.specs.Bursts.{Advance}
use Rattle.svc_bus_laws.specs.LineTable.{LineTable}
use Rattle.svc_machine_laws.specs.PlainMachine.{Plain, Task}
use Rattle.svc_machine_laws.specs.PlainMachine as plain
use Rattle.svc_machine_laws.specs.WholeMachine.{Machine, machine_of}
use Rattle.svc_machine_laws.specs.Events.{Event, Assign, Submit, Replace, Cancel, Commit, seat_place, task_place, asked_want, want_of, plain_event, plain_submit, plain_cancel}
use Rattle.svc_machine_laws.specs.LineEvents.{line_event, line_submit}
use Rattle.svc_machine_laws.specs.Standing.{Standing, opened_at, refusal_of, standing_after}
use Rattle.svc_machine_laws.specs.Reached.{IsReached}
use Rattle.std.proofs.lemmas.Bool.{leb-true}
use Rattle.svc_machine_laws.proofs.Accepted.{can_assign, can_submit, can_replace, can_cancel, can_commit}
use Rattle.svc_machine.specs.Value.{StandsAt}
use Rattle.svc_machine.specs.Reads.{is_full}
use Rattle.svc_explore_laws.specs.Futures.{AreAlikeBursts, AreAlikeEvents}
use Rattle.svc_explore_laws.specs.Moves.{Moves, HasRoom}
use Rattle.svc_explore_laws.specs.Closed.{HasNoMove}
use Rattle.svc_explore_laws.proofs.FutureMoves.{only_alike}
use Rattle.svc_explore_laws.proofs.Keys.{future_refl}
use Rattle.svc_history.specs.Recorded.{Recorded, standing_of}
use Rattle.svc_explore.specs.Recorders.{Leads, LeadsOnly, HasMoved}

-- ---- alike events lead to one standing

module _ (img : Image) (b c : Advance) (alike : AreAlikeBursts b c) where
  wants : asked_want img b ≡ asked_want img c
  wants = ap₂ (want_of img) alike.end alike.ask

  burst_plain : (s : Plain) → plain_submit img s (task_place s b.unit.0) b ≡ plain_submit img s (task_place s c.unit.0) c
  burst_plain s = ap (λ (u : UnitId). plain_submit img s (task_place s u.0) b) alike.unit ∙ of (task_place s c.unit.0)
    where
      of : (o : Option ℕ) → plain_submit img s o b ≡ plain_submit img s o c
      of None = refl
      of (Some place) = λ i. plain.check (program img) (plain.submit (program img) s place (alike.local i) (is_some (wants i))) place

  burst_lines : (m : Machine State) (t : LineTable) → line_event img m t (Submit b) ≡ line_event img m t (Submit c)
  unfolding line_event
  burst_lines m t = λ i. line_submit (program img) m (alike.end i) (wants i) t (seat_place m (alike.unit i).0)

  pub burst_step : (s : Standing) → standing_after img s (Submit b) ≡ standing_after img s (Submit c)
  unfolding standing_after plain_event
  burst_step s = λ i. record { plain = burst_plain s.plain i; lines = burst_lines (machine_of (program img) s.plain) s.lines i }

step_alike : (img : Image) (s : Standing) (x y : Event) → AreAlikeEvents x y → standing_after img s x ≡ standing_after img s y
step_alike img s (Submit b) (Submit c) alike = burst_step img b c alike s
step_alike img s (Submit b) (Assign unit guess) alike = absurd alike
step_alike img s (Submit b) (Replace unit address) alike = absurd alike
step_alike img s (Submit b) (Cancel unit) alike = absurd alike
step_alike img s (Submit b) (Commit by) alike = absurd alike
step_alike img s (Assign unit guess) y e = ap (standing_after img s) e
step_alike img s (Replace unit address) y e = ap (standing_after img s) e
step_alike img s (Cancel unit) y e = ap (standing_after img s) e
step_alike img s (Commit by) y e = ap (standing_after img s) e

pub one_step : (img : Image) (config : Config) (most : ℕ) (s : Standing) → IsReached img config s → HasRoom config s.plain → (unit : ℕ) (x y : Event)
    → Moves img config most s unit x → Moves img config most s unit y → standing_after img s x ≡ standing_after img s y
one_step img config most s reached room unit x y h i =
    step_alike img s x y (only_alike img config most s s (future_refl img config s reached) room unit x y h i)

-- an accepted event finds room
pub room_of : (img : Image) (config : Config) (s : Standing) (x : Event) → refusal_of img config s x ≡ None → s.plain.accepted < config.events
room_of img config s (Assign unit guess) h = (can_assign img config s unit guess h).room
room_of img config s (Submit b) h = (can_submit img config s b h).room
room_of img config s (Replace unit address) h = (can_replace img config s unit address h).room
room_of img config s (Cancel unit) h = (can_cancel img config s unit h).room
room_of img config s (Commit by) h = (can_commit img config s by h).room

-- ---- at most one more event is accepted

check_more : (img : Image) (s : Plain) (place : ℕ) → (plain.check (program img) s place).accepted ≡ s.accepted
check_more img s place = of (plain.is_misled (program img) s place)
  where
    of : (b : Bool) → (cond b (plain.keep (suc place) s) s).accepted ≡ s.accepted
    of true = refl
    of false = refl

commit_more : (img : Image) (s : Plain) (ts : List Task) → (plain.commit_tasks (program img) s ts).accepted ≤ s.accepted + 1
commit_more img s [] = omega arith
commit_more img s (t ∷ ts) = omega arith

event_more : (img : Image) (s : Plain) (x : Event) → (plain_event img s x).accepted ≤ s.accepted + 1
unfolding plain_event
event_more img s (Assign unit guess) = omega arith
event_more img s (Submit b) = of (task_place s b.unit.0)
  where
    of : (o : Option ℕ) → (plain_submit img s o b).accepted ≤ s.accepted + 1
    of None = omega arith
    of (Some place) = let e = check_more img (plain.submit (program img) s place b.local (is_some (asked_want img b))) place in omega (arith, e)
event_more img s (Replace unit address) = omega arith
event_more img s (Cancel unit) = of (task_place s unit)
  where
    of : (o : Option ℕ) → (plain_cancel s o).accepted ≤ s.accepted + 1
    of None = omega arith
    of (Some place) = omega arith
event_more img s (Commit by) = commit_more img s s.tasks

pub step_more : (img : Image) (s : Standing) (x : Event) → (standing_after img s x).plain.accepted ≤ s.plain.accepted + 1
unfolding standing_after
step_more img s x = event_more img s.plain x

-- ---- one turn of the loop that follows a schedule

-- wherever the whole schedule leads, the rest of it leads there from here
abbrev pub LeadsOn : (img : Image) (config : Config) (most : ℕ) → List UnitId → (index : ℕ) → (here : Standing) → Type 0
LeadsOn img config most path index here = (t : Standing) → Leads img config most (opened_at img config 0) path t → Leads img config most here (drop index path) t

module _ (img : Image) (config : Config) (most : ℕ) (old : Recorded) (path : List UnitId) (index : ℕ) (d : UnitId)
    (config_is : old.machine.config ≡ config) (rest : LeadsOn img config most path index (standing_of old)) (inside : index < length path) where
  -- what the schedule asks for next
  pub next : (t : Standing) → Leads img config most (opened_at img config 0) path t
      → (x : Event) × Moves img config most (standing_of old) (get_or path index d).0 x × Leads img config most (standing_after img (standing_of old) x) (drop (index + 1) path) t
  next t h = subst (λ us. Leads img config most (standing_of old) us t) (drop_more path index d inside) (rest t h)

  pub rest_stuck : old.machine.image ≡ img → HasNoMove old.machine.image old.machine.config most (standing_of old) (get_or path index d).0 → (t : Standing) → Leads img config most (opened_at img config 0) path t → ⊥
  rest_stuck image_is none t h =
      let n = next t h in
      let unit : ℕ = (get_or path index d).0 in
      none n.0
      (subst (λ c. Moves old.machine.image c most (standing_of old) unit n.0) (sym config_is) (subst (λ i. Moves i config most (standing_of old) unit n.0) (sym image_is) n.1))

  pub rest_room : StandsAt old.machine (standing_of old) → is_full old.machine ≡ true → (t : Standing) → Leads img config most (opened_at img config 0) path t → ⊥
  rest_room here full t h =
      let n = next t h in
      let room = room_of img config (standing_of old) n.0 n.1.accepted in
      let above = leb-true old.machine.config.events old.machine.plain.accepted full in
      let same : old.machine.plain.accepted ≡ (standing_of old).plain.accepted = ap (λ (p : Plain). p.accepted) here.plain in
      let events : old.machine.config.events ≡ config.events = ap (λ (c : Config). c.events) config_is in
      absurd (omega (arith, room, above, same, events))

module _ (img : Image) (config : Config) (most : ℕ) (old new : Recorded) (path : List UnitId) (index : ℕ) (d : UnitId)
    (image_is : old.machine.image ≡ img) (config_is : old.machine.config ≡ config) (reached : IsReached old.machine.image old.machine.config (standing_of old))
    (room : HasRoom old.machine.config (standing_of old).plain) (rest : LeadsOn img config most path index (standing_of old)) (inside : index < length path) where
  abbrev unit : ℕ
  unit = (get_or path index d).0

  pub more_accepted : HasMoved most old new unit → (count : ℕ) → (standing_of old).plain.accepted ≤ count → (standing_of new).plain.accepted ≤ count + 1
  more_accepted moved count h =
      let one = step_more old.machine.image (standing_of old) moved.event in
      let is = ap (λ (s : Standing). s.plain.accepted) moved.standing in
      omega (arith, one, is, h)

  pub rest_on : HasMoved most old new unit → LeadsOn img config most path (index + 1) (standing_of new)
  rest_on moved t h =
      let n = next img config most old path index d config_is rest inside t h in
      let mine : Moves img config most (standing_of old) unit moved.event =
      subst (λ c. Moves img c most (standing_of old) unit moved.event) config_is (subst (λ i. Moves i old.machine.config most (standing_of old) unit moved.event) image_is moved.moves) in
      let same : standing_after img (standing_of old) n.0 ≡ standing_of new =
      one_step img config most (standing_of old)
      (subst (λ c. IsReached img c (standing_of old)) config_is (subst (λ i. IsReached i old.machine.config (standing_of old)) image_is reached))
      (subst (λ c. HasRoom c (standing_of old).plain) config_is room) unit n.0 moved.event n.1 mine
      ∙ ap (λ i. standing_after i (standing_of old) moved.event) (sym image_is) ∙ sym moved.standing in
      subst (λ s. Leads img config most s (drop (index + 1) path) t) same n.2

-- at the end of the schedule
pub at_end : (img : Image) (config : Config) (most : ℕ) (path : List UnitId) (index : ℕ) (here : Standing) → length path ≤ index → LeadsOn img config most path index here → LeadsOnly img config most path here
at_end img config most path index here all rest t h = subst (λ us. Leads img config most here us t) (drop_all index path all) (rest t h)
