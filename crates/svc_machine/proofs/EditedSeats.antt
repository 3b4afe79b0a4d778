-- Seats that an event changes at a place, and cuts.
use Rattle.std.proofs.Common.{ℕ, zero, suc, ◌≡◌, ◌+◌, ◌-◌, ◌<◌, ◌≤◌, List, [], ◌∷◌, take, length, Option, Some, None, refl, sym, ap, ap₂, ◌∙◌, option_map, slice_get, slice_set, unwrap_or, arith}
use Rattle.std.proofs.lemmas.List.{take_all, length-set}
use Rattle.std.proofs.lemmas.Option.{same_Some, none-some}
use Rattle.svc_image.specs.Image.{Image}
use Rattle.svc_core_laws.specs.State.{State}
use Rattle.svc_core_laws.specs.Words.{program}
use Rattle.svc_core_laws.specs.Program.{Memory, Want, Local, Load, Store, Narrow, Emit}
use Rattle.svc_bus_laws.specs.Versioned.{Row, Versioned, Victim, view, victim_answer}
use Rattle.svc_bus_laws.specs.ByRows.{edit, victim_after, read_rows, exposed_row}
use Rattle.svc_bus_laws.specs.LineTable.{LineTable, versioned_map}
use Rattle.svc_bus_laws.specs.Steps.{read}
use Rattle.svc_bus_laws.specs.BusState.{BusState}
use Rattle.svc_bus_laws.specs.Sound.{IsSound}
use Rattle.svc_bus_laws.proofs.ByRowsLaws.{victim_by_rows, view_by_rows}
use Rattle.svc_bus_laws.proofs.MapViews.{victim_is}
use Rattle.svc_machine_laws.specs.declared.reply.Cause.TheVariants as cause
use Rattle.svc_machine_laws.specs.declared.reply.Cut.{Cut}
use Rattle.svc_machine_laws.specs.declared.reply.Reply.{Reply}
use Rattle.svc_machine_laws.specs.PlainMachine.{cut_by}
use Rattle.svc_machine_laws.specs.WholeMachine.{Seat, Machine, seat_turn, at_core, memory_seen}
use Rattle.svc_machine_laws.specs.WholeMachine as whole
use Rattle.svc_machine_laws.specs.Blame.{tasks_cut}
use Rattle.svc_machine_laws.specs.MachineLaws.{IsWithin}
use Rattle.svc_machine_laws.specs.Replies.{cut_from, turn_cut, turn_done, serves_at, whole_asked}
use Rattle.svc_machine_laws.proofs.EditedLists.{edit_edit, victim_edit}
use Rattle.svc_machine_laws.proofs.Lines.{read_step}
use Rattle.svc_machine_laws.proofs.Places.{take_edit}
use Rattle.svc_machine.specs.Asked.{IsDone, asked_cut, violation_cut}

-- ---- lists

-- an item is replaced by what it becomes
set_edit : {A : Type 0} (f : A → A) (place : ℕ) (xs : List A) (x y : A) → slice_get xs place ≡ Some x → y ≡ f x → slice_set xs place y ≡ edit place f None xs
set_edit f place [] x y at is = absurd (none-some x at)
set_edit {A} f zero (z ∷ xs) x y at is = ap {B = List A} (λ v. v ∷ xs) (is ∙ ap f (sym (same_Some z x at)))
set_edit {A} f (suc place) (z ∷ xs) x y at is = ap {B = List A} (λ q. z ∷ q) (set_edit f place xs x y at is)

edit_length : {A : Type 0} (f : A → A) (place : ℕ) (xs : List A) → length (edit place f None xs) ≡ length xs
edit_length f place [] = refl
edit_length f zero (x ∷ xs) = refl
edit_length f (suc place) (x ∷ xs) = ap suc (edit_length f place xs)

-- and those from the victim on are cut
edit_cut : {A : Type 0} (f : A → A) (place : ℕ) (c : Option ℕ) (xs : List A) → place < length xs
    → take (unwrap_or (option_map (λ n. suc place + n) c) (length xs)) (edit place f None xs) ≡ edit place f c xs
edit_cut f place c xs within =
    let same = edit_length f place xs in
    ap (λ n. take (unwrap_or (option_map (λ k. suc place + k) c) n) (edit place f None xs)) (sym same)
    ∙ take_edit place c (edit place f None xs) (omega (arith, same, within))
    ∙ edit_edit place f (λ x. x) c xs

-- ---- what a store cuts

-- the victim and all after it, of so many tasks
shown_cut : (a k count place : ℕ) (o : Option ℕ) → let cut : ℕ → Cut = λ n. cut_from (cause.Violation (record { 0 = a })) k count (suc place + n) in
    option_map (violation_cut a) (option_map (λ (v : ℕ). let w : Victim = record { first = k + v; tasks = count - v } in w) (option_map (λ n. suc place + n) o)) ≡ option_map cut o
shown_cut a k count place None = refl
shown_cut a k count place (Some n) = refl

stored_cut_is : (v : Versioned) (place a : ℕ) → option_map (violation_cut a) (victim_answer v place a)
    ≡ option_map (λ n. cut_from (cause.Violation (record { 0 = a })) v.commits (length v.rows) (suc place + n)) (victim_after v.rows place a)
stored_cut_is v place a =
    ap (λ o. option_map (violation_cut a) (option_map (λ (q : ℕ). let w : Victim = record { first = v.commits + q; tasks = length v.rows - q } in w) o)) (victim_by_rows v place a)
    ∙ shown_cut a v.commits (length v.rows) place (victim_after v.rows place a)

-- a read of one task has no part in the victims of its writes
read_victim : (p a b : ℕ) (rows : List Row) → victim_after (read_rows p a rows) p b ≡ victim_after rows p b
read_victim zero a b rows = refl
read_victim (suc p) a b rows = victim_edit (suc p) b (exposed_row a) rows

read_length : (p a : ℕ) (rows : List Row) → length (read_rows p a rows) ≡ length rows
read_length zero a rows = refl
read_length (suc p) a rows = edit_length (exposed_row a) (suc p) rows

-- what an asked turn cuts, by the rows
pub asked_cut_is : (w : Want State) (t : LineTable) (place : ℕ) → IsSound t → place < length t.units → IsWithin t.words w
    → asked_cut w t place ≡ turn_cut w (versioned_map t).rows (versioned_map t).commits (length (versioned_map t).rows) place
asked_cut_is (Local c) t place sound within known = refl
asked_cut_is (Load a value go) t place sound within known = refl
asked_cut_is (Store a w c) t place sound within known = stored_cut_is (versioned_map t) place a
asked_cut_is (Narrow a f c) t place sound within known =
    let v : Versioned = versioned_map t in
    stored_cut_is (versioned_map (read t place a)) place a
    ∙ ap (λ (u : Versioned). option_map (λ n. cut_from (cause.Violation (record { 0 = a })) u.commits (length u.rows) (suc place + n)) (victim_after u.rows place a)) (read_step t place a sound within known).same_map
    ∙ ap₂ (λ count o. option_map (λ n. cut_from (cause.Violation (record { 0 = a })) v.commits count (suc place + n)) o) (read_length place a v.rows) (read_victim place a a v.rows)
asked_cut_is (Emit w c) t place sound within known = refl

-- the victim is one of the tasks
victim_few : (v : Versioned) (place a n : ℕ) → victim_after v.rows place a ≡ Some n → suc place + n < length v.rows
victim_few v place a n h =
    (victim_is v place a (suc place + n) (victim_by_rows v place a ∙ ap (option_map (λ k. suc place + k)) h)).active

pub cut_few : (w : Want State) (v : Versioned) (place n : ℕ) → cut_by w v.rows place ≡ Some n → suc place + n < length v.rows
cut_few (Local c) v place n h = absurd (none-some n h)
cut_few (Load a value go) v place n h = absurd (none-some n h)
cut_few (Store a w c) v place n h = victim_few v place a n h
cut_few (Narrow a f c) v place n h = victim_few v place a n h
cut_few (Emit w c) v place n h = absurd (none-some n h)

-- how many it cuts, and how many it leaves
stored_count : (a k count place : ℕ) (o : Option ℕ) → ((n : ℕ) → o ≡ Some n → suc place + n < count)
    → let cut : Option Cut = option_map (λ n. cut_from (cause.Violation (record { 0 = a })) k count (suc place + n)) o in
    (tasks_cut cut ≤ count) × (count - tasks_cut cut ≡ unwrap_or (option_map (λ n. suc place + n) o) count)
stored_count a k count place None few = (omega arith, omega arith)
stored_count a k count place (Some n) few = let h = few n refl in (omega arith, omega (arith, h))

nothing_cut : (count : ℕ) → (0 ≤ count) × (count - 0 ≡ count)
nothing_cut count = (omega arith, omega arith)

pub left_after : (w : Want State) (v : Versioned) (place : ℕ) → let cut : Option Cut = turn_cut w v.rows v.commits (length v.rows) place in
    (tasks_cut cut ≤ length v.rows) × (length v.rows - tasks_cut cut ≡ unwrap_or (option_map (λ n. suc place + n) (cut_by w v.rows place)) (length v.rows))
left_after (Local c) v place = nothing_cut (length v.rows)
left_after (Load a value go) v place = nothing_cut (length v.rows)
left_after (Store a w c) v place = stored_count a v.commits (length v.rows) place (victim_after v.rows place a) (victim_few v place a)
left_after (Narrow a f c) v place = stored_count a v.commits (length v.rows) place (victim_after v.rows place a) (victim_few v place a)
left_after (Emit w c) v place = nothing_cut (length v.rows)

-- ---- an asked turn

-- what it needs of the machine and of a line table
pub record IsTurn (m : Machine State) (t : LineTable) (place : ℕ) (before : Seat State) (want : Option (Want State)) : Type 0 where
  pub sound : IsSound t
  pub same_map : versioned_map t ≡ m.versioned
  pub within : place < length t.units
  pub as_many : length m.seats ≡ length m.versioned.rows
  pub at : slice_get m.seats place ≡ Some before
  pub known : (w : Want State) → want ≡ Some w → IsWithin t.words w

module _ (img : Image) (m : Machine State) (t : LineTable) (place : ℕ) (last : State) (before seat : Seat State) (bus : BusState) (reply : Reply) where
  look : versioned_map t ≡ m.versioned → view (versioned_map t) place ≡ memory_seen m.versioned place
  look same = ap (λ (u : Versioned). view u place) same ∙ view_by_rows m.versioned place

  cut_is : (w : Want State) → IsTurn m t place before (Some w) → IsDone img (Some w) t place (at_core last before) seat bus reply
      → reply.cut ≡ turn_cut w m.versioned.rows m.versioned.commits (length m.versioned.rows) place
  cut_is w h done =
      ap (λ (r : Reply). r.cut) done.reply_is
      ∙ asked_cut_is w t place h.sound h.within (h.known w refl)
      ∙ ap (λ (u : Versioned). turn_cut w u.rows u.commits (length u.rows) place) h.same_map

  inside : (want : Option (Want State)) → IsTurn m t place before want → place < length m.seats
  inside want h = Rattle.svc_machine_laws.proofs.Places.within m.seats place before h.at

  -- it cuts no more tasks than there are
  pub few_cut : (want : Option (Want State)) → IsTurn m t place before want → IsDone img want t place (at_core last before) seat bus reply → tasks_cut reply.cut ≤ length m.seats
  few_cut None h done = let none = ap (λ (r : Reply). tasks_cut r.cut) done.reply_is in omega (arith, none)
  few_cut (Some w) h done =
      let few = (left_after w m.versioned place).0 in
      let same = ap tasks_cut (cut_is w h done) in
      let count = h.as_many in
      omega (arith, few, same, count)

  -- the seats after it
  pub seats_done : (want : Option (Want State)) → IsTurn m t place before want → IsDone img want t place (at_core last before) seat bus reply
      → take (length m.seats - tasks_cut reply.cut) (slice_set m.seats place seat) ≡ (whole.submit m place last want).seats
  seats_done None h done =
      let none = ap (λ (r : Reply). tasks_cut r.cut) done.reply_is in
      let all = length-set m.seats place seat in
      take_all (length m.seats - tasks_cut reply.cut) (slice_set m.seats place seat) (omega (arith, none, all))
      ∙ set_edit (at_core last) place m.seats before seat h.at done.seat
  seats_done (Some w) h done =
      let f : Seat State → Seat State = λ s. seat_turn w (memory_seen m.versioned place) (at_core last s) in
      let left = (left_after w m.versioned place).1 in
      let turned : seat ≡ f before = done.seat ∙ ap (λ l. seat_turn w l (at_core last before)) (look h.same_map) in
      ap₂ (λ n c. take (n - tasks_cut c) (slice_set m.seats place seat)) h.as_many (cut_is w h done)
      ∙ ap₂ take (left ∙ ap (unwrap_or (option_map (λ n. suc place + n) (cut_by w m.versioned.rows place))) (sym h.as_many)) (set_edit f place m.seats before seat h.at turned)
      ∙ edit_cut f place (cut_by w m.versioned.rows place) m.seats (inside (Some w) h)

  -- its answer
  pub reply_done : (want : Option (Want State)) → IsTurn m t place before want → IsDone img want t place (at_core last before) seat bus reply
      → reply ≡ whole_asked (program img) m t place want
  reply_done None h done = done.reply_is
  reply_done (Some w) h done =
      let reply_of : Memory → Option Cut → Reply = λ l c. record { what = turn_done (program img) w l (serves_at t place); cut = c } in
      done.reply_is
      ∙ ap₂ reply_of (look h.same_map) (sym (ap (λ (r : Reply). r.cut) done.reply_is) ∙ cut_is w h done ∙ ap (λ n. turn_cut w m.versioned.rows m.versioned.commits n place) (sym h.as_many))

-- what it leaves as it was
pub commits_done : (m : Machine State) (place : ℕ) (last : State) (want : Option (Want State)) → m.versioned.commits ≡ (whole.submit m place last want).versioned.commits
commits_done m place last None = refl
commits_done m place last (Some (Local c)) = refl
commits_done m place last (Some (Load a value go)) = refl
commits_done m place last (Some (Store a w c)) = refl
commits_done m place last (Some (Narrow a f c)) = refl
commits_done m place last (Some (Emit w c)) = refl

pub others_done : {X : Type 0} (f : Machine State → X) (m : Machine State) (place : ℕ) (last : State) (want : Option (Want State))
    → ((v : Versioned) (seats : List (Seat State)) → f m ≡ f (whole.with_seats m v seats)) → f m ≡ f (whole.submit m place last want)
others_done f m place last None same = same _ _
others_done f m place last (Some w) same = same _ _

pub accepted_done : (m : Machine State) (place : ℕ) (last : State) (want : Option (Want State)) → suc m.accepted ≡ (whole.submit m place last want).accepted
accepted_done m place last None = refl
accepted_done m place last (Some w) = refl
