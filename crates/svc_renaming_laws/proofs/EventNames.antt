-- Where an accepted event of renamed units leads.
use Rattle.std.proofs.Common.{ℕ, suc, ◌≡◌, ◌<◌, Bool, true, false, List, [], ◌∷◌, map, take, length, Option, Some, None, refl, sym, ap, ◌∙◌, subst, arith}
use Rattle.std.proofs.lemmas.List.{length-map}
use Rattle.svc_base.specs.declared.config.Config.{Config}
use Rattle.svc_image.specs.Image.{Image}
use Rattle.svc_core_laws.specs.State.{State}
use Rattle.svc_core_laws.specs.Program.{Program, Want, Local, Load, Store, Narrow, Emit}
use Rattle.svc_core_laws.specs.Words.{program}
use Rattle.svc_core_laws.specs.Bursts.{Advance, Follows}
use Rattle.svc_bus_laws.specs.Versioned.{view}
use Rattle.svc_bus_laws.specs.LineTable.{LineTable, versioned_map}
use Rattle.svc_bus_laws.specs.Steps.{read, write, squash, commit}
use Rattle.svc_bus_laws.specs.Sound.{IsSound}
use Rattle.svc_machine_laws.specs.PlainMachine.{unit_of, stays}
use Rattle.svc_machine_laws.specs.WholeMachine.{Seat, Machine, machine_of, seat_entry}
use Rattle.svc_machine_laws.specs.WholeMachine as whole
use Rattle.svc_machine_laws.specs.Events.{Event, Assign, Submit, Replace, Cancel, Commit, IsEvent, seat_place, asked_want, plain_event}
use Rattle.svc_machine_laws.specs.LineEvents.{line_turn, line_ask, line_check, line_submit, line_cancel, line_settle, line_commit, line_event}
use Rattle.svc_machine_laws.specs.MachineLaws.{IsWithin}
use Rattle.svc_machine_laws.specs.Standing.{Standing, refusal_of, standing_after}
use Rattle.svc_machine_laws.specs.Reached.{IsReached}
use Rattle.svc_machine_laws.proofs.Accepted.{can_submit, CanSubmit, seat_places}
use Rattle.svc_machine_laws.proofs.Given.{Given}
use Rattle.svc_machine_laws.proofs.Wants.{asked_within}
use Rattle.svc_machine_laws.proofs.Places.{found, within}
use Rattle.svc_machine_laws.proofs.Lines.{read_keeps, read_step}
use Rattle.svc_machine_laws.proofs.Standings.{after_submit}
use Rattle.svc_renaming_laws.specs.Renamings.{Renaming, IsRenaming}
use Rattle.svc_renaming_laws.specs.RenamedLines.{renamed_lines}
use Rattle.svc_renaming_laws.specs.Renamed.{renamed_plain, renamed_standing, renamed_burst, renamed_event}
use Rattle.svc_renaming_laws.proofs.LineNames.{same_map}
use Rattle.svc_renaming_laws.proofs.LineMoves.{renamed_read, renamed_write, renamed_replace, renamed_squash, renamed_commit, renamed_begin}
use Rattle.svc_renaming_laws.proofs.TaskNames.{renamed_seat, renamed_machine, machine_renamed, same_seat_place, misled_after, seats_entries, event_renamed}

-- a burst tells nothing of its unit but its name
pub follows_renamed : (r : Renaming) (b : Advance) → Follows b → Follows (renamed_burst r b)
follows_renamed r b f = record { looked = f.looked; locals = f.locals; end = f.end; ask = f.ask; ready = f.ready; looks = f.looks; few = f.few }

pub renamed_is : (r : Renaming) (x : Event) → IsEvent x → IsEvent (renamed_event r x)
renamed_is r (Assign unit guess) is = tt
renamed_is r (Submit b) is = follows_renamed r b is
renamed_is r (Replace unit address) is = tt
renamed_is r (Cancel unit) is = tt
renamed_is r (Commit by) is = tt

module _ (r : Renaming) (t : LineTable) (is : IsRenaming t.caches r) where
  renamed_check : (cut : Bool) (place : ℕ) → line_check cut (renamed_lines r t) place ≡ renamed_lines r (line_check cut t place)
  renamed_check false place = refl
  renamed_check true place = renamed_squash r t is (suc place)

  module _ (sound : IsSound t) where
    -- a turn
    renamed_turn : {C : Type 0} (w : Want C) (place : ℕ) → place < length t.units → IsWithin t.words w → line_turn w (renamed_lines r t) place ≡ renamed_lines r (line_turn w t place)
    renamed_turn (Local c) place inside known = refl
    renamed_turn (Load a value go) place inside known = renamed_read r t is sound place a inside
    renamed_turn (Store a w c) place inside known = renamed_write r t is sound place a w inside
    renamed_turn (Narrow a f c) place inside known =
        let caches : (read t place a).caches ≡ t.caches = read_keeps (λ u. u.caches) t place a refl refl in
        let units : (read t place a).units ≡ t.units = read_keeps (λ u. u.units) t place a refl refl in
        (λ i. write (renamed_read r t is sound place a inside i) place a (f (view (same_map r t is sound i) place a)))
        ∙ renamed_write r (read t place a) (subst (λ n. IsRenaming n r) (sym caches) is) (read_step t place a sound inside known).sound place a (f (view (versioned_map t) place a))
        (subst (λ us. place < length us) (sym units) inside)
    renamed_turn (Emit w c) place inside known = refl

    renamed_ask : {C : Type 0} (w : Option (Want C)) (place : ℕ) → place < length t.units → ((v : Want C) → w ≡ Some v → IsWithin t.words v) → line_ask w (renamed_lines r t) place ≡ renamed_lines r (line_ask w t place)
    renamed_ask None place inside known = refl
    renamed_ask (Some w) place inside known = renamed_turn w place inside (known w refl)

    renamed_settle : (keep : Bool) → 0 < length t.units → commit (line_settle (renamed_lines r t) keep) ≡ renamed_lines r (commit (line_settle t keep))
    renamed_settle true has = renamed_commit r t is has
    renamed_settle false has = ap commit (renamed_squash r t is 1) ∙ renamed_commit r (squash t 1) is (cut_has t.units has)
      where
        cut_has : (us : List ℕ) → 0 < length us → 0 < length (take 1 us)
        cut_has [] h = h
        cut_has (u ∷ us) h = omega arith

    renamed_end : {C : Type 0} (p : Program C) (xs : List (Seat C)) → length xs ≡ length t.units → line_commit p (renamed_lines r t) (map (renamed_seat r) xs) ≡ renamed_lines r (line_commit p t xs)
    renamed_end p [] e = refl
    renamed_end p (x ∷ xs) e =
        ap (λ l. commit (line_settle (renamed_lines r t) (stays (p.done x.core) l))) (seats_entries r xs)
        ∙ renamed_settle (stays (p.done x.core) (map seat_entry xs)) (omega (arith, e))

module _ (img : Image) (given : Given img) (config : Config) (r : Renaming) (s : Standing) (is : IsRenaming config.units r) (reached : IsReached img config s) where
  abbrev p : Program State
  p = program img

  abbrev m : Machine State
  m = machine_of p s.plain

  abbrev n : Machine State
  n = renamed_machine r m

  lines : IsRenaming s.lines.caches r
  lines = subst (λ k. IsRenaming k r) (sym reached.lines.caches) is

  place : (u : ℕ) → seat_place n (r.there u) ≡ seat_place m u
  place u = same_seat_place r config.units is m u

  tasks_count : length s.lines.units ≡ length s.plain.tasks
  tasks_count = ap length reached.lines.units ∙ length-map s.plain.tasks unit_of

  seats_count : length m.seats ≡ length s.lines.units
  seats_count = Rattle.svc_machine_laws.proofs.Answering.count p (Rattle.svc_core_laws.specs.Program.seq p s.plain.commits).memory s.plain.tasks ∙ sym tasks_count

  submit_lines : (b : Advance) → Follows b → (can : CanSubmit img config s b)
      → line_submit p n b.end (asked_want img b) (renamed_lines r s.lines) (Some can.place) ≡ renamed_lines r (line_submit p m b.end (asked_want img b) s.lines (Some can.place))
  submit_lines b follows can =
      let here : can.place < length (map unit_of s.plain.tasks) = within (map unit_of s.plain.tasks) can.place b.unit.0 (found (map unit_of s.plain.tasks) b.unit.0 can.place can.at) in
      let inside : can.place < length s.lines.units = let e = ap length reached.lines.units in omega (arith, here, e) in
      let known : (w : Want State) → asked_want img b ≡ Some w → IsWithin s.lines.words w = λ w e. subst (λ k. IsWithin k w) (sym reached.lines.words) (asked_within img b.end b.ask w e) in
      let after : IsRenaming (line_ask (asked_want img b) s.lines can.place).caches r =
      subst (λ k. IsRenaming k r) (sym (after_submit img given config s reached b follows can).lines.caches) is in
      (λ i. line_check (misled_after r p m can.place b.end (asked_want img b) i) (renamed_ask r s.lines lines reached.lines.sound (asked_want img b) can.place inside known i) can.place)
      ∙ renamed_check r (line_ask (asked_want img b) s.lines can.place) after (whole.is_misled p (whole.submit m can.place b.end (asked_want img b)).seats can.place) can.place

  pub event_lines : (x : Event) → IsEvent x → refusal_of img config s x ≡ None → line_event img n (renamed_lines r s.lines) (renamed_event r x) ≡ renamed_lines r (line_event img m s.lines x)
  unfolding line_event
  event_lines (Assign unit guess) ev h = renamed_begin r s.lines lines unit
  event_lines (Submit b) ev h =
      let can : CanSubmit img config s b = can_submit img config s b h in
      let at : seat_place m b.unit.0 ≡ Some can.place = seat_places img config s b.unit.0 ∙ can.at in
      ap (line_submit p n b.end (asked_want img b) (renamed_lines r s.lines)) (place b.unit.0 ∙ at)
      ∙ submit_lines b ev can
      ∙ sym (ap (λ o. renamed_lines r (line_submit p m b.end (asked_want img b) s.lines o)) at)
  event_lines (Replace unit a) ev h = renamed_replace r s.lines lines reached.lines.sound unit a
  event_lines (Cancel unit) ev h = ap (line_cancel (renamed_lines r s.lines)) (place unit) ∙ of (seat_place m unit)
    where
      of : (o : Option ℕ) → line_cancel (renamed_lines r s.lines) o ≡ renamed_lines r (line_cancel s.lines o)
      of None = refl
      of (Some q) = renamed_squash r s.lines lines q
  event_lines (Commit by) ev h = renamed_end r s.lines lines reached.lines.sound p m.seats seats_count

  pub renamed_step : (x : Event) → IsEvent x → refusal_of img config s x ≡ None → standing_after img (renamed_standing r s) (renamed_event r x) ≡ renamed_standing r (standing_after img s x)
  unfolding standing_after
  renamed_step x ev h =
      let lines_are : line_event img (machine_of p (renamed_plain r s.plain)) (renamed_lines r s.lines) (renamed_event r x) ≡ renamed_lines r (line_event img m s.lines x) =
      ap (λ (k : Machine State). line_event img k (renamed_lines r s.lines) (renamed_event r x)) (machine_renamed r p s.plain) ∙ event_lines x ev h in
      let plain_is : plain_event img (renamed_plain r s.plain) (renamed_event r x) ≡ renamed_plain r (plain_event img s.plain x) = event_renamed r config.units is img s.plain x in
      λ i. record { plain = plain_is i; lines = lines_are i }
