-- A legal entry is that of its replay: the event that the entry names is accepted, and has this entry.
use Rattle.std.proofs.Common.{inl, inr, ℕ, zero, suc, ◌≡◌, ◌+◌, ◌==◌, ◌<◌, ◌≤◌, Bool, true, false, not, ◌&&◌, cond, Option, Some, None, refl, sym, ap, ap₂, ◌∙◌, subst, arith, is_some, is_none, option_map, slice_get, unwrap_or, List, [], ◌∷◌, min}
use Rattle.std.specs.Prelude.{nat_le}
use Rattle.std.proofs.lemmas.Bool.{lt-leb, ne_eqb, eq-eqb}
use Rattle.std.proofs.lemmas.Option.{none-some, same_Some}
use Rattle.svc_base.specs.declared.config.Config.{Config}
use Rattle.svc_base.specs.declared.refusal.Refusal.{Refusal}
use Rattle.svc_base.specs.declared.ids.UnitId.{UnitId}
use Rattle.svc_image.specs.Image.{Image}
use Rattle.svc_core_laws.specs.declared.ask.Ask.{Ask}
use Rattle.svc_core_laws.specs.declared.ask.Ask.TheVariants as ask
use Rattle.svc_core_laws.specs.declared.end.End.{End}
use Rattle.svc_core_laws.specs.State.{State}
use Rattle.svc_core_laws.specs.Same.{same_state}
use Rattle.svc_core_laws.specs.Program.{Memory, Want, seq}
use Rattle.svc_core_laws.specs.Words.{program}
use Rattle.svc_core_laws.specs.Bursts.{Advance, are_of, IsAdvance, IsLocal, after, is_nothing, ask_turns, HasStopped, Means}
use Rattle.svc_core_laws.proofs.Means.{taken, means, are_of-all}
use Rattle.svc_core_laws.proofs.OneBurst.{one_burst}
use Rattle.svc_core_laws.proofs.SameCore.{same_state-same}
use Rattle.svc_machine_laws.specs.PlainMachine.{Task, Plain, run_of, memory_at}
use Rattle.svc_machine_laws.specs.WholeMachine.{Machine, Seat, machine_of, seat_of}
use Rattle.svc_machine_laws.specs.Events.{Event, Submit, Assign as AssignEvent, Replace as ReplaceEvent, Cancel as CancelEvent, Commit as CommitEvent, asked_want, task_place, seat_place}
use Rattle.svc_machine_laws.specs.LineEvents.{word_of}
use Rattle.svc_machine_laws.specs.Refusals.{cases_of, first_case, refuse, full_set, asked_word, seat_at, is_current, has_ended}
use Rattle.svc_machine_laws.specs.Standing.{Standing, refusal_of, reply_to}
use Rattle.svc_machine_laws.proofs.Accepted.{seat_places, seat_here}
use Rattle.svc_machine_laws.proofs.Anew.{runs_at}
use Rattle.svc_machine_laws.proofs.Cases.{case_at}
use Rattle.svc_machine_laws.proofs.EmptyBursts.{empty_burst}
use Rattle.svc_machine_laws.proofs.Wants.{asked_next, asked_word_is}
use Rattle.svc_history_laws.specs.declared.entry.Entry.{Entry}
use Rattle.svc_history_laws.specs.declared.entry.Kind.{Kind}
use Rattle.svc_history_laws.specs.declared.entry.Kind.TheVariants.{Assign, Submit as SubmitKind, Replace, Cancel, Commit}
use Rattle.svc_history_laws.specs.Entries.{entry_of}
use Rattle.svc_history_laws.specs.Submissions.{turns_of, core_on, word_wanted, IsLocalAt, IsAskedAt, IsSubmission, submission}
use Rattle.svc_history_laws.specs.Legal.{the_local, the_ask, the_arg, LegalEntry, LegalKind, IsSubmitted}
use Rattle.svc_history_laws.specs.Replay.{IsBurstOf, IsReplay, Lacks, ReplaysAs}
use Rattle.svc_history_laws.proofs.Legality.{StartsAt, core_after, wants_where_asks, asked_at, submission_is}

-- the seat of the task at a place
pub seat_of_task : (img : Image) (config : Config) (s : Standing) (unit place : ℕ) (task : Task) → task_place s.plain unit ≡ Some place → slice_get s.plain.tasks place ≡ Some task
    → seat_at (machine_of (program img) s.plain) unit ≡ Some (seat_of (run_of (program img) (memory_at (program img) (seq (program img) s.plain.commits).memory s.plain.tasks place) task))
seat_of_task img config s unit place task at is =
    let p = program img in
    let m : Machine State = machine_of p s.plain in
    let mem : Memory = memory_at p (seq p s.plain.commits).memory s.plain.tasks place in
    ap (λ o. unwrap_or (option_map (slice_get m.seats) o) None) (seat_places img config s unit ∙ at)
    ∙ (seat_here img config s place
    ∙ ap (option_map seat_of) (runs_at p (seq p s.plain.commits).memory s.plain.tasks place ∙ ap (option_map (run_of p mem)) is))

-- the burst that the unit's lease makes starts where the task stands
starts : (img : Image) (config : Config) (s : Standing) (unit place turns : ℕ) (task : Task) (b : Advance) → task_place s.plain unit ≡ Some place → slice_get s.plain.tasks place ≡ Some task
    → IsBurstOf img s.plain unit turns b → StartsAt img s.plain place task b
starts img config s unit place turns task b at is of = record {
  follows = of.advance.follows;
  looks = of.advance.looks;
  start = of.start ∙ ap (λ (x : Seat State). x.core) (same_Some of.seat _ (sym of.seat_is ∙ seat_of_task img config s unit place task at is));
}

-- the turns that the lease takes are those that may be submitted
pub record SameTurns (b : Advance) (local : ℕ) (asks : Bool) : Type 0 where
  pub local_is : b.local ≡ local
  pub ask_is : not (is_nothing b.ask) ≡ asks

min_small : (n : ℕ) → n ≤ 63 → min n 63 ≡ n
min_small n h = omega (arith, h)

-- a running core that asks for something
asking : (a : Ask) → ask_turns a ≤ 0 → not (is_nothing a) ≡ false
asking ask.Nothing h = refl
asking (ask.Load kind rd addr) h = absurd (omega (arith, h))
asking (ask.Store kind addr v) h = absurd (omega (arith, h))
asking (ask.Emit w) h = absurd (omega (arith, h))

not_some : (o : Option End) → o ≡ None → is_some o ≡ true → ⊥
not_some o e h = let f : is_some o ≡ false = ap is_some e in cc

module _ (img : Image) (s : Standing) (place : ℕ) (task : Task) (b : Advance) (at : StartsAt img s.plain place task b) (local : ℕ) (asks : Bool) (unit : ℕ) (turns : IsSubmission img s unit place task local asks)
    (advance : IsAdvance img (local + turns_of asks) b) where
  whole : min (local + turns_of asks) 63 ≡ local + turns_of asks
  whole = min_small (local + turns_of asks) turns.few

  here : (n : ℕ) → n ≤ b.local → core_on img s.plain place task n ≡ after b.looks n b.start
  here = core_after img s.plain place task b at

  end_is : core_on img s.plain place task b.local ≡ b.end
  end_is = here b.local (omega arith) ∙ sym at.follows.end

  burst_means : Means img b
  burst_means = means img b at.follows at.looks

  -- it takes no more
  not_more : local < b.local → ⊥
  not_more h = of asks refl
    where
      of : (x : Bool) → asks ≡ x → ⊥
      of false e = let t = ap turns_of e in let most = advance.most in omega (arith, h, t, most, whole)
      of true e =
          let t = taken img b at.follows at.looks local h in
          let asked : IsAskedAt img (core_on img s.plain place task local) = turns.asks e in
          let same = here local (omega (arith, h)) in
          (subst (IsAskedAt img) same asked).1 (subst IsLocal (sym t.next_is) tt)

  -- where it stopped before its most, it stopped at a core that isn't running or asks
  stopped_there : b.local < local + turns_of asks → HasStopped b
  stopped_there h = elim advance.stopped [
    | inl all ↦ absurd (omega (arith, h, all, whole))
    | inr st ↦ st
  ]

  -- and no less
  not_less : b.local < local → ⊥
  not_less h =
      let going : IsLocalAt img b.end = subst (IsLocalAt img) end_is (turns.locals b.local h) in
      elim (stopped_there (omega (arith, h))) [
        | inl ended ↦ not_some b.end.done going.0 ended
        | inr asked ↦ (asked_at img b burst_means at.follows (ap not asked)).1 going.1
      ]

  pub same_turns : SameTurns b local asks
  same_turns = record { local_is = same; ask_is = of asks refl }
    where
      same : b.local ≡ local
      same = grind (arith, not_more, not_less)

      of : (x : Bool) → asks ≡ x → not (is_nothing b.ask) ≡ x
      of false e = let t = ap turns_of e in let most = advance.most in asking b.ask (omega (arith, t, most, whole, same))
      of true e =
          let t = ap turns_of e in
          let running = (turns.asks e).0 in
          elim (stopped_there (omega (arith, same, t))) [
            | inl ended ↦ absurd (not_some b.end.done (subst (λ n. (core_on img s.plain place task n).done ≡ None → b.end.done ≡ None) same (λ r. ap (λ (c : State). c.done) (sym end_is) ∙ r) running) ended)
            | inr asked ↦ ap not asked
          ]

-- no case that holds, no refusal
all_off : (cases : List (Bool × Refusal)) → ((i : ℕ) → case_at cases i ≡ false) → first_case cases ≡ None
all_off [] off = refl
all_off (c ∷ cases) off = ap (λ x. cond x (Some c.1) (first_case cases)) (off 0) ∙ all_off cases (λ i. off (suc i))

-- no case of a submit holds
pub record NoCase (img : Image) (config : Config) (s : Standing) (b : Advance) : Type 0 where
  pub known : nat_le config.units b.unit.0 ≡ false
  pub busy : is_none (seat_place (machine_of (program img) s.plain) b.unit.0) ≡ false
  pub current : not (is_current b (seat_at (machine_of (program img) s.plain) b.unit.0)) ≡ false
  pub own : not (are_of img b.looks) ≡ false
  pub going : has_ended (seat_at (machine_of (program img) s.plain) b.unit.0) ≡ false
  pub free : is_some (full_set s.lines b.unit.0 (asked_word img b.ask)) ≡ false
  pub room : nat_le config.events s.plain.accepted ≡ false
  pub some : (is_nothing b.ask && same_state b.end b.start) ≡ false

no_case_holds : (img : Image) (config : Config) (s : Standing) (b : Advance) → NoCase img config s b → (i : ℕ) → case_at (cases_of img config (machine_of (program img) s.plain) s.lines (Submit b)) i ≡ false
no_case_holds img config s b f zero = f.known
no_case_holds img config s b f (suc zero) = f.busy
no_case_holds img config s b f (suc (suc zero)) = f.current
no_case_holds img config s b f (suc (suc (suc zero))) = f.own
no_case_holds img config s b f (suc (suc (suc (suc zero)))) = f.going
no_case_holds img config s b f (suc (suc (suc (suc (suc zero))))) = f.free
no_case_holds img config s b f (suc (suc (suc (suc (suc (suc zero)))))) = f.room
no_case_holds img config s b f (suc (suc (suc (suc (suc (suc (suc zero))))))) = f.some
no_case_holds img config s b f (suc (suc (suc (suc (suc (suc (suc (suc i)))))))) = refl

not_refused : (img : Image) (config : Config) (s : Standing) (b : Advance) → NoCase img config s b → refusal_of img config s (Submit b) ≡ None
unfolding refusal_of refuse
not_refused img config s b f = all_off (cases_of img config (machine_of (program img) s.plain) s.lines (Submit b)) (no_case_holds img config s b f)

same_number : (x y : ℕ) → x ≡ y → (x == y) ≡ true
same_number x y h = eq-eqb x y h

leb_off : (n u : ℕ) → u < n → nat_le n u ≡ false
leb_off n u h = lt-leb n u h

nothing_asked : (a : Ask) → not (is_nothing a) ≡ false → a ≡ ask.Nothing
nothing_asked ask.Nothing h = refl
nothing_asked (ask.Load kind rd addr) h = cc
nothing_asked (ask.Store kind addr v) h = cc
nothing_asked (ask.Emit w) h = cc

flip_false : (x : Bool) → not x ≡ false → x ≡ true
flip_false true h = refl
flip_false false h = sym h

-- the burst of a lease whose turns may be submitted
pub record Replayed (img : Image) (config : Config) (s : Standing) (e : Entry) (b : Advance) : Type 0 where
  pub sub : IsSubmitted img config s e
  pub of : IsBurstOf img s.plain e.unit.0 (the_local e + turns_of (the_ask e)) b

module _ (img : Image) (config : Config) (s : Standing) (e : Entry) (b : Advance) (r : Replayed img config s e b) where
  abbrev place : ℕ
  place = r.sub.place

  abbrev task : Task
  task = r.sub.task

  at_start : StartsAt img s.plain place task b
  at_start = starts img config s e.unit.0 place (the_local e + turns_of (the_ask e)) task b r.sub.at r.sub.task_is r.of

  pub turns_same : SameTurns b (the_local e) (the_ask e)
  turns_same = same_turns img s place task b at_start (the_local e) (the_ask e) e.unit.0 r.sub.turns r.of.advance

  first_core : core_on img s.plain place task 0 ≡ b.start
  unfolding after
  first_core = core_after img s.plain place task b at_start 0 (omega arith)

  running_start : b.start.done ≡ None
  running_start = ap (λ (c : State). c.done) (sym first_core) ∙ r.sub.turns.goes_on

  last_core : core_on img s.plain place task (the_local e) ≡ b.end
  last_core = subst (λ n. core_on img s.plain place task n ≡ b.end) turns_same.local_is (core_after img s.plain place task b at_start b.local (omega arith) ∙ sym at_start.follows.end)

  free_set : full_set s.lines b.unit.0 (asked_word img b.ask) ≡ None
  free_set = by (asked_want img b) refl
    where
      by : (o : Option (Want State)) → asked_want img b ≡ o → full_set s.lines b.unit.0 (asked_word img b.ask) ≡ None
      by None h = ap (λ (x : Ask). full_set s.lines b.unit.0 (asked_word img x)) (nothing_asked b.ask (sym (wants_where_asks img b) ∙ ap is_some h))
      by (Some w) h =
          let asks : the_ask e ≡ true = sym turns_same.ask_is ∙ (sym (wants_where_asks img b) ∙ ap is_some h) in
          let word : word_wanted img (core_on img s.plain place task (the_local e)) ≡ asked_word img b.ask =
          ap (word_wanted img) last_core ∙ (ap word_of (asked_next img b (means img b at_start.follows at_start.looks) w h) ∙ asked_word_is img b.end b.ask w h) in
          ap₂ (full_set s.lines) r.of.unit_is (sym word) ∙ r.sub.turns.room asks

  no_case : NoCase img config s b
  no_case = record {
    known = leb_off config.units b.unit.0 (subst (λ u. u < config.units) (sym r.of.unit_is) r.sub.unit);
    busy = ap is_none (ap (seat_place (machine_of (program img) s.plain)) r.of.unit_is ∙ (seat_places img config s e.unit.0 ∙ r.sub.at));
    current = ap (λ o. not (is_current b o)) seat ∙ ap not (ap₂ (λ x y. x && y) (same_number b.epoch r.of.seat.epoch r.of.epoch) (same_state-same b.start r.of.seat.core r.of.start));
    own = ap not (are_of-all img b.looks at_start.looks);
    going = ap has_ended seat ∙ ap is_some (ap (λ (c : State). c.done) (sym r.of.start) ∙ running_start);
    free = ap is_some free_set;
    room = leb_off config.events s.plain.accepted r.sub.below_limit;
    some = idle b.local b.ask (same_state b.end b.start) (empty_burst b at_start.follows) (omega (arith, r.sub.turns.some, turns_same.local_is, ap turns_of turns_same.ask_is));
  }
    where
      seat : seat_at (machine_of (program img) s.plain) b.unit.0 ≡ Some r.of.seat
      seat = ap (seat_at (machine_of (program img) s.plain)) r.of.unit_is ∙ r.of.seat_is

      idle : (local : ℕ) (a : Ask) (same : Bool) → same ≡ (local == 0) → 0 < local + turns_of (not (is_nothing a)) → (is_nothing a && same) ≡ false
      idle local ask.Nothing same h some = h ∙ ne_eqb local 0 (λ z. absurd (omega (arith, some, z)))
      idle local (ask.Load kind rd addr) same h some = refl
      idle local (ask.Store kind addr v) same h some = refl
      idle local (ask.Emit w) same h some = refl

  pub accepted_replay : refusal_of img config s (Submit b) ≡ None
  accepted_replay = not_refused img config s b no_case

  pub entry_replay : e ≡ entry_of (Submit b) (reply_to img s (Submit b))
  entry_replay =
      r.sub.entry
      ∙ (ap (λ (u : UnitId). submission img s u (the_local e) (the_ask e)) (unit_same e.unit b.unit (sym r.of.unit_is))
      ∙ (ap₂ (submission img s b.unit) (sym turns_same.local_is) (sym turns_same.ask_is) ∙ submission_is img s b))
    where
      unit_same : (u v : UnitId) → u.0 ≡ v.0 → u ≡ v
      unit_same u v h = λ i. record { 0 = h i }

-- what an entry that is legal says of its replay
pub record Agreed (img : Image) (config : Config) (s : Standing) (e : Entry) (x : Event) : Type 0 where
  pub accepted : refusal_of img config s x ≡ None
  pub entry : e ≡ entry_of x (reply_to img s x)

agreed_by : (img : Image) (config : Config) (s : Standing) (e : Entry) (x y : Event) → y ≡ x → (refusal_of img config s x ≡ None) × (e ≡ entry_of x (reply_to img s x)) → Agreed img config s e y
agreed_by img config s e x y same h = subst (Agreed img config s e) (sym same) (record { accepted = h.0; entry = h.1 })

agreed : (img : Image) (config : Config) (s : Standing) (e : Entry) (x : Event) (k : Kind) → LegalKind k img config s e → ReplaysAs k img s.plain e x → Agreed img config s e x
agreed img config s e x Assign legal replay = agreed_by img config s e (AssignEvent e.unit.0 (the_arg e)) x replay.1 legal
agreed img config s e x SubmitKind legal replay =
    let r : Replayed img config s e replay.2 = record { sub = legal; of = replay.3 } in
    agreed_by img config s e (Submit replay.2) x replay.4 (accepted_replay img config s e replay.2 r, entry_replay img config s e replay.2 r)
agreed img config s e x Replace legal replay = agreed_by img config s e (ReplaceEvent e.unit.0 (the_arg e)) x replay.1 legal
agreed img config s e x Cancel legal replay = agreed_by img config s e (CancelEvent e.unit.0) x replay legal
agreed img config s e x Commit legal replay = agreed_by img config s e (CommitEvent e.unit.0) x replay legal

pub legal_agrees : (img : Image) (config : Config) (s : Standing) (e : Entry) (x : Event) → LegalEntry img config s e → IsReplay img s.plain e x → Agreed img config s e x
unfolding LegalEntry
legal_agrees img config s e x legal replay = agreed img config s e x e.kind legal replay

some_none : {A : Type 0} (o : Option A) → is_some o ≡ true → o ≡ None → ⊥
some_none (Some x) h e = none-some x (sym e)
some_none None h e = cc

-- a legal entry lacks nothing
lacks_nothing : (img : Image) (config : Config) (s : Standing) (e : Entry) (k : Kind) → LegalKind k img config s e → Lacks k img s.plain e → ⊥
unfolding entry_of
lacks_nothing img config s e Assign legal none = some_none e.arg (ap (λ (y : Entry). is_some y.arg) legal.1) none
lacks_nothing img config s e SubmitKind legal none = elim none [
  | inl seat ↦ none-some _ (sym seat ∙ seat_of_task img config s e.unit.0 legal.place legal.task legal.at legal.task_is)
  | inr number ↦ elim number [
    | inl local ↦ some_none e.local (ap (λ (y : Entry). is_some y.local) legal.entry) local
    | inr ask ↦ some_none e.ask (ap (λ (y : Entry). is_some y.ask) legal.entry) ask
  ]
]
lacks_nothing img config s e Replace legal none = some_none e.arg (ap (λ (y : Entry). is_some y.arg) legal.1) none
lacks_nothing img config s e Cancel legal none = none
lacks_nothing img config s e Commit legal none = none

pub legal_lacks_nothing : (img : Image) (config : Config) (s : Standing) (e : Entry) → LegalEntry img config s e → Lacks e.kind img s.plain e → ⊥
unfolding LegalEntry
legal_lacks_nothing img config s e legal none = lacks_nothing img config s e e.kind legal none

-- an entry that lacks something has no replay
pub no_replay : (img : Image) (s : Plain) (e : Entry) (x : Event) (k : Kind) → Lacks k img s e → ReplaysAs k img s e x → ⊥
no_replay img s e x Assign none replay = some_none e.arg replay.0 none
no_replay img s e x SubmitKind none replay = elim none [
  | inl seat ↦ none-some _ (sym seat ∙ replay.3.seat_is)
  | inr number ↦ elim number [
    | inl local ↦ some_none e.local replay.0 local
    | inr ask ↦ some_none e.ask replay.1 ask
  ]
]
no_replay img s e x Replace none replay = some_none e.arg replay.0 none
no_replay img s e x Cancel none replay = none
no_replay img s e x Commit none replay = none

-- an entry has one replay
burst_same : (img : Image) (s : Plain) (unit turns : ℕ) (a b : Advance) → IsBurstOf img s unit turns a → IsBurstOf img s unit turns b → a ≡ b
burst_same img s unit turns a b one other =
    let seat : one.seat ≡ other.seat = same_Some one.seat other.seat (sym one.seat_is ∙ other.seat_is) in
    one_burst img turns a b one.advance other.advance
    (unit_same a.unit b.unit (one.unit_is ∙ sym other.unit_is))
    (one.epoch ∙ (ap (λ (x : Seat State). x.epoch) seat ∙ sym other.epoch))
    (one.start ∙ (ap (λ (x : Seat State). x.core) seat ∙ sym other.start))
  where
    unit_same : (u v : UnitId) → u.0 ≡ v.0 → u ≡ v
    unit_same u v h = λ i. record { 0 = h i }

pub one_replay : (img : Image) (s : Plain) (e : Entry) (x y : Event) (k : Kind) → ReplaysAs k img s e x → ReplaysAs k img s e y → x ≡ y
one_replay img s e x y Assign one other = one.1 ∙ sym other.1
one_replay img s e x y SubmitKind one other =
    one.4 ∙ (ap Submit (burst_same img s e.unit.0 (the_local e + turns_of (the_ask e)) one.2 other.2 one.3 other.3) ∙ sym other.4)
one_replay img s e x y Replace one other = one.1 ∙ sym other.1
one_replay img s e x y Cancel one other = one ∙ sym other
one_replay img s e x y Commit one other = one ∙ sym other
