-- Advancing by one turn makes this one burst.
use Rattle.std.proofs.Common.{◌≡◌, ◌∙◌, ◌+◌, ◌≤◌, ◌<◌, ◌⊎◌, inl, inr, ⊎_elim, ℕ, zero, suc, List, [], ◌∷◌, ◌++◌, Option, Some, None, true, false, is_some, length, slice_get, refl, ap, sym, subst, arith}
use Rattle.std.proofs.lemmas.Option.{none-some}
use Rattle.svc_base.specs.declared.ids.UnitId.{UnitId}
use Rattle.svc_image.specs.declared.fetched.Fetched.{Fetched}
use Rattle.svc_image.specs.Image.{Image, fetch_answer}
use Rattle.svc_core_laws.specs.declared.ask.Ask.{Ask}
use Rattle.svc_core_laws.specs.declared.ask.Ask.TheVariants as ask
use Rattle.svc_core_laws.specs.declared.end.End.{End}
use Rattle.svc_core_laws.specs.Bursts.{Advance, AreOf, Follows, HasStopped, IsAdvance, IsAsked, IsLook, after, ask_turns, before, is_nothing, burst_outcome}
use Rattle.svc_core_laws.specs.Local.{TurnOutcome}
use Rattle.svc_core_laws.specs.Local as out
use Rattle.svc_core_laws.specs.State.{State}
use Rattle.svc_core_laws.specs.Turns.{arrives, next}
use Rattle.svc_core_laws.proofs.Means.{Taken, asked, taken}
use Rattle.svc_core.specs.declared.burst.Lease.{Lease}
use Rattle.svc_core.specs.Empty.{empty_burst}
use Rattle.svc_machine.specs.Reads.{lease_from}
use Rattle.svc_machine_laws.specs.WholeMachine.{Seat}
use Rattle.svc_moves.specs.Turn.{before_turn, look_at, one_turn, turn_of, turn_to, turn_unless}
use Rattle.std.specs.Prelude.{option_map}

same_bursts : (a b : Advance) → a.unit ≡ b.unit → a.epoch ≡ b.epoch → a.start ≡ b.start → a.looks ≡ b.looks → a.local ≡ b.local → a.ask ≡ b.ask → a.end ≡ b.end → a ≡ b
same_bursts a b unit epoch start looks local asks end =
    λ i. record { unit = unit i; epoch = epoch i; start = start i; looks = looks i; local = local i; ask = asks i; end = end i }

-- the one look, if there is one
abbrev looked : Option Fetched → List Fetched
looked None = []
looked (Some look) = look ∷ []

list_one : (xs : List Fetched) → length xs ≤ 1 → xs ≡ looked (slice_get xs 0)
list_one [] few = refl
list_one (x ∷ []) few = refl
list_one (x ∷ y ∷ xs) few = absurd (omega arith)

list_two : (xs : List Fetched) → length xs ≤ 2 → xs ≡ looked (slice_get xs 0) ++ looked (slice_get xs 1)
list_two [] few = refl
list_two (x ∷ []) few = refl
list_two (x ∷ y ∷ []) few = refl
list_two (x ∷ y ∷ z ∷ xs) few = absurd (omega arith)

runs_not : (o : Option End) → o ≡ None → is_some o ≡ true → ⊥
runs_not None e h = cc
runs_not (Some x) e h = none-some x (sym e)

ended_not : (o : Option End) (x : End) → o ≡ Some x → o ≡ None → ⊥
ended_not o x e h = none-some x (sym h ∙ e)

look_is : (img : Image) (s : State) (o : Option Fetched) → ((look : Fetched) → o ≡ Some look → look ≡ fetch_answer img look.pc) → IsLook s o
    → (e : Option End) → s.done ≡ e → looked o ≡ look_at img s e
look_is img s None own is None e = absurd (runs_not s.done e is)
look_is img s None own is (Some x) e = refl
look_is img s (Some look) own is None e = ap (λ (l : Fetched). l ∷ []) (own look refl ∙ ap (fetch_answer img) is.0)
look_is img s (Some look) own is (Some x) e = absurd (ended_not s.done x e is.1)

nothing_since : (a : Ask) → ask_turns a ≤ 0 → a ≡ ask.Nothing
nothing_since ask.Nothing few = refl
nothing_since (ask.Load kind rd addr) few = absurd (omega arith)
nothing_since (ask.Store kind addr v) few = absurd (omega arith)
nothing_since (ask.Emit w) few = absurd (omega arith)

module _ (img : Image) (b : Advance) (is : IsAdvance img 1 b) where
  at_start : before b.looks 0 b.start ≡ b.start
  unfolding before
  at_start = refl

  after_none : after b.looks 0 b.start ≡ b.start
  unfolding after
  after_none = refl

  first_look : looked (slice_get b.looks 0) ≡ look_at img b.start b.start.done
  first_look =
      look_is img b.start (slice_get b.looks 0) (is.looks 0)
      (subst (λ (s : State). IsLook s (slice_get b.looks 0)) at_start (is.follows.looked 0 (omega arith))) b.start.done refl

  few_turns : b.local + ask_turns b.ask ≤ 1
  few_turns = let most = is.most in grind (arith, most)

  -- a task that has ended takes no turn
  runs_first : 0 < b.local → b.start.done ≡ None
  runs_first some = ap (λ (s : State). s.done) (sym after_none) ∙ (is.follows.locals 0 some).0

  end_at : b.local ≡ 0 → b.end ≡ b.start
  end_at none = is.follows.end ∙ ap (λ (n : ℕ). after b.looks n b.start) none ∙ after_none

  looks_none : b.local ≡ 0 → b.looks ≡ look_at img b.start b.start.done
  looks_none none = list_one b.looks (let few = is.follows.looks in omega (arith, few, none)) ∙ first_look

  asks_none : (x : End) → b.start.done ≡ Some x → b.local ≡ 0 → IsAsked b.ask b.end (slice_get b.looks b.local) → b.ask ≡ ask.Nothing
  asks_none x e none (inl idle) = idle
  asks_none x e none (inr runs) = absurd (ended_not b.start.done x e (ap (λ (s : State). s.done) (sym (end_at none)) ∙ runs.0))

  no_turn : (x : End) → b.start.done ≡ Some x → (n : ℕ) → b.local ≡ n → b.local ≡ 0
  no_turn x e zero none = none
  no_turn x e (suc n) some = absurd (ended_not b.start.done x e (runs_first (omega (arith, some))))

  -- a task that has ended
  ended : (x : End) → b.start.done ≡ Some x → b ≡ before_turn img b.unit b.epoch b.start
  ended x e =
      let none : b.local ≡ 0 = no_turn x e b.local refl in
      same_bursts b (before_turn img b.unit b.epoch b.start) refl refl refl (looks_none none) none (asks_none x e none is.follows.ask) (end_at none)

  -- a turn that asks
  asks : (a : Ask) → b.ask ≡ a → is_nothing a ≡ false → b.local ≡ 0 → b ≡ turn_to img b.unit b.epoch b.start (next img b.start)
  asks a e some none = by a e some
    where
      same : (a : Ask) → b.ask ≡ a → b ≡ record (before_turn img b.unit b.epoch b.start) { ask = a }
      same a e = same_bursts b (record (before_turn img b.unit b.epoch b.start) { ask = a }) refl refl refl (looks_none none) none e (end_at none)

      wants : is_nothing b.ask ≡ false → next img b.start ≡ next img b.end
      wants h = ap (next img) (sym (end_at none))

      by : (a : Ask) → b.ask ≡ a → is_nothing a ≡ false → b ≡ turn_to img b.unit b.epoch b.start (next img b.start)
      by ask.Nothing e some = absurd (let no : true ≡ false = some in cc)
      by (ask.Load kind rd addr) e some =
          let h : is_nothing b.ask ≡ false = ap is_nothing e in
          let n : next img b.start ≡ out.Load kind rd addr = wants h ∙ asked img b is.follows is.looks is.follows.ask h ∙ ap (burst_outcome b.end) e in
          same (ask.Load kind rd addr) e ∙ sym (ap (turn_to img b.unit b.epoch b.start) n)
      by (ask.Store kind addr v) e some =
          let h : is_nothing b.ask ≡ false = ap is_nothing e in
          let n : next img b.start ≡ out.Store kind addr v = wants h ∙ asked img b is.follows is.looks is.follows.ask h ∙ ap (burst_outcome b.end) e in
          same (ask.Store kind addr v) e ∙ sym (ap (turn_to img b.unit b.epoch b.start) n)
      by (ask.Emit w) e some =
          let h : is_nothing b.ask ≡ false = ap is_nothing e in
          let n : next img b.start ≡ out.Emit w = wants h ∙ asked img b is.follows is.looks is.follows.ask h ∙ ap (burst_outcome b.end) e in
          same (ask.Emit w) e ∙ sym (ap (turn_to img b.unit b.epoch b.start) n)

  -- a local turn
  turns : b.local ≡ 1 → b ≡ turn_to img b.unit b.epoch b.start (next img b.start)
  turns one =
      let some : 0 < b.local = omega (arith, one) in
      let d : State = before b.looks 1 b.start in
      let turn : Taken img (after b.looks 0 b.start) d (after b.looks 1 b.start) = taken img b is.follows is.looks 0 some in
      let n : next img b.start ≡ out.Local d = ap (next img) (sym after_none) ∙ turn.next_is in
      let runs : b.start.done ≡ None = runs_first some in
      let second : looked (slice_get b.looks 1) ≡ look_at img d d.done =
      look_is img d (slice_get b.looks 1) (is.looks 1) (is.follows.looked 1 (omega (arith, one))) d.done refl in
      let first : looked (slice_get b.looks 0) ≡ fetch_answer img b.start.pc ∷ [] = first_look ∙ ap (look_at img b.start) runs in
      let looks : b.looks ≡ fetch_answer img b.start.pc ∷ look_at img d d.done =
      list_two b.looks (let few = is.follows.looks in omega (arith, few, one))
      ∙ ap (λ (l : List Fetched). l ++ looked (slice_get b.looks 1)) first ∙ ap (λ (l : List Fetched). fetch_answer img b.start.pc ∷ l) second in
      let idle : b.ask ≡ ask.Nothing = nothing_since b.ask (let few = few_turns in omega (arith, few, one)) in
      let end : b.end ≡ arrives img d = is.follows.end ∙ ap (λ (k : ℕ). after b.looks k b.start) one ∙ sym turn.arrives_is in
      same_bursts b (turn_to img b.unit b.epoch b.start (out.Local d)) refl refl refl looks one idle end
      ∙ sym (ap (turn_to img b.unit b.epoch b.start) n)

  -- a task that runs
  running : b.start.done ≡ None → b ≡ turn_to img b.unit b.epoch b.start (next img b.start)
  running runs = by b.local refl
    where
      still : b.local ≡ 0 → HasStopped b → is_nothing b.ask ≡ false
      still none (inl done) = absurd (runs_not b.start.done runs (ap (λ (s : State). is_some s.done) (sym (end_at none)) ∙ done))
      still none (inr some) = some

      by : (n : ℕ) → b.local ≡ n → b ≡ turn_to img b.unit b.epoch b.start (next img b.start)
      by zero none =
          asks b.ask refl
          (⊎_elim (λ full. absurd (let f : 0 ≡ 1 = sym none ∙ full in omega (arith, f))) (λ stopped. still none stopped) is.stopped) none
      by (suc n) some = turns (let few = few_turns in omega (arith, few, some))

  pub one_burst : b ≡ one_turn img b.unit b.epoch b.start
  one_burst = by b.start.done refl
    where
      by : (o : Option End) → b.start.done ≡ o → b ≡ turn_unless img b.unit b.epoch b.start o
      by None e = running e
      by (Some x) e = ended x e

-- that of a lease
pub leased : (img : Image) (l : Lease) (b : Advance) → (b.unit ≡ l.unit) × (b.epoch ≡ l.epoch) × (b.start ≡ l.core) → IsAdvance img 1 b → b ≡ one_turn img l.unit l.epoch l.core
leased img l b own is =
    one_burst img b is ∙ ap (λ (u : UnitId). one_turn img u b.epoch b.start) own.0
    ∙ ap (λ (e : ℕ). one_turn img l.unit e b.start) own.1 ∙ ap (one_turn img l.unit l.epoch) own.2

-- that of a unit with a task, and of one without
pub with_task : (img : Image) (unit : UnitId) (l : Lease) (o : Option (Seat State)) → Some l ≡ option_map lease_from o → one_turn img l.unit l.epoch l.core ≡ turn_of img unit o
with_task img unit l None e = absurd (none-some l (sym e))
with_task img unit l (Some seat) e =
    let same : l ≡ lease_from seat = cc in
    ap (λ (x : Lease). one_turn img x.unit x.epoch x.core) same

pub without : (img : Image) (unit : UnitId) (o : Option (Seat State)) → None ≡ option_map lease_from o → empty_burst unit ≡ turn_of img unit o
without img unit None e = refl
without img unit (Some seat) e = absurd (none-some (lease_from seat) e)
