-- What advancing makes is one burst.
use Rattle.std.proofs.Common.{◌≡◌, ℕ, zero, suc, ◌<◌, ◌≤◌, inl, inr, ⊎_elim, Bool, true, false, List, [], ◌∷◌, Option, Some, None, is_some, slice_get, refl, sym, ◌∙◌, ap, subst, arith}
use Rattle.std.proofs.lemmas.Option.{none-some}
use Rattle.std.proofs.lemmas.Bool.{cases_lt}
use Rattle.svc_image.specs.declared.fetched.Fetched.{Fetched}
use Rattle.svc_image.specs.Image.{Image, fetch_answer}
use Rattle.svc_core_laws.specs.declared.end.End.{End}
use Rattle.svc_core_laws.specs.declared.ask.Ask.{Ask}
use Rattle.svc_core_laws.specs.declared.ask.Ask.TheVariants as ask
use Rattle.svc_core_laws.specs.State.{State}
use Rattle.svc_core_laws.specs.Local.{TurnOutcome}
use Rattle.svc_core_laws.specs.Local as out
use Rattle.svc_core_laws.specs.Turns.{next}
use Rattle.svc_core_laws.specs.Words.{program}
use Rattle.svc_core_laws.specs.Program.{locals}
use Rattle.svc_core_laws.specs.Bursts.{Advance, after, before, core_of, IsLook, IsAsked, Follows, AreOf, IsAdvance, HasStopped, is_nothing, burst_outcome, ask_turns}
use Rattle.svc_core_laws.proofs.Looks.{get_past}
use Rattle.svc_core_laws.proofs.Means.{Taken, taken, all_locals, asked}

-- two bursts that advancing makes from one core
record Both (img : Image) (max : ℕ) (a b : Advance) : Type 0 where
  pub one : IsAdvance img max a
  pub other : IsAdvance img max b
  pub start : a.start ≡ b.start

swapped : (img : Image) (max : ℕ) (a b : Advance) → Both img max a b → Both img max b a
swapped img max a b h = record { one = h.other; other = h.one; start = sym h.start }

same_after : (img : Image) (max : ℕ) (a b : Advance) → Both img max a b → (n : ℕ) → n ≤ a.local → n ≤ b.local → after a.looks n a.start ≡ after b.looks n b.start
same_after img max a b h n p q =
    sym (all_locals img a h.one.follows h.one.looks n p).1 ∙ (ap (locals (program img) n) h.start ∙ (all_locals img b h.other.follows h.other.looks n q).1)

runs_not : (o : Option End) → o ≡ None → is_some o ≡ true → ⊥
runs_not None e h = cc
runs_not (Some x) e h = none-some x (sym e)

asks_not : (s c : State) (a : Ask) → is_nothing a ≡ false → burst_outcome s a ≡ out.Local c → ⊥
asks_not s c ask.Nothing h e = cc
asks_not s c (ask.Load kind rd addr) h e = cc
asks_not s c (ask.Store kind addr v) h e = cc
asks_not s c (ask.Emit w) h e = cc

-- a burst that stopped had no turn to take
stops : (img : Image) (a : Advance) (c t : State) → Follows a → AreOf img a.looks → Taken img a.end c t → a.end.done ≡ None → HasStopped a → ⊥
stops img a c t f own turn r (inl done) = runs_not a.end.done r done
stops img a c t f own turn r (inr asks) = asks_not a.end c a.ask asks (sym (asked img a f own f.ask asks) ∙ turn.next_is)

not_less : (img : Image) (max : ℕ) (a b : Advance) → Both img max a b → a.local < b.local → ⊥
not_less img max a b h lt =
    let same : a.end ≡ after b.looks a.local b.start = h.one.follows.end ∙ same_after img max a b h a.local (omega arith) (omega arith) in
    let t : State = after b.looks (suc a.local) b.start in
    let c : State = before b.looks (suc a.local) b.start in
    let turn : Taken img a.end c t = subst (λ (s : State). Taken img s c t) (sym same) (taken img b h.other.follows h.other.looks a.local lt) in
    let r : a.end.done ≡ None = ap (λ (s : State). s.done) same ∙ (h.other.follows.locals a.local lt).0 in
    ⊎_elim (λ e. omega (arith, e, h.other.most)) (stops img a c t h.one.follows h.one.looks turn r) h.one.stopped

same_local : (img : Image) (max : ℕ) (a b : Advance) → Both img max a b → a.local ≡ b.local
same_local img max a b h =
    ⊎_elim (λ lt. absurd (not_less img max a b h lt))
    (λ le. ⊎_elim (λ lt. absurd (not_less img max b a (swapped img max a b h) lt)) (λ ge. omega arith) (cases_lt b.local a.local))
    (cases_lt a.local b.local)

same_end_of : (img : Image) (max : ℕ) (a b : Advance) → Both img max a b → a.end ≡ b.end
same_end_of img max a b h =
    let n : a.local ≡ b.local = same_local img max a b h in
    h.one.follows.end ∙ (same_after img max a b h a.local (omega arith) (omega arith) ∙ (ap (λ (k : ℕ). after b.looks k b.start) n ∙ sym h.other.follows.end))

nothing_since : (a : Ask) → is_nothing a ≡ true → a ≡ ask.Nothing
nothing_since ask.Nothing h = refl
nothing_since (ask.Load kind rd addr) h = cc
nothing_since (ask.Store kind addr v) h = cc
nothing_since (ask.Emit w) h = cc

once : (a : Ask) → is_nothing a ≡ false → ask_turns a ≡ 1
once ask.Nothing h = cc
once (ask.Load kind rd addr) h = refl
once (ask.Store kind addr v) h = refl
once (ask.Emit w) h = refl

shown_same : (s t : State) (x y : Ask) → is_nothing x ≡ false → is_nothing y ≡ false → burst_outcome s x ≡ burst_outcome t y → x ≡ y
shown_same s t ask.Nothing y h k e = cc
shown_same s t (ask.Load kind rd addr) ask.Nothing h k e = cc
shown_same s t (ask.Load kind rd addr) (ask.Load kind' rd' addr') h k e = cc
shown_same s t (ask.Load kind rd addr) (ask.Store kind' addr' v') h k e = cc
shown_same s t (ask.Load kind rd addr) (ask.Emit w') h k e = cc
shown_same s t (ask.Store kind addr v) ask.Nothing h k e = cc
shown_same s t (ask.Store kind addr v) (ask.Load kind' rd' addr') h k e = cc
shown_same s t (ask.Store kind addr v) (ask.Store kind' addr' v') h k e = cc
shown_same s t (ask.Store kind addr v) (ask.Emit w') h k e = cc
shown_same s t (ask.Emit w) ask.Nothing h k e = cc
shown_same s t (ask.Emit w) (ask.Load kind' rd' addr') h k e = cc
shown_same s t (ask.Emit w) (ask.Store kind' addr' v') h k e = cc
shown_same s t (ask.Emit w) (ask.Emit w') h k e = cc

running_since : (a : Ask) (s : State) (o : Option Fetched) → IsAsked a s o → is_nothing a ≡ false → s.done ≡ None
running_since a s o (inl idle) h = absurd (let e : is_nothing a ≡ true = ap is_nothing idle in cc)
running_since a s o (inr p) h = p.0

-- one that asks and one that doesn't
asks_both : (img : Image) (max : ℕ) (a b : Advance) → Both img max a b → is_nothing a.ask ≡ true → is_nothing b.ask ≡ false → ⊥
asks_both img max a b h idle asks =
    let n : a.local ≡ b.local = same_local img max a b h in
    let one : ask_turns b.ask ≡ 1 = once b.ask asks in
    let r : b.end.done ≡ None = running_since b.ask b.end (slice_get b.looks b.local) h.other.follows.ask asks in
    let r' : a.end.done ≡ None = ap (λ (s : State). s.done) (same_end_of img max a b h) ∙ r in
    ⊎_elim (λ e. omega (arith, e, n, one, h.other.most)) (λ s. ⊎_elim (λ d. runs_not a.end.done r' d) (λ q. let no : true ≡ false = sym idle ∙ q in cc) s) h.one.stopped

ask_by : (img : Image) (max : ℕ) (a b : Advance) (x y : Bool) → Both img max a b → is_nothing a.ask ≡ x → is_nothing b.ask ≡ y → a.ask ≡ b.ask
ask_by img max a b true true h p q = nothing_since a.ask p ∙ sym (nothing_since b.ask q)
ask_by img max a b true false h p q = absurd (asks_both img max a b h p q)
ask_by img max a b false true h p q = absurd (asks_both img max b a (swapped img max a b h) q p)
ask_by img max a b false false h p q =
    shown_same a.end b.end a.ask b.ask p q
    (sym (asked img a h.one.follows h.one.looks h.one.follows.ask p) ∙ (ap (next img) (same_end_of img max a b h) ∙ asked img b h.other.follows h.other.looks h.other.follows.ask q))

same_ask : (img : Image) (max : ℕ) (a b : Advance) → Both img max a b → a.ask ≡ b.ask
same_ask img max a b h = ask_by img max a b (is_nothing a.ask) (is_nothing b.ask) h refl refl

before_zero : (looks : List Fetched) (s : State) → before looks 0 s ≡ s
unfolding before
before_zero looks s = refl

same_before : (img : Image) (max : ℕ) (a b : Advance) → Both img max a b → (n : ℕ) → n ≤ a.local → before a.looks n a.start ≡ before b.looks n b.start
same_before img max a b h zero le = before_zero a.looks a.start ∙ (h.start ∙ sym (before_zero b.looks b.start))
same_before img max a b h (suc n) le =
    let m : a.local ≡ b.local = same_local img max a b h in
    let p = taken img a h.one.follows h.one.looks n (omega arith) in
    let q = taken img b h.other.follows h.other.looks n (omega arith) in
    let s : State = after a.looks n a.start in
    let e : out.Local (before a.looks (suc n) a.start) ≡ out.Local (before b.looks (suc n) b.start) = sym p.next_is ∙ (ap (next img) (same_after img max a b h n (omega arith) (omega arith)) ∙ q.next_is) in
    ap (core_of s) e

look_by : (img : Image) (s t : State) (x y : Option Fetched) → s ≡ t → IsLook s x → IsLook t y → ((look : Fetched) → x ≡ Some look → look ≡ fetch_answer img look.pc) → ((look : Fetched) → y ≡ Some look → look ≡ fetch_answer img look.pc) → x ≡ y
look_by img s t None None e p q own own' = refl
look_by img s t None (Some look) e p q own own' = absurd (runs_not s.done (ap (λ (c : State). c.done) e ∙ q.1) p)
look_by img s t (Some look) None e p q own own' = absurd (runs_not t.done (sym (ap (λ (c : State). c.done) e) ∙ p.1) q)
look_by img s t (Some look) (Some look') e p q own own' =
    let place : look.pc ≡ look'.pc = p.0 ∙ (ap (λ (c : State). c.pc) e ∙ sym q.0) in
    ap Some (own look refl ∙ (ap (fetch_answer img) place ∙ sym (own' look' refl)))

same_look_at : (img : Image) (max : ℕ) (a b : Advance) → Both img max a b → (n : ℕ) → slice_get a.looks n ≡ slice_get b.looks n
same_look_at img max a b h n =
    let m : a.local ≡ b.local = same_local img max a b h in
    ⊎_elim
    (λ lt. look_by img _ _ (slice_get a.looks n) (slice_get b.looks n) (same_before img max a b h n (omega arith)) (h.one.follows.looked n (omega arith)) (h.other.follows.looked n (omega arith)) (h.one.looks n) (h.other.looks n))
    (λ ge. get_past a.looks n (omega (arith, h.one.follows.looks)) ∙ sym (get_past b.looks n (omega (arith, h.other.follows.looks))))
    (cases_lt n (suc a.local))

by_looks : (xs ys : List Fetched) → ((n : ℕ) → slice_get xs n ≡ slice_get ys n) → xs ≡ ys
by_looks [] [] h = refl
by_looks [] (y ∷ ys) h = absurd (none-some y (h 0))
by_looks (x ∷ xs) [] h = absurd (none-some x (sym (h 0)))
by_looks (x ∷ xs) (y ∷ ys) h =
    let head : Some x ≡ Some y = h 0 in
    let rest : xs ≡ ys = by_looks xs ys (λ n. h (suc n)) in
    cc

pub one_burst : (img : Image) (max : ℕ) (a b : Advance) → IsAdvance img max a → IsAdvance img max b → a.unit ≡ b.unit → a.epoch ≡ b.epoch → a.start ≡ b.start → a ≡ b
one_burst img max a b one other unit epoch start =
    let h : Both img max a b = record { one = one; other = other; start = start } in
    let looks : a.looks ≡ b.looks = by_looks a.looks b.looks (same_look_at img max a b h) in
    let local : a.local ≡ b.local = same_local img max a b h in
    let asks : a.ask ≡ b.ask = same_ask img max a b h in
    let end : a.end ≡ b.end = same_end_of img max a b h in
    λ i. record { unit = unit i; epoch = epoch i; start = start i; looks = looks i; local = local i; ask = asks i; end = end i }
