-- A burst ends where it starts exactly where it has no local turn.
use Rattle.std.proofs.Common.{◌≡◌, ◌+◌, ◌==◌, Bool, true, false, refl, sym, ap, ◌∙◌, subst, arith}
use Rattle.std.proofs.lemmas.Bool.{eqb-true, eq-eqb}
use borrow.Author.Tests.{both_ways}
use Rattle.svc_core_laws.specs.State.{State}
use Rattle.svc_core_laws.specs.Same.{same_state}
use Rattle.svc_core_laws.specs.Bursts.{Advance, Follows, after}
use Rattle.svc_core_laws.proofs.Looks.{end_counts}
use Rattle.svc_core_laws.proofs.SameCore.{same_state-is, same_state-refl}

no_turn : (b : Advance) → Follows b → b.local ≡ 0 → b.end ≡ b.start
unfolding after
no_turn b follows none = follows.end ∙ ap (λ n. after b.looks n b.start) none

pub empty_burst : (b : Advance) → Follows b → same_state b.end b.start ≡ (b.local == 0)
empty_burst b follows = split (same_state b.end b.start) (b.local == 0) refl refl
  where
    counts : b.end.count ≡ b.start.count + b.local
    counts = (end_counts b follows).0

    split : (x y : Bool) → same_state b.end b.start ≡ x → (b.local == 0) ≡ y → x ≡ y
    split true true e f = refl
    split false false e f = refl
    split true false e f =
        let same = ap (λ (c : State). c.count) (same_state-is b.end b.start e) in
        let none : b.local ≡ 0 = omega (arith, counts, same) in
        absurd (both_ways (b.local == 0) f (eq-eqb b.local 0 none))
    split false true e f =
        let same = no_turn b follows (eqb-true b.local 0 f) in
        absurd (both_ways (same_state b.end b.start) e (subst (λ c. same_state c b.start ≡ true) (sym same) (same_state-refl b.start)))
