-- Copies of bytes, one behind the other.
use Rattle.std.proofs.Common.{◌≡◌, ℕ, zero, suc, ◌-◌, ◌<◌, List, Option, Some, None, refl, sym, ◌∙◌, arith}
use Rattle.svc_layout.specs.declared.refusal.Refusal.{Refusal}
use Rattle.svc_layout.specs.declared.refusal.Refusal.TheVariants as refusal
use Rattle.svc_layout.specs.Areas.{with_more, with_copies}
use Rattle.svc_layout.specs.Refusals.{Refuses}

-- one copy more
pub copies_on : (n : ℕ) (unit old new : List ℕ) → 0 < n → with_more unit old ≡ Some new → with_copies n unit old ≡ with_copies (n - 1) unit new
unfolding with_copies
copies_on zero unit old new some e = absurd (omega (arith, some))
copies_on (suc n) unit old new some e = let less : suc n - 1 ≡ n = omega arith in rw (e, less) refl

copies_stop : (n : ℕ) (unit old : List ℕ) → 0 < n → with_more unit old ≡ None → with_copies n unit old ≡ None
unfolding with_copies
copies_stop zero unit old some e = absurd (omega (arith, some))
copies_stop (suc n) unit old some e = rw e refl

-- where one copy is refused, all are
pub copies_refused : (e : Refusal) (n : ℕ) (unit old : List ℕ) (whole : Option (List ℕ)) → 0 < n → with_copies n unit old ≡ whole → Refuses e (with_more unit old) → Refuses e whole
copies_refused refusal.Memory n unit old whole some same none = tt
copies_refused _ n unit old whole some same none = sym same ∙ copies_stop n unit old some none

-- where no copy is left, these are all
pub copies_done : (n : ℕ) (unit bytes : List ℕ) (whole : Option (List ℕ)) → n < 1 → with_copies n unit bytes ≡ whole → whole ≡ Some bytes
unfolding with_copies
copies_done zero unit bytes whole none same = sym same
copies_done (suc n) unit bytes whole none same = absurd (omega (arith, none))
