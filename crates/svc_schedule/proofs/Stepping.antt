-- What asking units in turn comes to, and what so many steps do.
use Rattle.std.proofs.Common.{ℕ, zero, suc, ◌≡◌, ◌<◌, ◌+◌, Bool, true, false, List, [], ◌∷◌, ◌++◌, length, get_or, drop, refl, sym, ap, ◌∙◌, subst, arith, inl, inr, length-append}
use Rattle.std.specs.Prelude.{All}
use Rattle.std.proofs.lemmas.List.Elements.{All-cons, All-get_or, All-head, All-tail}
use Rattle.std.proofs.Math.Seq.{drop-cons}
use Rattle.svc_base.specs.declared.ids.UnitId.{UnitId}
use Rattle.svc_machine_laws.specs.Standing.{reply_to}
use Rattle.svc_history_laws.specs.Entries.{entry_of}
use Rattle.svc_history.specs.Recorded.{Recorded, standing_of}
use Rattle.svc_schedule.specs.declared.step.TheConstants.{EVERY_UNIT}
use Rattle.svc_schedule.specs.Moves.{IsMade, IsPassed}
use Rattle.svc_schedule.specs.Orders.{around}
use Rattle.svc_schedule.specs.Steps.{FirstMoves, asked}

-- units that are passed over may stand before others
pub passes_on : (most : ℕ) (old new : Recorded) (before rest : List UnitId) → All (IsPassed most old) before → FirstMoves most old new rest → FirstMoves most old new (before ++ rest)
passes_on most old new [] rest all first = first
passes_on most old new (u ∷ us) rest all first = inr (All-head (IsPassed most old) u us all, passes_on most old new us rest (All-tail (IsPassed most old) u us all) first)

-- the ones after the first that moves say nothing
pub stops_in : (most : ℕ) (old new : Recorded) (units rest : List UnitId) → FirstMoves most old new units → FirstMoves most old new (units ++ rest)
stops_in most old new [] rest first = absurd first
stops_in most old new (u ∷ us) rest (inl made) = inl made
stops_in most old new (u ∷ us) rest (inr (passed, first)) = inr (passed, stops_in most old new us rest first)

-- what a step does: the history has one entry more
pub record OneMore (old new : Recorded) : Type 0 where
  pub count : length new.entries ≡ length old.entries + 1
  pub image : new.machine.image ≡ old.machine.image
  pub config : new.machine.config ≡ old.machine.config

made_one : (most : ℕ) (old new : Recorded) (unit : UnitId) → IsMade most old new unit → OneMore old new
made_one most old new unit made =
    let n = ap length made.records.entries in
    record {
      count = omega (arith, n, length-append old.entries (entry_of made.event (reply_to old.machine.image (standing_of old) made.event) ∷ []));
      image = made.records.image;
      config = made.records.config;
    }

pub one_more : (most : ℕ) (old new : Recorded) (units : List UnitId) → FirstMoves most old new units → OneMore old new
one_more most old new [] first = absurd first
one_more most old new (u ∷ us) (inl made) = made_one most old new u made
one_more most old new (u ∷ us) (inr (passed, first)) = one_more most old new us first

-- the code's units are all of them, by number
by_number : EVERY_UNIT ≡ around 0 16
by_number = refl

-- each unit below 16 is among all of them
each_at : (k : ℕ) → k < 16 → get_or (around 0 16) k (record { 0 = 0 }) ≡ record { 0 = k }
each_at zero h = refl
each_at (suc zero) h = refl
each_at (suc (suc zero)) h = refl
each_at (suc (suc (suc zero))) h = refl
each_at (suc (suc (suc (suc zero)))) h = refl
each_at (suc (suc (suc (suc (suc zero))))) h = refl
each_at (suc (suc (suc (suc (suc (suc zero)))))) h = refl
each_at (suc (suc (suc (suc (suc (suc (suc zero))))))) h = refl
each_at (suc (suc (suc (suc (suc (suc (suc (suc zero)))))))) h = refl
each_at (suc (suc (suc (suc (suc (suc (suc (suc (suc zero))))))))) h = refl
each_at (suc (suc (suc (suc (suc (suc (suc (suc (suc (suc zero)))))))))) h = refl
each_at (suc (suc (suc (suc (suc (suc (suc (suc (suc (suc (suc zero))))))))))) h = refl
each_at (suc (suc (suc (suc (suc (suc (suc (suc (suc (suc (suc (suc zero)))))))))))) h = refl
each_at (suc (suc (suc (suc (suc (suc (suc (suc (suc (suc (suc (suc (suc zero))))))))))))) h = refl
each_at (suc (suc (suc (suc (suc (suc (suc (suc (suc (suc (suc (suc (suc (suc zero)))))))))))))) h = refl
each_at (suc (suc (suc (suc (suc (suc (suc (suc (suc (suc (suc (suc (suc (suc (suc zero))))))))))))))) h = refl
each_at (suc (suc (suc (suc (suc (suc (suc (suc (suc (suc (suc (suc (suc (suc (suc (suc k)))))))))))))))) h = absurd (omega (arith, h))

each_passed : (most : ℕ) (old : Recorded) → All (IsPassed most old) (around 0 16) → (k : ℕ) → k < 16 → IsPassed most old (record { 0 = k })
each_passed most old all k h = subst (IsPassed most old) (each_at k h) (All-get_or (IsPassed most old) (around 0 16) k (record { 0 = 0 }) h all)

-- where the named units are passed over, one of all units moves, as some unit does
pub one_of_all : (most : ℕ) (old mid new : Recorded) (named : List UnitId) (moved : Bool) → mid ≡ old → All (IsPassed most old) named
    → (moved ≡ true → FirstMoves most mid new EVERY_UNIT) → (moved ≡ false → (new ≡ mid) × All (IsPassed most mid) EVERY_UNIT)
    → (((unit : ℕ) → unit < 16 → IsPassed most old (record { 0 = unit })) → ⊥) → FirstMoves most old new (asked named)
one_of_all most old mid new named true same all first none stuck =
    passes_on most old new named (around 0 16) all (subst (λ r. FirstMoves most r new (around 0 16)) same (subst (FirstMoves most mid new) by_number (first refl)))
one_of_all most old mid new named false same all first none stuck =
    absurd (stuck (each_passed most old (subst (λ r. All (IsPassed most r) (around 0 16)) same (subst (All (IsPassed most mid)) by_number (none refl).1))))

-- ---- the loop over units

-- the units from a place on
rest_is : (units : List UnitId) (i : ℕ) (d : UnitId) → i < length units → drop i units ≡ get_or units i d ∷ drop (i + 1) units
rest_is units i d within =
    let next : suc i ≡ i + 1 = omega arith in
    drop-cons units i d within ∙ ap (λ n. get_or units i d ∷ drop n units) next

pub rest_passed : (most : ℕ) (old : Recorded) (units : List UnitId) (i : ℕ) (d : UnitId) → i < length units → IsPassed most old (get_or units i d)
    → All (IsPassed most old) (drop (i + 1) units) → All (IsPassed most old) (drop i units)
rest_passed most old units i d within passed all =
    subst (All (IsPassed most old)) (sym (rest_is units i d within)) (All-cons (IsPassed most old) (get_or units i d) (drop (i + 1) units) passed all)

pub rest_moves : (most : ℕ) (old new : Recorded) (units : List UnitId) (i : ℕ) (d : UnitId) → i < length units → IsPassed most old (get_or units i d)
    → FirstMoves most old new (drop (i + 1) units) → FirstMoves most old new (drop i units)
rest_moves most old new units i d within passed first = subst (FirstMoves most old new) (sym (rest_is units i d within)) (inr (passed, first))

pub first_moves : (most : ℕ) (old new : Recorded) (units : List UnitId) (i : ℕ) (d : UnitId) → i < length units → IsMade most old new (get_or units i d)
    → FirstMoves most old new (drop i units)
first_moves most old new units i d within made = subst (FirstMoves most old new) (sym (rest_is units i d within)) (inl made)
