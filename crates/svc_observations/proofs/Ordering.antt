-- An observation is known by its places, and sightings that are sorted by place and entry are sorted by each.
use Rattle.std.proofs.Common.{ℕ, zero, suc, ◌≡◌, ◌≤◌, ◌<◌, ◌+◌, Bool, true, false, true≢false, List, [], ◌∷◌, ◌++◌, length, Option, Some, None, refl, sym, ap, ◌∙◌, subst, arith}
use Rattle.std.specs.Cmp.Lexicographic.{slice_cmp}
use Rattle.std.specs.declared.cmp.Ordering.{Ordering}
use Rattle.std.specs.declared.cmp.Ordering.TheVariants.{Less, Equal, Greater}
use Rattle.std.specs.Ordering.{is_eq, is_lt, nat_cmp, ordering_then}
use Rattle.std.specs.FinMap.{slice_cmp-IsAntisymmetric, nat_cmp-IsAntisymmetric}
use Rattle.svc_explore_laws.specs.declared.observation.Happening.{Happening}
use Rattle.svc_explore_laws.specs.declared.observation.Happening.TheVariants as what
use Rattle.svc_explore_laws.specs.declared.observation.By.{By}
use Rattle.svc_explore_laws.specs.declared.observation.By.TheVariants as by
use Rattle.svc_explore_laws.specs.declared.observation.Observation.{Observation}
use Rattle.svc_observations.specs.Order.{by_place, happening_place, number_place, places_of, version_place}

-- ---- back from the places

abbrev happening_at : ℕ → Happening
happening_at zero = what.Begin
happening_at (suc zero) = what.Load
happening_at (suc (suc zero)) = what.Store
happening_at (suc (suc (suc zero))) = what.Output
happening_at (suc (suc (suc (suc zero)))) = what.Trap
happening_at (suc (suc (suc (suc (suc zero))))) = what.Replace
happening_at (suc (suc (suc (suc (suc (suc zero)))))) = what.Commit
happening_at (suc (suc (suc (suc (suc (suc (suc n))))))) = what.Squash

happening_back : (h : Happening) → happening_at (happening_place h) ≡ h
happening_back what.Begin = refl
happening_back what.Load = refl
happening_back what.Store = refl
happening_back what.Output = refl
happening_back what.Trap = refl
happening_back what.Replace = refl
happening_back what.Commit = refl
happening_back what.Squash = refl

abbrev number_at : ℕ → Option ℕ
number_at zero = None
number_at (suc n) = Some n

number_back : (o : Option ℕ) → number_at (number_place o) ≡ o
number_back None = refl
number_back (Some n) = let more : n + 1 ≡ suc n = omega arith in ap number_at more

abbrev by_at : (place version : ℕ) → Option By
by_at zero version = None
by_at (suc zero) version = Some by.Hit
by_at (suc (suc zero)) version = Some by.Reuse
by_at (suc (suc (suc zero))) version = Some (by.Version version)
by_at (suc (suc (suc (suc zero)))) version = Some by.Spill
by_at (suc (suc (suc (suc (suc zero))))) version = Some by.Committed
by_at (suc (suc (suc (suc (suc (suc zero)))))) version = Some by.Memory
by_at (suc (suc (suc (suc (suc (suc (suc zero))))))) version = Some by.Violation
by_at (suc (suc (suc (suc (suc (suc (suc (suc zero)))))))) version = Some by.Guess
by_at (suc (suc (suc (suc (suc (suc (suc (suc (suc n))))))))) version = Some by.Cancel

by_back : (b : Option By) → by_at (by_place b) (version_place b) ≡ b
by_back None = refl
by_back (Some by.Hit) = refl
by_back (Some by.Reuse) = refl
by_back (Some (by.Version task)) = refl
by_back (Some by.Spill) = refl
by_back (Some by.Committed) = refl
by_back (Some by.Memory) = refl
by_back (Some by.Violation) = refl
by_back (Some by.Guess) = refl
by_back (Some by.Cancel) = refl

nothing : Observation
nothing = record { what = what.Begin; task = 0; word = None; value = None; by = None }

abbrev observation_at : List ℕ → Observation
observation_at (h ∷ task ∷ word ∷ value ∷ place ∷ version ∷ []) =
    record { what = happening_at h; task = task; word = number_at word; value = number_at value; by = by_at place version }
observation_at _ = nothing

observation_back : (o : Observation) → observation_at (places_of o) ≡ o
observation_back o = λ i. record {
  what = happening_back o.what i;
  task = o.task;
  word = number_back o.word i;
  value = number_back o.value i;
  by = by_back o.by i;
}

pub same_observation : (o p : Observation) → places_of o ≡ places_of p → o ≡ p
same_observation o p h = sym (observation_back o) ∙ ap observation_at h ∙ observation_back p

is_eq-Equal : (o : Ordering) → is_eq o ≡ true → o ≡ Equal
is_eq-Equal Less h = absurd (true≢false (sym h))
is_eq-Equal Equal h = refl
is_eq-Equal Greater h = absurd (true≢false (sym h))

pub same_place : (o p : Observation) → is_eq (slice_cmp nat_cmp (places_of o) (places_of p)) ≡ true → o ≡ p
same_place o p h = same_observation o p (slice_cmp-IsAntisymmetric nat_cmp-IsAntisymmetric (places_of o) (places_of p) (is_eq-Equal _ h))

-- ---- lists with a number at their ends

then_assoc : (a b c : Ordering) → ordering_then (ordering_then a b) c ≡ ordering_then a (ordering_then b c)
then_assoc Less b c = refl
then_assoc Equal b c = refl
then_assoc Greater b c = refl

pub ends_compare : (xs ys : List ℕ) (a b : ℕ) → length xs ≡ length ys
    → slice_cmp nat_cmp (xs ++ a ∷ []) (ys ++ b ∷ []) ≡ ordering_then (slice_cmp nat_cmp xs ys) (ordering_then (nat_cmp a b) Equal)
ends_compare [] [] a b h = refl
ends_compare [] (y ∷ ys) a b h = absurd (omega (arith, h))
ends_compare (x ∷ xs) [] a b h = absurd (omega (arith, h))
ends_compare (x ∷ xs) (y ∷ ys) a b h =
    ap (ordering_then (nat_cmp x y)) (ends_compare xs ys a b (omega (arith, h))) ∙ sym (then_assoc (nat_cmp x y) (slice_cmp nat_cmp xs ys) (ordering_then (nat_cmp a b) Equal))
