-- A row of a changed list of places.
use Rattle.std.proofs.Common.{◌≡◌, ◌≢◌, ◌∙◌, sym, ap, ℕ, ◌+◌, ◌-◌, ◌*◌, ◌<◌, ◌≤◌, List, set, take, drop, inl, inr, arith}
use Rattle.std.proofs.lemmas.Bool.{cases_order}
use Rattle.std.proofs.lemmas.List.{drop-set-lt, drop-set-add, take-set-le}
use Rattle.std.proofs.lemmas.Nat.{row_fits}
use Rattle.std.proofs.Math.Seq.{take-set-lt}

-- a row before another ends where the other begins, at the latest
pub rows_apart : (s t ways : ℕ) → s < t → s * ways + ways ≤ t * ways
rows_apart s t ways below = row_fits s ways t ways below (omega arith)

module _ {A : Type 0} where
  pub same_row : (places : List A) (ways s k : ℕ) (new : A) → k < ways → take ways (drop (s * ways) (set places (s * ways + k) new)) ≡ set (take ways (drop (s * ways) places)) k new
  same_row places ways s k new within =
      ap (take ways) (drop-set-add (s * ways) places k new) ∙ take-set-lt ways (drop (s * ways) places) k new within

  pub other_row : (places : List A) (ways s t k : ℕ) (new : A) → k < ways → t ≢ s → take ways (drop (t * ways) (set places (s * ways + k) new)) ≡ take ways (drop (t * ways) places)
  other_row places ways s t k new within ne = elim (cases_order t s) [
    | inl e ↦ absurd (ne e)
    | inr (inl before) ↦
        let apart = rows_apart t s ways before in
        let shifted : t * ways + (s * ways + k - t * ways) ≡ s * ways + k = omega arith in
        ap (λ i. take ways (drop (t * ways) (set places i new))) (sym shifted)
        ∙ ap (take ways) (drop-set-add (t * ways) places (s * ways + k - t * ways) new)
        ∙ take-set-le ways (drop (t * ways) places) (s * ways + k - t * ways) new (omega arith)
    | inr (inr after) ↦
        let apart = rows_apart s t ways after in
        ap (take ways) (drop-set-lt (t * ways) places (s * ways + k) new (omega arith))
  ]
