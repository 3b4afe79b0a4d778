-- When a text is the wanted one, or begins as is wanted.
use Rattle.std.specs.Prelude.{Decides, bytes_eq, codes, take, drop, length, ◌-◌, ◌+◌}
use Rattle.std.specs.Cmp.{unsigned_Decides}
use Rattle.std.specs.Cmp.Lexicographic.{bytes_decides}
use Rattle.std.proofs.Common.{◌≡◌, ◌∙◌, ◌++◌, ℕ, List, Bool, Some, None, Bor, true, false, inl, inr, sym, ap}
use Rattle.std.proofs.Math.Seq.{take-append_seam}
use Rattle.std.proofs.lemmas.List.{append_cancel_right, take-append-drop}
use Rattle.std.proofs.lemmas.Slice.Eq.{starts_is, strip_suffix_is}
use Rattle.svc_case_outcome.specs.Wanted.{Fits}

-- the wanted text ends with the mark, and a text fits it where it begins with what stands before
pub begins_as_wanted : (found wanted : List ℕ) (front : Bor (List ℕ)) (r : Bool)
    → (bytes_eq (drop (length wanted - 4) wanted) (codes "...\n") ≡ true) × (front.now ≡ take (length wanted - 4) wanted) × (length front.now + 4 ≡ length wanted)
    → r ≡ bytes_eq front.now (take (length front.now) found) → Decides r (Fits found wanted)
begins_as_wanted found wanted front r ends is =
    let whole = strip_suffix_is unsigned_Decides wanted (codes "...\n") (Some front) ends in
    let starts = starts_is unsigned_Decides found front.now r is in (
      (λ yes. inr (front.now, whole, sym (ap (take (length front.now)) (starts.0 yes) ∙ take-append_seam front.now (drop (length front.now) found)))),
      (λ fit. elim fit [
        | inl same ↦ starts.1 (codes "...\n") (same ∙ whole)
        | inr other ↦
            let (f, w, begins) = other in
            let one = append_cancel_right front.now f (codes "...\n") (sym whole ∙ w) in
            starts.1 (drop (length f) found) (sym (take-append-drop (length f) found) ∙ ap (λ (l : List ℕ). l ++ drop (length f) found) (sym begins ∙ sym one))
      ]),
    )

-- the wanted text doesn't end with the mark, and a text fits it where it is the same
pub is_as_wanted : (found wanted : List ℕ) (r : Bool)
    → bytes_eq (drop (length wanted - 4) wanted) (codes "...\n") ≡ false → r ≡ bytes_eq found wanted → Decides r (Fits found wanted)
is_as_wanted found wanted r ends is =
    let none = strip_suffix_is unsigned_Decides wanted (codes "...\n") None ends in
    let same = bytes_decides found wanted in (
      (λ yes. inl (same.0 (sym is ∙ yes))),
      (λ fit. elim fit [
        | inl equal ↦ is ∙ same.1 equal
        | inr other ↦ let (f, w, begins) = other in absurd (none f w)
      ]),
    )
