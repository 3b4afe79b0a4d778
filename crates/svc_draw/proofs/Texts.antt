-- Texts added one after another, texts over a range, and the first step with room.
use Rattle.std.proofs.Common.{◌≡◌, ◌<◌, ◌≤◌, ◌∙◌, ◌+◌, ◌++◌, ◌∷◌, [], Bool, cond, true, false, ℕ, zero, suc, List, Some, None, ap, sym, arith, append_assoc, append-nil, drop, get_or, length}
use Rattle.std.specs.Prelude.{flat_map}
use Rattle.std.specs.List.{find, range_with_len}
use Rattle.std.proofs.lemmas.List.{at_drop_all, at_drop_more}
use Rattle.std.proofs.lemmas.List.Concat.{flat_map-append}

-- a range with one number more
range_more : (a n : ℕ) → range_with_len a (suc n) ≡ range_with_len a n ++ (a + n) ∷ []
range_more a zero = let e : a ≡ a + 0 = omega arith in ap (λ (x : ℕ). x ∷ []) e
range_more a (suc n) =
    let e : (a + 1) + n ≡ a + suc n = omega arith in
    ap (λ (l : List ℕ). a ∷ l) (range_more (a + 1) n ∙ ap (λ (x : ℕ). range_with_len (a + 1) n ++ x ∷ []) e)

-- the texts of a range, one number more
pub numbers_more : (f : ℕ → List ℕ) (a n at next : ℕ) (old text new : List ℕ) → a + n ≡ at → next ≡ suc n
    → text ≡ old ++ flat_map f (range_with_len a n) → new ≡ text ++ f at → new ≡ old ++ flat_map f (range_with_len a next)
numbers_more f a n at next old text new here after so_far one =
    let before = flat_map f (range_with_len a n) in
    let more : flat_map f (range_with_len a next) ≡ before ++ f at =
    ap (λ (m : ℕ). flat_map f (range_with_len a m)) after ∙ ap (flat_map f) (range_more a n) ∙ flat_map-append f (range_with_len a n) ((a + n) ∷ [])
    ∙ ap (λ (l : List ℕ). before ++ l) (append-nil (f (a + n))) ∙ ap (λ (m : ℕ). before ++ f m) here in
    one ∙ ap (λ (l : List ℕ). l ++ f at) so_far ∙ append_assoc old before (f at) ∙ ap (λ (l : List ℕ). old ++ l) (sym more)

-- four texts, added one after another
pub four_more : (old one two three four a b c d : List ℕ) → one ≡ old ++ a → two ≡ one ++ b → three ≡ two ++ c → four ≡ three ++ d → four ≡ old ++ (a ++ b ++ c ++ d)
four_more old one two three four a b c d first second third fourth =
    let ab : two ≡ old ++ (a ++ b) = second ∙ ap (λ (t : List ℕ). t ++ b) first ∙ append_assoc old a b in
    let abc : three ≡ old ++ (a ++ b ++ c) = third ∙ ap (λ (t : List ℕ). t ++ c) ab ∙ append_assoc old (a ++ b) c in
    fourth ∙ ap (λ (t : List ℕ). t ++ d) abc ∙ append_assoc old (a ++ b ++ c) d

-- a search for a step goes on past one without room, ends at one with room, and finds none at the end
pub step_goes_on : (p : ℕ → Bool) (ns : List ℕ) (i d : ℕ) → i < length ns → p (get_or ns i d) ≡ false → find p (drop i ns) ≡ find p (drop (i + 1) ns)
step_goes_on p ns i d inside other = at_drop_more (find p) ns i d inside ∙ ap (λ b. cond b (Some (get_or ns i d)) (find p (drop (i + 1) ns))) other

pub step_found : (p : ℕ → Bool) (ns : List ℕ) (i d : ℕ) → i < length ns → p (get_or ns i d) ≡ true → find p (drop i ns) ≡ Some (get_or ns i d)
step_found p ns i d inside such = at_drop_more (find p) ns i d inside ∙ ap (λ b. cond b (Some (get_or ns i d)) (find p (drop (i + 1) ns))) such

pub no_step : (p : ℕ → Bool) (ns : List ℕ) (i : ℕ) → length ns ≤ i → find p (drop i ns) ≡ None
no_step p ns i over = at_drop_all (find p) ns i over
