-- Texts added one after another: over units, over the entries that are left, over stores.
use Rattle.std.proofs.Common.{◌≡◌, ◌<◌, ◌≤◌, ◌∙◌, ◌+◌, ◌-◌, ◌/◌, ◌%◌, ◌++◌, ◌∷◌, [], cond, refl, ℕ, zero, suc, List, Option, None, ap, sym, arith, add-one, append_assoc, append-nil, drop, get_or, length, take}
use Rattle.std.specs.Prelude.{flat_map, slice_range}
use Rattle.std.specs.List.{range_with_len}
use Rattle.std.proofs.lemmas.List.{at_drop_all, at_drop_more, drop_at}
use Rattle.std.proofs.lemmas.List.Concat.{flat_map-append}
use Rattle.svc_base.specs.declared.ids.UnitId.{UnitId}
use Rattle.svc_history_laws.specs.declared.entry.Entry.{Entry}
use Rattle.svc_task_runs.specs.Runs.{Runs, step}
use Rattle.svc_export.specs.Chrome.{replaced_by, replacements}
use Rattle.svc_export.specs.Changes.{bits}
use Rattle.svc_export.specs.Vcd.{changes_from, decided, entry_changes, is_store_of, stored_in}

-- a range with one number more
range_more : (a n : ℕ) → range_with_len a (suc n) ≡ range_with_len a n ++ (a + n) ∷ []
range_more a zero = let e : a ≡ a + 0 = omega arith in ap (λ (x : ℕ). x ∷ []) e
range_more a (suc n) =
    let e : (a + 1) + n ≡ a + suc n = omega arith in
    ap (λ (l : List ℕ). a ∷ l) (range_more (a + 1) n ∙ ap (λ (x : ℕ). range_with_len (a + 1) n ++ x ∷ []) e)

-- the texts of units, one unit more
pub one_more_unit : (f : ℕ → List ℕ) (n unit : ℕ) (old text new : List ℕ) → unit ≡ n → text ≡ old ++ flat_map f (range_with_len 0 n)
    → new ≡ text ++ f unit → new ≡ old ++ flat_map f (range_with_len 0 (n + 1))
one_more_unit f n unit old text new same so_far added =
    let before = flat_map f (range_with_len 0 n) in
    let here : 0 + n ≡ n = omega arith in
    let one : new ≡ text ++ f n = added ∙ ap (λ (m : ℕ). text ++ f m) same in
    let more : flat_map f (range_with_len 0 (n + 1)) ≡ before ++ f n =
    ap (λ (m : ℕ). flat_map f (range_with_len 0 m)) (add-one n) ∙ ap (flat_map f) (range_more 0 n)
    ∙ flat_map-append f (range_with_len 0 n) ((0 + n) ∷ [])
    ∙ ap (λ (l : List ℕ). before ++ l) (append-nil (f (0 + n))) ∙ ap (λ (m : ℕ). before ++ f m) here in
    one ∙ ap (λ (l : List ℕ). l ++ f n) so_far ∙ append_assoc old before (f n) ∙ ap (λ (l : List ℕ). old ++ l) (sym more)

-- the text of an entry, and those of the entries after it
text_moves : (old text new one more rest goal : List ℕ) → rest ≡ one ++ more → new ≡ text ++ one → text ++ rest ≡ goal → new ++ more ≡ goal
text_moves old text new one more rest goal split added so_far =
    ap (λ (t : List ℕ). t ++ more) added ∙ append_assoc text one more ∙ ap (λ (t : List ℕ). text ++ t) (sym split) ∙ so_far

pub replacement_moves : (es : List Entry) (i : ℕ) (d : Entry) (text new goal : List ℕ) → i < length es
    → new ≡ text ++ replaced_by i (get_or es i d) (get_or es i d).reply → text ++ replacements i (drop i es) ≡ goal
    → new ++ replacements (i + 1) (drop (i + 1) es) ≡ goal
unfolding replacements
replacement_moves es i d text new goal inside added so_far =
    let e = get_or es i d in
    let split : replacements i (drop i es) ≡ replaced_by i e e.reply ++ replacements (i + 1) (drop (i + 1) es) =
    at_drop_more (replacements i) es i d inside ∙ ap (λ (n : ℕ). replaced_by i e e.reply ++ replacements n (drop (i + 1) es)) (sym (add-one i)) in
    text_moves [] text new (replaced_by i e e.reply) (replacements (i + 1) (drop (i + 1) es)) (replacements i (drop i es)) goal split added so_far

pub replacements_end : (es : List Entry) (i : ℕ) (text goal : List ℕ) → length es ≤ i → text ++ replacements i (drop i es) ≡ goal → text ≡ goal
unfolding replacements
replacements_end es i text goal over so_far = sym (append-nil text) ∙ ap (λ (t : List ℕ). text ++ t) (sym (at_drop_all (replacements i) es i over)) ∙ so_far

pub changes_move : (all : List Entry) (words : List ℕ) (s next : Runs) (es : List Entry) (i : ℕ) (d : Entry) (text new goal : List ℕ) → i < length es
    → new ≡ text ++ entry_changes all words i (get_or es i d) s → next ≡ step i (get_or es i d) s
    → text ++ changes_from all words s i (drop i es) ≡ goal
    → new ++ changes_from all words next (i + 1) (drop (i + 1) es) ≡ goal
unfolding changes_from
changes_move all words s next es i d text new goal inside added stepped so_far =
    let e = get_or es i d in
    let rest = drop (i + 1) es in
    let one = entry_changes all words i e s in
    let split : changes_from all words s i (drop i es) ≡ one ++ changes_from all words next (i + 1) rest =
    at_drop_more (changes_from all words s i) es i d inside
    ∙ ap (λ (n : ℕ). one ++ changes_from all words (step i e s) n rest) (sym (add-one i))
    ∙ ap (λ (r : Runs). one ++ changes_from all words r (i + 1) rest) (sym stepped) in
    text_moves [] text new one (changes_from all words next (i + 1) rest) (changes_from all words s i (drop i es)) goal split added so_far

pub changes_end : (all : List Entry) (words : List ℕ) (s : Runs) (es : List Entry) (i : ℕ) (text goal : List ℕ) → length es ≤ i
    → text ++ changes_from all words s i (drop i es) ≡ goal → text ≡ goal
unfolding changes_from
changes_end all words s es i text goal over so_far =
    sym (append-nil text) ∙ ap (λ (t : List ℕ). text ++ t) (sym (at_drop_all (changes_from all words s i) es i over)) ∙ so_far

-- one entry more that may be a store
pub store_moves : (unit : UnitId) (word : ℕ) (value next : Option ℕ) (es : List Entry) (i : ℕ) (d : Entry) → i < length es
    → next ≡ cond (is_store_of unit word (get_or es i d)) (get_or es i d).word value
    → stored_in unit word value (drop i es) ≡ stored_in unit word next (drop (i + 1) es)
unfolding stored_in
store_moves unit word value next es i d inside stored =
    at_drop_more (stored_in unit word value) es i d inside ∙ ap (λ (v : Option ℕ). stored_in unit word v (drop (i + 1) es)) (sym stored)

pub stores_end : (unit : UnitId) (word : ℕ) (value : Option ℕ) (es : List Entry) (i : ℕ) → length es ≤ i → stored_in unit word value (drop i es) ≡ value
unfolding stored_in
stores_end unit word value es i over = at_drop_all (stored_in unit word value) es i over

-- no store lies between an entry and one before it
pub no_store_between : (unit : UnitId) (word : ℕ) (es : List Entry) (from to : ℕ) → to < from → stored_in unit word None (slice_range es from to) ≡ None
unfolding stored_in
no_store_between unit word es from to before =
    let none : to - from ≡ 0 = omega (arith, before) in
    ap (λ n. stored_in unit word None (take n (drop from es))) none

-- the bits of a number, one bit more
pub one_more_bit : (count number : ℕ) (old text new : List ℕ) → 0 < count → text ≡ old ++ bits (count - 1) (number / 2)
    → new ≡ text ++ (48 + number % 2) ∷ [] → new ≡ old ++ bits count number
unfolding bits
one_more_bit zero number old text new some so_far added = absurd (omega (arith, some))
one_more_bit (suc n) number old text new some so_far added =
    let less : suc n - 1 ≡ n = omega arith in
    let last : List ℕ = (48 + number % 2) ∷ [] in
    added ∙ ap (λ (t : List ℕ). t ++ last) (so_far ∙ ap (λ (m : ℕ). old ++ bits m (number / 2)) less) ∙ append_assoc old (bits n (number / 2)) last

-- the tasks that an entry settles are the new ones
pub new_ones : (at : ℕ) (e : Entry) (s t : Runs) (n : ℕ) → t ≡ step at e s → n ≡ length s.settled → drop n t.settled ≡ decided at e s
unfolding step
new_ones at e s t n stepped same =
    ap (λ (r : Runs). drop n r.settled) stepped ∙ ap (λ (m : ℕ). drop m (s.settled ++ decided at e s)) same
    ∙ drop_at s.settled (decided at e s) (length s.settled) refl

-- three texts, added one after another
pub three_more : (old one two three a b c : List ℕ) → one ≡ old ++ a → two ≡ one ++ b → three ≡ two ++ c → three ≡ old ++ (a ++ b ++ c)
three_more old one two three a b c first second third =
    let ab : two ≡ old ++ (a ++ b) = second ∙ ap (λ (t : List ℕ). t ++ b) first ∙ append_assoc old a b in
    third ∙ ap (λ (t : List ℕ). t ++ c) ab ∙ append_assoc old (a ++ b) c
