-- The lines that a write makes stale, as a list: which they are, and that no unit has two of them.
use Rattle.std.proofs.Common.{◌≡◌, ◌≢◌, ◌∙◌, refl, sym, ap, ap₂, ℕ, zero, suc, ◌+◌, ◌<◌, ◌≤◌, Bool, true, false, cond, not, ◌&&◌, ◌||◌, ◌==◌, Option, Some, None, List, [], ◌∷◌, ◌++◌, length, get_or, take, arith}
use Rattle.std.specs.List.{filter_map}
use Rattle.std.specs.List.{cons_option}
use Rattle.std.proofs.Math.Seq.{take-suc}
use Rattle.std.proofs.lemmas.List.{append-nil, append_assoc, take_all, take_more}
use Rattle.std.proofs.lemmas.List.Elements.{filter_map-append}
use Rattle.std.proofs.lemmas.List.Folds.{list_any-append}
use Rattle.svc_line.specs.Bits.{bits_of}
use Rattle.svc_bus_laws.specs.Search.{any_below}
use Rattle.svc_vol.specs.declared.held_line.HeldLine.{HeldLine}
use Rattle.svc_vol.specs.Value.{ListValue, no_held_line, held_at, unit_at}
use Rattle.svc_vcl.specs.Listed.{slot_at}
use Rattle.svc_vcl.specs.Planned.{copies_in, fresh_beside, is_copy_of, is_fresh_copy, is_named, is_passed_in, is_unmarked_in, passed_in, stale_in, unmarked_line}

-- ---- what is kept of a list

-- one more element
pub kept_more : {X : Type 0} (h : X → Option HeldLine) (xs : List X) (i : ℕ) (d : X) → i < length xs → filter_map h (take (i + 1) xs) ≡ filter_map h (take i xs) ++ filter_map h (get_or xs i d ∷ [])
kept_more h xs i d within = ap (filter_map h) (take_more xs i d within) ∙ filter_map-append h (take i xs) (get_or xs i d ∷ [])

-- where a line that was kept comes from
pub record IsFrom {X : Type 0} (h : X → Option HeldLine) (d : X) (xs : List X) (version : HeldLine) : Type 0 where
  pub place : ℕ
  pub within : place < length xs
  pub is : h (get_or xs place d) ≡ Some version

pub kept_from : {X : Type 0} (h : X → Option HeldLine) (d : X) (xs : List X) (k : ℕ) → k < length (filter_map h xs) → IsFrom h d xs (held_at (filter_map h xs) k)
kept_from h d [] k within = absurd (omega (arith, within))
kept_from h d (x ∷ xs) k within = go (h x) refl (λ j below. kept_from h d xs j below) k within
  where
    later : (v : HeldLine) → IsFrom h d xs v → IsFrom h d (x ∷ xs) v
    later v from = record { place = suc from.place; within = omega (arith, from.within); is = from.is }

    go : (o : Option HeldLine) → h x ≡ o → ((j : ℕ) → j < length (filter_map h xs) → IsFrom h d xs (held_at (filter_map h xs) j)) → (j : ℕ) → j < length (cons_option o (filter_map h xs)) → IsFrom h d (x ∷ xs) (held_at (cons_option o (filter_map h xs)) j)
    go None e rest j below = later _ (rest j below)
    go (Some v) e rest zero below = record { place = 0; within = omega arith; is = e }
    go (Some v) e rest (suc j) below = later _ (rest j (omega (arith, below)))

-- what is kept of elements whose lines are in different caches
pub kept_apart : {X : Type 0} (h : X → Option HeldLine) (d : X) (xs : List X) → ((i j : ℕ) (v w : HeldLine) → i < j → j < length xs → h (get_or xs i d) ≡ Some v → h (get_or xs j d) ≡ Some w → v.unit.0 ≢ w.unit.0)
    → (i j : ℕ) → i < j → j < length (filter_map h xs) → unit_at (filter_map h xs) i ≢ unit_at (filter_map h xs) j
kept_apart h d [] far i j less within = absurd (omega (arith, within))
kept_apart h d (x ∷ xs) far i j less within = go (h x) refl (kept_apart h d xs (λ p q v w less below a b. far (suc p) (suc q) v w (omega (arith, less)) (omega (arith, below)) a b)) i j less within
  where
    go : (o : Option HeldLine) → h x ≡ o → ((i j : ℕ) → i < j → j < length (filter_map h xs) → unit_at (filter_map h xs) i ≢ unit_at (filter_map h xs) j)
        → (i j : ℕ) → i < j → j < length (cons_option o (filter_map h xs)) → unit_at (cons_option o (filter_map h xs)) i ≢ unit_at (cons_option o (filter_map h xs)) j
    go None e rest p q less below = rest p q less below
    go (Some v) e rest zero zero less below = absurd (omega (arith, less))
    go (Some v) e rest zero (suc q) less below = let from = kept_from h d xs q (omega (arith, below)) in far 0 (suc from.place) v (held_at (filter_map h xs) q) (omega arith) (omega (arith, from.within)) e from.is
    go (Some v) e rest (suc p) zero less below = absurd (omega (arith, less))
    go (Some v) e rest (suc p) (suc q) less below = rest p q (omega (arith, less)) (omega (arith, below))

-- ---- whose lines are kept

-- the line is in the unit's cache
abbrev is_of : Option HeldLine → (unit : ℕ) → Bool
is_of None unit = false
is_of (Some version) unit = version.unit.0 == unit

named_kept : {X : Type 0} (h : X → Option HeldLine) (d : X) (xs : List X) (unit n : ℕ) → n ≤ length xs → is_named (filter_map h (take n xs)) unit ≡ any_below n (λ i. is_of (h (get_or xs i d)) unit)
named_kept h d xs unit zero within = refl
named_kept h d xs unit (suc n) within =
    ap (λ ys. is_named (filter_map h ys) unit) (take-suc xs n d (omega (arith, within)))
    ∙ ap (λ versions. is_named versions unit) (filter_map-append h (take n xs) (get_or xs n d ∷ []))
    ∙ list_any-append (λ (version : HeldLine). version.unit.0 == unit) (filter_map h (take n xs)) (filter_map h (get_or xs n d ∷ []))
    ∙ ap₂ (λ x y. x || y) (named_kept h d xs unit n (omega (arith, within))) (alone (h (get_or xs n d)))
  where
    right_false : (x : Bool) → (x || false) ≡ x
    right_false true = refl
    right_false false = refl

    alone : (o : Option HeldLine) → is_named (cons_option o []) unit ≡ is_of o unit
    alone None = refl
    alone (Some version) = right_false (version.unit.0 == unit)

any_same : (n : ℕ) (test other : ℕ → Bool) → ((k : ℕ) → test k ≡ other k) → any_below n test ≡ any_below n other
any_same n test other same = λ i. any_below n (λ k. same k i)

copies_named : (committed : List HeldLine) (writer unit : ℕ) → is_named (copies_in committed writer) unit ≡ is_copy_of committed (length committed) writer unit
copies_named committed writer unit =
    ap (λ versions. is_named (copies_in versions writer) unit) (sym (take_all (length committed) committed (omega arith)))
    ∙ named_kept (fresh_beside writer) no_held_line committed unit (length committed) (omega arith)
    ∙ any_same (length committed) _ _ (λ k. picked (not (unit_at committed k == writer) && is_fresh_copy (held_at committed k)) (held_at committed k))
  where
    picked : (x : Bool) (version : HeldLine) → is_of (cond x (Some version) None) unit ≡ (x && (version.unit.0 == unit))
    picked true version = refl
    picked false version = refl

passed_named : (active : List (Option HeldLine)) (place unit : ℕ) → place ≤ length active → is_named (passed_in (take place active)) unit ≡ is_passed_in active place unit
passed_named active place unit within = named_kept unmarked_line None active unit place within ∙ any_same place _ _ (λ q. shown (slot_at active q))
  where
    picked : (x : Bool) (version : HeldLine) → is_of (cond x None (Some version)) unit ≡ (not x && (version.unit.0 == unit))
    picked true version = refl
    picked false version = refl

    shown : (slot : Option HeldLine) → is_of (unmarked_line slot) unit ≡ is_unmarked_in slot unit
    shown None = refl
    shown (Some version) = picked (bits_of version.line.bits).stale version

-- which units the lines are of
pub stale_named_in : (list : ListValue) (writer place unit : ℕ) → place ≤ length list.active → is_named (stale_in list writer place) unit ≡ (is_copy_of list.committed (length list.committed) writer unit || is_passed_in list.active place unit)
stale_named_in list writer place unit within =
    list_any-append (λ (version : HeldLine). version.unit.0 == unit) (copies_in list.committed writer) (passed_in (take place list.active))
    ∙ ap₂ (λ x y. x || y) (copies_named list.committed writer unit) (passed_named list.active place unit within)

-- ---- one more line

-- a line that is kept comes to the end of those so far, and any other leaves them
pub kept_on : {X : Type 0} (h : X → Option HeldLine) (xs : List X) (i : ℕ) (d : X) (old so_far : List HeldLine) → i < length xs → so_far ≡ old ++ filter_map h (take i xs)
    → (version : HeldLine) → h (get_or xs i d) ≡ Some version → so_far ++ version ∷ [] ≡ old ++ filter_map h (take (i + 1) xs)
kept_on h xs i d old so_far within is version keeps =
    ap (λ versions. versions ++ version ∷ []) is
    ∙ append_assoc old (filter_map h (take i xs)) (version ∷ [])
    ∙ ap (λ o. old ++ (filter_map h (take i xs) ++ cons_option o [])) (sym keeps)
    ∙ ap (λ versions. old ++ versions) (sym (kept_more h xs i d within))

pub left_out : {X : Type 0} (h : X → Option HeldLine) (xs : List X) (i : ℕ) (d : X) (old so_far : List HeldLine) → i < length xs → so_far ≡ old ++ filter_map h (take i xs)
    → h (get_or xs i d) ≡ None → so_far ≡ old ++ filter_map h (take (i + 1) xs)
left_out h xs i d old so_far within is leaves =
    is
    ∙ ap (λ versions. old ++ versions) (sym (append-nil (filter_map h (take i xs))))
    ∙ ap (λ o. old ++ (filter_map h (take i xs) ++ cons_option o [])) (sym leaves)
    ∙ ap (λ versions. old ++ versions) (sym (kept_more h xs i d within))
