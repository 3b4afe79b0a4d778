-- The keys that were met, each once and with its schedule, and how many moves were made.
use Rattle.std.proofs.Common.{ℕ, zero, suc, ◌≡◌, ◌⊎◌, ◌+◌, ◌*◌, ◌<◌, ◌≤◌, ◌^◌, Bool, true, false, cond, true≢false, is_some, List, [], ◌∷◌, ◌++◌, length, Some, inl, inr, Vec, vec_items, refl, sym, ap, ◌∙◌, subst, arith, slice_get}
use Rattle.std.specs.declared.alloc.Global.{Global}
use Rattle.std.specs.List.{AllByRecursion}
use Rattle.std.specs.Map.{lookup}
use Rattle.std.specs.Str.{bytes_eq}
use Rattle.std.proofs.lemmas.Slice.Eq.{bytes_eq-Decides}
use Rattle.std.proofs.lemmas.Option.{none-some, same_Some, slice_get_within}
use Rattle.std.proofs.Math.Nat.{mul-le-mul_left, mul-le-mul_right, suc-mul}
use Rattle.std.proofs.lemmas.List.{length-append}
use Rattle.svc_base.specs.declared.config.Config.{Config}
use Rattle.svc_base.specs.declared.ids.UnitId.{UnitId}
use Rattle.svc_image.specs.Image.{Image}
use Rattle.svc_explore_laws.specs.Closed.{IsIn}
use Rattle.svc_machine_laws.proofs.Places.{some_at}
use Rattle.svc_explore.specs.Counts.{AddsPlace, AreMet, HasFull, IsDepth, IsLongest, IsMet}
use Rattle.svc_explore.specs.Found.{AreOnce}
use Rattle.svc_explore.specs.Search.{GrowsTo, Place, are_keys, key_at, path_at}
use Rattle.svc_explore.specs.Tries.{LeadsToKey}
use Rattle.svc_explore.proofs.Founding.{all_more, once_more}
use Rattle.svc_explore.proofs.Growing.{append_grows, below_more, eq_keys, map_append, put, same_grows}

-- ---- a key that a map doesn't hold

abbrev pub holds : (key : Vec ℕ Global) (es : List Place) → Bool
holds key es = is_some (lookup (λ (a : Vec ℕ Global). bytes_eq (vec_items key) (vec_items a)) es)

put_last : (key : Vec ℕ Global) (path : Vec UnitId Global) (es : List Place) → holds key es ≡ false → put key path es ≡ es ++ (key, path) ∷ []
put_last key path [] = λ h. refl
put_last key path (e ∷ es) = by (eq_keys key e.0) (put_last key path es)
  where
    by : (b : Bool) → (holds key es ≡ false → put key path es ≡ es ++ (key, path) ∷ []) → is_some (cond b (Some e.1) (lookup (λ (a : Vec ℕ Global). bytes_eq (vec_items key) (vec_items a)) es)) ≡ false
        → cond b ((e.0, path) ∷ es) (e ∷ put key path es) ≡ e ∷ (es ++ (key, path) ∷ [])
    by true rest h = absurd (true≢false h)
    by false rest h = ap {B = List Place} (λ l. e ∷ l) (rest h)

fresh_key : (key : Vec ℕ Global) (es : List Place) → holds key es ≡ false → IsIn (vec_items key) (are_keys es) → ⊥
fresh_key key [] = λ h there. none-some (vec_items key) there.1
fresh_key key (e ∷ es) = by (eq_keys key e.0) refl (fresh_key key es)
  where
    by : (b : Bool) → eq_keys key e.0 ≡ b → (holds key es ≡ false → IsIn (vec_items key) (are_keys es) → ⊥)
        → is_some (cond b (Some e.1) (lookup (λ (a : Vec ℕ Global). bytes_eq (vec_items key) (vec_items a)) es)) ≡ false → IsIn (vec_items key) (vec_items e.0 ∷ are_keys es) → ⊥
    by true is rest h there = true≢false h
    by false is rest h (zero, e1) = true≢false (sym ((bytes_eq-Decides (vec_items key) (vec_items e.0)).1 (sym (same_Some (vec_items e.0) (vec_items key) e1))) ∙ is)
    by false is rest h (suc i, e1) = rest h (i, e1)

pub adds_place : (key : Vec ℕ Global) (path : Vec UnitId Global) (es : List Place) → holds key es ≡ false → AddsPlace es (put key path es) key path
adds_place key path es h = inr (put_last key path es h, fresh_key key es h)

-- ---- what is met

module _ (img : Image) (config : Config) (most : ℕ) where
  pub none_met : (places : List Place) → places ≡ [] → AreMet img config most places
  none_met places e = subst (AreMet img config most) (sym e) (record { once = λ i j x h k. absurd (none-some x h); each = tt })

  pub adds_met : (old new : List Place) (key : Vec ℕ Global) (path : Vec UnitId Global) → AddsPlace old new key path → LeadsToKey img config most (vec_items path) (vec_items key)
      → AreMet img config most old → AreMet img config most new
  adds_met old new key path (inl same) leads met = subst (AreMet img config most) (sym same) met
  adds_met old new key path (inr more) leads met = record {
    once = subst AreOnce (sym (ap are_keys more.0 ∙ map_append key_at old ((key, path) ∷ []))) (once_more (are_keys old) (vec_items key) more.1 met.once);
    each = subst (AllByRecursion (IsMet img config most)) (sym more.0) (all_more (IsMet img config most) old (key, path) met.each leads);
  }

pub adds_grow : (old new : List Place) (key : Vec ℕ Global) (path : Vec UnitId Global) → AddsPlace old new key path → GrowsTo old new
adds_grow old new key path (inl same) = same_grows old new same
adds_grow old new key path (inr more) = subst (GrowsTo old) (sym more.0) (append_grows old ((key, path) ∷ []))

-- at most one more
pub adds_one : (old new : List Place) (key : Vec ℕ Global) (path : Vec UnitId Global) → AddsPlace old new key path → length new ≤ length old + 1
adds_one old new key path (inl same) = omega (arith, ap length same)
adds_one old new key path (inr more) = let e = ap length more.0 ∙ length-append old ((key, path) ∷ []) in omega (arith, e)

-- ---- how many moves

pub more_times : (index units old new : ℕ) → old ≤ index * units → new ≤ old + units → new ≤ (index + 1) * units
more_times index units old new h more = let one : index + 1 ≡ suc index = omega arith in let e = ap (λ n. n * units) one ∙ suc-mul index units in omega (arith, h, more, e)

pub times_more : (index n units moves : ℕ) → moves ≤ index * units → index ≤ n → moves ≤ n * units
times_more index n units moves h more = let e = mul-le-mul_right units more in omega (arith, h, e)

pub some_keys : (k : List ℕ) (es : List Place) → IsIn k (are_keys es) → 0 < length es
some_keys k [] there = absurd (none-some k there.1)
some_keys k (e ∷ es) there = omega arith

-- ---- the longest schedule

module _ (es : List Place) (index old depth : ℕ) (bound : (i : ℕ) (e : Place) → i < index → slice_get es i ≡ Some e → length (path_at e) ≤ old)
    (inside : index < length es) (is : IsDepth es index depth) where
  pub bound_more : (new : ℕ) → old ≤ new → depth ≤ new → (i : ℕ) (e : Place) → i < index + 1 → slice_get es i ≡ Some e → length (path_at e) ≤ new
  bound_more new a b i e h there = elim (below_more i index h) [
    | inl low ↦ let q = bound i e low there in omega (arith, q, a)
    | inr same ↦ let q = is e (subst (λ j. slice_get es j ≡ Some e) same there) in omega (arith, q, b)
  ]

  pub found_here : (i : ℕ) × (e : Place) × (slice_get es i ≡ Some e) × (length (path_at e) ≡ depth)
  found_here = let e = some_at es index inside in (index, e.0, e.1, is e.0 e.1)

pub longest_of : (es : List Place) (index deepest : ℕ) → length es ≤ index → 0 < length es → ((i : ℕ) (e : Place) → i < index → slice_get es i ≡ Some e → length (path_at e) ≤ deepest)
    → (deepest ≡ 0) ⊎ ((i : ℕ) × (e : Place) × (slice_get es i ≡ Some e) × (length (path_at e) ≡ deepest)) → IsLongest deepest es
longest_of es index deepest all some bound found =
    let within : (i : ℕ) (e : Place) → slice_get es i ≡ Some e → length (path_at e) ≤ deepest =
    λ i e there. let h = slice_get_within es i e there in bound i e (omega (arith, h, all)) there in
    elim found [
      | inl none ↦
          let first = some_at es 0 some in
          let low = within 0 first.0 first.1 in
          record { bound = within; index = 0; place = first.0; there = first.1; is = omega (arith, low, none) }
      | inr at ↦ record { bound = within; index = at.0; place = at.1; there = at.2; is = at.3 }
    ]

-- ---- limits

-- so few moves are counted that one for each unit more can be
pub few_moves : (index units moves : ℕ) → moves ≤ index * units → units ≤ 16 → index < 2 ^ 32 → moves + 16 < 2 ^ 63
few_moves index units moves h few below = let e = mul-le-mul_left index few in omega (arith, h, e, below)

-- a schedule with as many moves as events may be accepted is no longer than the longest
pub deep_enough : (config : Config) (places : List Place) (deepest : ℕ) → IsLongest deepest places → HasFull config places → config.events ≤ deepest
deep_enough config places deepest longest full = let h = longest.bound full.index full.place full.there in let e = full.full in omega (arith, h, e)
