-- The least distance, word by word and task by task, is the nearest of all.
use Rattle.std.proofs.Common.{ℕ, zero, suc, ◌≡◌, ◌+◌, ◌-◌, ◌<◌, ◌≤◌, min, Bool, true, false, cond, Option, Some, None, refl, sym, ap, ◌∙◌, arith, inl, inr}
use Rattle.std.proofs.lemmas.Option.{none-some, same_Some}
use Rattle.std.proofs.lemmas.Bool.{cases_eq, cases_lt}
use Rattle.svc_image.specs.Image.{Image}
use Rattle.svc_core_laws.specs.State.{State}
use Rattle.svc_core_laws.specs.Turns.{data_words}
use Rattle.svc_core_laws.specs.Program.{Program, exposed_words, task_log}
use Rattle.svc_core_laws.specs.Words.{program}
use Rattle.svc_depend_laws.specs.Needs.{comes_from, HasNeed, IsNearestOf}
use Rattle.svc_depend_laws.specs.Over.{least_over, lesser}
use Rattle.svc_depend_laws.specs.Counts.{back_to, distance, nearest}
use Rattle.svc_depend_laws.proofs.Nearests.{origin_is}
use Rattle.svc_depend_laws.proofs.DataWords.{words_of_data}

-- ---- the least over the first so many

both_none : (a b : Option ℕ) → lesser a b ≡ None → (a ≡ None) × (b ≡ None)
both_none None None h = (refl, refl)
both_none None (Some y) h = absurd (none-some y (sym h))
both_none (Some x) None h = absurd (none-some x (sym h))
both_none (Some x) (Some y) h = absurd (none-some (min x y) (sym h))

pub least_none : (f : ℕ → Option ℕ) (n i : ℕ) → i < n → least_over f n ≡ None → f i ≡ None
least_none f zero i below h = absurd (omega (arith, below))
least_none f (suc n) i below h =
    let b = both_none (f n) (least_over f n) h in
    elim (cases_eq i n) [
      | inl e ↦ ap f e ∙ b.0
      | inr ne ↦ least_none f n i (omega (arith, below, ne)) b.1
    ]

-- where the least is
pub record HasIt (f : ℕ → Option ℕ) (n d : ℕ) : Type 0 where
  pub at : ℕ
  pub below : at < n
  pub is : f at ≡ Some d

lesser_is : (f : ℕ → Option ℕ) (n d : ℕ) (a b : Option ℕ) → f n ≡ a → least_over f n ≡ b → lesser a b ≡ Some d → ((e : ℕ) → b ≡ Some e → HasIt f n e) → HasIt f (suc n) d
lesser_is f n d None b ea eb h rest = let r : HasIt f n d = rest d h in record { at = r.at; below = (let l = r.below in omega (arith, l)); is = r.is }
lesser_is f n d (Some x) None ea eb h rest = record { at = n; below = omega arith; is = ea ∙ h }
lesser_is f n d (Some x) (Some y) ea eb h rest =
    let m : min x y ≡ d = same_Some (min x y) d h in
    elim (cases_lt x y) [
      | inl l ↦ record { at = n; below = omega arith; is = ea ∙ ap Some (omega (arith, m, l)) }
      | inr l ↦ let r : HasIt f n y = rest y refl in record { at = r.at; below = (let b = r.below in omega (arith, b)); is = r.is ∙ ap Some (omega (arith, m, l)) }
    ]

pub least_is : (f : ℕ → Option ℕ) (n d : ℕ) → least_over f n ≡ Some d → HasIt f n d
least_is f zero d h = absurd (none-some d h)
least_is f (suc n) d h = lesser_is f n d (f n) (least_over f n) refl refl h (λ e k. least_is f n e k)

lesser_low : (a b : Option ℕ) (d e : ℕ) → lesser a b ≡ Some d → a ≡ Some e → d ≤ e
lesser_low None b d e h k = absurd (none-some e k)
lesser_low (Some x) None d e h k = let s : x ≡ d = same_Some x d h in let t : x ≡ e = same_Some x e k in omega (arith, s, t)
lesser_low (Some x) (Some y) d e h k = let s : min x y ≡ d = same_Some (min x y) d h in let t : x ≡ e = same_Some x e k in omega (arith, s, t)

lesser_rest : (a b : Option ℕ) (d e : ℕ) → lesser a b ≡ Some d → b ≡ Some e → (c : ℕ) × (lesser None b ≡ Some c) × (d ≤ c)
lesser_rest a None d e h k = absurd (none-some e k)
lesser_rest None (Some y) d e h k = (y, refl, (let s : y ≡ d = same_Some y d h in omega (arith, s)))
lesser_rest (Some x) (Some y) d e h k = (y, refl, (let s : min x y ≡ d = same_Some (min x y) d h in omega (arith, s)))

some_least : (f : ℕ → Option ℕ) (n i e : ℕ) (o : Option ℕ) → least_over f n ≡ o → i < n → f i ≡ Some e → (c : ℕ) × (least_over f n ≡ Some c)
some_least f n i e None h below k = absurd (none-some e (sym (least_none f n i below h) ∙ k))
some_least f n i e (Some c) h below k = (c, h)

pub least_low : (f : ℕ → Option ℕ) (n i d e : ℕ) → i < n → least_over f n ≡ Some d → f i ≡ Some e → d ≤ e
least_low f zero i d e below h k = absurd (omega (arith, below))
least_low f (suc n) i d e below h k = elim (cases_eq i n) [
  | inl s ↦ lesser_low (f n) (least_over f n) d e h (ap f (sym s) ∙ k)
  | inr ne ↦
      let low : i < n = omega (arith, below, ne) in
      let c = some_least f n i e (least_over f n) refl low k in
      let r = lesser_rest (f n) (least_over f n) d c.0 h c.1 in
      let same : c.0 ≡ r.0 = same_Some c.0 r.0 (sym c.1 ∙ r.1) in
      let rest : c.0 ≤ e = least_low f n i c.0 e low c.1 k in
      let most : d ≤ r.0 = r.2 in
      omega (arith, same, rest, most)
]

-- ---- needs

-- the need that a distance tells
told : (p : Program State) (task word d : ℕ) (b : Bool) (c : Option ℕ) → exposed_words (task_log p task) word ≡ b → comes_from p task word ≡ c → cond b (back_to task c) None ≡ Some d
    → (exposed_words (task_log p task) word ≡ true) × ((from : ℕ) × (comes_from p task word ≡ Some from) × (task ≡ from + d))
told p task word d false c eb ec h = absurd (none-some d h)
told p task word d true None eb ec h = absurd (none-some d h)
told p task word d true (Some from) eb ec h =
    let before : from < task = (origin_is p task word from ec).before in
    let same : task - from ≡ d = same_Some (task - from) d h in
    (eb, (from, ec, omega (arith, before, same)))

module _ (img : Image) (k : ℕ) where
  abbrev p : Program State
  p = program img

  abbrev n : ℕ
  n = data_words img

  is_need : (task word d : ℕ) → task < k → distance p task word ≡ Some d → HasNeed p k d
  is_need task word d early h =
      let t = told p task word d (exposed_words (task_log p task) word) (comes_from p task word) refl refl h in
      record { task = task; early = early; word = word; exposes = t.0; from = t.1.0; comes = t.1.1; apart = t.1.2 }

  distance_of : (d : ℕ) (h : HasNeed p k d) → distance p h.task h.word ≡ Some d
  distance_of d h =
      let e : h.task ≡ h.from + d = h.apart in
      let same : h.task - h.from ≡ d = omega (arith, e) in
      ap (λ b. cond b (back_to h.task (comes_from p h.task h.word)) None) h.exposes ∙ ap (back_to h.task) h.comes ∙ ap Some same

  of : (o : Option ℕ) → least_over (nearest p n) k ≡ o → IsNearestOf p k o
  of None e = λ d h.
      none-some d (sym (least_none (distance p h.task) n h.word ((words_of_data img h.task h.word).0 h.exposes) (least_none (nearest p n) k h.task h.early e)) ∙ distance_of d h)
  of (Some d) e =
      let a : HasIt (nearest p n) k d = least_is (nearest p n) k d e in
      let b : HasIt (distance p a.at) n d = least_is (distance p a.at) n d a.is in
      record {
        some = is_need a.at b.at d a.below b.is;
        least = λ f h.
            let inside : h.word < n = (words_of_data img h.task h.word).0 h.exposes in
            let own = some_least (distance p h.task) n h.word f (least_over (distance p h.task) n) refl inside (distance_of f h) in
            let low : own.0 ≤ f = least_low (distance p h.task) n h.word own.0 f inside own.1 (distance_of f h) in
            let all : d ≤ own.0 = least_low (nearest p n) k h.task d own.0 h.early e own.1 in
            omega (arith, low, all);
      }

  pub nearest_of_all : IsNearestOf p k (least_over (nearest p n) k)
  nearest_of_all = of (least_over (nearest p n) k) refl
