-- A squash takes out the active lines of the cut tasks' units; in a sound table these are the active lines of the cut tasks' numbers.
use Rattle.std.proofs.Common.{◌≡◌, refl, sym, ap, ◌∙◌, ℕ, ◌+◌, ◌<◌, Some, None, true, false, Bool, cond, not, ◌&&◌, Option, unwrap_or, length, take, inl, inr, arith, true≢false, leb, eq-eqb, ne_eqb, le-leb, leb-true}
use Rattle.std.specs.Bool.{◌==◌}
use Rattle.std.proofs.lemmas.Bool.{cases_Bool, cases_eq, leb-false, lt-leb}
use Rattle.svc_bus_laws.specs.LineTable.{Line, LineTable, is_active, is_cut, place_of, unit_at}
use Rattle.svc_bus_laws.specs.Steps.{line_after_purging, line_after_marking, line_after_squashing, store, survivors, squash, squash_from, write, written_line}
use Rattle.svc_bus_laws.specs.Sound.{IsSound}
use Rattle.svc_bus_laws.proofs.Searches.{any_found, any_none, least_found}
use Rattle.svc_bus_laws.proofs.Tables.{OtherWord, SameLine, OtherUnit, changed, purged_was, some_line, marked_was}

-- a squash by numbers
abbrev pub numbered_squash : LineTable → ℕ → LineTable
numbered_squash t n = record t {
  lines = λ v b. line_after_squashing (t.commits + n) (t.lines v b);
  units = take n t.units;
}

-- a write whose squash is by numbers
abbrev pub numbered_write : LineTable → ℕ → ℕ → ℕ → LineTable
numbered_write t p a w = numbered_squash (store t p a w) (survivors t p a)

-- an active line has the number of its unit's task
record IsOwn (t : LineTable) (v : ℕ) (l : Line) : Type 0 where
  pub place : ℕ
  pub within : place < length t.units
  pub unit : unit_at t place ≡ v
  pub number : l.task ≡ t.commits + place

module _ (t : LineTable) (n : ℕ) (distinct : (p q : ℕ) → p < length t.units → q < length t.units → unit_at t p ≡ unit_at t q → p ≡ q) (own : (v b : ℕ) (l : Line) → t.lines v b ≡ Some l → l.commit ≡ false → IsOwn t v l) where
  cut_is : (v : ℕ) (l : Line) → IsOwn t v l → is_cut t.units n v ≡ leb (t.commits + n) l.task
  cut_is v l k = elim (cases_Bool (leb n k.place)) [
    | inl high ↦
        any_found (length t.units) (λ q. leb n q && (unit_at t q == v)) k.place k.within (rw (high, eq-eqb (unit_at t k.place) v k.unit))
        ∙ sym (le-leb (t.commits + n) l.task (omega (arith, k.number, leb-true n k.place high)))
    | inr low ↦
        any_none (length t.units) (λ q. leb n q && (unit_at t q == v)) (λ q h. elim (cases_eq q k.place) [
          | inl e ↦ rw (e, low)
          | inr ne ↦ rw (ne_eqb (unit_at t q) v (λ z. ne (distinct q k.place h k.within (z ∙ sym k.unit)))) (right_false (leb n q))
        ])
        ∙ sym (lt-leb (t.commits + n) l.task (omega (arith, k.number, leb-false n k.place low)))
  ]
    where
      right_false : (x : Bool) → (x && false) ≡ false
      right_false true = refl
      right_false false = refl

  cut_line : (v b : ℕ) → cond (is_cut t.units n v && is_active (t.lines v b)) None (t.lines v b) ≡ line_after_squashing (t.commits + n) (t.lines v b)
  cut_line v b = go (t.lines v b) refl
    where
      go : (line : Option Line) → t.lines v b ≡ line → cond (is_cut t.units n v && is_active line) None line ≡ line_after_squashing (t.commits + n) line
      go None e = same (is_cut t.units n v && false)
        where
          same : (x : Bool) → cond {A = Option Line} x None None ≡ None
          same true = refl
          same false = refl
      go (Some l) e = elim (cases_Bool l.commit) [
        | inl set ↦ kept (is_cut t.units n v) (not l.commit) (leb (t.commits + n) l.task) (ap not set)
        | inr clear ↦ ap (λ x. cond (x && not l.commit) None (Some l)) (cut_is v l (own v b l e clear)) ∙ gone (leb (t.commits + n) l.task) (not l.commit)
      ]
        where
          kept : (x y z : Bool) → y ≡ false → cond (x && y) None (Some l) ≡ cond (y && z) None (Some l)
          kept x true z e = absurd (true≢false e)
          kept true false z e = refl
          kept false false z e = refl

          gone : (x y : Bool) → cond (x && y) None (Some l) ≡ cond (y && x) None (Some l)
          gone true true = refl
          gone true false = refl
          gone false true = refl
          gone false false = refl

  by_numbers : squash t n ≡ numbered_squash t n
  by_numbers = ap (λ (lines : ℕ → ℕ → Option Line). record t { lines = lines; units = take n t.units }) (λ i v b. cut_line v b i)

own_numbers : (t : LineTable) → IsSound t → (v b : ℕ) (l : Line) → t.lines v b ≡ Some l → l.commit ≡ false → IsOwn t v l
own_numbers t sound v b l e clear =
    let k = (sound.sound_lines v b l e).active clear in
    record { place = k.0; within = k.2.within; unit = k.1; number = k.2.task_is }

-- in a sound table
pub squash_line : (t : LineTable) (n : ℕ) → IsSound t → (v b : ℕ) → (squash t n).lines v b ≡ line_after_squashing (t.commits + n) (t.lines v b)
squash_line t n sound v b = cut_line t n sound.distinct_units (own_numbers t sound) v b

pub squash_is : (t : LineTable) (n : ℕ) → IsSound t → squash t n ≡ numbered_squash t n
squash_is t n sound = by_numbers t n sound.distinct_units (own_numbers t sound)

-- and in one where a line was just written
pub write_is : (t : LineTable) (p a w : ℕ) → IsSound t → p < length t.units → write t p a w ≡ numbered_write t p a w
write_is t p a w sound within = by_numbers (store t p a w) (survivors t p a) sound.distinct_units own
  where
    own : (v b : ℕ) (l : Line) → (store t p a w).lines v b ≡ Some l → l.commit ≡ false → IsOwn (store t p a w) v l
    own v b l e clear = elim (changed t.lines (unit_at t p) a (Some (written_line t p a w)) (λ line. line_after_marking (t.commits + p) (line_after_purging line)) v b) [
      | OtherWord ne is ↦ let k = own_numbers t sound v b l (sym is ∙ e) clear in record { place = k.place; within = k.within; unit = k.unit; number = k.number }
      | SameLine here same is ↦ record { place = p; within = within; unit = sym same; number = sym (ap (λ (k : Line). k.task) (some_line _ _ (sym is ∙ e))) }
      | OtherUnit here ne is ↦
          let m = marked_was _ _ l (sym is ∙ e) in
          let k = own_numbers t sound v b m.0 (purged_was (t.lines v b) m.0 m.1) (ap (λ (j : Line). j.commit) m.2 ∙ clear) in
          record { place = k.place; within = k.within; unit = k.unit; number = sym (ap (λ (j : Line). j.task) m.2) ∙ k.number }
    ]

-- the place of a unit's task
pub place_is : (t : LineTable) (n : ℕ) → IsSound t → n < length t.units → place_of t.units (unit_at t n) ≡ Some n
place_is t n sound within = least_found (length t.units) (λ q. unit_at t q == unit_at t n) n (record {
  within = within;
  passes = eq-eqb (unit_at t n) (unit_at t n) refl;
  before = λ q h. ne_eqb (unit_at t q) (unit_at t n) (λ e. absurd (omega (arith, h, sound.distinct_units q n (omega (arith, h, within)) within e)));
})

pub squash_from_is : (t : LineTable) (n : ℕ) → IsSound t → n < length t.units → squash_from t (unit_at t n) ≡ squash t n
squash_from_is t n sound within = ap (λ o. squash t (unwrap_or o (length t.units))) (place_is t n sound within)
