-- Marks of the words that entries name, one entry more.
use Rattle.std.proofs.Common.{◌≡◌, ◌∙◌, ◌+◌, ◌<◌, ◌≤◌, ◌==◌, ◌⊎◌, inl, inr, ℕ, List, [], Bool, true, false, cond, Option, Some, None, length, get_or, take, set, refl, ap, sym, subst, arith, ne_eqb}
use Rattle.std.specs.Prelude.{◌&&◌, ◌||◌, replicate, slice_get}
use Rattle.std.specs.List.{list_any}
use Rattle.std.proofs.lemmas.Bool.{cases_eq, eqb-true}
use Rattle.std.proofs.lemmas.List.{get_or-set_same, get_or-set_other, length-set, take_all}
use Rattle.std.proofs.lemmas.List.Folds.{list_any_more}
use Rattle.std.proofs.lemmas.Option.{get_or_from_slice_get, none-some, slice_get-get_or}
use Rattle.svc_base.specs.declared.ids.UnitId.{UnitId}
use Rattle.svc_base.specs.declared.ids.WordAddr.{WordAddr}
use Rattle.svc_history_laws.specs.declared.entry.Entry.{Entry}
use Rattle.svc_history_laws.specs.declared.entry.Kind.TheVariants.{Assign}
use Rattle.svc_history_laws.specs.declared.entry.ReplyKind.TheVariants.{Assigned}
use Rattle.svc_held.specs.declared.named.Namers.{Namers}
use Rattle.svc_held.specs.declared.named.Namers.TheVariants.{Nobody, One, Several}
use Rattle.svc_held.specs.Named.{IsMarked, and_unit, is_word, marked, marked_by, marked_over, may_have, names}

and_false : (x y : Bool) → y ≡ false → (x && y) ≡ false
and_false true y h = h
and_false false y h = refl

false_and : (x y : Bool) → x ≡ false → (x && y) ≡ false
false_and true y h = cc
false_and false y h = refl

-- whoever isn't among them and one more was not among them, and isn't the one
and_told : (m : Namers) (unit : UnitId) (u : ℕ) → may_have u (and_unit m unit) ≡ false → (may_have u m ≡ false) × ((u == unit.0) ≡ false)
and_told Nobody unit u h = (refl, h)
and_told Several unit u h = absurd (cc)
and_told (One one) unit u h = by (one.0 == unit.0) refl h
  where
    by : (b : Bool) → (one.0 == unit.0) ≡ b → may_have u (cond b (One one) Several) ≡ false → ((u == one.0) ≡ false) × ((u == unit.0) ≡ false)
    by true e k = (k, subst (λ (x : ℕ). (u == x) ≡ false) (eqb-true one.0 unit.0 e) k)
    by false e k = absurd (cc)

over_size : (o : Option Namers) (at : ℕ) (unit : UnitId) (marks : List Namers) → length (marked_over o at unit marks) ≡ length marks
over_size None at unit marks = refl
over_size (Some m) at unit marks = length-set marks at (and_unit m unit)

by_size : (a : Option WordAddr) (unit : UnitId) (marks : List Namers) → length (marked_by a unit marks) ≡ length marks
by_size None unit marks = refl
by_size (Some a) unit marks = over_size (slice_get marks a.0) a.0 unit marks

-- what the marks tell after an entry of the unit with this address: it was told before, and the entry doesn't name the word
abbrev Was : List Namers → Option WordAddr → UnitId → (u w : ℕ) → Type 0
Was marks a unit u w = (may_have u (get_or marks w Nobody) ≡ false) × (((u == unit.0) && is_word w a) ≡ false)

over_told : (a : WordAddr) (unit : UnitId) (marks : List Namers) (u w : ℕ) → w < length marks → (o : Option Namers) → slice_get marks a.0 ≡ o
    → may_have u (get_or (marked_over o a.0 unit marks) w Nobody) ≡ false → Was marks (Some a) unit u w
over_told a unit marks u w inside None e h = by (cases_eq w a.0)
  where
    by : (w ≡ a.0) ⊎ (w ≡ a.0 → ⊥) → Was marks (Some a) unit u w
    by (inl same) =
        let there : slice_get marks w ≡ Some (get_or marks w Nobody) = slice_get-get_or marks w Nobody inside in
        absurd (none-some (get_or marks w Nobody) (sym e ∙ ap (slice_get marks) (sym same) ∙ there))
    by (inr ne) = (h, and_false (u == unit.0) (w == a.0) (ne_eqb w a.0 ne))
over_told a unit marks u w inside (Some m) e h = by (cases_eq w a.0)
  where
    by : (w ≡ a.0) ⊎ (w ≡ a.0 → ⊥) → Was marks (Some a) unit u w
    by (inl same) =
        let long : a.0 < length marks = subst (λ (k : ℕ). k < length marks) same inside in
        let now : get_or (set marks a.0 (and_unit m unit)) w Nobody ≡ and_unit m unit =
        ap (λ (k : ℕ). get_or (set marks a.0 (and_unit m unit)) k Nobody) same ∙ get_or-set_same marks a.0 (and_unit m unit) Nobody long in
        let both = and_told m unit u (ap (may_have u) (sym now) ∙ h) in
        let was : get_or marks w Nobody ≡ m = ap (λ (k : ℕ). get_or marks k Nobody) same ∙ get_or_from_slice_get marks a.0 m Nobody e in
        (ap (may_have u) was ∙ both.0, false_and (u == unit.0) (w == a.0) both.1)
    by (inr ne) =
        let now : get_or (set marks a.0 (and_unit m unit)) w Nobody ≡ get_or marks w Nobody = get_or-set_other marks a.0 w (and_unit m unit) Nobody ne in
        (ap (may_have u) (sym now) ∙ h, and_false (u == unit.0) (w == a.0) (ne_eqb w a.0 ne))

by_told : (a : Option WordAddr) (unit : UnitId) (marks : List Namers) (u w : ℕ) → w < length marks
    → may_have u (get_or (marked_by a unit marks) w Nobody) ≡ false → Was marks a unit u w
by_told None unit marks u w inside h = (h, and_false (u == unit.0) false refl)
by_told (Some a) unit marks u w inside h = over_told a unit marks u w inside (slice_get marks a.0) refl h

-- what a list of entries shows past its end
abbrev pub nothing : Entry
nothing = record { kind = Assign; unit = record { 0 = 0 }; arg = None; local = None; ask = None; reply = Assigned; addr = None; word = None; served = None; from = None; cause = None; first = None; squashed = None }

pub none_marked : (words : ℕ) (marks : List Namers) → marks ≡ replicate words Nobody → length marks ≡ words → IsMarked [] words marks
none_marked words marks none size = record { size = size; told = λ u w inside h. refl }

both_miss : (x y : Bool) → x ≡ false → y ≡ false → (x || y) ≡ false
both_miss true y h k = cc
both_miss false y h k = k

pub one_marked : (es : List Entry) (words : ℕ) (marks : List Namers) (i : ℕ) (d : Entry) → i < length es → IsMarked (take i es) words marks
    → IsMarked (take (i + 1) es) words (marked (get_or es i d) marks)
one_marked es words marks i d within is =
    let e = get_or es i d in
    record {
      size = by_size e.addr e.unit marks ∙ is.size;
      told = λ u w inside h.
          let was = by_told e.addr e.unit marks u w (let s = is.size in omega (arith, s, inside)) h in
          list_any_more (names u w) es i d within ∙ both_miss (list_any (names u w) (take i es)) (names u w e) (is.told u w inside was.0) was.1;
    }

pub all_marked : (es : List Entry) (words : ℕ) (marks : List Namers) (i : ℕ) → length es ≤ i → IsMarked (take i es) words marks → IsMarked es words marks
all_marked es words marks i end is = subst (λ (xs : List Entry). IsMarked xs words marks) (take_all i es end) is
