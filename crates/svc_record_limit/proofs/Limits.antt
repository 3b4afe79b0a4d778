-- A reader of limited records gives what is readable of its text.
use Rattle.std.proofs.Common.{◌≡◌, ◌∷◌, ◌+◌, ◌∙◌, ◌==◌, [], ℕ, List, Option, Some, None, Bool, true, false, refl, sym, ap, subst, inl, inr}
use Rattle.std.specs.Prelude.{◌||◌, nat_lt, if◌then◌else◌, option_map}
use Rattle.std.proofs.lemmas.Bool.{cases_Bool, eqb-true}
use Rattle.csv.specs.Machine.{start_record, step}
use Rattle.csv.specs.Reading.{default_config, strip_bom}
use Rattle.csv.specs.declared.parser.State.{State}
use Rattle.csv.specs.declared.parser.State.TheVariants as st
use Rattle.csv.specs.declared.parser.Action.{Action}
use Rattle.csv.specs.declared.parser.Action.TheVariants as act
use Rattle.svc_record_limit.specs.Limit.{is_between, most_bytes, readable, readable_from}
use Rattle.svc_record_limit.specs.Places.{gauge_after, is_outside, passed, passed_from, place_after, start_after}
use Rattle.svc_record_limit.specs.declared.gauge.Gauge.{Gauge}
use Rattle.svc_record_limit.specs.declared.place.Place.{Place}
use Rattle.svc_record_limit.specs.declared.place.Place.TheVariants as place

-- the place of a state of `csv`
abbrev pub place_of : State → Place
place_of st.StartRecord = place.Between
place_of st.AfterCr = place.Between
place_of st.StartField = place.Field
place_of st.InField = place.Plain
place_of st.InQuoted = place.Quoted
place_of st.AfterQuote = place.Quote
place_of st.InEscape = place.Quoted
place_of st.InComment = place.Between

-- a state in which the usual settings may be
abbrev pub IsUsual : State → Type 0
IsUsual st.InEscape = ⊥
IsUsual st.InComment = ⊥
IsUsual _ = Unit {0}

-- a byte leads to the place of the next state
abbrev Leads : Place → State → Type 0
Leads p s = (p ≡ place_of s) × IsUsual s

-- the steps of `csv`, by which bytes a byte is
abbrev pub plain_step : Bool → Bool → Bool → State × Action
plain_step c r l = if c then (st.StartField, act.EndField) else if r || l then (if r then st.AfterCr else st.StartRecord, act.EndRecord) else (st.InField, act.Copy)

abbrev pub start_step : Bool → Bool → Bool → Bool → State × Action
start_step q c r l = if q then (st.InQuoted, act.Skip) else plain_step c r l

abbrev pub quote_step : Bool → Bool → Bool → Bool → State × Action
quote_step q c r l = if q then (st.InQuoted, act.Copy) else plain_step c r l

abbrev pub quoted_step : Bool → State × Action
quoted_step q = if q then (st.AfterQuote, act.Skip) else (st.InQuoted, act.Copy)

abbrev ends_step : Bool → Bool → State × Action
ends_step r l = if r || l then (st.StartRecord, act.Skip) else plain_step false r l

plain_leads : (c r l : Bool) → Leads (if c then place.Field else if r || l then place.Between else place.Plain)
    (plain_step c r l).0
plain_leads true r l = (refl, tt)
plain_leads false true l = (refl, tt)
plain_leads false false true = (refl, tt)
plain_leads false false false = (refl, tt)

start_leads : (q c r l : Bool) → Leads (if q then place.Quoted else if c then place.Field else if r || l then place.Between else place.Plain)
    (start_step q c r l).0
start_leads true c r l = (refl, tt)
start_leads false c r l = plain_leads c r l

quote_leads : (q c r l : Bool) → Leads (if q then place.Quoted else if c then place.Field else if r || l then place.Between else place.Plain)
    (quote_step q c r l).0
quote_leads true c r l = (refl, tt)
quote_leads false c r l = plain_leads c r l

quoted_leads : (q : Bool) → Leads (if q then place.Quote else place.Quoted) (quoted_step q).0
quoted_leads true = (refl, tt)
quoted_leads false = (refl, tt)

ends_lead : (r l : Bool) → Leads (if r || l then place.Between else place.Plain)
    (ends_step r l).0
ends_lead true l = (refl, tt)
ends_lead false true = (refl, tt)
ends_lead false false = (refl, tt)

record_leads : (b : ℕ) → Leads (start_after b) (start_record default_config b).0
record_leads b = elim (cases_Bool (b == 34)) [
  | inl q ↦ subst (λ (z : ℕ). Leads (start_after z) (start_record default_config z).0) (sym (eqb-true b 34 q)) (refl, tt)
  | inr q ↦ elim (cases_Bool (b == 44)) [
    | inl c ↦ subst (λ (z : ℕ). Leads (start_after z) (start_record default_config z).0) (sym (eqb-true b 44 c)) (refl, tt)
    | inr c ↦ rw (q, c) (ends_lead (b == 13) (b == 10))
  ]
]

return_leads : (b : ℕ) → Leads (start_after b) (step default_config st.AfterCr b).0
return_leads b = elim (cases_Bool (b == 10)) [
  | inl e ↦ subst (λ (z : ℕ). Leads (start_after z) (step default_config st.AfterCr z).0) (sym (eqb-true b 10 e)) (refl, tt)
  | inr e ↦ let other : step default_config st.AfterCr b ≡ start_record default_config b = rw e refl in rw other (record_leads b)
]

pub leads : (s : State) (b : ℕ) → IsUsual s → Leads (place_after (place_of s) b) (step default_config s b).0
leads st.StartRecord b u = record_leads b
leads st.AfterCr b u = return_leads b
leads st.StartField b u = start_leads (b == 34) (b == 44) (b == 13) (b == 10)
leads st.InField b u = plain_leads (b == 44) (b == 13) (b == 10)
leads st.InQuoted b u = quoted_leads (b == 34)
leads st.AfterQuote b u = quote_leads (b == 34) (b == 44) (b == 13) (b == 10)
leads st.InEscape b u = absurd u
leads st.InComment b u = absurd u

outside_same : (s : State) → IsUsual s → is_outside (place_of s) ≡ is_between s
outside_same st.StartRecord u = refl
outside_same st.AfterCr u = refl
outside_same st.StartField u = refl
outside_same st.InField u = refl
outside_same st.InQuoted u = refl
outside_same st.AfterQuote u = refl
outside_same st.InEscape u = absurd u
outside_same st.InComment u = absurd u

-- what is passed from a state's place is what is readable from the state
pub passed_same : (s : State) (n : ℕ) (xs : List ℕ) → IsUsual s → passed_from (place_of s) n xs ≡ readable_from s n xs
unfolding passed_from readable_from
passed_same s n [] u = refl
passed_same s n (b ∷ rest) u =
    let to = leads s b u in
    rw (to.0, outside_same (step default_config s b).0 to.1, passed_same (step default_config s b).0 0 rest to.1, passed_same (step default_config s b).0 (n + 1) rest to.1) refl

-- a record's first byte is passed on
first_passed : (p : Place) (n : ℕ) (b : ℕ) (rest : List ℕ) → nat_lt n most_bytes ≡ true → (ys : List ℕ) × (passed_from p n (b ∷ rest) ≡ b ∷ ys)
unfolding passed_from
first_passed p n b rest low = elim (cases_Bool (is_outside (place_after p b))) [
  | inl e ↦ (passed_from (place_after p b) 0 rest, rw e refl)
  | inr e ↦ (passed_from (place_after p b) (n + 1) rest, rw (e, low) refl)
]

-- two places from which a byte leads to the same place
same_after : (p q : Place) (n b : ℕ) (rest : List ℕ) → place_after p b ≡ place_after q b → passed_from p n (b ∷ rest) ≡ passed_from q n (b ∷ rest)
unfolding passed_from
same_after p q n b rest e = rw e refl

strip_first : (a : ℕ) (xs : List ℕ) → (a == 239) ≡ false → strip_bom (a ∷ xs) ≡ a ∷ xs
unfolding strip_bom
strip_first a [] e = refl
strip_first a (b ∷ []) e = refl
strip_first a (b ∷ c ∷ rest) e = rw e refl

strip_second : (b : ℕ) (xs : List ℕ) → (b == 187) ≡ false → strip_bom (239 ∷ b ∷ xs) ≡ 239 ∷ b ∷ xs
unfolding strip_bom
strip_second b [] e = refl
strip_second b (c ∷ rest) e = rw e refl

strip_third : (c : ℕ) (xs : List ℕ) → (c == 191) ≡ false → strip_bom (239 ∷ 187 ∷ c ∷ xs) ≡ 239 ∷ 187 ∷ c ∷ xs
unfolding strip_bom
strip_third c xs e = rw e refl

first_other : (a : ℕ) (rest : List ℕ) → (a == 239) ≡ false → strip_bom (passed_from place.Front 0 (a ∷ rest)) ≡ passed_from place.Between 0 (strip_bom (a ∷ rest))
first_other a rest e =
    let same : place_after place.Front a ≡ place_after place.Between a = rw e refl in
    let (ys, kept) = first_passed place.Between 0 a rest refl in
    rw (strip_first a rest e, same_after place.Front place.Between 0 a rest same, kept) (strip_first a ys e)

second_other : (b : ℕ) (rest : List ℕ) → (b == 187) ≡ false → strip_bom (passed_from place.Front 0 (239 ∷ b ∷ rest)) ≡ passed_from place.Between 0 (strip_bom (239 ∷ b ∷ rest))
unfolding passed_from
second_other b rest e =
    let same : place_after place.MarkBegun b ≡ place_after place.Plain b = rw e refl in
    let (ys, kept) = first_passed place.Plain 1 b rest refl in
    let front : passed_from place.Front 0 (239 ∷ b ∷ rest) ≡ 239 ∷ b ∷ ys = ap (λ (t : List ℕ). 239 ∷ t) (same_after place.MarkBegun place.Plain 1 b rest same ∙ kept) in
    let back : passed_from place.Between 0 (239 ∷ b ∷ rest) ≡ 239 ∷ b ∷ ys = ap (λ (t : List ℕ). 239 ∷ t) kept in
    rw (strip_second b rest e, front, back) (strip_second b ys e)

third_other : (c : ℕ) (rest : List ℕ) → (c == 191) ≡ false → strip_bom (passed_from place.Front 0 (239 ∷ 187 ∷ c ∷ rest)) ≡ passed_from place.Between 0 (strip_bom (239 ∷ 187 ∷ c ∷ rest))
unfolding passed_from
third_other c rest e =
    let same : place_after place.MarkHalf c ≡ place_after place.Plain c = rw e refl in
    let (ys, kept) = first_passed place.Plain 2 c rest refl in
    let front : passed_from place.Front 0 (239 ∷ 187 ∷ c ∷ rest) ≡ 239 ∷ 187 ∷ c ∷ ys = ap (λ (t : List ℕ). 239 ∷ 187 ∷ t) (same_after place.MarkHalf place.Plain 2 c rest same ∙ kept) in
    let back : passed_from place.Between 0 (239 ∷ 187 ∷ c ∷ rest) ≡ 239 ∷ 187 ∷ c ∷ ys = ap (λ (t : List ℕ). 239 ∷ 187 ∷ t) kept in
    rw (strip_third c rest e, front, back) (strip_third c ys e)

marked : (rest : List ℕ) → strip_bom (passed_from place.Front 0 (239 ∷ 187 ∷ 191 ∷ rest)) ≡ passed_from place.Between 0 (strip_bom (239 ∷ 187 ∷ 191 ∷ rest))
unfolding passed_from strip_bom
marked rest = refl

short_one : strip_bom (passed_from place.Front 0 (239 ∷ [])) ≡ passed_from place.Between 0 (strip_bom (239 ∷ []))
unfolding passed_from strip_bom
short_one = refl

short_two : strip_bom (passed_from place.Front 0 (239 ∷ 187 ∷ [])) ≡ passed_from place.Between 0 (strip_bom (239 ∷ 187 ∷ []))
unfolding passed_from strip_bom
short_two = refl

abbrev Same : List ℕ → Type 0
Same text = strip_bom (passed_from place.Front 0 text) ≡ passed_from place.Between 0 (strip_bom text)

third : (rest : List ℕ) → Same (239 ∷ 187 ∷ rest)
third [] = short_two
third (c ∷ rest) = elim (cases_Bool (c == 191)) [
  | inl e ↦ subst (λ (z : ℕ). Same (239 ∷ 187 ∷ z ∷ rest)) (sym (eqb-true c 191 e)) (marked rest)
  | inr e ↦ third_other c rest e
]

second : (rest : List ℕ) → Same (239 ∷ rest)
second [] = short_one
second (b ∷ rest) = elim (cases_Bool (b == 187)) [
  | inl e ↦ subst (λ (z : ℕ). Same (239 ∷ z ∷ rest)) (sym (eqb-true b 187 e)) (third rest)
  | inr e ↦ second_other b rest e
]

front_same : (text : List ℕ) → Same text
unfolding passed_from strip_bom
front_same [] = refl
front_same (a ∷ rest) = elim (cases_Bool (a == 239)) [
  | inl e ↦ subst (λ (z : ℕ). Same (z ∷ rest)) (sym (eqb-true a 239 e)) (second rest)
  | inr e ↦ first_other a rest e
]

-- what `csv` reads through a reader of limited records is what is readable
pub passes_readable : (known : Option (List ℕ)) → option_map strip_bom (option_map (passed_from place.Front 0) known) ≡ option_map readable known
passes_readable None = refl
passes_readable (Some text) = ap Some (front_same text ∙ passed_same st.StartRecord 0 (strip_bom text) tt)

-- what a gauge makes of one more byte
pick_some : (o l : Bool) (a c h : Gauge) (b : ℕ) (xs : List ℕ) → (if o then Some a else if l then Some c else None) ≡ Some h
    → (if o then b ∷ passed (Some a) xs else if l then b ∷ passed (Some c) xs else []) ≡ b ∷ passed (Some h) xs
pick_some true l a c h b xs e = let same : a ≡ h = cc e in ap (λ (g : Gauge). b ∷ passed (Some g) xs) same
pick_some false true a c h b xs e = let same : c ≡ h = cc e in ap (λ (g : Gauge). b ∷ passed (Some g) xs) same
pick_some false false a c h b xs e = cc e

pick_none : (o l : Bool) (a c : Gauge) (b : ℕ) (xs : List ℕ) → (if o then Some a else if l then Some c else None) ≡ None
    → (if o then b ∷ passed (Some a) xs else if l then b ∷ passed (Some c) xs else []) ≡ []
pick_none true l a c b xs e = cc e
pick_none false true a c b xs e = cc e
pick_none false false a c b xs e = refl

pub gauge_some : (g h : Gauge) (b : ℕ) (xs : List ℕ) → gauge_after g b ≡ Some h → passed (Some g) (b ∷ xs) ≡ b ∷ passed (Some h) xs
unfolding passed_from
gauge_some g h b xs e = pick_some (is_outside (place_after g.place b)) (nat_lt g.size most_bytes) _ _ h b xs e

pub gauge_none : (g : Gauge) (b : ℕ) (xs : List ℕ) → gauge_after g b ≡ None → passed (Some g) (b ∷ xs) ≡ []
unfolding passed_from
gauge_none g b xs e = pick_none (is_outside (place_after g.place b)) (nat_lt g.size most_bytes) (record { place = place_after g.place b; size = 0 }) (record { place = place_after g.place b; size = g.size + 1 }) b xs e
