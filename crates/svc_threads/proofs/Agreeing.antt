-- Comparing a unit's slips with the history, entry by entry.
use Rattle.std.proofs.Common.{◌≡◌, ◌≢◌, ℕ, zero, suc, ◌+◌, ◌<◌, ◌≤◌, ◌==◌, Bool, true, false, cond, Global, List, [], ◌∷◌, map, length, drop, get_or, set, refl, sym, ap, subst, ◌∙◌, arith, add-one, length-drop}
use Rattle.std.specs.Prelude.{Vec}
use Rattle.std.proofs.lemmas.Bool.Decides.{nat_tests}
use Rattle.std.proofs.lemmas.List.{drop_all, get_or-map, get_or-set_same, get_or-set_other}
use Rattle.std.proofs.Math.Seq.{drop-cons}
use Rattle.svc_history_laws.specs.declared.entry.Entry.{Entry}
use Rattle.svc_history_laws.specs.declared.entry.Slip.{Slip}
use Rattle.svc_threads.specs.Outcomes.{Left, AgreesTo, AllAgreeTo, lists_from, slip_at, slips_from, slips_of}

-- the slips agree exactly where what is left does
abbrev pub Hangs : ℕ → ℕ → List Entry → ℕ → List Slip → Type 0
Hangs unit index entries next slips = ((slips ≡ slips_of unit entries) → Left unit index entries next slips) × (Left unit index entries next slips → (slips ≡ slips_of unit entries))

hangs_first : (unit : ℕ) (entries : List Entry) (slips : List Slip) → Hangs unit 0 entries 0 slips
hangs_first unit entries slips = (λ e. e, λ e. e)

skip : (unit i : ℕ) (e : Entry) (es : List Entry) → e.unit.0 ≢ unit → slips_from i unit (e ∷ es) ≡ slips_from (suc i) unit es
skip unit i e es other = go (e.unit.0 == unit) refl
  where
    go : (b : Bool) → (e.unit.0 == unit) ≡ b → cond b (slip_at i e ∷ slips_from (suc i) unit es) (slips_from (suc i) unit es) ≡ slips_from (suc i) unit es
    go true h = absurd (grind (arith, nat_tests))
    go false h = refl

take_one : (unit i : ℕ) (e : Entry) (es : List Entry) → e.unit.0 ≡ unit → slips_from i unit (e ∷ es) ≡ slip_at i e ∷ slips_from (suc i) unit es
take_one unit i e es own = go (e.unit.0 == unit) refl
  where
    go : (b : Bool) → (e.unit.0 == unit) ≡ b → cond b (slip_at i e ∷ slips_from (suc i) unit es) (slips_from (suc i) unit es) ≡ slip_at i e ∷ slips_from (suc i) unit es
    go true h = refl
    go false h = absurd (grind (arith, nat_tests))

-- the rest of the history at an entry of another unit, and at one of this
rest_skips : (unit i : ℕ) (entries : List Entry) (d : Entry) → i < length entries → (get_or entries i d).unit.0 ≢ unit
    → slips_from i unit (drop i entries) ≡ slips_from (i + 1) unit (drop (i + 1) entries)
rest_skips unit i entries d inside other =
    rw (add-one, drop-cons entries i d inside) (skip unit i (get_or entries i d) (drop (suc i) entries) other)

rest_takes : (unit i : ℕ) (entries : List Entry) (d : Entry) → i < length entries → (get_or entries i d).unit.0 ≡ unit
    → slips_from i unit (drop i entries) ≡ slip_at i (get_or entries i d) ∷ slips_from (i + 1) unit (drop (i + 1) entries)
rest_takes unit i entries d inside own =
    rw (add-one, drop-cons entries i d inside) (take_one unit i (get_or entries i d) (drop (suc i) entries) own)

hangs_skip : (unit i : ℕ) (entries : List Entry) (next : ℕ) (slips : List Slip) (d : Entry) → Hangs unit i entries next slips → i < length entries → (get_or entries i d).unit.0 ≢ unit → Hangs unit (i + 1) entries next slips
hangs_skip unit i entries next slips d h inside other =
    let same = rest_skips unit i entries d inside other in (λ e. h.0 e ∙ same, λ l. h.1 (l ∙ sym same))

hangs_take : (unit i : ℕ) (entries : List Entry) (next : ℕ) (slips : List Slip) (d : Entry) (s : Slip) → Hangs unit i entries next slips → i < length entries → (get_or entries i d).unit.0 ≡ unit
    → next < length slips → get_or slips next s ≡ slip_at i (get_or entries i d) → Hangs unit (i + 1) entries (next + 1) slips
hangs_take unit i entries next slips d s h inside own room same =
    let now = rest_takes unit i entries d inside own in
    let front : drop next slips ≡ get_or slips next s ∷ drop (next + 1) slips = rw add-one (drop-cons slips next s room) in (
      (λ e. let all : get_or slips next s ∷ drop (next + 1) slips ≡ slip_at i (get_or entries i d) ∷ slips_from (i + 1) unit (drop (i + 1) entries) = sym front ∙ (h.0 e ∙ now) in cc (all)),
      (λ l. h.1 (front ∙ (λ j. same j ∷ l j) ∙ sym now)),
    )

-- no list agrees that has too few slips, or another one
hangs_short : (unit i : ℕ) (entries : List Entry) (next : ℕ) (slips : List Slip) (d : Entry) → Hangs unit i entries next slips → i < length entries → (get_or entries i d).unit.0 ≡ unit
    → length slips ≤ next → slips ≡ slips_of unit entries → ⊥
hangs_short unit i entries next slips d h inside own short e =
    let none : drop next slips ≡ [] = drop_all next slips short in cc (none, h.0 e, rest_takes unit i entries d inside own)

hangs_other : (unit i : ℕ) (entries : List Entry) (next : ℕ) (slips : List Slip) (d : Entry) (s : Slip) → Hangs unit i entries next slips → i < length entries → (get_or entries i d).unit.0 ≡ unit
    → next < length slips → (get_or slips next s ≡ slip_at i (get_or entries i d) → ⊥) → slips ≡ slips_of unit entries → ⊥
hangs_other unit i entries next slips d s h inside own room differs e =
    let front : drop next slips ≡ get_or slips next s ∷ drop (next + 1) slips = rw add-one (drop-cons slips next s room) in
    let all : get_or slips next s ∷ drop (next + 1) slips ≡ slip_at i (get_or entries i d) ∷ slips_from (i + 1) unit (drop (i + 1) entries) = sym front ∙ (h.0 e ∙ rest_takes unit i entries d inside own) in
    differs (cc (all))

-- at the end the slips agree exactly where none is left
hangs_last : (unit i : ℕ) (entries : List Entry) (next : ℕ) (slips : List Slip) → Hangs unit i entries next slips → length entries ≤ i → next ≤ length slips
    → ((length slips ≤ next) → slips ≡ slips_of unit entries) × (slips ≡ slips_of unit entries → length slips ≤ next)
hangs_last unit i entries next slips h past within =
    let done : drop i entries ≡ [] = drop_all i entries past in
    let nothing : slips_from i unit (drop i entries) ≡ [] = ap (λ (es : List Entry). slips_from i unit es) done in (
      (λ le. h.1 (drop_all next slips le ∙ sym nothing)),
      (λ e. omega (arith, simp length-drop at (ap length (h.0 e ∙ nothing)))),
    )

abbrev pub items_of : Vec Slip Global → List Slip
items_of v = v.items

-- the unit's list is the slice that was compared
pub listed : (lists : List (Vec Slip Global)) (unit : ℕ) (v : Vec Slip Global) (slice : List Slip) → unit < length lists → v ≡ get_or lists unit v → slice ≡ v.items → get_or (map items_of lists) unit [] ≡ slice
listed lists unit v slice inside is value = get_or-map items_of lists unit v [] inside ∙ (ap items_of (sym is) ∙ sym value)

-- ---- all lists at once

agrees_first : (unit : ℕ) (entries : List Entry) (next : ℕ) (slips : List Slip) → next ≡ 0 → AgreesTo unit 0 entries next slips
agrees_first unit entries next slips e =
    subst (λ (n : ℕ). AgreesTo unit 0 entries n slips) (sym e) record { within = omega arith; hangs = hangs_first unit entries slips }

pub all_first : (entries : List Entry) (ends : List ℕ) (lists : List (List Slip)) → ((unit : ℕ) → get_or ends unit 0 ≡ 0) → AllAgreeTo 0 entries ends lists
all_first entries ends lists zeros unit inside = agrees_first unit entries (get_or ends unit 0) (get_or lists unit []) (zeros unit)

agrees_skip : (unit i : ℕ) (entries : List Entry) (next : ℕ) (slips : List Slip) (d : Entry) → AgreesTo unit i entries next slips → i < length entries → (get_or entries i d).unit.0 ≢ unit → AgreesTo unit (i + 1) entries next slips
agrees_skip unit i entries next slips d h inside other = record { within = h.within; hangs = hangs_skip unit i entries next slips d h.hangs inside other }

-- an entry of no list
pub all_skip : (i : ℕ) (entries : List Entry) (ends : List ℕ) (lists : List (List Slip)) (d : Entry) → AllAgreeTo i entries ends lists → i < length entries → length lists ≤ (get_or entries i d).unit.0 → AllAgreeTo (i + 1) entries ends lists
all_skip i entries ends lists d h inside none unit listed =
    agrees_skip unit i entries (get_or ends unit 0) (get_or lists unit []) d (h unit listed) inside (λ e. omega (arith, e))

-- an entry that stands at its place in its unit's list
pub all_take : (i unit : ℕ) (entries : List Entry) (ends : List ℕ) (lists : List (List Slip)) (d : Entry) (s : Slip) → AllAgreeTo i entries ends lists → i < length entries → (get_or entries i d).unit.0 ≡ unit
    → unit < length lists → unit < length ends → get_or ends unit 0 < length (get_or lists unit []) → get_or (get_or lists unit []) (get_or ends unit 0) s ≡ slip_at i (get_or entries i d)
    → AllAgreeTo (i + 1) entries (set ends unit (get_or ends unit 0 + 1)) lists
all_take i unit entries ends lists d s h inside own listed counted room same other there = go (other == unit) refl
  where
    go : (b : Bool) → (other == unit) ≡ b → AgreesTo other (i + 1) entries (get_or (set ends unit (get_or ends unit 0 + 1)) other 0) (get_or lists other [])
    go true e =
        let is : unit ≡ other = grind (arith, nat_tests) in
        subst (λ (u : ℕ). AgreesTo u (i + 1) entries (get_or (set ends unit (get_or ends unit 0 + 1)) u 0) (get_or lists u [])) is
        (subst (λ (n : ℕ). AgreesTo unit (i + 1) entries n (get_or lists unit [])) (sym (get_or-set_same ends unit (get_or ends unit 0 + 1) 0 counted)) record {
          within = omega (arith, room);
          hangs = hangs_take unit i entries (get_or ends unit 0) (get_or lists unit []) d s (h unit listed).hangs inside own room same;
        })
    go false e =
        let differs : other ≢ unit = grind (arith, nat_tests) in
        subst (λ (n : ℕ). AgreesTo other (i + 1) entries n (get_or lists other [])) (sym (get_or-set_other ends unit other (get_or ends unit 0 + 1) 0 differs))
        (agrees_skip other i entries (get_or ends other 0) (get_or lists other []) d (h other there) inside (λ e. differs (sym e ∙ own)))

-- the list of one unit
lists_at : (k u n : ℕ) (entries : List Entry) → u < n → get_or (lists_from k n entries) u [] ≡ slips_of (k + u) entries
lists_at k u zero entries inside = absurd (omega arith)
lists_at k zero (suc n) entries inside = let same : k ≡ k + 0 = omega arith in ap (λ (v : ℕ). slips_of v entries) same
lists_at k (suc u) (suc n) entries inside =
    let same : suc k + u ≡ k + suc u = omega arith in
    lists_at (suc k) u n entries (omega arith) ∙ ap (λ (v : ℕ). slips_of v entries) same

pub list_of : (unit n : ℕ) (entries : List Entry) (lists : List (List Slip)) → unit < n → lists ≡ lists_from 0 n entries → get_or lists unit [] ≡ slips_of unit entries
list_of unit n entries lists inside e =
    let same : 0 + unit ≡ unit = omega arith in
    ap (λ (ls : List (List Slip)). get_or ls unit []) e ∙ (lists_at 0 unit n entries inside ∙ ap (λ (u : ℕ). slips_of u entries) same)

-- whoever has a list that is too short, or has another slip, has not the lists of the history
pub all_short : (i unit n : ℕ) (entries : List Entry) (ends : List ℕ) (lists : List (List Slip)) (d : Entry) → AllAgreeTo i entries ends lists → i < length entries → (get_or entries i d).unit.0 ≡ unit
    → unit < length lists → unit < n → length (get_or lists unit []) ≤ get_or ends unit 0 → lists ≡ lists_from 0 n entries → ⊥
all_short i unit n entries ends lists d h inside own listed one short e =
    hangs_short unit i entries (get_or ends unit 0) (get_or lists unit []) d (h unit listed).hangs inside own short (list_of unit n entries lists one e)

pub all_other : (i unit n : ℕ) (entries : List Entry) (ends : List ℕ) (lists : List (List Slip)) (d : Entry) (s : Slip) → AllAgreeTo i entries ends lists → i < length entries → (get_or entries i d).unit.0 ≡ unit
    → unit < length lists → unit < n → get_or ends unit 0 < length (get_or lists unit []) → (get_or (get_or lists unit []) (get_or ends unit 0) s ≡ slip_at i (get_or entries i d) → ⊥) → lists ≡ lists_from 0 n entries → ⊥
all_other i unit n entries ends lists d s h inside own listed one room differs e =
    hangs_other unit i entries (get_or ends unit 0) (get_or lists unit []) d s (h unit listed).hangs inside own room differs (list_of unit n entries lists one e)

-- a list agrees that has no slip more, and no other one
pub whole : (unit : ℕ) (entries : List Entry) (next : ℕ) (slips : List Slip) → AgreesTo unit (length entries) entries next slips → next ≡ length slips → slips ≡ slips_of unit entries
whole unit entries next slips h all = (hangs_last unit (length entries) entries next slips h.hangs (omega arith) h.within).0 (omega (arith, all))

pub not_whole : (unit : ℕ) (entries : List Entry) (next : ℕ) (slips : List Slip) → AgreesTo unit (length entries) entries next slips → next ≢ length slips → slips ≡ slips_of unit entries → ⊥
not_whole unit entries next slips h more e =
    let le : length slips ≤ next = (hangs_last unit (length entries) entries next slips h.hangs (omega arith) h.within).1 e in more (omega (arith, le, h.within))

-- ---- the lists of all units

pub lists_length : (unit n : ℕ) (entries : List Entry) → length (lists_from unit n entries) ≡ n
lists_length unit zero entries = omega arith
lists_length unit (suc n) entries = let rest = lists_length (suc unit) n entries in omega (arith, rest)

-- the lists of the units from one on are those that the history gives
abbrev pub LeftLists : ℕ → ℕ → List Entry → List (List Slip) → Type 0
LeftLists unit n entries lists = drop unit lists ≡ lists_from unit n entries

abbrev pub HangsLists : ℕ → ℕ → ℕ → List Entry → List (List Slip) → Type 0
HangsLists unit n units entries lists = ((lists ≡ lists_from 0 units entries) → LeftLists unit n entries lists) × (LeftLists unit n entries lists → (lists ≡ lists_from 0 units entries))

pub lists_first : (units : ℕ) (entries : List Entry) (lists : List (List Slip)) → HangsLists 0 units units entries lists
lists_first units entries lists = (λ e. e, λ e. e)

-- one list agrees, and the rest decides
pub lists_next : (unit n units : ℕ) (entries : List Entry) (lists : List (List Slip)) → HangsLists unit (suc n) units entries lists → unit < length lists → get_or lists unit [] ≡ slips_of unit entries → HangsLists (unit + 1) n units entries lists
lists_next unit n units entries lists h inside same =
    let front : drop unit lists ≡ get_or lists unit [] ∷ drop (unit + 1) lists = rw add-one (drop-cons lists unit [] inside) in
    let up : suc unit ≡ unit + 1 = omega arith in
    let more : lists_from unit (suc n) entries ≡ slips_of unit entries ∷ lists_from (unit + 1) n entries = ap (λ (k : ℕ). slips_of unit entries ∷ lists_from k n entries) up in (
      (λ e. let all : get_or lists unit [] ∷ drop (unit + 1) lists ≡ slips_of unit entries ∷ lists_from (unit + 1) n entries = sym front ∙ (h.0 e ∙ more) in cc (all)),
      (λ l. h.1 (front ∙ ((λ j. same j ∷ l j) ∙ sym more))),
    )

-- one list does not agree, so they do not
pub lists_differ : (unit n units : ℕ) (entries : List Entry) (lists : List (List Slip)) → HangsLists unit (suc n) units entries lists → unit < length lists → (get_or lists unit [] ≡ slips_of unit entries → ⊥) → lists ≡ lists_from 0 units entries → ⊥
lists_differ unit n units entries lists h inside other e =
    let front : drop unit lists ≡ get_or lists unit [] ∷ drop (unit + 1) lists = rw add-one (drop-cons lists unit [] inside) in
    let all : get_or lists unit [] ∷ drop (unit + 1) lists ≡ slips_of unit entries ∷ lists_from (suc unit) n entries = sym front ∙ h.0 e in other (cc (all))

pub lists_last : (unit units : ℕ) (entries : List Entry) (lists : List (List Slip)) → HangsLists unit 0 units entries lists → length lists ≤ unit → lists ≡ lists_from 0 units entries
lists_last unit units entries lists h past = h.1 (drop_all unit lists past)
