-- A branch or a jump is read back from its target's label, in the second pass; in the first one it leads nowhere yet.
use Rattle.std.proofs.Common.{◌≡◌, ℕ, suc, ◌+◌, ◌*◌, ◌-◌, ◌%◌, ◌^◌, ◌<◌, ◌≤◌, Bool, true, false, if◌then◌else◌, nat_lt, nat_le, List, ◌∷◌, ◌++◌, Option, Some, None, inl, inr, refl, ap, sym, ◌∙◌, arith}
use Rattle.std.proofs.lemmas.Bool.{le-leb, lt-leb, cases_lt, cases_Bool}
use Rattle.svc_expressions.specs.declared.signed.Signed.{Signed}
use Rattle.svc_layout.specs.Layouts.{Layout}
use Rattle.svc_layout.specs.Places.{here, place}
use Rattle.svc_layout.specs.Addresses.{address_of, known_spot}
use Rattle.svc_tokens.specs.Characters.{past_blanks, past, name_at, number_of, value_on, push_digit, digit, character_at}
use Rattle.svc_expressions.specs.Places.{reference_named, place_of}
use Rattle.svc_expressions.specs.Expressions.{plain_at, operand_at}
use Rattle.svc_expressions.specs.Expressions.{value_at}
use Rattle.svc_instructions.specs.Offsets.{reach, reach_at, offset_at, target_at}
use Rattle.svc_expressions.proofs.ExpressionSteps.{alone}
use Rattle.std.specs.Prelude.{option_map}
use Rattle.svc_layout.specs.declared.section.Spot.{Spot}
use Rattle.svc_tokens.specs.Tokens.{number_at}
use Rattle.svc_instructions.specs.Steps.{distance}
use Rattle.svc_instructions.specs.Steps.{steps_of}
use Rattle.svc_list.specs.Listings.{hex_text, label_text, step_target}
use Rattle.svc_list.proofs.NamesBack.{stops, Ends, at_name, at_rest}
use Rattle.svc_list.proofs.OperandsBack.{sign, halved_double, wrapped_low, wrapped_high}
use Rattle.svc_list.proofs.LabelsBack.{label_dense}

-- a label is no number, no character and no local label
label_no_number : (a : ℕ) (rest : List ℕ) → stops rest ≡ true → number_at (label_text a ++ rest) ≡ None
unfolding number_at number_of value_on push_digit digit character_at past_blanks
label_no_number a rest s =
    let name = at_name 97 (116 ∷ 95 ∷ hex_text a) rest (label_dense a) s in
    rw name refl

label_plain : (d : Layout) (a x : ℕ) (rest : List ℕ) → stops rest ≡ true → address_of d (label_text a) ≡ Some x → plain_at (Some d) (label_text a ++ rest) ≡ Some (x, rest)
unfolding plain_at place_of reference_named past
label_plain d a x rest s e =
    let name = at_name 97 (116 ∷ 95 ∷ hex_text a) rest (label_dense a) s in
    let behind = at_rest 97 (116 ∷ 95 ∷ hex_text a) rest (label_dense a) s in
    rw (label_no_number a rest s, name, behind, e) refl

label_operand : (d : Layout) (a x k : ℕ) (rest : List ℕ) → stops rest ≡ true → address_of d (label_text a) ≡ Some x → operand_at (Some d) (suc k) (32 ∷ (label_text a ++ rest)) ≡ Some (x, rest)
unfolding operand_at past_blanks
label_operand d a x k rest s e = label_plain d a x rest s e

some_is : (a b : ℕ) → Some a ≡ Some b → a ≡ b
some_is a b e = ap (λ (o : Option ℕ). elim o [ None ↦ a | Some x ↦ x ]) e

-- an address has 32 bits
placed_small : (d : Layout) (o : Option Spot) (x : ℕ) → option_map (place d) o ≡ Some x → x < 2 ^ 32
placed_small d None x e = absurd (cc)
placed_small d (Some s) x e = let is = some_is (place d s) x e in omega (arith, is)

address_small : (d : Layout) (name : List ℕ) (x : ℕ) → address_of d name ≡ Some x → x < 2 ^ 32
address_small d name x e =
    elim (cases_Bool d.known) [
      | inl known ↦ placed_small d (known_spot d name) x (ap (λ (b : Bool). if b then option_map (place d) (known_spot d name) else Some (here d)) (sym known) ∙ e)
      | inr first ↦ let is = some_is (here d) x (ap (λ (b : Bool). if b then option_map (place d) (known_spot d name) else Some (here d)) (sym first) ∙ e) in omega (arith, is)
    ]

-- a label's address, behind which the line ends
pub label_value : (d : Layout) (a x : ℕ) (rest tail : List ℕ) → Ends rest tail → address_of d (label_text a) ≡ Some x → value_at d (32 ∷ (label_text a ++ rest)) ≡ Some (x, rest)
unfolding value_at
label_value d a x rest tail ends e =
    let fits = address_small d (label_text a) x e in
    let small : x % 2 ^ 32 ≡ x = omega (arith, fits) in
    rw (alone (Some d) (32 ∷ (label_text a ++ rest)) rest x (label_operand d a x 31 rest ends.stop e) ends.no_sign, small) refl

label_name : (a : ℕ) (rest : List ℕ) → stops rest ≡ true → name_at (32 ∷ (label_text a ++ rest)) ≡ label_text a
unfolding past_blanks
label_name a rest s = at_name 97 (116 ∷ 95 ∷ hex_text a) rest (label_dense a) s

-- how far it is to a label
pub label_offset : (d : Layout) (target to : ℕ) (rest tail : List ℕ) → Ends rest tail → address_of d (label_text target) ≡ Some to → offset_at d (32 ∷ (label_text target ++ rest)) ≡ Some (reach d to, rest)
unfolding offset_at reach_at
label_offset d target to rest tail ends e = rw (label_name target rest ends.stop, label_value d target to rest tail ends e) refl

pub target_by : (d : Layout) (half : ℕ) (text rest : List ℕ) (s : Signed) (n : ℕ) → offset_at d text ≡ Some (s, rest) → steps_of half s ≡ Some n → target_at half d text ≡ Some (n, rest)
unfolding target_at
target_by d half text rest s n e k = rw (e, k) refl

-- the distance to where steps lead is theirs
distance_on : (from far : ℕ) → distance from (from + far) ≡ sign false far
distance_on from far =
    let up : nat_le from (from + far) ≡ true = le-leb from (from + far) (omega arith) in
    let back : from + far - from ≡ far = omega arith in
    rw (up, back) refl

distance_back : (from far : ℕ) → 0 < far → far ≤ from → distance from (from - far) ≡ sign true far
distance_back from far some low =
    let down : nat_le from (from - far) ≡ false = lt-leb from (from - far) (omega (arith, some, low)) in
    let back : from - (from - far) ≡ far = omega (arith, low) in
    rw (down, back) refl

led_on : (half address steps target : ℕ) → steps < half → step_target half address steps ≡ Some target → target ≡ address + 2 * steps
led_on half address steps target h e =
    let low : nat_lt steps half ≡ true = le-leb (suc steps) half (omega (arith, h)) in
    sym (some_is (address + 2 * steps) target (rw low at e))

led_from : (half address steps target : ℕ) → half ≤ steps → step_target half address steps ≡ Some target → (2 * (2 * half - steps) ≤ address) × (target ≡ address - 2 * (2 * half - steps))
led_from half address steps target h e =
    let high : nat_lt steps half ≡ false = lt-leb (suc steps) half (omega (arith, h)) in
    let back = 2 * (2 * half - steps) in
    elim (cases_lt address back) [
      | inl below ↦
          let none : nat_le back address ≡ false = lt-leb back address (omega (arith, below)) in
          absurd (let gone : None ≡ Some target = rw (high, none) at e in cc)
      | inr above ↦
          let some : nat_le back address ≡ true = le-leb back address above in
          (above, sym (some_is (address - back) target (rw (high, some) at e)))
    ]

pub aims : (half address target n : ℕ) → n < 2 * half → step_target half address n ≡ Some target → steps_of half (distance address target) ≡ Some n
unfolding steps_of
aims half address target n k e =
    elim (cases_lt n half) [
      | inl h ↦
          let far : distance address target ≡ sign false (2 * n) = ap (distance address) (led_on half address n target h e) ∙ distance_on address (2 * n) in
          rw (far, halved_double false n, wrapped_low half n h) refl
      | inr h ↦
          let back = led_from half address n target h e in
          let far : distance address target ≡ sign true (2 * (2 * half - n)) =
          ap (distance address) back.1 ∙ distance_back address (2 * (2 * half - n)) (omega (arith, k)) back.0 in
          rw (far, halved_double true (2 * half - n), wrapped_high half n h k) refl
    ]

-- the second pass knows how far a label is, and in the first one none is far
reach_known : (d : Layout) (n : ℕ) → d.known ≡ true → reach d n ≡ distance (here d) n
reach_known d n h = ap (λ (b : Bool). if b then distance (here d) n else sign false 0) h

reach_unknown : (d : Layout) (n : ℕ) → d.known ≡ false → reach d n ≡ sign false 0
reach_unknown d n h = ap (λ (b : Bool). if b then distance (here d) n else sign false 0) h

pub known_aims : (d : Layout) (half t n : ℕ) → d.known ≡ true → steps_of half (distance (here d) t) ≡ Some n → steps_of half (reach d t) ≡ Some n
known_aims d half t n h k = ap (steps_of half) (reach_known d t h) ∙ k

nowhere : (half : ℕ) → 0 < half → steps_of half (sign false 0) ≡ Some 0
unfolding steps_of
nowhere half h = wrapped_low half 0 h

pub unknown_aims : (d : Layout) (half t : ℕ) → 0 < half → d.known ≡ false → steps_of half (reach d t) ≡ Some 0
unknown_aims d half t some h = ap (steps_of half) (reach_unknown d t h) ∙ nowhere half some
