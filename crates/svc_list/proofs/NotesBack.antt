-- A line ends behind its comment.
use Rattle.std.proofs.Common.{◌≡◌, ℕ, zero, suc, ◌+◌, ◌-◌, ◌/◌, ◌%◌, ◌^◌, true, false, ◌==◌, ◌&&◌, nat_lt, nat_le, List, [], ◌∷◌, ◌++◌, drop, Option, Some, None, inl, inr, refl, ap, subst, arith, codes, decimal, if◌then◌else◌}
use denote.Ref.{Bor}
use Rattle.std.specs.Fmt.{digit_glyph, digits, digits_onto}
use Rattle.std.specs.List.{AllByRecursion}
use Rattle.std.proofs.lemmas.Bool.{le-leb, lt-leb, cases_lt, cases_eq, ne_eqb}
use Rattle.svc_tokens.specs.Characters.{is_name, past_blanks, past}
use Rattle.svc_expressions.specs.Operators.{operator_at}
use Rattle.svc_asm_lines.specs.Statements.{is_inside, end_at}
use Rattle.svc_names.specs.declared.name.Name.{Name}
use Rattle.svc_names.specs.declared.names.Names.{Names}
use Rattle.svc_names.specs.Given.{listed, noted_by, spaced_label}
use Rattle.svc_names.specs.Near.{behind_text, is_at_or_below, nearer, nearest}
use Rattle.svc_names.specs.Table.{are_named, is_name_text}
use Rattle.svc_names.proofs.NameText.{IsNameByte, name_bytes}
use Rattle.svc_names.proofs.Order.{first_of, second_of}
use Rattle.svc_list.specs.Listings.{hex_digit, hex_text, word_note, datum_note}
use Rattle.svc_list.proofs.NamesBack.{no_slash}
use Rattle.svc_list.proofs.LinesBack.{Trails}

-- a character of a comment
abbrev IsInside : ℕ → Type 0
IsInside c = is_inside c ≡ true

-- a digit ends no line
digit_inside : (n : ℕ) → IsInside (hex_digit n)
digit_inside n =
    elim (cases_lt n 10) [
      | inl h ↦
          let low : nat_lt n 10 ≡ true = le-leb (suc n) 10 (omega (arith, h)) in
          let other : (48 + n == 10) ≡ false = ne_eqb (48 + n) 10 (λ same. omega (arith, same)) in
          rw (low, other) refl
      | inr h ↦
          let high : nat_lt n 10 ≡ false = lt-leb (suc n) 10 (omega (arith, h)) in
          let other : (87 + n == 10) ≡ false = ne_eqb (87 + n) 10 (λ same. omega (arith, same)) in
          rw (high, other) refl
    ]

abbrev AreInside : List ℕ → Type 0
AreInside cs = AllByRecursion IsInside cs

hex_inside : (n : ℕ) (cs : List ℕ) → AreInside cs → AreInside (hex_text n ++ cs)
unfolding hex_text
hex_inside n cs h = (
  digit_inside (n / 2 ^ 28 % 16),
  (
    digit_inside (n / 2 ^ 24 % 16),
    (
      digit_inside (n / 2 ^ 20 % 16),
      (
        digit_inside (n / 2 ^ 16 % 16),
        (digit_inside (n / 2 ^ 12 % 16), (digit_inside (n / 2 ^ 8 % 16), (digit_inside (n / 2 ^ 4 % 16), (digit_inside (n % 16), h)))),
      ),
    ),
  ),
)

-- a comment goes on to the end of its line
inside_front : (cs tail : List ℕ) → AreInside cs → past is_inside (cs ++ (10 ∷ tail)) ≡ 10 ∷ tail
unfolding past
inside_front [] tail h = refl
inside_front (c ∷ cs) tail h = rw h.0 (inside_front cs tail h.1)

-- without a comment
pub bare_ends : Trails []
unfolding past_blanks is_name end_at operator_at
bare_ends tail = let feed = no_slash 10 tail refl in record { stop = refl; no_name = rw feed refl; no_sign = rw feed refl; over = rw feed refl }

note_ends : (cs : List ℕ) → AreInside cs → Trails (9 ∷ 35 ∷ cs)
unfolding past_blanks is_name end_at operator_at
note_ends cs h tail =
    let mark = no_slash 35 (cs ++ (10 ∷ tail)) refl in
    record {
      stop = refl;
      no_name = rw mark refl;
      no_sign = rw mark refl;
      over = rw mark (ap (λ (xs : List ℕ). Some (drop 1 xs)) (inside_front cs tail h));
    }

-- characters of a comment behind others
both_inside : (cs ds : List ℕ) → AreInside cs → AreInside ds → AreInside (cs ++ ds)
both_inside [] ds h k = k
both_inside (c ∷ cs) ds h k = (h.0, both_inside cs ds h.1 k)

-- ---- names in a comment

-- the names that are given are names
abbrev pub AreNamed : Option (List Name) → Type 0
AreNamed None = Unit {0}
AreNamed (Some names) = are_named names ≡ true

pub given_named : (given : Option (Bor Names)) → AreNamed (listed given)
given_named None = tt
given_named (Some names) = names.now.named

-- no character of a name ends a line
name_inside : (c : ℕ) → IsNameByte c → IsInside c
unfolding is_name
name_inside c h =
    elim (cases_eq c 10) [
      | inl feed ↦ absurd (let gone : is_name 10 ≡ true = subst IsNameByte feed h in cc)
      | inr other ↦ rw (ne_eqb c 10 other) refl
    ]

names_inside : (cs : List ℕ) → AllByRecursion IsNameByte cs → AreInside cs
names_inside [] h = tt
names_inside (c ∷ cs) h = (name_inside c h.0, names_inside cs h.1)

-- and no digit does
digits_inside : (k n : ℕ) (cs : List ℕ) → AreInside cs → AreInside (digits_onto k 10 false n cs)
digits_inside zero n cs h = h
digits_inside (suc k) n cs h =
    elim (n / 10 == 0) as (λ b. AreInside (if b then digit_glyph false (n % 10) ∷ cs else digits_onto k 10 false (n / 10) (digit_glyph false (n % 10) ∷ cs)))
    [ true ↦ (digit_inside (n % 10), h) | false ↦ digits_inside k (n / 10) (digit_glyph false (n % 10) ∷ cs) (digit_inside (n % 10), h) ]

decimal_inside : (n : ℕ) → AreInside (decimal n)
unfolding digits
decimal_inside n = digits_inside 64 n [] tt

behind_inside : (n : ℕ) → AreInside (behind_text n)
behind_inside zero = tt
behind_inside (suc n) = (refl, decimal_inside (suc n))

-- the nearest name is a name
abbrev IsNamed : Option Name → Type 0
IsNamed None = Unit {0}
IsNamed (Some n) = is_name_text n.text.items ≡ true

nearer_named : (address : ℕ) (n : Name) (other : Option Name) → is_name_text n.text.items ≡ true → IsNamed other → IsNamed (nearer address n other)
nearer_named address n None h k = elim (is_at_or_below address n) as (λ b. IsNamed (if b then Some n else None)) [ true ↦ h | false ↦ tt ]
nearer_named address n (Some m) h k = elim (is_at_or_below address n && nat_le m.address n.address) as (λ b. IsNamed (if b then Some n else Some m)) [ true ↦ h | false ↦ k ]

nearest_named : (address : ℕ) (names : List Name) → are_named names ≡ true → IsNamed (nearest address names)
nearest_named address [] h = tt
nearest_named address (n ∷ names) h =
    nearer_named address n (nearest address names) (first_of (is_name_text n.text.items) (are_named names) h) (nearest_named address names (second_of (is_name_text n.text.items) (are_named names) h))

spaced_inside : (address : ℕ) (found : Option Name) → IsNamed found → AreInside (spaced_label address found)
spaced_inside address None h = tt
spaced_inside address (Some n) h = (refl, both_inside n.text.items (behind_text (address - n.address)) (names_inside n.text.items (name_bytes n.text.items h)) (behind_inside (address - n.address)))

noted_inside : (given : Option (List Name)) (address : ℕ) → AreNamed given → AreInside (noted_by given address)
noted_inside None address h = tt
noted_inside (Some names) address h = spaced_inside address (nearest address names) (nearest_named address names h)

-- ---- the comments behind words

pub datum_ends : (given : Option (List Name)) (address : ℕ) → AreNamed given → Trails (datum_note given address)
datum_ends given address h =
    note_ends (codes " 0x" ++ (hex_text address ++ noted_by given address)) (refl, (refl, (refl, hex_inside address (noted_by given address) (noted_inside given address h))))

pub word_ends : (given : Option (List Name)) (address word : ℕ) → AreNamed given → Trails (word_note given address word)
word_ends given address word h =
    let bits = hex_inside word (noted_by given address) (noted_inside given address h) in
    note_ends (codes " 0x" ++ (hex_text address ++ (32 ∷ (hex_text word ++ noted_by given address)))) (refl, (refl, (refl, hex_inside address (32 ∷ (hex_text word ++ noted_by given address)) (refl, bits))))
