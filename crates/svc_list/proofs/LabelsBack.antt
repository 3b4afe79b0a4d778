-- A label is read back from its text, and tells its address.
use Rattle.std.proofs.Common.{◌≡◌, ℕ, suc, ◌+◌, ◌*◌, ◌-◌, ◌/◌, ◌%◌, ◌^◌, ◌<◌, Bool, true, false, not, ◌&&◌, nat_lt, List, [], ◌∷◌, ◌++◌, length, drop, slice_index, Option, Some, None, inl, inr, refl, ap, sym, ◌∙◌, arith, if◌then◌else◌, take_while, option_map}
use Rattle.std.specs.Str.{bytes_eq}
use Rattle.std.specs.Map.{update}
use Rattle.std.proofs.lemmas.Bool.{and_parts, and_from, le-leb, lt-leb, cases_lt, eq-eqb, agree_below_at, false_from_ne_true}
use Rattle.std.proofs.lemmas.List.Sums.{take_while-cons}
use Rattle.std.proofs.lemmas.Slice.Eq.{bytes_eq-Decides}
use Rattle.svc_layout.specs.declared.section.Section.TheVariants as section
use Rattle.svc_layout.specs.declared.section.Spot.{Spot}
use Rattle.svc_layout.specs.declared.statement.Statement.TheVariants as say
use Rattle.svc_layout.specs.Sources.{no_bindings}
use Rattle.svc_layout.specs.Layouts.{Layout}
use Rattle.svc_layout.specs.Places.{place, spot_here}
use Rattle.svc_layout.specs.Labels.{is_place, is_shared_twice, with_name, with_name_again, with_symbol}
use Rattle.svc_tokens.specs.Characters.{is_name, past_blanks, past, name_at, past_name, behind}
use Rattle.svc_asm_lines.specs.Statements.{statement_at, line_at}
use Rattle.svc_list.specs.Listings.{hex_digit, hex_text, label_text}
use Rattle.svc_list.proofs.NamesBack.{dense, all_dense, no_slash, no_space}
use Rattle.svc_list.proofs.LinesBack.{unlabelled, ended_back}
use Rattle.svc_list.proofs.NotesBack.{bare_ends}

hex_digit_dense : (n : ℕ) → n < 16 → dense (hex_digit n) ≡ true
unfolding is_name
hex_digit_dense n h = agree_below_at (λ n. dense (hex_digit n)) (λ n. true) 16 n refl h

next_dense : (m : ℕ) (cs : List ℕ) → all_dense cs ≡ true → all_dense (hex_digit (m % 16) ∷ cs) ≡ true
next_dense m cs h = and_from (dense (hex_digit (m % 16))) (all_dense cs) (hex_digit_dense (m % 16) (omega arith)) h

hex_dense : (n : ℕ) → all_dense (hex_text n) ≡ true
unfolding hex_text
hex_dense n =
    let d = λ (m : ℕ). hex_digit (m % 16) in
    let c₁ = d n ∷ [] in
    let c₂ = d (n / 2 ^ 4) ∷ c₁ in
    let c₃ = d (n / 2 ^ 8) ∷ c₂ in
    let c₄ = d (n / 2 ^ 12) ∷ c₃ in
    let c₅ = d (n / 2 ^ 16) ∷ c₄ in
    let c₆ = d (n / 2 ^ 20) ∷ c₅ in
    let c₇ = d (n / 2 ^ 24) ∷ c₆ in
    next_dense (n / 2 ^ 28) c₇ (next_dense (n / 2 ^ 24) c₆ (next_dense (n / 2 ^ 20) c₅ (next_dense (n / 2 ^ 16) c₄
    (next_dense (n / 2 ^ 12) c₃ (next_dense (n / 2 ^ 8) c₂ (next_dense (n / 2 ^ 4) c₁ (next_dense n [] refl)))))))

pub label_dense : (a : ℕ) → all_dense (label_text a) ≡ true
unfolding is_name
label_dense a = hex_dense a

-- two labels are of two addresses
unhex : ℕ → ℕ
unhex c = if nat_lt c 58 then c - 48 else c - 87

unhex_digit : (n : ℕ) → unhex (hex_digit n) ≡ n
unfolding unhex
unhex_digit n =
    elim (cases_lt n 10) [
      | inl h ↦
          let low : nat_lt n 10 ≡ true = le-leb (suc n) 10 (omega (arith, h)) in
          let digit : nat_lt (48 + n) 58 ≡ true = le-leb (suc (48 + n)) 58 (omega (arith, h)) in
          let back : 48 + n - 48 ≡ n = omega arith in
          rw (low, digit) back
      | inr h ↦
          let high : nat_lt n 10 ≡ false = lt-leb (suc n) 10 (omega (arith, h)) in
          let letter : nat_lt (87 + n) 58 ≡ false = lt-leb (suc (87 + n)) 58 (omega (arith, h)) in
          let back : 87 + n - 87 ≡ n = omega arith in
          rw (high, letter) back
    ]

same_digit : (m n : ℕ) → hex_digit m ≡ hex_digit n → m ≡ n
same_digit m n e = sym (unhex_digit m) ∙ ap unhex e ∙ unhex_digit n

deeper : (a b x y : ℕ) → a / 16 ≡ x → b / 16 ≡ y → x ≡ y → hex_digit (a % 16) ≡ hex_digit (b % 16) → a ≡ b
deeper a b x y f g same digit = let last = same_digit (a % 16) (b % 16) digit in omega (arith, f, g, same, last)

same_hex : (a b : ℕ) → a < 2 ^ 32 → b < 2 ^ 32 → hex_text a ≡ hex_text b → a ≡ b
unfolding hex_text
same_hex a b h k e =
    let at = λ (n : ℕ). ap (λ (xs : List ℕ). slice_index xs n) e in
    let e₇ : a / 2 ^ 28 ≡ b / 2 ^ 28 = deeper (a / 2 ^ 28) (b / 2 ^ 28) 0 0 (omega (arith, h)) (omega (arith, k)) refl (at 0) in
    let e₆ : a / 2 ^ 24 ≡ b / 2 ^ 24 = deeper (a / 2 ^ 24) (b / 2 ^ 24) (a / 2 ^ 28) (b / 2 ^ 28) (omega arith) (omega arith) e₇ (at 1) in
    let e₅ : a / 2 ^ 20 ≡ b / 2 ^ 20 = deeper (a / 2 ^ 20) (b / 2 ^ 20) (a / 2 ^ 24) (b / 2 ^ 24) (omega arith) (omega arith) e₆ (at 2) in
    let e₄ : a / 2 ^ 16 ≡ b / 2 ^ 16 = deeper (a / 2 ^ 16) (b / 2 ^ 16) (a / 2 ^ 20) (b / 2 ^ 20) (omega arith) (omega arith) e₅ (at 3) in
    let e₃ : a / 2 ^ 12 ≡ b / 2 ^ 12 = deeper (a / 2 ^ 12) (b / 2 ^ 12) (a / 2 ^ 16) (b / 2 ^ 16) (omega arith) (omega arith) e₄ (at 4) in
    let e₂ : a / 2 ^ 8 ≡ b / 2 ^ 8 = deeper (a / 2 ^ 8) (b / 2 ^ 8) (a / 2 ^ 12) (b / 2 ^ 12) (omega arith) (omega arith) e₃ (at 5) in
    let e₁ : a / 2 ^ 4 ≡ b / 2 ^ 4 = deeper (a / 2 ^ 4) (b / 2 ^ 4) (a / 2 ^ 8) (b / 2 ^ 8) (omega arith) (omega arith) e₂ (at 6) in
    deeper a b (a / 2 ^ 4) (b / 2 ^ 4) (omega arith) (omega arith) e₁ (at 7)

pub label_apart : (a b : ℕ) → a < 2 ^ 32 → b < 2 ^ 32 → (a ≡ b → ⊥) → bytes_eq (label_text a) (label_text b) ≡ false
label_apart a b h k other =
    false_from_ne_true (bytes_eq (label_text a) (label_text b)) (λ same. other (same_hex a b h k (ap (λ (xs : List ℕ). drop 3 xs) ((bytes_eq-Decides (label_text a) (label_text b)).0 same))))

pub label_same : (a : ℕ) → bytes_eq (label_text a) (label_text a) ≡ true
label_same a = (bytes_eq-Decides (label_text a) (label_text a)).1 refl

-- a name and what follows it, which no name goes on with
word_front : (w : List ℕ) (c : ℕ) (tail : List ℕ) → all_dense w ≡ true → is_name c ≡ false → take_while is_name (w ++ (c ∷ tail)) ≡ w
word_front [] c tail h k = rw (take_while-cons is_name c tail, k) refl
word_front (x ∷ w) c tail h k =
    let n : is_name x ≡ true = (and_parts (is_name x) _ (and_parts (dense x) (all_dense w) h).0).0 in
    rw (take_while-cons is_name x (w ++ (c ∷ tail)), n) (ap (λ xs. x ∷ xs) (word_front w c tail (and_parts (dense x) (all_dense w) h).1 k))

word_behind : (w : List ℕ) (c : ℕ) (tail : List ℕ) → all_dense w ≡ true → is_name c ≡ false → past is_name (w ++ (c ∷ tail)) ≡ c ∷ tail
unfolding past
word_behind [] c tail h k = rw k refl
word_behind (x ∷ w) c tail h k =
    let n : is_name x ≡ true = (and_parts (is_name x) _ (and_parts (dense x) (all_dense w) h).0).0 in
    rw n (word_behind w c tail (and_parts (dense x) (all_dense w) h).1 k)

no_colon_name : is_name 58 ≡ false
unfolding is_name
no_colon_name = refl

pub colon_name : (a : ℕ) (tail : List ℕ) → name_at (label_text a ++ (58 ∷ tail)) ≡ label_text a
colon_name a tail =
    ap (take_while is_name) (no_space 97 (116 ∷ 95 ∷ hex_text a) (58 ∷ tail) (label_dense a)) ∙ word_front (label_text a) 58 tail (label_dense a) no_colon_name

colon_rest : (a : ℕ) (tail : List ℕ) → past_name (label_text a ++ (58 ∷ tail)) ≡ 58 ∷ tail
colon_rest a tail =
    ap (past is_name) (no_space 97 (116 ∷ 95 ∷ hex_text a) (58 ∷ tail) (label_dense a)) ∙ word_behind (label_text a) 58 tail (label_dense a) no_colon_name

-- a label is read up to its colon, and the rest of its line is empty
pub label_back : (d : Layout) (a : ℕ) (tail : List ℕ) → line_at d (label_text a ++ (58 ∷ tail)) ≡ Some (say.Label, tail)
unfolding line_at
label_back d a tail = rw (colon_rest a tail, colon_name a tail) refl

nothing_back : (d : Layout) (tail : List ℕ) → statement_at d (10 ∷ tail) ≡ Some (say.Nothing, 10 ∷ tail)
unfolding statement_at past past_blanks is_name
nothing_back d tail = rw (no_slash 10 tail refl) refl

nothing_stops : (tail : List ℕ) → behind 58 (past_name (10 ∷ tail)) ≡ None
unfolding past past_blanks is_name
nothing_stops tail = rw (no_slash 10 tail refl) refl

pub empty_back : (d : Layout) (tail : List ℕ) → line_at d (10 ∷ tail) ≡ Some (say.Nothing, tail)
empty_back d tail = unlabelled d (10 ∷ tail) (nothing_stops tail) ∙ ended_back d say.Nothing (10 ∷ tail) (10 ∷ tail) tail (bare_ends tail) (nothing_back d tail)

-- a place in the text
abbrev pub text_spot : ℕ → Spot
text_spot a = record { section = section.Text; offset = a }

pub spot_is : (d : Layout) (a : ℕ) → d.section ≡ section.Text → 4 * length d.text ≡ a → spot_here d ≡ text_spot a
spot_is d a text same = rw (text, same) refl

-- the first pass finds the label, and the second one it again
pub label_found : (d : Layout) (a : ℕ) → d.known ≡ false → d.source.names (label_text a) ≡ None → spot_here d ≡ text_spot a
    → with_symbol (label_text a) (spot_here d) d ≡ Some (record d { source = record d.source { names = update bytes_eq d.source.names (label_text a) (Some (text_spot a)) } })
unfolding with_name
label_found d a first fresh spot = rw (spot, first, fresh) refl

if_true : (b : Bool) (x y : Option Layout) → b ≡ true → (if b then x else y) ≡ x
if_true true x y h = refl
if_true false x y h = absurd (cc)

-- no other text has a name that is bound to nothing
bound_to_none : (d : Layout) (name : List ℕ) → d.source.bindings ≡ no_bindings → not (is_shared_twice d name) ≡ true
bound_to_none d name bare = rw bare refl

pub label_again : (d : Layout) (a : ℕ) → d.known ≡ true → d.source.bindings ≡ no_bindings → d.source.names (label_text a) ≡ Some (text_spot a) → spot_here d ≡ text_spot a → with_symbol (label_text a) (spot_here d) d ≡ Some d
unfolding with_name_again
label_again d a second bare known spot =
    let placed : is_place (place d (spot_here d)) (option_map (place d) (d.source.names (label_text a))) ≡ true =
    ap (λ (o : Option Spot). is_place (place d (spot_here d)) (option_map (place d) o)) known ∙ eq-eqb (place d (text_spot a)) (place d (spot_here d)) (ap (place d) (sym spot)) in
    let same : (is_place (place d (spot_here d)) (option_map (place d) (d.source.names (label_text a))) && not (is_shared_twice d (label_text a))) ≡ true = rw (placed, bound_to_none d (label_text a) bare) refl in
    if_true d.known _ _ second ∙ if_true (is_place (place d (spot_here d)) (option_map (place d) (d.source.names (label_text a))) && not (is_shared_twice d (label_text a))) (Some d) None same
