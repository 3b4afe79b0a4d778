-- What is told of the words that are named or asked for is what is told of all words.
use Rattle.std.proofs.Common.{◌≡◌, ◌∙◌, ◌+◌, ◌<◌, ◌≤◌, ◌++◌, ◌∷◌, [], ℕ, zero, suc, List, Bool, true, false, cond, Option, None, get_or, refl, ap, sym, subst, arith}
use Rattle.std.specs.Prelude.{◌||◌, flat_map, is_some}
use Rattle.std.specs.List.{AllByRecursion, list_any, range_with_len}
use Rattle.std.proofs.lemmas.List.{append-nil}
use Rattle.std.proofs.lemmas.List.Concat.{flat_map-append}
use Rattle.svc_bus_laws.specs.BusLine.{BusLine}
use Rattle.svc_bus_laws.specs.BusState.{BusState}
use Rattle.svc_held.specs.declared.named.Named.{Named}
use Rattle.svc_held.specs.declared.named.Namers.{Namers}
use Rattle.svc_held.specs.declared.named.Namers.TheVariants.{Nobody, One, Several}
use Rattle.svc_span.specs.declared.span.Span.{Span}
use Rattle.svc_held.specs.Held.{HasItsLines, IsHeldBy, is_cached, is_named_line, line_named}
use Rattle.svc_held.specs.Named.{are_some, may_have, named_at, named_by}
use Rattle.svc_span.specs.Span.{is_asked}
use Rattle.svc_held.proofs.Ranges.{same_any}

-- of nobody no unit may be one
pub nobody_has : (n : Namers) → are_some n ≡ false → (unit : ℕ) → may_have unit n ≡ false
nobody_has Nobody none unit = refl
nobody_has (One one) none unit = cc
nobody_has Several none unit = cc

-- what is told over a range, where each number has a list of its own
told_held : (f : ℕ → List ℕ) (g : Named → List ℕ) (at : ℕ → List Named) (end : ℕ) → ((w : ℕ) → w < end → flat_map g (at w) ≡ f w)
    → (a n : ℕ) → a + n ≤ end → flat_map g (flat_map at (range_with_len a n)) ≡ flat_map f (range_with_len a n)
told_held f g at end same a zero le = refl
told_held f g at end same a (suc n) le =
    let later = flat_map at (range_with_len (a + 1) n) in
    flat_map-append g (at a) later ∙ ap (λ (l : List ℕ). l ++ flat_map g later) (same a (omega (arith, le)))
    ∙ ap (λ (l : List ℕ). f a ++ l) (told_held f g at end same (a + 1) n (omega (arith, le)))

neither : (x y : Bool) → (x || y) ≡ false → (x ≡ false) × (y ≡ false)
neither true y h = cc
neither false y h = (refl, h)

-- what is told of a word, where it is listed; where it is not, nothing is
told_of : (asked : Option Span) (n : Namers) (w : ℕ) (g : Named → List ℕ) (told : List ℕ) → g (record { word = record { 0 = w }; by = n }) ≡ told
    → (are_some n ≡ false → is_asked asked w ≡ false → told ≡ []) → flat_map g (named_by asked w n) ≡ told
told_of asked n w g told some none = by (are_some n || is_asked asked w) refl
  where
    one : Named
    one = record { word = record { 0 = w }; by = n }

    by : (x : Bool) → (are_some n || is_asked asked w) ≡ x → flat_map g (cond x (one ∷ []) []) ≡ told
    by true e = append-nil (g one) ∙ some
    by false e = let misses = neither (are_some n) (is_asked asked w) e in sym (none misses.0 misses.1)

-- a line that a unit has only where it may be one of them
cond_line : (x : Bool) (line : Option BusLine) → (x ≡ false → line ≡ None) → cond x line None ≡ line
cond_line true line none = refl
cond_line false line none = sym (none refl)

-- what holds of each word with its namers holds of the listed ones
all_with : (P : Named → Type 0) (asked : Option Span) (n : Namers) (w : ℕ) (ns : List Named) → P (record { word = record { 0 = w }; by = n }) → AllByRecursion P ns
    → AllByRecursion P (named_by asked w n ++ ns)
all_with P asked n w ns one all = by (are_some n || is_asked asked w)
  where
    by : (x : Bool) → AllByRecursion P (cond x (record { word = record { 0 = w }; by = n } ∷ []) [] ++ ns)
    by true = (one, all)
    by false = all

all_named : (P : Named → Type 0) (asked : Option Span) (marks : List Namers) (end : ℕ) → ((w : ℕ) → w < end → P (record { word = record { 0 = w }; by = get_or marks w Nobody }))
    → (a n : ℕ) → a + n ≤ end → AllByRecursion P (flat_map (named_at asked marks) (range_with_len a n))
all_named P asked marks end each a zero le = tt
all_named P asked marks end each a (suc n) le =
    all_with P asked (get_or marks a Nobody) a (flat_map (named_at asked marks) (range_with_len (a + 1) n)) (each a (omega (arith, le)))
    (all_named P asked marks end each (a + 1) n (omega (arith, le)))

module _ (b : BusState) (words : ℕ) (asked : Option Span) (named : List Named) (held : IsHeldBy b words asked named) where
  -- what holds of each word of the data, and of its namers, holds of the listed ones
  all_listed : (P : Named → Type 0) → ((w : ℕ) → w < words → P (record { word = record { 0 = w }; by = get_or held.marks w Nobody })) → AllByRecursion P named
  all_listed P each = subst (AllByRecursion P) (sym held.named_is) (all_named P asked held.marks words each 0 words (omega arith))

  pub inside_held : AllByRecursion (λ (x : Named). x.word.0 < words) named
  inside_held = all_listed (λ (x : Named). x.word.0 < words) (λ w inside. inside)

  pub own_held : AllByRecursion (HasItsLines b words) named
  own_held = all_listed (HasItsLines b words) (λ w inside. record { in_data = inside; lines = λ unit miss. held.lines unit w inside miss })

  -- what is told of a word that isn't listed is nothing
  pub all_held : (f : ℕ → List ℕ) (g : Named → List ℕ)
      → ((w : ℕ) → w < words → g (record { word = record { 0 = w }; by = get_or held.marks w Nobody }) ≡ f w)
      → ((w : ℕ) → w < words → are_some (get_or held.marks w Nobody) ≡ false → is_asked asked w ≡ false → f w ≡ [])
      → flat_map g named ≡ flat_map f (range_with_len 0 words)
  all_held f g some none =
      ap (flat_map g) held.named_is
      ∙ told_held f g (named_at asked held.marks) words
      (λ w inside. told_of asked (get_or held.marks w Nobody) w g (f w) (some w inside) (none w inside)) 0 words (omega arith)

  -- a unit's line of a word, by its namers
  pub line_held : (w unit : ℕ) → w < words → line_named b (record { word = record { 0 = w }; by = get_or held.marks w Nobody }) unit ≡ b.lines unit w
  line_held w unit inside = cond_line (may_have unit (get_or held.marks w Nobody)) (b.lines unit w) (held.lines unit w inside)

  -- of a word that nobody names no unit has a line
  pub no_line_held : (w unit : ℕ) → w < words → are_some (get_or held.marks w Nobody) ≡ false → b.lines unit w ≡ None
  no_line_held w unit inside nobody = held.lines unit w inside (nobody_has (get_or held.marks w Nobody) nobody unit)

  pub not_cached : (w units : ℕ) → w < words → are_some (get_or held.marks w Nobody) ≡ false → is_cached b units w ≡ false
  not_cached w units inside nobody = none_any (range_with_len 0 units)
    where
      none_any : (us : List ℕ) → list_any (λ u. is_some (b.lines u w)) us ≡ false
      none_any [] = refl
      none_any (u ∷ us) =
          ap (λ (l : Option BusLine). is_some l || list_any (λ u. is_some (b.lines u w)) us) (no_line_held w u inside nobody) ∙ none_any us

-- a named word that has its own lines
pub own_line : (b : BusState) (words : ℕ) (n : Named) → HasItsLines b words n → (unit : ℕ) → line_named b n unit ≡ b.lines unit n.word.0
own_line b words n own unit = cond_line (may_have unit n.by) (b.lines unit n.word.0) (own.lines unit)

pub own_cached : (b : BusState) (words units : ℕ) (n : Named) → HasItsLines b words n → list_any (is_named_line b n) (range_with_len 0 units) ≡ is_cached b units n.word.0
own_cached b words units n own =
    same_any (is_named_line b n) (λ u. is_some (b.lines u n.word.0)) (λ u. ap is_some (own_line b words n own u)) (range_with_len 0 units)
