-- The image that is made of a layout's parts.
use Rattle.std.proofs.Common.{◌≡◌, ℕ, ◌/◌, List, [], ◌∷◌, length, map, unwrap_or, refl, sym, ◌∙◌, ap}
use Rattle.std.proofs.lemmas.List.{length-replicate, length-map}
use Rattle.svc_image.specs.declared.parts.Own.{Own}
use Rattle.svc_image.specs.declared.parts.Own.TheVariants as own
use Rattle.svc_image.specs.declared.parts.Parts.{Parts}
use Rattle.svc_image.specs.Version.{read_only_by, limits_by}
use Rattle.svc_image.specs.Format.{words_in}
use Rattle.svc_image.specs.Parts.{version_by, number_by, listed_by, image_made, HasLimits}
use Rattle.svc_draft.specs.declared.making.Mark.{Mark}
use Rattle.svc_layout.specs.Layouts.{Layout}
use Rattle.svc_layout.specs.Images.{version_in, start_in, limits_in, data_in, IsOwnOf, image_laid}

-- the limits of marks
pub own-limits : (limit : ℕ) (ms : List Mark) → map (λ m. unwrap_or m.limit limit) ms ≡ limits_in limit (map (λ m. m.limit) ms)
own-limits limit [] = refl
own-limits limit (m ∷ ms) = ap (λ (xs : List ℕ). unwrap_or m.limit limit ∷ xs) (own-limits limit ms)

-- the limits that a version and what it has say
limits_by_own : Own → ℕ → List ℕ
limits_by_own o n = limits_by (version_by o) n (number_by o) (listed_by o)

version-laid : (o : Own) (d : Layout) → IsOwnOf o d → version_by o ≡ version_in d.version
version-laid (own.One limit) d says = sym says.0
version-laid (own.Two read_only limits) d says = sym says.0

read_only-laid : (o : Own) (d : Layout) → IsOwnOf o d → read_only_by (version_by o) (number_by o) ≡ read_only_by (version_in d.version) d.read_only
read_only-laid (own.One limit) d says = rw says.0 refl
read_only-laid (own.Two read_only limits) d says = rw (says.0, says.1) refl

limits-laid : (o : Own) (d : Layout) (n : ℕ) → IsOwnOf o d → limits_by_own o n ≡ limits_by (version_in d.version) n d.limit (limits_in d.limit d.limits)
unfolding limits_by_own
limits-laid (own.One limit) d n says = rw (says.0, says.1) refl
limits-laid (own.Two read_only limits) d n says = rw says.0 says.2

-- there are as many as entries
own-each : (o : Own) (d : Layout) (n : ℕ) → IsOwnOf o d → length d.limits ≡ n → length (limits_by_own o n) ≡ n
unfolding limits_by_own
own-each (own.One limit) d n says same = length-replicate n limit
own-each (own.Two read_only limits) d n says same = ap length says.2 ∙ length-map d.limits (λ o. unwrap_or o d.limit) ∙ same

-- the parts are the layout's
pub record AreParts (p : Parts) (d : Layout) : Type 0 where
  pub same_own : IsOwnOf p.own d
  pub same_start : p.start ≡ start_in d.start d.entries
  pub same_registers : p.registers ≡ d.registers
  pub same_entries : p.entries.items ≡ d.entries
  pub same_text : p.text.items ≡ d.text
  pub same_words : p.words.items ≡ words_in (length (data_in d) / 4) (data_in d)

pub has-limits : (p : Parts) (d : Layout) → AreParts p d → length d.limits ≡ length d.entries → HasLimits p
unfolding limits_by_own
has-limits p d are same = own-each p.own d (length p.entries.items) are.same_own (same ∙ ap length (sym are.same_entries))

-- they make the layout's image
pub made-laid : (p : Parts) (d : Layout) → AreParts p d → image_made p ≡ image_laid d
unfolding image_laid limits_by_own
made-laid p d are =
    let version = version-laid p.own d are.same_own in
    let read_only = read_only-laid p.own d are.same_own in
    let limits = limits-laid p.own d (length p.entries.items) are.same_own
    ∙ ap (λ (es : List ℕ). limits_by (version_in d.version) (length es) d.limit (limits_in d.limit d.limits)) are.same_entries in
    λ i. record { version = version i; read_only = read_only i; start = are.same_start i; registers = are.same_registers i; entries = are.same_entries i; limits = limits i; text = are.same_text i; words = are.same_words i }
