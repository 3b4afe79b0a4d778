-- Parts without fault make an image, and the parts of an image have no fault.
use Rattle.std.proofs.Common.{◌≡◌, ℕ, zero, suc, ◌*◌, ◌%◌, ◌<◌, ◌≤◌, true, false, not, List, [], ◌∷◌, ◌++◌, length, All, Some, None, nat_eq, nat_lt, replicate, slice_index, slice_index_or, refl, sym, ◌∙◌, ap, subst, arith, add-one}
use Rattle.std.proofs.lemmas.Bool.{or_parts, not-false, eqb-true, eq-eqb, leb-false, lt-leb, ltb-false, ltb-true, lt-ltb, le-ltb, and_parts, and_from}
use Rattle.std.proofs.lemmas.List.{length-replicate, get_or-replicate, get_or_default}
use Rattle.std.proofs.lemmas.List.Elements.{All-nil, All-cons, All-replicate}
use Rattle.std.proofs.lemmas.List.Folds.{list_any_none}
use Rattle.std.specs.List.{list_any}
use Rattle.svc_image.specs.declared.error.ImageError.{ImageError}
use Rattle.svc_image.specs.declared.error.ImageError.TheVariants.{Short}
use Rattle.svc_image.specs.declared.parts.Own.{Own}
use Rattle.svc_image.specs.declared.parts.Own.TheVariants as own
use Rattle.svc_image.specs.declared.parts.Parts.{Parts}
use Rattle.svc_image.specs.declared.version.Version.TheVariants as version
use Rattle.svc_image.specs.Version.{read_only_by, limits_by}
use Rattle.svc_image.specs.Image.{IsImage, IsLimit, StartsWord, is_entry}
use Rattle.svc_image.specs.Format.{Check, first_of, each_of, is_outside, is_own_outside, falls, is_misplaced}
use Rattle.svc_image.specs.Parts.{AreFit, version_by, number_by, listed_by, image_made, HasLimits, size_checks, place_checks, start_checks, limit_checks, fault_in}
use Rattle.svc_image.proofs.Checks.{first_of-append-none, first_of-append-some, first_of-append-parts, each-one, each-all, outside-false, inside-outside}
use Rattle.svc_image.proofs.Files.{passes}

-- the first fault, by the checks that passed before it
abbrev pub places_run : Parts → List Check
places_run p = each_of (place_checks p.entries.items (length p.text.items)) (length p.entries.items)

abbrev pub ends_run : Parts → List Check
ends_run p = start_checks p.entries.items p.start ++ limit_checks (listed_by p.own)

pub fault-sizes : (p : Parts) (e : ImageError) → first_of (size_checks p) ≡ Some e → fault_in p ≡ Some e
unfolding fault_in
fault-sizes p e some = first_of-append-some (size_checks p) (places_run p ++ ends_run p) e some

behind-sizes : (p : Parts) → first_of (size_checks p) ≡ None → fault_in p ≡ first_of (places_run p ++ ends_run p)
unfolding fault_in
behind-sizes p none = first_of-append-none (size_checks p) (places_run p ++ ends_run p) none

pub fault-places : (p : Parts) (e : ImageError) → first_of (size_checks p) ≡ None → first_of (places_run p) ≡ Some e → fault_in p ≡ Some e
fault-places p e none some = behind-sizes p none ∙ first_of-append-some (places_run p) (ends_run p) e some

behind-places : (p : Parts) → first_of (size_checks p) ≡ None → first_of (places_run p) ≡ None → fault_in p ≡ first_of (ends_run p)
behind-places p sizes places = behind-sizes p sizes ∙ first_of-append-none (places_run p) (ends_run p) places

pub fault-start : (p : Parts) (e : ImageError) → first_of (size_checks p) ≡ None → first_of (places_run p) ≡ None
    → first_of (start_checks p.entries.items p.start) ≡ Some e → fault_in p ≡ Some e
fault-start p e sizes places some =
    behind-places p sizes places ∙ first_of-append-some (start_checks p.entries.items p.start) (limit_checks (listed_by p.own)) e some

pub fault-listed : (p : Parts) → first_of (size_checks p) ≡ None → first_of (places_run p) ≡ None
    → first_of (start_checks p.entries.items p.start) ≡ None → fault_in p ≡ first_of (limit_checks (listed_by p.own))
fault-listed p sizes places start =
    behind-places p sizes places ∙ first_of-append-none (start_checks p.entries.items p.start) (limit_checks (listed_by p.own)) start

-- the limits of an own part, of which a file lists these
limits_in : Own → ℕ → List ℕ
limits_in o entries = limits_by (version_by o) entries (number_by o) (listed_by o)

none-outside : (limits : List ℕ) → list_any (is_outside 65536) limits ≡ false → All IsLimit limits
none-outside [] none = All-nil IsLimit
none-outside (limit ∷ limits) none =
    let parts = or_parts (is_outside 65536 limit) (list_any (is_outside 65536) limits) none in
    All-cons IsLimit limit limits (outside-false 65536 limit parts.0) (none-outside limits parts.1)

limits-sound : (o : Own) (entries words : ℕ) → is_own_outside (version_by o) words (number_by o) ≡ false
    → list_any (is_outside 65536) (listed_by o) ≡ false → All IsLimit (limits_in o entries)
unfolding limits_in
limits-sound (own.One limit) entries words inside none = All-replicate IsLimit entries limit (outside-false 65536 limit inside)
limits-sound (own.Two read_only limits) entries words inside none = none-outside limits.items none

read_only-sound : (o : Own) (words : ℕ) → is_own_outside (version_by o) words (number_by o) ≡ false → read_only_by (version_by o) (number_by o) ≤ words
read_only-sound (own.One limit) words inside = omega arith
read_only-sound (own.Two read_only limits) words inside = ltb-false words read_only inside

first-sound : (o : Own) (entries : ℕ) → 1 ≤ entries → version_by o ≡ version.One
    → (read_only_by (version_by o) (number_by o) ≡ 0) × (limits_in o entries ≡ replicate entries (slice_index (limits_in o entries) 0))
unfolding limits_in
first-sound (own.One limit) entries some is = (refl, ap (replicate entries) (sym (get_or-replicate entries 0 limit 0 (omega (arith, some)))))
first-sound (own.Two read_only limits) entries some is = absurd (cc)

-- what the checks of an entry say
place-rises : (entries : List ℕ) (words k : ℕ) → first_of (place_checks entries words (suc k)) ≡ None → slice_index entries k < slice_index entries (suc k)
unfolding place_checks
place-rises entries words k none = leb-false (slice_index entries (suc k)) (slice_index entries k) (passes (place_checks entries words (suc k)) 0 (true, Short) (omega arith) none)

place-starts : (entries : List ℕ) (words k : ℕ) → first_of (place_checks entries words k) ≡ None → StartsWord words (slice_index entries k)
unfolding place_checks
place-starts entries words k none =
    let entry : ℕ = slice_index entries k in
    let parts = and_parts (nat_eq (entry % 4) 0) (nat_lt entry (4 * words)) (not-false _ (passes (place_checks entries words k) 1 (true, Short) (omega arith) none)) in
    (eqb-true (entry % 4) 0 parts.0, ltb-true entry (4 * words) parts.1)

-- parts without fault make an image
pub made-image : (p : Parts) → HasLimits p → AreFit p → fault_in p ≡ None → IsImage (image_made p)
unfolding fault_in start_checks limit_checks limits_in is_entry
made-image p limits fit none =
    let entries : List ℕ = p.entries.items in
    let words : ℕ = length p.text.items in
    let places = each_of (place_checks entries words) (length entries) in
    let sizes = first_of-append-parts (size_checks p) (places ++ (start_checks entries p.start ++ limit_checks (listed_by p.own))) none in
    let placed = first_of-append-parts places (start_checks entries p.start ++ limit_checks (listed_by p.own)) sizes.1 in
    let ends = first_of-append-parts (start_checks entries p.start) (limit_checks (listed_by p.own)) placed.1 in
    let at : (k : ℕ) → k < 4 → (slice_index_or (size_checks p) k (true, Short)).0 ≡ false = λ k low. passes (size_checks p) k (true, Short) low sizes.0 in
    let place : (k : ℕ) → k < length entries → first_of (place_checks entries words k) ≡ None = λ k low. each-one (place_checks entries words) (length entries) k low placed.0 in
    let entries_in = outside-false 1024 (length entries) (at 0 (omega arith)) in
    let text_in = outside-false 65536 words (at 1 (omega arith)) in
    let words_in = outside-false 65536 (length p.words.items) (at 2 (omega arith)) in
    let own_in : is_own_outside (version_by p.own) (length p.words.items) (number_by p.own) ≡ false = at 3 (omega arith) in
    let listed_in : list_any (is_outside 65536) (listed_by p.own) ≡ false = passes (limit_checks (listed_by p.own)) 0 (true, Short) (omega arith) ends.1 in
    record {
      first = λ is. let first = first-sound p.own (length entries) entries_in.0 is in record { nothing = first.0; shared = first.1 };
      read_only_few = read_only-sound p.own (length p.words.items) own_in;
      limits_each = limits;
      limits_fit = limits-sound p.own (length entries) (length p.words.items) own_in listed_in;
      registers_all = fit.registers_all;
      registers_fit = fit.registers_fit;
      entries_some = entries_in.0;
      entries_few = entries_in.1;
      entries_rise = λ k low. rw add-one (place-rises entries words k (place (suc k) (omega (arith, low))));
      entries_placed = λ k e low. rw (get_or_default entries k e 0 low) (place-starts entries words k (place k low));
      start_entry = not-false (list_any (λ e. nat_eq e p.start) entries) (passes (start_checks entries p.start) 0 (true, Short) (omega arith) ends.0);
      text_some = text_in.0;
      text_few = text_in.1;
      text_fits = fit.text_fits;
      words_some = words_in.0;
      words_few = words_in.1;
      words_fit = fit.words_fit;
    }

-- the number that only the version has, and the limits that a file lists, are in their ranges
own-none : (o : Own) (entries words : ℕ) → 1 ≤ entries → read_only_by (version_by o) (number_by o) ≤ words → All IsLimit (limits_in o entries)
    → is_own_outside (version_by o) words (number_by o) ≡ false
unfolding limits_in
own-none (own.One limit) entries words some few fit =
    let first = fit 0 0 (omega (arith, some, length-replicate entries limit)) in
    let own_fits : IsLimit limit = subst IsLimit (get_or-replicate entries 0 limit 0 (omega (arith, some))) first in
    inside-outside 65536 limit own_fits.0 own_fits.1
own-none (own.Two read_only limits) entries words some few fit = le-ltb words read_only few

listed-none : (o : Own) (entries : ℕ) → All IsLimit (limits_in o entries) → list_any (is_outside 65536) (listed_by o) ≡ false
unfolding limits_in
listed-none (own.One limit) entries fit = refl
listed-none (own.Two read_only limits) entries fit =
    list_any_none (is_outside 65536) limits.items (λ k d low. let here = fit k d low in inside-outside 65536 _ here.0 here.1)

place-none : (entries : List ℕ) (words k : ℕ) → falls (slice_index entries) k ≡ false → StartsWord words (slice_index entries k) → first_of (place_checks entries words k) ≡ None
unfolding place_checks
place-none entries words k rises starts =
    let entry : ℕ = slice_index entries k in
    let placed : is_misplaced words entry ≡ false = ap not (and_from _ _ (eq-eqb (entry % 4) 0 starts.0) (lt-ltb entry (4 * words) starts.1)) in
    rw (rises, placed) refl

rising : (entries : List ℕ) (k : ℕ) → ((j : ℕ) → suc j ≡ k → slice_index entries j < slice_index entries k) → falls (slice_index entries) k ≡ false
rising entries zero rises = refl
rising entries (suc j) rises = lt-leb (slice_index entries (suc j)) (slice_index entries j) (rises j refl)

sizes-none : (p : Parts) → IsImage (image_made p) → first_of (size_checks p) ≡ None
unfolding limits_in
sizes-none p sound =
    let entries_some : 1 ≤ length p.entries.items = sound.entries_some in
    let entries = inside-outside 1024 (length p.entries.items) entries_some sound.entries_few in
    let text = inside-outside 65536 (length p.text.items) sound.text_some sound.text_few in
    let words = inside-outside 65536 (length p.words.items) sound.words_some sound.words_few in
    let number = own-none p.own (length p.entries.items) (length p.words.items) entries_some sound.read_only_few sound.limits_fit in
    rw (entries, text, words, number) refl

-- the parts of an image have no fault
pub made-none : (p : Parts) → IsImage (image_made p) → fault_in p ≡ None
unfolding fault_in start_checks limit_checks limits_in is_entry
made-none p sound =
    let entries : List ℕ = p.entries.items in
    let words : ℕ = length p.text.items in
    let places = each_of (place_checks entries words) (length entries) in
    let rises : (k : ℕ) → k < length entries → (j : ℕ) → suc j ≡ k → slice_index entries j < slice_index entries k = λ k low j next.
    let up : slice_index entries j < slice_index entries (suc j) = rw add-one at (sound.entries_rise j (omega (arith, low, next))) in
    subst (λ (m : ℕ). slice_index entries j < slice_index entries m) next up in
    let place = each-all (place_checks entries words) (length entries) (λ k low. place-none entries words k (rising entries k (rises k low)) (sound.entries_placed k 0 low)) in
    let start : list_any (λ e. nat_eq e p.start) entries ≡ true = sound.start_entry in
    let listed = listed-none p.own (length entries) sound.limits_fit in
    first_of-append-none (size_checks p) (places ++ (start_checks entries p.start ++ limit_checks (listed_by p.own))) (sizes-none p sound)
    ∙ first_of-append-none places (start_checks entries p.start ++ limit_checks (listed_by p.own)) place
    ∙ rw (start, listed) refl
