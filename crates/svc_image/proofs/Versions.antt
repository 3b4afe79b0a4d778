-- What hangs on a file's version: its own number, and the limits.
use Rattle.std.proofs.Common.{◌≡◌, ℕ, ◌*◌, ◌<◌, ◌≤◌, true, false, List, length, All, replicate, slice_index, nat_eq, refl, sym, ap, subst, inl, inr, arith}
use Rattle.std.proofs.lemmas.Bool.{eqb-true, or_cases, le-ltb, ltb-false}
use Rattle.std.proofs.lemmas.List.{length-replicate, get_or-replicate, get_or_default}
use Rattle.std.proofs.lemmas.List.Elements.{All-nil, All-replicate}
use Rattle.svc_image.specs.declared.version.Version.{Version}
use Rattle.svc_image.specs.declared.version.Version.TheVariants as version
use Rattle.svc_image.specs.Version.{version_number, is_known, version_of, own_number, read_only_by, limit_list, listed_count, limits_by}
use Rattle.svc_image.specs.Format.{is_own_outside, word_at, words_in}
use Rattle.svc_image.specs.Image.{IsLimit}
use Rattle.svc_image.proofs.Checks.{outside-false, inside-outside}
use Rattle.svc_image.proofs.Wordwise.{length-words_in, get_or-words_in}

-- a version and its number
pub number-known : (number : ℕ) → is_known number ≡ true → version_number (version_of number) ≡ number
number-known number known = elim (or_cases (nat_eq number 1) (nat_eq number 2) known) [
  | inl one ↦ let is : number ≡ 1 = eqb-true number 1 one in rw is refl
  | inr two ↦ let is : number ≡ 2 = eqb-true number 2 two in rw is refl
]

pub version-number : (v : Version) → version_of (version_number v) ≡ v
version-number version.One = refl
version-number version.Two = refl

pub known-number : (v : Version) → is_known (version_number v) ≡ true
known-number version.One = refl
known-number version.Two = refl

pub number-few : (v : Version) → version_number v ≤ 2
number-few version.One = omega arith
number-few version.Two = omega arith

-- the limits of so many entries, where the listed ones stand in front of the rest
abbrev pub limits_from : Version → (entries own : ℕ) → List ℕ → List ℕ
limits_from v entries own rest = limits_by v entries own (words_in (listed_count v entries) rest)

-- one for each entry
pub limits-each : (v : Version) (entries own : ℕ) (rest : List ℕ) → length (limits_from v entries own rest) ≡ entries
limits-each version.One entries own rest = length-replicate entries own
limits-each version.Two entries own rest = length-words_in entries rest

-- each is one, where the checks pass
pub limits-fit : (v : Version) (entries own words : ℕ) (rest : List ℕ) → is_own_outside v words own ≡ false
    → ((k : ℕ) → k < listed_count v entries → IsLimit (word_at rest (4 * k))) → All IsLimit (limits_from v entries own rest)
limits-fit version.One entries own words rest inside each = All-replicate IsLimit entries own (outside-false 65536 own inside)
limits-fit version.Two entries own words rest inside each = λ k d low.
    let size = length-words_in entries rest in
    let here : k < entries = omega (arith, low, size) in
    rw (get_or_default (words_in entries rest) k d 0 low, get_or-words_in entries rest k here) (each k here)

-- no more words are read-only than there are
pub read_only-few : (v : Version) (words own : ℕ) → is_own_outside v words own ≡ false → read_only_by v own ≤ words
read_only-few version.One words own inside = omega arith
read_only-few version.Two words own inside = ltb-false words own inside

-- in version 1 none is, and all limits are the header's
pub first-nothing : (v : Version) (own : ℕ) → v ≡ version.One → read_only_by v own ≡ 0
first-nothing version.One own is = refl
first-nothing version.Two own is = absurd (cc)

pub first-shared : (v : Version) (entries own : ℕ) (rest : List ℕ) → 1 ≤ entries → v ≡ version.One
    → limits_from v entries own rest ≡ replicate entries (slice_index (limits_from v entries own rest) 0)
first-shared version.One entries own rest some is = ap (replicate entries) (sym (get_or-replicate entries 0 own 0 (omega (arith, some))))
first-shared version.Two entries own rest some is = absurd (cc)

-- where the limits are limits, the checks pass
pub own-inside : (v : Version) (entries own words : ℕ) (rest : List ℕ) → 1 ≤ entries → All IsLimit (limits_from v entries own rest)
    → read_only_by v own ≤ words → is_own_outside v words own ≡ false
own-inside version.One entries own words rest some fit few =
    let size = length-replicate entries own in
    let first = fit 0 0 (omega (arith, some, size)) in
    let is : slice_index (replicate entries own) 0 ≡ own = get_or-replicate entries 0 own 0 (omega (arith, some)) in
    let own_fits : IsLimit own = subst IsLimit is first in
    inside-outside 65536 own own_fits.0 own_fits.1
own-inside version.Two entries own words rest some fit few = le-ltb words own few

pub listed-fit : (v : Version) (entries own : ℕ) (rest : List ℕ) → All IsLimit (limits_from v entries own rest)
    → (k : ℕ) → k < listed_count v entries → IsLimit (word_at rest (4 * k))
listed-fit version.One entries own rest fit k low = absurd (omega (arith, low))
listed-fit version.Two entries own rest fit k low =
    let size = length-words_in entries rest in
    let here = fit k 0 (omega (arith, low, size)) in
    let is : slice_index (words_in entries rest) k ≡ word_at rest (4 * k) = get_or-words_in entries rest k low in
    subst IsLimit is here

-- the header's own number, and the limits that are listed
pub own-from : (v : Version) (entries own : ℕ) (rest : List ℕ) → 1 ≤ entries
    → own_number v (slice_index (limits_from v entries own rest) 0) (read_only_by v own) ≡ own
own-from version.One entries own rest some = get_or-replicate entries 0 own 0 (omega (arith, some))
own-from version.Two entries own rest some = refl

pub listed-from : (v : Version) (entries own : ℕ) (rest : List ℕ) → limit_list v (limits_from v entries own rest) ≡ words_in (listed_count v entries) rest
unfolding words_in
listed-from version.One entries own rest = refl
listed-from version.Two entries own rest = refl

-- an image's limits and its read-only words, by what its file says
pub length-listed : (v : Version) (limits : List ℕ) → length (limit_list v limits) ≡ listed_count v (length limits)
length-listed version.One limits = refl
length-listed version.Two limits = refl

pub All-listed : (P : ℕ → Type 0) (v : Version) (limits : List ℕ) → All P limits → All P (limit_list v limits)
All-listed P version.One limits all = All-nil P
All-listed P version.Two limits all = all

pub limits-back : (v : Version) (entries read_only : ℕ) (limits : List ℕ) → (v ≡ version.One → limits ≡ replicate entries (slice_index limits 0))
    → limits_by v entries (own_number v (slice_index limits 0) read_only) (limit_list v limits) ≡ limits
limits-back version.One entries read_only limits shared = sym (shared refl)
limits-back version.Two entries read_only limits shared = refl

pub read_only-back : (v : Version) (limit read_only : ℕ) → (v ≡ version.One → read_only ≡ 0) → read_only_by v (own_number v limit read_only) ≡ read_only
read_only-back version.One limit read_only nothing = sym (nothing refl)
read_only-back version.Two limit read_only nothing = refl

-- an image's own number fits a word
pub own-few : (v : Version) (limit read_only most : ℕ) → limit ≤ most → read_only ≤ most → own_number v limit read_only ≤ most
own-few version.One limit read_only most limit_few read_only_few = limit_few
own-few version.Two limit read_only most limit_few read_only_few = read_only_few
