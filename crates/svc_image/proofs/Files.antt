-- Bytes without fault are the files of images, and each image's file is such bytes.
use Rattle.std.proofs.Common.{◌≡◌, ℕ, zero, suc, ◌+◌, ◌*◌, ◌%◌, ◌<◌, ◌≤◌, true, false, not, List, [], ◌∷◌, ◌++◌, length, drop, None, nat_eq, nat_lt, replicate, slice_index, slice_index_or, refl, sym, ◌∙◌, ap, subst, arith, add-one}
use Rattle.std.proofs.lemmas.Bool.{not-false, eqb-true, eq-eqb, leb-false, lt-leb, ltb-false, ltb-true, lt-ltb, le-ltb, and_parts, and_from}
use Rattle.std.proofs.lemmas.Bool.Decides.{Decides-eqb}
use Rattle.std.proofs.lemmas.List.{append-nil, drop_all, get_or_default}
use Rattle.std.proofs.lemmas.Slice.Eq.{starts_is}
use Rattle.std.specs.List.{starts_with}
use Rattle.svc_image.specs.Format.{Check, magic, first_of, fault, file_of, own_of, version_checks, count_checks, header_checks, entry_checks, start_checks, limit_checks, end_checks, bytes_of_half, bytes_of_word, bytes_of_words, word_at, words_in, number_in, version_in, entry_count_in, text_count_in, data_count_in, own_in, is_own_outside, start_in, registers_in, entry_in, entries_in, limits_place, listed_in, limit_in, limits_in, text_place, data_place, end_place, falls, is_misplaced}
use Rattle.svc_image.specs.Version.{version_number, is_known, limit_list, read_only_by}
use Rattle.svc_image.specs.Image.{IsImage, StartsWord, IsLimit, is_entry}
use Rattle.svc_image.specs.Reading.{image_in}
use Rattle.svc_image.proofs.Checks.{first_of-cons, each-one, each-all, outside-false, inside-outside, fault-parts, fault-end, has_start, start-None, end-None}
use Rattle.svc_image.proofs.Chunks.{half-chunk, word-chunk, words-chunk}
use Rattle.svc_image.proofs.Versions.{number-known, limits-each, limits-fit, read_only-few, first-nothing, first-shared, own-inside, listed-fit, own-from, listed-from}
use Rattle.svc_image.proofs.Wordwise.{AreBytes, bytes-drop, length-words_in, get_or-words_in, words_in-fit, word_at-rest}

-- bytes that are the file of an image
pub record IsSound (bytes : List ℕ) : Type 0 where
  pub size : length bytes ≡ end_place bytes
  pub begins : starts_with nat_eq bytes magic ≡ true
  pub version : is_known (number_in bytes) ≡ true
  pub image : IsImage (image_in bytes)

-- what a header without fault says
record IsHeader (bytes : List ℕ) : Type 0 where
  begins : starts_with nat_eq bytes magic ≡ true
  version : is_known (number_in bytes) ≡ true
  entries : (1 ≤ entry_count_in bytes) × (entry_count_in bytes ≤ 1024)
  text : (1 ≤ text_count_in bytes) × (text_count_in bytes ≤ 65536)
  words : (1 ≤ data_count_in bytes) × (data_count_in bytes ≤ 65536)
  own : is_own_outside (version_in bytes) (data_count_in bytes) (own_in bytes) ≡ false
  whole : 148 ≤ length bytes

-- each check in a row passes, where none is a fault
pub passes : (checks : List Check) (k : ℕ) (d : Check) → k < length checks → first_of checks ≡ None → (slice_index_or checks k d).0 ≡ false
passes [] k d low none = absurd (omega (arith, low))
passes (check ∷ rest) zero d low none = (first_of-cons check.0 check.1 (first_of rest) none).0
passes (check ∷ rest) (suc k) d low none = passes rest k d (omega (arith, low)) (first_of-cons check.0 check.1 (first_of rest) none).1

header-facts : (bytes : List ℕ) (d : Check) → first_of (header_checks bytes) ≡ None → IsHeader bytes
unfolding header_checks version_checks count_checks
header-facts bytes d none =
    let at : (k : ℕ) → k < 14 → (slice_index_or (header_checks bytes) k d).0 ≡ false = λ k low. passes (header_checks bytes) k d low none in
    record {
      begins = not-false (starts_with nat_eq bytes magic) (at 1 (omega arith));
      version = not-false (is_known (number_in bytes)) (at 3 (omega arith));
      entries = outside-false 1024 (entry_count_in bytes) (at 5 (omega arith));
      text = outside-false 65536 (text_count_in bytes) (at 7 (omega arith));
      words = outside-false 65536 (data_count_in bytes) (at 9 (omega arith));
      own = at 11 (omega arith);
      whole = ltb-false (length bytes) 148 (at 13 (omega arith));
    }

-- an entry as it stands among the entries
entry-is : (bytes : List ℕ) (k : ℕ) → k < entry_count_in bytes → slice_index (entries_in bytes) k ≡ entry_in bytes k
entry-is bytes k low = get_or-words_in (entry_count_in bytes) (drop 148 bytes) k low ∙ word_at-rest bytes 148 (4 * k)

-- what the checks of an entry say
entry-rises : (bytes : List ℕ) (k : ℕ) (d : Check) → first_of (entry_checks bytes (suc k)) ≡ None → entry_in bytes k < entry_in bytes (suc k)
unfolding entry_checks
entry-rises bytes k d none = leb-false (entry_in bytes (suc k)) (entry_in bytes k) (passes (entry_checks bytes (suc k)) 1 d (omega arith) none)

entry-placed : (bytes : List ℕ) (k : ℕ) (d : Check) → first_of (entry_checks bytes k) ≡ None → StartsWord (text_count_in bytes) (entry_in bytes k)
unfolding entry_checks
entry-placed bytes k d none =
    let parts = and_parts (nat_eq (entry_in bytes k % 4) 0) (nat_lt (entry_in bytes k) (4 * text_count_in bytes)) (not-false _ (passes (entry_checks bytes k) 2 d (omega arith) none)) in
    (eqb-true (entry_in bytes k % 4) 0 parts.0, ltb-true (entry_in bytes k) (4 * text_count_in bytes) parts.1)

-- what the check of the start says
start-facts : (bytes : List ℕ) (d : Check) → first_of (start_checks bytes) ≡ None → has_start bytes ≡ true
unfolding start_checks
start-facts bytes d none = not-false (has_start bytes) (passes (start_checks bytes) 0 d (omega arith) none)

-- what the checks of a limit say: it stands after the entries
limit-fits : (bytes : List ℕ) (k : ℕ) (d : Check) → first_of (limit_checks bytes k) ≡ None → IsLimit (word_at (drop (limits_place bytes) bytes) (4 * k))
unfolding limit_checks
limit-fits bytes k d none = rw (word_at-rest bytes (limits_place bytes) (4 * k)) (outside-false 65536 (limit_in bytes k) (passes (limit_checks bytes k) 1 d (omega arith) none))

-- the last checks
end-facts : (bytes : List ℕ) (d : Check) → first_of (end_checks bytes) ≡ None → length bytes ≡ end_place bytes
unfolding end_checks
end-facts bytes d none =
    let whole = ltb-false (length bytes) (end_place bytes) (passes (end_checks bytes) 0 d (omega arith) none) in
    let over = ltb-false (end_place bytes) (length bytes) (passes (end_checks bytes) 1 d (omega arith) none) in
    omega (arith, whole, over)

-- bytes without fault hold an image
pub sound-from-none : (bytes : List ℕ) (d : Check) → AreBytes bytes → fault bytes ≡ None → IsSound bytes
unfolding image_in is_entry
sound-from-none bytes d small none =
    let parts = fault-parts bytes none in
    let header = header-facts bytes d parts.front.header in
    let start = start-facts bytes d parts.start in
    let end = end-facts bytes d parts.end in
    let entry : (k : ℕ) → k < entry_count_in bytes → first_of (entry_checks bytes k) ≡ None = λ k low. each-one (entry_checks bytes) (entry_count_in bytes) k low parts.front.entries in
    let limit : (k : ℕ) → k < listed_in bytes → IsLimit (word_at (drop (limits_place bytes) bytes) (4 * k)) = λ k low. limit-fits bytes k d (each-one (limit_checks bytes) (listed_in bytes) k low parts.limits) in
    let after : List ℕ = drop (limits_place bytes) bytes in
    let limits = limits-each (version_in bytes) (entry_count_in bytes) (own_in bytes) after in
    let entry_count = length-words_in (entry_count_in bytes) (drop 148 bytes) in
    let text_count = length-words_in (text_count_in bytes) (drop (text_place bytes) bytes) in
    let data_count = length-words_in (data_count_in bytes) (drop (data_place bytes) bytes) in
    record {
      size = end;
      begins = header.begins;
      version = header.version;
      image = record {
        first = λ is. record {
          nothing = first-nothing (version_in bytes) (own_in bytes) is;
          shared = first-shared (version_in bytes) (entry_count_in bytes) (own_in bytes) after header.entries.0 is ∙ ap (λ (n : ℕ). replicate n (slice_index (limits_in bytes) 0)) (sym entry_count);
        };
        read_only_few = let few = read_only-few (version_in bytes) (data_count_in bytes) (own_in bytes) header.own in rw data_count few;
        limits_each = limits ∙ sym entry_count;
        limits_fit = limits-fit (version_in bytes) (entry_count_in bytes) (own_in bytes) (data_count_in bytes) after header.own limit;
        registers_all = length-words_in 31 (drop 24 bytes);
        registers_fit = words_in-fit 31 (drop 24 bytes) (bytes-drop 24 bytes small);
        entries_some = omega (arith, entry_count, header.entries);
        entries_few = omega (arith, entry_count, header.entries);
        entries_rise = λ k low.
            let inside : suc k < entry_count_in bytes = omega (arith, entry_count, low) in
            rw (add-one, entry-is bytes k (omega (arith, inside)), entry-is bytes (suc k) inside) (entry-rises bytes k d (entry (suc k) inside));
        entries_placed = λ k e low.
            let inside : k < entry_count_in bytes = omega (arith, entry_count, low) in
            rw (get_or_default (entries_in bytes) k e 0 low, entry-is bytes k inside, text_count) (entry-placed bytes k d (entry k inside));
        start_entry = start;
        text_some = omega (arith, text_count, header.text);
        text_few = omega (arith, text_count, header.text);
        text_fits = words_in-fit (text_count_in bytes) (drop (text_place bytes) bytes) (bytes-drop (text_place bytes) bytes small);
        words_some = omega (arith, data_count, header.words);
        words_few = omega (arith, data_count, header.words);
        words_fit = words_in-fit (data_count_in bytes) (drop (data_place bytes) bytes) (bytes-drop (data_place bytes) bytes small);
      };
    }

-- a header that holds an image's numbers has no fault
header-none : (bytes : List ℕ) → IsHeader bytes → first_of (header_checks bytes) ≡ None
unfolding header_checks version_checks count_checks
header-none bytes header =
    let whole : (n : ℕ) → n ≤ 148 → nat_lt (length bytes) n ≡ false = λ n low. le-ltb (length bytes) n (omega (arith, low, header.whole)) in
    let begins : starts_with nat_eq bytes magic ≡ true = header.begins in
    let entries = inside-outside 1024 (entry_count_in bytes) header.entries.0 header.entries.1 in
    let text = inside-outside 65536 (text_count_in bytes) header.text.0 header.text.1 in
    let words = inside-outside 65536 (data_count_in bytes) header.words.0 header.words.1 in
    rw (whole 4 (omega arith), begins, whole 6 (omega arith), header.version, whole 8 (omega arith), entries, whole 12 (omega arith), text, whole 16 (omega arith), words, whole 20 (omega arith), header.own, whole 24 (omega arith), whole 148 (omega arith)) refl

-- an entry in its place has no fault
entry-none : (bytes : List ℕ) (k : ℕ) → 148 + 4 * k + 4 ≤ length bytes → falls (entry_in bytes) k ≡ false → StartsWord (text_count_in bytes) (entry_in bytes k)
    → first_of (entry_checks bytes k) ≡ None
unfolding entry_checks
entry-none bytes k whole rises starts =
    let room : nat_lt (length bytes) (148 + 4 * k + 4) ≡ false = le-ltb (length bytes) (148 + 4 * k + 4) (omega (arith, whole)) in
    let placed : is_misplaced (text_count_in bytes) (entry_in bytes k) ≡ false = ap not (and_from _ _ (eq-eqb (entry_in bytes k % 4) 0 starts.0) (lt-ltb (entry_in bytes k) (4 * text_count_in bytes) starts.1)) in
    rw (room, rises, placed) refl

-- where each entry is above the one before it, none falls
rising-entry : (bytes : List ℕ) (k : ℕ) → ((j : ℕ) → suc j ≡ k → entry_in bytes j < entry_in bytes k) → falls (entry_in bytes) k ≡ false
rising-entry bytes zero rises = refl
rising-entry bytes (suc j) rises = lt-leb (entry_in bytes (suc j)) (entry_in bytes j) (rises j refl)

-- a limit that is whole passes
limit-none : (bytes : List ℕ) (k : ℕ) → limits_place bytes + 4 * k + 4 ≤ length bytes → IsLimit (word_at (drop (limits_place bytes) bytes) (4 * k)) → first_of (limit_checks bytes k) ≡ None
unfolding limit_checks
limit-none bytes k whole fits =
    let here : IsLimit (limit_in bytes k) = subst IsLimit (word_at-rest bytes (limits_place bytes) (4 * k)) fits in
    rw (le-ltb (length bytes) (limits_place bytes + 4 * k + 4) whole, inside-outside 65536 (limit_in bytes k) here.0 here.1) refl

-- bytes that hold an image have no fault
pub none-from-sound : (bytes : List ℕ) → IsSound bytes → fault bytes ≡ None
unfolding image_in is_entry
none-from-sound bytes sound =
    let image : IsImage (image_in bytes) = sound.image in
    let entry_count = length-words_in (entry_count_in bytes) (drop 148 bytes) in
    let text_count = length-words_in (text_count_in bytes) (drop (text_place bytes) bytes) in
    let data_count = length-words_in (data_count_in bytes) (drop (data_place bytes) bytes) in
    let size : length bytes ≡ end_place bytes = sound.size in
    let after : List ℕ = drop (limits_place bytes) bytes in
    let read_only_few : read_only_by (version_in bytes) (own_in bytes) ≤ length (words_in (data_count_in bytes) (drop (data_place bytes) bytes)) = image.read_only_few in
    let entries_some : 1 ≤ length (entries_in bytes) = image.entries_some in
    let entries_few : length (entries_in bytes) ≤ 1024 = image.entries_few in
    let text_some : 1 ≤ length (words_in (text_count_in bytes) (drop (text_place bytes) bytes)) = image.text_some in
    let text_few : length (words_in (text_count_in bytes) (drop (text_place bytes) bytes)) ≤ 65536 = image.text_few in
    let words_some : 1 ≤ length (words_in (data_count_in bytes) (drop (data_place bytes) bytes)) = image.words_some in
    let words_few : length (words_in (data_count_in bytes) (drop (data_place bytes) bytes)) ≤ 65536 = image.words_few in
    let header : IsHeader bytes = record {
      begins = sound.begins;
      version = sound.version;
      own = own-inside (version_in bytes) (entry_count_in bytes) (own_in bytes) (data_count_in bytes) after (omega (arith, entry_count, entries_some)) image.limits_fit (omega (arith, data_count, read_only_few));
      entries = (omega (arith, entry_count, entries_some), omega (arith, entry_count, entries_few));
      text = (omega (arith, text_count, text_some), omega (arith, text_count, text_few));
      words = (omega (arith, data_count, words_some), omega (arith, data_count, words_few));
      whole = omega (arith, size);
    } in
    let placed : (k : ℕ) → k < entry_count_in bytes → StartsWord (text_count_in bytes) (entry_in bytes k) = λ k low.
    let inside : k < length (entries_in bytes) = omega (arith, entry_count, low) in
    let starts : StartsWord (length (words_in (text_count_in bytes) (drop (text_place bytes) bytes))) (slice_index (entries_in bytes) k) = image.entries_placed k 0 inside in
    rw (text_count, entry-is bytes k low) at starts in
    let rises : (k : ℕ) → k < entry_count_in bytes → (j : ℕ) → suc j ≡ k → entry_in bytes j < entry_in bytes k = λ k low j next.
    let before : j < entry_count_in bytes = omega (arith, low, next) in
    let up : slice_index (entries_in bytes) j < slice_index (entries_in bytes) (j + 1) = image.entries_rise j (omega (arith, entry_count, low, next)) in
    let place : j + 1 ≡ k = omega (arith, next) in
    rw (place, entry-is bytes j before, entry-is bytes k low) at up in
    let entries = each-all (entry_checks bytes) (entry_count_in bytes) (λ k low. entry-none bytes k (omega (arith, size, low)) (rising-entry bytes k (rises k low)) (placed k low)) in
    let fits : (k : ℕ) → k < listed_in bytes → IsLimit (word_at after (4 * k)) = listed-fit (version_in bytes) (entry_count_in bytes) (own_in bytes) after image.limits_fit in
    let limits = each-all (limit_checks bytes) (listed_in bytes) (λ k low. limit-none bytes k (omega (arith, size, low)) (fits k low)) in
    fault-end bytes (record { header = header-none bytes header; entries = entries }) (start-None bytes image.start_entry) limits ∙ end-None bytes size

-- bytes that begin with the magic
begins-magic : (bytes : List ℕ) → starts_with nat_eq bytes magic ≡ true → magic ++ drop 4 bytes ≡ bytes
begins-magic bytes begins = sym ((starts_is Decides-eqb bytes magic (starts_with nat_eq bytes magic) refl).0 begins)

-- bytes that hold an image are its file
pub file_of-image_in : (bytes : List ℕ) → AreBytes bytes → IsSound bytes → file_of (image_in bytes) ≡ bytes
unfolding file_of image_in
file_of-image_in bytes small sound =
    let size : length bytes ≡ end_place bytes = sound.size in
    let entry_words : List ℕ = entries_in bytes in
    let text_words : List ℕ = words_in (text_count_in bytes) (drop (text_place bytes) bytes) in
    let data_words : List ℕ = words_in (data_count_in bytes) (drop (data_place bytes) bytes) in
    let after : List ℕ = drop (limits_place bytes) bytes in
    let listed_words : List ℕ = words_in (listed_in bytes) after in
    let some : 1 ≤ entry_count_in bytes = let some : 1 ≤ length (entries_in bytes) = sound.image.entries_some in omega (arith, some, length-words_in (entry_count_in bytes) (drop 148 bytes)) in
    let nothing : drop (end_place bytes) bytes ≡ [] = drop_all (end_place bytes) bytes (omega (arith, size)) in
    let words_part = sym (append-nil (bytes_of_words data_words)) ∙ ap (λ (r : List ℕ). bytes_of_words data_words ++ r) (sym nothing)
    ∙ words-chunk (data_count_in bytes) bytes (data_place bytes) (end_place bytes) refl (omega (arith, size)) small in
    let text_part = ap (λ (r : List ℕ). bytes_of_words text_words ++ r) words_part
    ∙ words-chunk (text_count_in bytes) bytes (text_place bytes) (data_place bytes) refl (omega (arith, size)) small in
    let limits_part = ap (λ (r : List ℕ). bytes_of_words (limit_list (version_in bytes) (limits_in bytes)) ++ r) text_part
    ∙ ap (λ (xs : List ℕ). bytes_of_words xs ++ drop (text_place bytes) bytes) (listed-from (version_in bytes) (entry_count_in bytes) (own_in bytes) after)
    ∙ words-chunk (listed_in bytes) bytes (limits_place bytes) (text_place bytes) refl (omega (arith, size)) small in
    let entries_part = ap (λ (r : List ℕ). bytes_of_words entry_words ++ r) limits_part
    ∙ words-chunk (entry_count_in bytes) bytes 148 (limits_place bytes) refl (omega (arith, size)) small in
    let registers_part = ap (λ (r : List ℕ). bytes_of_words (registers_in bytes) ++ r) entries_part
    ∙ words-chunk 31 bytes 24 148 refl (omega (arith, size)) small in
    let start_part = ap (λ (r : List ℕ). bytes_of_word (start_in bytes) ++ r) registers_part ∙ word-chunk bytes 20 24 refl (omega (arith, size)) small in
    let own_part = ap (λ (r : List ℕ). bytes_of_word (own_of (image_in bytes)) ++ r) start_part
    ∙ ap (λ (n : ℕ). bytes_of_word n ++ drop 20 bytes) (own-from (version_in bytes) (entry_count_in bytes) (own_in bytes) after some)
    ∙ word-chunk bytes 16 20 refl (omega (arith, size)) small in
    let data_count_part = ap (λ (r : List ℕ). bytes_of_word (length data_words) ++ r) own_part
    ∙ ap (λ (n : ℕ). bytes_of_word n ++ drop 16 bytes) (length-words_in (data_count_in bytes) (drop (data_place bytes) bytes))
    ∙ word-chunk bytes 12 16 refl (omega (arith, size)) small in
    let text_count_part = ap (λ (r : List ℕ). bytes_of_word (length text_words) ++ r) data_count_part
    ∙ ap (λ (n : ℕ). bytes_of_word n ++ drop 12 bytes) (length-words_in (text_count_in bytes) (drop (text_place bytes) bytes))
    ∙ word-chunk bytes 8 12 refl (omega (arith, size)) small in
    let entry_count_part = ap (λ (r : List ℕ). bytes_of_half (length entry_words) ++ r) text_count_part
    ∙ ap (λ (n : ℕ). bytes_of_half n ++ drop 8 bytes) (length-words_in (entry_count_in bytes) (drop 148 bytes))
    ∙ half-chunk bytes 6 8 refl (omega (arith, size)) small in
    let version_part = ap (λ (r : List ℕ). bytes_of_half (version_number (version_in bytes)) ++ r) entry_count_part
    ∙ ap (λ (n : ℕ). bytes_of_half n ++ drop 6 bytes) (number-known (number_in bytes) sound.version)
    ∙ half-chunk bytes 4 6 refl (omega (arith, size)) small in
    ap (λ (r : List ℕ). magic ++ r) version_part ∙ begins-magic bytes sound.begins
