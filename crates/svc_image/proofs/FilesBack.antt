-- Each image's file holds that image.
use Rattle.std.proofs.Common.{◌≡◌, ℕ, ◌+◌, ◌*◌, ◌^◌, ◌<◌, true, List, [], ◌++◌, length, drop, slice_index, nat_eq, refl, sym, ◌∙◌, ap, subst, arith, None}
use Rattle.std.proofs.lemmas.List.{append-nil, append_assoc, drop-drop, length-append}
use Rattle.std.specs.List.{starts_with}
use Rattle.byteorder.specs.Numbers.{little_number-reads_back}
use Rattle.svc_image.specs.Format.{magic, fault, file_of, own_of, bytes_of_half, bytes_of_word, bytes_of_words, half_at, word_at, words_in, number_in, version_in, entry_count_in, text_count_in, data_count_in, own_in, start_in, registers_in, entries_in, limits_place, listed_in, limits_in, text_place, data_place}
use Rattle.svc_image.specs.declared.version.Version.{Version}
use Rattle.svc_image.specs.Version.{version_number, is_known, version_of, read_only_by, limit_list, listed_count, limits_by}
use Rattle.svc_image.specs.Image.{Image, IsImage, AreWords, is_entry}
use Rattle.svc_image.specs.Reading.{header_bytes, header_of, image_in}
use Rattle.svc_image.proofs.Files.{IsSound, none-from-sound}
use Rattle.svc_image.proofs.Flags.{found-All}
use Rattle.svc_image.proofs.Versions.{version-number, known-number, number-few, length-listed, All-listed, limits-back, read_only-back, own-few}
use Rattle.svc_image.proofs.Wordwise.{length-bytes_of_words, words_in-bytes_of_words, drop-bytes_of_words}

-- the parts of a file, from its end
abbrev text_bytes : Image → List ℕ
text_bytes img = bytes_of_words img.text ++ bytes_of_words img.words

abbrev limits_bytes : Image → List ℕ
limits_bytes img = bytes_of_words (limit_list img.version img.limits) ++ text_bytes img

abbrev entries_bytes : Image → List ℕ
entries_bytes img = bytes_of_words img.entries ++ limits_bytes img

abbrev registers_bytes : Image → List ℕ
registers_bytes img = bytes_of_words img.registers ++ entries_bytes img

-- the numbers of the header
entry_count-file : (img : Image) → length img.entries < 2 ^ 16 → entry_count_in (file_of img) ≡ length img.entries
unfolding file_of bytes_of_half half_at
entry_count-file img fits = little_number-reads_back 2 (length img.entries) [] fits

text_count-file : (img : Image) → length img.text < 2 ^ 32 → text_count_in (file_of img) ≡ length img.text
unfolding file_of bytes_of_half bytes_of_word word_at
text_count-file img fits = little_number-reads_back 4 (length img.text) [] fits

data_count-file : (img : Image) → length img.words < 2 ^ 32 → data_count_in (file_of img) ≡ length img.words
unfolding file_of bytes_of_half bytes_of_word word_at
data_count-file img fits = little_number-reads_back 4 (length img.words) [] fits

own-file : (img : Image) → own_of img < 2 ^ 32 → own_in (file_of img) ≡ own_of img
unfolding file_of bytes_of_half bytes_of_word word_at
own-file img fits = little_number-reads_back 4 (own_of img) [] fits

start-file : (img : Image) → img.start < 2 ^ 32 → start_in (file_of img) ≡ img.start
unfolding file_of bytes_of_half bytes_of_word word_at
start-file img fits = little_number-reads_back 4 img.start [] fits

number-file : (img : Image) → number_in (file_of img) ≡ version_number img.version
unfolding file_of bytes_of_half half_at
number-file img = little_number-reads_back 2 (version_number img.version) [] (let few = number-few img.version in omega (arith, few))

version-file : (img : Image) → version_in (file_of img) ≡ img.version
version-file img = ap version_of (number-file img) ∙ version-number img.version

begins-file : (img : Image) → starts_with nat_eq (file_of img) magic ≡ true
unfolding file_of
begins-file img = refl

-- what follows the header
drop-24 : (img : Image) → drop 24 (file_of img) ≡ registers_bytes img
unfolding file_of bytes_of_half bytes_of_word
drop-24 img = refl

length-header : (img : Image) → length (file_of img) ≡ 24 + length (registers_bytes img)
unfolding file_of bytes_of_half bytes_of_word
length-header img = omega arith

drop-148 : (img : Image) → IsImage img → drop 148 (file_of img) ≡ entries_bytes img
drop-148 img sound =
    sym (drop-drop 124 24 (file_of img)) ∙ ap (λ (r : List ℕ). drop 124 r) (drop-24 img)
    ∙ drop-bytes_of_words img.registers (entries_bytes img) 124 (omega (arith, sound.registers_all))

drop-limits : (img : Image) → IsImage img → drop (limits_place (file_of img)) (file_of img) ≡ limits_bytes img
drop-limits img sound =
    let count = entry_count-file img (omega (arith, sound.entries_few)) in
    sym (drop-drop (4 * entry_count_in (file_of img)) 148 (file_of img)) ∙ ap (λ (r : List ℕ). drop (4 * entry_count_in (file_of img)) r) (drop-148 img sound)
    ∙ drop-bytes_of_words img.entries (limits_bytes img) (4 * entry_count_in (file_of img)) (omega (arith, count))

-- as many limits are listed as the file says
listed-file : (img : Image) → IsImage img → listed_in (file_of img) ≡ length (limit_list img.version img.limits)
listed-file img sound =
    ap (λ (v : Version). listed_count v (entry_count_in (file_of img))) (version-file img)
    ∙ ap (listed_count img.version) (entry_count-file img (omega (arith, sound.entries_few)) ∙ sym sound.limits_each)
    ∙ sym (length-listed img.version img.limits)

drop-text : (img : Image) → IsImage img → drop (text_place (file_of img)) (file_of img) ≡ text_bytes img
drop-text img sound =
    let count = listed-file img sound in
    sym (drop-drop (4 * listed_in (file_of img)) (limits_place (file_of img)) (file_of img)) ∙ ap (λ (r : List ℕ). drop (4 * listed_in (file_of img)) r) (drop-limits img sound)
    ∙ drop-bytes_of_words (limit_list img.version img.limits) (text_bytes img) (4 * listed_in (file_of img)) (omega (arith, count))

drop-data : (img : Image) → IsImage img → drop (data_place (file_of img)) (file_of img) ≡ bytes_of_words img.words
drop-data img sound =
    let count = text_count-file img (omega (arith, sound.text_few)) in
    sym (drop-drop (4 * text_count_in (file_of img)) (text_place (file_of img)) (file_of img))
    ∙ ap (λ (r : List ℕ). drop (4 * text_count_in (file_of img)) r) (drop-text img sound)
    ∙ drop-bytes_of_words img.text (bytes_of_words img.words) (4 * text_count_in (file_of img)) (omega (arith, count))

-- entries and start are within the text, so they fit a word
entries-fit : (img : Image) → IsImage img → AreWords img.entries
entries-fit img sound = λ k d low. let placed = sound.entries_placed k d low in omega (arith, placed.1, sound.text_few)

-- the start is an entry, so it fits too
start-fits : (img : Image) → IsImage img → img.start < 2 ^ 32
unfolding is_entry
start-fits img sound = found-All (λ (x : ℕ). x < 2 ^ 32) img.entries img.start (entries-fit img sound) sound.start_entry

-- limits fit a word, and so does the header's own number
limits-words : (img : Image) → IsImage img → AreWords img.limits
limits-words img sound = λ k d low. let fit = sound.limits_fit k d low in omega (arith, fit.1)

own-fits : (img : Image) → IsImage img → own_of img < 2 ^ 32
own-fits img sound =
    let first = sound.limits_fit 0 0 (omega (arith, sound.limits_each, sound.entries_some)) in
    let few = own-few img.version (slice_index img.limits 0) img.read_only 65536 first.1 (omega (arith, sound.read_only_few, sound.words_few)) in
    omega (arith, few)

-- the limits of a file
limits-file : (img : Image) → IsImage img → limits_in (file_of img) ≡ img.limits
limits-file img sound =
    let own = own-file img (own-fits img sound) in
    let entries = entry_count-file img (omega (arith, sound.entries_few)) in
    let found : words_in (listed_in (file_of img)) (drop (limits_place (file_of img)) (file_of img)) ≡ limit_list img.version img.limits =
    ap (λ (n : ℕ). words_in n (drop (limits_place (file_of img)) (file_of img))) (listed-file img sound)
    ∙ ap (λ (r : List ℕ). words_in (length (limit_list img.version img.limits)) r) (drop-limits img sound)
    ∙ words_in-bytes_of_words (limit_list img.version img.limits) (text_bytes img) (All-listed (λ x. x < 2 ^ 32) img.version img.limits (limits-words img sound)) in
    (λ i. limits_by (version-file img i) (entries i) (own i) (found i))
    ∙ limits-back img.version (length img.entries) img.read_only img.limits (λ is. (sound.first is).shared)

-- and its read-only words
read_only-file : (img : Image) → IsImage img → read_only_by (version_in (file_of img)) (own_in (file_of img)) ≡ img.read_only
read_only-file img sound =
    let own = own-file img (own-fits img sound) in
    (λ i. read_only_by (version-file img i) (own i))
    ∙ read_only-back img.version (slice_index img.limits 0) img.read_only (λ is. (sound.first is).nothing)

-- a file holds its image
pub image_in-file_of : (img : Image) → IsImage img → image_in (file_of img) ≡ img
unfolding image_in
image_in-file_of img sound =
    let version = version-file img in
    let read_only = read_only-file img sound in
    let limits = limits-file img sound in
    let start = start-file img (start-fits img sound) in
    let registers : registers_in (file_of img) ≡ img.registers =
    ap (λ (r : List ℕ). words_in 31 r) (drop-24 img) ∙ ap (λ (n : ℕ). words_in n (registers_bytes img)) (sym sound.registers_all)
    ∙ words_in-bytes_of_words img.registers (entries_bytes img) sound.registers_fit in
    let entries : entries_in (file_of img) ≡ img.entries =
    ap (λ (n : ℕ). words_in n (drop 148 (file_of img))) (entry_count-file img (omega (arith, sound.entries_few)))
    ∙ ap (λ (r : List ℕ). words_in (length img.entries) r) (drop-148 img sound)
    ∙ words_in-bytes_of_words img.entries (limits_bytes img) (entries-fit img sound) in
    let text : words_in (text_count_in (file_of img)) (drop (text_place (file_of img)) (file_of img)) ≡ img.text =
    ap (λ (n : ℕ). words_in n (drop (text_place (file_of img)) (file_of img))) (text_count-file img (omega (arith, sound.text_few)))
    ∙ ap (λ (r : List ℕ). words_in (length img.text) r) (drop-text img sound)
    ∙ words_in-bytes_of_words img.text (bytes_of_words img.words) sound.text_fits in
    let words : words_in (data_count_in (file_of img)) (drop (data_place (file_of img)) (file_of img)) ≡ img.words =
    ap (λ (n : ℕ). words_in n (drop (data_place (file_of img)) (file_of img))) (data_count-file img (omega (arith, sound.words_few)))
    ∙ ap (λ (r : List ℕ). words_in (length img.words) r) (drop-data img sound ∙ sym (append-nil (bytes_of_words img.words)))
    ∙ words_in-bytes_of_words img.words [] sound.words_fit in
    λ i. record { version = version i; read_only = read_only i; start = start i; registers = registers i; entries = entries i; limits = limits i; text = text i; words = words i }

-- and has no fault
pub sound-file_of : (img : Image) → IsImage img → IsSound (file_of img)
sound-file_of img sound =
    let entry_count = entry_count-file img (omega (arith, sound.entries_few)) in
    let text_count = text_count-file img (omega (arith, sound.text_few)) in
    let data_count = data_count-file img (omega (arith, sound.words_few)) in
    let size = length-header img in
    let registers = length-append (bytes_of_words img.registers) (entries_bytes img) in
    let entries = length-append (bytes_of_words img.entries) (limits_bytes img) in
    let limits = length-append (bytes_of_words (limit_list img.version img.limits)) (text_bytes img) in
    let listed_count = listed-file img sound in
    let text = length-append (bytes_of_words img.text) (bytes_of_words img.words) in
    record {
      size = omega (arith, entry_count, text_count, data_count, listed_count, size, registers, entries, limits, text, sound.registers_all, length-bytes_of_words img.registers, length-bytes_of_words img.entries, length-bytes_of_words (limit_list img.version img.limits), length-bytes_of_words img.text, length-bytes_of_words img.words);
      begins = begins-file img;
      version = ap is_known (number-file img) ∙ known-number img.version;
      image = subst (λ (x : Image). IsImage x) (sym (image_in-file_of img sound)) sound;
    }

-- the file of an image has no fault
pub fault-file_of : (img : Image) → IsImage img → fault (file_of img) ≡ None
fault-file_of img sound = none-from-sound (file_of img) (sound-file_of img sound)

-- a header and five runs of words, put one behind another, are the file
pub put-file_of : (img : Image) → header_bytes (header_of img) ++ bytes_of_words img.registers ++ bytes_of_words img.entries ++ bytes_of_words (limit_list img.version img.limits) ++ bytes_of_words img.text ++ bytes_of_words img.words ≡ file_of img
unfolding file_of
put-file_of img = simp append_assoc refl
