-- Image files: where each field stands, the bytes of an image, and the first fault of any bytes. Numbers stand lowest
-- byte first. Version 2 differs from version 1 in one number of the header, and lists a limit for each entry after the
-- entries.
use Rattle.std.specs.Prelude.{ℕ, zero, suc, ◌+◌, ◌*◌, ◌%◌, Bool, false, not, ◌&&◌, List, [], ◌∷◌, ◌++◌, length, drop}
use Rattle.std.specs.Prelude.{Option, Some, None, nat_eq, nat_lt, nat_le, ◌==◌, if◌then◌else◌, slice_index}
use Rattle.std.specs.List.{flat_map, list_any, starts_with}
use Rattle.svc_image.specs.declared.layout.TheConstants.{MOST_ENTRIES, MOST_WORDS}
use Rattle.byteorder.specs.Endian.{little_bytes, little_number}
use Rattle.svc_image.specs.declared.error.ImageError.{ImageError}
use Rattle.svc_image.specs.declared.error.ImageError.TheVariants.{Short, Magic, Count, EntryOrder, EntryPlace, Start}
use Rattle.svc_image.specs.declared.error.ImageError.TheVariants.{Trailing}
use Rattle.svc_image.specs.declared.error.ImageError.TheVariants as error
use Rattle.svc_image.specs.declared.version.Version.{Version}
use Rattle.svc_image.specs.declared.version.Version.TheVariants as version
use Rattle.svc_image.specs.Version.{version_number, is_known, version_of, own_number, limit_list, listed_count}
use Rattle.svc_image.specs.Version.{limits_by}
use Rattle.svc_image.specs.Image.{Image}

-- `SVCI`, with which every image begins
abbrev pub magic : List ℕ
magic = 83 ∷ 86 ∷ 67 ∷ 73 ∷ []

-- the bytes of a number of 16 bits, of one of 32 bits, and of words one after another
unfoldable pub bytes_of_half : ℕ → List ℕ
bytes_of_half number = little_bytes 2 number

unfoldable pub bytes_of_word : ℕ → List ℕ
bytes_of_word number = little_bytes 4 number

unfoldable pub bytes_of_words : List ℕ → List ℕ
bytes_of_words words = flat_map bytes_of_word words

-- the number of an image's header that depends on the version
abbrev pub own_of : Image → ℕ
own_of img = own_number img.version (slice_index img.limits 0) img.read_only

-- the bytes of an image: magic, version, the counts of entries, text words and data words, the version's own number,
-- the start, then the registers, the entries, the limits where the version lists them, the text and the data
unfoldable pub file_of : Image → List ℕ
file_of img =
    magic ++ (bytes_of_half (version_number img.version) ++ (bytes_of_half (length img.entries)
    ++ (bytes_of_word (length img.text) ++ (bytes_of_word (length img.words)
    ++ (bytes_of_word (own_of img) ++ (bytes_of_word img.start
    ++ (bytes_of_words img.registers ++ (bytes_of_words img.entries
    ++ (bytes_of_words (limit_list img.version img.limits)
    ++ (bytes_of_words img.text ++ bytes_of_words img.words))))))))))

-- the number of 16 bits, and that of 32 bits, at a place of the file
unfoldable pub half_at : List ℕ → ℕ → ℕ
half_at bytes place = little_number 2 (drop place bytes)

unfoldable pub word_at : List ℕ → ℕ → ℕ
word_at bytes place = little_number 4 (drop place bytes)

-- the first n words of some bytes
unfoldable pub words_in : ℕ → List ℕ → List ℕ
words_in zero bytes = []
words_in (suc n) bytes = word_at bytes 0 ∷ words_in n (drop 4 bytes)

-- the fields of a file, each at its place
abbrev pub number_in : List ℕ → ℕ
number_in bytes = half_at bytes 4

abbrev pub version_in : List ℕ → Version
version_in bytes = version_of (number_in bytes)

abbrev pub entry_count_in : List ℕ → ℕ
entry_count_in bytes = half_at bytes 6

abbrev pub text_count_in : List ℕ → ℕ
text_count_in bytes = word_at bytes 8

abbrev pub data_count_in : List ℕ → ℕ
data_count_in bytes = word_at bytes 12

abbrev pub own_in : List ℕ → ℕ
own_in bytes = word_at bytes 16

abbrev pub start_in : List ℕ → ℕ
start_in bytes = word_at bytes 20

abbrev pub registers_in : List ℕ → List ℕ
registers_in bytes = words_in 31 (drop 24 bytes)

abbrev pub entry_in : List ℕ → ℕ → ℕ
entry_in bytes k = word_at bytes (148 + 4 * k)

abbrev pub entries_in : List ℕ → List ℕ
entries_in bytes = words_in (entry_count_in bytes) (drop 148 bytes)

-- where the limits begin, and how many the file lists
abbrev pub limits_place : List ℕ → ℕ
limits_place bytes = 148 + 4 * entry_count_in bytes

abbrev pub listed_in : List ℕ → ℕ
listed_in bytes = listed_count (version_in bytes) (entry_count_in bytes)

abbrev pub limit_in : List ℕ → ℕ → ℕ
limit_in bytes k = word_at bytes (limits_place bytes + 4 * k)

abbrev pub limits_in : List ℕ → List ℕ
limits_in bytes =
    limits_by (version_in bytes) (entry_count_in bytes) (own_in bytes)
    (words_in (listed_in bytes) (drop (limits_place bytes) bytes))

-- where the text begins, where the data begins, and where the file ends
abbrev pub text_place : List ℕ → ℕ
text_place bytes = limits_place bytes + 4 * listed_in bytes

abbrev pub data_place : List ℕ → ℕ
data_place bytes = text_place bytes + 4 * text_count_in bytes

abbrev pub end_place : List ℕ → ℕ
end_place bytes = data_place bytes + 4 * data_count_in bytes

-- a check of the format: whether the bytes fail it, and the fault that this is
abbrev pub Check : Type 0
Check = Bool × ImageError

-- the fault of the first check that fails
abbrev pub first_of : List Check → Option ImageError
first_of [] = None
first_of (check ∷ rest) = if check.0 then Some check.1 else first_of rest

-- the field that would end at this place isn't whole
abbrev pub ends_before : List ℕ → ℕ → Check
ends_before bytes place = (nat_lt (length bytes) place, Short)

-- a count isn't in the range from 1 to the most
unfoldable pub is_outside : ℕ → ℕ → Bool
is_outside most count = not (nat_le 1 count && nat_le count most)

-- in version 1 the limit is out of its range; in version 2 more words are read-only than there are
abbrev pub is_own_outside : Version → (words own : ℕ) → Bool
is_own_outside version.One words own = is_outside MOST_WORDS own
is_own_outside version.Two words own = nat_lt words own

-- the checks of magic and version; each field is first checked to be whole
unfoldable pub version_checks : List ℕ → List Check
version_checks bytes =
    ends_before bytes 4 ∷ (not (starts_with nat_eq bytes magic), Magic)
    ∷ ends_before bytes 6 ∷ (not (is_known (number_in bytes)), error.Version) ∷ []

-- the checks from there up to the registers; the start is checked after the entries, and a register may hold any value
unfoldable pub count_checks : List ℕ → List Check
count_checks bytes =
    ends_before bytes 8 ∷ (is_outside MOST_ENTRIES (entry_count_in bytes), Count)
    ∷ ends_before bytes 12 ∷ (is_outside MOST_WORDS (text_count_in bytes), Count)
    ∷ ends_before bytes 16 ∷ (is_outside MOST_WORDS (data_count_in bytes), Count)
    ∷ ends_before bytes 20 ∷ (is_own_outside (version_in bytes) (data_count_in bytes) (own_in bytes), Count)
    ∷ ends_before bytes 24
    ∷ ends_before bytes 148 ∷ []

-- the checks of a header
unfoldable pub header_checks : List ℕ → List Check
header_checks bytes = version_checks bytes ++ count_checks bytes

-- the k-th entry isn't above the one before it
abbrev pub falls : (ℕ → ℕ) → ℕ → Bool
falls entry zero = false
falls entry (suc k) = nat_le (entry (suc k)) (entry k)

-- none of so many words of the text starts at an entry
abbrev pub is_misplaced : (words entry : ℕ) → Bool
is_misplaced words entry = not (entry % 4 == 0 && nat_lt entry (4 * words))

-- the checks of the k-th entry
unfoldable pub entry_checks : List ℕ → ℕ → List Check
entry_checks bytes k =
    ends_before bytes (148 + 4 * k + 4) ∷ (falls (entry_in bytes) k, EntryOrder)
    ∷ (is_misplaced (text_count_in bytes) (entry_in bytes k), EntryPlace) ∷ []

-- the checks of the first n of a run, in turn
unfoldable pub each_of : (ℕ → List Check) → ℕ → List Check
each_of checks zero = []
each_of checks (suc k) = each_of checks k ++ checks k

-- the check of the start
unfoldable pub start_checks : List ℕ → List Check
start_checks bytes = (not (list_any (λ e. e == start_in bytes) (entries_in bytes)), Start) ∷ []

-- the checks of the k-th limit
unfoldable pub limit_checks : List ℕ → ℕ → List Check
limit_checks bytes k =
    ends_before bytes (limits_place bytes + 4 * k + 4) ∷ (is_outside MOST_WORDS (limit_in bytes k), Count) ∷ []

-- the last checks: that text and data are whole, and that nothing follows
unfoldable pub end_checks : List ℕ → List Check
end_checks bytes = ends_before bytes (end_place bytes) ∷ (nat_lt (end_place bytes) (length bytes), Trailing) ∷ []

-- the checks of each part of a file, in turn: the start comes after the last entry and before the limits
abbrev pub checks_after_entries : List ℕ → List Check
checks_after_entries bytes = start_checks bytes ++ (each_of (limit_checks bytes) (listed_in bytes) ++ end_checks bytes)

-- the first fault of any bytes
unfoldable pub fault : List ℕ → Option ImageError
fault bytes =
    first_of
    (header_checks bytes ++ (each_of (entry_checks bytes) (entry_count_in bytes) ++ checks_after_entries bytes))
