-- What the steps of the loader answer.
use Rattle.std.specs.Prelude.{ℕ, ◌+◌, ◌*◌, ◌≤◌, ◌++◌, List, length, drop, Option, Some, None, Result, Ok, Err}
use Rattle.svc_image.specs.declared.layout.TheConstants.{MOST_ENTRIES, MOST_WORDS}
use Rattle.svc_image.specs.declared.error.ImageError.{ImageError}
use Rattle.svc_image.specs.declared.header.Header.{Header}
use Rattle.svc_image.specs.declared.version.Version.{Version}
use Rattle.svc_image.specs.declared.version.Version.TheVariants as version
use Rattle.svc_image.specs.Version.{version_number, read_only_by, listed_count}
use Rattle.svc_image.specs.Image.{Image, IsLimit}
use Rattle.svc_image.specs.Format.{magic, bytes_of_half, bytes_of_word, words_in, version_in, entry_count_in}
use Rattle.svc_image.specs.Format.{text_count_in, data_count_in, own_in, own_of, start_in, registers_in, entries_in}
use Rattle.svc_image.specs.Format.{limits_in, text_place, data_place}

-- the value where there is no fault, and else the fault
abbrev pub unless_fault : {T : Type 0} → Option ImageError → T → Result T ImageError
unless_fault None value = Ok value
unless_fault (Some error) value = Err error

-- the numbers of a file's header
abbrev pub header_in : List ℕ → Header
header_in bytes = record {
  version = version_in bytes;
  entries = entry_count_in bytes;
  text = text_count_in bytes;
  words = data_count_in bytes;
  own = own_in bytes;
  start = start_in bytes;
}

-- the size of a file with this header
abbrev pub size_of : Header → ℕ
size_of header =
    148 + 4 * header.entries + 4 * listed_count header.version header.entries + 4 * header.text + 4 * header.words

-- a version's own number is a limit, or counts no more words than there are
abbrev pub IsOwn : Version → (words own : ℕ) → Type 0
IsOwn version.One words own = IsLimit own
IsOwn version.Two words own = own ≤ words

-- the counts of a header are within the format's limits
pub record InLimits (header : Header) : Type 0 where
  pub entries_some : 1 ≤ header.entries
  pub entries_few : header.entries ≤ MOST_ENTRIES
  pub text_some : 1 ≤ header.text
  pub text_few : header.text ≤ MOST_WORDS
  pub words_some : 1 ≤ header.words
  pub words_few : header.words ≤ MOST_WORDS
  pub own : IsOwn header.version header.words header.own

-- the numbers of an image's header
abbrev pub header_of : Image → Header
header_of img = record {
  version = img.version;
  entries = length img.entries;
  text = length img.text;
  words = length img.words;
  own = own_of img;
  start = img.start;
}

-- the bytes of a header
abbrev pub header_bytes : Header → List ℕ
header_bytes header =
    magic ++ (bytes_of_half (version_number header.version) ++ (bytes_of_half header.entries
    ++ (bytes_of_word header.text ++ (bytes_of_word header.words
    ++ (bytes_of_word header.own ++ bytes_of_word header.start)))))

-- the image whose fields stand in a file
unfoldable pub image_in : List ℕ → Image
image_in bytes =
    record {
      version = version_in bytes;
      read_only = read_only_by (version_in bytes) (own_in bytes);
      start = start_in bytes;
      registers = registers_in bytes;
      entries = entries_in bytes;
      limits = limits_in bytes;
      text = words_in (text_count_in bytes) (drop (text_place bytes) bytes);
      words = words_in (data_count_in bytes) (drop (data_place bytes) bytes);
    }
