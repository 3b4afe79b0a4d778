-- A flat memory of bytes, and the words in it; the lowest byte of a number comes first (RV32I 2.1, section 2.6).
use Rattle.std.specs.Prelude.{◌≡◌, ℕ, zero, suc, ◌+◌, ◌*◌, ◌^◌, ◌/◌, ◌%◌, ◌<◌, List, [], ◌∷◌, ◌++◌, length, slice_index}
use Rattle.std.specs.Prelude.{slice_set}

-- the number of the n bytes from place k
abbrev pub number_at : (n k : ℕ) → List ℕ → ℕ
number_at zero k m = 0
number_at (suc n) k m = slice_index m k + 256 * number_at n (suc k) m

-- word a: the sum of byte 4a + j times 256^j, for j from 0 to 3
unfoldable pub word_at : List ℕ → ℕ → ℕ
word_at m a = number_at 4 (4 * a) m

-- the memory with the lowest n bytes of v from place k on
abbrev pub with_bytes : (n k v : ℕ) → List ℕ → List ℕ
with_bytes zero k v m = m
with_bytes (suc n) k v m = with_bytes n (suc k) (v / 256) (slice_set m k (v % 256))

-- n bytes of a word, from its byte o on
abbrev pub bytes_from : (o n w : ℕ) → ℕ
bytes_from o n w = w / 256 ^ o % 256 ^ n

-- a word with the lowest n bytes of v in place of its bytes from o on
abbrev pub word_with_bytes : (o n v w : ℕ) → ℕ
word_with_bytes o n v w = w % 256 ^ o + 256 ^ o * (v % 256 ^ n + 256 ^ n * (w / 256 ^ (o + n)))

-- the lowest n bytes of a number
abbrev pub low_bytes : (n v : ℕ) → List ℕ
low_bytes zero v = []
low_bytes (suc n) v = v % 256 ∷ low_bytes n (v / 256)

-- the flat memory of these words
unfoldable pub bytes_of : List ℕ → List ℕ
bytes_of [] = []
bytes_of (w ∷ ws) = low_bytes 4 w ++ bytes_of ws

-- a flat memory of `words` words
pub record IsMemory (words : ℕ) (m : List ℕ) : Type 0 where
  pub size : length m ≡ 4 * words
  pub bytes : (i : ℕ) → slice_index m i < 256
