-- The bytes of sections of data.
use Rattle.std.specs.Prelude.{Option, Some, None, ℕ, zero, suc, ◌+◌, nat_le, List, [], ◌∷◌, ◌++◌, length, take}
use Rattle.std.specs.Prelude.{replicate, if◌then◌else◌}
use Rattle.svc_image.specs.Format.{bytes_of_word}
use Rattle.svc_layout.specs.declared.section.Width.{Width}
use Rattle.svc_layout.specs.Options.{◌>>=◌}
use Rattle.svc_layout.specs.Steps.{padding}
use Rattle.svc_layout.specs.declared.section.Width.TheVariants as wide

-- a section with more bytes: it has at most 262,144
unfoldable pub with_more : (more bytes : List ℕ) → Option (List ℕ)
with_more more bytes = if nat_le (length bytes + length more) 262144 then Some (bytes ++ more) else None

-- a section with so many copies of bytes, each where there is room for it
unfoldable pub with_copies : ℕ → (unit bytes : List ℕ) → Option (List ℕ)
with_copies zero unit bytes = Some bytes
with_copies (suc n) unit bytes = with_more unit bytes >>= with_copies n unit

-- a number of 32 bits in eight bytes, the lowest first, and in so many of them
abbrev pub eight_bytes : ℕ → List ℕ
eight_bytes value = bytes_of_word value ++ (0 ∷ 0 ∷ 0 ∷ 0 ∷ [])

abbrev pub number_bytes : (size value : ℕ) → List ℕ
number_bytes size value = take size (eight_bytes value)

-- how many bytes a number takes
abbrev pub width_size : Width → ℕ
width_size wide.Byte = 1
width_size wide.Half = 2
width_size wide.Word = 4

-- bytes, and zeros behind them up to a multiple of a step
unfoldable pub fill_up : (step : ℕ) → List ℕ → List ℕ
fill_up step bytes = bytes ++ replicate (padding step (length bytes)) 0

-- at least one word
abbrev pub some_word : List ℕ → List ℕ
some_word [] = 0 ∷ 0 ∷ 0 ∷ 0 ∷ []
some_word (b ∷ bytes) = b ∷ bytes

-- the data of an image, in whole words: its sections one behind the other, .data and .bss each from a multiple of a
-- step on
unfoldable pub data_of : (data_step bss_step : ℕ) → (rodata data_bytes bss : List ℕ) → List ℕ
data_of data_step bss_step rodata data_bytes bss =
    some_word (fill_up 4 (fill_up bss_step (fill_up data_step rodata ++ data_bytes) ++ bss))
