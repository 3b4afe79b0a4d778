-- Words of the text and bytes of data: what a line puts where it stands.
use Rattle.std.specs.Prelude.{Option, Some, None, ℕ, ◌+◌, ◌%◌, ◌==◌, nat_le, List, [], ◌∷◌, ◌++◌, length, replicate}
use Rattle.std.specs.Prelude.{if◌then◌else◌, nat_lt, ◌/◌, ◌||◌}
use Rattle.svc_layout.specs.declared.section.Section.{Section}
use Rattle.svc_layout.specs.declared.section.Width.{Width}
use Rattle.svc_layout.specs.Options.{◌>>=◌}
use Rattle.svc_layout.specs.Steps.{padding, greater_step, with_raised_step}
use Rattle.svc_layout.specs.Areas.{with_more, with_copies, number_bytes, width_size}
use Rattle.svc_layout.specs.Layouts.{Layout}
use Rattle.svc_layout.specs.Places.{data_size, size}
use Rattle.svc_layout.specs.declared.section.Section.TheVariants as section
use Rattle.svc_layout.specs.declared.section.Width.TheVariants as wide

-- a word more of the text, of which an image has at most 65,536
unfoldable pub with_word : ℕ → Layout → Option Layout
with_word w d = if nat_lt (length d.text) 65536 then Some (record d { text = d.text ++ (w ∷ []) }) else None

-- a change of the bytes of the section of what follows, where it is one of data
abbrev pub in_section : (List ℕ → Option (List ℕ)) → Section → Layout → Option Layout
in_section change section.Text d = None
in_section change section.Rodata d = change d.rodata_bytes >>= (λ bytes. Some (record d { rodata_bytes = bytes }))
in_section change section.Data d = change d.data_bytes >>= (λ bytes. Some (record d { data_bytes = bytes }))
in_section change section.Bss d = change d.bss_bytes >>= (λ bytes. Some (record d { bss_bytes = bytes }))

-- an image has at most 65,536 words of data
abbrev pub with_room : Layout → Option Layout
with_room d = if nat_le (data_size d) 262144 then Some d else None

unfoldable pub with_bytes : List ℕ → Layout → Option Layout
with_bytes more d = in_section (with_more more) d.section d >>= with_room

-- so many copies of a number of so many bytes
unfoldable pub with_fill : (count size value : ℕ) → Layout → Option Layout
with_fill count size value d =
    if count == 0 || size == 0 then Some d else
    in_section (with_copies count (number_bytes size value)) d.section d >>= with_room

-- so many zeros
abbrev pub with_zeros : ℕ → Layout → Option Layout
with_zeros count d = with_fill count 1 0 d

-- so many times the same word of the text
unfoldable pub with_words : (word count : ℕ) → Layout → Option Layout
with_words w count d =
    if nat_le (length d.text + count) 65536 then Some (record d { text = d.text ++ replicate count w }) else None

-- so many bytes that say nothing: zeros, and in the text instructions that do nothing, addi x0, x0, 0 (0x13)
abbrev pub with_filling : Section → ℕ → Layout → Option Layout
with_filling section.Text count d = if count % 4 == 0 then with_words 19 (count / 4) d else None
with_filling _ count d = with_zeros count d

-- the section of what follows begins at a multiple of a step; the text begins at 0, and .rodata where the data does
abbrev pub with_step : Section → ℕ → Layout → Layout
with_step section.Data step d = record d { data_step = greater_step d.data_step step }
with_step section.Bss step d = record d { bss_step = greater_step d.bss_step step }
with_step _ step d = d

-- a first pass finds the step of the part that the text which is read has of a section
abbrev pub with_part_step : Section → ℕ → Layout → Layout
with_part_step part step d =
    if d.known then d else record d { source = record d.source { steps = with_raised_step part step d.source.steps } }

-- nothing that is said up to the next multiple of a step
unfoldable pub with_padding : ℕ → Layout → Option Layout
with_padding step d = with_filling d.section (padding step (size d)) (with_step d.section step d) >>= with_room

unfoldable pub with_align : ℕ → Layout → Option Layout
with_align step d = with_padding step (with_part_step d.section step d)

-- a number of so many bytes; the text takes words
abbrev pub with_number : Section → Width → ℕ → Layout → Option Layout
with_number section.Text wide.Word n d = with_word n d
with_number section.Text _ n d = None
with_number _ width n d = with_bytes (number_bytes (width_size width) n) d

unfoldable pub with_value : Width → ℕ → Layout → Option Layout
with_value width n d = with_number d.section width n d

-- an instruction, which stands in the text
abbrev pub word_in : Section → ℕ → Layout → Option Layout
word_in section.Text w d = with_word w d
word_in _ w d = None

abbrev pub with_instruction : ℕ → Layout → Option Layout
with_instruction w d = word_in d.section w d
