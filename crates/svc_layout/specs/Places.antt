-- Where sections begin, and the addresses of places in them.
use Rattle.std.specs.Prelude.{ℕ, ◌+◌, ◌%◌, length, ◌*◌, ◌^◌}
use Rattle.svc_image.specs.declared.layout.TheConstants.{DATA_START}
use Rattle.svc_layout.specs.declared.section.Section.{Section}
use Rattle.svc_layout.specs.declared.section.Spot.{Spot}
use Rattle.svc_layout.specs.Steps.{multiple}
use Rattle.svc_layout.specs.Layouts.{Layout}
use Rattle.svc_layout.specs.declared.section.Section.TheVariants as section

-- how far behind the data's beginning .data and .bss begin, and how many bytes the image's data has so far
abbrev pub data_begin : Layout → ℕ
data_begin d = multiple d.data_step (length d.rodata_bytes)

abbrev pub bss_begin : Layout → ℕ
bss_begin d = multiple d.bss_step (data_begin d + length d.data_bytes)

abbrev pub data_size : Layout → ℕ
data_size d = multiple 4 (bss_begin d + length d.bss_bytes)

-- how many bytes of the section of what follows there are so far
abbrev pub size_in : Section → Layout → ℕ
size_in section.Text d = 4 * length d.text
size_in section.Rodata d = length d.rodata_bytes
size_in section.Data d = length d.data_bytes
size_in section.Bss d = length d.bss_bytes

abbrev pub size : Layout → ℕ
size d = size_in d.section d

-- where a section begins: the text at 0
abbrev pub base : Section → Layout → ℕ
base section.Text d = 0
base section.Rodata d = DATA_START
base section.Data d = DATA_START + d.data_from
base section.Bss d = DATA_START + d.bss_from

-- the byte address of a place, and of what comes next
abbrev pub place : Layout → Spot → ℕ
place d s = (base s.section d + s.offset) % 2 ^ 32

abbrev pub spot_here : Layout → Spot
spot_here d = record { section = d.section; offset = size d }

abbrev pub here : Layout → ℕ
here d = place d (spot_here d)
