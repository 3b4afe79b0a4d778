-- Of which steps sections begin at a multiple.
use Rattle.std.specs.Prelude.{ℕ, ◌+◌, ◌-◌, ◌%◌, ◌==◌, if◌then◌else◌, nat_lt, ◌&&◌}
use Rattle.svc_layout.specs.declared.section.Section.{Section}
use Rattle.svc_layout.specs.declared.steps.Steps.{Steps}
use Rattle.svc_layout.specs.declared.section.Section.TheVariants as section

-- how far it is to the next multiple of a step
abbrev pub padding : (step size : ℕ) → ℕ
padding step size = if step == 0 then 0 else (step - size % step) % step

-- a number of bytes and how far it is from there to a multiple of a step
abbrev pub multiple : (step size : ℕ) → ℕ
multiple step size = size + padding step size

-- the greatest of the steps, powers of two up to 2^16, that are asked for
abbrev pub greater_step : (old step : ℕ) → ℕ
greater_step old step = if nat_lt old step && 65536 % step == 0 then step else old

-- the steps of a text's parts of sections, where one of them is asked for this step, too
abbrev pub with_raised_step : Section → ℕ → Steps → Steps
with_raised_step section.Text step s = record s { text_step = greater_step s.text_step step }
with_raised_step section.Rodata step s = record s { rodata_step = greater_step s.rodata_step step }
with_raised_step section.Data step s = record s { data_step = greater_step s.data_step step }
with_raised_step section.Bss step s = record s { bss_step = greater_step s.bss_step step }

-- each part of a section is in whole words of the text, and where nothing is asked for, in bytes of data
abbrev pub no_steps : Steps
no_steps = record { text_step = 4; rodata_step = 1; data_step = 1; bss_step = 1 }
