-- Where the next text of a program begins.
use Rattle.std.specs.Prelude.{Option, Some, None, ℕ, ◌+◌, ◌==◌, [], ◌∷◌, ◌++◌, if◌then◌else◌, true, nat_lt, ◌/◌}
use Rattle.std.specs.Prelude.{slice_get}
use Rattle.svc_layout.specs.declared.section.Section.{Section}
use Rattle.svc_layout.specs.declared.steps.Steps.{Steps}
use Rattle.svc_layout.specs.Options.{◌>>=◌}
use Rattle.svc_layout.specs.Steps.{padding}
use Rattle.svc_layout.specs.Areas.{with_copies}
use Rattle.svc_layout.specs.Sources.{Source, no_source, source_seen}
use Rattle.svc_layout.specs.Layouts.{Layout}
use Rattle.svc_layout.specs.Places.{size_in}
use Rattle.svc_layout.specs.Contents.{in_section, with_room, with_words}
use Rattle.svc_layout.specs.declared.statement.Next.TheVariants as go
use Rattle.svc_layout.specs.declared.section.Section.TheVariants as section

-- a text is read, and the next one begins: first the texts that are found have it, too
abbrev pub with_source : Layout → Layout
with_source d = if d.known then d else record d { found = d.found ++ (d.source ∷ []); source = no_source }

abbrev pub at_next : Layout → Layout
at_next d = record d {
  number = d.number + 1;
  source = source_seen d.known d.sources (d.number + 1) no_source;
  passed = 0;
  section = section.Text;
  next = go.Line;
}

-- each section goes on at a multiple of the text's step
unfoldable pub with_part : Section → ℕ → Layout → Option Layout
with_part part step d =
    if padding step (size_in part d) == 0 then Some d else
    in_section (with_copies (padding step (size_in part d)) (0 ∷ [])) part d

unfoldable pub with_parts : Steps → Layout → Option Layout
with_parts s d = do
  text ← with_words 0 (padding s.text_step (size_in section.Text d) / 4) d
  rodata ← with_part section.Rodata s.rodata_step text
  data_bytes ← with_part section.Data s.data_step rodata
  bss ← with_part section.Bss s.bss_step data_bytes
  with_room bss

-- a text begins where its steps are known, by the pass before
abbrev pub with_begin_by : Option Source → Layout → Option Layout
with_begin_by (Some s) d = with_parts s.steps d
with_begin_by None d = if d.known then None else Some (record d { lacks_places = true })

abbrev pub with_begin : Layout → Option Layout
with_begin d = with_begin_by (slice_get d.sources d.number) d

-- a program has at most 256 texts
unfoldable pub with_next_text : Layout → Option Layout
with_next_text d = if nat_lt (d.number + 1) 256 then with_begin (at_next (with_source d)) else None
