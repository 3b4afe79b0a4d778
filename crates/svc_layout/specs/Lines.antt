-- The layout after a line.
use Rattle.std.specs.Prelude.{Option, Some, ℕ, List}
use Rattle.svc_layout.specs.declared.statement.Next.{Next}
use Rattle.svc_layout.specs.declared.statement.Statement.{Statement}
use Rattle.svc_layout.specs.Options.{◌>>=◌}
use Rattle.svc_layout.specs.Layouts.{Layout}
use Rattle.svc_layout.specs.Places.{size, spot_here}
use Rattle.svc_layout.specs.Contents.{with_fill, with_align, with_value, with_instruction}
use Rattle.svc_layout.specs.Notes.{with_turned, with_relative}
use Rattle.svc_layout.specs.Directives.{with_version, with_read_only, with_limit, with_entry, with_register}
use Rattle.svc_layout.specs.Sources.{linkage_binding}
use Rattle.svc_layout.specs.Labels.{with_symbol, with_set, with_binding, with_local}
use Rattle.svc_layout.specs.Zeros.{with_common}
use Rattle.svc_layout.specs.Texts.{with_next_text}
use Rattle.svc_layout.specs.declared.source.Binding.TheVariants as binding
use Rattle.svc_layout.specs.declared.statement.Next.TheVariants as go
use Rattle.svc_layout.specs.declared.statement.Statement.TheVariants as say
use Rattle.svc_layout.specs.declared.section.Width.TheVariants as wide

-- what is read next
abbrev pub going_on : Next → Layout → Option Layout
going_on n d = Some (record d { next = n })

-- the layout after a line, where the line may stand there; a label's line is what has this name and a colon
abbrev pub after : List ℕ → Statement → Layout → Option Layout
after name say.Nothing d = Some d
after name say.Label d = with_symbol name (spot_here d) d
after name (say.Instruction w) d = with_instruction w d
after name (say.Version v) d = with_version v d
after name say.ReadOnly d = with_read_only d
after name (say.Entry limit) d = with_entry limit d
after name (say.Start n) d = Some (record d { start = Some n })
after name (say.Limit n) d = with_limit n d
after name (say.Register r n) d = with_register r n d
after name (say.Section s) d = Some (record d { section = s; next = go.Line })
after name (say.Fill count size value) d = with_fill count size value d
after name (say.Align step) d = with_align step d
after name (say.Open n) d = going_on n d
after name (say.Value width n next) d = with_value width n d >>= going_on next
after name (say.Long low high next) d = with_value wide.Word low d >>= with_value wide.Word high >>= going_on next
after name (say.Symbol s) d = with_set name s d >>= going_on go.Line
after name (say.Common count step) d = with_common name (binding.Common count step) count step d
after name (say.LocalCommon count step) d = with_common name binding.Local count step d
after name (say.Pair v w) d = with_instruction v d >>= with_instruction w
after name (say.Turned left) d = with_turned left d
after name (say.Bound l next) d = with_binding name (linkage_binding l) d >>= going_on next
after name say.NextText d = with_next_text d
after name (say.Local n) d = with_local n d
after name (say.Relative w n) d = with_relative w n d
