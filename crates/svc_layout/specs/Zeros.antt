-- Zeros that a name stands for, and that texts may share.
use Rattle.std.specs.Prelude.{Option, Some, ℕ, List, take, if◌then◌else◌, Bool, true, false, is_some, ◌||◌}
use Rattle.svc_layout.specs.declared.source.Binding.{Binding}
use Rattle.svc_layout.specs.Options.{◌>>=◌}
use Rattle.svc_layout.specs.Sources.{first_by, common_room}
use Rattle.svc_layout.specs.Layouts.{Layout}
use Rattle.svc_layout.specs.Places.{spot_here}
use Rattle.svc_layout.specs.Contents.{with_zeros, with_padding, with_align}
use Rattle.svc_layout.specs.Labels.{with_symbol, with_binding}
use Rattle.svc_layout.specs.declared.source.Binding.TheVariants as binding
use Rattle.svc_layout.specs.declared.statement.Next.TheVariants as go
use Rattle.svc_layout.specs.declared.section.Section.TheVariants as section
use Rattle.svc_layout.specs.declared.source.Strength.TheVariants as strength

-- whether texts share zeros under a name, and whether another one has them: a strong one, or the first that yields
abbrev pub is_common : Option Binding → Bool
is_common (Some (binding.Common count step)) = true
is_common _ = false

abbrev pub has_other_room : Layout → List ℕ → Bool
has_other_room d name =
    is_some (first_by strength.Strong name d.sources)
    || is_some (first_by strength.Yielding name (take d.number d.sources))

-- so many zeros behind others up to a multiple of a step, which a name stands for
unfoldable pub with_zeros_named : List ℕ → ℕ → Layout → Option Layout
with_zeros_named name count d = do
  named ← with_symbol name (spot_here d) d
  with_zeros count named

-- the text's own zeros, and those that it shares, which are as large as the largest
abbrev pub with_own_zeros : List ℕ → (count step : ℕ) → Layout → Option Layout
with_own_zeros name count step d = with_align step d >>= with_zeros_named name count

abbrev pub with_shared_zeros : List ℕ → (room : ℕ × ℕ) → Layout → Option Layout
with_shared_zeros name room d =
    if has_other_room d name then Some d else with_padding room.1 d >>= with_zeros_named name room.0

unfoldable pub with_bound_zeros : List ℕ → (count step : ℕ) → Layout → Option Layout
with_bound_zeros name count step d =
    if is_common (d.source.bindings name)
    then with_shared_zeros name (common_room name d.sources (count, step)) d
    else with_own_zeros name count step d

-- so many zeros in .bss, which a name stands for that is bound so; what follows stands where it stood before
unfoldable pub with_common : List ℕ → Binding → (count step : ℕ) → Layout → Option Layout
with_common name b count step d = do
  named ← with_binding name b (record d { section = section.Bss })
  put ← with_bound_zeros name count step named
  Some (record put { section = d.section; next = go.Line })
