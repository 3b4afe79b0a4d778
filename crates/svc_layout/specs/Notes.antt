-- What a pass notes for the next one: branches that don't reach their targets, and distances.
use Rattle.std.specs.Map.{update}
use Rattle.std.specs.Prelude.{Option, Some, ℕ, if◌then◌else◌, Bool, true, nat_eq, is_some, ◌||◌}
use Rattle.svc_layout.specs.Layouts.{Layout}
use Rattle.svc_layout.specs.Places.{here}
use Rattle.svc_layout.specs.Contents.{with_instruction}

-- whether a branch is turned
abbrev pub is_turned : Layout → ℕ → Bool
is_turned d left = d.turns_all || is_some (d.turned left)

-- a branch that doesn't reach its target: one word stands for it, and once distances are measured, it is noted, to be
-- turned in the next round
abbrev pub with_note : ℕ → Layout → Layout
with_note left d =
    if d.distances_known then record d { turned = update nat_eq d.turned left (Some tt); grew = true } else d

unfoldable pub with_turned : ℕ → Layout → Option Layout
with_turned left d = with_instruction 19 (with_note left d)

-- an instruction with the high part of how far it is to a value
unfoldable pub with_relative : ℕ → ℕ → Layout → Option Layout
with_relative w n d =
    with_instruction w (record d { distances = update nat_eq d.distances (here d) (Some n); has_distances = true })
