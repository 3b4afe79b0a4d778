use Rattle.std.proofs.Common.{ℕ, ◌≤◌, ◌<◌, get_or, length, map, take}
use Rattle.svc_asm.specs.declared.labels.Label.{Label}
use Rattle.svc_asm.specs.Labels.{parts_of}
use Rattle.svc_names.specs.Made.{IsTableOf, NotBelow}
use Rattle.svc_names.proofs.making.add_labels.Given as goal

-- the labels so far make the table, and no other stands below its last name
abbrev pub invariant-loop-label : goal.invariant-loop-label
invariant-loop-label l = record {
  made : IsTableOf (map parts_of (take l.label-index l.labels)) l.names.items;
  low : (k : ℕ) (d : Label) → l.label-index ≤ k → k < length l.labels → NotBelow l.names.items (parts_of (get_or l.labels k d));
}
