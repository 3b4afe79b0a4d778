use Rattle.std.proofs.Common.{◌≡◌, ◌≤◌, ◌+◌, ◌*◌, length, None}
use Rattle.svc_image.specs.Format.{first_of, entry_checks, each_of}
use Rattle.svc_image.proofs.check.check_entries.Given as goal

-- the entries so far have no fault, and are whole
abbrev pub invariant-loop-index : goal.invariant-loop-index
invariant-loop-index l = record { sound : first_of (each_of (entry_checks l.bytes) l.index) ≡ None; whole : 148 + 4 * l.index ≤ length l.bytes }
