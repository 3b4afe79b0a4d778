use Rattle.std.proofs.Common.{◌≡◌, ◌≤◌, ◌+◌, ◌*◌, length, None}
use Rattle.svc_image.specs.Format.{first_of, limit_checks, each_of}
use Rattle.svc_image.proofs.check.check_limits.Given as goal

-- the limits so far have no fault, and are whole
abbrev pub invariant-loop-index : goal.invariant-loop-index
invariant-loop-index l = record { sound : first_of (each_of (limit_checks l.bytes) l.index) ≡ None; whole : 148 + 4 * l.fn.header.entries + 4 * l.index ≤ length l.bytes }
