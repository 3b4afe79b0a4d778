use Rattle.std.proofs.Common.{◌≡◌, ◌<◌, ◌+◌, ◌*◌, ℕ, nat_eq, false}
use Rattle.svc_image.specs.Format.{word_at}
use Rattle.svc_image.proofs.check.has_entry.Given as goal

-- no entry so far is the number
abbrev pub invariant-loop-index : goal.invariant-loop-index
invariant-loop-index l = (k : ℕ) → k < l.index → nat_eq (word_at l.bytes (148 + 4 * k)) l.wanted ≡ false
