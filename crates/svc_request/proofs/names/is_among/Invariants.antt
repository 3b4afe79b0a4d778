use Rattle.std.specs.Prelude.{slice_index_or}
use Rattle.std.proofs.Common.{◌≡◌, ℕ, List, ◌<◌}
use denote.Ref.{Bor}
use Rattle.svc_request.proofs.names.is_among.Given as goal

-- none of those so far has the name
abbrev pub invariant-loop-other : goal.invariant-loop-other
invariant-loop-other g l = (k : ℕ) (x : Bor (List ℕ)) → k < l.other-index → slice_index_or l.names k x ≡ x → x.now ≡ l.name → ⊥
