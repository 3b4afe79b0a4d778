use Rattle.std.proofs.Common.{◌≡◌, None}
use Rattle.svc_image.specs.Format.{first_of, each_of}
use Rattle.svc_image.specs.Parts.{place_checks}
use Rattle.svc_image.proofs.parts.check_places.Given as goal

-- the entries so far have no fault
abbrev pub invariant-loop-index : goal.invariant-loop-index
invariant-loop-index l = first_of (each_of (place_checks l.entries l.words) l.index) ≡ None
