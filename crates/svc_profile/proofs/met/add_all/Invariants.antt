use Rattle.std.proofs.Common.{◌≡◌, [], drop}
use Rattle.svc_profile.specs.Met.{with_meetings}
use Rattle.svc_profile.proofs.met.add_all.Given as goal

abbrev pub invariant-loop-meeting : goal.invariant-loop-meeting
invariant-loop-meeting l = with_meetings l.met.entries (drop l.meeting-index l.meetings) ≡ with_meetings [] l.meetings
