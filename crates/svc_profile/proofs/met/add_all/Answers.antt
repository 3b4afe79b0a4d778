use Rattle.svc_profile.specs.declared.meetings.Meeting.{Meeting}
use Rattle.std.proofs.Common.{arith}
use Rattle.svc_profile.proofs.Meeting.{ones}
use Rattle.svc_profile.proofs.MetRows.{are_times, are_turns, next_meeting, room}
use Rattle.svc_profile.proofs.met.add_all.Goals as goal

abbrev nothing : Meeting
nothing = record { between = ((0, 0), 0); turns = 0 }

pub loop-meeting-preserved : goal.loop-meeting-preserved
loop-meeting-preserved c =
    next_meeting c.args.meetings.now c.loop-meeting.meeting-index nothing c.loop-meeting.met.entries c.add.new.met.entries c.loop-meeting-test.true
    c.loop-meeting.invariant c.in_ok-add.ensures

pub add-requires-clause-times : goal.add-requires-clause-times
add-requires-clause-times c =
    let all = c.args.meetings.now in
    let one = ones all in
    let few = c.requires.few in
    room (λ k. k.times) (λ m. 1) are_times all c.loop-meeting.meeting-index nothing c.loop-meeting.met.entries c.loop-meeting-test.true c.loop-meeting.invariant
    (omega (arith, one, few))

pub add-requires-clause-turns : goal.add-requires-clause-turns
add-requires-clause-turns c =
    room (λ k. k.turns) (λ m. m.turns) are_turns c.args.meetings.now c.loop-meeting.meeting-index nothing c.loop-meeting.met.entries c.loop-meeting-test.true
    c.loop-meeting.invariant c.requires.turns
