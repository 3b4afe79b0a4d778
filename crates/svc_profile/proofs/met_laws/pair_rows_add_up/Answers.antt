use Rattle.std.proofs.Common.{◌≡◌, ◌+◌, [], arith}
use Rattle.std.specs.List.{sum_by}
use Rattle.svc_profile.specs.declared.meetings.Meeting.{Meeting}
use Rattle.svc_profile.specs.declared.meetings.Meets.TheVariants as meets
use Rattle.svc_profile.specs.Meetings.{meetings_of}
use Rattle.svc_profile.specs.Met.{met_of}
use Rattle.svc_profile.proofs.Meeting.{all_lost, as_many}
use Rattle.svc_profile.proofs.MetRows.{are_times, are_turns, rows_sum, with_all}
use Rattle.svc_profile.proofs.met_laws.pair_rows_add_up.Goals as goal

pub returns-clause-squashes : goal.returns-clause-squashes
returns-clause-squashes c =
    let es = c.args.entries.now in
    let all : rows_sum (λ k. k.times) (met_of meets.Squash es) ≡ rows_sum (λ k. k.times) [] + sum_by (λ (m : Meeting). 1) (meetings_of meets.Squash es) =
    with_all (λ k. k.times) (λ m. 1) are_times (meetings_of meets.Squash es) [] in
    let many = as_many meets.Squash es in
    omega (arith, all, many)

pub returns-clause-turns : goal.returns-clause-turns
returns-clause-turns c =
    let es = c.args.entries.now in
    let all : rows_sum (λ k. k.turns) (met_of meets.Squash es) ≡ rows_sum (λ k. k.turns) [] + sum_by (λ (m : Meeting). m.turns) (meetings_of meets.Squash es) =
    with_all (λ k. k.turns) (λ m. m.turns) are_turns (meetings_of meets.Squash es) [] in
    let lost = all_lost es in
    omega (arith, all, lost)
