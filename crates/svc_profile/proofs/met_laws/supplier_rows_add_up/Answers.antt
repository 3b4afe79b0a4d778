use Rattle.std.proofs.Common.{◌≡◌, ◌+◌, [], arith}
use Rattle.std.specs.List.{sum_by}
use Rattle.svc_profile.specs.declared.meetings.Meeting.{Meeting}
use Rattle.svc_profile.specs.declared.meetings.Meets.TheVariants as meets
use Rattle.svc_profile.specs.Meetings.{meetings_of}
use Rattle.svc_profile.specs.Met.{met_of}
use Rattle.svc_profile.proofs.Meeting.{as_many}
use Rattle.svc_profile.proofs.MetRows.{are_times, rows_sum, with_all}
use Rattle.svc_profile.proofs.met_laws.supplier_rows_add_up.Goals as goal

pub returns : goal.returns
returns c =
    let es = c.args.entries.now in
    let all : rows_sum (λ k. k.times) (met_of meets.Supply es) ≡ rows_sum (λ k. k.times) [] + sum_by (λ (m : Meeting). 1) (meetings_of meets.Supply es) =
    with_all (λ k. k.times) (λ m. 1) are_times (meetings_of meets.Supply es) [] in
    let many = as_many meets.Supply es in
    omega (arith, all, many)
