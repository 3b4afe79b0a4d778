use Rattle.std.proofs.Common.{◌∙◌, ◌+◌, ◌≤◌, subst, sym, arith}
use Rattle.std.specs.List.{AllByRecursion}
use Rattle.svc_task_runs.specs.Bounds.{IsLight}
use Rattle.svc_task_runs.specs.Seen.{seen}
use Rattle.svc_profile.specs.Meetings.{settled_by}
use Rattle.svc_profile.proofs.Meeting.{fresh_light, from_there, settled_now, within}
use Rattle.svc_profile.proofs.meetings.meet.Goals as goal

pub lost_from-turns-requires-clause-within : goal.lost_from-turns-requires-clause-within
lost_from-turns-requires-clause-within c =
    within c.len-settled.result c.args.runs.now.settled.items (settled_by c.args.at c.args.entry.now c.args.runs.now.active.items) c.deref-2.result.now
    (c.len-settled.ensures ∙ c.args.runs.now.settled.ok.0)
    (c.deref-2.ensures.value ∙ settled_now c.args.at c.args.entry.now (seen c.args.runs.now) (seen c.take_in.new.self) c.in_ok-take_in.ensures.tasks)

pub lost_from-turns-requires-clause-light : goal.lost_from-turns-requires-clause-light
lost_from-turns-requires-clause-light c =
    let at = c.args.at in
    let old = c.args.runs.now.settled.items in
    let new = settled_by at c.args.entry.now c.args.runs.now.active.items in
    let all = settled_now at c.args.entry.now (seen c.args.runs.now) (seen c.take_in.new.self) c.in_ok-take_in.ensures.tasks in
    let inside = c.requires.inside in
    let most : at + 1 ≤ 1000000 = omega (arith, inside) in
    subst (AllByRecursion (IsLight 1000000)) (sym (from_there c.len-settled.result old new c.deref-2.result.now (c.len-settled.ensures ∙ c.args.runs.now.settled.ok.0) (c.deref-2.ensures.value ∙ all)))
    (fresh_light (at + 1) old new c.take_in.new.self.settled.items all most c.in_ok-take_in.ensures.few.settled)

pub returns-clause-met : goal.returns-clause-met
returns-clause-met c =
    let new = settled_by c.args.at c.args.entry.now c.args.runs.now.active.items in
    let lost = from_there c.len-settled.result c.args.runs.now.settled.items new c.deref-2.result.now (c.len-settled.ensures ∙ c.args.runs.now.settled.ok.0)
    (c.deref-2.ensures.value ∙ settled_now c.args.at c.args.entry.now (seen c.args.runs.now) (seen c.take_in.new.self) c.in_ok-take_in.ensures.tasks) in
    rw (c.is_meeting.ensures, c.between-between.ensures, c.deref.ensures.value, c.lost_from-turns.ensures, lost) at c.push_where.ensures
