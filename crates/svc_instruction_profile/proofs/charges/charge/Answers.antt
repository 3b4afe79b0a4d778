use Rattle.std.proofs.Common.{◌≡◌, ◌∙◌, ◌++◌, ℕ, Bool, List, Option, Some, ap}
use Rattle.std.specs.Prelude.{flat_map}
use Rattle.svc_history_laws.specs.declared.entry.CutKind.TheVariants as cause
use Rattle.svc_report.specs.Summary.{is_cause}
use Rattle.svc_task_runs.specs.declared.task_run.TaskRun.{TaskRun}
use Rattle.svc_task_runs.specs.Seen.{seen}
use Rattle.svc_profile.specs.Meetings.{settled_by}
use Rattle.svc_profile.proofs.Meeting.{from_there, settled_now, within}
use Rattle.svc_instruction_profile.specs.declared.cost.Expense.TheVariants as expense
use Rattle.svc_instruction_profile.specs.Charges.{address_of, charged_where, lost_by, own_charges, reader_charge, reader_of}
use Rattle.svc_instruction_profile.proofs.Charging.{on_ok, three}
use Rattle.svc_instruction_profile.proofs.charges.charge.Goals as goal

pub push_lost_from-requires-clause-within : goal.push_lost_from-requires-clause-within
push_lost_from-requires-clause-within c =
    within c.len-settled.result c.args.runs.now.settled.items (settled_by c.args.at c.args.entry.now c.args.runs.now.active.items) c.deref-2.result.now
    (c.len-settled.ensures ∙ c.args.runs.now.settled.ok.0)
    (c.deref-2.ensures.value ∙ settled_now c.args.at c.args.entry.now (seen c.args.runs.now) (seen c.take_in.new.self) c.in_ok-take_in.ensures.tasks)

pub returns-clause-charges : goal.returns-clause-charges
returns-clause-charges c =
    let asked = c.args.asked.now in
    let es = c.args.entries.now in
    let at = c.args.at in
    let e = c.args.entry.now in
    let rs = c.args.runs.now.active.items in
    let ys = c.args.charges.now.items in
    let one = c.push_own.new.charges.items in
    let two = c.push_where.new.charges.items in
    let f = lost_by asked es at in
    let fresh = from_there c.len-settled.result c.args.runs.now.settled.items (settled_by at e rs) c.deref-2.result.now
    (c.len-settled.ensures ∙ c.args.runs.now.settled.ok.0)
    (c.deref-2.ensures.value ∙ settled_now at e (seen c.args.runs.now) (seen c.take_in.new.self) c.in_ok-take_in.ensures.tasks) in
    let first : one ≡ ys ++ own_charges (address_of asked (Some at)) e =
    c.in_ok-push_own.ensures ∙ ap (λ (a : Option ℕ). ys ++ own_charges a e) c.address_of.ensures in
    let second : two ≡ one ++ reader_charge asked es at e rs =
    c.in_ok-push_where.ensures ∙ ap (λ (b : Bool). one ++ charged_where b c.reader_of-reader.result expense.Suffered) c.is_violation.ensures
    ∙ ap (λ (a : Option ℕ). one ++ charged_where (is_cause cause.Violation e.cause) a expense.Suffered)
    (c.reader_of-reader.ensures ∙ ap (reader_of asked es at e) c.deref.ensures.value) in
    on_ok c.push_lost_from.result
    (λ third. three ys one two c.push_lost_from.new.charges.items (own_charges (address_of asked (Some at)) e) (reader_charge asked es at e rs) (flat_map f (settled_by at e rs))
    first second (third ∙ ap (λ (l : List TaskRun). two ++ flat_map f l) fresh))
    c.push_lost_from.ensures
