use Rattle.std.proofs.Common.{sym, subst, option_to_list}
use Rattle.svc_explore_laws.specs.Closed.{AreIn}
use Rattle.svc_explore.specs.Found.{are_seen}
use Rattle.svc_explore.proofs.Founding.{newly_listed, on_ok}
use Rattle.svc_explore.proofs.found.note_seen.Goals as goal

pub returns-clause-listed : goal.returns-clause-listed
returns-clause-listed c =
    on_ok c.push_seen.result
    (λ h. subst (λ o. AreIn (option_to_list o) (are_seen c.push_seen.new.found.items)) (sym c.in-Some.is)
    (newly_listed c.args.found.now.items c.push_seen.new.found.items c.in-Some.what c.args.path.now c.args.last h, tt)) c.push_seen.ensures
