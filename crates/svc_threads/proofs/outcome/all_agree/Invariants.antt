use Rattle.std.proofs.Common.{◌-◌, map}
use Rattle.svc_threads.proofs.Agreeing.{HangsLists}
use Rattle.svc_threads.proofs.outcome.all_agree.Given as goal

abbrev pub invariant-loop-unit : goal.invariant-loop-unit
invariant-loop-unit l = HangsLists l.unit (l.units - l.unit) l.units l.entries (map (λ v. v.items) l.lists)
