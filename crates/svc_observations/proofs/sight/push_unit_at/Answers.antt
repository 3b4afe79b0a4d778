use Rattle.std.proofs.Common.{◌≡◌, ◌∙◌, ◌++◌, List, ℕ, ap, subst, sym, OnOk}
use Rattle.std.proofs.lemmas.List.{append-nil}
use Rattle.svc_observations.specs.Rosters.{unit_numbers}
use Rattle.svc_observations.proofs.Rosters.{shown_unit, told_unit}
use Rattle.svc_observations.proofs.sight.push_unit_at.Goals as goal

pub returns-in-Some : goal.returns-in-Some
returns-in-Some c =
    subst (λ (ws : List ℕ). OnOk c.push_unit.result (unit_numbers c.push_unit.new.units.items ≡ unit_numbers c.args.units.now.items ++ ws))
    (sym (ap shown_unit c.in-Some.is) ∙ told_unit c.args.machine.now c.args.place c.task_at.result c.task_at.ensures) c.push_unit.ensures

pub returns-in-None : goal.returns-in-None
returns-in-None c =
    sym (append-nil (unit_numbers c.args.units.now.items))
    ∙ ap (λ (ws : List ℕ). unit_numbers c.args.units.now.items ++ ws) (sym (ap shown_unit c.in-None.is) ∙ told_unit c.args.machine.now c.args.place c.task_at.result c.task_at.ensures)
