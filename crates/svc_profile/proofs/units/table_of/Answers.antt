use Rattle.std.proofs.Common.{◌++◌, ◌∙◌, List, ℕ, ap, sym, append_assoc}
use Rattle.svc_profile.specs.Units.{unit_header, unit_row, unit_rows}
use Rattle.svc_profile.proofs.UnitRows.{flat_more}
use Rattle.svc_profile.proofs.units.table_of.Goals as goal

pub loop-unit-preserved : goal.loop-unit-preserved
loop-unit-preserved c =
    let rs = c.args.runs.now in
    let unit = c.loop-unit.unit in
    c.in_ok-put_unit.ensures ∙ ap (λ (l : List ℕ). l ++ unit_row rs unit) c.loop-unit.invariant ∙ append_assoc unit_header (unit_rows unit rs) (unit_row rs unit)
    ∙ ap (λ (l : List ℕ). unit_header ++ l) (sym (flat_more (unit_row rs) unit))
