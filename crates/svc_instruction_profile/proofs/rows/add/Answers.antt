use Rattle.std.proofs.Common.{◌≡◌, ◌∙◌, ap, rules}
use Rattle.std.specs.BTreeMap.{insert_entry}
use Rattle.std.specs.Ordering.{nat_cmp}
use Rattle.svc_instruction_profile.specs.declared.cost.Cost.{Cost}
use Rattle.svc_instruction_profile.specs.Rows.{cost_at, costs_more}
use Rattle.svc_instruction_profile.proofs.CostRows.{in_place}
use Rattle.svc_instruction_profile.proofs.rows.add.Goals as goal

pub returns : goal.returns
returns c =
    let charge = c.args.charge in
    let rows = c.args.rows.now.entries in
    let so_far : c.unwrap_or-so_far.result ≡ cost_at charge.address rows = search rules in
    c.in_ok-insert.ensures.entries
    ∙ ap (λ (k : Cost). insert_entry nat_cmp rows charge.address k) (c.and.ensures ∙ ap (λ (k : Cost). costs_more charge.expense k) so_far)
    ∙ in_place charge rows c.len-rows.ensures.ordered
