use Rattle.std.proofs.Common.{◌++◌, ◌∙◌, ℕ, List, ap, append_assoc, codes, flat_map}
use Rattle.svc_names.specs.Made.{name_row}
use Rattle.svc_names.proofs.names.Names.put_table.Goals as goal

pub returns : goal.returns
returns c =
    let names = c.args.self.now.list.items in
    let rows = rw c.deref.ensures.value at c.in_ok-put_rows.ensures in
    rows ∙ ap (λ (text : List ℕ). text ++ flat_map name_row names) c.in_ok-put.ensures.ok
    ∙ append_assoc c.args.text.now.items (codes "name,address\n") (flat_map name_row names)
