use Rattle.std.proofs.Common.{◌++◌, ◌∙◌, ap}
use Rattle.svc_rv32i.specs.declared.instr.Register.{Register}
use Rattle.svc_layout.specs.declared.statement.Statement.TheVariants as say
use Rattle.svc_list.specs.Listings.{bare, line_of}
use Rattle.svc_list.proofs.Printing.{setting_zero, setting_some}
use Rattle.svc_list.proofs.listing.put_nonzero.Goals as goal

pub returns-then-value-eq0 : goal.returns-then-value-eq0
returns-then-value-eq0 c = setting_zero c.args.out.now.items c.args.number c.args.value c.if-value-eq0.true

pub returns : goal.returns
returns c =
    setting_some c.args.out.now.items c.put_line.new.out.items c.args.number c.args.value c.if-value-eq0.false
    (c.in_ok-put_line.ensures ∙ ap (λ (r : Register). c.args.out.now.items ++ line_of (bare (say.Register r c.args.value))) c.register.ensures)
