use Rattle.std.proofs.Common.{◌≡◌, inl, inr, map}
use Rattle.svc_draft.specs.Drafts.{layout_of}
use Rattle.svc_asm.specs.Labels.{parts_of}
use Rattle.svc_asm.proofs.Program.{program_made}
use Rattle.svc_asm.specs.declared.assembling.Stop.TheVariants as halt
use Rattle.svc_asm.proofs.assembling.assemble.Goals as goal

pub returns-in-Err-clause-whole : goal.returns-in-Err-clause-whole
returns-in-Err-clause-whole c = λ img sound program.
    let memory : c.in-Err.stop ≡ halt.Memory = elim c.in-Err.ensures.err [ inl memory ↦ memory | inr none ↦ absurd (none program.layout program.laid.labels program.laid.settles) ] in
    c.error_of.ensures memory

pub returns-in-Ok-finish-clause-whole : goal.returns-in-Ok-finish-clause-whole
returns-in-Ok-finish-clause-whole c = λ img sound program.
    c.in-Ok-finish.ensures.whole img sound (program_made c.args.text.now (layout_of c.in-Ok.laid.0) img (record { labels = map parts_of c.lay.new.labels.items; settles = c.in-Ok.ensures.ok }) program)

pub returns-clause-whole : goal.returns-clause-whole
returns-clause-whole c = λ img sound program.
    c.error_of-in-Err-finish.ensures (c.no_image.ensures (c.in-Err-finish.ensures.whole img sound (program_made c.args.text.now (layout_of c.in-Ok.laid.0) img (record { labels = map parts_of c.lay.new.labels.items; settles = c.in-Ok.ensures.ok }) program)))
