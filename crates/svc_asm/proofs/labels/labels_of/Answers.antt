use Rattle.std.proofs.Common.{◌≡◌, inl, inr}
use Rattle.svc_asm.specs.declared.assembling.Stop.TheVariants as halt
use Rattle.svc_asm.proofs.labels.labels_of.Goals as goal

pub returns-clause-whole : goal.returns-clause-whole
returns-clause-whole c = λ made laid.
    let memory : c.in-Err.stop ≡ halt.Memory = elim c.in-Err.ensures.err [ inl memory ↦ memory | inr none ↦ absurd (none made laid.labels laid.settles) ] in
    c.error_of.ensures memory
