use Rattle.std.proofs.Common.{ℕ, List, refl, subst, ◌∙◌}
use Rattle.std.specs.Io.KnownBytes.{Appends}
use Rattle.svc_program.proofs.assembly.list_image.Goals as goal

pub returns-clause-listed : goal.returns-clause-listed
returns-clause-listed g c =
    let old = g.O.Write.contents c.args.out.now in
    let new = g.O.Write.contents c.print_text.new.out in
    let listed = c.in_ok-text.ensures in
    record {
      text = subst (λ (bytes : List ℕ). Appends old new bytes) (c.deref.ensures.value ∙ listed.listing) c.in_ok-print_text.ensures.ok;
      program = rw listed.listing at listed.program;
      status = refl;
    }
