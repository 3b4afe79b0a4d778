use Rattle.std.proofs.Common.{◌≡◌, ◌⊎◌, List, ℕ, subst}
use Rattle.std.specs.Prelude.{IfErr}
use Rattle.svc_layout.specs.Layouts.{Layout}
use Rattle.svc_asm.specs.declared.assembling.Stop.TheVariants as halt
use Rattle.svc_asm.specs.declared.rounds.TheConstants.{MOST_ROUNDS}
use Rattle.svc_asm.specs.Programs.{Settles}
use Rattle.svc_asm.proofs.rounds.lay.Goals as goal

pub returns-clause-err : goal.returns-clause-err
returns-clause-err c =
    subst (λ (d : Layout). IfErr c.settle.result (λ e. (e ≡ halt.Memory) ⊎ ((made : Layout) (given : List (List ℕ × ℕ)) → Settles MOST_ROUNDS c.args.text.now d made given → ⊥)))
    c.new.ensures c.settle.ensures.err
