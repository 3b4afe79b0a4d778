use Rattle.std.specs.Prelude.{IfSome}
use Rattle.std.proofs.Common.{◌≡◌, ◌++◌, ℕ, List, take}
use Rattle.svc_answer.specs.Assembly.{all_held}
use Rattle.svc_asm.specs.Texts.{behind_first}
use Rattle.svc_program.proofs.assembly.add_others.Given as goal

abbrev pub invariant-loop-name : goal.invariant-loop-name
invariant-loop-name g l =
    IfSome (all_held (g.F.Files.held l.files) (take l.name-index l.names)) (λ others. l.text.items ≡ l.fn.text.items ++ behind_first others)
