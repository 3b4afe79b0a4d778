use Rattle.std.proofs.Common.{◌≡◌, ◌≤◌, ◌<◌, ◌+◌, ◌^◌, ℕ, zero, suc, sym, subst, arith}
use Rattle.svc_rv32i.specs.declared.instr.LoadKind.{LoadKind}
use Rattle.svc_rv32i.specs.declared.instr.LoadKind.TheVariants.{Word}
use Rattle.svc_core_laws.specs.Numbers.{load_bytes, extension}
use Rattle.svc_core_laws.specs.Words.{loaded_value}
use Rattle.svc_core.proofs.access.loaded_value.Goals as goal

whole_word : (lane word : ℕ) → lane + 4 ≤ 4 → word < 2 ^ 32 → word ≡ loaded_value Word lane word
unfolding extension
whole_word zero word fits small = omega arith
whole_word (suc lane) word fits small = absurd (omega arith)

pub returns-in-Word : goal.returns-in-Word
returns-in-Word c =
    subst (λ (kind : LoadKind). c.args.lane + load_bytes kind ≤ 4 → c.args.word ≡ loaded_value kind c.args.lane c.args.word) (sym c.in-Word.is)
    (λ fits. whole_word c.args.lane c.args.word fits c.ranges.word.fits) c.requires
