-- The numbers that a word has for its operands.
use Rattle.std.proofs.Common.{ℕ, ◌^◌, ◌<◌, arith}
use Rattle.svc_instructions.specs.declared.table.Part.{Part}
use Rattle.svc_instructions.specs.declared.table.Part.TheVariants as part
use Rattle.svc_instructions.specs.Instructions.{part_number}

abbrev pub limit : Part → ℕ
limit part.Rd = 2 ^ 5
limit part.Rs1 = 2 ^ 5
limit part.Rs2 = 2 ^ 5
limit part.Base = 2 ^ 5
limit part.Amount = 2 ^ 5
limit part.Immediate = 2 ^ 12
limit part.StoreOffset = 2 ^ 12
limit part.Order = 2 ^ 12
limit part.Branch = 2 ^ 12
limit part.Upper = 2 ^ 20
limit part.Jump = 2 ^ 20
limit part.Comma = 1
limit part.End = 1

pub taken_fits : (p : Part) (w : ℕ) → part_number p w < limit p
unfolding part_number
taken_fits part.Rd w = omega arith
taken_fits part.Rs1 w = omega arith
taken_fits part.Rs2 w = omega arith
taken_fits part.Base w = omega arith
taken_fits part.Amount w = omega arith
taken_fits part.Immediate w = omega arith
taken_fits part.StoreOffset w = omega arith
taken_fits part.Order w = omega arith
taken_fits part.Branch w = omega arith
taken_fits part.Upper w = omega arith
taken_fits part.Jump w = omega arith
taken_fits part.Comma w = omega arith
taken_fits part.End w = omega arith

pub branch_fits : (w : ℕ) → part_number part.Branch w < 4096
branch_fits w = taken_fits part.Branch w

pub jump_fits : (w : ℕ) → part_number part.Jump w < 1048576
jump_fits w = taken_fits part.Jump w
