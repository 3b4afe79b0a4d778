-- Each instruction but FENCE is of a row.
use Rattle.std.proofs.Common.{◌≡◌, ℕ, zero, suc, ◌+◌, ◌*◌, ◌/◌, ◌%◌, ◌^◌, ◌<◌, Bool, true, false, ◌==◌, List, [], ◌∷◌, Some, None, slice_get, refl, ap, sym, ◌∙◌, arith, inl, inr}
use Rattle.std.specs.List.{find}
use Rattle.std.proofs.lemmas.Bool.{eq-eqb, cases_Bool}
use Rattle.svc_rv32i.specs.declared.instr.Register.{Register}
use Rattle.svc_rv32i.specs.declared.instr.Operation.{Operation}
use Rattle.svc_rv32i.specs.declared.instr.Operation.TheVariants as op
use Rattle.svc_rv32i.specs.declared.instr.Short.{Short}
use Rattle.svc_rv32i.specs.declared.instr.Long.{Long}
use Rattle.svc_rv32i.specs.declared.instr.ShiftAmount.{ShiftAmount}
use Rattle.svc_rv32i.specs.declared.instr.ImmediateShift.{ImmediateShift}
use Rattle.svc_rv32i.specs.declared.instr.ImmediateShift.TheVariants as shift
use Rattle.svc_rv32i.specs.declared.instr.Comparison.{Comparison}
use Rattle.svc_rv32i.specs.declared.instr.Comparison.TheVariants as compare
use Rattle.svc_rv32i.specs.declared.instr.LoadKind.{LoadKind}
use Rattle.svc_rv32i.specs.declared.instr.LoadKind.TheVariants as load
use Rattle.svc_rv32i.specs.declared.instr.StoreKind.{StoreKind}
use Rattle.svc_rv32i.specs.declared.instr.StoreKind.TheVariants as store
use Rattle.svc_rv32i.specs.declared.instr.ImmediateOperation.{ImmediateOperation}
use Rattle.svc_rv32i.specs.declared.instr.ImmediateOperation.TheVariants as imm
use Rattle.svc_rv32i.specs.declared.instr.Instr.{Instr}
use Rattle.svc_rv32i.specs.declared.instr.Instr.TheVariants as i
use Rattle.svc_rv32i.specs.Words.{r_type, i_type, s_type, b_type, u_type, j_type, word_of}
use Rattle.svc_instructions.specs.declared.table.Row.{Row}
use Rattle.svc_instructions.specs.declared.table.TheConstants.{ROWS}
use Rattle.svc_instructions.specs.Instructions.{with_funct3, fixed_by, fixed_bits, is_of, row_of}
use Rattle.svc_list.specs.Listings.{IsShown}

-- what passes a test isn't missed
not_missed : (test : Row → Bool) (rows : List Row) (k : ℕ) (r : Row) → slice_get rows k ≡ Some r → test r ≡ true → find test rows ≡ None → ⊥
not_missed test [] k r at holds none = absurd (cc)
not_missed test (x ∷ more) zero r at holds none =
    let is : x ≡ r = cc in
    absurd (let here : test x ≡ true = ap test is ∙ holds in let found : Some x ≡ None = sym (rw here refl) ∙ none in cc)
not_missed test (x ∷ more) (suc k) r at holds none =
    elim (cases_Bool (test x)) [
      | inl here ↦ absurd (let found : Some x ≡ None = sym (rw here refl) ∙ none in cc)
      | inr fails ↦ not_missed test more k r at holds (sym (rw fails refl) ∙ none)
    ]

listed : (w k : ℕ) (r : Row) → slice_get ROWS k ≡ Some r → fixed_bits w ≡ r.1 → row_of w ≡ None → ⊥
unfolding row_of
listed w k r at same none = not_missed (is_of (fixed_bits w)) ROWS k r at (eq-eqb (fixed_bits w) r.1 same) none

-- what is fixed of a word with an opcode
by_opcode : (w opcode bits : ℕ) → w % 2 ^ 7 ≡ opcode → fixed_by opcode w ≡ bits → fixed_bits w ≡ bits
by_opcode w opcode bits h e = ap (λ o. fixed_by o w) h ∙ e

register_bits : (f3 f7 : ℕ) (rd rs1 rs2 : Register) → f3 < 8 → f7 < 128 → fixed_bits (r_type 51 rd.number f3 rs1.number rs2.number f7) ≡ 51 + f3 * 2 ^ 12 + f7 * 2 ^ 25
unfolding fixed_by r_type
register_bits f3 f7 rd rs1 rs2 h k =
    let a : rd.number < 2 ^ 5 = rd.in_range in
    let b : rs1.number < 2 ^ 5 = rs1.in_range in
    let c : rs2.number < 2 ^ 5 = rs2.in_range in
    let w = r_type 51 rd.number f3 rs1.number rs2.number f7 in
    by_opcode w 51 (51 + f3 * 2 ^ 12 + f7 * 2 ^ 25) (omega arith) (omega arith)

-- format I, of an opcode that has funct3 beside it
funct3_bits : (a f3 : ℕ) (rd rs1 : Register) (imm : Short) → a < 128 → f3 < 8 → ((w : ℕ) → fixed_by a w ≡ with_funct3 w) → fixed_bits (i_type a rd.number f3 rs1.number imm.bits) ≡ a + f3 * 2 ^ 12
unfolding i_type
funct3_bits a f3 rd rs1 imm h k is =
    let x : rd.number < 2 ^ 5 = rd.in_range in
    let y : rs1.number < 2 ^ 5 = rs1.in_range in
    let z : imm.bits < 2 ^ 12 = imm.in_range in
    let w = i_type a rd.number f3 rs1.number imm.bits in
    by_opcode w a (a + f3 * 2 ^ 12) (omega arith) (is w ∙ omega arith)

load_is : (w : ℕ) → fixed_by 3 w ≡ with_funct3 w
unfolding fixed_by
load_is w = refl

jalr_is : (w : ℕ) → fixed_by 103 w ≡ with_funct3 w
unfolding fixed_by
jalr_is w = refl

immediate_bits : (f3 : ℕ) (rd rs1 : Register) (imm : Short) → f3 < 8 → (f3 % 4 == 1) ≡ false → fixed_bits (i_type 19 rd.number f3 rs1.number imm.bits) ≡ 19 + f3 * 2 ^ 12
unfolding fixed_by i_type
immediate_bits f3 rd rs1 imm k other =
    let x : rd.number < 2 ^ 5 = rd.in_range in
    let y : rs1.number < 2 ^ 5 = rs1.in_range in
    let z : imm.bits < 2 ^ 12 = imm.in_range in
    let w = i_type 19 rd.number f3 rs1.number imm.bits in
    let field : w / 2 ^ 12 % 2 ^ 2 ≡ f3 % 4 = omega arith in
    let no : (w / 2 ^ 12 % 2 ^ 2 == 1) ≡ false = ap (λ n. n == 1) field ∙ other in
    by_opcode w 19 (19 + f3 * 2 ^ 12) (omega arith) (rw no (omega arith))

shift_bits : (f3 f7 : ℕ) (rd rs1 : Register) (a : ShiftAmount) → f3 < 8 → f7 < 128 → (f3 % 4 == 1) ≡ true → fixed_bits (r_type 19 rd.number f3 rs1.number a.bits f7) ≡ 19 + f3 * 2 ^ 12 + f7 * 2 ^ 25
unfolding fixed_by r_type
shift_bits f3 f7 rd rs1 a h k one =
    let x : rd.number < 2 ^ 5 = rd.in_range in
    let y : rs1.number < 2 ^ 5 = rs1.in_range in
    let z : a.bits < 2 ^ 5 = a.in_range in
    let w = r_type 19 rd.number f3 rs1.number a.bits f7 in
    let field : w / 2 ^ 12 % 2 ^ 2 ≡ f3 % 4 = omega arith in
    let yes : (w / 2 ^ 12 % 2 ^ 2 == 1) ≡ true = ap (λ n. n == 1) field ∙ one in
    by_opcode w 19 (19 + f3 * 2 ^ 12 + f7 * 2 ^ 25) (omega arith) (rw yes (omega arith))

store_bits : (f3 : ℕ) (rs1 rs2 : Register) (imm : Short) → f3 < 8 → fixed_bits (s_type 35 f3 rs1.number rs2.number imm.bits) ≡ 35 + f3 * 2 ^ 12
unfolding fixed_by s_type
store_bits f3 rs1 rs2 imm k =
    let x : rs1.number < 2 ^ 5 = rs1.in_range in
    let y : rs2.number < 2 ^ 5 = rs2.in_range in
    let z : imm.bits < 2 ^ 12 = imm.in_range in
    by_opcode (s_type 35 f3 rs1.number rs2.number imm.bits) 35 (35 + f3 * 2 ^ 12) (omega arith) (omega arith)

branch_bits : (f3 : ℕ) (rs1 rs2 : Register) (imm : Short) → f3 < 8 → fixed_bits (b_type 99 f3 rs1.number rs2.number imm.bits) ≡ 99 + f3 * 2 ^ 12
unfolding fixed_by b_type
branch_bits f3 rs1 rs2 imm k =
    let x : rs1.number < 2 ^ 5 = rs1.in_range in
    let y : rs2.number < 2 ^ 5 = rs2.in_range in
    let z : imm.bits < 2 ^ 12 = imm.in_range in
    by_opcode (b_type 99 f3 rs1.number rs2.number imm.bits) 99 (99 + f3 * 2 ^ 12) (omega arith) (omega arith)

upper_bits : (a : ℕ) (rd : Register) (imm : Long) → a < 128 → ((w : ℕ) → fixed_by a w ≡ w % 2 ^ 7) → fixed_bits (u_type a rd.number imm.bits) ≡ a
unfolding u_type
upper_bits a rd imm h is =
    let x : rd.number < 2 ^ 5 = rd.in_range in
    let w = u_type a rd.number imm.bits in
    let op : w % 2 ^ 7 ≡ a = omega arith in
    by_opcode w a a op (is w ∙ op)

lui_is : (w : ℕ) → fixed_by 55 w ≡ w % 2 ^ 7
unfolding fixed_by
lui_is w = refl

auipc_is : (w : ℕ) → fixed_by 23 w ≡ w % 2 ^ 7
unfolding fixed_by
auipc_is w = refl

jump_bits : (rd : Register) (imm : Long) → fixed_bits (j_type 111 rd.number imm.bits) ≡ 111
unfolding fixed_by j_type
jump_bits rd imm =
    let x : rd.number < 2 ^ 5 = rd.in_range in
    let w = j_type 111 rd.number imm.bits in
    let op : w % 2 ^ 7 ≡ 111 = omega arith in
    by_opcode w 111 111 op op

operation_listed : (o : Operation) (rd rs1 rs2 : Register) → row_of (word_of (i.Op o rd rs1 rs2)) ≡ None → ⊥
unfolding word_of
operation_listed op.Add rd rs1 rs2 = listed _ 27 _ refl (register_bits 0 0 rd rs1 rs2 (omega arith) (omega arith))
operation_listed op.Sub rd rs1 rs2 = listed _ 28 _ refl (register_bits 0 32 rd rs1 rs2 (omega arith) (omega arith))
operation_listed op.ShiftLeft rd rs1 rs2 = listed _ 29 _ refl (register_bits 1 0 rd rs1 rs2 (omega arith) (omega arith))
operation_listed op.SetLess rd rs1 rs2 = listed _ 30 _ refl (register_bits 2 0 rd rs1 rs2 (omega arith) (omega arith))
operation_listed op.SetLessUnsigned rd rs1 rs2 = listed _ 31 _ refl (register_bits 3 0 rd rs1 rs2 (omega arith) (omega arith))
operation_listed op.Xor rd rs1 rs2 = listed _ 32 _ refl (register_bits 4 0 rd rs1 rs2 (omega arith) (omega arith))
operation_listed op.ShiftRight rd rs1 rs2 = listed _ 33 _ refl (register_bits 5 0 rd rs1 rs2 (omega arith) (omega arith))
operation_listed op.ShiftRightArithmetic rd rs1 rs2 = listed _ 34 _ refl (register_bits 5 32 rd rs1 rs2 (omega arith) (omega arith))
operation_listed op.Or rd rs1 rs2 = listed _ 35 _ refl (register_bits 6 0 rd rs1 rs2 (omega arith) (omega arith))
operation_listed op.And rd rs1 rs2 = listed _ 36 _ refl (register_bits 7 0 rd rs1 rs2 (omega arith) (omega arith))

immediate_listed : (o : ImmediateOperation) (rd rs1 : Register) (n : Short) → row_of (word_of (i.OpImm o rd rs1 n)) ≡ None → ⊥
unfolding word_of
immediate_listed imm.Add rd rs1 n = listed _ 18 _ refl (immediate_bits 0 rd rs1 n (omega arith) refl)
immediate_listed imm.SetLess rd rs1 n = listed _ 19 _ refl (immediate_bits 2 rd rs1 n (omega arith) refl)
immediate_listed imm.SetLessUnsigned rd rs1 n = listed _ 20 _ refl (immediate_bits 3 rd rs1 n (omega arith) refl)
immediate_listed imm.Xor rd rs1 n = listed _ 21 _ refl (immediate_bits 4 rd rs1 n (omega arith) refl)
immediate_listed imm.Or rd rs1 n = listed _ 22 _ refl (immediate_bits 6 rd rs1 n (omega arith) refl)
immediate_listed imm.And rd rs1 n = listed _ 23 _ refl (immediate_bits 7 rd rs1 n (omega arith) refl)

shift_listed : (o : ImmediateShift) (rd rs1 : Register) (a : ShiftAmount) → row_of (word_of (i.ShiftImm o rd rs1 a)) ≡ None → ⊥
unfolding word_of
shift_listed shift.Left rd rs1 a = listed _ 24 _ refl (shift_bits 1 0 rd rs1 a (omega arith) (omega arith) refl)
shift_listed shift.Right rd rs1 a = listed _ 25 _ refl (shift_bits 5 0 rd rs1 a (omega arith) (omega arith) refl)
shift_listed shift.RightArithmetic rd rs1 a = listed _ 26 _ refl (shift_bits 5 32 rd rs1 a (omega arith) (omega arith) refl)

branch_listed : (o : Comparison) (rs1 rs2 : Register) (n : Short) → row_of (word_of (i.Branch o rs1 rs2 n)) ≡ None → ⊥
unfolding word_of
branch_listed compare.Equal rs1 rs2 n = listed _ 4 _ refl (branch_bits 0 rs1 rs2 n (omega arith))
branch_listed compare.NotEqual rs1 rs2 n = listed _ 5 _ refl (branch_bits 1 rs1 rs2 n (omega arith))
branch_listed compare.Less rs1 rs2 n = listed _ 6 _ refl (branch_bits 4 rs1 rs2 n (omega arith))
branch_listed compare.GreaterEqual rs1 rs2 n = listed _ 7 _ refl (branch_bits 5 rs1 rs2 n (omega arith))
branch_listed compare.LessUnsigned rs1 rs2 n = listed _ 8 _ refl (branch_bits 6 rs1 rs2 n (omega arith))
branch_listed compare.GreaterEqualUnsigned rs1 rs2 n = listed _ 9 _ refl (branch_bits 7 rs1 rs2 n (omega arith))

load_listed : (o : LoadKind) (rd rs1 : Register) (n : Short) → row_of (word_of (i.Load o rd rs1 n)) ≡ None → ⊥
unfolding word_of
load_listed load.Byte rd rs1 n = listed _ 10 _ refl (funct3_bits 3 0 rd rs1 n (omega arith) (omega arith) load_is)
load_listed load.Half rd rs1 n = listed _ 11 _ refl (funct3_bits 3 1 rd rs1 n (omega arith) (omega arith) load_is)
load_listed load.Word rd rs1 n = listed _ 12 _ refl (funct3_bits 3 2 rd rs1 n (omega arith) (omega arith) load_is)
load_listed load.ByteUnsigned rd rs1 n = listed _ 13 _ refl (funct3_bits 3 4 rd rs1 n (omega arith) (omega arith) load_is)
load_listed load.HalfUnsigned rd rs1 n = listed _ 14 _ refl (funct3_bits 3 5 rd rs1 n (omega arith) (omega arith) load_is)

store_listed : (o : StoreKind) (rs1 rs2 : Register) (n : Short) → row_of (word_of (i.Store o rs1 rs2 n)) ≡ None → ⊥
unfolding word_of
store_listed store.Byte rs1 rs2 n = listed _ 15 _ refl (store_bits 0 rs1 rs2 n (omega arith))
store_listed store.Half rs1 rs2 n = listed _ 16 _ refl (store_bits 1 rs1 rs2 n (omega arith))
store_listed store.Word rs1 rs2 n = listed _ 17 _ refl (store_bits 2 rs1 rs2 n (omega arith))

pub each_listed : (instr : Instr) → IsShown instr → row_of (word_of instr) ≡ None → ⊥
unfolding word_of fixed_by
each_listed (i.Lui rd n) h = listed _ 0 _ refl (upper_bits 55 rd n (omega arith) lui_is)
each_listed (i.Auipc rd n) h = listed _ 1 _ refl (upper_bits 23 rd n (omega arith) auipc_is)
each_listed (i.Jal rd n) h = listed _ 2 _ refl (jump_bits rd n)
each_listed (i.Jalr rd rs1 n) h = listed _ 3 _ refl (funct3_bits 103 0 rd rs1 n (omega arith) (omega arith) jalr_is)
each_listed (i.Branch test rs1 rs2 n) h = branch_listed test rs1 rs2 n
each_listed (i.Load kind rd rs1 n) h = load_listed kind rd rs1 n
each_listed (i.Store kind rs1 rs2 n) h = store_listed kind rs1 rs2 n
each_listed (i.OpImm op rd rs1 n) h = immediate_listed op rd rs1 n
each_listed (i.ShiftImm op rd rs1 a) h = shift_listed op rd rs1 a
each_listed (i.Op op rd rs1 rs2) h = operation_listed op rd rs1 rs2
each_listed (i.Fence rd rs1 n) h = absurd h
each_listed i.Ecall h = listed _ 37 _ refl refl
each_listed i.Ebreak h = listed _ 38 _ refl refl
