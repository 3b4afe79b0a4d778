-- The fields of an instruction's word give that instruction.
use Rattle.std.proofs.Common.{◌≡◌, lit<, Some, refl, ◌∙◌}
use Rattle.svc_rv32i.specs.declared.fields.Fields.{Fields}
use Rattle.svc_rv32i.specs.declared.instr.Comparison.{Comparison}
use Rattle.svc_rv32i.specs.declared.instr.LoadKind.{LoadKind}
use Rattle.svc_rv32i.specs.declared.instr.StoreKind.{StoreKind}
use Rattle.svc_rv32i.specs.declared.instr.Operation.{Operation}
use Rattle.svc_rv32i.specs.declared.instr.ImmediateOperation.{ImmediateOperation}
use Rattle.svc_rv32i.specs.declared.instr.ImmediateShift.{ImmediateShift}
use Rattle.svc_rv32i.specs.declared.instr.ShiftAmount.{ShiftAmount}
use Rattle.svc_rv32i.specs.declared.instr.Instr.{Instr}
use Rattle.svc_rv32i.specs.declared.instr.Instr.TheVariants as i
use Rattle.svc_rv32i.specs.Words.{word_of, r_type, comparison_funct3, load_funct3, store_funct3, immediate_funct3, shift_funct3, shift_funct7, operation_funct3, operation_funct7}
use Rattle.svc_rv32i.specs.Meaning.{instr_of, amount_at, short, long, i_imm, s_imm, b_imm, u_imm, j_imm}
use Rattle.svc_rv32i.proofs.Tables.{comparison_known, load_known, store_known, immediate_known, shift_known, operation_known, comparison_small, load_small, store_small, immediate_small, shift_small, operation_small}
use Rattle.svc_rv32i.proofs.Sums.{sum_of, Has, has, i_fields, s_fields, b_fields, u_fields, j_fields}
use Rattle.svc_rv32i.proofs.Same.{same_register, same_amount}

-- what the opcode and the codes say
lui_is : (f : Fields) → f.opcode ≡ 55 → instr_of f ≡ Some (i.Lui f.rd (long (u_imm f)))
unfolding instr_of
lui_is f e = simp e

auipc_is : (f : Fields) → f.opcode ≡ 23 → instr_of f ≡ Some (i.Auipc f.rd (long (u_imm f)))
unfolding instr_of
auipc_is f e = simp e

jal_is : (f : Fields) → f.opcode ≡ 111 → instr_of f ≡ Some (i.Jal f.rd (long (j_imm f)))
unfolding instr_of
jal_is f e = simp e

jalr_is : (f : Fields) → f.opcode ≡ 103 → f.funct3 ≡ 0 → instr_of f ≡ Some (i.Jalr f.rd f.rs1 (short (i_imm f)))
unfolding instr_of
jalr_is f e g = simp (e, g)

branch_is : (f : Fields) (c : Comparison) → f.opcode ≡ 99 → f.funct3 ≡ comparison_funct3 c → instr_of f ≡ Some (i.Branch c f.rs1 f.rs2 (short (b_imm f)))
unfolding instr_of
branch_is f c e g = simp (e, g, comparison_known c)

load_is : (f : Fields) (k : LoadKind) → f.opcode ≡ 3 → f.funct3 ≡ load_funct3 k → instr_of f ≡ Some (i.Load k f.rd f.rs1 (short (i_imm f)))
unfolding instr_of
load_is f k e g = simp (e, g, load_known k)

store_is : (f : Fields) (k : StoreKind) → f.opcode ≡ 35 → f.funct3 ≡ store_funct3 k → instr_of f ≡ Some (i.Store k f.rs1 f.rs2 (short (s_imm f)))
unfolding instr_of
store_is f k e g = simp (e, g, store_known k)

immediate_is : (f : Fields) (o : ImmediateOperation) → f.opcode ≡ 19 → f.funct3 ≡ immediate_funct3 o → instr_of f ≡ Some (i.OpImm o f.rd f.rs1 (short (i_imm f)))
unfolding instr_of
immediate_is f o e g = simp (e, g, immediate_known o)

shift_is : (f : Fields) (o : ImmediateShift) → f.opcode ≡ 19 → f.funct3 ≡ shift_funct3 o → f.funct7 ≡ shift_funct7 o → instr_of f ≡ Some (i.ShiftImm o f.rd f.rs1 (amount_at f))
unfolding instr_of
shift_is f o e g h = simp (e, g, (shift_known o).0, g, h, (shift_known o).1)

registers_is : (f : Fields) (o : Operation) → f.opcode ≡ 51 → f.funct3 ≡ operation_funct3 o → f.funct7 ≡ operation_funct7 o → instr_of f ≡ Some (i.Op o f.rd f.rs1 f.rs2)
unfolding instr_of
registers_is f o e g h = simp (e, g, h, operation_known o)

fence_is : (f : Fields) → f.opcode ≡ 15 → f.funct3 ≡ 0 → instr_of f ≡ Some (i.Fence f.rd f.rs1 (short (i_imm f)))
unfolding instr_of
fence_is f e g = simp (e, g)

ecall_is : (f : Fields) → Has f 115 0 0 0 0 0 → instr_of f ≡ Some i.Ecall
unfolding instr_of
ecall_is f h = simp (h.opcode, h.rd, h.funct3, h.rs1, h.funct7, h.rs2)

ebreak_is : (f : Fields) → Has f 115 0 0 0 1 0 → instr_of f ≡ Some i.Ebreak
unfolding instr_of
ebreak_is f h = simp (h.opcode, h.rd, h.funct3, h.rs1, h.funct7, h.rs2)

amount_is : (f : Fields) (amount : ShiftAmount) → f.rs2.number ≡ amount.bits → amount_at f ≡ amount
unfolding amount_at
amount_is f amount e = same_amount (amount_at f) amount e

ecall_sum : r_type 115 0 0 0 0 0 ≡ 0x00000073
unfolding r_type
ecall_sum = refl

ebreak_sum : r_type 115 0 0 0 1 0 ≡ 0x00100073
unfolding r_type
ebreak_sum = refl

-- each instruction is found by the fields of its word
pub instr_known : (x : Instr) (f : Fields) → word_of x ≡ sum_of f → instr_of f ≡ Some x
unfolding word_of
instr_known (i.Lui rd imm) f e =
    let p = u_fields f 55 rd.number imm (lit< tt) rd.in_range e in
    let q = same_register f.rd rd p.1 in
    lui_is f p.0 ∙ cc p.2
instr_known (i.Auipc rd imm) f e =
    let p = u_fields f 23 rd.number imm (lit< tt) rd.in_range e in
    let q = same_register f.rd rd p.1 in
    auipc_is f p.0 ∙ cc p.2
instr_known (i.Jal rd imm) f e =
    let p = j_fields f 111 rd.number imm (lit< tt) rd.in_range e in
    let q = same_register f.rd rd p.1 in
    jal_is f p.0 ∙ cc p.2
instr_known (i.Jalr rd rs1 imm) f e =
    let p = i_fields f 103 rd.number 0 rs1.number imm (lit< tt) rd.in_range (lit< tt) rs1.in_range e in
    let q = same_register f.rd rd p.1 in
    let r = same_register f.rs1 rs1 p.3 in
    jalr_is f p.0 p.2 ∙ cc p.4
instr_known (i.Branch c rs1 rs2 imm) f e =
    let p = b_fields f 99 (comparison_funct3 c) rs1.number rs2.number imm (lit< tt) (comparison_small c) rs1.in_range rs2.in_range e in
    let q = same_register f.rs1 rs1 p.2 in
    let r = same_register f.rs2 rs2 p.3 in
    branch_is f c p.0 p.1 ∙ cc p.4
instr_known (i.Load k rd rs1 imm) f e =
    let p = i_fields f 3 rd.number (load_funct3 k) rs1.number imm (lit< tt) rd.in_range (load_small k) rs1.in_range e in
    let q = same_register f.rd rd p.1 in
    let r = same_register f.rs1 rs1 p.3 in
    load_is f k p.0 p.2 ∙ cc p.4
instr_known (i.Store k rs1 rs2 imm) f e =
    let p = s_fields f 35 (store_funct3 k) rs1.number rs2.number imm (lit< tt) (store_small k) rs1.in_range rs2.in_range e in
    let q = same_register f.rs1 rs1 p.2 in
    let r = same_register f.rs2 rs2 p.3 in
    store_is f k p.0 p.1 ∙ cc p.4
instr_known (i.OpImm o rd rs1 imm) f e =
    let p = i_fields f 19 rd.number (immediate_funct3 o) rs1.number imm (lit< tt) rd.in_range (immediate_small o) rs1.in_range e in
    let q = same_register f.rd rd p.1 in
    let r = same_register f.rs1 rs1 p.3 in
    immediate_is f o p.0 p.2 ∙ cc p.4
instr_known (i.ShiftImm o rd rs1 amount) f e =
    let h = has f 19 rd.number (shift_funct3 o) rs1.number amount.bits (shift_funct7 o) (lit< tt) rd.in_range (shift_small o) rs1.in_range amount.in_range e in
    let q = same_register f.rd rd h.rd in
    let r = same_register f.rs1 rs1 h.rs1 in
    let s = amount_is f amount h.rs2 in
    shift_is f o h.opcode h.funct3 h.funct7 ∙ cc
instr_known (i.Op o rd rs1 rs2) f e =
    let h = has f 51 rd.number (operation_funct3 o) rs1.number rs2.number (operation_funct7 o) (lit< tt) rd.in_range (operation_small o) rs1.in_range rs2.in_range e in
    let q = same_register f.rd rd h.rd in
    let r = same_register f.rs1 rs1 h.rs1 in
    let s = same_register f.rs2 rs2 h.rs2 in
    registers_is f o h.opcode h.funct3 h.funct7 ∙ cc
instr_known (i.Fence rd rs1 imm) f e =
    let p = i_fields f 15 rd.number 0 rs1.number imm (lit< tt) rd.in_range (lit< tt) rs1.in_range e in
    let q = same_register f.rd rd p.1 in
    let r = same_register f.rs1 rs1 p.3 in
    fence_is f p.0 p.2 ∙ cc p.4
instr_known i.Ecall f e = ecall_is f (has f 115 0 0 0 0 0 (lit< tt) (lit< tt) (lit< tt) (lit< tt) (lit< tt) (ecall_sum ∙ e))
instr_known i.Ebreak f e = ebreak_is f (has f 115 0 0 0 1 0 (lit< tt) (lit< tt) (lit< tt) (lit< tt) (lit< tt) (ebreak_sum ∙ e))
