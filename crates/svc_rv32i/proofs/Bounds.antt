-- The word of each instruction has 32 bits.
use Rattle.std.proofs.Common.{◌^◌, ◌<◌, lit<}
use Rattle.svc_rv32i.specs.declared.instr.Instr.{Instr}
use Rattle.svc_rv32i.specs.declared.instr.Instr.TheVariants as i
use Rattle.svc_rv32i.specs.Words.{word_of, comparison_funct3, load_funct3, store_funct3, immediate_funct3, shift_funct3, shift_funct7, operation_funct3, operation_funct7}
use Rattle.svc_rv32i.proofs.Formats.{r_bound, i_bound, s_bound, b_bound, u_bound, j_bound}
use Rattle.svc_rv32i.proofs.Tables.{comparison_small, load_small, store_small, immediate_small, shift_small, shift_funct7_small, operation_small, operation_funct7_small}

pub word_bound : (x : Instr) → word_of x < 2 ^ 32
unfolding word_of
word_bound (i.Lui rd imm) = u_bound 55 rd.number imm.bits (lit< tt) rd.in_range imm.in_range
word_bound (i.Auipc rd imm) = u_bound 23 rd.number imm.bits (lit< tt) rd.in_range imm.in_range
word_bound (i.Jal rd imm) = j_bound 111 rd.number imm.bits (lit< tt) rd.in_range imm.in_range
word_bound (i.Jalr rd rs1 imm) = i_bound 103 rd.number 0 rs1.number imm.bits (lit< tt) rd.in_range (lit< tt) rs1.in_range imm.in_range
word_bound (i.Branch c rs1 rs2 imm) = b_bound 99 (comparison_funct3 c) rs1.number rs2.number imm.bits (lit< tt) (comparison_small c) rs1.in_range rs2.in_range imm.in_range
word_bound (i.Load k rd rs1 imm) = i_bound 3 rd.number (load_funct3 k) rs1.number imm.bits (lit< tt) rd.in_range (load_small k) rs1.in_range imm.in_range
word_bound (i.Store k rs1 rs2 imm) = s_bound 35 (store_funct3 k) rs1.number rs2.number imm.bits (lit< tt) (store_small k) rs1.in_range rs2.in_range imm.in_range
word_bound (i.OpImm o rd rs1 imm) = i_bound 19 rd.number (immediate_funct3 o) rs1.number imm.bits (lit< tt) rd.in_range (immediate_small o) rs1.in_range imm.in_range
word_bound (i.ShiftImm o rd rs1 amount) = r_bound 19 rd.number (shift_funct3 o) rs1.number amount.bits (shift_funct7 o) (lit< tt) rd.in_range (shift_small o) rs1.in_range amount.in_range (shift_funct7_small o)
word_bound (i.Op o rd rs1 rs2) = r_bound 51 rd.number (operation_funct3 o) rs1.number rs2.number (operation_funct7 o) (lit< tt) rd.in_range (operation_small o) rs1.in_range rs2.in_range (operation_funct7_small o)
word_bound (i.Fence rd rs1 imm) = i_bound 15 rd.number 0 rs1.number imm.bits (lit< tt) rd.in_range (lit< tt) rs1.in_range imm.in_range
word_bound i.Ecall = lit< tt
word_bound i.Ebreak = lit< tt
