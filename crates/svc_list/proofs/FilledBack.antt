-- A word of a row is the row's word with its own operands.
use Rattle.std.proofs.Common.{◌≡◌, ℕ, ◌/◌, ◌%◌, ◌^◌, ◌<◌, Bool, true, false, ◌==◌, ◌||◌, ◌&&◌, if◌then◌else◌, List, [], ◌∷◌, refl, ap, sym, ◌∙◌, arith}
use Rattle.svc_instructions.specs.declared.table.Part.{Part}
use Rattle.svc_instructions.specs.declared.table.Part.TheVariants as part
use Rattle.svc_instructions.specs.Instructions.{part_bits, part_number, with_part, with_funct3, with_funct7, fixed_by, fixed_bits}

-- a word with the operands of this one
abbrev pub filled : List Part → ℕ → ℕ → ℕ
filled [] w word = word
filled (p ∷ more) w word = filled more w (with_part word p (part_number p w))

either_opcode : (b : Bool) (w x y : ℕ) → x % 2 ^ 7 ≡ w % 2 ^ 7 → y % 2 ^ 7 ≡ w % 2 ^ 7 → (if b then x else y) % 2 ^ 7 ≡ w % 2 ^ 7
either_opcode true w x y h k = h
either_opcode false w x y h k = k

-- the fixed bits have the opcode
pub fixed_opcode : (w : ℕ) → fixed_bits w % 2 ^ 7 ≡ w % 2 ^ 7
unfolding fixed_by
fixed_opcode w =
    let o = w % 2 ^ 7 in
    let three : with_funct3 w % 2 ^ 7 ≡ o = omega arith in
    let seven : with_funct7 w % 2 ^ 7 ≡ o = omega arith in
    let one : w % 2 ^ 7 % 2 ^ 7 ≡ o = omega arith in
    let last = either_opcode (o == 115) w w (with_funct3 w) refl three in
    let shift = either_opcode (o == 19 && w / 2 ^ 12 % 2 ^ 2 == 1) w (with_funct7 w) (if o == 115 then w else with_funct3 w) seven last in
    let register = either_opcode (o == 51) w (with_funct7 w) (if o == 19 && w / 2 ^ 12 % 2 ^ 2 == 1 then with_funct7 w else if o == 115 then w else with_funct3 w) seven shift in
    either_opcode (o == 55 || o == 23 || o == 111) w (w % 2 ^ 7) (if o == 51 then with_funct7 w else if o == 19 && w / 2 ^ 12 % 2 ^ 2 == 1 then with_funct7 w else if o == 115 then w else with_funct3 w) one register

opcode_is : (w word opcode : ℕ) → fixed_bits w ≡ word → word % 2 ^ 7 ≡ opcode → w % 2 ^ 7 ≡ opcode
opcode_is w word opcode e h = sym (fixed_opcode w) ∙ ap (λ x. x % 2 ^ 7) e ∙ h

-- what is fixed of a word of each opcode
opcode_fixes : (w word opcode : ℕ) → fixed_bits w ≡ word → word % 2 ^ 7 ≡ opcode → fixed_by opcode w ≡ word
opcode_fixes w word opcode e h = ap (λ o. fixed_by o w) (sym (opcode_is w word opcode e h)) ∙ e

pub upper_fills : (opcode word w : ℕ) → w < 2 ^ 32 → word % 2 ^ 7 ≡ opcode → fixed_by opcode w ≡ w % 2 ^ 7 → fixed_bits w ≡ word → filled (part.Rd ∷ part.Comma ∷ part.Upper ∷ part.End ∷ part.End ∷ []) w word ≡ w
unfolding part_bits part_number
upper_fills opcode word w fit h is e =
    let bits : w % 2 ^ 7 ≡ word = sym is ∙ opcode_fixes w word opcode e h in
    omega (arith, bits, fit)

pub jump_fills : (word w : ℕ) → w < 2 ^ 32 → word % 2 ^ 7 ≡ 111 → fixed_bits w ≡ word → filled (part.Rd ∷ part.Comma ∷ part.Jump ∷ part.End ∷ part.End ∷ []) w word ≡ w
unfolding part_bits part_number fixed_by
jump_fills word w fit h e =
    let bits : w % 2 ^ 7 ≡ word = opcode_fixes w word 111 e h in
    let n = part_number part.Jump w in
    omega (arith, bits, fit)

pub register_fills : (word w : ℕ) → w < 2 ^ 32 → word % 2 ^ 7 ≡ 51 → fixed_bits w ≡ word → filled (part.Rd ∷ part.Comma ∷ part.Rs1 ∷ part.Comma ∷ part.Rs2 ∷ []) w word ≡ w
unfolding part_bits part_number fixed_by
register_fills word w fit h e =
    let bits : with_funct7 w ≡ word = opcode_fixes w word 51 e h in
    omega (arith, bits, fit)

-- the funct3 of what is fixed of an operation on an immediate
shift_or : (w word : ℕ) (b : Bool) → (if b then with_funct7 w else with_funct3 w) ≡ word → word / 2 ^ 12 % 2 ^ 2 ≡ w / 2 ^ 12 % 2 ^ 2
shift_or w word true e = let bits : with_funct7 w ≡ word = e in omega (arith, bits)
shift_or w word false e = let bits : with_funct3 w ≡ word = e in omega (arith, bits)

pub shift_fills : (word w : ℕ) → w < 2 ^ 32 → word % 2 ^ 7 ≡ 19 → word / 2 ^ 12 % 2 ^ 2 ≡ 1 → fixed_bits w ≡ word → filled (part.Rd ∷ part.Comma ∷ part.Rs1 ∷ part.Comma ∷ part.Amount ∷ []) w word ≡ w
unfolding part_bits part_number fixed_by
shift_fills word w fit h one e =
    let either = opcode_fixes w word 19 e h in
    let field : w / 2 ^ 12 % 2 ^ 2 ≡ 1 = sym (shift_or w word (w / 2 ^ 12 % 2 ^ 2 == 1) either) ∙ one in
    let bits : with_funct7 w ≡ word = rw field at either in
    omega (arith, bits, fit)

pub immediate_fills : (word w : ℕ) → w < 2 ^ 32 → word % 2 ^ 7 ≡ 19 → (word / 2 ^ 12 % 2 ^ 2 == 1) ≡ false → fixed_bits w ≡ word → filled (part.Rd ∷ part.Comma ∷ part.Rs1 ∷ part.Comma ∷ part.Immediate ∷ []) w word ≡ w
unfolding part_bits part_number fixed_by
immediate_fills word w fit h other e =
    let either = opcode_fixes w word 19 e h in
    let field : (w / 2 ^ 12 % 2 ^ 2 == 1) ≡ false = ap (λ x. x == 1) (sym (shift_or w word (w / 2 ^ 12 % 2 ^ 2 == 1) either)) ∙ other in
    let bits : with_funct3 w ≡ word = rw field at either in
    omega (arith, bits, fit)

-- formats with funct3 alone, of this opcode
pub load_fills : (opcode word w : ℕ) → w < 2 ^ 32 → word % 2 ^ 7 ≡ opcode → fixed_by opcode w ≡ with_funct3 w → fixed_bits w ≡ word → filled (part.Rd ∷ part.Comma ∷ part.Immediate ∷ part.Base ∷ part.End ∷ []) w word ≡ w
unfolding part_bits part_number
load_fills opcode word w fit h is e =
    let bits : with_funct3 w ≡ word = sym is ∙ opcode_fixes w word opcode e h in
    omega (arith, bits, fit)

pub store_fills : (word w : ℕ) → w < 2 ^ 32 → word % 2 ^ 7 ≡ 35 → fixed_bits w ≡ word → filled (part.Rs2 ∷ part.Comma ∷ part.StoreOffset ∷ part.Base ∷ part.End ∷ []) w word ≡ w
unfolding part_bits part_number fixed_by
store_fills word w fit h e =
    let bits : with_funct3 w ≡ word = opcode_fixes w word 35 e h in
    omega (arith, bits, fit)

pub branch_fills : (word w : ℕ) → w < 2 ^ 32 → word % 2 ^ 7 ≡ 99 → fixed_bits w ≡ word → filled (part.Rs1 ∷ part.Comma ∷ part.Rs2 ∷ part.Comma ∷ part.Branch ∷ []) w word ≡ w
unfolding part_bits part_number fixed_by
branch_fills word w fit h e =
    let bits : with_funct3 w ≡ word = opcode_fixes w word 99 e h in
    omega (arith, bits, fit)

pub system_fills : (word w : ℕ) → w < 2 ^ 32 → word % 2 ^ 7 ≡ 115 → fixed_bits w ≡ word → filled (part.End ∷ part.End ∷ part.End ∷ part.End ∷ part.End ∷ []) w word ≡ w
unfolding part_bits part_number fixed_by
system_fills word w fit h e =
    let bits : w ≡ word = opcode_fixes w word 115 e h in
    omega (arith, bits, fit)

pub lui_fixed : (w : ℕ) → fixed_by 55 w ≡ w % 2 ^ 7
unfolding fixed_by
lui_fixed w = refl

pub auipc_fixed : (w : ℕ) → fixed_by 23 w ≡ w % 2 ^ 7
unfolding fixed_by
auipc_fixed w = refl

pub load_fixed : (w : ℕ) → fixed_by 3 w ≡ with_funct3 w
unfolding fixed_by
load_fixed w = refl

pub jalr_fixed : (w : ℕ) → fixed_by 103 w ≡ with_funct3 w
unfolding fixed_by
jalr_fixed w = refl
