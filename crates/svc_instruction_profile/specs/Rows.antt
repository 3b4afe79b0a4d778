-- The table of instructions: a row for each at which an entry asks.
use Rattle.std.specs.Prelude.{ℕ, ◌+◌, ◌==◌, List, [], ◌∷◌, ◌++◌, Option, codes, decimal, flat_map, unwrap_or}
use Rattle.std.specs.BTreeMap.{is_at}
use Rattle.std.specs.Map.{lookup}
use Rattle.std.specs.Ordering.{match_ordering, nat_cmp}
use Rattle.svc_history_laws.specs.declared.entry.Entry.{Entry}
use Rattle.svc_report.specs.Counting.{one_where}
use Rattle.svc_text.specs.Rows.{row}
use Rattle.svc_instruction_profile.specs.declared.charge.Charge.{Charge}
use Rattle.svc_instruction_profile.specs.declared.cost.Cost.{Cost}
use Rattle.svc_instruction_profile.specs.declared.cost.Expense.{Expense}
use Rattle.svc_instruction_profile.specs.declared.cost.Expense.TheVariants as expense
use Rattle.svc_instruction_profile.specs.Charges.{charges_of}

-- ---- what the charges of a row come to

abbrev pub no_cost : Cost
no_cost = record { loads = 0; stores = 0; outputs = 0; lost = 0; found = 0; suffered = 0 }

-- the kinds of charges, by number
abbrev pub number_of : Expense → ℕ
number_of expense.Asked = 0
number_of expense.Load = 1
number_of expense.Store = 2
number_of expense.Output = 3
number_of expense.Found = 4
number_of expense.Lost = 5
number_of expense.Suffered = 6

-- one where both are the same
abbrev pub one_of : Expense → Expense → ℕ
one_of x y = one_where (number_of x == number_of y)

-- with one more; that it asked isn't counted
abbrev pub costs_more : Expense → Cost → Cost
costs_more x k = record {
  loads = k.loads + one_of expense.Load x;
  stores = k.stores + one_of expense.Store x;
  outputs = k.outputs + one_of expense.Output x;
  lost = k.lost + one_of expense.Lost x;
  found = k.found + one_of expense.Found x;
  suffered = k.suffered + one_of expense.Suffered x;
}

-- in its row; a new one goes to its place in their order
abbrev pub with_charge : Charge → List (ℕ × Cost) → List (ℕ × Cost)
with_charge c [] = (c.address, costs_more c.expense no_cost) ∷ []
with_charge c (r ∷ rs) =
    match_ordering (nat_cmp c.address r.0)
    ((c.address, costs_more c.expense no_cost) ∷ r ∷ rs)
    ((r.0, costs_more c.expense r.1) ∷ rs)
    (r ∷ with_charge c rs)

-- the rows with all of these
abbrev pub with_charges : List (ℕ × Cost) → List Charge → List (ℕ × Cost)
with_charges rs [] = rs
with_charges rs (c ∷ cs) = with_charges (with_charge c rs) cs

-- what rows have for an address
abbrev pub cost_at : ℕ → List (ℕ × Cost) → Cost
cost_at a rs = unwrap_or (lookup (is_at (nat_cmp a)) rs) no_cost

-- the rows of a history whose entries ask at these addresses
abbrev pub instruction_rows : List (Option ℕ) → List Entry → List (ℕ × Cost)
instruction_rows asked es = with_charges [] (charges_of asked es)

-- ---- the text

-- the counts that are reported for an instruction, in their order
abbrev pub told_of : Cost → List ℕ
told_of k = k.loads ∷ k.stores ∷ k.outputs ∷ k.lost ∷ k.found ∷ k.suffered ∷ []

abbrev pub cost_row : ℕ × Cost → List ℕ
cost_row r = row (decimal r.0) (told_of r.1)

abbrev pub instruction_header : List ℕ
instruction_header = codes "pc,loads,stores,outputs,loads-squashed,violations-found,violations-suffered\n"

-- the table of a history whose entries ask at these addresses
abbrev pub instruction_table : List (Option ℕ) → List Entry → List ℕ
instruction_table asked es = instruction_header ++ flat_map cost_row (instruction_rows asked es)
