-- Charges, entry by entry.
use Rattle.std.proofs.Common.{◌≡◌, ◌∙◌, ◌+◌, ◌<◌, ◌≤◌, ◌++◌, ◌∷◌, ℕ, suc, List, Option, Result, Ok, Err, length, get_or, drop, drop-cons, ap, sym, append_assoc, append-nil, arith}
use Rattle.std.specs.Prelude.{OnOk, flat_map}
use Rattle.std.proofs.lemmas.List.{drop_all}
use Rattle.svc_history_laws.specs.declared.entry.Entry.{Entry}
use Rattle.svc_task_runs.specs.declared.task_run.TaskRun.{TaskRun}
use Rattle.svc_task_runs.specs.Runs.{Runs, step}
use Rattle.svc_instruction_profile.specs.declared.charge.Charge.{Charge}
use Rattle.svc_instruction_profile.specs.declared.cost.Expense.TheVariants as expense
use Rattle.svc_instruction_profile.specs.Charges.{charged_where, charges_at, charges_from, is_load_of, loads_lost}

-- ---- parts of a list

-- one part more
pub one_part : {X Y : Type 0} (f : X → List Y) (all : List X) (i : ℕ) (d : X) (ys new whole : List Y) → i < length all
    → ys ++ flat_map f (drop i all) ≡ whole → new ≡ ys ++ f (get_or all i d)
    → new ++ flat_map f (drop (i + 1) all) ≡ whole
one_part f all i d ys new whole inside so_far added =
    let n : i + 1 ≡ suc i = omega arith in
    ap (λ (k : ℕ). new ++ flat_map f (drop k all)) n
    ∙ ap (λ l. l ++ flat_map f (drop (suc i) all)) added
    ∙ append_assoc ys (f (get_or all i d)) (flat_map f (drop (suc i) all))
    ∙ sym (ap (λ l. ys ++ flat_map f l) (drop-cons all i d inside))
    ∙ so_far

pub no_part_left : {X Y : Type 0} (f : X → List Y) (all : List X) (i : ℕ) (ys whole : List Y) → length all ≤ i
    → ys ++ flat_map f (drop i all) ≡ whole → ys ≡ whole
no_part_left f all i ys whole end so_far =
    sym (append-nil ys) ∙ sym (ap (λ l. ys ++ flat_map f l) (drop_all i all end)) ∙ so_far

-- ---- the loads of a task

pub one_load : (r : TaskRun) (asked : List (Option ℕ)) (es : List Entry) (i : ℕ) (a : Option ℕ) (d : Entry) (ys new whole : List Charge) → i < length es → length asked ≡ length es
    → ys ++ loads_lost r (drop i asked) (drop i es) ≡ whole → new ≡ ys ++ charged_where (is_load_of r (get_or es i d)) (get_or asked i a) expense.Lost
    → new ++ loads_lost r (drop (i + 1) asked) (drop (i + 1) es) ≡ whole
one_load r asked es i a d ys new whole inside same so_far added =
    let n : i + 1 ≡ suc i = omega arith in
    let within : i < length asked = omega (arith, inside, same) in
    let x = charged_where (is_load_of r (get_or es i d)) (get_or asked i a) expense.Lost in
    ap (λ (k : ℕ). new ++ loads_lost r (drop k asked) (drop k es)) n
    ∙ ap (λ l. l ++ loads_lost r (drop (suc i) asked) (drop (suc i) es)) added
    ∙ append_assoc ys x (loads_lost r (drop (suc i) asked) (drop (suc i) es))
    ∙ sym (ap (λ l. ys ++ loads_lost r l (get_or es i d ∷ drop (suc i) es)) (drop-cons asked i a within))
    ∙ sym (ap (λ l. ys ++ loads_lost r (drop i asked) l) (drop-cons es i d inside))
    ∙ so_far

pub no_load_left : (r : TaskRun) (asked : List (Option ℕ)) (es : List Entry) (i : ℕ) (ys whole : List Charge) → length es ≤ i
    → ys ++ loads_lost r (drop i asked) (drop i es) ≡ whole → ys ≡ whole
no_load_left r asked es i ys whole end so_far =
    sym (append-nil ys) ∙ sym (ap (λ l. ys ++ loads_lost r (drop i asked) l) (drop_all i es end)) ∙ so_far

-- ---- the entries

pub one_entry : (asked : List (Option ℕ)) (es : List Entry) (i : ℕ) (d : Entry) (s next : Runs) (ys new whole : List Charge) → i < length es → next ≡ step i (get_or es i d) s
    → new ≡ ys ++ charges_at asked es i (get_or es i d) s.active → ys ++ charges_from asked es s i (drop i es) ≡ whole
    → new ++ charges_from asked es next (i + 1) (drop (i + 1) es) ≡ whole
unfolding charges_from
one_entry asked es i d s next ys new whole inside is added so_far =
    let n : i + 1 ≡ suc i = omega arith in
    let x = charges_at asked es i (get_or es i d) s.active in
    let rest = charges_from asked es (step i (get_or es i d) s) (suc i) (drop (suc i) es) in
    ap (λ (k : ℕ). new ++ charges_from asked es next k (drop k es)) n
    ∙ ap (λ (r : Runs). new ++ charges_from asked es r (suc i) (drop (suc i) es)) is
    ∙ ap (λ (l : List Charge). l ++ rest) added
    ∙ append_assoc ys x rest
    ∙ sym (ap (λ (l : List Entry). ys ++ charges_from asked es s i l) (drop-cons es i d inside))
    ∙ so_far

pub no_entry_left : (asked : List (Option ℕ)) (es : List Entry) (i : ℕ) (s : Runs) (ys whole : List Charge) → length es ≤ i
    → ys ++ charges_from asked es s i (drop i es) ≡ whole → ys ≡ whole
unfolding charges_from
no_entry_left asked es i s ys whole end so_far =
    sym (append-nil ys) ∙ sym (ap (λ (l : List Entry). ys ++ charges_from asked es s i l) (drop_all i es end)) ∙ so_far

-- three parts, one after another
pub three : {Y : Type 0} (ys one two all a b c : List Y) → one ≡ ys ++ a → two ≡ one ++ b → all ≡ two ++ c → all ≡ ys ++ ((a ++ b) ++ c)
three ys one two all a b c first second third =
    third ∙ ap (λ l. l ++ c) (second ∙ ap (λ l. l ++ b) first ∙ append_assoc ys a b) ∙ append_assoc ys (a ++ b) c

-- what holds once a call succeeds
pub on_ok : {A E P Q : Type 0} (r : Result A E) → (P → Q) → OnOk r P → OnOk r Q
on_ok (Ok a) f h = f h
on_ok (Err e) f h = tt
