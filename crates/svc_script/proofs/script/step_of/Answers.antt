use Rattle.std.proofs.Common.{◌≡◌, ◌∙◌, refl, sym, ap, length, arith}
use Rattle.csv.specs.Records.{fields_of}
use Rattle.svc_script.specs.Script.{FirstBadStep, step_columns, word_text}
use Rattle.svc_script.specs.declared.script.StepWord.TheVariants as word
use Rattle.svc_report.proofs.Rows.{gave_up}
use Rattle.svc_script.proofs.Steps.{found_with, front, no_step, some_row, some_step, three, word_of-some}
use Rattle.svc_script.proofs.script.step_of.Goals as goal

pub returns-then-len-ne3 : goal.returns-then-len-ne3
unfolding FirstBadStep
returns-then-len-ne3 c h = c.if-len-ne3.true (c.len.ensures ∙ h)

pub returns-in_err-word : goal.returns-in_err-word
unfolding FirstBadStep step_columns
returns-in_err-word c =
    let fs = fields_of c.args.row.now in
    let len : length fs ≡ 3 = sym c.len.ensures ∙ c.if-len-ne3.false in
    let none = rw c.in_err-word.ensures.ok_part at c.named.ensures in
    gave_up c.from_residual.result _ _ 1 _ (FirstBadStep fs) c.from_residual.ensures.1 c.in_err-word.ensures.value c.in_err-word.ensures.ok_part
    (len, (some_step word.Assign 0, some_row word.Assign 0 (omega arith), refl), λ s p h. none _ tt (c.field.ensures ∙ front fs (step_columns s) 1 0 (omega arith) h))

pub returns-in_err-unit : goal.returns-in_err-unit
unfolding FirstBadStep step_columns
returns-in_err-unit c =
    let fs = fields_of c.args.row.now in
    let len : length fs ≡ 3 = sym c.len.ensures ∙ c.if-len-ne3.false in
    let w = c.in_ok-word.word in
    let a = rw c.in_ok-word.ensures.ok_part at c.named.ensures in
    let first = sym c.field.ensures ∙ a.1 ∙ ap word_text (sym (word_of-some w)) in
    let none = rw c.in_err-unit.ensures.ok_part at c.unit_of.ensures in
    gave_up c.from_residual-in_err-unit.result _ _ 2 _ (FirstBadStep fs) c.from_residual-in_err-unit.ensures.1 c.in_err-unit.ensures.value c.in_err-unit.ensures.ok_part
    (len, (some_step w 0, some_row w 0 (omega arith), rw (three fs len, first) refl), λ s p h. none s.unit p.unit (c.field-2.ensures ∙ front fs (step_columns s) 2 1 (omega arith) h))

pub returns-in_err-arg : goal.returns-in_err-arg
unfolding FirstBadStep step_columns
returns-in_err-arg c =
    let fs = fields_of c.args.row.now in
    let len : length fs ≡ 3 = sym c.len.ensures ∙ c.if-len-ne3.false in
    let w = c.in_ok-word.word in
    let a = rw c.in_ok-word.ensures.ok_part at c.named.ensures in
    let b = rw c.in_ok-unit.ensures.ok_part at c.unit_of.ensures in
    let u = c.in_ok-unit.unit.0 in
    let first = sym c.field.ensures ∙ a.1 ∙ ap word_text (sym (word_of-some w)) in
    let second = sym c.field-2.ensures ∙ b.1 in
    let none = rw c.in_err-arg.ensures.ok_part at c.optional_number_of.ensures in
    gave_up c.from_residual-in_err-arg.result _ _ 3 _ (FirstBadStep fs) c.from_residual-in_err-arg.ensures.1 c.in_err-arg.ensures.value c.in_err-arg.ensures.ok_part
    (len, (some_step w u, some_row w u b.0, rw (three fs len, first, second) refl), λ s p h. none _ p.arg (c.field-3.ensures ∙ front fs (step_columns s) 3 2 (omega arith) h))

pub returns-in_err-kind : goal.returns-in_err-kind
unfolding FirstBadStep step_columns
returns-in_err-kind c =
    let fs = fields_of c.args.row.now in
    let len : length fs ≡ 3 = sym c.len.ensures ∙ c.if-len-ne3.false in
    let w = c.in_ok-word.word in
    let a = rw c.in_ok-word.ensures.ok_part at c.named.ensures in
    let b = rw c.in_ok-unit.ensures.ok_part at c.unit_of.ensures in
    let d = rw c.in_ok-arg.ensures.ok_part at c.optional_number_of.ensures in
    let u = c.in_ok-unit.unit.0 in
    let first = sym c.field.ensures ∙ a.1 in
    let second = sym c.field-2.ensures ∙ b.1 in
    let third = sym c.field-3.ensures ∙ d.1 in
    let none = sym c.with.ensures ∙ c.in_err-kind.ensures.ok_part in
    gave_up c.from_residual-in_err-kind.result _ _ 3 _ (FirstBadStep fs) c.from_residual-in_err-kind.ensures.1 c.in_err-kind.ensures.value c.in_err-kind.ensures.ok_part (
      len,
      (some_step w u, some_row w u b.0, rw (three fs len, first ∙ ap word_text (sym (word_of-some w)), second) refl),
      λ s p h. no_step w c.in_ok-arg.arg s d.0 p none (sym first ∙ front fs (step_columns s) 3 0 (omega arith) h) (sym third ∙ front fs (step_columns s) 3 2 (omega arith) h),
    )

pub returns : goal.returns
unfolding step_columns
returns c =
    let fs = fields_of c.args.row.now in
    let len : length fs ≡ 3 = sym c.len.ensures ∙ c.if-len-ne3.false in
    let a = rw c.in_ok-word.ensures.ok_part at c.named.ensures in
    let b = rw c.in_ok-unit.ensures.ok_part at c.unit_of.ensures in
    let d = rw c.in_ok-arg.ensures.ok_part at c.optional_number_of.ensures in
    let found = found_with c.in_ok-word.word c.in_ok-arg.arg c.in_ok-kind.kind (sym c.with.ensures ∙ c.in_ok-kind.ensures.ok_part) in
    let first = sym c.field.ensures ∙ a.1 in
    let second = sym c.field-2.ensures ∙ b.1 in
    let third = sym c.field-3.ensures ∙ d.1 in
    (record { unit = b.0; arg = rw found.1 d.0 }, rw (three fs len, first, second, third, found.0, found.1) refl)
