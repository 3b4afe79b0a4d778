use Rattle.std.proofs.Common.{◌≡◌, ◌∙◌, refl, sym, None, length, arith}
use Rattle.csv.specs.Records.{fields_of}
use Rattle.svc_history_laws.specs.declared.entry.Kind.TheVariants as kind
use Rattle.svc_history_laws.specs.declared.entry.ReplyKind.TheVariants as reply
use Rattle.svc_report.specs.Trace.{FirstBad, columns}
use Rattle.svc_report.proofs.Rows.{gave_up, thirteen}
use Rattle.svc_report.proofs.trace.entry_of.Goals as goal

pub returns-then-len-ne13 : goal.returns-then-len-ne13
unfolding FirstBad
returns-then-len-ne13 c h = c.if-len-ne13.true (c.len.ensures ∙ h)

pub returns-in_err-ok_or : goal.returns-in_err-ok_or
unfolding FirstBad columns
returns-in_err-ok_or c =
    let fs = fields_of c.args.row.now in
    let len : length fs ≡ 13 = sym c.len.ensures ∙ c.if-len-ne13.false in
    let none = rw c.in_err-ok_or.ensures.ok_part at c.named.ensures in
    gave_up c.from_residual.result _ _ 1 _ (FirstBad fs) c.from_residual.ensures.1 c.in_err-ok_or.ensures.value c.in_err-ok_or.ensures.ok_part
    (len, (record { kind = kind.Assign; unit = record { 0 = 0 }; arg = None; local = None; ask = None; reply = reply.Ran; addr = None; word = None; served = None; from = None; cause = None; first = None; squashed = None }, record { unit = omega arith; arg = tt; local = tt; addr = tt; word = tt; from = tt; first = tt; squashed = tt }, refl), λ e r h. none e.kind tt (c.field.ensures ∙ h))

pub returns-in_err-ok_or-2 : goal.returns-in_err-ok_or-2
unfolding FirstBad columns
returns-in_err-ok_or-2 c =
    let fs = fields_of c.args.row.now in
    let len : length fs ≡ 13 = sym c.len.ensures ∙ c.if-len-ne13.false in
    let f0 = rw c.in_ok-ok_or.ensures.ok_part at c.named.ensures in
    let none = rw c.in_err-ok_or-2.ensures.ok_part at c.unit_of.ensures in
    gave_up c.from_residual-in_err-ok_or-2.result _ _ 2 _ (FirstBad fs) c.from_residual-in_err-ok_or-2.ensures.1 c.in_err-ok_or-2.ensures.value c.in_err-ok_or-2.ensures.ok_part
    (len, (record { kind = c.in_ok-ok_or.field-0; unit = record { 0 = 0 }; arg = None; local = None; ask = None; reply = reply.Ran; addr = None; word = None; served = None; from = None; cause = None; first = None; squashed = None }, record { unit = omega arith; arg = tt; local = tt; addr = tt; word = tt; from = tt; first = tt; squashed = tt }, rw (thirteen fs len, sym c.field.ensures ∙ f0.1) refl), λ e r h. none e.unit r.unit (c.field-2.ensures ∙ h))

pub returns-in_err-ok_or-3 : goal.returns-in_err-ok_or-3
unfolding FirstBad columns
returns-in_err-ok_or-3 c =
    let fs = fields_of c.args.row.now in
    let len : length fs ≡ 13 = sym c.len.ensures ∙ c.if-len-ne13.false in
    let f0 = rw c.in_ok-ok_or.ensures.ok_part at c.named.ensures in
    let f1 = rw c.in_ok-ok_or-2.ensures.ok_part at c.unit_of.ensures in
    let none = rw c.in_err-ok_or-3.ensures.ok_part at c.optional_number_of.ensures in
    gave_up c.from_residual-in_err-ok_or-3.result _ _ 3 _ (FirstBad fs) c.from_residual-in_err-ok_or-3.ensures.1 c.in_err-ok_or-3.ensures.value c.in_err-ok_or-3.ensures.ok_part
    (len, (record { kind = c.in_ok-ok_or.field-0; unit = c.in_ok-ok_or-2.field-0; arg = None; local = None; ask = None; reply = reply.Ran; addr = None; word = None; served = None; from = None; cause = None; first = None; squashed = None }, record { unit = f1.0; arg = tt; local = tt; addr = tt; word = tt; from = tt; first = tt; squashed = tt }, rw (thirteen fs len, sym c.field.ensures ∙ f0.1, sym c.field-2.ensures ∙ f1.1) refl), λ e r h. none e.arg r.arg (c.field-3.ensures ∙ h))

pub returns-in_err-ok_or-4 : goal.returns-in_err-ok_or-4
unfolding FirstBad columns
returns-in_err-ok_or-4 c =
    let fs = fields_of c.args.row.now in
    let len : length fs ≡ 13 = sym c.len.ensures ∙ c.if-len-ne13.false in
    let f0 = rw c.in_ok-ok_or.ensures.ok_part at c.named.ensures in
    let f1 = rw c.in_ok-ok_or-2.ensures.ok_part at c.unit_of.ensures in
    let f2 = rw c.in_ok-ok_or-3.ensures.ok_part at c.optional_number_of.ensures in
    let none = rw c.in_err-ok_or-4.ensures.ok_part at c.optional_small_of.ensures in
    gave_up c.from_residual-in_err-ok_or-4.result _ _ 4 _ (FirstBad fs) c.from_residual-in_err-ok_or-4.ensures.1 c.in_err-ok_or-4.ensures.value c.in_err-ok_or-4.ensures.ok_part
    (len, (record { kind = c.in_ok-ok_or.field-0; unit = c.in_ok-ok_or-2.field-0; arg = c.in_ok-ok_or-3.field-0; local = None; ask = None; reply = reply.Ran; addr = None; word = None; served = None; from = None; cause = None; first = None; squashed = None }, record { unit = f1.0; arg = f2.0; local = tt; addr = tt; word = tt; from = tt; first = tt; squashed = tt }, rw (thirteen fs len, sym c.field.ensures ∙ f0.1, sym c.field-2.ensures ∙ f1.1, sym c.field-3.ensures ∙ f2.1) refl), λ e r h. none e.local r.local (c.field-4.ensures ∙ h))

pub returns-in_err-ok_or-5 : goal.returns-in_err-ok_or-5
unfolding FirstBad columns
returns-in_err-ok_or-5 c =
    let fs = fields_of c.args.row.now in
    let len : length fs ≡ 13 = sym c.len.ensures ∙ c.if-len-ne13.false in
    let f0 = rw c.in_ok-ok_or.ensures.ok_part at c.named.ensures in
    let f1 = rw c.in_ok-ok_or-2.ensures.ok_part at c.unit_of.ensures in
    let f2 = rw c.in_ok-ok_or-3.ensures.ok_part at c.optional_number_of.ensures in
    let f3 = rw c.in_ok-ok_or-4.ensures.ok_part at c.optional_small_of.ensures in
    let none = rw c.in_err-ok_or-5.ensures.ok_part at c.named_or_none.ensures in
    gave_up c.from_residual-in_err-ok_or-5.result _ _ 5 _ (FirstBad fs) c.from_residual-in_err-ok_or-5.ensures.1 c.in_err-ok_or-5.ensures.value c.in_err-ok_or-5.ensures.ok_part
    (len, (record { kind = c.in_ok-ok_or.field-0; unit = c.in_ok-ok_or-2.field-0; arg = c.in_ok-ok_or-3.field-0; local = c.in_ok-ok_or-4.field-0; ask = None; reply = reply.Ran; addr = None; word = None; served = None; from = None; cause = None; first = None; squashed = None }, record { unit = f1.0; arg = f2.0; local = f3.0; addr = tt; word = tt; from = tt; first = tt; squashed = tt }, rw (thirteen fs len, sym c.field.ensures ∙ f0.1, sym c.field-2.ensures ∙ f1.1, sym c.field-3.ensures ∙ f2.1, sym c.field-4.ensures ∙ f3.1) refl), λ e r h. none e.ask tt (c.field-5.ensures ∙ h))

pub returns-in_err-ok_or-6 : goal.returns-in_err-ok_or-6
unfolding FirstBad columns
returns-in_err-ok_or-6 c =
    let fs = fields_of c.args.row.now in
    let len : length fs ≡ 13 = sym c.len.ensures ∙ c.if-len-ne13.false in
    let f0 = rw c.in_ok-ok_or.ensures.ok_part at c.named.ensures in
    let f1 = rw c.in_ok-ok_or-2.ensures.ok_part at c.unit_of.ensures in
    let f2 = rw c.in_ok-ok_or-3.ensures.ok_part at c.optional_number_of.ensures in
    let f3 = rw c.in_ok-ok_or-4.ensures.ok_part at c.optional_small_of.ensures in
    let f4 = rw c.in_ok-ok_or-5.ensures.ok_part at c.named_or_none.ensures in
    let none = rw c.in_err-ok_or-6.ensures.ok_part at c.named-2.ensures in
    gave_up c.from_residual-in_err-ok_or-6.result _ _ 6 _ (FirstBad fs) c.from_residual-in_err-ok_or-6.ensures.1 c.in_err-ok_or-6.ensures.value c.in_err-ok_or-6.ensures.ok_part
    (len, (record { kind = c.in_ok-ok_or.field-0; unit = c.in_ok-ok_or-2.field-0; arg = c.in_ok-ok_or-3.field-0; local = c.in_ok-ok_or-4.field-0; ask = c.in_ok-ok_or-5.field-0; reply = reply.Ran; addr = None; word = None; served = None; from = None; cause = None; first = None; squashed = None }, record { unit = f1.0; arg = f2.0; local = f3.0; addr = tt; word = tt; from = tt; first = tt; squashed = tt }, rw (thirteen fs len, sym c.field.ensures ∙ f0.1, sym c.field-2.ensures ∙ f1.1, sym c.field-3.ensures ∙ f2.1, sym c.field-4.ensures ∙ f3.1, sym c.field-5.ensures ∙ f4.1) refl), λ e r h. none e.reply tt (c.field-6.ensures ∙ h))

pub returns-in_err-ok_or-7 : goal.returns-in_err-ok_or-7
unfolding FirstBad columns
returns-in_err-ok_or-7 c =
    let fs = fields_of c.args.row.now in
    let len : length fs ≡ 13 = sym c.len.ensures ∙ c.if-len-ne13.false in
    let f0 = rw c.in_ok-ok_or.ensures.ok_part at c.named.ensures in
    let f1 = rw c.in_ok-ok_or-2.ensures.ok_part at c.unit_of.ensures in
    let f2 = rw c.in_ok-ok_or-3.ensures.ok_part at c.optional_number_of.ensures in
    let f3 = rw c.in_ok-ok_or-4.ensures.ok_part at c.optional_small_of.ensures in
    let f4 = rw c.in_ok-ok_or-5.ensures.ok_part at c.named_or_none.ensures in
    let f5 = rw c.in_ok-ok_or-6.ensures.ok_part at c.named-2.ensures in
    let none = rw c.in_err-ok_or-7.ensures.ok_part at c.optional_address_of.ensures in
    gave_up c.from_residual-in_err-ok_or-7.result _ _ 7 _ (FirstBad fs) c.from_residual-in_err-ok_or-7.ensures.1 c.in_err-ok_or-7.ensures.value c.in_err-ok_or-7.ensures.ok_part
    (len, (record { kind = c.in_ok-ok_or.field-0; unit = c.in_ok-ok_or-2.field-0; arg = c.in_ok-ok_or-3.field-0; local = c.in_ok-ok_or-4.field-0; ask = c.in_ok-ok_or-5.field-0; reply = c.in_ok-ok_or-6.field-0; addr = None; word = None; served = None; from = None; cause = None; first = None; squashed = None }, record { unit = f1.0; arg = f2.0; local = f3.0; addr = tt; word = tt; from = tt; first = tt; squashed = tt }, rw (thirteen fs len, sym c.field.ensures ∙ f0.1, sym c.field-2.ensures ∙ f1.1, sym c.field-3.ensures ∙ f2.1, sym c.field-4.ensures ∙ f3.1, sym c.field-5.ensures ∙ f4.1, sym c.field-6.ensures ∙ f5.1) refl), λ e r h. none e.addr r.addr (c.field-7.ensures ∙ h))

pub returns-in_err-ok_or-8 : goal.returns-in_err-ok_or-8
unfolding FirstBad columns
returns-in_err-ok_or-8 c =
    let fs = fields_of c.args.row.now in
    let len : length fs ≡ 13 = sym c.len.ensures ∙ c.if-len-ne13.false in
    let f0 = rw c.in_ok-ok_or.ensures.ok_part at c.named.ensures in
    let f1 = rw c.in_ok-ok_or-2.ensures.ok_part at c.unit_of.ensures in
    let f2 = rw c.in_ok-ok_or-3.ensures.ok_part at c.optional_number_of.ensures in
    let f3 = rw c.in_ok-ok_or-4.ensures.ok_part at c.optional_small_of.ensures in
    let f4 = rw c.in_ok-ok_or-5.ensures.ok_part at c.named_or_none.ensures in
    let f5 = rw c.in_ok-ok_or-6.ensures.ok_part at c.named-2.ensures in
    let f6 = rw c.in_ok-ok_or-7.ensures.ok_part at c.optional_address_of.ensures in
    let none = rw c.in_err-ok_or-8.ensures.ok_part at c.optional_number_of-2.ensures in
    gave_up c.from_residual-in_err-ok_or-8.result _ _ 8 _ (FirstBad fs) c.from_residual-in_err-ok_or-8.ensures.1 c.in_err-ok_or-8.ensures.value c.in_err-ok_or-8.ensures.ok_part
    (len, (record { kind = c.in_ok-ok_or.field-0; unit = c.in_ok-ok_or-2.field-0; arg = c.in_ok-ok_or-3.field-0; local = c.in_ok-ok_or-4.field-0; ask = c.in_ok-ok_or-5.field-0; reply = c.in_ok-ok_or-6.field-0; addr = c.in_ok-ok_or-7.field-0; word = None; served = None; from = None; cause = None; first = None; squashed = None }, record { unit = f1.0; arg = f2.0; local = f3.0; addr = f6.0; word = tt; from = tt; first = tt; squashed = tt }, rw (thirteen fs len, sym c.field.ensures ∙ f0.1, sym c.field-2.ensures ∙ f1.1, sym c.field-3.ensures ∙ f2.1, sym c.field-4.ensures ∙ f3.1, sym c.field-5.ensures ∙ f4.1, sym c.field-6.ensures ∙ f5.1, sym c.field-7.ensures ∙ f6.1) refl), λ e r h. none e.word r.word (c.field-8.ensures ∙ h))

pub returns-in_err-ok_or-9 : goal.returns-in_err-ok_or-9
unfolding FirstBad columns
returns-in_err-ok_or-9 c =
    let fs = fields_of c.args.row.now in
    let len : length fs ≡ 13 = sym c.len.ensures ∙ c.if-len-ne13.false in
    let f0 = rw c.in_ok-ok_or.ensures.ok_part at c.named.ensures in
    let f1 = rw c.in_ok-ok_or-2.ensures.ok_part at c.unit_of.ensures in
    let f2 = rw c.in_ok-ok_or-3.ensures.ok_part at c.optional_number_of.ensures in
    let f3 = rw c.in_ok-ok_or-4.ensures.ok_part at c.optional_small_of.ensures in
    let f4 = rw c.in_ok-ok_or-5.ensures.ok_part at c.named_or_none.ensures in
    let f5 = rw c.in_ok-ok_or-6.ensures.ok_part at c.named-2.ensures in
    let f6 = rw c.in_ok-ok_or-7.ensures.ok_part at c.optional_address_of.ensures in
    let f7 = rw c.in_ok-ok_or-8.ensures.ok_part at c.optional_number_of-2.ensures in
    let none = rw c.in_err-ok_or-9.ensures.ok_part at c.named_or_none-2.ensures in
    gave_up c.from_residual-in_err-ok_or-9.result _ _ 9 _ (FirstBad fs) c.from_residual-in_err-ok_or-9.ensures.1 c.in_err-ok_or-9.ensures.value c.in_err-ok_or-9.ensures.ok_part
    (len, (record { kind = c.in_ok-ok_or.field-0; unit = c.in_ok-ok_or-2.field-0; arg = c.in_ok-ok_or-3.field-0; local = c.in_ok-ok_or-4.field-0; ask = c.in_ok-ok_or-5.field-0; reply = c.in_ok-ok_or-6.field-0; addr = c.in_ok-ok_or-7.field-0; word = c.in_ok-ok_or-8.field-0; served = None; from = None; cause = None; first = None; squashed = None }, record { unit = f1.0; arg = f2.0; local = f3.0; addr = f6.0; word = f7.0; from = tt; first = tt; squashed = tt }, rw (thirteen fs len, sym c.field.ensures ∙ f0.1, sym c.field-2.ensures ∙ f1.1, sym c.field-3.ensures ∙ f2.1, sym c.field-4.ensures ∙ f3.1, sym c.field-5.ensures ∙ f4.1, sym c.field-6.ensures ∙ f5.1, sym c.field-7.ensures ∙ f6.1, sym c.field-8.ensures ∙ f7.1) refl), λ e r h. none e.served tt (c.field-9.ensures ∙ h))

pub returns-in_err-ok_or-10 : goal.returns-in_err-ok_or-10
unfolding FirstBad columns
returns-in_err-ok_or-10 c =
    let fs = fields_of c.args.row.now in
    let len : length fs ≡ 13 = sym c.len.ensures ∙ c.if-len-ne13.false in
    let f0 = rw c.in_ok-ok_or.ensures.ok_part at c.named.ensures in
    let f1 = rw c.in_ok-ok_or-2.ensures.ok_part at c.unit_of.ensures in
    let f2 = rw c.in_ok-ok_or-3.ensures.ok_part at c.optional_number_of.ensures in
    let f3 = rw c.in_ok-ok_or-4.ensures.ok_part at c.optional_small_of.ensures in
    let f4 = rw c.in_ok-ok_or-5.ensures.ok_part at c.named_or_none.ensures in
    let f5 = rw c.in_ok-ok_or-6.ensures.ok_part at c.named-2.ensures in
    let f6 = rw c.in_ok-ok_or-7.ensures.ok_part at c.optional_address_of.ensures in
    let f7 = rw c.in_ok-ok_or-8.ensures.ok_part at c.optional_number_of-2.ensures in
    let f8 = rw c.in_ok-ok_or-9.ensures.ok_part at c.named_or_none-2.ensures in
    let none = rw c.in_err-ok_or-10.ensures.ok_part at c.optional_unit_of.ensures in
    gave_up c.from_residual-in_err-ok_or-10.result _ _ 10 _ (FirstBad fs) c.from_residual-in_err-ok_or-10.ensures.1 c.in_err-ok_or-10.ensures.value c.in_err-ok_or-10.ensures.ok_part
    (len, (record { kind = c.in_ok-ok_or.field-0; unit = c.in_ok-ok_or-2.field-0; arg = c.in_ok-ok_or-3.field-0; local = c.in_ok-ok_or-4.field-0; ask = c.in_ok-ok_or-5.field-0; reply = c.in_ok-ok_or-6.field-0; addr = c.in_ok-ok_or-7.field-0; word = c.in_ok-ok_or-8.field-0; served = c.in_ok-ok_or-9.field-0; from = None; cause = None; first = None; squashed = None }, record { unit = f1.0; arg = f2.0; local = f3.0; addr = f6.0; word = f7.0; from = tt; first = tt; squashed = tt }, rw (thirteen fs len, sym c.field.ensures ∙ f0.1, sym c.field-2.ensures ∙ f1.1, sym c.field-3.ensures ∙ f2.1, sym c.field-4.ensures ∙ f3.1, sym c.field-5.ensures ∙ f4.1, sym c.field-6.ensures ∙ f5.1, sym c.field-7.ensures ∙ f6.1, sym c.field-8.ensures ∙ f7.1, sym c.field-9.ensures ∙ f8.1) refl), λ e r h. none e.from r.from (c.field-10.ensures ∙ h))

pub returns-in_err-ok_or-11 : goal.returns-in_err-ok_or-11
unfolding FirstBad columns
returns-in_err-ok_or-11 c =
    let fs = fields_of c.args.row.now in
    let len : length fs ≡ 13 = sym c.len.ensures ∙ c.if-len-ne13.false in
    let f0 = rw c.in_ok-ok_or.ensures.ok_part at c.named.ensures in
    let f1 = rw c.in_ok-ok_or-2.ensures.ok_part at c.unit_of.ensures in
    let f2 = rw c.in_ok-ok_or-3.ensures.ok_part at c.optional_number_of.ensures in
    let f3 = rw c.in_ok-ok_or-4.ensures.ok_part at c.optional_small_of.ensures in
    let f4 = rw c.in_ok-ok_or-5.ensures.ok_part at c.named_or_none.ensures in
    let f5 = rw c.in_ok-ok_or-6.ensures.ok_part at c.named-2.ensures in
    let f6 = rw c.in_ok-ok_or-7.ensures.ok_part at c.optional_address_of.ensures in
    let f7 = rw c.in_ok-ok_or-8.ensures.ok_part at c.optional_number_of-2.ensures in
    let f8 = rw c.in_ok-ok_or-9.ensures.ok_part at c.named_or_none-2.ensures in
    let f9 = rw c.in_ok-ok_or-10.ensures.ok_part at c.optional_unit_of.ensures in
    let none = rw c.in_err-ok_or-11.ensures.ok_part at c.named_or_none-3.ensures in
    gave_up c.from_residual-in_err-ok_or-11.result _ _ 11 _ (FirstBad fs) c.from_residual-in_err-ok_or-11.ensures.1 c.in_err-ok_or-11.ensures.value c.in_err-ok_or-11.ensures.ok_part
    (len, (record { kind = c.in_ok-ok_or.field-0; unit = c.in_ok-ok_or-2.field-0; arg = c.in_ok-ok_or-3.field-0; local = c.in_ok-ok_or-4.field-0; ask = c.in_ok-ok_or-5.field-0; reply = c.in_ok-ok_or-6.field-0; addr = c.in_ok-ok_or-7.field-0; word = c.in_ok-ok_or-8.field-0; served = c.in_ok-ok_or-9.field-0; from = c.in_ok-ok_or-10.field-0; cause = None; first = None; squashed = None }, record { unit = f1.0; arg = f2.0; local = f3.0; addr = f6.0; word = f7.0; from = f9.0; first = tt; squashed = tt }, rw (thirteen fs len, sym c.field.ensures ∙ f0.1, sym c.field-2.ensures ∙ f1.1, sym c.field-3.ensures ∙ f2.1, sym c.field-4.ensures ∙ f3.1, sym c.field-5.ensures ∙ f4.1, sym c.field-6.ensures ∙ f5.1, sym c.field-7.ensures ∙ f6.1, sym c.field-8.ensures ∙ f7.1, sym c.field-9.ensures ∙ f8.1, sym c.field-10.ensures ∙ f9.1) refl), λ e r h. none e.cause tt (c.field-11.ensures ∙ h))

pub returns-in_err-ok_or-12 : goal.returns-in_err-ok_or-12
unfolding FirstBad columns
returns-in_err-ok_or-12 c =
    let fs = fields_of c.args.row.now in
    let len : length fs ≡ 13 = sym c.len.ensures ∙ c.if-len-ne13.false in
    let f0 = rw c.in_ok-ok_or.ensures.ok_part at c.named.ensures in
    let f1 = rw c.in_ok-ok_or-2.ensures.ok_part at c.unit_of.ensures in
    let f2 = rw c.in_ok-ok_or-3.ensures.ok_part at c.optional_number_of.ensures in
    let f3 = rw c.in_ok-ok_or-4.ensures.ok_part at c.optional_small_of.ensures in
    let f4 = rw c.in_ok-ok_or-5.ensures.ok_part at c.named_or_none.ensures in
    let f5 = rw c.in_ok-ok_or-6.ensures.ok_part at c.named-2.ensures in
    let f6 = rw c.in_ok-ok_or-7.ensures.ok_part at c.optional_address_of.ensures in
    let f7 = rw c.in_ok-ok_or-8.ensures.ok_part at c.optional_number_of-2.ensures in
    let f8 = rw c.in_ok-ok_or-9.ensures.ok_part at c.named_or_none-2.ensures in
    let f9 = rw c.in_ok-ok_or-10.ensures.ok_part at c.optional_unit_of.ensures in
    let f10 = rw c.in_ok-ok_or-11.ensures.ok_part at c.named_or_none-3.ensures in
    let none = rw c.in_err-ok_or-12.ensures.ok_part at c.optional_number_of-3.ensures in
    gave_up c.from_residual-in_err-ok_or-12.result _ _ 12 _ (FirstBad fs) c.from_residual-in_err-ok_or-12.ensures.1 c.in_err-ok_or-12.ensures.value c.in_err-ok_or-12.ensures.ok_part
    (len, (record { kind = c.in_ok-ok_or.field-0; unit = c.in_ok-ok_or-2.field-0; arg = c.in_ok-ok_or-3.field-0; local = c.in_ok-ok_or-4.field-0; ask = c.in_ok-ok_or-5.field-0; reply = c.in_ok-ok_or-6.field-0; addr = c.in_ok-ok_or-7.field-0; word = c.in_ok-ok_or-8.field-0; served = c.in_ok-ok_or-9.field-0; from = c.in_ok-ok_or-10.field-0; cause = c.in_ok-ok_or-11.field-0; first = None; squashed = None }, record { unit = f1.0; arg = f2.0; local = f3.0; addr = f6.0; word = f7.0; from = f9.0; first = tt; squashed = tt }, rw (thirteen fs len, sym c.field.ensures ∙ f0.1, sym c.field-2.ensures ∙ f1.1, sym c.field-3.ensures ∙ f2.1, sym c.field-4.ensures ∙ f3.1, sym c.field-5.ensures ∙ f4.1, sym c.field-6.ensures ∙ f5.1, sym c.field-7.ensures ∙ f6.1, sym c.field-8.ensures ∙ f7.1, sym c.field-9.ensures ∙ f8.1, sym c.field-10.ensures ∙ f9.1, sym c.field-11.ensures ∙ f10.1) refl), λ e r h. none e.first r.first (c.field-12.ensures ∙ h))

pub returns-in_err-ok_or-13 : goal.returns-in_err-ok_or-13
unfolding FirstBad columns
returns-in_err-ok_or-13 c =
    let fs = fields_of c.args.row.now in
    let len : length fs ≡ 13 = sym c.len.ensures ∙ c.if-len-ne13.false in
    let f0 = rw c.in_ok-ok_or.ensures.ok_part at c.named.ensures in
    let f1 = rw c.in_ok-ok_or-2.ensures.ok_part at c.unit_of.ensures in
    let f2 = rw c.in_ok-ok_or-3.ensures.ok_part at c.optional_number_of.ensures in
    let f3 = rw c.in_ok-ok_or-4.ensures.ok_part at c.optional_small_of.ensures in
    let f4 = rw c.in_ok-ok_or-5.ensures.ok_part at c.named_or_none.ensures in
    let f5 = rw c.in_ok-ok_or-6.ensures.ok_part at c.named-2.ensures in
    let f6 = rw c.in_ok-ok_or-7.ensures.ok_part at c.optional_address_of.ensures in
    let f7 = rw c.in_ok-ok_or-8.ensures.ok_part at c.optional_number_of-2.ensures in
    let f8 = rw c.in_ok-ok_or-9.ensures.ok_part at c.named_or_none-2.ensures in
    let f9 = rw c.in_ok-ok_or-10.ensures.ok_part at c.optional_unit_of.ensures in
    let f10 = rw c.in_ok-ok_or-11.ensures.ok_part at c.named_or_none-3.ensures in
    let f11 = rw c.in_ok-ok_or-12.ensures.ok_part at c.optional_number_of-3.ensures in
    let none = rw c.in_err-ok_or-13.ensures.ok_part at c.optional_number_of-4.ensures in
    gave_up c.from_residual-in_err-ok_or-13.result _ _ 13 _ (FirstBad fs) c.from_residual-in_err-ok_or-13.ensures.1 c.in_err-ok_or-13.ensures.value c.in_err-ok_or-13.ensures.ok_part
    (len, (record { kind = c.in_ok-ok_or.field-0; unit = c.in_ok-ok_or-2.field-0; arg = c.in_ok-ok_or-3.field-0; local = c.in_ok-ok_or-4.field-0; ask = c.in_ok-ok_or-5.field-0; reply = c.in_ok-ok_or-6.field-0; addr = c.in_ok-ok_or-7.field-0; word = c.in_ok-ok_or-8.field-0; served = c.in_ok-ok_or-9.field-0; from = c.in_ok-ok_or-10.field-0; cause = c.in_ok-ok_or-11.field-0; first = c.in_ok-ok_or-12.field-0; squashed = None }, record { unit = f1.0; arg = f2.0; local = f3.0; addr = f6.0; word = f7.0; from = f9.0; first = f11.0; squashed = tt }, rw (thirteen fs len, sym c.field.ensures ∙ f0.1, sym c.field-2.ensures ∙ f1.1, sym c.field-3.ensures ∙ f2.1, sym c.field-4.ensures ∙ f3.1, sym c.field-5.ensures ∙ f4.1, sym c.field-6.ensures ∙ f5.1, sym c.field-7.ensures ∙ f6.1, sym c.field-8.ensures ∙ f7.1, sym c.field-9.ensures ∙ f8.1, sym c.field-10.ensures ∙ f9.1, sym c.field-11.ensures ∙ f10.1, sym c.field-12.ensures ∙ f11.1) refl), λ e r h. none e.squashed r.squashed (c.field-13.ensures ∙ h))

pub returns : goal.returns
unfolding columns
returns c =
    let fs = fields_of c.args.row.now in
    let len : length fs ≡ 13 = sym c.len.ensures ∙ c.if-len-ne13.false in
    let f0 = rw c.in_ok-ok_or.ensures.ok_part at c.named.ensures in
    let f1 = rw c.in_ok-ok_or-2.ensures.ok_part at c.unit_of.ensures in
    let f2 = rw c.in_ok-ok_or-3.ensures.ok_part at c.optional_number_of.ensures in
    let f3 = rw c.in_ok-ok_or-4.ensures.ok_part at c.optional_small_of.ensures in
    let f4 = rw c.in_ok-ok_or-5.ensures.ok_part at c.named_or_none.ensures in
    let f5 = rw c.in_ok-ok_or-6.ensures.ok_part at c.named-2.ensures in
    let f6 = rw c.in_ok-ok_or-7.ensures.ok_part at c.optional_address_of.ensures in
    let f7 = rw c.in_ok-ok_or-8.ensures.ok_part at c.optional_number_of-2.ensures in
    let f8 = rw c.in_ok-ok_or-9.ensures.ok_part at c.named_or_none-2.ensures in
    let f9 = rw c.in_ok-ok_or-10.ensures.ok_part at c.optional_unit_of.ensures in
    let f10 = rw c.in_ok-ok_or-11.ensures.ok_part at c.named_or_none-3.ensures in
    let f11 = rw c.in_ok-ok_or-12.ensures.ok_part at c.optional_number_of-3.ensures in
    let f12 = rw c.in_ok-ok_or-13.ensures.ok_part at c.optional_number_of-4.ensures in
    (record { unit = f1.0; arg = f2.0; local = f3.0; addr = f6.0; word = f7.0; from = f9.0; first = f11.0; squashed = f12.0 }, rw (thirteen fs len, sym c.field.ensures ∙ f0.1, sym c.field-2.ensures ∙ f1.1, sym c.field-3.ensures ∙ f2.1, sym c.field-4.ensures ∙ f3.1, sym c.field-5.ensures ∙ f4.1, sym c.field-6.ensures ∙ f5.1, sym c.field-7.ensures ∙ f6.1, sym c.field-8.ensures ∙ f7.1, sym c.field-9.ensures ∙ f8.1, sym c.field-10.ensures ∙ f9.1, sym c.field-11.ensures ∙ f10.1, sym c.field-12.ensures ∙ f11.1, sym c.field-13.ensures ∙ f12.1) refl)
