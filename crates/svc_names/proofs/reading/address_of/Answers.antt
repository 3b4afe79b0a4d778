use Rattle.std.proofs.Common.{◌≡◌, ◌∙◌, [], ℕ, List, ap, false, get_or, sym, true}
use Rattle.csv.specs.Records.{fields_of}
use Rattle.svc_names.specs.Table.{FirstBad, comes_next, is_name_text}
use Rattle.svc_names.proofs.Read.{its_address}
use Rattle.svc_names.proofs.reading.address_of.Goals as goal

pub returns-then-len-ne2 : goal.returns-then-len-ne2
unfolding FirstBad
returns-then-len-ne2 c h = c.if-len-ne2.true (c.len.ensures ∙ h)

pub returns-then-not-is_name_text : goal.returns-then-not-is_name_text
unfolding FirstBad
returns-then-not-is_name_text c =
    let len = sym c.len.ensures ∙ c.if-len-ne2.false in
    (len, sym (ap is_name_text c.field.ensures) ∙ sym c.is_name_text.ensures ∙ c.if-not-is_name_text.true)

pub returns-in_default : goal.returns-in_default
unfolding FirstBad
returns-in_default c =
    let len = sym c.len.ensures ∙ c.if-len-ne2.false in
    let name = sym (ap is_name_text c.field.ensures) ∙ sym c.is_name_text.ensures ∙ c.if-not-is_name_text.false in
    (len, name, λ address next. c.in_default.ensures address next.small (c.field-2.ensures ∙ ap (λ (f : List (List ℕ)). get_or f 1 []) next.text_is))

pub returns-else-comes_next : goal.returns-else-comes_next
unfolding FirstBad
returns-else-comes_next c =
    let fs = fields_of c.args.row.now in
    let len = sym c.len.ensures ∙ c.if-len-ne2.false in
    let name = sym (ap is_name_text c.field.ensures) ∙ sym c.is_name_text.ensures ∙ c.if-not-is_name_text.false in (
      len,
      name,
      λ address next.
          let same : address ≡ c.in-Some.address = its_address c.args.names.now fs address c.in-Some.address next c.in-Some.ensures.0 (sym c.field-2.ensures ∙ c.in-Some.ensures.1) in
          let never : true ≡ false =
          sym next.next ∙ ap (comes_next c.args.names.now (get_or fs 0 [])) same ∙ sym (ap (λ (t : List ℕ). comes_next c.args.names.now t c.in-Some.address) c.field-3.ensures)
          ∙ sym c.comes_next.ensures ∙ c.if-comes_next.false in
          cc never,
    )
