use Rattle.std.proofs.Common.{◌∙◌, ◌<◌, [], Bor, List, ℕ, sym, map, length}
use Rattle.csv.specs.Records.{fields_of}
use Rattle.std.proofs.lemmas.List.{length-map, get_or-map}
use Rattle.svc_report.specs.Records.{FirstOther}
use Rattle.svc_report.proofs.Rows.{agrees, differs, one_more, other_at}
use Rattle.svc_report.proofs.records.check_names.Goals as goal

abbrev texts : List (Bor (List ℕ)) → List (List ℕ)
texts ns = map (λ n. n.now) ns

pub returns-then-len-names : goal.returns-then-len-names
unfolding FirstOther
returns-then-len-names c h = c.if-len-names.true (c.len.ensures ∙ h ∙ length-map c.args.names.now (λ n. n.now))

pub returns-then-ne : goal.returns-then-ne
unfolding FirstOther
returns-then-ne c =
    let len = sym c.len.ensures ∙ c.if-len-names.false ∙ sym (length-map c.args.names.now (λ (n : Bor (List ℕ)). n.now)) in
    let low : c.loop-place.place < length c.args.names.now = c.loop-place-test.true in
    other_at (fields_of c.args.row.now) (texts c.args.names.now) c.loop-place.place len c.loop-place.invariant (λ e. differs _ _ c.if-ne.ensures (c.field.ensures ∙ e ∙ get_or-map (λ (n : Bor (List ℕ)). n.now) c.args.names.now c.loop-place.place _ [] low))

pub loop-place-preserved : goal.loop-place-preserved
loop-place-preserved c =
    let len = sym c.len.ensures ∙ c.if-len-names.false ∙ sym (length-map c.args.names.now (λ (n : Bor (List ℕ)). n.now)) in
    let low : c.loop-place.place < length c.args.names.now = c.loop-place-test.true in
    let low2 : c.loop-place.place < length (texts c.args.names.now) = rw (length-map c.args.names.now (λ (n : Bor (List ℕ)). n.now)) low in
    let same = agrees _ _ c.if-ne.ensures in
    one_more (fields_of c.args.row.now) (texts c.args.names.now) c.loop-place.place len low2 c.loop-place.invariant
    (sym c.field.ensures ∙ same ∙ sym (get_or-map (λ (n : Bor (List ℕ)). n.now) c.args.names.now c.loop-place.place _ [] low))
