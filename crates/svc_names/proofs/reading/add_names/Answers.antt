use Rattle.std.proofs.Common.{◌≡◌, ◌∙◌, ◌∷◌, ◌++◌, [], refl, true, ap, subst, arith, ℕ, List, get_or}
use Rattle.csv.specs.Records.{fields_of}
use Rattle.std.proofs.lemmas.List.{length-append}
use Rattle.svc_record_limit.specs.Places.{known_through}
use Rattle.svc_report.proofs.Tracks.{Tracks, begun, ended, rows_more, went_on}
use Rattle.svc_names.specs.Table.{IsNext, columns, comes_next, header, is_name_text, table_records}
use Rattle.svc_names.proofs.Order.{table_more}
use Rattle.svc_names.proofs.Read.{bad_name, no_header, other_header, row_of_next}
use Rattle.svc_names.proofs.reading.add_names.Goals as goal

pub returns-then-not-branch-clause-err : goal.returns-then-not-branch-clause-err
returns-then-not-branch-clause-err g c known source =
    let rem = known_through g.R.Read.remaining in
    let start = begun rem known c.args.reader.now c.requires.state source in
    let read = rw c.if-not-branch.true at c.in_ok-next_row.ensures.reads in
    no_header known (ended rem known c.args.reader.now c.next_row.new.reader [] _ c.requires.open.2 start read.1)

pub returns-in-Err-clause-err : goal.returns-in-Err-clause-err
returns-in-Err-clause-err g c known source =
    let rem = known_through g.R.Read.remaining in
    let start = begun rem known c.args.reader.now c.requires.state source in
    let read = rw c.if-not-branch.false at c.in_ok-next_row.ensures.reads in
    other_header rem known c.next_row.new.reader _ _ (went_on rem known c.args.reader.now c.next_row.new.reader [] _ c.requires.open.2 start read.1) c.in-Err.ensures

pub loop-number-init : goal.loop-number-init
loop-number-init g c =
    let rem = known_through g.R.Read.remaining in
    let read = rw c.if-not-branch.false at c.in_ok-next_row.ensures.reads in
    rw (c.requires.empty) (record {
      is_open = read.0;
      table = record { rows = tt; order = refl };
      count = refl;
      tracks = λ known source. rw c.in_default.ensures at (went_on rem known c.args.reader.now c.next_row.new.reader [] _ c.requires.open.2 (begun rem known c.args.reader.now c.requires.state source) read.1);
    })

pub returns-then-not-branch-2-clause-ok : goal.returns-then-not-branch-2-clause-ok
returns-then-not-branch-2-clause-ok g c known source =
    let rem = known_through g.R.Read.remaining in
    let inv = c.loop-number.invariant in
    let read = rw c.if-not-branch-2.true at c.in_ok-next_row-2.ensures.reads in
    (inv.table, ended rem known c.loop-number.reader c.next_row-in-loop-number.new.reader _ _ inv.is_open.2 (inv.tracks known source) read.1)

pub returns-in-Err-address_of-clause-err : goal.returns-in-Err-address_of-clause-err
returns-in-Err-address_of-clause-err g c known source =
    let rem = known_through g.R.Read.remaining in
    let inv = c.loop-number.invariant in
    let read = rw c.if-not-branch-2.false at c.in_ok-next_row-2.ensures.reads in
    let bad = rw c.deref.ensures.value at c.in-Err-address_of.ensures in
    bad_name rem known c.next_row-in-loop-number.new.reader c.loop-number.names.items _ _ _
    (went_on rem known c.loop-number.reader c.next_row-in-loop-number.new.reader _ _ inv.is_open.2 (inv.tracks known source) read.1) inv.table inv.count bad

pub loop-number-preserved : goal.loop-number-preserved
loop-number-preserved g c =
    let rem = known_through g.R.Read.remaining in
    let inv = c.loop-number.invariant in
    let names = c.loop-number.names.items in
    let fields = fields_of c.next_row-in-loop-number.new.row in
    let read = rw c.if-not-branch-2.false at c.in_ok-next_row-2.ensures.reads in
    let next : IsNext names fields c.in-Ok.address = rw c.deref.ensures.value at c.in-Ok.ensures in
    let pushed = c.in_ok-push_name-in-Ok.ensures in
    let n = pushed.0 in
    let text : n.text.items ≡ get_or fields 0 [] = pushed.1 ∙ c.field.ensures in
    let small = next.small in
    let at : n.address ≡ c.in-Ok.address = pushed.2 in
    let comes : comes_next names n.text.items n.address ≡ true =
    ap (λ (t : List ℕ). comes_next names t n.address) text ∙ ap (comes_next names (get_or fields 0 [])) at ∙ next.next in
    let table = table_more names n inv.table (record { name = ap is_name_text text ∙ next.name; small = omega (arith, small, at) }) comes in
    let records : table_records names ++ (fields ∷ []) ≡ table_records (names ++ (n ∷ [])) =
    ap (λ (f : List (List ℕ)). table_records names ++ (f ∷ [])) (row_of_next names fields c.in-Ok.address n next text at) ∙ rows_more header columns names n in
    rw pushed.3 (record {
      is_open = read.0;
      table = table;
      count = simp (length-append) (omega (arith, inv.count));
      tracks = λ known source. subst (Tracks rem known c.next_row-in-loop-number.new.reader) records
          (went_on rem known c.loop-number.reader c.next_row-in-loop-number.new.reader _ _ inv.is_open.2 (inv.tracks known source) read.1);
    })
