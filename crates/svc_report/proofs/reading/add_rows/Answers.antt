use Rattle.std.proofs.Common.{◌≡◌, [], refl, true, rules, arith, Bor, List, ℕ, map}
use Rattle.std.specs.Result.{is_ok}
use Rattle.std.proofs.lemmas.List.{length-append}
use Rattle.svc_record_limit.specs.Places.{known_through}
use Rattle.svc_report.proofs.Tracks.{all_more, bad_row, begun, ended, no_header, other_header, rows_more, went_on}
use Rattle.svc_report.proofs.reading.add_rows.Goals as goal

abbrev texts : List (Bor (List ℕ)) → List (List ℕ)
texts ns = map (λ n. n.now) ns

pub returns-then-not-branch-clause-err : goal.returns-then-not-branch-clause-err
returns-then-not-branch-clause-err g c known source =
    let rem = known_through g.R.Read.remaining in
    let t = g.T.Row in
    let start = begun rem known c.args.reader.now c.requires.state source in
    let read = rw c.if-not-branch.true at c.in_ok-next_row.ensures.reads in
    no_header (texts c.args.names.now) t.columns t.has_row t.first_bad known (ended rem known c.args.reader.now c.next_row.new.reader [] _ c.requires.open.2 start read.1)

pub returns-in-Err-clause-err : goal.returns-in-Err-clause-err
returns-in-Err-clause-err g c known source =
    let rem = known_through g.R.Read.remaining in
    let t = g.T.Row in
    let start = begun rem known c.args.reader.now c.requires.state source in
    let read = rw c.if-not-branch.false at c.in_ok-next_row.ensures.reads in
    other_header (texts c.args.names.now) t.columns t.has_row t.first_bad rem known c.next_row.new.reader _ _
    (went_on rem known c.args.reader.now c.next_row.new.reader [] _ c.requires.open.2 start read.1) c.in-Err.ensures

pub loop-number-init : goal.loop-number-init
loop-number-init g c =
    let rem = known_through g.R.Read.remaining in
    let read = rw c.if-not-branch.false at c.in_ok-next_row.ensures.reads in
    rw (c.requires.empty) (record {
      is_open = read.0;
      in_range = tt;
      count = refl;
      tracks = λ known source. rw c.in_default.ensures at (went_on rem known c.args.reader.now c.next_row.new.reader [] _ c.requires.open.2 (begun rem known c.args.reader.now c.requires.state source) read.1);
    })

pub returns-then-not-branch-2-clause-ok : goal.returns-then-not-branch-2-clause-ok
returns-then-not-branch-2-clause-ok g c known source =
    let rem = known_through g.R.Read.remaining in
    let inv = c.loop-number.invariant in
    let read = rw c.if-not-branch-2.true at c.in_ok-next_row-2.ensures.reads in
    (inv.in_range, ended rem known c.loop-number.reader c.next_row-in-loop-number.new.reader _ _ inv.is_open.2 (inv.tracks known source) read.1)

pub returns-in-Err-of-clause-err : goal.returns-in-Err-of-clause-err
returns-in-Err-of-clause-err g c known source =
    let rem = known_through g.R.Read.remaining in
    let t = g.T.Row in
    let inv = c.loop-number.invariant in
    let read = rw c.if-not-branch-2.false at c.in_ok-next_row-2.ensures.reads in
    bad_row (texts c.args.names.now) t.columns t.has_row t.first_bad rem known c.next_row-in-loop-number.new.reader c.loop-number.items.items _ _ _
    (went_on rem known c.loop-number.reader c.next_row-in-loop-number.new.reader _ _ inv.is_open.2 (inv.tracks known source) read.1) inv.in_range inv.count c.in-Err-of.ensures

pub loop-number-preserved : goal.loop-number-preserved
loop-number-preserved g c =
    let rem = known_through g.R.Read.remaining in
    let t = g.T.Row in
    let inv = c.loop-number.invariant in
    let read = rw c.if-not-branch-2.false at c.in_ok-next_row-2.ensures.reads in
    let good : is_ok c.push.result ≡ true = search rules in
    let items = rw good at c.push.ensures.items in
    rw items (record {
      is_open = read.0;
      in_range = all_more t.has_row c.loop-number.items.items c.in-Ok.item inv.in_range c.in-Ok.ensures.0;
      count = simp (length-append) (omega (arith, inv.count));
      tracks = λ known source. rw (c.in-Ok.ensures.1, rows_more (texts c.args.names.now) t.columns c.loop-number.items.items c.in-Ok.item)
          at (went_on rem known c.loop-number.reader c.next_row-in-loop-number.new.reader _ _ inv.is_open.2 (inv.tracks known source) read.1);
    })
