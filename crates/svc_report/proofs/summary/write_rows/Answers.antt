use Rattle.std.proofs.Common.{◌++◌, codes}
use Rattle.std.specs.Io.KnownBytes.{append_known}
use Rattle.svc_report.specs.Summary.{count_names, count_numbers, ending_row, number_row, number_rows, output_rows}
use Rattle.svc_report.proofs.PlainLines.{on_ok, then_appends}
use Rattle.svc_report.proofs.summary.write_rows.Goals as goal

pub returns-in-Some-clause-ok : goal.returns-in-Some-clause-ok
returns-in-Some-clause-ok g c =
    let now = g.W.Write.contents in
    let output = output_rows c.args.output.now in
    let tasks = number_row (codes "tasks") c.args.tasks in
    let ending = ending_row c.args.ending in
    let counts = number_rows count_names (count_numbers c.in-Some.counts) in
    let a = append_known (now c.args.w.now) c.args.pending.now in
    let b = append_known (now c.write_output.new.w) c.write_output.new.pending in
    let d = append_known (now c.write_number.new.w) c.write_number.new.pending in
    let e = append_known (now c.write_ending.new.w) c.write_ending.new.pending in
    let f = append_known (now c.write_numbers.new.w) c.write_numbers.new.pending in
    rw c.in-Some.is (on_ok c.write_numbers.result (λ last.
    then_appends a b f output (tasks ++ (ending ++ counts)) c.in_ok-write_output.ensures.ok (
    then_appends b d f tasks (ending ++ counts) c.in_ok-write_number.ensures.ok (
    then_appends d e f ending counts c.in_ok-write_ending.ensures.ok last))) (rw c.numbers.ensures at c.write_numbers.ensures.ok))
