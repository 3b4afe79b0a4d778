use Rattle.std.proofs.Common.{Some, ◌++◌}
use Rattle.svc_core_laws.specs.Turns.{data_words}
use Rattle.svc_bus.specs.State.{bus_state}
use Rattle.svc_report.proofs.PlainLines.{on_ok, then_appends}
use Rattle.svc_show.specs.Show.{all_task_rows, asked_order, line_rows, memory_rows, progress_rows, spill_rows}
use Rattle.svc_show.proofs.show.write_machine.Goals as goal

pub returns : goal.returns
returns c =
    let m = c.args.machine.now in
    let bus = bus_state m.bus in
    let units = m.config.units in
    let words = data_words m.image in
    let a = Some c.args.rows.now.items in
    let b = Some c.write_progress.new.rows.items in
    let d = Some c.write_tasks.new.rows.items in
    let e = Some c.write_all_lines.new.rows.items in
    let f = Some c.write_all_spills.new.rows.items in
    let g = Some c.write_order.new.rows.items in
    let h = Some c.write_all_words.new.rows.items in
    let progress = progress_rows m.image m.config m.plain in
    let tasks = all_task_rows c.args.extras.detail m.image m.plain in
    let lines = line_rows units words bus in
    let spills = spill_rows words bus in
    let order = asked_order c.args.extras.detail m.image m.config m.plain bus in
    let memory = memory_rows m.image m.config m.plain bus c.args.extras.memory words in
    on_ok c.write_all_words.result (λ k.
    then_appends a b h progress (tasks ++ (lines ++ (spills ++ (order ++ memory)))) c.in_ok-write_progress.ensures (
    then_appends b d h tasks (lines ++ (spills ++ (order ++ memory))) c.in_ok-write_tasks.ensures (
    then_appends d e h lines (spills ++ (order ++ memory)) c.in_ok-write_all_lines.ensures (
    then_appends e f h spills (order ++ memory) c.in_ok-write_all_spills.ensures (
    then_appends f g h order memory c.in_ok-write_order.ensures k))))) c.write_all_words.ensures
