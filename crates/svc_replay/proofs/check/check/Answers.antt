use Rattle.std.specs.Prelude.{IfOk}
use Rattle.std.proofs.Common.{List, length, subst, sym}
use Rattle.std.specs.List.{AllByRecursion}
use Rattle.svc_history_laws.specs.declared.entry.Entry.{Entry}
use Rattle.svc_report.specs.Trace.{HasRow}
use Rattle.svc_answer.specs.Requests.{SavesAnyScript, Shows}
use Rattle.svc_answer.specs.Runs.{AreSameIn, sound_row}
use Rattle.svc_answer.proofs.Answering.{check_answered}
use Rattle.svc_replay.proofs.check.check.Goals as goal

pub returns : goal.returns
returns g c =
    let saved = g.F.Files.held c.tell_sound.new.files in
    let old = g.O.Write.contents c.args.out.now in
    let new = g.O.Write.contents c.tell_sound.new.out in
    let r = c.tell_sound.result in
    let told = c.tell_sound.ensures in
    let given = c.in_ok-image.ensures in
    let found = c.in_ok-recorder.recorder.entries in
    let replayed = c.in_ok-recorder.ensures in
    let same = c.entries.ensures.entries in
    check_answered g.O.Write.contents c.args.traced c.args.compared c.args.script (g.F.Files.held c.args.files.now) saved c.args.out.now c.tell_sound.new.out r
    c.in_ok-image.image c.in_ok-image.entries.items found given.image given.trace
    (subst (AreSameIn c.args.compared found) c.deref.ensures.value replayed.alike)
    (replayed.rows (subst (λ (xs : List Entry). AllByRecursion HasRow xs) (sym c.deref.ensures.value) given.trace.rows))
    replayed.legal
    (subst (λ (xs : List Entry). IfOk r (Shows (sound_row (length xs)) old new)) same told.shown)
    (subst (λ (xs : List Entry). IfOk r (λ _. SavesAnyScript saved c.args.script xs)) same told.saved)
    told.silent told.alone
