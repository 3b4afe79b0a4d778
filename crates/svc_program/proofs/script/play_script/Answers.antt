use Rattle.svc_answer.specs.Requests.{SavesAnyTrace}
use Rattle.svc_program.proofs.WholeScript.{always, scripted}
use Rattle.svc_program.proofs.script.play_script.Goals as goal

pub returns-in-None-clause-script : goal.returns-in-None-clause-script
returns-in-None-clause-script g c =
    let start = c.in_ok-recorder.recorder in
    let opened = c.in_ok-recorder.ensures {u = tt} in
    let kept = c.in_ok-kept.ensures {u = tt} in
    let last = c.play_all.new.recorder in
    let Holds = SavesAnyTrace (g.F.Files.held c.args.files.now) c.args.scripted.trace in
    scripted c.play_all.result c.args.image c.args.scripted.config c.args.steps.now Holds start last c.in_ok-kept.kept.items c.play_all.new.kept.items
    (g.O.Write.contents c.args.out.now) (g.O.Write.contents c.play_all.new.out)
    opened.image opened.config opened.entries c.play_all.ensures.start kept c.play_all.ensures.last c.play_all.ensures.played
    (always c.play_all.result (Holds last.entries) (rw (c.in-None.is) tt))

pub returns-clause-script : goal.returns-clause-script
returns-clause-script g c =
    let start = c.in_ok-recorder.recorder in
    let opened = c.in_ok-recorder.ensures {u = tt} in
    let kept = c.in_ok-kept.ensures {u = tt} in
    let last = c.play_saved.new.recorder in
    let Holds = SavesAnyTrace (g.F.Files.held c.play_saved.new.files) c.args.scripted.trace in
    scripted c.play_saved.result c.args.image c.args.scripted.config c.args.steps.now Holds start last c.in_ok-kept.kept.items c.play_saved.new.kept.items
    (g.O.Write.contents c.args.out.now) (g.O.Write.contents c.play_saved.new.out)
    opened.image opened.config opened.entries c.play_saved.ensures.start kept c.play_saved.ensures.last c.play_saved.ensures.played
    (rw (c.in-Some.is) c.play_saved.ensures.saved)
