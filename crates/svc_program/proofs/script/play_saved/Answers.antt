use Rattle.svc_program.proofs.WholeScript.{played_through}
use Rattle.svc_program.proofs.script.play_saved.Goals as goal

pub returns-clause-played : goal.returns-clause-played
returns-clause-played g c =
    played_through c.in-Ok.status c.args.steps.now c.args.recorder.now c.play_all.new.recorder c.args.kept.now.items c.play_all.new.kept.items
    c.play_all.new.out.items (g.O.Write.contents c.args.out.now) (g.O.Write.contents c.print_text.new.out)
    (rw c.new-text.ensures.items at c.in-Ok.ensures.played) (rw c.deref.ensures.value at c.in_ok-print_text.ensures.ok)
