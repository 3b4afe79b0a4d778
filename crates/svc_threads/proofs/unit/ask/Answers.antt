use Rattle.svc_threads.proofs.Owning.{owns_more}
use Rattle.svc_threads.proofs.unit.ask.Goals as goal

pub returns-in-Ok-push : goal.returns-in-Ok-push
returns-in-Ok-push g c = record {
  own = owns_more c.args.event c.args.unit c.in-Ok.slip c.args.slips.now.items c.push.new.self.items (c.in-Ok-push.ensures {u = tt}).items c.requires.unit (c.in-Ok.ensures {u = tt});
}
