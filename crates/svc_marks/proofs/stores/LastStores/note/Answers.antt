use Rattle.std.proofs.Common.{◌∙◌, sym}
use Rattle.svc_marks.proofs.Searching.{put_down}
use Rattle.svc_marks.proofs.stores.LastStores.note.Goals as goal

pub returns-in_ok-insert : goal.returns-in_ok-insert
returns-in_ok-insert c =
    put_down c.args.entry.now c.in-Some.word c.args.at c.args.self.now (record { places = c.insert.new.self }) c.in-Some.is (sym c.stores_in.ensures ∙ c.if-stores_in.true)
    (c.in_ok-insert.ensures {u = tt}).updates.0
