use Rattle.std.specs.Io.KnownBytes.{Appends, append_known}
use Rattle.svc_depend_laws.specs.Over.{listed}
use Rattle.svc_depend.specs.Pairs.{pairs_of}
use Rattle.svc_depend.specs.Tables.{text_over}
use Rattle.svc_depend.specs.Told.{task_needs, totals}
use Rattle.svc_depend.specs.Walks.{IsFollowed}
use Rattle.svc_depend.proofs.pairs.write_rows.Given as goal

abbrev pub invariant-loop-task : goal.invariant-loop-task
invariant-loop-task g l = record {
  followed : IsFollowed l.image l._task l.memory.items l.due l.stopped l.tracker (listed (task_needs l.image) l._task) (totals l.image l._task);
  rows : Appends (append_known (g.W.Write.contents l.fn.w) l.fn.text.items) (append_known (g.W.Write.contents l.w) l.text.items) (text_over (pairs_of l.form l.image) l._task);
}
