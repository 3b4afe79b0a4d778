use Rattle.std.proofs.Common.{◌≡◌, ◌∙◌, ◌++◌, ℕ, List, ap, subst}
use Rattle.std.specs.Io.KnownBytes.{Appends, append_known}
use Rattle.svc_text.proofs.Gathered.{all_written}
use Rattle.svc_plain.specs.Tasks.{tasks_run}
use Rattle.svc_depend.specs.Pairs.{pairs_begin, pairs_end, pairs_of}
use Rattle.svc_depend.specs.Tables.{text_over}
use Rattle.svc_depend.proofs.PairsTold.{gathered_more}
use Rattle.svc_depend.proofs.pairs.write_pairs.Goals as goal

pub returns-clause-ok : goal.returns-clause-ok
returns-clause-ok g c =
    let now = g.W.Write.contents in
    let form = c.args.form in
    let rows : List ℕ = text_over (pairs_of form c.args.image.now) (tasks_run c.args.image.now c.args.k) in
    let old : List ℕ = c.write_rows.new.text.items in
    let new : List ℕ = c.extend_from_slice.new.self.items in
    let grown : new ≡ old ++ pairs_end form = c.in_ok-extend_from_slice.ensures.items ∙ ap (λ (x : List ℕ). old ++ x) c.pairs_end.ensures in
    let told : Appends (append_known (now c.args.w.now) (pairs_begin form)) (append_known (now c.write_rows.new.w) old) rows =
    subst (λ (t : List ℕ). Appends (append_known (now c.args.w.now) t) (append_known (now c.write_rows.new.w) old) rows) (c.in_ok-text.ensures.items ∙ c.pairs_begin.ensures) c.in_ok-ending.ensures.rows in
    all_written (now c.args.w.now) (now c.write_rows.new.w) (now c.write_text.new.w) (pairs_begin form) new (rows ++ pairs_end form)
    (gathered_more (append_known (now c.args.w.now) (pairs_begin form)) (now c.write_rows.new.w) rows old new (pairs_end form) told grown)
    (subst (Appends (now c.write_rows.new.w) (now c.write_text.new.w)) c.deref.ensures.value c.in_ok-write_text.ensures)
