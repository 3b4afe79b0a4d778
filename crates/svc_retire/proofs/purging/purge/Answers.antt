use Rattle.std.proofs.Common.{◌∙◌, ap, subst, ℕ, List, length, get_or}
use Rattle.svc_vol.specs.declared.held_line.HeldLine.{HeldLine}
use Rattle.svc_retire.specs.Purges.{IsNewest}
use Rattle.svc_retire.proofs.Newest.{memory_after_purge}
use Rattle.svc_retire.proofs.purging.purge.Goals as goal

pub returns-clause-memory : goal.returns-clause-memory
returns-clause-memory c = λ a.
    let versions : List HeldLine = c.args.list.now.committed in
    let last : IsNewest versions (length versions) c.newest_value.result = subst (λ (vs : List HeldLine). IsNewest vs (length vs) c.newest_value.result) c.committed-committed.ensures.lines c.newest_value.ensures in
    ap (λ (memory : List ℕ). get_or memory a 0) c.store.ensures ∙ memory_after_purge c.args.caches.now c.args.backing.now c.args.word.0 versions c.newest_value.result c.requires.purge.listed c.requires.purge.ranked last c.requires.purge.in_memory a
