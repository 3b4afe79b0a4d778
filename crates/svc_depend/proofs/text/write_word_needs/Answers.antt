use Rattle.std.proofs.Common.{List, ℕ, ◌∙◌, subst}
use Rattle.std.specs.Io.KnownBytes.{Appends}
use Rattle.svc_depend.proofs.Texts.{table_same}
use Rattle.svc_depend.proofs.text.write_word_needs.Goals as goal

pub returns-clause-ok : goal.returns-clause-ok
returns-clause-ok g c img tasks are =
    subst (λ (t : List ℕ). Appends (g.W.Write.contents c.args.w.now) (g.W.Write.contents c.write_text.new.w) t)
    (c.deref.ensures.value ∙ c.in_ok-text.ensures ∙ table_same img tasks c.args.words.now are)
    c.in_ok-write_text.ensures
