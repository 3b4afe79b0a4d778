use Rattle.std.proofs.Common.{◌≡◌, ◌∷◌, [], ℕ, List, Some, subst, sym, append_assoc}
use Rattle.std.specs.Prelude.{decimal}
use Rattle.std.specs.Io.KnownBytes.{Appends}
use Rattle.svc_report.specs.Lines.{joined, line}
use Rattle.svc_report.proofs.PlainLines.{on_ok}
use Rattle.svc_show.specs.Rows.{told_row}
use Rattle.svc_show.proofs.told.write_number.Goals as goal

-- a row of a name and a text is a line of two fields
told_is_line : (name text : List ℕ) → told_row name text ≡ line (name ∷ text ∷ [])
unfolding joined
told_is_line name text = sym (append_assoc name (44 ∷ text) (10 ∷ []))

pub returns : goal.returns
returns c =
    let a = Some c.args.rows.now.items in
    let b = Some c.write_told.new.rows.items in
    on_ok c.write_told.result (λ h. subst (Appends a b) (told_is_line c.args.name.now (decimal c.args.number)) h) c.write_told.ensures
