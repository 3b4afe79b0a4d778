-- The counts of a beginning of a history, and of the one that is an entry longer.
use Rattle.std.proofs.Common.{◌≡◌, ℕ, ◌+◌, ◌<◌, Bool, true, false, List, length, take, get_or, refl, ◌∙◌, arith}
use Rattle.std.specs.Prelude.{count_by}
use Rattle.std.proofs.lemmas.List.Sums.{count_by_more_no, count_by_more_yes}
use Rattle.svc_history_laws.specs.declared.entry.Kind.{Kind}
use Rattle.svc_history_laws.specs.declared.entry.Kind.TheVariants as kind
use Rattle.svc_history_laws.specs.declared.entry.ServedKind.{ServedKind}
use Rattle.svc_history_laws.specs.declared.entry.ServedKind.TheVariants as served
use Rattle.svc_history_laws.specs.declared.entry.CutKind.{CutKind}
use Rattle.svc_history_laws.specs.declared.entry.CutKind.TheVariants as cause
use Rattle.svc_history_laws.specs.declared.entry.Entry.{Entry}
use Rattle.svc_report.specs.Counting.{one_where, with_entry}
use Rattle.svc_report.specs.Summary.{is_kind, is_supplier, is_cause, counts_of}

counted_as : (p : Entry → Bool) (es : List Entry) (i : ℕ) (d : Entry) (b : Bool) → i < length es → p (get_or es i d) ≡ b
    → count_by p (take (i + 1) es) ≡ count_by p (take i es) + one_where b
counted_as p es i d true inside h = count_by_more_yes p es i d inside h
counted_as p es i d false inside h = count_by_more_no p es i d inside h ∙ omega arith

counted : (p : Entry → Bool) (es : List Entry) (i : ℕ) (d : Entry) → i < length es → count_by p (take (i + 1) es) ≡ count_by p (take i es) + one_where (p (get_or es i d))
counted p es i d inside = counted_as p es i d (p (get_or es i d)) inside refl

abbrev of_kind : Kind → Entry → Bool
of_kind k e = is_kind k e.kind

abbrev of_supplier : ServedKind → Entry → Bool
of_supplier k e = is_supplier k e.served

abbrev of_cause : CutKind → Entry → Bool
of_cause k e = is_cause k e.cause

pub next_counts : (es : List Entry) (i : ℕ) (d : Entry) → i < length es → with_entry (counts_of (take i es)) (get_or es i d) ≡ counts_of (take (i + 1) es)
next_counts es i d inside = rw (
  counted (of_kind kind.Assign) es i d inside,
  counted (of_kind kind.Submit) es i d inside,
  counted (of_kind kind.Replace) es i d inside,
  counted (of_kind kind.Cancel) es i d inside,
  counted (of_kind kind.Commit) es i d inside,
  counted (of_supplier served.Hit) es i d inside,
  counted (of_supplier served.Reuse) es i d inside,
  counted (of_supplier served.Version) es i d inside,
  counted (of_supplier served.Spill) es i d inside,
  counted (of_supplier served.Committed) es i d inside,
  counted (of_supplier served.Memory) es i d inside,
  counted (of_cause cause.Violation) es i d inside,
  counted (of_cause cause.Guess) es i d inside,
  counted (of_cause cause.Cancel) es i d inside,
) refl
