-- A legal entry names at most 63 local turns, and a legal history has rows where each of its entries has one.
use Rattle.std.proofs.Common.{◌≤◌, ◌≡◌, ℕ, List, [], ◌∷◌, Option, None, sym, ap, subst, arith}
use Rattle.std.specs.Prelude.{IfSome}
use Rattle.std.specs.List.{AllByRecursion}
use Rattle.svc_base.specs.declared.config.Config.{Config}
use Rattle.svc_image.specs.Image.{Image}
use Rattle.svc_machine_laws.specs.Standing.{Standing}
use Rattle.svc_history_laws.specs.declared.entry.Kind.{Kind}
use Rattle.svc_history_laws.specs.declared.entry.Kind.TheVariants as kind
use Rattle.svc_history_laws.specs.declared.entry.Entry.{Entry}
use Rattle.svc_history_laws.specs.Entries.{entry_of}
use Rattle.svc_history_laws.specs.Legal.{Legal, LegalEntry, LegalKind, after_entry}
use Rattle.svc_report.specs.Trace.{HasRow}

abbrev AreFew : Option ℕ → Type 0
AreFew local = IfSome local (λ n. n ≤ 63)

-- the entry of a submit has at most 63 local turns, and that of any other event has none
pub few_turns : (img : Image) (config : Config) (s : Standing) (e : Entry) → LegalEntry img config s e → IfSome e.local (λ n. n ≤ 63)
unfolding LegalEntry entry_of
few_turns img config s e legal = of e.kind legal
  where
    none : e.local ≡ None → AreFew e.local
    none is = subst AreFew (sym is) tt

    of : (k : Kind) → LegalKind k img config s e → AreFew e.local
    of kind.Assign l = none (ap (λ (x : Entry). x.local) l.1)
    of kind.Submit l = subst AreFew (sym (ap (λ (x : Entry). x.local) l.entry)) (omega (arith, l.turns.few))
    of kind.Replace l = none (ap (λ (x : Entry). x.local) l.1)
    of kind.Cancel l = none (ap (λ (x : Entry). x.local) l.1)
    of kind.Commit l = none (ap (λ (x : Entry). x.local) l.1)

-- the entry has a row wherever it is legal
abbrev pub HasRowIfLegal : Entry → Type 0
HasRowIfLegal e = (img : Image) → (config : Config) → (s : Standing) → LegalEntry img config s e → HasRow e

pub all_have_rows : (img : Image) (config : Config) (s : Standing) (es : List Entry) → AllByRecursion HasRowIfLegal es → Legal img config s es → AllByRecursion HasRow es
unfolding Legal
all_have_rows img config s [] each legal = tt
all_have_rows img config s (e ∷ es) each legal = (each.0 img config s legal.0, all_have_rows img config (after_entry img s e) es each.1 legal.1)
