-- Each task that a violation squashed was squashed at an entry that names a word.
use Rattle.std.proofs.Common.{◌≡◌, ◌∙◌, ◌∷◌, [], ℕ, zero, suc, List, Bool, true, false, Option, None, Some, cond, drop, map, refl, ap, subst, sym}
use Rattle.std.specs.Prelude.{◌&&◌, slice_get}
use Rattle.std.specs.List.{AllByRecursion, filter}
use Rattle.std.specs.Option.{IsSome, option_and_then}
use Rattle.svc_history_laws.specs.declared.entry.CutKind.{CutKind}
use Rattle.svc_history_laws.specs.declared.entry.CutKind.TheVariants as cause
use Rattle.svc_history_laws.specs.declared.entry.Entry.{Entry}
use Rattle.svc_history_laws.specs.declared.entry.Kind.{Kind}
use Rattle.svc_history_laws.specs.declared.entry.Kind.TheVariants.{Assign, Submit, Replace, Cancel, Commit}
use Rattle.svc_report.specs.Summary.{is_cause, is_kind}
use Rattle.svc_task_runs.specs.declared.task_run.Fate.{Fate}
use Rattle.svc_task_runs.specs.declared.task_run.Fate.TheVariants as fate
use Rattle.svc_task_runs.specs.declared.task_run.TaskRun.{TaskRun}
use Rattle.svc_task_runs.specs.Runs.{Runs, after, begun, fate_of, goes_on, is_active, is_not_above, is_number, is_settled, no_runs, runs_from, step, tasks_of}
use Rattle.svc_task_runs.proofs.Begun.{all_both, all_filter}
use Rattle.svc_profile.specs.Named.{NamesItsWord}
use Rattle.svc_profile.specs.Words.{word_at}

-- where a violation decided the fate, its entry names a word
abbrev pub HasCause : List Entry → Fate → Option ℕ → Type 0
HasCause es fate.Violation last = IsSome (word_at es last)
HasCause es fate.Active last = Unit {0}
HasCause es fate.Committed last = Unit {0}
HasCause es fate.Guess last = Unit {0}
HasCause es fate.Cancel last = Unit {0}

abbrev pub IsBlamed : List Entry → TaskRun → Type 0
IsBlamed es r = HasCause es r.fate r.last

abbrev AreBlamed : List Entry → Runs → Type 0
AreBlamed es s = AllByRecursion (IsBlamed es) s.settled × AllByRecursion (IsBlamed es) s.active

blamed_after : (es : List Entry) (at : ℕ) (e : Entry) (r : TaskRun) → slice_get es at ≡ Some e → NamesItsWord e → IsBlamed es (after at e r)
unfolding after
blamed_after es at e r there named = by (is_not_above e.first r.number) (is_kind Commit e.kind && is_number e.word r.number) e.cause named.violation
  where
    fate_by : (cut commits : Bool) → Option CutKind → Fate
    fate_by cut commits cause = cond cut (fate_of cause) (cond commits fate.Committed fate.Active)

    by : (cut commits : Bool) (k : Option CutKind) → (is_cause cause.Violation k ≡ true → IsSome e.addr)
        → HasCause es (fate_by cut commits k) (cond (is_active (fate_by cut commits k)) None (Some at))
    by true commits None names = tt
    by true commits (Some cause.Violation) names = subst (λ (o : Option Entry). IsSome (option_and_then (λ x. x.addr) o)) (sym there) (names refl)
    by true commits (Some cause.Guess) names = tt
    by true commits (Some cause.Cancel) names = tt
    by false true k names = tt
    by false false k names = tt

blamed_now : (es : List Entry) (at : ℕ) (e : Entry) (rs : List TaskRun) → slice_get es at ≡ Some e → NamesItsWord e → AllByRecursion (IsBlamed es) (map (after at e) rs)
blamed_now es at e [] there named = tt
blamed_now es at e (r ∷ rs) there named = (blamed_after es at e r there named, blamed_now es at e rs there named)

blamed_begun : (k : Kind) (es : List Entry) (at : ℕ) (e : Entry) (s : Runs) → AllByRecursion (IsBlamed es) (begun k at e s)
blamed_begun Assign es at e s = (tt, tt)
blamed_begun Submit es at e s = tt
blamed_begun Replace es at e s = tt
blamed_begun Cancel es at e s = tt
blamed_begun Commit es at e s = tt

blamed_step : (es : List Entry) (at : ℕ) (e : Entry) (s : Runs) → slice_get es at ≡ Some e → NamesItsWord e → AreBlamed es s → AreBlamed es (step at e s)
unfolding step
blamed_step es at e s there named blamed =
    let now = map (after at e) s.active in
    let all : AllByRecursion (IsBlamed es) now = blamed_now es at e s.active there named in (
      all_both (IsBlamed es) s.settled (filter is_settled now) blamed.0 (all_filter (IsBlamed es) is_settled now all),
      all_both (IsBlamed es) (filter goes_on now) (begun e.kind at e s) (all_filter (IsBlamed es) goes_on now all) (blamed_begun e.kind es at e s),
    )

first_left : (es : List Entry) (at : ℕ) → slice_get es at ≡ slice_get (drop at es) 0
first_left [] zero = refl
first_left [] (suc at) = refl
first_left (e ∷ es) zero = refl
first_left (e ∷ es) (suc at) = first_left es at

others_left : (es : List Entry) (at : ℕ) → drop (suc at) es ≡ drop 1 (drop at es)
others_left [] zero = refl
others_left [] (suc at) = refl
others_left (e ∷ es) zero = refl
others_left (e ∷ es) (suc at) = others_left es at

blamed_from : (whole : List Entry) (s : Runs) (at : ℕ) (es : List Entry) → drop at whole ≡ es → AllByRecursion NamesItsWord es → AreBlamed whole s
    → AreBlamed whole (runs_from s at es)
unfolding runs_from
blamed_from whole s at [] left named blamed = blamed
blamed_from whole s at (e ∷ es) left named blamed =
    let there : slice_get whole at ≡ Some e = first_left whole at ∙ ap (λ (l : List Entry). slice_get l 0) left in
    let rest : drop (suc at) whole ≡ es = others_left whole at ∙ ap (λ (l : List Entry). drop 1 l) left in
    blamed_from whole (step at e s) (suc at) es rest named.1 (blamed_step whole at e s there named.0 blamed)

pub all_blamed : (es : List Entry) → AllByRecursion NamesItsWord es → AllByRecursion (IsBlamed es) (tasks_of es)
all_blamed es named =
    let both = blamed_from es no_runs 0 es refl named (tt, tt) in
    all_both (IsBlamed es) _ _ both.0 both.1
