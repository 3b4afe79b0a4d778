-- What is written of the needs that were found is what is told of them.
use Rattle.std.proofs.Common.{ℕ, zero, suc, ◌≡◌, ◌∷◌, [], Option, None, length, refl, ap, ap₂, ◌∙◌, arith}
use Rattle.std.proofs.lemmas.List.{length-append}
use denote.Ref.{Bor}
use Rattle.svc_names.specs.declared.names.Names.{Names}
use Rattle.svc_image.specs.Image.{Image}
use Rattle.svc_plain.specs.Tasks.{tasks_run}
use Rattle.svc_depend_laws.specs.Over.{listed}
use Rattle.svc_depend.specs.declared.run.Needs.{Needs}
use Rattle.svc_depend.specs.Tables.{totals_text}
use Rattle.svc_depend.specs.Told.{task_needs}
use Rattle.svc_answer.specs.Needs.{AreOf, needs_text}

length_listed : {A : Type 0} (item : ℕ → A) (n : ℕ) → length (listed item n) ≡ n
length_listed item zero = refl
length_listed item (suc n) = length-append (listed item n) (item n ∷ []) ∙ omega (arith, length_listed item n)

pub totals_told : (names : Option (Bor Names)) (img : Image) (most : ℕ) (needs : Needs) → AreOf img most needs → totals_text (length needs.tasks.items) needs.ending needs.totals ≡ needs_text None names img most
totals_told names img most needs are =
    ap (λ tasks. totals_text tasks needs.ending needs.totals) (ap length are.tasks ∙ length_listed (task_needs img) (tasks_run img most))
    ∙ ap₂ (totals_text (tasks_run img most)) are.ending are.totals_are
