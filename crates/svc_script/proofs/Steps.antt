-- Steps of a script and their columns.
use Rattle.std.proofs.Common.{◌≡◌, ◌∷◌, ◌<◌, ◌≤◌, ◌^◌, ◌∙◌, [], ℕ, List, Option, Some, None, refl, sym, ap, arith, get_or, length, take}
use Rattle.std.specs.Prelude.{IfSome}
use Rattle.std.specs.Fmt.{decimal}
use Rattle.std.specs.Cmp.Lexicographic.{other_text}
use Rattle.std.proofs.lemmas.List.{get_or-take}
use Rattle.svc_report.specs.Fields.{optional}
use Rattle.svc_script.specs.Script.{HasStepRow, arg_of, kind_with, word_of, word_text}
use Rattle.svc_script.specs.declared.script.StepKind.{StepKind}
use Rattle.svc_script.specs.declared.script.StepKind.TheVariants as kind
use Rattle.svc_script.specs.declared.script.StepWord.{StepWord}
use Rattle.svc_script.specs.declared.script.StepWord.TheVariants as word
use Rattle.svc_script.specs.declared.script.Step.{Step}
use Rattle.svc_report.proofs.SameColumns.{number_same, wide}

-- a record of three fields is its fields, one by one
pub three : (fs : List (List ℕ)) → length fs ≡ 3 → fs ≡ get_or fs 0 [] ∷ get_or fs 1 [] ∷ get_or fs 2 [] ∷ []
three (a ∷ b ∷ c ∷ []) n = refl
three _ n = absurd (omega arith)

pub word_same : (a b : StepWord) → word_text a ≡ word_text b → a ≡ b
word_same word.Assign word.Assign h = refl
word_same word.Submit word.Submit h = refl
word_same word.Replace word.Replace h = refl
word_same word.Cancel word.Cancel h = refl
word_same word.Commit word.Commit h = refl
word_same word.Take word.Take h = refl
word_same word.Give word.Give h = refl
word_same a b h = absurd (other_text (word_text a) (word_text b) refl h)

-- a kind is found by its word and number
pub kind_found : (k : StepKind) → kind_with (word_of k) (arg_of k) ≡ Some k
kind_found (kind.Assign guess) = refl
kind_found (kind.Submit turns) = refl
kind_found (kind.Replace addr) = refl
kind_found kind.Cancel = refl
kind_found kind.Commit = refl
kind_found (kind.Take turns) = refl
kind_found kind.Give = refl

-- a kind that is found has the word and the number
pub found_with : (w : StepWord) (arg : Option ℕ) (k : StepKind) → kind_with w arg ≡ Some k → (word_of k ≡ w) × (arg_of k ≡ arg)
found_with word.Assign (Some n) k h = let e : kind.Assign n ≡ k = cc h in (sym (ap word_of e), sym (ap arg_of e))
found_with word.Submit (Some n) k h = let e : kind.Submit n ≡ k = cc h in (sym (ap word_of e), sym (ap arg_of e))
found_with word.Replace (Some n) k h = let e : kind.Replace (record { 0 = n }) ≡ k = cc h in (sym (ap word_of e), sym (ap arg_of e))
found_with word.Cancel None k h = let e : kind.Cancel ≡ k = cc h in (sym (ap word_of e), sym (ap arg_of e))
found_with word.Commit None k h = let e : kind.Commit ≡ k = cc h in (sym (ap word_of e), sym (ap arg_of e))
found_with word.Take (Some n) k h = let e : kind.Take n ≡ k = cc h in (sym (ap word_of e), sym (ap arg_of e))
found_with word.Give None k h = let e : kind.Give ≡ k = cc h in (sym (ap word_of e), sym (ap arg_of e))
found_with word.Assign None k h = cc h
found_with word.Submit None k h = cc h
found_with word.Replace None k h = cc h
found_with word.Cancel (Some n) k h = cc h
found_with word.Commit (Some n) k h = cc h
found_with word.Take None k h = cc h
found_with word.Give (Some n) k h = cc h

-- a step of each word
abbrev some_kind : StepWord → StepKind
some_kind word.Assign = kind.Assign 0
some_kind word.Submit = kind.Submit 0
some_kind word.Replace = kind.Replace (record { 0 = 0 })
some_kind word.Cancel = kind.Cancel
some_kind word.Commit = kind.Commit
some_kind word.Take = kind.Take 0
some_kind word.Give = kind.Give

pub word_of-some : (w : StepWord) → word_of (some_kind w) ≡ w
word_of-some word.Assign = refl
word_of-some word.Submit = refl
word_of-some word.Replace = refl
word_of-some word.Cancel = refl
word_of-some word.Commit = refl
word_of-some word.Take = refl
word_of-some word.Give = refl

some_low : (w : StepWord) → IfSome (arg_of (some_kind w)) (λ n. n < 2 ^ 32)
some_low word.Assign = omega arith
some_low word.Submit = omega arith
some_low word.Replace = omega arith
some_low word.Cancel = tt
some_low word.Commit = tt
some_low word.Take = omega arith
some_low word.Give = tt

abbrev pub some_step : StepWord → ℕ → Step
some_step w u = record { unit = record { 0 = u }; kind = some_kind w }

pub some_row : (w : StepWord) (u : ℕ) → u ≤ 255 → HasStepRow (some_step w u)
some_row w u low = record { unit = low; arg = some_low w }

-- a front of fields shows each field in it
pub front : (fs gs : List (List ℕ)) (k j : ℕ) → j < k → take k fs ≡ take k gs → get_or fs j [] ≡ get_or gs j []
front fs gs k j low e = sym (get_or-take k fs j [] low) ∙ ap (λ (l : List (List ℕ)). get_or l j []) e ∙ get_or-take k gs j [] low

-- where no kind has the word and the number, no step has their fields
pub no_step : (w : StepWord) (arg : Option ℕ) (s : Step) → IfSome arg (λ n. n < 2 ^ 32) → HasStepRow s → kind_with w arg ≡ None
    → word_text w ≡ word_text (word_of s.kind) → optional decimal arg ≡ optional decimal (arg_of s.kind) → ⊥
no_step w arg s low row none words args =
    let same = word_same w (word_of s.kind) words in
    let number = number_same arg (arg_of s.kind) (wide arg low) (wide (arg_of s.kind) row.arg) args in
    let found = kind_found s.kind in
    let other = rw (same, number) at none in
    cc (found, other)
