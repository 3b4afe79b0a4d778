-- What the rows of the table add up to.
use Rattle.std.specs.Prelude.{◌≡◌, ⊤, ℕ, suc, true, List, [], ◌∷◌, Option}
use Rattle.std.specs.Option.{IsSome}
use Rattle.std.specs.List.{sum_by}
use Rattle.svc_history_laws.specs.declared.entry.CutKind.TheVariants as cause
use Rattle.svc_history_laws.specs.declared.entry.Entry.{Entry}
use Rattle.svc_report.specs.Summary.{is_cause}
use Rattle.svc_task_runs.specs.Runs.{Runs, is_load, is_store, no_runs, step}
use Rattle.svc_instruction_profile.specs.declared.cost.Cost.{Cost}
use Rattle.svc_instruction_profile.specs.Charges.{is_output, reader_of}

-- a column of rows, added up
abbrev pub column_sum : (Cost → ℕ) → List (ℕ × Cost) → ℕ
column_sum column rs = sum_by (λ (r : ℕ × Cost). column r.1) rs

-- an entry that loads, stores, outputs or squashes for a violation asks at an instruction
pub record AsksAt (a : Option ℕ) (e : Entry) : Type 0 where
  pub loads : is_load e.reply ≡ true → IsSome a
  pub stores : is_store e.reply ≡ true → IsSome a
  pub outputs : is_output e.reply ≡ true → IsSome a
  pub violation : is_cause cause.Violation e.cause ≡ true → IsSome a

-- each of these does, and each has an address, if there is one
abbrev pub EachAsksAt : List (Option ℕ) → List Entry → Type 0
EachAsksAt [] [] = ⊤
EachAsksAt (a ∷ asked) (e ∷ es) = AsksAt a e × EachAsksAt asked es
EachAsksAt [] (e ∷ es) = ⊥
EachAsksAt (a ∷ asked) [] = ⊥

-- of each violation from this index on it is known where its victim first read the word
unfoldable pub EachIsReadFrom : List (Option ℕ) → List Entry → Runs → (at : ℕ) → List Entry → Type 0
EachIsReadFrom asked all s at [] = ⊤
EachIsReadFrom asked all s at (e ∷ es) =
    (is_cause cause.Violation e.cause ≡ true → IsSome (reader_of asked all at e s.active))
    × EachIsReadFrom asked all (step at e s) (suc at) es

-- the same for all violations of a history
abbrev pub EachIsRead : List (Option ℕ) → List Entry → Type 0
EachIsRead asked es = EachIsReadFrom asked es no_runs 0 es
