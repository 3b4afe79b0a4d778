-- When a run is as wanted.
use Rattle.std.specs.Prelude.{◌≡◌, ◌≢◌, ◌⊎◌, ◌++◌, ℕ, List, codes, take, length}
use Rattle.svc_case_outcome.specs.declared.outcome.Outcome.{Outcome}
use Rattle.svc_case_outcome.specs.declared.outcome.Part.{Part}
use Rattle.svc_case_outcome.specs.declared.outcome.Part.TheVariants as part

-- a text is the wanted one, or begins with what stands before the wanted one's last line, which is three dots
abbrev pub Fits : (found wanted : List ℕ) → Type 0
Fits found wanted =
    (found ≡ wanted)
    ⊎ ((front : List ℕ) × (wanted ≡ front ++ codes "...\n") × (front ≡ take (length front) found))

-- each part of a run is as wanted
pub record IsAsWanted (found wanted : Outcome) : Type 0 where
  pub status : found.status ≡ wanted.status
  pub out : Fits found.out.items wanted.out.items
  pub err : Fits found.err.items wanted.err.items
  pub saved : Fits found.saved.items wanted.saved.items

-- this part of a run isn't as wanted, and those before it are
abbrev pub IsFirstOther : (found wanted : Outcome) → Part → Type 0
IsFirstOther found wanted part.Status = found.status ≢ wanted.status
IsFirstOther found wanted part.Out = (found.status ≡ wanted.status) × ¬ Fits found.out.items wanted.out.items
IsFirstOther found wanted part.Err =
    (found.status ≡ wanted.status) × Fits found.out.items wanted.out.items × ¬ Fits found.err.items wanted.err.items
IsFirstOther found wanted part.Saved =
    (found.status ≡ wanted.status) × Fits found.out.items wanted.out.items × Fits found.err.items wanted.err.items
    × ¬ Fits found.saved.items wanted.saved.items
