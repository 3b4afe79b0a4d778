-- What a whole text says, and the image that it makes.
use Rattle.std.specs.Prelude.{◌≡◌, ◌⊎◌, ℕ, zero, suc, Bool, true, false, List}
use Rattle.svc_image.specs.Image.{Image}
use Rattle.svc_layout.specs.declared.statement.Statement.{Statement}
use Rattle.svc_layout.specs.Layouts.{Layout}
use Rattle.svc_layout.specs.Passes.{first_pass, once_more, next_round, last_round, second_pass, measuring_pass}
use Rattle.svc_layout.specs.Passes.{laying_pass, lacks}
use Rattle.svc_layout.specs.Texts.{with_source}
use Rattle.svc_layout.specs.Images.{IsMadeOf}
use Rattle.svc_asm.specs.declared.rounds.TheConstants.{MOST_PASSES, MOST_ROUNDS}
use Rattle.svc_asm.specs.Passes.{Makes}
use Rattle.svc_asm.specs.Labels.{Gives}

-- a pass over the texts of a program, of which the last one ends there
abbrev pub IsPass : List ℕ → (begun ended : Layout) → Type 0
IsPass text begun ended =
    (lines : List Statement) × (read : Layout) × Makes lines text begun read × (ended ≡ with_source read)

-- a first pass sets a name, or begins a text, where isn't known yet
pub record Lacks (text : List ℕ) (begun ended : Layout) : Type 0 where
  pub is : IsPass text begun ended
  pub lacks : lacks ended ≡ true

-- a first pass finds the names; where it lacks some, or the place of a text, it is made once more with what it found,
-- so often at most
abbrev pub Finds : ℕ → List ℕ → (begun first : Layout) → Type 0
Finds zero text begun first = IsPass text begun first
Finds (suc n) text begun first =
    (IsPass text begun first × (lacks first ≡ false))
    ⊎ ((pass : Layout) × Lacks text begun pass × Finds n text (once_more pass) first)

-- how the pass begins that lays the text: behind the first one, or, where there are distances, behind one that measures
-- these
abbrev pub Begins : Bool → List ℕ → (first begun : Layout) → Type 0
Begins false text first begun = begun ≡ second_pass first
Begins true text first begun =
    (measured : Layout) × IsPass text (measuring_pass first) measured × (begun ≡ laying_pass measured)

-- a round reads a text at least twice: its first pass finds the names, and its last one lays the text under them, and
-- gives these labels
pub record IsRound (text : List ℕ) (begun ended : Layout) (labels : List (List ℕ × ℕ)) : Type 0 where
  pub first : Layout
  pub finds : Finds MOST_PASSES text begun first
  pub laid : Layout
  pub begins : Begins first.has_distances text first laid
  pub lines : List Statement
  pub gives : Gives lines text laid ended labels

-- a round finds branches that don't reach their targets, and the next one has them turned
pub record Grows (text : List ℕ) (begun ended : Layout) : Type 0 where
  pub labels : List (List ℕ × ℕ)
  pub is : IsRound text begun ended labels
  pub grew : ended.grew ≡ true

-- a text is laid by a round in which each branch reaches its target; behind so many that don't, by one in which every
-- branch is turned
abbrev pub Settles : ℕ → List ℕ → (begun ended : Layout) → List (List ℕ × ℕ) → Type 0
Settles zero text begun ended labels = IsRound text last_round ended labels
Settles (suc n) text begun ended labels =
    (IsRound text begun ended labels × (ended.grew ≡ false))
    ⊎ ((round : Layout) × Grows text begun round × Settles n text (next_round round) ended labels)

-- the text has this layout
pub record IsLaid (text : List ℕ) (layout : Layout) : Type 0 where
  pub labels : List (List ℕ × ℕ)
  pub settles : Settles MOST_ROUNDS text first_pass layout labels

-- the labels of a text, in the order of their lines
pub record HasLabels (text : List ℕ) (labels : List (List ℕ × ℕ)) : Type 0 where
  pub layout : Layout
  pub settles : Settles MOST_ROUNDS text first_pass layout labels

-- the text is a program of this image
pub record IsProgramOf (text : List ℕ) (img : Image) : Type 0 where
  pub layout : Layout
  pub laid : IsLaid text layout
  pub image : IsMadeOf layout img
