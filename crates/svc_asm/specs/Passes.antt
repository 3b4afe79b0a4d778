-- What the lines of a text make, one after another.
use Rattle.std.specs.Prelude.{◌≡◌, ℕ, ◌<◌, List, [], ◌∷◌, length, Some}
use Rattle.svc_layout.specs.declared.statement.Statement.{Statement}
use Rattle.svc_layout.specs.Layouts.{Layout}
use Rattle.svc_layout.specs.Lines.{after}
use Rattle.svc_tokens.specs.Characters.{name_at}
use Rattle.svc_asm_lines.specs.DataLines.{next_at}

-- the first line of a text is read, leaves less of it, and changes the layout so
pub record Takes (text : List ℕ) (old : Layout) (said : Statement) (rest : List ℕ) (new : Layout) : Type 0 where
  pub read : next_at old text ≡ Some (said, rest)
  pub shorter : length rest < length text
  pub laid : after (name_at text) said old ≡ Some new

-- these lines are all of a text, and change the layout so
abbrev pub Makes : List Statement → List ℕ → Layout → Layout → Type 0
Makes [] text old new = (text ≡ []) × (old ≡ new)
Makes (s ∷ ss) text old new = (rest : List ℕ) × (next : Layout) × Takes text old s rest next × Makes ss rest next new
