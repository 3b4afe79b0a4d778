-- The names that a text gives to addresses.
use Rattle.std.specs.Prelude.{◌≡◌, ℕ, nat_eq, List, [], ◌∷◌, ◌++◌, Option, Some, None, if◌then◌else◌, ◌&&◌, Bool}
use Rattle.std.specs.Prelude.{true, false, not, codes}
use Rattle.std.specs.List.{starts_with}
use Rattle.svc_layout.specs.declared.statement.Statement.{Statement}
use Rattle.svc_layout.specs.declared.statement.Statement.TheVariants as say
use Rattle.svc_layout.specs.Layouts.{Layout}
use Rattle.svc_layout.specs.Addresses.{own_address}
use Rattle.svc_tokens.specs.Characters.{name_at}
use Rattle.svc_asm.specs.Passes.{Takes}
use Rattle.svc_asm.specs.declared.labels.Label.{Label}

-- a name that is none of an object file: compilers begin those of their own labels so
abbrev pub is_hidden : List ℕ → Bool
is_hidden name = starts_with nat_eq name (codes ".L")

-- a line gives its name to what stands there: a label does, and zeros in .bss; a number that is set has no address
abbrev pub names_place : Statement → Bool
names_place say.Label = true
names_place (say.Common count step) = true
names_place (say.LocalCommon count step) = true
names_place _ = false

-- a name, with the address that it stands for
abbrev pub told_by : List ℕ → Option ℕ → List (List ℕ × ℕ)
told_by name None = []
told_by name (Some address) = (name, address) ∷ []

-- the label that a line gives, if any: its name, with the address that the name stands for behind the line; none where
-- the name stands for another text's
abbrev pub label_in : Layout → (name : List ℕ) → Statement → List (List ℕ × ℕ)
label_in d name s = if names_place s && not (is_hidden name) then told_by name (own_address d name) else []

-- these lines are all of a text, change the layout so, and give these labels
abbrev pub Gives : List Statement → List ℕ → Layout → Layout → (labels : List (List ℕ × ℕ)) → Type 0
Gives [] text old new labels = (text ≡ []) × (old ≡ new) × (labels ≡ [])
Gives (s ∷ ss) text old new labels =
    (rest : List ℕ) × (next : Layout) × (more : List (List ℕ × ℕ)) × Takes text old s rest next
    × (labels ≡ label_in next (name_at text) s ++ more)
    × Gives ss rest next new more

-- a label's name and address
abbrev pub parts_of : Label → List ℕ × ℕ
parts_of l = (l.name.now, l.address)
