-- The texts of a program: each has names of its own, and shares some of them with the others.
use Rattle.std.specs.Prelude.{Option, Some, None, ℕ, List, [], ◌∷◌, if◌then◌else◌, Bool, true, false, nat_lt, unwrap_or}
use Rattle.std.specs.Prelude.{slice_get}
use Rattle.svc_layout.specs.declared.section.Spot.{Spot}
use Rattle.svc_layout.specs.declared.source.Binding.{Binding}
use Rattle.svc_layout.specs.declared.source.Linkage.{Linkage}
use Rattle.svc_layout.specs.declared.source.Local.{Local}
use Rattle.svc_layout.specs.declared.source.Strength.{Strength}
use Rattle.svc_layout.specs.declared.steps.Steps.{Steps}
use Rattle.svc_layout.specs.Steps.{no_steps}
use Rattle.svc_layout.specs.declared.source.Binding.TheVariants as binding
use Rattle.svc_layout.specs.declared.source.Linkage.TheVariants as linkage
use Rattle.svc_layout.specs.declared.source.Strength.TheVariants as strength

-- what names stand for: places in sections
abbrev pub Names : Type 0
Names = List ℕ → Option Spot

abbrev pub no_names : Names
no_names name = None

-- how other texts find names
abbrev pub Bindings : Type 0
Bindings = List ℕ → Option Binding

abbrev pub no_bindings : Bindings
no_bindings name = None

-- what one text of a program gives the others: its names, how these find them, its local labels, and of which steps its
-- part of each section begins at a multiple
pub record Source : Type 0 where
  pub names : Names
  pub bindings : Bindings
  pub locals : List Local
  pub steps : Steps

abbrev pub no_source : Source
no_source = record { names = no_names; bindings = no_bindings; locals = []; steps = no_steps }

-- the text with this number: its names are known where all are, and else those that this pass has found so far
abbrev pub source_seen : (known : Bool) → List Source → (number : ℕ) → Source → Source
source_seen false all number so_far = so_far
source_seen true all number so_far = unwrap_or (slice_get all number) so_far

-- the binding of a name that a line gives this linkage
abbrev pub linkage_binding : Linkage → Binding
linkage_binding linkage.Global = binding.Global
linkage_binding linkage.Weak = binding.Weak
linkage_binding linkage.Local = binding.Local

-- how a name is found that is bound again: a weak or common one stays so, and one of its text's own isn't common
abbrev pub binding_again : (old new : Binding) → Binding
binding_again binding.Weak binding.Global = binding.Weak
binding_again (binding.Common count step) binding.Global = binding.Common count step
binding_again binding.Local (binding.Common count step) = binding.Local
binding_again binding.Weak (binding.Common count step) = binding.Weak
binding_again old new = new

abbrev pub binding_with : Option Binding → Binding → Binding
binding_with None new = new
binding_with (Some old) new = binding_again old new

-- a global name is strong; a weak or common one yields to it
abbrev pub has_strength : Strength → Option Binding → Bool
has_strength strength.Strong (Some binding.Global) = true
has_strength strength.Yielding (Some binding.Weak) = true
has_strength strength.Yielding (Some (binding.Common count step)) = true
has_strength _ _ = false

-- the place of a name where one comes first
abbrev pub first_spot : Option Spot → Option Spot → Option Spot
first_spot (Some s) other = Some s
first_spot None other = other

-- the place of a name that a text shares so, and that of the first text which does
abbrev pub spot_by : Strength → List ℕ → Source → Option Spot
spot_by how name s = if has_strength how (s.bindings name) then s.names name else None

unfoldable pub first_by : Strength → List ℕ → List Source → Option Spot
first_by how name [] = None
first_by how name (s ∷ ss) = first_spot (spot_by how name s) (first_by how name ss)

-- what a name stands for in its own text, where that doesn't yield
abbrev pub own_spot : Source → List ℕ → Option Spot
own_spot own name = if has_strength strength.Yielding (own.bindings name) then None else own.names name

-- what it stands for in others: the strong one of the name, and else the first that yields
abbrev pub shared_spot : List Source → List ℕ → Option Spot
shared_spot all name = first_spot (first_by strength.Strong name all) (first_by strength.Yielding name all)

-- the size and the step of zeros that texts share: the greatest ones
abbrev pub greater : ℕ → ℕ → ℕ
greater m n = if nat_lt m n then n else m

abbrev pub greater_room : Option Binding → (room : ℕ × ℕ) → ℕ × ℕ
greater_room (Some (binding.Common count step)) room = (greater room.0 count, greater room.1 step)
greater_room _ room = room

unfoldable pub common_room : List ℕ → List Source → (room : ℕ × ℕ) → ℕ × ℕ
common_room name [] room = room
common_room name (s ∷ ss) room = common_room name ss (greater_room (s.bindings name) room)
