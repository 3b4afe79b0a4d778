-- When a line may be refused.
use Rattle.std.specs.Prelude.{Option, Some, None, ◌≡◌, Result, Ok, Err}
use Rattle.svc_layout.specs.declared.refusal.Refusal.{Refusal}
use Rattle.svc_layout.specs.declared.refusal.Refusal.TheVariants as refusal

-- a refusal is right where nothing comes of the line, or memory ran out
abbrev pub Refuses : {X : Type 0} → Refusal → Option X → Type 0
Refuses refusal.Memory next = Unit {0}
Refuses _ next = next ≡ None

-- what a line says, done: the value that is to come of it, or a refusal that is right
abbrev pub Changes : {A X : Type 0} → Result A Refusal → Option X → X → Type 0
Changes (Ok done) next new = next ≡ Some new
Changes (Err e) next new = Refuses e next

-- why bytes of a section are refused: there is no room for them, or no memory
abbrev pub IsOfArea : Refusal → Type 0
IsOfArea refusal.FullData = Unit {0}
IsOfArea refusal.Memory = Unit {0}
IsOfArea _ = ⊥
