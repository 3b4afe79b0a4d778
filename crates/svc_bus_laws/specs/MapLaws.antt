-- The laws of the versioned map alone.
use Rattle.std.specs.Prelude.{◌≡◌, ℕ, suc, ◌+◌, ◌-◌, ◌<◌, ◌≤◌, true, false, Some, None, is_some, is_none, option_map}
use Rattle.std.specs.Prelude.{length}
use Rattle.svc_bus_laws.specs.Versioned.{Versioned, version, is_exposed, view, victim}
use Rattle.svc_bus_laws.specs.Versioned as map
use Rattle.svc_bus_laws.specs.ByRows as rows
use Rattle.svc_bus_laws.specs.ByRows.{view_of, victim_after}
use Rattle.svc_bus_laws.specs.Walk.{walk}

-- with no version at or below its place, a task reads the committed value
abbrev pub CommittedView : Type 0
CommittedView = (m : Versioned) (p a : ℕ) → ((q : ℕ) → q ≤ p → version m q a ≡ None) → view m p a ≡ m.committed a

-- otherwise it reads the version of the greatest place not above its own that has one
abbrev pub NearestView : Type 0
NearestView = (m : Versioned) (p q a x : ℕ) → q ≤ p → version m q a ≡ Some x
    → ((r : ℕ) → q < r → r ≤ p → version m r a ≡ None) → view m p a ≡ x

-- the task at place v is the victim of a write of the word at place p
pub record IsVictim (m : Versioned) (p a v : ℕ) : Type 0 where
  pub active : v < length m.rows
  pub later : p < v
  pub exposed : is_exposed m v a ≡ true
  pub unversioned : (r : ℕ) → p < r → r < v → version m r a ≡ None
  pub least : (r : ℕ) → p < r → r < v → is_exposed m r a ≡ false

-- the search for a victim finds the victim and no other
abbrev pub VictimIs : Type 0
VictimIs = (m : Versioned) (p a v : ℕ) → victim m p a ≡ Some v → IsVictim m p a v

abbrev pub IsTheVictim : Type 0
IsTheVictim = (m : Versioned) (p a v : ℕ) → IsVictim m p a v → victim m p a ≡ Some v

-- if there is no victim, each later task that exposed the word did so behind a version above the writer's
abbrev pub NoVictim : Type 0
NoVictim = (m : Versioned) (p a q : ℕ) → victim m p a ≡ None → p < q → q < length m.rows → is_exposed m q a ≡ true
    → (r : ℕ) × (p < r) × (r < q) × (is_some (version m r a) ≡ true)

-- the tasks above the writer and below a place neither exposed the word nor have a version of it
pub record IsWalked (m : Versioned) (p a v : ℕ) : Type 0 where
  pub fresh : (k : ℕ) → p < k → k < v → is_exposed m k a ≡ false
  pub unversioned : (k : ℕ) → p < k → k < v → is_none (version m k a) ≡ true

-- a walk that reaches a task that exposed the word has found the victim
abbrev pub WalkFinds : Type 0
WalkFinds = (m : Versioned) (p a v : ℕ) → IsWalked m p a v → p < v → v < length m.rows → is_exposed m v a ≡ true
    → victim m p a ≡ Some v

-- a walk that reaches a version of a task that did not expose the word ends without a victim
abbrev pub WalkStops : Type 0
WalkStops = (m : Versioned) (p a v : ℕ) → IsWalked m p a v → p < v → is_exposed m v a ≡ false
    → is_none (version m v a) ≡ false → victim m p a ≡ None

-- so does one that reaches the end
abbrev pub WalkEnds : Type 0
WalkEnds = (m : Versioned) (p a : ℕ) → IsWalked m p a (length m.rows) → victim m p a ≡ None

-- the walk over all later tasks gives the victim
abbrev pub WalkIs : Type 0
WalkIs = (m : Versioned) (p a : ℕ)
    → walk (λ q. is_exposed m q a) (λ q. is_some (version m q a)) (suc p) (length m.rows - suc p) ≡ victim m p a

-- the view, the victim and the steps by recursion on the rows are the same
abbrev pub ViewByRows : Type 0
ViewByRows = (m : Versioned) (p : ℕ) → view m p ≡ view_of m.rows m.committed p

abbrev pub VictimByRows : Type 0
VictimByRows = (m : Versioned) (p a : ℕ) → victim m p a ≡ option_map (λ n. suc p + n) (victim_after m.rows p a)

abbrev pub ReadByRows : Type 0
ReadByRows = (m : Versioned) (p a : ℕ) → p < length m.rows → map.read m p a ≡ rows.read m p a

abbrev pub WriteByRows : Type 0
WriteByRows = (m : Versioned) (p a w : ℕ) → p < length m.rows → map.write m p a w ≡ rows.write m p a w

abbrev pub CommitByRows : Type 0
CommitByRows = (m : Versioned) → 0 < length m.rows → map.commit m ≡ rows.commit m
