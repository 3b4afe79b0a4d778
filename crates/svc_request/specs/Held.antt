-- What files hold, as far as that is known.
use Rattle.std.specs.Prelude.{◌≡◌, ◌≢◌, ℕ, List, Option, None, Some}

-- the bytes of the file of each name, if they are known
abbrev pub Held : Type 0
Held = List ℕ → Option (List ℕ)

-- every file but the one of this name holds what it held
abbrev pub KeepsOthers : (held saved : Held) → (name : List ℕ) → Type 0
KeepsOthers held saved name = (other : List ℕ) → other ≢ name → saved other ≡ held other

-- every file except that of the name, if there is one, holds what it held
abbrev pub KeepsAllBut : (name : Option (List ℕ)) → (held saved : Held) → Type 0
KeepsAllBut None held saved = saved ≡ held
KeepsAllBut (Some name) held saved = KeepsOthers held saved name

-- every file except those of the two names, if there are any, holds what it held
abbrev pub KeepsAllButBoth : (first second : Option (List ℕ)) → (held saved : Held) → Type 0
KeepsAllButBoth first None held saved = KeepsAllBut first held saved
KeepsAllButBoth first (Some second) held saved =
    (other : List ℕ) → Some other ≢ first → other ≢ second → saved other ≡ held other
