-- The name nearest to an address, and its text.
use Rattle.std.specs.Prelude.{◌++◌, ◌∷◌, ◌-◌, [], ◌&&◌, ℕ, zero, suc, List, Option, Some, None, Bool, codes, decimal}
use Rattle.std.specs.Prelude.{nat_le, nat_lt, if◌then◌else◌}
use Rattle.svc_image.specs.declared.layout.TheConstants.{DATA_START}
use Rattle.svc_names.specs.declared.name.Name.{Name}
use Rattle.svc_names.specs.declared.near.Near.{Near}

-- where the addresses of its kind begin: those of text, or those of data
abbrev pub kind_start : (address : ℕ) → ℕ
kind_start address = if nat_lt address DATA_START then 0 else DATA_START

-- a name is at or below an address, and of its kind
abbrev pub is_at_or_below : (address : ℕ) → Name → Bool
is_at_or_below address n = nat_le (kind_start address) n.address && nat_le n.address address

-- a name before the nearest of those behind it: it is nearer or as near, or there is no other
abbrev pub nearer : (address : ℕ) → Name → Option Name → Option Name
nearer address n None = if is_at_or_below address n then Some n else None
nearer address n (Some other) =
    if is_at_or_below address n && nat_le other.address n.address then Some n else Some other

-- the nearest name at or below an address, of its kind; of several at one address the first
abbrev pub nearest : (address : ℕ) → List Name → Option Name
nearest address [] = None
nearest address (n ∷ names) = nearer address n (nearest address names)

-- how far behind a name an address is, unless it is the name's own
abbrev pub behind_text : ℕ → List ℕ
behind_text zero = []
behind_text (suc n) = codes "+" ++ decimal (suc n)

-- an address by a name at or below it
abbrev pub label : (address : ℕ) → Name → List ℕ
label address n = n.text.items ++ behind_text (address - n.address)

abbrev pub near_text : Near → List ℕ
near_text n = n.name.now ++ behind_text n.behind
