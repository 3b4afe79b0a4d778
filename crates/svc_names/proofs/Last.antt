-- The last of some names decides what may come next.
use Rattle.std.proofs.Common.{◌≡◌, ◌∙◌, ◌-◌, ◌∷◌, [], ℕ, suc, List, Some, ap, length, arith}
use Rattle.std.specs.Prelude.{slice_get}
use Rattle.svc_names.specs.declared.name.Name.{Name}
use Rattle.svc_names.specs.Table.{comes_next, is_before}

pub last_decides : (names : List Name) (n : Name) (text : List ℕ) (address : ℕ) → Some n ≡ slice_get names (length names - 1)
    → is_before n text address ≡ comes_next names text address
last_decides [] n text address e = cc e
last_decides (a ∷ []) n text address e = let same : n ≡ a = cc e in ap (λ (m : Name). is_before m text address) same
last_decides (a ∷ b ∷ rest) n text address e =
    let k = length rest in
    let one : suc (suc k) - 1 ≡ suc k = omega arith in
    let two : k ≡ suc k - 1 = omega arith in
    last_decides (b ∷ rest) n text address (e ∙ ap (slice_get (a ∷ b ∷ rest)) one ∙ ap (slice_get (b ∷ rest)) two)
