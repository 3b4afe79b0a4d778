-- Lines that are gathered before they are written.
use Rattle.std.proofs.Common.{◌≡◌, ◌++◌, ◌∙◌, [], ℕ, List, Option, Some, None, ap, append-nil}
use Rattle.std.specs.Io.KnownBytes.{Appends, Keeps, append_known}

-- where nothing is pending, the writer holds it all
pub before_any : (a b : Option (List ℕ)) (p bs : List ℕ) → p ≡ [] → Appends (append_known a p) b bs → Appends a b bs
before_any None b p bs none h = tt
before_any (Some x) None p bs none h = absurd h
before_any (Some x) (Some y) p bs none h = h ∙ ap (λ (t : List ℕ). t ++ bs) (ap (λ (t : List ℕ). x ++ t) none ∙ append-nil x)

pub after_all : (a b : Option (List ℕ)) (p : List ℕ) → p ≡ [] → Keeps a b → Keeps a (append_known b p)
after_all None b p none h = tt
after_all (Some x) None p none h = absurd h
after_all (Some x) (Some y) p none h = ap (λ (t : List ℕ). y ++ t) none ∙ append-nil y ∙ h
