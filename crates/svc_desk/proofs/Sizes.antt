-- `==` says which sizes are the same.
use Rattle.std.proofs.Common.{◌≡◌, ◌==◌, ◌&&◌, Bool, true, refl, subst, ℕ}
use Rattle.std.specs.Bool.{Decides}
use Rattle.std.proofs.lemmas.Bool.{and_from, and_parts}
use Rattle.std.proofs.lemmas.Bool.Decides.{Decides-eqb}
use Rattle.svc_desk.specs.declared.packed.FileSize.{FileSize}

same_size : (a b : FileSize) → a.name ≡ b.name → a.bytes ≡ b.bytes → a ≡ b
same_size a b names bytes =
    subst (λ (n : ℕ). a ≡ record { name = n; bytes = b.bytes }) names (subst (λ (m : ℕ). a ≡ record { name = a.name; bytes = m }) bytes refl)

pub size_Decides : (a b : FileSize) → Decides ((a.name == b.name) && (a.bytes == b.bytes)) (a ≡ b)
size_Decides a b = (
  λ same. let parts = and_parts (a.name == b.name) (a.bytes == b.bytes) same in same_size a b ((Decides-eqb a.name b.name).0 parts.0) ((Decides-eqb a.bytes b.bytes).0 parts.1),
  λ same. subst (λ (x : FileSize). ((a.name == x.name) && (a.bytes == x.bytes)) ≡ true) same
      (and_from (a.name == a.name) (a.bytes == a.bytes) ((Decides-eqb a.name a.name).1 refl) ((Decides-eqb a.bytes a.bytes).1 refl)),
)
