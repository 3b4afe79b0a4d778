-- Searches among renamed units.
use Rattle.std.proofs.Common.{◌≡◌, sym, ap, ◌∙◌, ℕ, ◌<◌, Bool, true, Some, option_map, inl, inr, arith}
use Rattle.std.proofs.lemmas.Bool.{cases_Bool}
use Rattle.svc_bus_laws.specs.Search.{least}
use Rattle.svc_bus_laws.proofs.Searches.{Found, least_cases, least_none, least_found}
use Rattle.svc_renaming_laws.specs.Renamings.{Renaming, IsRenaming}

-- of two tests that differ in names, one of which at most one unit passes, the searches find the same unit
module _ (r : Renaming) (n : ℕ) (is : IsRenaming n r) (test other : ℕ → Bool) (same : (u : ℕ) → test u ≡ other (r.back u))
    (one : (u v : ℕ) → u < n → v < n → other u ≡ true → other v ≡ true → u ≡ v) where
  here : (m : ℕ) → Found n other m → least n test ≡ Some (r.there m)
  here m found = least_found n test (r.there m) (record {
    within = is.known m found.within;
    passes = same (r.there m) ∙ ap other (is.returns m) ∙ found.passes;
    before = λ k h. elim (cases_Bool (test k)) [
      | inr fails ↦ fails
      | inl passes ↦
          let known : k < n = let w = is.known m found.within in omega (arith, h, w) in
          let e : r.back k ≡ m = one (r.back k) m (is.known_back k known) found.within (sym (same k) ∙ passes) found.passes in
          let f : k ≡ r.there m = sym (is.reaches k) ∙ ap r.there e in
          absurd (omega (arith, h, f))
    ];
  })

  pub least_renamed : least n test ≡ option_map r.there (least n other)
  least_renamed = elim (least_cases n other) [
    | inl (none, never) ↦ least_none n test (λ u h. same u ∙ never (r.back u) (is.known_back u h)) ∙ sym (ap (option_map r.there) none)
    | inr (m, at, found) ↦ here m found ∙ sym (ap (option_map r.there) at)
  ]
