-- What one chain of versions says of their order, and when it stays one.
use Rattle.std.proofs.Common.{◌≡◌, ◌⊎◌, ◌∙◌, refl, sym, ap, subst, ℕ, zero, suc, ◌<◌, Bool, true, false, ◌&&◌, ◌||◌, Option, Some, None, inl, inr, arith, true≢false}
use Rattle.std.specs.Bool.{◌==◌}
use Rattle.std.proofs.lemmas.Bool.{and_parts, and_from, cases_Bool, cases_eq}
use Rattle.svc_links_laws.specs.Links.{IsChain}
use Rattle.svc_links_laws.specs.LinkOrder.{reaches, via}
use Rattle.svc_links_laws.proofs.Chains.{relinked}
use Rattle.svc_links_laws.proofs.Orders.{reaches_above, reaches_newer}
use Rattle.svc_vol.specs.Lines.{UnitLines, is_older_line, links_of, versions_of, IsRanked}

module _ (n : ℕ) (lines : UnitLines) (ranked : IsRanked n lines) where
  pub ranked_strict : (u : ℕ) → is_older_line n lines u u ≡ false
  ranked_strict u = elim (cases_Bool (is_older_line n lines u u)) [
    | inr never ↦ never
    | inl older ↦
        let parts = and_parts (versions_of lines u) _ older in
        let up = (reaches_above (versions_of lines) ranked.rank (links_of lines) ranked.chain n u u parts.0 parts.1).1 in
        absurd (omega (arith, up))
  ]

  not_less : (u v : ℕ) → versions_of lines u ≡ true → versions_of lines v ≡ true → is_older_line n lines u v ≡ false → ranked.rank u < ranked.rank v → ⊥
  not_less u v first second never up =
      true≢false (sym (and_from _ _ first (reaches_newer (versions_of lines) ranked.rank (links_of lines) ranked.chain n ranked.within ranked.distinct u v first second up)) ∙ never)

  -- of two versions one is older
  pub ranked_total : (u v : ℕ) → versions_of lines u ≡ true → versions_of lines v ≡ true → is_older_line n lines u v ≡ false → is_older_line n lines v u ≡ false → u ≡ v
  ranked_total u v first second before after = ranked.distinct u v first second (same (ranked.rank u) (ranked.rank v) (not_less u v first second before) (not_less v u second first after))
    where
      same : (x y : ℕ) → (x < y → ⊥) → (y < x → ⊥) → x ≡ y
      same x y f g = elim (cases_eq x y) [
        | inl e ↦ e
        | inr ne ↦ elim (order x y ne) [ inl h ↦ absurd (f h) | inr h ↦ absurd (g h) ]
      ]
        where
          order : (x y : ℕ) → (x ≡ y → ⊥) → (x < y) ⊎ (y < x)
          order x y ne = grind arith

-- the committed versions are the same, and so are their links
pub record SameVersions (lines others : UnitLines) : Type 0 where
  pub dirty : (u : ℕ) → versions_of others u ≡ versions_of lines u
  pub link : (u : ℕ) → versions_of lines u ≡ true → links_of others u ≡ links_of lines u

reaches_same : (d : ℕ → Bool) (k l : ℕ → Option ℕ) → ((u : ℕ) → d u ≡ true → l u ≡ k u) → (n u v : ℕ) → d u ≡ true → reaches d l n u v ≡ reaches d k n u v
reaches_same d k l same zero u v e = refl
reaches_same d k l same (suc n) u v e = ap (λ o. via o (λ x. d x && ((x == v) || reaches d l n x v))) (same u e) ∙ step (λ x is. reaches_same d k l same n x v is) (k u)
  where
    step : ((x : ℕ) → d x ≡ true → reaches d l n x v ≡ reaches d k n x v) → (o : Option ℕ) → via o (λ x. d x && ((x == v) || reaches d l n x v)) ≡ via o (λ x. d x && ((x == v) || reaches d k n x v))
    step rest None = refl
    step rest (Some x) = go (d x) refl
      where
        go : (y : Bool) → d x ≡ y → (y && ((x == v) || reaches d l n x v)) ≡ (y && ((x == v) || reaches d k n x v))
        go false is = refl
        go true is = ap (λ z. (x == v) || z) (rest x is)

module _ (n : ℕ) (lines others : UnitLines) (same : SameVersions lines others) where
  dirty_are : versions_of others ≡ versions_of lines
  dirty_are = λ i u. same.dirty u i

  pub ranked_kept : IsRanked n lines → IsRanked n others
  ranked_kept ranked = record {
    rank = ranked.rank;
    chain = subst (λ (d : ℕ → Bool). IsChain d ranked.rank (links_of others)) (sym dirty_are) (relinked (versions_of lines) ranked.rank (links_of lines) (links_of others) ranked.chain same.link);
    within = λ u e. ranked.within u (sym (same.dirty u) ∙ e);
    distinct = λ u v e f is. ranked.distinct u v (sym (same.dirty u) ∙ e) (sym (same.dirty v) ∙ f) is;
  }

  pub older_kept : (u v : ℕ) → is_older_line n others u v ≡ is_older_line n lines u v
  older_kept u v = (λ i. dirty_are i u && reaches (dirty_are i) (links_of others) n u v) ∙ go (versions_of lines u) refl
    where
      go : (x : Bool) → versions_of lines u ≡ x → (x && reaches (versions_of lines) (links_of others) n u v) ≡ (x && reaches (versions_of lines) (links_of lines) n u v)
      go false is = refl
      go true is = reaches_same (versions_of lines) (links_of lines) (links_of others) same.link n u v is
