-- A call keeps the sizes of a bus's parts, so only its links have to be shown.
use Rattle.std.proofs.Common.{◌≡◌, ◌∙◌, sym, subst, ◌<◌, ◌≤◌, ◌^◌, length}
use Rattle.svc_base.specs.declared.config.TheConstants.{MAX_WAYS}
use Rattle.svc_vol.specs.declared.list.TheConstants.{CAPACITY}
use Rattle.svc_links_laws.specs.LinkedBus.{IsLinkedBus}
use Rattle.svc_retire.specs.Caches.{SameSizes}
use Rattle.svc_bus.specs.Lines.{link_in}
use Rattle.svc_bus.specs.Value.{BusValue, IsSoundBus, state_in}

pub record KeepsSizes (old new : BusValue) : Type 0 where
  pub caches : SameSizes old.caches new.caches
  pub spill : length new.spill ≡ length old.spill
  pub backing : length new.backing ≡ length old.backing

pub kept_bus : (old new : BusValue) → IsSoundBus old → KeepsSizes old new → IsLinkedBus (state_in new) (link_in new.caches) → new.commits ≤ 2 ^ 63 → IsSoundBus new
kept_bus old new sound sizes linked few = record {
  linked = linked;
  some_caches = subst (λ n. 0 < n) (sym sizes.caches.count) sound.some_caches;
  few_caches = subst (λ n. n ≤ CAPACITY) (sym sizes.caches.count) sound.few_caches;
  one_size = λ u known. sizes.caches.sets u ∙ sound.one_size u (subst (λ n. u < n) sizes.caches.count known) ∙ sym (sizes.caches.sets 0);
  one_width = λ u known. sizes.caches.ways u ∙ sound.one_width u (subst (λ n. u < n) sizes.caches.count known) ∙ sym (sizes.caches.ways 0);
  few_ways = subst (λ n. n ≤ MAX_WAYS) (sym (sizes.caches.ways 0)) sound.few_ways;
  spills = sizes.spill ∙ sound.spills ∙ sym sizes.backing;
  few_words = subst (λ n. n < 2 ^ 32) (sym sizes.backing) sound.few_words;
  few_commits = few;
}
