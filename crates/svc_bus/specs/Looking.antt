-- How many look-ups the calls of a bus make.
use Rattle.std.specs.Prelude.{◌≡◌, ℕ, ◌+◌, ◌*◌, ◌≤◌}
use Rattle.svc_base.specs.declared.config.TheConstants.{MAX_WAYS}
use Rattle.svc_base.specs.declared.served.Served.{Served}
use Rattle.svc_base.specs.declared.served.Served.TheVariants.{Hit, Reuse, Version, Spill, Committed, Memory}
use Rattle.svc_cache.specs.declared.probes.Probes.{Probes}

-- one search of one set was counted
pub record IsOne (probes : Probes) : Type 0 where
  pub searches : probes.searches ≡ 1
  pub places : probes.places ≤ MAX_WAYS

-- at most this many searches were added, and the earlier count is kept
pub record CountsUpTo (before after : Probes) (most : ℕ) : Type 0 where
  pub kept : before.searches ≤ after.searches
  pub few : after.searches ≤ before.searches + most

-- at least this many look-ups, and at most two in each cache
pub record LookUpsFrom (least probes caches : ℕ) : Type 0 where
  pub some : least ≤ probes
  pub few : probes ≤ 2 * caches

-- the look-ups of an accepted read with this supplier: a hit makes one, a reuse one to two for each cache, and any
-- other at least one for each
abbrev pub LookUps : Served → (probes caches : ℕ) → Type 0
LookUps Hit probes caches = probes ≡ 1
LookUps Reuse probes caches = LookUpsFrom 1 probes caches
LookUps (Version unit) probes caches = LookUpsFrom caches probes caches
LookUps Spill probes caches = LookUpsFrom caches probes caches
LookUps (Committed unit) probes caches = LookUpsFrom caches probes caches
LookUps Memory probes caches = LookUpsFrom caches probes caches
