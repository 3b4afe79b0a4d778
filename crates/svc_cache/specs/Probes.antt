-- The work that one look-up adds to a count.
use Rattle.std.specs.Prelude.{◌≡◌, ℕ, ◌+◌, ◌<◌, ◌≤◌, ◌^◌}
use Rattle.svc_cache.specs.declared.probes.Probes.{Probes}

-- there is room to count one more search of a set of this many ways
pub record HasRoom (probes : Probes) (ways : ℕ) : Type 0 where
  pub searches : probes.searches + 1 < 2 ^ 32
  pub places : probes.places + ways < 2 ^ 32

-- exactly one search was added, and no more places than the set has ways; the earlier count is kept
pub record CountsOneSearch (before after : Probes) (ways : ℕ) : Type 0 where
  pub searches : after.searches ≡ before.searches + 1
  pub places : after.places ≤ before.places + ways
  pub kept : before.places ≤ after.places
