-- What a request of a unit for a word rests on.
use Rattle.std.specs.Prelude.{ℕ, ◌<◌, List, length}
use Rattle.svc_cache.specs.Places.{CacheValue}
use Rattle.svc_vol.specs.Value.{ListValue}
use Rattle.svc_retire.specs.Purges.{CanPurge}

-- the unit has one of the caches, and the word can be purged with this list of its lines
pub record IsBusRequest (caches : List CacheValue) (memory : List ℕ) (list : ListValue) (unit word : ℕ) : Type 0 where
  pub known : unit < length caches
  pub purge : CanPurge caches memory list word
