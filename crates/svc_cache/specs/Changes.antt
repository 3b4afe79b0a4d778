-- How a commit or a squash changes the places of a cache.
use Rattle.std.specs.Prelude.{◌≡◌, ℕ, ◌<◌, ◌≤◌, List, length}
use Rattle.svc_line.specs.Bits.{Bits, bits_of}
use Rattle.svc_cache.specs.declared.place.CachePlace.{CachePlace}
use Rattle.svc_cache.specs.Rows.{place_at}

-- a place keeps its word, its value and its link; its bits change
pub record HasChangedBits (change : Bits → Bits) (before after : CachePlace) : Type 0 where
  pub word : after.word ≡ before.word
  pub value : after.line.value ≡ before.line.value
  pub next : after.line.next ≡ before.line.next
  pub bits : bits_of after.line.bits ≡ change (bits_of before.line.bits)

-- the bits of the first n places have changed, and the other places are as they were
pub record IsChangedBelow (change : Bits → Bits) (count : ℕ) (before after : List CachePlace) : Type 0 where
  pub size : length after ≡ length before
  pub changed : (k : ℕ) → k < count → HasChangedBits change (place_at before k) (place_at after k)
  pub kept : (k : ℕ) → count ≤ k → place_at after k ≡ place_at before k
