-- A unit's cache names the same word, where its set is full, as the state that callers see.
use Rattle.std.proofs.Common.{◌≡◌, ◌∙◌, refl, sym, ap, ap₂, subst, ℕ, zero, suc, ◌+◌, ◌%◌, ◌<◌, Bool, cond, ◌&&◌, leb, Option, Some, None, is_some, is_none, List, length}
use Rattle.std.specs.Bool.{◌==◌, then_some}
use Rattle.std.specs.Option.{option_or}
use Rattle.svc_line.specs.Line.{SeenLine}
use Rattle.svc_cache.specs.Search as cache
use Rattle.svc_cache.specs.Lines as cache_lines
use Rattle.svc_cache.specs.Lines.{EndsBelow}
use Rattle.svc_cache.specs.Places.{CacheValue, line_of}
use Rattle.svc_bus_laws.specs.Search.{least, how_many}
use Rattle.svc_bus_laws.specs.BusLine.{is_committed_line}
use Rattle.svc_bus_laws.specs.Refusals.{CacheState, bus_cache, is_in_set, is_committed_in_set, set_full}
use Rattle.svc_retire.specs.Caches.{cache_at}
use Rattle.svc_vol.proofs.Validity.{HasV, line_valid}
use Rattle.svc_vcl.specs.Described.{bus_line_of}
use Rattle.svc_bus.specs.Lines.{line_in}
use Rattle.svc_bus.specs.Marks.{EndBelow}
use Rattle.svc_bus.specs.Value.{BusValue, IsSoundBus, state_in}
use Rattle.svc_bus.proofs.Knowing.{line_past}
use Rattle.svc_bus.proofs.Shown.{some_shown}

-- the two searches are one
least_is : (n : ℕ) (p q : ℕ → Bool) → ((k : ℕ) → p k ≡ q k) → cache.least n p ≡ least n q
unfolding cache.least
least_is zero p q same = refl
least_is (suc n) p q same = ap₂ option_or (least_is n p q same) (ap (λ x. then_some x n) (same n))

how_many_is : (n : ℕ) (p q : ℕ → Bool) → ((k : ℕ) → p k ≡ q k) → cache.how_many n p ≡ how_many n q
unfolding cache.how_many
how_many_is zero p q same = refl
how_many_is (suc n) p q same = ap₂ (λ x y. x + cond y 1 0) (how_many_is n p q same) (same n)

-- a cache's line is there where callers see one
some_is : (line : Option SeenLine) → HasV line → is_some line ≡ is_some (bus_line_of line)
some_is None valid = refl
some_is (Some l) valid = sym (ap is_some (some_shown l valid))

none_is : (line : Option SeenLine) → HasV line → is_none line ≡ is_none (bus_line_of line)
none_is None valid = refl
none_is (Some l) valid = sym (ap is_none (some_shown l valid))

-- and is committed where they see it so
committed_is : (line : Option SeenLine) → HasV line → cache_lines.is_committed_line line ≡ is_committed_line (bus_line_of line)
committed_is None valid = refl
committed_is (Some l) valid = ap (λ v. v && l.bits.commit) valid ∙ sym (ap is_committed_line (some_shown l valid))

-- one unit's cache, as callers see it
abbrev pub seen_cache : ℕ → CacheValue → CacheState
seen_cache words c = record { sets = c.sets; ways = c.ways; words = words; lines = λ a. bus_line_of (line_of c a) }

module _ (words : ℕ) (c : CacheValue) (word : ℕ) where
  in_set_is : (w : ℕ) → cache_lines.is_in_set c.sets (line_of c) word w ≡ is_in_set (seen_cache words c) word w
  in_set_is w = ap (λ x. (w % c.sets == word % c.sets) && x) (some_is (line_of c w) (line_valid c w))

  committed_in_set_is : (w : ℕ) → cache_lines.is_committed_in_set c.sets (line_of c) word w ≡ is_committed_in_set (seen_cache words c) word w
  committed_in_set_is w = ap₂ (λ x y. x && y) (in_set_is w) (committed_is (line_of c w) (line_valid c w))

  full_is : cache_lines.is_set_full c.sets c.ways words (line_of c) word ≡ (is_none (bus_line_of (line_of c word)) && leb c.ways (how_many words (is_in_set (seen_cache words c) word)))
  full_is = ap₂ (λ x y. x && leb c.ways y) (none_is (line_of c word) (line_valid c word)) (how_many_is words _ _ in_set_is)

  -- the word that the cache names is the one that callers may know
  pub full_address_is : cache_lines.full_address c.sets c.ways words (line_of c) word ≡ set_full (seen_cache words c) word
  full_address_is = λ i. cond (full_is i) (option_or (least_is words _ _ committed_in_set_is i) (least_is words _ _ in_set_is i)) None

-- the caches of a bus
module _ (b : BusValue) (u : ℕ) (sound : IsSoundBus b) (known : u < length b.caches) where
  -- no line lies past the memory
  pub lines_end : EndsBelow (line_of (cache_at b.caches u)) (length b.backing)
  lines_end = record { ends = λ a past. line_past b sound u a past }

  cache_is : seen_cache (length b.backing) (cache_at b.caches u) ≡ bus_cache (state_in b) u
  cache_is = λ i. record { sets = sound.one_size u known i; ways = sound.one_width u known i; words = length b.backing; lines = λ a. line_in b.caches u a }

  -- what a unit's cache answers of a full set
  pub full_shown : (word : ℕ) → cache_lines.full_address (cache_at b.caches u).sets (cache_at b.caches u).ways (length b.backing) (line_of (cache_at b.caches u)) word ≡ set_full (bus_cache (state_in b) u) word
  full_shown word = full_address_is (length b.backing) (cache_at b.caches u) word ∙ ap (λ c. set_full c word) cache_is

  -- so whatever a cache answers for every bound is right
  pub full_answer : (c : CacheValue) (word : ℕ) (answer : Option ℕ) → cache_at b.caches u ≡ c
      → ((bound : ℕ) → EndsBelow (line_of c) bound → answer ≡ cache_lines.full_address c.sets c.ways bound (line_of c) word)
      → answer ≡ set_full (bus_cache (state_in b) u) word
  full_answer c word answer is says =
      let own = subst (λ (x : CacheValue). (bound : ℕ) → EndsBelow (line_of x) bound → answer ≡ cache_lines.full_address x.sets x.ways bound (line_of x) word) (sym is) says in
      own (length b.backing) lines_end ∙ full_shown word

-- no line of caches that are the bus's lies past its memory
pub all_end : (b : BusValue) → IsSoundBus b → (cs : List CacheValue) → cs ≡ b.caches → (memory : List ℕ) → memory ≡ b.backing → EndBelow cs (length memory)
all_end b sound cs same memory also = subst (λ (xs : List CacheValue). EndBelow xs (length memory)) (sym same) (subst (λ (ws : List ℕ). EndBelow b.caches (length ws)) (sym also) (record { ends = line_past b sound }))
