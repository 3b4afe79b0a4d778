-- A cache's line has V.
use Rattle.std.proofs.Common.{◌≡◌, sym, subst, ap, ◌∙◌, refl, ℕ, zero, suc, Bool, true, false, ◌&&◌, Option, Some, None, List, [], ◌∷◌, map, option_map}
use Rattle.std.specs.Prelude.{⊤, if◌then◌else◌}
use Rattle.std.specs.Bool.{◌==◌}
use Rattle.svc_line.specs.Line.{SeenLine, seen_line}
use Rattle.svc_line.specs.declared.line.Line.{Line}
use Rattle.svc_cache.specs.declared.place.CachePlace.{CachePlace}
use Rattle.svc_cache.specs.Places.{CacheValue, is_held, line_among, line_of}
use Rattle.svc_vol.specs.Lines.{AreValid, lines_at, lines_in}

-- a line has V
abbrev pub HasV : Option SeenLine → Type 0
HasV None = ⊤
HasV (Some l) = l.bits.valid ≡ true

found_valid : (places : List CachePlace) (word : ℕ) → HasV (line_among places word)
unfolding line_among
found_valid [] word = tt
found_valid (place ∷ places) word = go (is_held place) (place.word.0 == word) (λ held. held) (found_valid places word)
  where
    go : (held here : Bool) → (held ≡ true → (seen_line place.line).bits.valid ≡ true) → HasV (line_among places word) → HasV (if held && here then Some (seen_line place.line) else line_among places word)
    go true true valid rest = valid refl
    go true false valid rest = rest
    go false here valid rest = rest

pub line_valid : (cache : CacheValue) (word : ℕ) → HasV (line_of cache word)
unfolding line_of
line_valid cache word = found_valid _ word

-- so have the lines of a word in all caches
pub lines_valid : (caches : List CacheValue) (word : ℕ) → AreValid (lines_in caches word)
lines_valid caches word = record { valid = λ u l is. has (lines_in caches word u) l (each caches u) is }
  where
    each : (cs : List CacheValue) (u : ℕ) → HasV (lines_in cs word u)
    each [] u = tt
    each (c ∷ cs) zero = line_valid c word
    each (c ∷ cs) (suc u) = each cs u

    has : (line : Option SeenLine) (l : SeenLine) → HasV line → line ≡ Some l → l.bits.valid ≡ true
    has None l valid is = cc
    has (Some m) l valid is = ap (λ (x : SeenLine). x.bits.valid) (same is) ∙ valid
      where
        same : ◌≡◌ {A = Option SeenLine} (Some m) (Some l) → l ≡ m
        same e = cc

pub found_lines : (caches : List CacheValue) (word : ℕ) (items : List (Option Line)) → map (option_map seen_line) items ≡ map (λ (cache : CacheValue). line_of cache word) caches → AreValid (lines_at (map (option_map seen_line) items))
found_lines caches word items same = subst (λ (xs : List (Option SeenLine)). AreValid (lines_at xs)) (sym same) (lines_valid caches word)
