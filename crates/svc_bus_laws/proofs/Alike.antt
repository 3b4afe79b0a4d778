-- Steps of line tables that differ in numbers alone.
use Rattle.std.proofs.Common.{◌≡◌, ◌≢◌, sym, subst, ap, ◌∙◌, ℕ, ◌<◌, ◌≤◌, false, length, get_or}
use Rattle.svc_bus_laws.specs.LineTable.{LineTable, unit_at, versioned_map}
use Rattle.svc_bus_laws.specs.Steps.{read, write, replace, squash, commit, begin}
use Rattle.svc_bus_laws.specs.BusState.{AreAlike}
use Rattle.svc_bus_laws.specs.BusSteps.{bus_read, bus_write, bus_replace, bus_squash, bus_commit, bus_begin}
use Rattle.svc_bus_laws.specs.Refusals.{table_cache, is_pinned}
use Rattle.svc_bus_laws.proofs.RefusalProofs.{same_pinned}
use Rattle.svc_bus_laws.proofs.SeenLaws.{map_seen}
use Rattle.svc_bus_laws.proofs.AgreeSteps.{squash_agrees, commit_agrees, begin_agrees}
use Rattle.svc_bus_laws.proofs.AgreeWrites.{write_agrees}
use Rattle.svc_bus_laws.proofs.AgreeReads.{read_agrees, replace_agrees}

module _ (s t : LineTable) (alike : AreAlike s t) where
  same_units : t.units ≡ s.units
  same_units = sym alike.second.units ∙ alike.first.units

  same_words : t.words ≡ s.words
  same_words = sym alike.second.words ∙ alike.first.words

  same_caches : t.caches ≡ s.caches
  same_caches = sym alike.second.caches ∙ alike.first.caches

  pub alike_reads : (p a : ℕ) → p < length t.units → a < t.words → AreAlike (read s p a) (read t p a)
  alike_reads p a within known = record {
    bus = bus_read alike.bus p a;
    first = read_agrees alike.bus s p a alike.first (subst (λ us. p < length us) same_units within) (subst (λ n. a < n) same_words known);
    second = read_agrees alike.bus t p a alike.second within known;
  }

  pub alike_writes : (p a w : ℕ) → p < length t.units → a < t.words → AreAlike (write s p a w) (write t p a w)
  alike_writes p a w within known = record {
    bus = bus_write alike.bus p a w;
    first = write_agrees alike.bus s p a w alike.first (subst (λ us. p < length us) same_units within) (subst (λ n. a < n) same_words known);
    second = write_agrees alike.bus t p a w alike.second within known;
  }

  pub alike_replacements : (u a : ℕ) → is_pinned (table_cache t u) t.units u a ≡ false → AreAlike (replace s u a) (replace t u a)
  alike_replacements u a free = record {
    bus = bus_replace alike.bus u a;
    first = replace_agrees alike.bus s u a alike.first (sym (same_pinned alike.bus s u a alike.first) ∙ same_pinned alike.bus t u a alike.second ∙ free);
    second = replace_agrees alike.bus t u a alike.second free;
  }

  pub alike_squashes : (n : ℕ) → 0 < n → n ≤ length t.units → AreAlike (squash s n) (squash t n)
  alike_squashes n above room = record {
    bus = bus_squash alike.bus n;
    first = squash_agrees alike.bus s n alike.first above (subst (λ us. n ≤ length us) same_units room);
    second = squash_agrees alike.bus t n alike.second above room;
  }

  pub alike_commits : 0 < length t.units → AreAlike (commit s) (commit t)
  alike_commits has_head = record {
    bus = bus_commit alike.bus;
    first = commit_agrees alike.bus s alike.first (subst (λ us. 0 < length us) same_units has_head);
    second = commit_agrees alike.bus t alike.second has_head;
  }

  pub alike_beginnings : (u : ℕ) → u < t.caches → ((p : ℕ) → p < length t.units → unit_at t p ≢ u) → AreAlike (begin s u) (begin t u)
  alike_beginnings u known idle = record {
    bus = bus_begin alike.bus u;
    first = begin_agrees alike.bus s u alike.first (subst (λ n. u < n) same_caches known) (λ p h e. idle p (subst (λ us. p < length us) (sym same_units) h) (ap (λ us. get_or us p 0) same_units ∙ e));
    second = begin_agrees alike.bus t u alike.second known idle;
  }

  pub alike_maps : versioned_map s ≡ versioned_map t
  alike_maps = sym (map_seen alike.bus s alike.first) ∙ map_seen alike.bus t alike.second
