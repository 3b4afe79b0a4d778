-- An opened bus.
use Rattle.std.proofs.Common.{◌≡◌, refl, sym, ℕ, ◌≤◌, Some, None, Option, List, [], get_or, arith, true≢false}
use Rattle.svc_bus_laws.specs.LineTable.{Line, LineTable, opening_table, versioned_map}
use Rattle.svc_bus_laws.specs.Sound.{IsSound}
use Rattle.svc_bus_laws.proofs.Maps.{map_same}
use Rattle.svc_bus_laws.proofs.Tables.{none_line, committed_none}

pub opened_sound : (caches sets ways : ℕ) (memory : List ℕ) → IsSound (opening_table caches sets ways memory)
opened_sound caches sets ways memory = record {
  distinct_units = λ p q h k e. absurd (omega (arith, h));
  known_units = λ p h. absurd (omega (arith, h));
  sound_lines = λ u a l e. none_line l e;
  distinct_versions = λ u v a k l e f c d n. none_line k e;
  sound_spills = λ a some. absurd (true≢false (sym some));
}

pub opened_law : (caches sets ways : ℕ) (memory : List ℕ) → IsSound (opening_table caches sets ways memory)
    × (versioned_map (opening_table caches sets ways memory) ≡ record { commits = 0; committed = λ a. get_or memory a 0; rows = [] })
opened_law caches sets ways memory = (
  opened_sound caches sets ways memory,
  map_same (versioned_map (opening_table caches sets ways memory)) (record { commits = 0; committed = λ a. get_or memory a 0; rows = [] }) (record {
    commits = refl;
    committed = λ a. committed_none (opening_table caches sets ways memory) a (λ u. refl);
    count = refl;
    versions = λ p h a. absurd (omega (arith, h));
    exposed = λ p h a. absurd (omega (arith, h));
  }),
)

-- no line lies past the memory
pub in_memory : (t : LineTable) (u a : ℕ) → IsSound t → t.words ≤ a → t.lines u a ≡ None
in_memory t u a sound past = go (t.lines u a) refl
  where
    go : (line : Option Line) → t.lines u a ≡ line → t.lines u a ≡ None
    go None e = e
    go (Some l) e = absurd (omega (arith, past, (sound.sound_lines u a l e).in_memory))
