-- The tables of meetings: a row for each two tasks that meet over a word.
use Rattle.std.specs.Prelude.{ℕ, ◌+◌, List, [], ◌∷◌, ◌++◌, codes, decimal, flat_map, unwrap_or}
use Rattle.std.specs.BTreeMap.{is_at}
use Rattle.std.specs.Map.{lookup}
use Rattle.std.specs.Ordering.{match_ordering, nat_cmp, ordering_then}
use Rattle.std.specs.declared.cmp.Ordering.{Ordering}
use Rattle.svc_history_laws.specs.declared.entry.Entry.{Entry}
use Rattle.svc_text.specs.Rows.{row}
use Rattle.svc_profile.specs.declared.meetings.Meeting.{Meeting}
use Rattle.svc_profile.specs.declared.meetings.Meets.{Meets}
use Rattle.svc_profile.specs.declared.meetings.Meets.TheVariants as meets
use Rattle.svc_profile.specs.declared.met.Met.{Met}
use Rattle.svc_profile.specs.Meetings.{meetings_of}

-- by the earlier task, the later one, and the word
abbrev pub by_between : (ℕ × ℕ) × ℕ → (ℕ × ℕ) × ℕ → Ordering
by_between a b = ordering_then (ordering_then (nat_cmp a.0.0 b.0.0) (nat_cmp a.0.1 b.0.1)) (nat_cmp a.1 b.1)

-- ---- what the meetings of a row come to

abbrev pub never_met : Met
never_met = record { times = 0; turns = 0 }

-- with one more
abbrev pub met_again : Met → Meeting → Met
met_again k m = record { times = k.times + 1; turns = k.turns + m.turns }

-- in its row; a new one goes to its place in their order
abbrev pub with_meeting : Meeting → List (((ℕ × ℕ) × ℕ) × Met) → List (((ℕ × ℕ) × ℕ) × Met)
with_meeting m [] = (m.between, met_again never_met m) ∷ []
with_meeting m (r ∷ rs) =
    match_ordering (by_between m.between r.0)
    ((m.between, met_again never_met m) ∷ r ∷ rs)
    ((r.0, met_again r.1 m) ∷ rs)
    (r ∷ with_meeting m rs)

-- the rows with all of these
abbrev pub with_meetings : List (((ℕ × ℕ) × ℕ) × Met) → List Meeting → List (((ℕ × ℕ) × ℕ) × Met)
with_meetings rs [] = rs
with_meetings rs (m ∷ ms) = with_meetings (with_meeting m rs) ms

-- what rows have for a key
abbrev pub met_at : (ℕ × ℕ) × ℕ → List (((ℕ × ℕ) × ℕ) × Met) → Met
met_at k rs = unwrap_or (lookup (is_at (by_between k)) rs) never_met

-- the rows of a history
abbrev pub met_of : Meets → List Entry → List (((ℕ × ℕ) × ℕ) × Met)
met_of m es = with_meetings [] (meetings_of m es)

-- ---- the text

abbrev pub met_row : Meets → ((ℕ × ℕ) × ℕ) × Met → List ℕ
met_row meets.Squash r = row (decimal r.0.0.0) (r.0.0.1 ∷ r.0.1 ∷ r.1.times ∷ r.1.turns ∷ [])
met_row meets.Supply r = row (decimal r.0.0.0) (r.0.0.1 ∷ r.0.1 ∷ r.1.times ∷ [])

abbrev pub met_header : Meets → List ℕ
met_header meets.Squash = codes "storer,victim,word,squashes,turns-squashed\n"
met_header meets.Supply = codes "supplier,reader,word,reads\n"

abbrev pub met_table : Meets → List Entry → List ℕ
met_table m es = met_header m ++ flat_map (met_row m) (met_of m es)

-- the table of squashes, and that of versions that served reads
abbrev pub pair_table : List Entry → List ℕ
pair_table es = met_table meets.Squash es

abbrev pub supplier_table : List Entry → List ℕ
supplier_table es = met_table meets.Supply es
