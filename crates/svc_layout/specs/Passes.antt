-- Layouts without lines: how a pass begins, by what the one before has found.
use Rattle.std.specs.Prelude.{None, ℕ, List, [], ◌∷◌, Bool, true, false, not, ◌||◌}
use Rattle.svc_layout.specs.Sources.{Source, no_source, source_seen}
use Rattle.svc_layout.specs.Layouts.{Distances, Branches, Layout}
use Rattle.svc_layout.specs.Places.{data_begin, bss_begin, place}
use Rattle.svc_layout.specs.declared.statement.Next.TheVariants as go
use Rattle.svc_layout.specs.declared.section.Section.TheVariants as section

abbrev pub no_distances : Distances
no_distances place = None

abbrev pub no_branches : Branches
no_branches left = None

abbrev pub zeros : List ℕ
zeros =
    0 ∷ 0 ∷ 0 ∷ 0 ∷ 0 ∷ 0 ∷ 0 ∷ 0 ∷ 0 ∷ 0 ∷ 0 ∷ 0 ∷ 0 ∷ 0 ∷ 0 ∷ 0 ∷
    0 ∷ 0 ∷ 0 ∷ 0 ∷ 0 ∷ 0 ∷ 0 ∷ 0 ∷ 0 ∷ 0 ∷ 0 ∷ 0 ∷ 0 ∷ 0 ∷ 0 ∷ []

-- the layout of a program without lines, in a pass behind one that found these texts; where all names are known,
-- distances are too
abbrev pub empty : List Source → Bool → (data_from bss_from : ℕ) → Layout
empty sources known data_from bss_from = record {
  version = None;
  limit = 65536;
  read_only = 0;
  start = None;
  registers = zeros;
  entries = [];
  limits = [];
  text = [];
  rodata_bytes = [];
  data_bytes = [];
  bss_bytes = [];
  data_step = 4;
  bss_step = 4;
  section = section.Text;
  next = go.Line;
  number = 0;
  source = source_seen known sources 0 no_source;
  found = [];
  known = known;
  data_from = data_from;
  bss_from = bss_from;
  sources = sources;
  places_known = known;
  lacks_names = false;
  lacks_places = false;
  passed = 0;
  distances = no_distances;
  has_distances = false;
  distances_known = known;
  turned = no_branches;
  turns_all = false;
  grew = false;
}

-- no lines yet, in the first pass of the first round, of the round behind one that ended so, and of one in which every
-- branch is turned
abbrev pub first_pass : Layout
first_pass = empty [] false 0 0

abbrev pub next_round : Layout → Layout
next_round d = record first_pass { turned = d.turned }

abbrev pub last_round : Layout
last_round = record first_pass { turns_all = true }

-- no lines yet, in a first pass once more, behind one that found these texts, and where they stand unless it lacked
-- the place of one
abbrev pub once_more : Layout → Layout
once_more d = record (empty d.found false 0 0) {
  places_known = not d.lacks_places;
  turned = d.turned;
  turns_all = d.turns_all;
}

-- no lines yet, in the second pass of a round, behind such a first one
abbrev pub second_pass : Layout → Layout
second_pass d = record (empty d.found true (data_begin d) (bss_begin d)) {
  data_step = d.data_step;
  bss_step = d.bss_step;
  turned = d.turned;
  turns_all = d.turns_all;
}

-- the same where a pass more comes first, which measures distances, and behind that one
abbrev pub measuring_pass : Layout → Layout
measuring_pass d = record (second_pass d) { distances_known = false }

abbrev pub laying_pass : Layout → Layout
laying_pass d = record (empty d.sources true d.data_from d.bss_from) {
  data_step = d.data_step;
  bss_step = d.bss_step;
  distances = d.distances;
  turned = d.turned;
  turns_all = d.turns_all;
}

-- a pass lacks something that one more may find
abbrev pub lacks : Layout → Bool
lacks d = d.lacks_names || d.lacks_places
