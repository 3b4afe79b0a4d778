-- What a draft holds, as a layout.
use Rattle.std.specs.HashMap.{get_by, get}
use Rattle.std.specs.Prelude.{nat_eq, map}
use Rattle.std.specs.Str.{bytes_eq}
use Rattle.svc_draft.specs.declared.draft.Draft.{Draft}
use Rattle.svc_draft.specs.declared.sources.SourceTables.{SourceTables}
use Rattle.svc_layout.specs.Sources.{Source, source_seen}
use Rattle.svc_layout.specs.Layouts.{Layout}

abbrev pub source_of : SourceTables → Source
source_of t = record {
  names = λ name. get_by (λ key. bytes_eq name key.now) t.names;
  bindings = λ name. get_by (λ key. bytes_eq name key.now) t.bindings;
  locals = t.locals.items;
  steps = t.steps;
}

abbrev pub layout_of : Draft → Layout
layout_of d = record {
  version = d.version;
  limit = d.limit;
  read_only = d.read_only;
  start = d.start;
  registers = d.registers;
  entries = map (λ m. m.place) d.entries.items;
  limits = map (λ m. m.limit) d.entries.items;
  text = d.text.items;
  rodata_bytes = d.rodata;
  data_bytes = d.data;
  bss_bytes = d.bss;
  data_step = d.data_step;
  bss_step = d.bss_step;
  section = d.section;
  next = d.next;
  number = d.number;
  source = source_seen d.known (map source_of d.sources.items) d.number (source_of d.source_read);
  found = map source_of d.found.items;
  known = d.known;
  data_from = d.data_from;
  bss_from = d.bss_from;
  sources = map source_of d.sources.items;
  places_known = d.places_known;
  lacks_names = d.lacks_names;
  lacks_places = d.lacks_places;
  passed = d.passed;
  distances = get nat_eq d.distances;
  has_distances = d.has_distances;
  distances_known = d.distances_known;
  turned = get nat_eq d.turned;
  turns_all = d.turns_all;
  grew = d.grew;
}
