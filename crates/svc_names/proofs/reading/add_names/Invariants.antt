use Rattle.std.proofs.Common.{◌≡◌, ◌+◌, ℕ, List, Option, length}
use Rattle.std.specs.Prelude.{option_map}
use Rattle.csv.specs.Reading.{source_of}
use Rattle.svc_record_limit.specs.Limit.{readable}
use Rattle.svc_record_limit.specs.Places.{known_through}
use Rattle.svc_report.specs.Records.{IsOpen}
use Rattle.svc_report.proofs.Tracks.{Tracks}
use Rattle.svc_names.specs.Table.{IsTable, table_records}
use Rattle.svc_names.proofs.reading.add_names.Given as goal

abbrev pub invariant-loop-number : goal.invariant-loop-number
invariant-loop-number g l = record {
  is_open : IsOpen l.reader;
  table : IsTable l.names.items;
  count : l.number ≡ length l.names.items + 2;
  tracks : (known : Option (List ℕ)) → source_of (known_through g.R.Read.remaining) l.fn.reader ≡ option_map readable known
      → Tracks (known_through g.R.Read.remaining) known l.reader (table_records l.names.items);
}
