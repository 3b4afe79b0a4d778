use Rattle.std.proofs.Common.{◌≡◌, ◌+◌, ℕ, List, Option, length, map}
use Rattle.std.specs.Prelude.{option_map}
use Rattle.csv.specs.Reading.{source_of}
use Rattle.svc_record_limit.specs.Limit.{readable}
use Rattle.std.specs.List.{AllByRecursion}
use Rattle.svc_report.specs.Records.{IsOpen}
use Rattle.svc_record_limit.specs.Places.{known_through}
use Rattle.svc_report.specs.Rows.{records_of}
use Rattle.svc_report.proofs.Tracks.{Tracks}
use Rattle.svc_report.proofs.reading.add_rows.Given as goal

abbrev pub invariant-loop-number : goal.invariant-loop-number
invariant-loop-number g l = record {
  is_open : IsOpen l.reader;
  in_range : AllByRecursion g.T.Row.has_row l.items.items;
  count : l.number ≡ length l.items.items + 2;
  tracks : (known : Option (List ℕ)) → source_of (known_through g.R.Read.remaining) l.fn.reader ≡ option_map readable known
      → Tracks (known_through g.R.Read.remaining) known l.reader (records_of (map (λ n. n.now) l.names) g.T.Row.columns l.items.items);
}
