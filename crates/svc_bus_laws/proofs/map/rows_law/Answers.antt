use Rattle.svc_bus_laws.proofs.ByRowsLaws.{view_by_rows, victim_by_rows, read_by_rows, write_by_rows, commit_by_rows}
use Rattle.svc_bus_laws.proofs.map.rows_law.Goals as goal

pub returns : goal.returns
returns c = record {
  view = view_by_rows;
  victim = victim_by_rows;
  read = read_by_rows;
  write = write_by_rows;
  commit = commit_by_rows;
}
