-- Entries that name the word for which something is counted.
use Rattle.std.specs.Prelude.{◌≡◌, true}
use Rattle.std.specs.Option.{IsSome}
use Rattle.svc_history_laws.specs.declared.entry.CutKind.TheVariants as cause
use Rattle.svc_history_laws.specs.declared.entry.Entry.{Entry}
use Rattle.svc_history_laws.specs.declared.entry.ServedKind.TheVariants as served
use Rattle.svc_report.specs.Summary.{is_cause, is_supplier}
use Rattle.svc_task_runs.specs.Runs.{is_load, is_store}

-- an entry that loads, stores, was served by another task's version or squashes for a violation names a word
pub record NamesItsWord (e : Entry) : Type 0 where
  pub loads : is_load e.reply ≡ true → IsSome e.addr
  pub stores : is_store e.reply ≡ true → IsSome e.addr
  pub version : is_supplier served.Version e.served ≡ true → IsSome e.addr
  pub violation : is_cause cause.Violation e.cause ≡ true → IsSome e.addr
