-- The counts of a history with one more entry.
use Rattle.std.specs.Prelude.{ℕ, ◌+◌, ◌<◌, ◌^◌, Option, Bool, cond}
use Rattle.svc_history_laws.specs.declared.entry.Kind.{Kind}
use Rattle.svc_history_laws.specs.declared.entry.Kind.TheVariants as kind
use Rattle.svc_history_laws.specs.declared.entry.ServedKind.{ServedKind}
use Rattle.svc_history_laws.specs.declared.entry.ServedKind.TheVariants as served
use Rattle.svc_history_laws.specs.declared.entry.CutKind.{CutKind}
use Rattle.svc_history_laws.specs.declared.entry.CutKind.TheVariants as cause
use Rattle.svc_history_laws.specs.declared.entry.Entry.{Entry}
use Rattle.svc_report.specs.declared.counts.Counts.{Counts}
use Rattle.svc_report.specs.Summary.{is_kind, is_supplier, is_cause}

-- one if it holds, otherwise none
abbrev pub one_where : Bool → ℕ
one_where b = cond b 1 0

-- one more entry of the kind
abbrev pub with_kind : Counts → Kind → Counts
with_kind c k = record {
  assign = c.assign + one_where (is_kind kind.Assign k);
  submit = c.submit + one_where (is_kind kind.Submit k);
  replace = c.replace + one_where (is_kind kind.Replace k);
  cancel = c.cancel + one_where (is_kind kind.Cancel k);
  commit = c.commit + one_where (is_kind kind.Commit k);
  hit = c.hit;
  reuse = c.reuse;
  version = c.version;
  spill = c.spill;
  committed = c.committed;
  memory = c.memory;
  violation = c.violation;
  guess = c.guess;
  cancelled = c.cancelled;
}

-- one more entry that the supplier served, if there is one
abbrev pub with_supplier : Counts → Option ServedKind → Counts
with_supplier c s = record {
  assign = c.assign;
  submit = c.submit;
  replace = c.replace;
  cancel = c.cancel;
  commit = c.commit;
  hit = c.hit + one_where (is_supplier served.Hit s);
  reuse = c.reuse + one_where (is_supplier served.Reuse s);
  version = c.version + one_where (is_supplier served.Version s);
  spill = c.spill + one_where (is_supplier served.Spill s);
  committed = c.committed + one_where (is_supplier served.Committed s);
  memory = c.memory + one_where (is_supplier served.Memory s);
  violation = c.violation;
  guess = c.guess;
  cancelled = c.cancelled;
}

-- one more entry with the cause of a cut, if there is one
abbrev pub with_cause : Counts → Option CutKind → Counts
with_cause c k = record {
  assign = c.assign;
  submit = c.submit;
  replace = c.replace;
  cancel = c.cancel;
  commit = c.commit;
  hit = c.hit;
  reuse = c.reuse;
  version = c.version;
  spill = c.spill;
  committed = c.committed;
  memory = c.memory;
  violation = c.violation + one_where (is_cause cause.Violation k);
  guess = c.guess + one_where (is_cause cause.Guess k);
  cancelled = c.cancelled + one_where (is_cause cause.Cancel k);
}

-- one more entry
abbrev pub with_entry : Counts → Entry → Counts
with_entry c e = with_cause (with_supplier (with_kind c e.kind) e.served) e.cause

-- the word of each count of a kind has room for one more
pub record HaveRoomForKind (c : Counts) : Type 0 where
  pub assign : c.assign + 1 < 2 ^ 64
  pub submit : c.submit + 1 < 2 ^ 64
  pub replace : c.replace + 1 < 2 ^ 64
  pub cancel : c.cancel + 1 < 2 ^ 64
  pub commit : c.commit + 1 < 2 ^ 64

-- the word of each count of a supplier has room for one more
pub record HaveRoomForSupplier (c : Counts) : Type 0 where
  pub hit : c.hit + 1 < 2 ^ 64
  pub reuse : c.reuse + 1 < 2 ^ 64
  pub version : c.version + 1 < 2 ^ 64
  pub spill : c.spill + 1 < 2 ^ 64
  pub committed : c.committed + 1 < 2 ^ 64
  pub memory : c.memory + 1 < 2 ^ 64

-- the word of each count of a cause has room for one more
pub record HaveRoomForCause (c : Counts) : Type 0 where
  pub violation : c.violation + 1 < 2 ^ 64
  pub guess : c.guess + 1 < 2 ^ 64
  pub cancelled : c.cancelled + 1 < 2 ^ 64
