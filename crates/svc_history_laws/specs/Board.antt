-- The numbers that a board shows of a history.
use Rattle.std.specs.Prelude.{ℕ, ◌+◌, ◌≤◌, List, [], ◌∷◌, unwrap_or}
use Rattle.svc_history_laws.specs.declared.entry.Kind.{Kind}
use Rattle.svc_history_laws.specs.declared.entry.Kind.TheVariants.{Assign, Submit, Replace, Cancel, Commit}
use Rattle.svc_history_laws.specs.declared.entry.Entry.{Entry}

-- how many events were accepted, and how many tasks were assigned, committed and squashed
pub record Tally : Type 0 where
  pub events : ℕ
  pub assigned : ℕ
  pub committed : ℕ
  pub squashed : ℕ

abbrev pub no_events : Tally
no_events = record { events = 0; assigned = 0; committed = 0; squashed = 0 }

-- one if the entry is an assignment's; and one if it is a commit's
abbrev pub assigns : Kind → ℕ
assigns Assign = 1
assigns Submit = 0
assigns Replace = 0
assigns Cancel = 0
assigns Commit = 0

-- one if the entry is a commit's
abbrev pub commits : Kind → ℕ
commits Assign = 0
commits Submit = 0
commits Replace = 0
commits Cancel = 0
commits Commit = 1

-- one more entry
abbrev pub tally_with : Tally → Entry → Tally
tally_with t e = record {
  events = t.events + 1;
  assigned = t.assigned + assigns e.kind;
  committed = t.committed + commits e.kind;
  squashed = t.squashed + unwrap_or e.squashed 0;
}

-- the numbers after more entries
unfoldable pub counted_on : Tally → List Entry → Tally
counted_on t [] = t
counted_on t (e ∷ es) = counted_on (tally_with t e) es

-- the numbers of a history
abbrev pub board : List Entry → Tally
board es = counted_on no_events es

-- the order in which the four numbers always stand
pub record IsInOrder (t : Tally) : Type 0 where
  pub tasks : t.committed + t.squashed ≤ t.assigned
  pub events : t.assigned ≤ t.events
