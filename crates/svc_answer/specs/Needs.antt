-- What the program prints of the needs of an image's first tasks.
use Rattle.std.specs.Prelude.{◌≡◌, ℕ, false, List, Option, Some, None}
use denote.Ref.{Bor}
use Rattle.std.specs.Io.KnownBytes.{Appends}
use Rattle.svc_image.specs.Image.{Image}
use Rattle.svc_core_laws.specs.declared.end.Ending.{Ending}
use Rattle.svc_plain.specs.Tasks.{tasks_run}
use Rattle.svc_depend_laws.specs.Over.{listed}
use Rattle.svc_depend.specs.declared.run.Needs.{Needs}
use Rattle.svc_depend.specs.declared.pairs.PairForm.TheVariants as pair
use Rattle.svc_depend.specs.Pairs.{pairs_text}
use Rattle.svc_depend.specs.Tables.{task_table, totals_text, word_table}
use Rattle.svc_depend.specs.Told.{AreWords, task_needs, totals}
use Rattle.svc_names.specs.declared.names.Names.{Names}
use Rattle.svc_names.specs.declared.rows.Column.TheVariants as column
use Rattle.svc_names.specs.declared.rows.Rows.{Rows}
use Rattle.svc_names.specs.declared.rows.Rows.TheVariants as rows
use Rattle.svc_names.specs.Given.{listed as names_given}
use Rattle.svc_answer.specs.Named.{named_text}
use Rattle.svc_request.specs.declared.request.NeedsTable.{NeedsTable}
use Rattle.svc_request.specs.declared.request.NeedsTable.TheVariants as table
use Rattle.svc_answer.specs.Runs.{ending_after, status_of}

-- a table of at most this many tasks, of the words that they need or write, or of what one needs of another, or its
-- graph, in which words stand by the names that are given
abbrev pub table_text : NeedsTable → Option (Bor Names) → Image → (most : ℕ) → List ℕ
table_text table.Tasks names img most = task_table (listed (task_needs img) (tasks_run img most))
table_text table.Words names img most = word_table img (tasks_run img most)
table_text table.Pairs names img most = pairs_text pair.Rows img (tasks_run img most)
table_text table.Graph names img most = pairs_text (pair.Graph names) img (tasks_run img most)

-- what is printed of at most this many tasks: such a table, or how many there were, how they ended, and what they need
-- together
abbrev pub needs_text : Option NeedsTable → Option (Bor Names) → Image → (most : ℕ) → List ℕ
needs_text None names img most =
    totals_text (tasks_run img most) (ending_after img most false) (totals img (tasks_run img most))
needs_text (Some by) names img most = table_text by names img most

-- the rows of each, and where they have an address; a graph has none
abbrev pub needs_rows : Option NeedsTable → Option Rows
needs_rows None = Some rows.Counts
needs_rows (Some table.Tasks) = Some (rows.Table (Some (column.Text 1)))
needs_rows (Some table.Words) = Some (rows.Table (Some (column.Word 0)))
needs_rows (Some table.Pairs) = Some (rows.Table None)
needs_rows (Some table.Graph) = None

-- what is printed with the names that are given
abbrev pub named_needs : Option NeedsTable → Option (Bor Names) → Image → (most : ℕ) → List ℕ
named_needs by names img most = named_text (names_given names) (needs_rows by) (needs_text by names img most)

-- what was found is what at most this many tasks need
pub record AreOf (img : Image) (most : ℕ) (needs : Needs) : Type 0 where
  pub tasks : needs.tasks.items ≡ listed (task_needs img) (tasks_run img most)
  pub totals_are : needs.totals ≡ totals img (tasks_run img most)
  pub words : AreWords img (tasks_run img most) needs.words.items
  pub ending : needs.ending ≡ ending_after img most false

-- what a writer holds has grown by what is told of them, and this is how they ended
pub record IsTold (by : Option NeedsTable) (names : Option (Bor Names)) (img : Image) (most : ℕ)
    (old new : Option (List ℕ)) (ending : Ending) : Type 0 where
  pub text : Appends old new (needs_text by names img most)
  pub ending_is : ending ≡ ending_after img most false

-- the same, with the names that are given at the ends of rows
pub record IsNamed (by : Option NeedsTable) (names : Option (Bor Names)) (img : Image) (most : ℕ)
    (old new : Option (List ℕ)) (ending : Ending) : Type 0 where
  pub text : Appends old new (named_needs by names img most)
  pub ending_is : ending ≡ ending_after img most false

-- what a writer holds has grown by what is told of them, with the names that are given, and the exit status is that of
-- their ending
pub record TellsNeeds (by : Option NeedsTable) (names : Option (Bor Names)) (img : Image) (most : ℕ)
    (old new : Option (List ℕ)) (exit : ℕ) : Type 0 where
  pub text : Appends old new (named_needs by names img most)
  pub status : exit ≡ status_of (ending_after img most false)
