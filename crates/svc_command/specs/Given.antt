-- What a request takes from the words of a line.
use Rattle.std.specs.Prelude.{◌≡◌, ⊤, ℕ, true, List, Option, None, Some, IfSome, codes, map}
use denote.Ref.{Bor}
use Rattle.svc_base.specs.declared.config.Config.{Config}
use Rattle.svc_export.specs.declared.export.Format.{Format}
use Rattle.svc_export.specs.declared.export.Format.TheVariants as format
use Rattle.svc_marks.specs.declared.view.Choice.{Choice}
use Rattle.svc_marks.specs.declared.view.View.{View}
use Rattle.svc_observations.specs.declared.sought.Sought.{Sought}
use Rattle.svc_observations.specs.Sought.{sought_text}
use Rattle.svc_report.specs.declared.table.TableRow.{TableRow}
use Rattle.svc_sheet.specs.declared.sheet.Style.{Style}
use Rattle.svc_sheet.specs.declared.sheet.Values.{Values}
use Rattle.svc_sheet.specs.declared.sheet.Values.TheVariants as values
use Rattle.svc_show.specs.declared.extras.Extras.{Extras}
use Rattle.svc_span.specs.declared.span.Span.{Span}
use Rattle.svc_request.specs.Names.{texts_of}
use Rattle.svc_request.specs.declared.request.Assembly.{Assembly}
use Rattle.svc_request.specs.declared.request.Depended.{Depended}
use Rattle.svc_request.specs.declared.request.Explored.{Explored}
use Rattle.svc_request.specs.declared.request.Exported.{Exported}
use Rattle.svc_request.specs.declared.request.NeedsTable.{NeedsTable}
use Rattle.svc_request.specs.declared.request.NeedsTable.TheVariants as needs
use Rattle.svc_request.specs.declared.request.Order.{Order}
use Rattle.svc_request.specs.declared.request.Order.TheVariants as order
use Rattle.svc_request.specs.declared.request.Picture.{Picture}
use Rattle.svc_request.specs.declared.request.Run.{Run}
use Rattle.svc_request.specs.declared.request.Schedule.{Schedule}
use Rattle.svc_request.specs.declared.request.Scripted.{Scripted}
use Rattle.svc_request.specs.declared.request.Shown.{Shown}
use Rattle.svc_request.specs.declared.request.Source.{Source}
use Rattle.svc_request.specs.declared.request.Source.TheVariants as source
use Rattle.svc_request.specs.declared.request.Compared.{Compared}
use Rattle.svc_request.specs.declared.request.Compared.TheVariants as compared
use Rattle.svc_request.specs.declared.request.Table.{Table}
use Rattle.svc_request.specs.declared.request.Table.TheVariants as table
use Rattle.svc_request.specs.declared.request.Traced.{Traced}
use Rattle.svc_request.specs.declared.request.Request.{Request}
use Rattle.svc_request.specs.declared.request.Request.TheVariants as request
use Rattle.svc_command.specs.Line.{AreInOrder, HasWord, IsGivenNumber, IsNumberOf, IsValueOf, ReadsSpan, option_word}

-- the image is the file of one of the words
abbrev pub GivesImage : List (List ℕ) → Source → Type 0
GivesImage words source.BuiltIn = ⊥
GivesImage words (source.File name) = HasWord name.now words

-- each number of the configuration is that of its option, or its default
pub record GivesConfig (words : List (List ℕ)) (config : Config) : Type 0 where
  pub units : IsNumberOf (codes "units") 4 config.units words
  pub sets : IsNumberOf (codes "sets") 16 config.sets words
  pub ways : IsNumberOf (codes "ways") 2 config.ways words
  pub events : IsNumberOf (codes "events") 100000 config.events words
  pub turns : IsNumberOf (codes "turns") 1000000 config.turns words

-- the order is the one that the line names, with its seed
abbrev pub GivesOrder : List (List ℕ) → Order → Type 0
GivesOrder words order.Rotate = IsValueOf (codes "schedule") (codes "rotate") words
GivesOrder words order.Oldest = IsValueOf (codes "schedule") (codes "oldest") words
GivesOrder words order.Youngest = IsValueOf (codes "schedule") (codes "youngest") words
GivesOrder words (order.Random seed) =
    IsValueOf (codes "schedule") (codes "random") words × IsNumberOf (codes "seed") 0 seed words

-- a schedule is that of its options
pub record GivesSchedule (words : List (List ℕ)) (schedule : Schedule) : Type 0 where
  pub order : GivesOrder words schedule.order
  pub burst : IsNumberOf (codes "burst") 63 schedule.burst words
  pub after : IfSome schedule.after (λ name. IsValueOf (codes "after") name.now words)

-- columns are ignored only if the line names them
abbrev pub GivesCompared : List (List ℕ) → Compared → Type 0
GivesCompared words compared.All = ⊤
GivesCompared words compared.ButSuppliers = IsValueOf (codes "ignore") (codes "served") words

-- the row of a table has the label that the line gives, and the names of the columns only if they are asked for
pub record GivesRow (words : List (List ℕ)) (row : TableRow) : Type 0 where
  pub label : IsValueOf (codes "row") row.label.now words
  pub header : row.header ≡ true → HasWord (option_word (codes "header")) words

-- the table is the one that the line names
abbrev pub GivesTable : List (List ℕ) → Table → Type 0
GivesTable words table.Tasks = IsValueOf (codes "by") (codes "task") words
GivesTable words table.Units = IsValueOf (codes "by") (codes "unit") words
GivesTable words table.Words = IsValueOf (codes "by") (codes "word") words
GivesTable words table.Pairs = IsValueOf (codes "by") (codes "pair") words
GivesTable words table.Suppliers = IsValueOf (codes "by") (codes "supplier") words
GivesTable words table.Instructions = IsValueOf (codes "by") (codes "pc") words
GivesTable words (table.Row row) = GivesRow words row

-- the table of needs is the one that the line names
abbrev pub GivesNeedsTable : List (List ℕ) → NeedsTable → Type 0
GivesNeedsTable words needs.Tasks = IsValueOf (codes "by") (codes "task") words
GivesNeedsTable words needs.Words = IsValueOf (codes "by") (codes "word") words
GivesNeedsTable words needs.Pairs = IsValueOf (codes "by") (codes "pair") words
GivesNeedsTable words needs.Graph = HasWord (option_word (codes "dot")) words

-- the table of names is the one that the line names
abbrev pub GivesNames : List (List ℕ) → Option (Bor (List ℕ)) → Type 0
GivesNames words names = IfSome names (λ name. IsValueOf (codes "names") name.now words)

-- the request for needs takes its image, its table, its number and its names from the line
pub record GivesDepended (words : List (List ℕ)) (depended : Depended) : Type 0 where
  pub image : GivesImage words depended.image
  pub most : IsNumberOf (codes "tasks") 1000000 depended.most words
  pub by : IfSome depended.by (GivesNeedsTable words)
  pub names : GivesNames words depended.names

-- a run takes its image, its configuration, its schedule, its trace and its row from the line
pub record GivesRun (words : List (List ℕ)) (run : Run) : Type 0 where
  pub image : GivesImage words run.image
  pub config_is : GivesConfig words run.config
  pub schedule : IfSome run.schedule (GivesSchedule words)
  pub trace : IfSome run.trace (λ name. IsValueOf (codes "trace") name.now words)
  pub row : IfSome run.row (GivesRow words)

-- a trace's request takes its image, its trace and its configuration from the line
pub record GivesTraced (words : List (List ℕ)) (traced : Traced) : Type 0 where
  pub image : GivesImage words traced.image
  pub config_is : GivesConfig words traced.config
  pub trace : HasWord traced.trace.now words

-- all schedules are those of the line's image and configuration, by bursts of its number of turns, as many standings as
-- it says
pub record GivesExplored (words : List (List ℕ)) (explored : Explored) : Type 0 where
  pub image : GivesImage words explored.image
  pub config_is : GivesConfig words explored.config
  pub burst : IsNumberOf (codes "burst") 63 explored.burst words
  pub states : IsNumberOf (codes "states") 1000000 explored.states words
  pub names : GivesNames words explored.names

-- the trace whose observations are told is the value of its option
pub record GivesObserved (words : List (List ℕ)) (traced : Traced) : Type 0 where
  pub image : GivesImage words traced.image
  pub config_is : GivesConfig words traced.config
  pub trace : IsValueOf (codes "of") traced.trace.now words

-- what is looked for is the value of its option
abbrev pub GivesSought : List (List ℕ) → Sought → Type 0
GivesSought words sought = IsValueOf (codes "find") (sought_text sought) words

-- the words are those that the option of this name gives
abbrev pub GivesSpan : List (List ℕ) → (name : List ℕ) → Span → Type 0
GivesSpan words name span = (text : List ℕ) × IsValueOf name text words × ReadsSpan text span

-- what is shown beside the rows of every show is asked for on the line
pub record GivesExtras (words : List (List ℕ)) (extras : Extras) : Type 0 where
  pub detail : extras.detail ≡ true → HasWord (option_word (codes "detail")) words
  pub moves : extras.moves ≡ true → HasWord (option_word (codes "moves")) words
  pub memory : IfSome extras.memory (GivesSpan words (codes "memory"))

-- so are the entries that are replayed, and the table of names
pub record GivesShown (words : List (List ℕ)) (shown : Shown) : Type 0 where
  pub at : IfSome shown.at (λ n. IsGivenNumber (codes "at") n words)
  pub extras : GivesExtras words shown.extras
  pub names : GivesNames words shown.names

-- a picture shows the units, tasks and words that its options give, or all
pub record GivesChoice (words : List (List ℕ)) (choice : Choice) : Type 0 where
  pub units : IfSome choice.units (GivesSpan words (codes "unit"))
  pub tasks : IfSome choice.tasks (GivesSpan words (codes "task"))
  pub words_are : IfSome choice.words (GivesSpan words (codes "word"))

-- of the entries from the one that the line gives on, or from the first, as many as it gives, or all
pub record GivesView (words : List (List ℕ)) (view : View) : Type 0 where
  pub from : IsNumberOf (codes "from") 0 view.from words
  pub count : IfSome view.count (λ n. IsGivenNumber (codes "count") n words)
  pub choice : GivesChoice words view.choice

-- values stand where there is room, unless the line says where
abbrev pub GivesValues : List (List ℕ) → Values → Type 0
GivesValues words values.WithRoom = ⊤
GivesValues words values.All = IsValueOf (codes "values") (codes "all") words
GivesValues words values.Nowhere = IsValueOf (codes "values") (codes "none") words

-- a picture is compact only if the line says so
pub record GivesStyle (words : List (List ℕ)) (style : Style) : Type 0 where
  pub values : GivesValues words style.values
  pub compact : style.is_compact ≡ true → HasWord (option_word (codes "compact")) words

-- a picture takes its file, what it shows, how, and its names from the line
pub record GivesPicture (words : List (List ℕ)) (picture : Picture) : Type 0 where
  pub file : HasWord picture.file.now words
  pub view : GivesView words picture.view
  pub style : GivesStyle words picture.style
  pub rows : picture.rows ≡ true → HasWord (option_word (codes "rows")) words
  pub names : GivesNames words picture.names

-- the viewer's format is the one that the line names
abbrev pub GivesFormat : List (List ℕ) → Format → Type 0
GivesFormat words format.Chrome = IsValueOf (codes "format") (codes "chrome") words
GivesFormat words format.Vcd = IsValueOf (codes "format") (codes "vcd") words

-- a trace for another viewer takes its file, its format and its words from the line
pub record GivesExported (words : List (List ℕ)) (exported : Exported) : Type 0 where
  pub file : HasWord exported.file.now words
  pub format : GivesFormat words exported.format
  pub words_are : IfSome exported.words (GivesSpan words (codes "words"))

-- the texts that are assembled are files of the line, in its order; so are their image and the table of their names
pub record GivesAssembly (words : List (List ℕ)) (assembly : Assembly) : Type 0 where
  pub texts_are : AreInOrder (map (λ text. text.now) (texts_of assembly)) words
  pub image : HasWord assembly.image.now words
  pub names : GivesNames words assembly.names

-- the trace is saved in the file that the line names
abbrev pub GivesTrace : List (List ℕ) → Option (Bor (List ℕ)) → Type 0
GivesTrace words trace = IfSome trace (λ name. IsValueOf (codes "trace") name.now words)

pub record GivesScripted (words : List (List ℕ)) (scripted : Scripted) : Type 0 where
  pub image : GivesImage words scripted.image
  pub config_is : GivesConfig words scripted.config
  pub events : HasWord scripted.events.now words
  pub trace : IfSome scripted.trace (λ name. IsValueOf (codes "trace") name.now words)

-- each file's name is one of the words or the value of its option, each number is what the value of its option reads as
-- or its default, and anything else asked for is named by the value of an option
abbrev pub Gives : List (List ℕ) → Request → Type 0
Gives words (request.Help text) = ⊤
Gives words request.Version = ⊤
Gives words (request.Run run) = GivesRun words run
Gives words (request.Sequential tasks) = GivesImage words tasks.image × IsGivenNumber (codes "tasks") tasks.most words
Gives words (request.Depend depended) = GivesDepended words depended
Gives words (request.Explore explored) = GivesExplored words explored
Gives words (request.Find explored sought trace) =
    GivesExplored words explored × GivesSought words sought × GivesTrace words trace
Gives words (request.Observe traced names) = GivesObserved words traced × GivesNames words names
Gives words (request.Script scripted) = GivesScripted words scripted
Gives words (request.Check traced compared script) =
    GivesTraced words traced × GivesCompared words compared
    × IfSome script (λ name. IsValueOf (codes "script") name.now words)
Gives words (request.Profile traced to by names) =
    GivesTraced words traced × IfSome to (λ n. IsGivenNumber (codes "to") n words) × IfSome by (GivesTable words)
    × GivesNames words names
Gives words (request.Show traced shown) = GivesTraced words traced × GivesShown words shown
Gives words (request.Draw traced picture) = GivesTraced words traced × GivesPicture words picture
Gives words (request.Export traced exported) = GivesTraced words traced × GivesExported words exported
Gives words (request.Assemble assembly) = GivesAssembly words assembly
Gives words (request.List image names) = GivesImage words image × GivesNames words names
