-- What the program prints of a trace's cost.
use Rattle.std.specs.Prelude.{◌≡◌, ℕ, List, Option, Some, None}
use denote.Ref.{Bor}
use Rattle.std.specs.Io.KnownBytes.{Appends}
use Rattle.svc_base.specs.declared.config.Config.{Config}
use Rattle.svc_image.specs.Image.{Image}
use Rattle.svc_history_laws.specs.declared.entry.Entry.{Entry}
use Rattle.svc_instruction_profile.specs.Addresses.{addresses}
use Rattle.svc_instruction_profile.specs.Rows.{instruction_table}
use Rattle.svc_profile.specs.Met.{pair_table, supplier_table}
use Rattle.svc_profile.specs.Profile.{profile_of}
use Rattle.svc_profile.specs.ProfileRow.{profile_row}
use Rattle.svc_profile.specs.Tasks.{task_table}
use Rattle.svc_profile.specs.Units.{unit_table}
use Rattle.svc_profile.specs.Words.{word_table}
use Rattle.svc_names.specs.declared.names.Names.{Names}
use Rattle.svc_names.specs.declared.rows.Column.TheVariants as column
use Rattle.svc_names.specs.declared.rows.Rows.{Rows}
use Rattle.svc_names.specs.declared.rows.Rows.TheVariants as rows
use Rattle.svc_names.specs.Given.{listed}
use Rattle.svc_answer.specs.Named.{named_text}
use Rattle.svc_request.specs.declared.request.Table.{Table}
use Rattle.svc_request.specs.declared.request.Table.TheVariants as table
use Rattle.svc_answer.specs.Fronts.{IsSoundFront, front}

-- what is printed of a history: its profile, or a table of its tasks, of the configuration's units, of the words that
-- it touches, of its squashes, of the versions that served reads or of the instructions at which its entries ask, whose
-- addresses these are; or the profile as a row of a table
abbrev pub cost_text : Option Table → (asked : List (Option ℕ)) → Config → List Entry → List ℕ
cost_text None asked config es = profile_of es
cost_text (Some table.Tasks) asked config es = task_table es
cost_text (Some table.Units) asked config es = unit_table config.units es
cost_text (Some table.Words) asked config es = word_table es
cost_text (Some table.Pairs) asked config es = pair_table es
cost_text (Some table.Suppliers) asked config es = supplier_table es
cost_text (Some table.Instructions) asked config es = instruction_table asked es
cost_text (Some (table.Row row)) asked config es = profile_row row es

-- the rows of each, and where they have an address
abbrev pub cost_rows : Option Table → Option Rows
cost_rows None = Some rows.Counts
cost_rows (Some table.Tasks) = Some (rows.Table (Some (column.Text 2)))
cost_rows (Some table.Units) = Some (rows.Table None)
cost_rows (Some table.Words) = Some (rows.Table (Some (column.Word 0)))
cost_rows (Some table.Pairs) = Some (rows.Table (Some (column.Word 2)))
cost_rows (Some table.Suppliers) = Some (rows.Table (Some (column.Word 2)))
cost_rows (Some table.Instructions) = Some (rows.Table (Some (column.Text 0)))
cost_rows (Some (table.Row row)) = None

-- the entries that are asked for are a legal history, and what a writer holds has grown by what is printed of it, with
-- the names that are given
pub record TellsCost (to : Option ℕ) (by : Option Table) (names : Option (Bor Names)) (img : Image)
    (config : Config) (es : List Entry) (old new : Option (List ℕ)) (exit : ℕ) : Type 0 where
  pub sound : IsSoundFront to img config es
  pub text : Appends old new (named_text (listed names) (cost_rows by)
      (cost_text by (addresses img config (front to es)) config (front to es)))
  pub status : exit ≡ 0
