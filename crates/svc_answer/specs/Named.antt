-- Rows with the names of a table, if one is named.
use Rattle.std.specs.Prelude.{⊤, ℕ, List, Option, None, Some, IfSome}
use denote.Ref.{Bor}
use Rattle.std.specs.Option.{option_copied}
use Rattle.svc_names.specs.declared.name.Name.{Name}
use Rattle.svc_names.specs.declared.names.Names.{Names}
use Rattle.svc_names.specs.declared.rows.Rows.{Rows}
use Rattle.svc_names.specs.Given.{told_with}
use Rattle.svc_names.specs.Table.{IsTable, table_records}
use Rattle.svc_report.specs.Records.{IsText}
use Rattle.svc_request.specs.Held.{Held}

-- the names are those of the named table, if one is named, and if what it holds is known
abbrev pub AreNamesIn : Held → Option (Bor (List ℕ)) → Option Names → Type 0
AreNamesIn held None None = ⊤
AreNamesIn held None (Some names) = ⊥
AreNamesIn held (Some name) None = ⊥
AreNamesIn held (Some name) (Some names) =
    IsTable names.list.items × IfSome (held name.now) (λ text. IsText text (table_records names.list.items))

-- names, those of the named table if one is named, for which something holds
abbrev pub IsNamedIn : Held → Option (Bor (List ℕ)) → (Option (Bor Names) → Type 0) → Type 0
IsNamedIn held asked Holds = (names : Option (Bor Names)) × AreNamesIn held asked (option_copied names) × Holds names

-- a text of rows with names, if any are given; a text that has no rows is told as it is
abbrev pub named_text : Option (List Name) → Option Rows → List ℕ → List ℕ
named_text names None text = text
named_text names (Some rows) text = told_with names rows text
