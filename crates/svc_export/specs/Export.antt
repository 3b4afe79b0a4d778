-- A history as viewers take it.
use Rattle.std.specs.Prelude.{ℕ, List}
use Rattle.svc_history_laws.specs.declared.entry.Entry.{Entry}
use Rattle.svc_export.specs.declared.export.Format.{Format}
use Rattle.svc_export.specs.declared.export.Format.TheVariants.{Chrome, Vcd}
use Rattle.svc_export.specs.Chrome.{chrome_of}
use Rattle.svc_export.specs.Vcd.{vcd_of}

-- of so many units; a dump has these words
abbrev pub export_of : Format → List Entry → (units : ℕ) → (words : List ℕ) → List ℕ
export_of Chrome es units words = chrome_of es units
export_of Vcd es units words = vcd_of es units words
