-- Faults of the program.
use Rattle.std.specs.Prelude.{⊤, ℕ, List}
use Rattle.svc_base.specs.declared.config.Config.{Config}
use Rattle.svc_image.specs.Image.{Image}
use Rattle.svc_history_laws.specs.declared.entry.Entry.{Entry}
use Rattle.svc_history.specs.declared.trace.TraceFaultKind.{TraceFaultKind}
use Rattle.svc_history.specs.declared.trace.TraceFaultKind.TheVariants as kind
use Rattle.svc_history.specs.Faults.{IsFault}
use Rattle.svc_report.specs.declared.error.ReportError.{ReportError}
use Rattle.svc_report.specs.declared.error.ReportError.TheVariants as error
use Rattle.svc_request.specs.declared.faults.Fault.{Fault}
use Rattle.svc_request.specs.declared.faults.Fault.TheVariants as fault

-- the number of a fault of a trace
abbrev pub trace_fault_number : TraceFaultKind → ℕ
trace_fault_number kind.Memory = 1
trace_fault_number kind.Refused = 2
trace_fault_number kind.Differs = 3

-- how a fault of a text is reported: a bad record is taken as a trace's, since a script's is reported as such
abbrev pub told_as : ReportError → Fault
told_as error.Memory = fault.Report error.Memory
told_as error.Write = fault.Report error.Write
told_as error.Read = fault.Report error.Read
told_as (error.Row row column) = fault.BadTrace row column

-- a text couldn't be read or written
abbrev pub IsReportFault : Fault → Type 0
IsReportFault (fault.Report e) = ⊤
IsReportFault _ = ⊥

-- a text couldn't be read or written, or a line of the program's own couldn't be printed
abbrev pub IsOutputFault : Fault → Type 0
IsOutputFault (fault.Report e) = ⊤
IsOutputFault fault.Output = ⊤
IsOutputFault _ = ⊥

-- the machine couldn't be opened, or the unit threads gave no outcome
abbrev pub IsRunFault : Fault → Type 0
IsRunFault (fault.Open e) = ⊤
IsRunFault (fault.Run e) = ⊤
IsRunFault _ = ⊥

-- the fault is that of these entries
abbrev pub TellsOfTrace : Image → Config → List Entry → Fault → Type 0
TellsOfTrace img config es (fault.Trace f) = IsFault img config es f
TellsOfTrace img config es _ = ⊥

-- a fault of the image's file
abbrev pub IsEarly : Fault → Type 0
IsEarly (fault.Image e) = ⊤
IsEarly fault.File = ⊤
IsEarly _ = ⊥
