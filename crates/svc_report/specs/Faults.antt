-- Why a text was not written or read.
use Rattle.std.specs.Prelude.{ℕ, ◌≡◌}
use Rattle.svc_report.specs.declared.error.ReportError.{ReportError}
use Rattle.svc_report.specs.declared.error.ReportError.TheVariants as fault

-- the number by which a fault is reported
abbrev pub fault_number : ReportError → ℕ
fault_number fault.Memory = 1
fault_number fault.Write = 2
fault_number fault.Read = 3
fault_number (fault.Row row column) = 4

-- a writing fails for memory or for the writer
abbrev pub IsWriteFault : ReportError → Type 0
IsWriteFault fault.Memory = Unit {0}
IsWriteFault fault.Write = Unit {0}
IsWriteFault fault.Read = ⊥
IsWriteFault (fault.Row row column) = ⊥

-- the stream of a reading fails for memory or for the reader
abbrev pub IsStreamFault : ReportError → Type 0
IsStreamFault fault.Memory = Unit {0}
IsStreamFault fault.Write = ⊥
IsStreamFault fault.Read = Unit {0}
IsStreamFault (fault.Row row column) = ⊥

-- memory ran out
abbrev pub IsMemoryFault : ReportError → Type 0
IsMemoryFault e = e ≡ fault.Memory
