-- The numbers by which the program reports a run's errors.
use Rattle.std.specs.Prelude.{ℕ}
use Rattle.svc_threads.specs.declared.fault.RunError.{RunError}
use Rattle.svc_threads.specs.declared.fault.RunError.TheVariants.{Memory, NotStarted, ForeignImage, Torn}

abbrev pub error_number : RunError → ℕ
error_number Memory = 1
error_number NotStarted = 2
error_number ForeignImage = 3
error_number Torn = 4
