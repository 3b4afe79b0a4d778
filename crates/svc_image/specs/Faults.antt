-- The numbers of the faults of images.
use Rattle.std.specs.Prelude.{ℕ}
use Rattle.svc_image.specs.declared.error.ImageError.{ImageError}
use Rattle.svc_image.specs.declared.error.ImageError.TheVariants.{Short, Magic, Version, Count, EntryOrder, EntryPlace}
use Rattle.svc_image.specs.declared.error.ImageError.TheVariants.{Start, Trailing, Memory}

-- the fault's number, in the order of the checks, and 9 for memory
abbrev pub fault_number : ImageError → ℕ
fault_number Short = 1
fault_number Magic = 2
fault_number Version = 3
fault_number Count = 4
fault_number EntryOrder = 5
fault_number EntryPlace = 6
fault_number Start = 7
fault_number Trailing = 8
fault_number Memory = 9
