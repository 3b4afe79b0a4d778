-- The ranges of a configuration's numbers, and the first number out of its range. The bounds are literals, not the
-- code's constants, so that no constant can differ from them.
use Rattle.std.specs.Prelude.{ℕ, Bool, ◌&&◌, nat_le, Option, Some, None, if◌then◌else◌}
use Rattle.std.specs.Int.{is_power_of_two}
use Rattle.svc_base.specs.declared.config.ConfigError.{ConfigError}
use Rattle.svc_base.specs.declared.config.ConfigError.TheVariants as error

-- a number from 1 to the greatest one
abbrev pub is_within : (most n : ℕ) → Bool
is_within most n = nat_le 1 n && nat_le n most

-- a power of two from 1 to 256
abbrev pub is_set_count : ℕ → Bool
is_set_count n = is_power_of_two n && is_within 256 n

-- the first number that is out of its range, if any
unfoldable pub config_fault : (units sets ways events turns : ℕ) → Option ConfigError
config_fault units sets ways events turns =
    if is_within 16 units then
    (if is_set_count sets then
    (if is_within 4 ways then
    (if is_within 1000000 events then
    (if is_within 10000000 turns then None
    else Some error.Turns)
    else Some error.Events)
    else Some error.Ways)
    else Some error.Sets)
    else Some error.Units

-- the number of a configuration's error
abbrev pub error_number : ConfigError → ℕ
error_number error.Units = 1
error_number error.Sets = 2
error_number error.Ways = 3
error_number error.Events = 4
error_number error.Turns = 5
