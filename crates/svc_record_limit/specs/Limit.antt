-- How far a text is read: no record is read past this many bytes.
use Rattle.std.specs.Prelude.{ℕ, List, [], ◌∷◌, ◌+◌, Bool, true, false, nat_lt, if◌then◌else◌}
use Rattle.csv.specs.Machine.{step}
use Rattle.csv.specs.Reading.{default_config, strip_bom}
use Rattle.csv.specs.declared.parser.State.{State}
use Rattle.csv.specs.declared.parser.State.TheVariants as st

-- the most bytes of a record that are read, not counting its line end
abbrev pub most_bytes : ℕ
most_bytes = 4096

-- no record has begun since the last one ended
abbrev pub is_between : State → Bool
is_between st.StartRecord = true
is_between st.AfterCr = true
is_between _ = false

-- what is read of a text from here on, if the record at hand has had this many bytes: all of it, or what comes before
-- the first byte too many of a record
unfoldable pub readable_from : State → ℕ → List ℕ → List ℕ
readable_from s size [] = []
readable_from s size (b ∷ rest) =
    if is_between (step default_config s b).0 then b ∷ readable_from (step default_config s b).0 0 rest
    else if nat_lt size most_bytes then b ∷ readable_from (step default_config s b).0 (size + 1) rest
    else []

-- what is read of a text, after its byte order mark
abbrev pub readable : List ℕ → List ℕ
readable text = readable_from st.StartRecord 0 (strip_bom text)
