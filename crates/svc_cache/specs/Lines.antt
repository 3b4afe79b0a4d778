-- A cache as its callers see it: a map from word address to line.
use Rattle.std.specs.Prelude.{◌≡◌, ℕ, ◌%◌, ◌≤◌, ◌==◌, nat_le, Bool, false, ◌&&◌, Option, Some, None, is_some, is_none}
use Rattle.std.specs.Prelude.{if◌then◌else◌}
use Rattle.std.specs.Option.{option_or}
use Rattle.svc_line.specs.Bits.{is_active, is_committed, after_commit}
use Rattle.svc_line.specs.Line.{SeenLine}
use Rattle.svc_cache.specs.Search.{least, how_many}

-- the line of each word, if any
abbrev pub LineMap : Type 0
LineMap = ℕ → Option SeenLine

-- no word has a line
abbrev pub no_lines : LineMap
no_lines word = None

-- the map with one word's line changed
abbrev pub with_line : LineMap → (word : ℕ) → Option SeenLine → LineMap
with_line lines word line other = if other == word then line else lines other

-- no word from the bound on has a line
pub record EndsBelow (lines : LineMap) (bound : ℕ) : Type 0 where
  pub ends : (word : ℕ) → bound ≤ word → lines word ≡ None

-- C is set on an active line
abbrev pub commit_line : Option SeenLine → Option SeenLine
commit_line None = None
commit_line (Some line) = Some (record line { bits = after_commit line.bits })

-- an active line becomes invalid
abbrev pub squash_line : Option SeenLine → Option SeenLine
squash_line None = None
squash_line (Some line) = if is_active line.bits then None else Some line

-- there is a line, and it is committed
abbrev pub is_committed_line : Option SeenLine → Bool
is_committed_line None = false
is_committed_line (Some line) = is_committed line.bits

-- the other word has a line, in the set of the first
abbrev pub is_in_set : (sets : ℕ) → LineMap → (word other : ℕ) → Bool
is_in_set sets lines word other = (other % sets == word % sets) && is_some (lines other)

-- that line is committed
abbrev pub is_committed_in_set : (sets : ℕ) → LineMap → (word other : ℕ) → Bool
is_committed_in_set sets lines word other = is_in_set sets lines word other && is_committed_line (lines other)

-- the word has no line, and as many words of its set, below the bound, have lines as there are ways
abbrev pub is_set_full : (sets ways bound : ℕ) → LineMap → ℕ → Bool
is_set_full sets ways bound lines word =
    is_none (lines word) && nat_le ways (how_many bound (is_in_set sets lines word))

-- the lowest word of the set whose line is committed; if no line of the set is, the lowest with a line
abbrev pub first_to_leave : (sets bound : ℕ) → LineMap → ℕ → Option ℕ
first_to_leave sets bound lines word =
    option_or (least bound (is_committed_in_set sets lines word)) (least bound (is_in_set sets lines word))

-- the word to replace before the given one can have a line, if its set is full
abbrev pub full_address : (sets ways bound : ℕ) → LineMap → ℕ → Option ℕ
full_address sets ways bound lines word =
    if is_set_full sets ways bound lines word then first_to_leave sets bound lines word else None
