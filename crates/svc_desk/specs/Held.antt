-- Files that stand one behind another in one list of bytes, and the words of a line.
use Rattle.std.specs.Prelude.{ℕ, List, [], ◌∷◌, Option, Some, None, take, drop, length, if◌then◌else◌, codes}
use Rattle.std.specs.Str.{bytes_eq}
use Rattle.std.specs.Str.Lines.{lines}
use Rattle.svc_desk.specs.declared.packed.FileSize.{FileSize}

-- the bytes of the first file of this name, where there is one: each file is its name and its bytes, as long as its
-- size says
abbrev pub held_by : (sizes : List FileSize) (contents name : List ℕ) → Option (List ℕ)
held_by [] contents name = None
held_by (size ∷ sizes) contents name =
    if bytes_eq (take size.name contents) name then Some (take size.bytes (drop size.name contents))
    else held_by sizes (drop size.bytes (drop size.name contents)) name

-- how long a file's name and its bytes are
abbrev pub size_of : (name bytes : List ℕ) → FileSize
size_of name bytes = record { name = length name; bytes = length bytes }

-- the first of two where there is one, or else the other
abbrev pub first_of : (one other : Option (List ℕ)) → Option (List ℕ)
first_of None other = other
first_of (Some bytes) other = Some bytes

-- the bytes of the file of this name where some files were saved over others
abbrev pub held_over : (saved_sizes : List FileSize) (saved : List ℕ) (sizes : List FileSize)
    (contents name : List ℕ) → Option (List ℕ)
held_over saved_sizes saved sizes contents name =
    first_of (held_by saved_sizes saved name) (held_by sizes contents name)

-- the words that a text asks with: the program's name, and the text's lines
abbrev pub words_in : List ℕ → List (List ℕ)
words_in line = codes "svcsim" ∷ lines line
