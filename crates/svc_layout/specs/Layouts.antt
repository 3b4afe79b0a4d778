-- What an image is made of so far.
use Rattle.std.specs.Prelude.{Option, ℕ, List, Bool}
use Rattle.svc_image.specs.declared.version.Version.{Version}
use Rattle.svc_layout.specs.declared.section.Section.{Section}
use Rattle.svc_layout.specs.declared.statement.Next.{Next}
use Rattle.svc_layout.specs.Sources.{Source}

-- how far it is from an instruction at a place to the value whose high part it has
abbrev pub Distances : Type 0
Distances = ℕ → Option ℕ

-- the branches that are turned: each is the opposite branch over a jump, and is known by how many bytes of the text are
-- left from its target on
abbrev pub Branches : Type 0
Branches = ℕ → Option (Unit {0})

-- what the lines read so far make, and what a pass knows of the program and finds in it
pub record Layout : Type 0 where
  -- the version and the start, where a line says them; the limit of the entries that have none of their own; how many
  -- of the first data words are read-only
  pub version : Option Version
  pub limit : ℕ
  pub read_only : ℕ
  pub start : Option ℕ
  pub registers : List ℕ
  -- the entries, and the limit that each has of its own
  pub entries : List ℕ
  pub limits : List (Option ℕ)
  -- the words of the text, the bytes of each section of data, and of which steps .data and .bss begin at a multiple
  pub text : List ℕ
  pub rodata_bytes : List ℕ
  pub data_bytes : List ℕ
  pub bss_bytes : List ℕ
  pub data_step : ℕ
  pub bss_step : ℕ
  -- the section of what follows, and what is read next
  pub section : Section
  pub next : Next
  -- the text of the program that is read, by its number and with its names, and those that this pass has read
  pub number : ℕ
  pub source : Source
  pub found : List Source
  -- whether all names of the program are known, as they are in the second pass, and how far behind the data's beginning
  -- .data and .bss begin then
  pub known : Bool
  pub data_from : ℕ
  pub bss_from : ℕ
  -- the texts as the pass before found them, and whether it found their places
  pub sources : List Source
  pub places_known : Bool
  -- whether a name is set, or a text begins, where this pass doesn't know yet
  pub lacks_names : Bool
  pub lacks_places : Bool
  -- how many local labels of its text the second pass has passed
  pub passed : ℕ
  -- the distances of the instructions with %pcrel_hi, whether there are any, and whether all are measured
  pub distances : Distances
  pub has_distances : Bool
  pub distances_known : Bool
  -- the branches that are turned, whether all are, and whether this pass found more
  pub turned : Branches
  pub turns_all : Bool
  pub grew : Bool
