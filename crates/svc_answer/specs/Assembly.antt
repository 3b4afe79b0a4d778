-- What it means to assemble files, and to list an image.
use Rattle.std.specs.Prelude.{◌≡◌, ℕ, List, [], ◌∷◌, Option, None, Some, IfSome, option_map}
use denote.Ref.{Bor}
use Rattle.std.specs.Io.KnownBytes.{Appends}
use Rattle.svc_image.specs.Image.{Image, IsImage}
use Rattle.svc_image.specs.Format.{file_of}
use Rattle.svc_asm.specs.Programs.{HasLabels, IsProgramOf}
use Rattle.svc_asm.specs.Texts.{join}
use Rattle.svc_list.specs.Listings.{listing_of}
use Rattle.svc_names.specs.declared.name.Name.{Name}
use Rattle.svc_names.specs.declared.names.Names.{Names}
use Rattle.svc_names.specs.Given.{listed}
use Rattle.svc_names.specs.Made.{IsTableOf, table_text}
use Rattle.svc_request.specs.Held.{Held}
use Rattle.svc_request.specs.Names.{texts_of}
use Rattle.svc_request.specs.declared.request.Assembly.{Assembly}

-- a text before others, if all are known
abbrev pub with_first : Option (List ℕ) → Option (List (List ℕ)) → Option (List (List ℕ))
with_first None texts = None
with_first (Some text) texts = option_map (λ others. text ∷ others) texts

-- what the files of these names hold, if all of that is known
abbrev pub all_held : Held → List (Bor (List ℕ)) → Option (List (List ℕ))
all_held held [] = Some []
all_held held (name ∷ names) = with_first (held name.now) (all_held held names)

-- the text that the files of an assembly make, joined, if it is known
abbrev pub text_held : Held → Assembly → Option (List ℕ)
text_held held assembly = option_map join (all_held held (texts_of assembly))

-- the text, if it is known, makes an image
abbrev pub MakesImage : Option (List ℕ) → Type 0
MakesImage text = (img : Image) × IsImage img × IfSome text (λ bytes. IsProgramOf bytes img)

-- the text, if it is known, is a program of an image, and the file, if it is known, is that image's
pub record Assembles (text file : Option (List ℕ)) (exit : ℕ) : Type 0 where
  pub image : Image
  pub sound : IsImage image
  pub program : IfSome text (λ bytes. IsProgramOf bytes image)
  pub saved : IfSome file (λ bytes. bytes ≡ file_of image)
  pub status : exit ≡ 0

-- a text of a table is that of the labels of a program's text
pub record IsTableOfText (text table : List ℕ) : Type 0 where
  pub labels : List (List ℕ × ℕ)
  pub has : HasLabels text labels
  pub names : List Name
  pub are : IsTableOf labels names
  pub told : table ≡ table_text names

-- the table of a text's names, if they are known
abbrev pub SavesNames : (text table : Option (List ℕ)) → Type 0
SavesNames text table = IfSome text (λ bytes. IfSome table (IsTableOfText bytes))

-- what a writer holds has grown by the image's listing with the names that are given, which is a program of the image
pub record Lists (names : Option (Bor Names)) (img : Image) (old new : Option (List ℕ)) (exit : ℕ) : Type 0 where
  pub text : Appends old new (listing_of (listed names) img)
  pub program : IsProgramOf (listing_of (listed names) img) img
  pub status : exit ≡ 0
