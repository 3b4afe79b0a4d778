-- What it means to draw a trace.
use Rattle.std.specs.Prelude.{◌≡◌, ◌≤◌, ℕ, Bool, true, false, List, Option, IfSome, length}
use denote.Ref.{Bor}
use Rattle.svc_base.specs.declared.config.Config.{Config}
use Rattle.svc_image.specs.Image.{Image}
use Rattle.svc_history_laws.specs.declared.entry.Entry.{Entry}
use Rattle.svc_history_laws.specs.Legal.{LegalHistory}
use Rattle.svc_instruction_profile.specs.Addresses.{addresses}
use Rattle.svc_names.specs.declared.names.Names.{Names}
use Rattle.svc_sheet.specs.declared.sheet.Style.{Style}
use Rattle.svc_draw.specs.Picture.{picture_of}
use Rattle.svc_marks.specs.declared.view.View.{View}
use Rattle.svc_marks.specs.Rows.{rows_of}
use Rattle.svc_marks.specs.View.{end_shown}
use Rattle.svc_request.specs.Held.{Held}
use Rattle.svc_request.specs.declared.request.Picture.{Picture}
use Rattle.svc_answer.specs.Fronts.{front}

-- the entries up to the last that a view may show are a legal history, and the view may begin where it does
pub record IsDrawn (img : Image) (config : Config) (es : List Entry) (view : View) : Type 0 where
  pub legal : LegalHistory img config (front (end_shown view.from view.count) es)
  pub inside : view.from ≤ length es

-- what a picture shows of entries, as rows, or drawn with the names that are given and the addresses at which they ask
abbrev pub shown_as : (rows : Bool) → (units : ℕ) → List Entry → View → Style → Option (Bor Names)
    → Bor (List (Option ℕ)) → List ℕ
shown_as true units es view style names asked = rows_of es view
shown_as false units es view style names asked = picture_of es units view style names asked

-- the entries that a picture looks at: those up to the last that it may show
abbrev pub looked_at : Picture → List Entry → List Entry
looked_at p es = front (end_shown p.view.from p.view.count) es

-- what it shows of these
abbrev pub drawing_of : Picture → (units : ℕ) → List Entry → Option (Bor Names) → Bor (List (Option ℕ)) → List ℕ
drawing_of p units es names asked = shown_as p.rows units (looked_at p es) p.view p.style names asked

-- a text is that drawing, with the addresses of the instructions at which these entries ask
abbrev pub IsDrawing : Picture → Image → Config → List Entry → Option (Bor Names) → (text : List ℕ) → Type 0
IsDrawing p img config es names text =
    (asked : Bor (List (Option ℕ))) × (asked.now ≡ addresses img config (looked_at p es))
    × (text ≡ drawing_of p config.units es names asked)

-- that text is saved, as far as the file is known
abbrev pub SavesDrawing : Held → Picture → Image → Config → List Entry → Option (Bor Names) → Type 0
SavesDrawing held p img config es names = IfSome (held p.file.now) (IsDrawing p img config es names)
