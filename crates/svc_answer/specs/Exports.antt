-- What it means to save a trace for another viewer.
use Rattle.std.specs.Prelude.{◌≡◌, ℕ, List, [], ◌∷◌, Option, IfSome, cond, flat_map}
use Rattle.std.specs.List.{range_with_len}
use Rattle.svc_base.specs.declared.config.Config.{Config}
use Rattle.svc_image.specs.Image.{Image}
use Rattle.svc_core_laws.specs.Turns.{data_words}
use Rattle.svc_history_laws.specs.declared.entry.Entry.{Entry}
use Rattle.svc_history_laws.specs.Legal.{LegalHistory}
use Rattle.svc_export.specs.Export.{export_of}
use Rattle.svc_span.specs.declared.span.Span.{Span}
use Rattle.svc_span.specs.Span.{is_asked}
use Rattle.svc_request.specs.declared.request.Exported.{Exported}
use Rattle.svc_request.specs.Held.{Held}

-- a word, if it is asked for
abbrev pub word_asked : Option Span → (word : ℕ) → List ℕ
word_asked asked word = cond (is_asked asked word) (word ∷ []) []

-- the words of an image that are asked for, in their order
abbrev pub words_asked : Image → Option Span → List ℕ
words_asked img asked = flat_map (word_asked asked) (range_with_len 0 (data_words img))

-- the text of the entries that the viewer reads
abbrev pub exported_text : Exported → Image → Config → List Entry → List ℕ
exported_text exported img config es =
    export_of exported.format es config.units (words_asked img exported.words)

-- the entries are a legal history, and that text is saved, as far as the file is known
pub record Exports (held : Held) (exported : Exported) (img : Image) (config : Config) (es : List Entry) : Type 0 where
  pub legal : LegalHistory img config es
  pub saved : IfSome (held exported.file.now) (λ text. text ≡ exported_text exported img config es)
