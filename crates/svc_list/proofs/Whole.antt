-- A listing is its parts, put one behind another.
use Rattle.std.proofs.Common.{length, ◌≡◌, ℕ, List, [], ◌++◌, Option, ap, sym, ◌∙◌, slice_index}
use Rattle.svc_image.specs.declared.version.Version.{Version}
use Rattle.svc_image.specs.Image.{Image}
use Rattle.svc_layout.specs.declared.section.Section.TheVariants as section
use Rattle.svc_layout.specs.declared.statement.Statement.TheVariants as say
use Rattle.svc_names.specs.declared.name.Name.{Name}
use Rattle.svc_list.specs.Listings.{is_labelled, bare, line_of, text_of, settings, marks, code, all_data, head_lines, listing_of}
use Rattle.svc_list.proofs.Printing.{five, listing_parts}

-- the listing of what has these fields
abbrev parts : Option (List Name) → Version → (limit start : ℕ) → (registers entries limits text : List ℕ) → ℕ → List ℕ → List ℕ
parts given v limit start registers entries limits text n words =
    text_of (head_lines v limit start) ++ (text_of (settings 1 registers) ++ (text_of (code given (length text) (is_labelled entries text) 0 (marks v entries limits) text) ++ (line_of (bare (say.Section section.Data)) ++ text_of (all_data given v n words))))

-- what is read of an image
pub record AreFields (img : Image) (v : Version) (limit start : ℕ) (registers entries limits text : List ℕ) (n : ℕ) (words : List ℕ) : Type 0 where
  pub same_version : v ≡ img.version
  pub same_limit : limit ≡ slice_index img.limits 0
  pub same_start : start ≡ img.start
  pub same_registers : registers ≡ img.registers
  pub same_entries : entries ≡ img.entries
  pub same_limits : limits ≡ img.limits
  pub same_text : text ≡ img.text
  pub same_read_only : n ≡ img.read_only
  pub same_words : words ≡ img.words

all_parts : (given : Option (List Name)) (img : Image) (v : Version) (limit start : ℕ) (registers entries limits text : List ℕ) (n : ℕ) (words : List ℕ) → AreFields img v limit start registers entries limits text n words → parts given v limit start registers entries limits text n words ≡ listing_of given img
all_parts given img v limit start registers entries limits text n words f =
    ap (λ x. parts given x limit start registers entries limits text n words) f.same_version
    ∙ ap (λ x. parts given img.version x start registers entries limits text n words) f.same_limit
    ∙ ap (λ x. parts given img.version (slice_index img.limits 0) x registers entries limits text n words) f.same_start
    ∙ ap (λ x. parts given img.version (slice_index img.limits 0) img.start x entries limits text n words) f.same_registers
    ∙ ap (λ x. parts given img.version (slice_index img.limits 0) img.start img.registers x limits text n words) f.same_entries
    ∙ ap (λ x. parts given img.version (slice_index img.limits 0) img.start img.registers img.entries x text n words) f.same_limits
    ∙ ap (λ x. parts given img.version (slice_index img.limits 0) img.start img.registers img.entries img.limits x n words) f.same_text
    ∙ ap (λ x. parts given img.version (slice_index img.limits 0) img.start img.registers img.entries img.limits img.text x words) f.same_read_only
    ∙ ap (λ x. parts given img.version (slice_index img.limits 0) img.start img.registers img.entries img.limits img.text img.read_only x) f.same_words
    ∙ sym (listing_parts given img)

pub listed_whole : (given : Option (List Name)) (img : Image) (v : Version) (limit start : ℕ) (registers entries limits text : List ℕ) (n : ℕ) (words o₀ o₁ o₂ o₃ o₄ o₅ : List ℕ) → AreFields img v limit start registers entries limits text n words
    → o₀ ≡ [] → o₁ ≡ o₀ ++ text_of (head_lines v limit start) → o₂ ≡ o₁ ++ text_of (settings 1 registers) → o₃ ≡ o₂ ++ text_of (code given (length text) (is_labelled entries text) 0 (marks v entries limits) text)
    → o₄ ≡ o₃ ++ line_of (bare (say.Section section.Data)) → o₅ ≡ o₄ ++ text_of (all_data given v n words) → o₅ ≡ listing_of given img
listed_whole given img v limit start registers entries limits text n words o₀ o₁ o₂ o₃ o₄ o₅ f none e₁ e₂ e₃ e₄ e₅ =
    five o₁ o₂ o₃ o₄ o₅ (text_of (head_lines v limit start)) (text_of (settings 1 registers)) (text_of (code given (length text) (is_labelled entries text) 0 (marks v entries limits) text)) (line_of (bare (say.Section section.Data))) (text_of (all_data given v n words))
    (e₁ ∙ ap (λ (xs : List ℕ). xs ++ text_of (head_lines v limit start)) none) e₂ e₃ e₄ e₅
    ∙ all_parts given img v limit start registers entries limits text n words f
