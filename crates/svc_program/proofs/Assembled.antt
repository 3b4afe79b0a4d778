-- What is known of a text is known of the bytes that were read of it.
use Rattle.std.specs.Prelude.{IfSome, option_map}
use Rattle.std.proofs.Common.{◌≡◌, ◌∙◌, ℕ, List, Option, Some, None, ap, subst, sym}
use denote.Ref.{Bor}
use Rattle.svc_image.specs.Image.{Image}
use Rattle.svc_asm.specs.Programs.{IsProgramOf}
use Rattle.svc_request.specs.Held.{Held, KeepsAllBut, KeepsAllButBoth, KeepsOthers}
use Rattle.svc_request.specs.Names.{IsTableOf}
use Rattle.svc_answer.specs.Assembly.{IsTableOfText, SavesNames}

pub program_of : (known : Option (List ℕ)) (bytes : List ℕ) (img : Image) → IfSome known (λ k. bytes ≡ k) → IsProgramOf bytes img → IfSome known (λ k. IsProgramOf k img)
program_of None bytes img same is = tt
program_of (Some k) bytes img same is = subst (λ (b : List ℕ). IsProgramOf b img) same is

-- the file of an image holds what it held while another one is saved
pub image_kept : (named : Option (Bor (List ℕ))) (held saved : Held) (image : List ℕ)
    → KeepsAllBut (option_map (λ (name : Bor (List ℕ)). name.now) named) held saved → (IsTableOf image named → ⊥) → saved image ≡ held image
image_kept None held saved image kept apart = ap (λ (h : Held). h image) kept
image_kept (Some name) held saved image kept apart = kept image (λ same. apart (sym same))

-- the files of an image and of a table, saved one after the other
pub both_saved : (named : Option (Bor (List ℕ))) (held between saved : Held) (image : List ℕ)
    → KeepsOthers held between image → KeepsAllBut (option_map (λ (name : Bor (List ℕ)). name.now) named) between saved
    → KeepsAllButBoth (Some image) (option_map (λ (name : Bor (List ℕ)). name.now) named) held saved
both_saved None held between saved image first second = subst (λ (s : Held). KeepsOthers held s image) (sym second) first
both_saved (Some name) held between saved image first second =
    λ other apart differs. second other differs ∙ first other (λ same. apart (ap (λ (n : List ℕ). Some n) same))

-- what is known of a text and of a table that was saved
table_known : (known saved : Option (List ℕ)) (bytes table : List ℕ) → IfSome known (λ k. bytes ≡ k) → IsTableOfText bytes table
    → IfSome saved (λ s. s ≡ table) → SavesNames known saved
table_known None saved bytes table read has is = tt
table_known (Some k) None bytes table read has is = tt
table_known (Some k) (Some s) bytes table read has is =
    subst (λ (b : List ℕ). IsTableOfText b s) read (subst (λ (t : List ℕ). IsTableOfText bytes t) (sym is) has)

pub names_saved : (named : Option (Bor (List ℕ))) (known : Option (List ℕ)) (saved : Held) (bytes table : List ℕ)
    → IfSome known (λ k. bytes ≡ k) → IfSome named (λ name. IsTableOfText bytes table)
    → IfSome named (λ name. IfSome (saved name.now) (λ s. s ≡ table)) → IfSome named (λ name. SavesNames known (saved name.now))
names_saved None known saved bytes table read has is = tt
names_saved (Some name) known saved bytes table read has is = table_known known (saved name.now) bytes table read has is
