-- What the sequencer's steps leave, as guides.
use Rattle.std.proofs.Common.{ℕ, suc, ◌≡◌, ◌-◌, ◌<◌, List, [], ◌∷◌, map, drop, length, remove, replicate, Option, Some, None, refl, sym, ap, ap₂, ◌∙◌, slice_get, get_or, unwrap_or, arith}
use Rattle.svc_core_laws.specs.declared.end.End.{End}
use Rattle.svc_core_laws.specs.Program.{due_after}
use Rattle.svc_machine_laws.specs.Guess.{youngest, guess_after, entry_after}
use Rattle.svc_machine_laws.specs.Guide.{Guide, successor_in, with_successor, guess_of, guide_committed}

-- the youngest is the last
pub youngest_last : (xs : List ℕ) → slice_get xs (length xs - 1) ≡ youngest xs
youngest_last [] = refl
youngest_last (x ∷ []) = refl
youngest_last (x ∷ y ∷ xs) = (let e : length (x ∷ y ∷ xs) - 1 ≡ suc (length (y ∷ xs) - 1) = omega arith in ap (slice_get (x ∷ y ∷ xs)) e) ∙ youngest_last (y ∷ xs)

pub predicted : (g : Guide) (ended : Option End) (e n : ℕ) → youngest g.active ≡ Some e
    → n ≡ unwrap_or (due_after ended) (unwrap_or (successor_in g.entries g.successors e) (entry_after g.entries e)) → Some n ≡ guess_of ended g
predicted g ended e n last is = ap Some is ∙ sym (ap (guess_after g.entries g.due (successor_in g.entries g.successors) ended) last)

-- as many successors as before
pub as_many : (xs : List ℕ) (began next : Option ℕ) (os : List (Option ℕ)) → length os ≡ length xs → length (with_successor xs began next os) ≡ length xs
as_many [] began next os h = h
as_many (x ∷ xs) began next [] h = h
as_many (x ∷ xs) began next (o ∷ os) h = ap suc (as_many xs began next os (omega (arith, h)))

-- the oldest of the active tasks, and the others
oldest : (xs : List ℕ) (head : ℕ) → head ≡ get_or xs 0 head → 0 < length xs → slice_get xs 0 ≡ Some head
oldest [] head e h = absurd (omega (arith, h))
oldest (x ∷ xs) head e h = ap Some (sym e)

others : (xs : List ℕ) → 0 < length xs → remove xs 0 ≡ drop 1 xs
others [] h = refl
others (x ∷ xs) h = refl

pub committed : (g : Guide) (ended : End) (due : Option ℕ) (head : ℕ) (successors : List (Option ℕ)) (active : List ℕ)
    → due ≡ due_after (Some ended) → head ≡ get_or g.active 0 head → 0 < length g.active → successors ≡ with_successor g.entries (Some head) due g.successors → active ≡ remove g.active 0
    → record { entries = g.entries; due = due; successors = successors; active = active } ≡ guide_committed ended g
committed g ended due head successors active e first some table rest =
    let head_is : Some head ≡ slice_get g.active 0 = sym (oldest g.active head first some) in
    let after : successors ≡ with_successor g.entries (slice_get g.active 0) (due_after (Some ended)) g.successors =
    table ∙ ap₂ (λ b n. with_successor g.entries b n g.successors) head_is e in
    let left : active ≡ drop 1 g.active = rest ∙ others g.active some in
    λ i. record { entries = g.entries; due = e i; successors = after i; active = left i }

-- a table without successors
pub no_successors : (xs : List ℕ) (os : List (Option ℕ)) → os ≡ replicate (length xs) None → os ≡ map (λ e. None) xs
no_successors xs os e = e ∙ all xs
  where
    all : (xs : List ℕ) → replicate (length xs) None ≡ map {B = Option ℕ} (λ e. None) xs
    all [] = refl
    all (x ∷ xs) = ap {B = List (Option ℕ)} (λ l. None ∷ l) (all xs)
