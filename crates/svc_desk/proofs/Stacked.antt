-- Files that stand one behind another: the first of them, and the others.
use Rattle.std.proofs.Common.{◌≡◌, ◌≢◌, ◌∙◌, ◌++◌, ◌∷◌, [], Bool, true, false, ap, refl, sym, subst, ℕ, List, Option, Some, length, drop}
use Rattle.std.proofs.Math.Seq.{take-append_seam, drop-append_seam}
use Rattle.std.proofs.lemmas.Bool.{false_from_ne_true}
use Rattle.std.proofs.lemmas.Slice.Eq.{bytes_eq-Decides}
use Rattle.std.specs.Prelude.{IfSome, if◌then◌else◌, take}
use Rattle.std.specs.Str.{bytes_eq}
use Rattle.svc_desk.specs.declared.packed.FileSize.{FileSize}
use Rattle.svc_desk.specs.Held.{first_of, held_by, held_over, size_of}

-- a test and its two answers
chosen : (b c : Bool) (x y : Option (List ℕ)) → b ≡ c → (if b then x else y) ≡ (if c then x else y)
chosen b c x y same = ap (λ t. if t then x else y) same

-- behind a name and its bytes stand the others
past : (name bytes contents : List ℕ) → drop (length bytes) (drop (length name) (name ++ (bytes ++ contents))) ≡ contents
past name bytes contents = ap (drop (length bytes)) (drop-append_seam name (bytes ++ contents)) ∙ drop-append_seam bytes contents

-- the file in front is found by its name
pub first_found : (name bytes contents : List ℕ) (sizes : List FileSize)
    → held_by (size_of name bytes ∷ sizes) (name ++ (bytes ++ contents)) name ≡ Some bytes
first_found name bytes contents sizes =
    let all = name ++ (bytes ++ contents) in
    let others = held_by sizes (drop (length bytes) (drop (length name) all)) name in
    let found = Some (take (length bytes) (drop (length name) all)) in
    let same : bytes_eq (take (length name) all) name ≡ true =
    (bytes_eq-Decides (take (length name) all) name).1 (take-append_seam name (bytes ++ contents)) in
    chosen (bytes_eq (take (length name) all) name) true found others same
    ∙ ap (λ (b : List ℕ). Some (take (length bytes) b)) (drop-append_seam name (bytes ++ contents))
    ∙ ap (λ (b : List ℕ). Some b) (take-append_seam bytes contents)

-- and files of other names behind it
pub others_found : (name bytes contents : List ℕ) (sizes : List FileSize) (other : List ℕ) → other ≢ name
    → held_by (size_of name bytes ∷ sizes) (name ++ (bytes ++ contents)) other ≡ held_by sizes contents other
others_found name bytes contents sizes other differs =
    let all = name ++ (bytes ++ contents) in
    let rest = drop (length bytes) (drop (length name) all) in
    let found = Some (take (length bytes) (drop (length name) all)) in
    let fails : bytes_eq (take (length name) all) other ≡ false =
    false_from_ne_true (bytes_eq (take (length name) all) other)
    (λ same. differs (sym ((bytes_eq-Decides (take (length name) all) other).0 same) ∙ take-append_seam name (bytes ++ contents))) in
    chosen (bytes_eq (take (length name) all) other) false found (held_by sizes rest other) fails
    ∙ ap (λ (b : List ℕ). held_by sizes b other) (past name bytes contents)

-- what is held where a file was saved in front of others, under its name and under another one
pub saved_holds : (name bytes saved : List ℕ) (saved_sizes : List FileSize) (sizes : List FileSize) (contents : List ℕ)
    → held_over (size_of name bytes ∷ saved_sizes) (name ++ (bytes ++ saved)) sizes contents name ≡ Some bytes
saved_holds name bytes saved saved_sizes sizes contents =
    ap (λ (h : Option (List ℕ)). first_of h (held_by sizes contents name)) (first_found name bytes saved saved_sizes)

pub others_hold : (name bytes saved : List ℕ) (saved_sizes : List FileSize) (sizes : List FileSize) (contents other : List ℕ) → other ≢ name
    → held_over (size_of name bytes ∷ saved_sizes) (name ++ (bytes ++ saved)) sizes contents other ≡ held_over saved_sizes saved sizes contents other
others_hold name bytes saved saved_sizes sizes contents other differs =
    ap (λ (h : Option (List ℕ)). first_of h (held_by sizes contents other)) (others_found name bytes saved saved_sizes other differs)

-- the same of a list of files that is one with a file in front
abbrev Front : (given bytes saved new : List ℕ) (saved_sizes new_sizes : List FileSize) → Type 0
Front given bytes saved new saved_sizes new_sizes = (new_sizes ≡ size_of given bytes ∷ saved_sizes) × (new ≡ given ++ (bytes ++ saved))

in_front : (name given bytes saved new : List ℕ) (saved_sizes new_sizes : List FileSize) (P : List FileSize → List ℕ → Type 0) → given ≡ name
    → Front given bytes saved new saved_sizes new_sizes → P (size_of name bytes ∷ saved_sizes) (name ++ (bytes ++ saved)) → P new_sizes new
in_front name given bytes saved new saved_sizes new_sizes P same (sizes_are, bytes_are) holds =
    let given_holds : P (size_of given bytes ∷ saved_sizes) (given ++ (bytes ++ saved)) =
    subst (λ (g : List ℕ). P (size_of g bytes ∷ saved_sizes) (g ++ (bytes ++ saved))) (sym same) holds in
    subst (λ (b : List ℕ). P new_sizes b) (sym bytes_are)
    (subst (λ (s : List FileSize). P s (given ++ (bytes ++ saved))) (sym sizes_are) given_holds)

pub saved_under : (name given bytes saved new : List ℕ) (saved_sizes new_sizes sizes : List FileSize) (contents : List ℕ) → given ≡ name
    → new_sizes ≡ size_of given bytes ∷ saved_sizes → new ≡ given ++ (bytes ++ saved)
    → IfSome (held_over new_sizes new sizes contents name) (λ known. known ≡ bytes)
saved_under name given bytes saved new saved_sizes new_sizes sizes contents same sizes_are bytes_are =
    in_front name given bytes saved new saved_sizes new_sizes (λ s b. IfSome (held_over s b sizes contents name) (λ known. known ≡ bytes)) same (sizes_are, bytes_are)
    (subst (λ (h : Option (List ℕ)). IfSome h (λ known. known ≡ bytes)) (sym (saved_holds name bytes saved saved_sizes sizes contents)) refl)

pub kept_under : (name given bytes saved new : List ℕ) (saved_sizes new_sizes sizes : List FileSize) (contents : List ℕ) → given ≡ name
    → new_sizes ≡ size_of given bytes ∷ saved_sizes → new ≡ given ++ (bytes ++ saved) → (other : List ℕ) → other ≢ name
    → held_over new_sizes new sizes contents other ≡ held_over saved_sizes saved sizes contents other
kept_under name given bytes saved new saved_sizes new_sizes sizes contents same sizes_are bytes_are other differs =
    in_front name given bytes saved new saved_sizes new_sizes (λ s b. held_over s b sizes contents other ≡ held_over saved_sizes saved sizes contents other) same (sizes_are, bytes_are)
    (others_hold name bytes saved saved_sizes sizes contents other differs)
