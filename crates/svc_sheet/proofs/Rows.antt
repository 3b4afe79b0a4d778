-- Lines of parts.
use Rattle.std.proofs.Common.{◌≡◌, ◌++◌, ◌∷◌, [], ℕ, List, ◌∙◌, ap, append_assoc, append-nil, map, sym}
use Rattle.std.specs.Prelude.{flat_map}
use Rattle.svc_text.specs.declared.parts.Part.{Part}
use Rattle.svc_text.specs.Parts.{part_text}
use Rattle.svc_report.specs.Lines.{joined, line}
use Rattle.svc_sheet.specs.Row.{after_comma}

-- fields with commas between them: the first, and the others each after one
pub joined_parts : (first : List ℕ) (others : List Part) → joined (first ∷ map part_text others) ≡ first ++ flat_map after_comma others
unfolding joined
joined_parts first [] = sym (append-nil first)
joined_parts first (p ∷ ps) = ap (λ (t : List ℕ). first ++ (44 ∷ t)) (joined_parts (part_text p) ps)

-- a line of a field and others, once its end is added
pub line_ended : (first : List ℕ) (others seen : List Part) (old so_far new : List ℕ) → seen ≡ others
    → so_far ≡ old ++ (first ++ flat_map after_comma seen) → new ≡ so_far ++ (10 ∷ []) → new ≡ old ++ line (first ∷ map part_text others)
line_ended first others seen old so_far new all before ended =
    let fields : so_far ≡ old ++ joined (first ∷ map part_text others) =
    before ∙ ap (λ (ps : List Part). old ++ (first ++ flat_map after_comma ps)) all ∙ ap (λ (t : List ℕ). old ++ t) (sym (joined_parts first others)) in
    ended ∙ ap (λ (t : List ℕ). t ++ (10 ∷ [])) fields ∙ append_assoc old (joined (first ∷ map part_text others)) (10 ∷ [])
