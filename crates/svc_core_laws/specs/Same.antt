-- The test for equal cores.
use Rattle.std.specs.Prelude.{ℕ, Bool, true, false, ◌==◌, ◌&&◌, List, [], ◌∷◌, Option, Some, None}
use Rattle.svc_core_laws.specs.declared.end.End.{End}
use Rattle.svc_core_laws.specs.declared.end.End.TheVariants.{Next, Exit, Trap}
use Rattle.svc_core_laws.specs.State.{State}

abbrev pub same_end : Option End → Option End → Bool
same_end None None = true
same_end (Some (Next a)) (Some (Next b)) = a == b
same_end (Some (Exit a)) (Some (Exit b)) = a == b
same_end (Some (Trap a)) (Some (Trap b)) = a == b
same_end _ _ = false

abbrev pub same_words : List ℕ → List ℕ → Bool
same_words [] [] = true
same_words [] (y ∷ ys) = false
same_words (x ∷ xs) [] = false
same_words (x ∷ xs) (y ∷ ys) = (x == y) && same_words xs ys

abbrev pub same_state : State → State → Bool
same_state a b =
    (a.pc == b.pc) && (a.count == b.count) && (a.emitted == b.emitted) && (a.limit == b.limit) && same_end a.done b.done
    && same_words a.regs b.regs
