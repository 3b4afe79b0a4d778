-- Words of a line, in its order.
use Rattle.std.specs.Prelude.{slice_get}
use Rattle.std.proofs.Common.{◌≡◌, ◌+◌, ◌<◌, ◌≤◌, ℕ, List, Some, Bor, drop, get_or, length, map, subst, sym}
use Rattle.std.proofs.lemmas.List.{drop_all, drop_more}
use Rattle.svc_command.specs.Line.{AreInOrder}

-- what these point to
abbrev pub texts_at : List (Bor (List ℕ)) → List (List ℕ)
texts_at given = map (λ (text : Bor (List ℕ)). text.now) given

-- the text at a place is found, and the later ones stand behind it
pub one_more : (given : List (Bor (List ℕ))) (i : ℕ) (d : Bor (List ℕ)) (words behind : List (List ℕ)) → i < length given
    → ((k : ℕ) × (slice_get words k ≡ Some (get_or given i d).now) × (behind ≡ drop (k + 1) words))
    → AreInOrder (texts_at (drop (i + 1) given)) behind → AreInOrder (texts_at (drop i given)) words
one_more given i d words behind inside (k, at, rest) after =
    let later = drop (i + 1) given in
    subst (λ (l : List (Bor (List ℕ))). AreInOrder (texts_at l) words) (sym (drop_more given i d inside))
    (k, at, subst (λ (ws : List (List ℕ)). AreInOrder (texts_at later) ws) rest after)

-- none is left
pub none_left : (given : List (Bor (List ℕ))) (i : ℕ) (words : List (List ℕ)) → length given ≤ i → AreInOrder (texts_at (drop i given)) words
none_left given i words past = subst (λ (l : List (Bor (List ℕ))). AreInOrder (texts_at l) words) (sym (drop_all i given past)) tt
