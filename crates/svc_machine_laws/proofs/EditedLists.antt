-- Lists that are edited at a place and cut behind it.
use Rattle.std.proofs.Common.{ℕ, zero, suc, ◌≡◌, List, [], ◌∷◌, ◌++◌, map, take, Option, Some, None, refl, ap, ap₂, slice_get}
use Rattle.svc_bus_laws.specs.Versioned.{Row, with_head}
use Rattle.svc_bus_laws.specs.ByRows.{view_of, victim_after, cut_at, edit}
use Rattle.svc_core_laws.specs.Program.{Memory, Want, Local, Load, Store, Narrow, Emit}
use Rattle.svc_machine_laws.specs.PlainMachine.{cut_by}

pub map_take : {A B : Type 0} (h : A → B) (n : ℕ) (xs : List A) → map h (take n xs) ≡ take n (map h xs)
map_take h zero xs = refl
map_take h (suc n) [] = refl
map_take {A} {B} h (suc n) (x ∷ xs) = ap {B = List B} (λ q. h x ∷ q) (map_take h n xs)

pub map_cut : {A B : Type 0} (h : A → B) (c : Option ℕ) (xs : List A) → map h (cut_at c xs) ≡ cut_at c (map h xs)
map_cut h None xs = refl
map_cut h (Some n) xs = map_take h n xs

pub map_append_one : {A B : Type 0} (h : A → B) (xs : List A) (y : A) → map h (xs ++ y ∷ []) ≡ map h xs ++ h y ∷ []
map_append_one h [] y = refl
map_append_one {A} {B} h (x ∷ xs) y = ap {B = List B} (λ q. h x ∷ q) (map_append_one h xs y)

-- an edit of the things is one of what is read off them
pub map_edit : {A B : Type 0} (h : A → B) (f : A → A) (g : B → B) (place : ℕ) (c : Option ℕ) (xs : List A)
    → ((x : A) → slice_get xs place ≡ Some x → h (f x) ≡ g (h x)) → map h (edit place f c xs) ≡ edit place g c (map h xs)
map_edit h f g place c [] e = refl
map_edit {A} {B} h f g zero c (x ∷ xs) e = ap₂ (λ (y : B) (ys : List B). y ∷ ys) (e x refl) (map_cut h c xs)
map_edit {A} {B} h f g (suc place) c (x ∷ xs) e = ap {B = List B} (λ q. h x ∷ q) (map_edit h f g place c xs e)

-- an edit that changes nothing
pub edit_same : {A : Type 0} (place : ℕ) (xs : List A) → edit place (λ x. x) None xs ≡ xs
edit_same place [] = refl
edit_same zero (x ∷ xs) = refl
edit_same {A} (suc place) (x ∷ xs) = ap {B = List A} (λ q. x ∷ q) (edit_same place xs)

-- two edits of one place
pub edit_edit : {A : Type 0} (place : ℕ) (f g : A → A) (c : Option ℕ) (xs : List A) → edit place g c (edit place f None xs) ≡ edit place (λ x. g (f x)) c xs
edit_edit place f g c [] = refl
edit_edit zero f g c (x ∷ xs) = refl
edit_edit {A} (suc place) f g c (x ∷ xs) = ap {B = List A} (λ q. x ∷ q) (edit_edit place f g c xs)

-- the victim_after depends on the later rows alone
pub victim_edit : (place a : ℕ) (f : Row → Row) (rows : List Row) → victim_after (edit place f None rows) place a ≡ victim_after rows place a
victim_edit place a f [] = refl
victim_edit zero a f (row ∷ rows) = refl
victim_edit (suc place) a f (row ∷ rows) = victim_edit place a f rows

pub victim_hide : (place a : ℕ) (rows : List Row) → victim_after (with_head rows) place a ≡ victim_after rows place a
victim_hide place a [] = refl
victim_hide zero a (row ∷ rows) = refl
victim_hide (suc place) a (row ∷ rows) = refl

pub cut_by_hide : {C : Type 0} (w : Want C) (rows : List Row) (place : ℕ) → cut_by w (with_head rows) place ≡ cut_by w rows place
cut_by_hide (Local c) rows place = refl
cut_by_hide (Load a value go) rows place = refl
cut_by_hide (Store a v c) rows place = victim_hide place a rows
cut_by_hide (Narrow a f c) rows place = victim_hide place a rows
cut_by_hide (Emit v c) rows place = refl

pub view_hide : (rows : List Row) (m : Memory) (place : ℕ) → view_of (with_head rows) m place ≡ view_of rows m place
view_hide [] m place = refl
view_hide (row ∷ rows) m zero = refl
view_hide (row ∷ rows) m (suc place) = refl

pub hide_take : (n : ℕ) (rows : List Row) → with_head (take n rows) ≡ take n (with_head rows)
hide_take zero rows = refl
hide_take (suc n) [] = refl
hide_take (suc n) (row ∷ rows) = refl
