-- The view, the victim and the steps by recursion on the rows are those of the map.
use Rattle.std.proofs.Common.{◌≡◌, refl, sym, ap, ◌∙◌, ℕ, suc, zero, ◌+◌, ◌<◌, Some, None, true, false, Bool, cond, ◌&&◌, ◌||◌, List, [], ◌∷◌, Option, option_map, unwrap_or, length, get_or, take, drop, set, inl, inr, arith, is_some, ne_eqb, length-drop, get_or-drop, length-set, take_all}
use Rattle.std.specs.Bool.{◌==◌}
use Rattle.std.proofs.lemmas.Bool.{cases_eq}
use Rattle.svc_bus_laws.specs.Versioned.{Row, Versioned, fresh_row, row_at, version, is_exposed, latest, view, victim, survivors, read_row, written_row, with_head}
use Rattle.svc_bus_laws.specs.Versioned as map
use Rattle.svc_bus_laws.specs.ByRows as rows
use Rattle.svc_bus_laws.specs.ByRows.{over, view_of, first_exposed, victim_after, cut_at, edit, exposed_row, read_rows}
use Rattle.svc_bus_laws.specs.Walk.{walk}
use Rattle.svc_bus_laws.proofs.Maps.{latest_none, latest_first, row_same}
use Rattle.svc_bus_laws.proofs.MapViews.{walk_is}

-- ---- the view

view_at : (rows : List Row) (memory : ℕ → ℕ) (p a : ℕ) → latest (λ q. (get_or rows q fresh_row).versions a) (memory a) (suc p) ≡ view_of rows memory p a
view_at [] memory p a = latest_none _ _ (suc p) (λ q h. refl)
view_at (r ∷ rows) memory zero a = refl
view_at (r ∷ rows) memory (suc p) a = latest_first (λ q. (get_or (r ∷ rows) q fresh_row).versions a) (memory a) (suc p) ∙ view_at rows (over r.versions memory) p a

pub view_by_rows : (m : Versioned) (p : ℕ) → view m p ≡ view_of m.rows m.committed p
view_by_rows m p = λ i a. view_at m.rows m.committed p a i

-- ---- the victim

map_shift : (v : ℕ) (o : Option ℕ) → option_map (λ n. suc v + n) o ≡ option_map (λ n. v + n) (option_map suc o)
map_shift v None = refl
map_shift v (Some n) = ap Some (omega arith)

-- the walk over the rows from a place on
walk_rows : (rows : List Row) (a v : ℕ) (exposes stores : ℕ → Bool)
    → ((k : ℕ) → k < length rows → exposes (v + k) ≡ (get_or rows k fresh_row).exposed a)
    → ((k : ℕ) → k < length rows → stores (v + k) ≡ is_some ((get_or rows k fresh_row).versions a))
    → walk exposes stores v (length rows) ≡ option_map (λ n. v + n) (first_exposed rows a)
walk_rows [] a v exposes stores e s = refl
walk_rows (r ∷ rows) a v exposes stores e s =
    let here : v + 0 ≡ v = omega arith in
    let shown : exposes v ≡ r.exposed a = ap exposes (sym here) ∙ e 0 (omega arith) in
    let stored : stores v ≡ is_some (r.versions a) = ap stores (sym here) ∙ s 0 (omega arith) in
    let rest = walk_rows rows a (suc v) exposes stores
    (λ k h. ap exposes (omega arith) ∙ e (suc k) (omega (arith, h)))
    (λ k h. ap stores (omega arith) ∙ s (suc k) (omega (arith, h))) in
    ap (λ x. cond x (Some v) (cond (stores v) None (walk exposes stores (suc v) (length rows)))) shown
    ∙ ap (λ x. cond (r.exposed a) (Some v) (cond x None (walk exposes stores (suc v) (length rows)))) stored
    ∙ ap (λ o. cond (r.exposed a) (Some v) (cond (is_some (r.versions a)) None o)) (rest ∙ map_shift v (first_exposed rows a))
    ∙ both (r.exposed a) (is_some (r.versions a)) (option_map suc (first_exposed rows a))
  where
    both : (x y : Bool) (o : Option ℕ) → cond x (Some v) (cond y None (option_map (λ n. v + n) o)) ≡ option_map (λ n. v + n) (cond x (Some 0) (cond y None o))
    both true y o = ap Some (omega arith)
    both false true o = refl
    both false false o = refl

after_drop : (rows : List Row) (p a : ℕ) → victim_after rows p a ≡ first_exposed (drop (suc p) rows) a
after_drop [] p a = refl
after_drop (r ∷ rows) zero a = refl
after_drop (r ∷ rows) (suc p) a = after_drop rows p a

pub victim_by_rows : (m : Versioned) (p a : ℕ) → victim m p a ≡ option_map (λ n. suc p + n) (victim_after m.rows p a)
victim_by_rows m p a =
    sym (walk_is m p a)
    ∙ ap (walk (λ q. is_exposed m q a) (λ q. is_some (version m q a)) (suc p)) (sym (length-drop (suc p) m.rows))
    ∙ walk_rows (drop (suc p) m.rows) a (suc p) (λ q. is_exposed m q a) (λ q. is_some (version m q a))
    (λ k h. ap (λ (r : Row). r.exposed a) (sym (get_or-drop (suc p) m.rows k fresh_row)))
    (λ k h. ap (λ (r : Row). is_some (r.versions a)) (sym (get_or-drop (suc p) m.rows k fresh_row)))
    ∙ ap (option_map (λ n. suc p + n)) (sym (after_drop m.rows p a))

-- ---- an edited list

edit_uncut : {A : Type 0} (p : ℕ) (f : A → A) (xs : List A) (d : A) → p < length xs → edit p f None xs ≡ set xs p (f (get_or xs p d))
edit_uncut p f [] d h = absurd (omega (arith, h))
edit_uncut zero f (x ∷ xs) d h = refl
edit_uncut (suc p) f (x ∷ xs) d h = ap (λ ys. x ∷ ys) (edit_uncut p f xs d (omega (arith, h)))

edit_cut : {A : Type 0} (p n : ℕ) (f : A → A) (xs : List A) (d : A) → p < length xs → edit p f (Some n) xs ≡ take (suc p + n) (set xs p (f (get_or xs p d)))
edit_cut p n f [] d h = absurd (omega (arith, h))
edit_cut zero n f (x ∷ xs) d h = let e : 1 + n ≡ suc n = omega arith in rw e
edit_cut (suc p) n f (x ∷ xs) d h =
    let e : suc (suc p) + n ≡ suc (suc p + n) = omega arith in
    rw e (ap (λ ys. x ∷ ys) (edit_cut p n f xs d (omega (arith, h))))

-- ---- the steps

pub read_by_rows : (m : Versioned) (p a : ℕ) → p < length m.rows → map.read m p a ≡ rows.read m p a
read_by_rows m p a h = ap (λ (rs : List Row). record m { rows = rs }) (go p m.rows h)
  where
    or_false : (x y : Bool) → (x || (y && false)) ≡ x
    or_false true y = refl
    or_false false true = refl
    or_false false false = refl

    head_row : (r : Row) → read_row r 0 a ≡ r
    head_row r = row_same (read_row r 0 a) r (λ b. refl) (λ b. or_false (r.exposed b) (a == b))

    later_row : (q : ℕ) (r : Row) → read_row r (suc q) a ≡ exposed_row a r
    later_row q r = row_same (read_row r (suc q) a) (exposed_row a r) (λ b. refl) (λ b. elim (cases_eq b a) [
      | inl e ↦ rw (e, ne_eqb (suc q) 0 (omega arith))
      | inr ne ↦ rw (ne_eqb a b (λ z. ne (sym z)))
    ])

    go : (p : ℕ) (rows : List Row) → p < length rows → set rows p (read_row (get_or rows p fresh_row) p a) ≡ read_rows p a rows
    go p [] h = absurd (omega (arith, h))
    go zero (r ∷ rows) h = ap (λ x. x ∷ rows) (head_row r)
    go (suc p) (r ∷ rows) h = ap (set (r ∷ rows) (suc p)) (later_row p (get_or (r ∷ rows) (suc p) fresh_row)) ∙ sym (edit_uncut (suc p) (exposed_row a) (r ∷ rows) fresh_row h)

pub write_by_rows : (m : Versioned) (p a w : ℕ) → p < length m.rows → map.write m p a w ≡ rows.write m p a w
write_by_rows m p a w h = ap (λ (rs : List Row). record m { rows = rs }) (ap (λ o. take (unwrap_or o (length m.rows)) (set m.rows p (written_row (row_at m p) a w))) (victim_by_rows m p a) ∙ go (victim_after m.rows p a))
  where
    go : (o : Option ℕ) → take (unwrap_or (option_map (λ n. suc p + n) o) (length m.rows)) (set m.rows p (written_row (row_at m p) a w)) ≡ edit p (λ row. written_row row a w) o m.rows
    go None = take_all (length m.rows) _ (omega (arith, length-set m.rows p (written_row (row_at m p) a w))) ∙ sym (edit_uncut p (λ row. written_row row a w) m.rows fresh_row h)
    go (Some n) = sym (edit_cut p n (λ row. written_row row a w) m.rows fresh_row h)

pub commit_by_rows : (m : Versioned) → 0 < length m.rows → map.commit m ≡ rows.commit m
commit_by_rows m h = go m.rows h
  where
    go : (rs : List Row) → 0 < length rs → record { commits = suc m.commits; committed = λ a. unwrap_or ((get_or rs 0 fresh_row).versions a) (m.committed a); rows = with_head (drop 1 rs) } ≡ rows.commit_rows m rs
    go [] h = absurd (omega (arith, h))
    go (r ∷ rs) h = refl
