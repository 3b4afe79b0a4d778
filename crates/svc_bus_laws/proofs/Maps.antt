-- Lemmas on the versioned map.
use Rattle.std.proofs.Common.{◌≡◌, ◌⊎◌, ◌≢◌, refl, sym, ap, ◌∙◌, ℕ, suc, zero, ◌+◌, ◌<◌, ◌≤◌, Some, None, true, false, Bool, cond, not, ◌&&◌, ◌||◌, List, [], ◌∷◌, Option, length, get_or, inl, inr, arith, true≢false, ltb, leb, lt-ltb, ltb-true, length-take, length-drop, get_or-drop, length-append, min, ◌-◌, unwrap_or, is_some, is_none, ext_get_or}
use Rattle.std.proofs.lemmas.Bool.{cases_Bool, cases_eq, leb-false, or_parts, lt-leb}
use Rattle.std.proofs.Common.{get_or-set_same, get_or-set_other, length-set, get_or-take, drop, set}
use Rattle.std.specs.Bool.{◌==◌}
use Rattle.std.proofs.lemmas.List.{get_or_append_left, get_or_at}
use Rattle.svc_bus_laws.specs.Versioned.{Row, Versioned, fresh_row, row_at, version, is_exposed, latest, view, read_row, written_row, none_between, victim, survivors, with_head}
use Rattle.svc_bus_laws.specs.Versioned as map
use Rattle.svc_bus_laws.specs.MapLaws.{IsWalked}
use Rattle.svc_bus_laws.proofs.Searches.{cases_below, least_cases, least_none, least_found, all_fails, all_from, all_refuted}

-- two maps that agree in every part
pub record Same (m n : Versioned) : Type 0 where
  pub commits : m.commits ≡ n.commits
  pub committed : (a : ℕ) → m.committed a ≡ n.committed a
  pub count : length m.rows ≡ length n.rows
  pub versions : (p : ℕ) → p < length m.rows → (a : ℕ) → version m p a ≡ version n p a
  pub exposed : (p : ℕ) → p < length m.rows → (a : ℕ) → is_exposed m p a ≡ is_exposed n p a

pub row_same : (r s : Row) → ((a : ℕ) → r.versions a ≡ s.versions a) → ((a : ℕ) → r.exposed a ≡ s.exposed a) → r ≡ s
row_same r s v e = λ i. record { versions = λ a. v a i; exposed = λ a. e a i }

pub map_same : (m n : Versioned) → Same m n → m ≡ n
map_same m n same =
    let rows = ext_get_or fresh_row m.rows n.rows same.count (λ p h. row_same _ _ (same.versions p h) (same.exposed p h)) in
    λ i. record { commits = same.commits i; committed = λ a. same.committed a i; rows = rows i }

-- ---- the latest version

pub latest_same : (v w : ℕ → Option ℕ) (x y n : ℕ) → x ≡ y → ((p : ℕ) → p < n → v p ≡ w p) → latest v x n ≡ latest w y n
latest_same v w x y zero e same = e
latest_same v w x y (suc n) e same =
    let below = latest_same v w x y n e (λ p h. same p (omega (arith, h))) in
    let here = same n (omega arith) in
    rw (below, here)

-- no version below the bound
pub latest_none : (v : ℕ → Option ℕ) (x n : ℕ) → ((p : ℕ) → p < n → v p ≡ None) → latest v x n ≡ x
latest_none v x zero none = refl
latest_none v x (suc n) none =
    let here = none n (omega arith) in
    rw here (latest_none v x n (λ p h. none p (omega (arith, h))))

-- what lies at or below a place with a version is not seen
pub latest_hidden : (v w : ℕ → Option ℕ) (x y n r : ℕ) → r < n → is_some (w r) ≡ true → ((p : ℕ) → p < n → r ≤ p → v p ≡ w p) → latest v x n ≡ latest w y n
latest_hidden v w x y zero r h some same = absurd (omega (arith, h))
latest_hidden v w x y (suc n) r h some same = rw here (elim (cases_below r n h) [
  | inl lt ↦ ap (unwrap_or (w n)) (latest_hidden v w x y n r lt some (λ p k. same p (omega (arith, k))))
  | inr is ↦ present (w n) _ _ (rw is at some)
])
  where
    here : v n ≡ w n
    here = same n (omega arith) (omega (arith, h))

    present : (o : Option ℕ) (i j : ℕ) → is_some o ≡ true → unwrap_or o i ≡ unwrap_or o j
    present None i j e = absurd (true≢false (sym e))
    present (Some k) i j e = refl

-- the latest version is that at a place with none above it
pub latest_at : (v : ℕ → Option ℕ) (x n m y : ℕ) → m < n → v m ≡ Some y → ((k : ℕ) → m < k → k < n → v k ≡ None) → latest v x n ≡ y
latest_at v x zero m y h is none = absurd (omega (arith, h))
latest_at v x (suc n) m y h is none = elim (cases_below m n h) [
  | inl lt ↦ let top : v n ≡ None = none n lt (omega arith) in rw top (latest_at v x n m y lt is (λ k i j. none k i (omega (arith, j))))
  | inr e ↦ let top : v n ≡ Some y = ap v (sym e) ∙ is in rw top
]

-- the lowest place joins the base
pub latest_first : (v : ℕ → Option ℕ) (x n : ℕ) → latest v x (suc n) ≡ latest (λ p. v (suc p)) (unwrap_or (v 0) x) n
latest_first v x zero = refl
latest_first v x (suc n) = ap (unwrap_or (v (suc n))) (latest_first v x n)

-- ---- the rows after each step

module _ (m : Versioned) (p a : ℕ) (within : p < length m.rows) where
  pub read_count : length (map.read m p a).rows ≡ length m.rows
  read_count = length-set m.rows p _

  pub read_version : (q b : ℕ) → version (map.read m p a) q b ≡ version m q b
  read_version q b = elim (cases_eq q p) [
    | inl e ↦ rw e (ap (λ (r : Row). r.versions b) (get_or-set_same m.rows p (read_row (row_at m p) p a) fresh_row within))
    | inr ne ↦ ap (λ (r : Row). r.versions b) (get_or-set_other m.rows p q (read_row (row_at m p) p a) fresh_row ne)
  ]

  pub read_exposed_other : (q b : ℕ) → q ≢ p → is_exposed (map.read m p a) q b ≡ is_exposed m q b
  read_exposed_other q b ne = ap (λ (r : Row). r.exposed b) (get_or-set_other m.rows p q (read_row (row_at m p) p a) fresh_row ne)

  pub read_exposed_same : (b : ℕ) → is_exposed (map.read m p a) p b ≡ (is_exposed m p b || ((a == b) && (not (p == 0) && is_none (version m p a))))
  read_exposed_same b = ap (λ (r : Row). r.exposed b) (get_or-set_same m.rows p (read_row (row_at m p) p a) fresh_row within)

-- ---- the victim

-- what is known of the tasks that a write leaves
pub record Guarded (m : Versioned) (p a n : ℕ) : Type 0 where
  pub reaches : p < n
  pub within : n ≤ length m.rows
  -- one above the writer that exposed the word does so behind a version above the writer's
  pub guarded : (q : ℕ) → p < q → q < n → is_exposed m q a ≡ true → (r : ℕ) × (p < r) × (r < q) × (is_some (version m r a) ≡ true)

pub not_chosen : (m : Versioned) (p a q : ℕ) → p < q → is_exposed m q a ≡ true → ((ltb p q && is_exposed m q a) && none_between m p q a) ≡ false → (r : ℕ) × (p < r) × (r < q) × (is_some (version m r a) ≡ true)
not_chosen m p a q h e f =
    let between : none_between m p q a ≡ false = rw (lt-ltb p q h, e) at f in
    let w = all_fails q _ between in
    let parts = or_parts (leb w.0 p) (is_none (version m w.0 a)) w.2 in
    (w.0, leb-false w.0 p parts.0, w.1, some_from (version m w.0 a) parts.1)
  where
    some_from : (o : Option ℕ) → is_none o ≡ false → is_some o ≡ true
    some_from None e = absurd (true≢false e)
    some_from (Some x) e = refl

pub survivors_are : (m : Versioned) (p a : ℕ) → p < length m.rows → Guarded m p a (survivors m p a)
survivors_are m p a h = elim (least_cases (length m.rows) (λ v. (ltb p v && is_exposed m v a) && none_between m p v a)) [
  | inl (none, never) ↦ rw none (record {
    reaches = h;
    within = omega arith;
    guarded = λ q k l e. not_chosen m p a q k e (never q l);
  })
  | inr (v, is, found) ↦ rw is (record {
    reaches = above (ltb p v) (is_exposed m v a) (none_between m p v a) refl found.passes;
    within = omega (arith, found.within);
    guarded = λ q k l e. not_chosen m p a q k e (found.before q l);
  })
]
  where
    above : {v : ℕ} (x y z : Bool) → ltb p v ≡ x → ((x && y) && z) ≡ true → p < v
    above {v} true y z e f = ltb-true p v e
    above {v} false y z e f = absurd (true≢false (sym f))

-- ---- the rows after a write, a cut, a commit and a beginning

module _ (m : Versioned) (p a w : ℕ) (within : p < length m.rows) where
  abbrev row : Row
  row = written_row (row_at m p) a w

  pub write_count : length (map.write m p a w).rows ≡ min (survivors m p a) (length m.rows)
  write_count = length-take (survivors m p a) (set m.rows p row) ∙ ap (min (survivors m p a)) (length-set m.rows p row)

  write_row : (q : ℕ) → q < survivors m p a → row_at (map.write m p a w) q ≡ get_or (set m.rows p row) q fresh_row
  write_row q h = get_or-take (survivors m p a) (set m.rows p row) q fresh_row h

  pub write_version_here : p < survivors m p a → (b : ℕ) → version (map.write m p a w) p b ≡ cond (a == b) (Some w) (version m p b)
  write_version_here h b = ap (λ (r : Row). r.versions b) (write_row p h ∙ get_or-set_same m.rows p row fresh_row within)

  pub write_version_other : (q b : ℕ) → q < survivors m p a → q ≢ p → version (map.write m p a w) q b ≡ version m q b
  write_version_other q b h ne = ap (λ (r : Row). r.versions b) (write_row q h ∙ get_or-set_other m.rows p q row fresh_row ne)

  pub write_exposed : (q b : ℕ) → q < survivors m p a → is_exposed (map.write m p a w) q b ≡ is_exposed m q b
  write_exposed q b h = ap (λ (r : Row). r.exposed b) (write_row q h) ∙ elim (cases_eq q p) [
    | inl e ↦ rw e (ap (λ (r : Row). r.exposed b) (get_or-set_same m.rows p row fresh_row within))
    | inr ne ↦ ap (λ (r : Row). r.exposed b) (get_or-set_other m.rows p q row fresh_row ne)
  ]

pub cut_row : (m : Versioned) (n q : ℕ) → q < n → row_at (map.squash m n) q ≡ row_at m q
cut_row m n q h = get_or-take n m.rows q fresh_row h

head_rows : (rows : List Row) → length (with_head rows) ≡ length rows
head_rows [] = refl
head_rows (r ∷ rows) = refl

pub commit_count : (m : Versioned) → length (map.commit m).rows ≡ length m.rows - 1
commit_count m = head_rows (drop 1 m.rows) ∙ length-drop 1 m.rows

pub commit_version : (m : Versioned) (q b : ℕ) → version (map.commit m) q b ≡ version m (1 + q) b
commit_version m q b = go (drop 1 m.rows) q ∙ ap (λ (r : Row). r.versions b) (get_or-drop 1 m.rows q fresh_row)
  where
    go : (rows : List Row) (q : ℕ) → (get_or (with_head rows) q fresh_row).versions b ≡ (get_or rows q fresh_row).versions b
    go [] q = refl
    go (r ∷ rows) zero = refl
    go (r ∷ rows) (suc q) = refl

pub commit_exposed_head : (m : Versioned) (b : ℕ) → is_exposed (map.commit m) 0 b ≡ false
commit_exposed_head m b = go (drop 1 m.rows)
  where
    go : (rows : List Row) → (get_or (with_head rows) 0 fresh_row).exposed b ≡ false
    go [] = refl
    go (r ∷ rows) = refl

pub commit_exposed : (m : Versioned) (q b : ℕ) → is_exposed (map.commit m) (suc q) b ≡ is_exposed m (1 + suc q) b
commit_exposed m q b = go (drop 1 m.rows) ∙ ap (λ (r : Row). r.exposed b) (get_or-drop 1 m.rows (suc q) fresh_row)
  where
    go : (rows : List Row) → (get_or (with_head rows) (suc q) fresh_row).exposed b ≡ (get_or rows (suc q) fresh_row).exposed b
    go [] = refl
    go (r ∷ rows) = refl

pub begin_count : (m : Versioned) → length (map.begin m).rows ≡ length m.rows + 1
begin_count m = length-append m.rows (fresh_row ∷ [])

pub begin_row_old : (m : Versioned) (q : ℕ) → q < length m.rows → row_at (map.begin m) q ≡ row_at m q
begin_row_old m q h = get_or_append_left m.rows (fresh_row ∷ []) fresh_row q h

pub begin_row_new : (m : Versioned) → row_at (map.begin m) (length m.rows) ≡ fresh_row
begin_row_new m = get_or_at m.rows fresh_row [] fresh_row (length m.rows) refl

-- ---- the walk that finds the victim

module _ (m : Versioned) (p a v : ℕ) (walked : IsWalked m p a v) where
  passed_over : (k : ℕ) → k < v → ((ltb p k && is_exposed m k a) && none_between m p k a) ≡ false
  passed_over k h = elim (cases_Bool (ltb p k)) [
    | inr low ↦ rw low
    | inl high ↦ let fresh = walked.fresh k (ltb-true p k high) h in rw (high, fresh)
  ]

  -- the first that exposed the word is the victim
  pub walk_finds : p < v → v < length m.rows → is_exposed m v a ≡ true → victim m p a ≡ Some v
  walk_finds high room exposed = least_found (length m.rows) _ v (record {
    within = room;
    passes =
        let between : none_between m p v a ≡ true = all_from v _ (λ r h. elim (cases_Bool (leb r p)) [
          | inl low ↦ rw low
          | inr above ↦ rw above (walked.unversioned r (leb-false r p above) h)
        ]) in
        rw (lt-ltb p v high, exposed, between);
    before = passed_over;
  })

  -- one with a version that did not expose the word ends the walk
  pub walk_stops : p < v → is_exposed m v a ≡ false → is_none (version m v a) ≡ false → victim m p a ≡ None
  walk_stops high fresh written = least_none (length m.rows) _ (λ k h. elim (cases_order k v) [
    | inl below ↦ passed_over k below
    | inr (inl here) ↦ let same : is_exposed m k a ≡ false = rw here fresh in rw same (both (ltb p k) _)
    | inr (inr above) ↦
        let between : none_between m p k a ≡ false = all_refuted k _ v above (rw (lt-leb v p high, written)) in
        rw between (right_false _)
  ])
    where
      right_false : (x : Bool) → (x && false) ≡ false
      right_false true = refl
      right_false false = refl

      both : (x y : Bool) → ((x && false) && y) ≡ false
      both true y = refl
      both false y = refl

      cases_order : (k v : ℕ) → (k < v) ⊎ ((k ≡ v) ⊎ (v < k))
      cases_order k v = grind arith

-- the walk came to the end
pub walk_ends : (m : Versioned) (p a : ℕ) → IsWalked m p a (length m.rows) → victim m p a ≡ None
walk_ends m p a walked = least_none (length m.rows) _ (passed_over m p a (length m.rows) walked)
