-- The walk over the later tasks' lines, of a line table and of a state that callers see.
use Rattle.std.proofs.Common.{get_or, ◌≡◌, ◌≢◌, refl, sym, ap, ◌∙◌, ℕ, suc, zero, ◌+◌, ◌-◌, ◌<◌, ◌≤◌, Bool, not, ◌&&◌, cond, Option, None, length, is_some, arith, ne_eqb}
use Rattle.std.specs.Bool.{◌==◌}
use Rattle.std.specs.Option.{option_or}
use Rattle.svc_bus_laws.specs.Search.{tabulate}
use Rattle.svc_bus_laws.specs.Versioned.{Row, Versioned, fresh_row, version, is_exposed, victim}
use Rattle.svc_bus_laws.specs.LineTable.{LineTable, version_in, exposed_in, line_at, row_of, versioned_map}
use Rattle.svc_bus_laws.specs.BusLine.{is_exposed_line, version_of_line}
use Rattle.svc_bus_laws.specs.BusState.{BusState}
use Rattle.svc_bus_laws.specs.BusView.{bus_line_at, bus_row, bus_map, bus_walk}
use Rattle.svc_bus_laws.specs.Walk.{walk, walk_lines}
use Rattle.svc_bus_laws.proofs.Searches.{length-tabulate, get_or-tabulate}
use Rattle.svc_bus_laws.proofs.Tables.{or_none}
use Rattle.svc_bus_laws.proofs.MapViews.{walk_is}

-- walks whose tests are the same on their way
walk_same : (e f s r : ℕ → Bool) (v n : ℕ) → ((q : ℕ) → v ≤ q → q < v + n → e q ≡ f q) → ((q : ℕ) → v ≤ q → q < v + n → s q ≡ r q) → walk e s v n ≡ walk f r v n
walk_same e f s r v zero x y = refl
walk_same e f s r v (suc n) x y =
    let shown = x v (omega arith) (omega arith) in
    let stored = y v (omega arith) (omega arith) in
    let rest = walk_same e f s r (suc v) n (λ q h i. x q (omega (arith, h)) (omega (arith, i))) (λ q h i. y q (omega (arith, h)) (omega (arith, i))) in
    rw (shown, stored, rest)

-- a walk by tests that are those of the rows above the head
walk_tabulated : (m : Versioned) (n : ℕ) (row : ℕ → Row) (exposes stores : ℕ → Bool) (p a : ℕ) → m.rows ≡ tabulate n row
    → ((q : ℕ) → q ≢ 0 → exposes q ≡ (row q).exposed a) → ((q : ℕ) → q ≢ 0 → stores q ≡ is_some ((row q).versions a))
    → walk exposes stores (suc p) (n - suc p) ≡ victim m p a
walk_tabulated m n row exposes stores p a rows e s =
    walk_same _ _ _ _ (suc p) (n - suc p)
    (λ q h i. e q (omega (arith, h)) ∙ sym (ap (λ (r : Row). r.exposed a) (at q (omega (arith, h, i)))))
    (λ q h i. s q (omega (arith, h)) ∙ sym (ap (λ (r : Row). is_some (r.versions a)) (at q (omega (arith, h, i)))))
    ∙ ap (λ k. walk (λ q. is_exposed m q a) (λ q. is_some (version m q a)) (suc p) (k - suc p)) (sym (ap length rows ∙ length-tabulate n row))
    ∙ walk_is m p a
  where
    at : (q : ℕ) → q < n → get_or m.rows q fresh_row ≡ row q
    at q h = ap (λ rs. get_or rs q fresh_row) rows ∙ get_or-tabulate n row q fresh_row h

above_head : (q : ℕ) (x : Bool) → q ≢ 0 → x ≡ (not (q == 0) && x)
above_head q x ne = rw (ne_eqb q 0 ne)

own_only : (q : ℕ) (o spilled : Option ℕ) → q ≢ 0 → is_some o ≡ is_some (option_or o (cond (q == 0) spilled None))
own_only q o spilled ne = rw (ne_eqb q 0 ne, or_none o)

pub line_walk : (t : LineTable) (p a : ℕ) → walk_lines t p a ≡ victim (versioned_map t) p a
line_walk t p a = walk_tabulated (versioned_map t) (length t.units) (row_of t) _ _ p a refl
    (λ q ne. above_head q (exposed_in (line_at t q a)) ne)
    (λ q ne. own_only q (version_in (line_at t q a)) (t.spill a) ne)

pub walk_seen : (b : BusState) (p a : ℕ) → bus_walk b p a ≡ victim (bus_map b) p a
walk_seen b p a = walk_tabulated (bus_map b) (length b.units) (bus_row b) _ _ p a refl
    (λ q ne. above_head q (is_exposed_line (bus_line_at b q a)) ne)
    (λ q ne. own_only q (version_of_line (bus_line_at b q a)) (b.spill a) ne)
