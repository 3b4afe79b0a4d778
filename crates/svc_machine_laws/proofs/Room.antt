-- There are at most as many active tasks as units.
use Rattle.std.proofs.Common.{ℕ, suc, ◌≡◌, ◌==◌, ◌<◌, ◌≤◌, Bool, true, false, List, [], ◌∷◌, length, refl, sym, ap, ◌∙◌, subst, get_or, arith}
use Rattle.std.specs.Prelude.{◌||◌}
use Rattle.std.specs.List.{list_any, IsDistinct}
use Rattle.std.proofs.lemmas.Bool.{eqb-true, ne_eqb}
use Rattle.std.proofs.lemmas.List.{get_or_default}
use Rattle.std.proofs.lemmas.Map.Keys.{IsDistinct-from_apart}
use Rattle.std.proofs.lemmas.Map.Steps.{length-le_from_distinct_below}
use borrow.Author.Tests.{both_ways}
use Rattle.svc_base.specs.declared.config.Config.{Config}
use Rattle.svc_image.specs.Image.{Image}
use Rattle.svc_bus_laws.specs.LineTable.{LineTable}
use Rattle.svc_bus_laws.specs.Sound.{IsSound}
use Rattle.svc_machine_laws.specs.PlainMachine.{unit_of}
use Rattle.svc_machine_laws.specs.Standing.{Standing}
use Rattle.svc_machine_laws.specs.Reached.{IsReached}
use Rattle.svc_machine_laws.proofs.Followed.{map_count}

-- one that is found has a place
found_place : (xs : List ℕ) (q : ℕ) → list_any (λ x. q == x) xs ≡ true → (i : ℕ) × (i < length xs) × (get_or xs i 0 ≡ q)
found_place [] q h = absurd (both_ways false refl h)
found_place (x ∷ xs) q h = split (found_place xs q) (q == x) refl h
  where
    split : (list_any (λ y. q == y) xs ≡ true → (i : ℕ) × (i < length xs) × (get_or xs i 0 ≡ q)) → (b : Bool) → (q == x) ≡ b → (b || list_any (λ y. q == y) xs) ≡ true → (i : ℕ) × (i < suc (length xs)) × (get_or (x ∷ xs) i 0 ≡ q)
    split rest true e h = (0, omega arith, sym (eqb-true q x e))
    split rest false e h = let r = rest h in let lt = r.1 in (suc r.0, omega (arith, lt), r.2)

-- units of their own, each with a cache, are at most as many as the caches
units_few : (t : LineTable) → IsSound t → length t.units ≤ t.caches
units_few t sound = length-le_from_distinct_below t.units t.caches apart (λ q h. let r = found_place t.units q h in subst (λ u. u < t.caches) r.2 (sound.known_units r.0 r.1))
  where
    apart : IsDistinct (λ x y. x == y) t.units
    apart = IsDistinct-from_apart (λ x y. x == y) t.units (λ i j d before inside.
        ne_eqb _ _ (λ same.
        let at : get_or t.units i 0 ≡ get_or t.units j 0 = get_or_default t.units i 0 d (omega (arith, before, inside)) ∙ same ∙ get_or_default t.units j d 0 inside in
        let one = sound.distinct_units i j (omega (arith, before, inside)) inside at in
        absurd (omega (arith, one, before))))

pub tasks_few : (img : Image) (config : Config) (s : Standing) → IsReached img config s → length s.plain.tasks ≤ config.units
tasks_few img config s reached =
    let few = units_few s.lines reached.lines.sound in
    let units = ap length reached.lines.units ∙ map_count unit_of s.plain.tasks in
    let caches = reached.lines.caches in
    omega (arith, few, units, caches)
