use Rattle.std.proofs.Common.{arith, rules, refl, ℕ, ◌≡◌, ◌<◌, ◌≤◌, ◌+◌, length, get_or, sym, ap, ◌∙◌, subst, List, map, None, Bool, true, false, nat_lt, replicate}
use Rattle.std.proofs.lemmas.Bool.Decides.{nat_tests}
use Rattle.std.proofs.lemmas.List.{length-map, get_or-replicate, get_or_past, length-set}
use Rattle.svc_history_laws.specs.declared.entry.Entry.{Entry}
use Rattle.svc_history_laws.specs.declared.entry.Slip.{Slip}
use Rattle.svc_history_laws.specs.declared.entry.Kind.TheVariants.{Assign}
use Rattle.svc_history_laws.specs.declared.entry.ReplyKind.TheVariants.{Assigned}
use Rattle.svc_threads.specs.Outcomes.{slip_at, AllAgreeTo}
use Rattle.svc_threads.proofs.Agreeing.{items_of, listed, all_first, all_skip, all_take, all_short, all_other}
use Rattle.svc_threads.proofs.outcome.agreeing.Goals as goal
use Rattle.svc_threads.proofs.outcome.agreeing.Goals.{then-unit-lists+else-next-slips+else-not-is_slip, else-unit-lists, then-next-slips-via-then-next-slips, then-next-slips-via-else-next-slips+then-not-is_slip}

abbrev nothing : Entry
nothing = record { kind = Assign; unit = record { 0 = 0 }; arg = None; local = None; ask = None; reply = Assigned; addr = None; word = None; served = None; from = None; cause = None; first = None; squashed = None }

abbrev no_slip : Slip
no_slip = slip_at 0 nothing

zeros : (unit : ℕ) → ◌≡◌ {A = ℕ} (get_or (replicate 256 0) unit 0) 0
zeros unit = go (nat_lt unit 256) refl
  where
    go : (b : Bool) → nat_lt unit 256 ≡ b → ◌≡◌ {A = ℕ} (get_or (replicate 256 0) unit 0) 0
    go true e = get_or-replicate 256 unit 0 0 (grind (arith, nat_tests))
    go false e = get_or_past (replicate 256 0) unit 0 (grind (arith, nat_tests))

pub loop-index-init : goal.loop-index-init
loop-index-init c = record { room = refl; agree = all_first c.args.entries.now (replicate 256 0) (map items_of c.args.lists.now) zeros }

pub returns-then-next-slips-clause-none : goal.returns-then-next-slips-clause-none
returns-then-next-slips-clause-none c _ all =
    let h = c.loop-index.invariant in
    let i : ℕ = c.loop-index.index in
    let u : ℕ = c.from-unit.result in
    let es = c.args.entries.now in
    let lists = c.args.lists.now in
    let inside : i < length es = c.loop-index-test.true in
    let own : (get_or es i nothing).unit.0 ≡ u = search rules in
    let same_list = listed lists u c.index-lists-unit.result c.as_slice-slips.result.now c.if-unit-lists.true c.index-lists-unit.is c.as_slice-slips.ensures.value in
    let there : u < length (map items_of lists) = omega (arith, length-map lists items_of, c.if-unit-lists.true) in
    elim c.then-next-slips.branch [
      | then-next-slips-via-then-next-slips w ↦
          all_short i u (length lists) es c.loop-index.ends (map items_of lists) nothing h.agree inside own there c.if-unit-lists.true
          (subst (λ (s : List Slip). length s ≤ get_or c.loop-index.ends u 0) (sym same_list) w.if-next-slips.true) all
      | then-next-slips-via-else-next-slips+then-not-is_slip w ↦
          all_other i u (length lists) es c.loop-index.ends (map items_of lists) nothing no_slip h.agree inside own there c.if-unit-lists.true
          (subst (λ (s : List Slip). get_or c.loop-index.ends u 0 < length s) (sym same_list) w.if-next-slips.false)
          (λ same. absurd (cc (w.is_slip.ensures.1 (ap (λ (s : List Slip). get_or s (get_or c.loop-index.ends u 0) no_slip) (sym same_list) ∙ same), w.if-not-is_slip.true))) all
    ]

pub loop-index-preserved : goal.loop-index-preserved
loop-index-preserved c =
    let h = c.loop-index.invariant in
    let i : ℕ = c.loop-index.index in
    let u : ℕ = c.from-unit.result in
    let es = c.args.entries.now in
    let lists = c.args.lists.now in
    let ends = c.loop-index.ends in
    let inside : i < length es = c.loop-index-test.true in
    let own : (get_or es i nothing).unit.0 ≡ u = search rules in
    elim c.if-unit-lists.branch [
      | then-unit-lists+else-next-slips+else-not-is_slip w ↦
          let next : ℕ = get_or ends u 0 in
          let same_list = listed lists u w.index-lists-unit.result w.as_slice-slips.result.now w.if-unit-lists.true w.index-lists-unit.is w.as_slice-slips.ensures.value in
          let there : u < length (map items_of lists) = omega (arith, length-map lists items_of, w.if-unit-lists.true) in
          let same : get_or w.as_slice-slips.result.now next no_slip ≡ slip_at i (get_or es i nothing) = search rules in
          record {
            room = ap length w.ends-is ∙ (length-set ends u (next + 1) ∙ h.room);
            agree = subst (λ (news : List ℕ). AllAgreeTo (i + 1) es news (map items_of lists)) (sym w.ends-is)
                (all_take i u es ends (map items_of lists) nothing no_slip h.agree inside own there (search rules)
                (subst (λ (s : List Slip). next < length s) (sym same_list) w.if-next-slips.false)
                (ap (λ (s : List Slip). get_or s next no_slip) same_list ∙ same));
          }
      | else-unit-lists w ↦ record {
        room = ap length w.ends-is ∙ h.room;
        agree = subst (λ (news : List ℕ). AllAgreeTo (i + 1) es news (map items_of lists)) (sym w.ends-is)
            (all_skip i es ends (map items_of lists) nothing h.agree inside (omega (arith, own, w.if-unit-lists.false, length-map lists items_of)));
      }
    ]

pub returns-clause-some : goal.returns-clause-some
returns-clause-some c =
    let h = c.loop-index.invariant in
    let last : c.loop-index.index ≡ length c.args.entries.now = omega (arith, c.loop-index-test.false, c.loop-index.auto.index-end) in
    subst (λ (i : ℕ). AllAgreeTo i c.args.entries.now c.loop-index.ends (map items_of c.args.lists.now)) last h.agree
