use Rattle.std.proofs.Common.{◌≡◌, ◌-◌, ◌^◌, ◌==◌, Bool, false, cond, Some, None, refl, ap, ◌∙◌, arith}
use Rattle.std.specs.Prelude.{nat_le}
use Rattle.std.proofs.lemmas.Bool.{lt-leb, ne_eqb}
use Rattle.svc_base.specs.declared.refusal.Refusal.TheVariants as refusal
use Rattle.svc_machine_laws.specs.Refusals.{refuse}
use Rattle.svc_machine_laws.specs.Standing.{refusal_of}
use Rattle.svc_machine_laws.proofs.rows.first_assignment.Goals as goal

-- a list of cases none of which holds
three_off : (unit events epoch : Bool) → unit ≡ false → events ≡ false → epoch ≡ false
    → cond unit (Some refusal.NoSuchUnit) (cond events (Some refusal.HistoryFull) (cond epoch (Some refusal.EpochsSpent) None)) ≡ None
three_off unit events epoch u e p =
    ap (λ b. cond b (Some refusal.NoSuchUnit) (cond events (Some refusal.HistoryFull) (cond epoch (Some refusal.EpochsSpent) None))) u
    ∙ ap (λ b. cond b (Some refusal.HistoryFull) (cond epoch (Some refusal.EpochsSpent) None)) e
    ∙ ap (λ b. cond b (Some refusal.EpochsSpent) None) p

pub returns : goal.returns
unfolding refusal_of refuse
returns c = record {
  opening = λ img first. refl;
  accepted = λ img config first choice ne.
      three_off (nat_le config.units 0) (nat_le config.events 0) (first == 2 ^ 64 - 1)
      (lt-leb config.units 0 (omega (arith, config.some_units))) (lt-leb config.events 0 (omega (arith, config.some_events))) (ne_eqb first (2 ^ 64 - 1) ne);
  guess = λ img first unit choice. refl;
  next = refl;
  wraps = refl;
}
