-- A schedule that goes on from before any event is a scheduled run.
use Rattle.std.proofs.Common.{ℕ, ◌≡◌, ◌+◌, ◌≤◌, ◌∙◌, ◌⊎◌, true, List, [], length, ap, subst, sym, arith, inl, inr}
use Rattle.svc_base.specs.declared.config.Config.{Config}
use Rattle.svc_base.specs.declared.ids.UnitId.{UnitId}
use Rattle.svc_image.specs.Image.{Image}
use Rattle.svc_history.specs.Recorded.{Recorded}
use Rattle.svc_schedule.specs.Steps.{GoesOn, IsScheduled, Steps, ending_at, is_over}

module _ {P : Type 0} (Gives : P → Recorded → List UnitId → P → Type 0) (most : ℕ) (old new : P) (start r : Recorded) (goes : GoesOn Gives most old new start r) (none : start.entries ≡ []) where
  same_count : goes.count ≡ length r.entries
  same_count = let added = goes.added in let empty = ap length none in omega (arith, added, empty)

  ends : (turns : ℕ) → start.machine.config.turns ≡ turns → (is_over (ending_at r.machine) ≡ true) ⊎ (goes.count ≡ start.machine.config.turns)
      → (is_over (ending_at r.machine) ≡ true) ⊎ (length r.entries ≡ turns)
  ends turns same (inl over) = inl over
  ends turns same (inr spent) = inr (sym same_count ∙ spent ∙ same)

  pub scheduled : (img : Image) (config : Config) → start.machine.image ≡ img → start.machine.config ≡ config → IsScheduled Gives img config most old new r
  scheduled img config image is_config =
      let turns : start.machine.config.turns ≡ config.turns = ap (λ (c : Config). c.turns) is_config in
      let few : goes.count ≤ start.machine.config.turns = goes.few in
      record {
        image = goes.image ∙ image;
        config_is = goes.config_is ∙ is_config;
        legal = goes.legal;
        opened = start;
        no_entries = none;
        steps = subst (λ (n : ℕ). Steps Gives most n old new start r) same_count goes.steps;
        few = omega (arith, few, same_count, turns);
        gets_on = ends config.turns turns goes.gets_on;
      }
