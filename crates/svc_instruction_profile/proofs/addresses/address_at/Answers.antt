use Rattle.std.proofs.Common.{◌≡◌, ◌∙◌, ◌+◌, ℕ, Some, ap, option_map, subst, sym, true}
use Rattle.svc_image.specs.Image.{Image}
use Rattle.svc_core_laws.specs.Bursts.{IsAdvance}
use Rattle.svc_core_laws.specs.State.{State}
use Rattle.svc_history_laws.specs.Legal.{the_local}
use Rattle.svc_instruction_profile.specs.Addresses.{asks}
use Rattle.svc_instruction_profile.proofs.Standing.{burst_asks}
use Rattle.svc_instruction_profile.proofs.addresses.address_at.Goals as goal

pub returns : goal.returns
returns c s here legal =
    let e = c.args.entry.now in
    let m = c.args.machine.now in
    let b = c.refill.new.self in
    let is = c.refill.ensures.lease in
    let asking : asks e ≡ true = cc in
    let local : c.from-local.result + 1 ≡ the_local e + 1 = ap (λ (n : ℕ). n + 1) (c.from-local.ensures ∙ c.unwrap_or.ensures) in
    let advance : IsAdvance m.image (the_local e + 1) b =
    subst (λ (n : ℕ). IsAdvance m.image n b) local
    (subst (λ (i : Image). IsAdvance i (c.from-local.result + 1) b) c.image.ensures c.refill.ensures.advance) in
    ap Some (c.pc.ensures ∙ ap (λ (core : State). core.pc) c.end.ensures.end)
    ∙ sym (burst_asks m s e c.in_ok-lease.lease.now b here legal asking
    (sym c.lease.ensures ∙ ap (option_map (λ lent. lent.now)) (c.in_ok-lease.was {u = tt})) is.0 is.1 is.2 advance)
