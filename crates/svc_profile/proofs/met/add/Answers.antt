use Rattle.std.proofs.Common.{◌≡◌, ◌∙◌, ap, rules}
use Rattle.std.specs.BTreeMap.{insert_entry}
use Rattle.svc_profile.specs.declared.met.Met.{Met}
use Rattle.svc_profile.specs.Met.{by_between, met_again, met_at}
use Rattle.svc_profile.proofs.MetRows.{in_place}
use Rattle.svc_profile.proofs.met.add.Goals as goal

pub returns : goal.returns
returns c =
    let m = c.args.meeting in
    let rows = c.args.met.now.entries in
    let so_far : c.unwrap_or-so_far.result ≡ met_at m.between rows = search rules in
    c.in_ok-insert.ensures.entries
    ∙ ap (λ (k : Met). insert_entry by_between rows m.between k) (c.again.ensures ∙ ap (λ (k : Met). met_again k m) so_far)
    ∙ in_place m rows c.len-rows.ensures.ordered
