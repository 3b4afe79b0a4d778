use Rattle.std.proofs.Common.{arith}
use Rattle.svc_observations.proofs.sight.number_of.Goals as goal

pub overflow_add-result : goal.overflow_add-result
overflow_add-result c =
    let few = c.args.roster.now.few in
    let within = c.place_of.ensures.within in
    let len = c.deref.ensures.len in
    let ok = c.args.roster.now.units.ok in
    let small = c.args.roster.now.units.small in
    omega (arith, few, within, len, ok.0, ok.1, small)
