use Rattle.std.proofs.Common.{◌≡◌, ◌+◌, ◌<◌, ◌^◌, get_or, take, arith}
use Rattle.svc_profile.specs.Profile.{part_of, total}
use Rattle.svc_profile.proofs.Fits.{fits}
use Rattle.svc_task_runs.proofs.Nobody.{nobody}
use Rattle.svc_profile.proofs.totals.Total.over.Goals as goal

pub overflow_add-sum : goal.overflow_add-sum
overflow_add-sum c =
    let rs = c.args.runs.now in
    let i = c.loop-run.run-index in
    let few : total (take i rs) c.args.self + part_of c.args.self (get_or rs i nobody) < 2 ^ 64 = fits c.args.self rs i nobody c.loop-run-test.true c.requires.few c.requires.light in
    let sum : c.loop-run.sum ≡ total (take i rs) c.args.self = c.loop-run.invariant in
    let part : c.part-sum.result ≡ part_of c.args.self (get_or rs i nobody) = c.part-sum.ensures in
    omega (arith, few, sum, part)
