use Rattle.std.proofs.Common.{arith}
use Rattle.std.specs.Prelude.{flat_map}
use Rattle.std.proofs.lemmas.List.Sums.{sum_by-append}
use Rattle.svc_task_runs.specs.Runs.{tasks_of}
use Rattle.svc_profile.specs.declared.shares.WordShare.{WordShare}
use Rattle.svc_profile.specs.Counts.{amount, entry_counted, task_counted}
use Rattle.svc_profile.proofs.tally.tally.Goals as goal

pub add_entries-requires-clause-few : goal.add_entries-requires-clause-few
add_entries-requires-clause-few c k =
    let es = c.args.entries.now in
    let both = sum_by-append (λ (s : WordShare). amount k s.counts) (flat_map entry_counted es) (flat_map (task_counted es) (tasks_of es)) in
    let few = c.requires.few k in
    omega (arith, both, few)
