-- The exit status of what was done is 2 at most.
use Rattle.std.specs.Prelude.{is_some}
use Rattle.std.proofs.Common.{◌≡◌, ◌≤◌, ℕ, Bool, true, false, cond, List, Option, Some, None, arith}
use Rattle.svc_core_laws.specs.declared.end.Ending.{Ending}
use Rattle.svc_core_laws.specs.declared.end.Ending.TheVariants as ending
use Rattle.svc_history.specs.Recorded.{Recorded}
use Rattle.svc_report.specs.declared.table.TableRow.{TableRow}
use Rattle.svc_request.specs.Held.{Held}
use Rattle.svc_request.specs.declared.request.Request.{Request}
use Rattle.svc_request.specs.declared.request.Request.TheVariants as request
use Rattle.svc_answer.specs.Requests.{Does}
use Rattle.svc_answer.specs.Runs.{ReportsRun, status_of}

of_ending : (e : Ending) (exit : ℕ) → exit ≡ status_of e → exit ≤ 2
of_ending (ending.Exit code) exit is = omega (arith, is)
of_ending (ending.Trap number) exit is = omega (arith, is)
of_ending (ending.Full entry) exit is = omega (arith, is)
of_ending (ending.Open entry) exit is = omega (arith, is)

of_nothing : (exit : ℕ) → exit ≡ 0 → exit ≤ 2
of_nothing exit is = omega (arith, is)

of_run : (row : Option TableRow) (r : Recorded) (old new : Option (List ℕ)) (exit : ℕ) → ReportsRun row r old new exit → exit ≤ 2
of_run None r old new exit report = of_ending _ exit report.status
of_run (Some row) r old new exit report = of_ending _ exit report.status

of_whole : (whole : Bool) (exit : ℕ) → exit ≡ cond whole 0 2 → exit ≤ 2
of_whole true exit is = omega (arith, is)
of_whole false exit is = omega (arith, is)

pub two_at_most : (asked : Request) (held saved : Held) (old new : Option (List ℕ)) (exit : ℕ) → Does asked held saved old new exit → exit ≤ 2
two_at_most (request.Help text) held saved old new exit done = of_nothing exit done.status
two_at_most request.Version held saved old new exit done = of_nothing exit done.status
two_at_most (request.Run run) held saved old new exit (img, image, r, is_run, goes, trace, report) = of_run run.row r old new exit report
two_at_most (request.Sequential tasks) held saved old new exit (img, image, report) = of_ending _ exit report.status
two_at_most (request.Depend depended) held saved old new exit (img, image, (names, named, tells)) = of_ending _ exit tells.status
two_at_most (request.Explore explored) held saved old new exit (img, image, (names, named, tells)) = of_whole tells.exploration.whole exit tells.status
two_at_most (request.Find explored sought trace) held saved old new exit (img, image, (names, named, finds)) = of_whole (is_some finds.seen) exit finds.status
two_at_most (request.Observe traced asked) held saved old new exit (img, image, es, trace, (names, named, tells)) = of_nothing exit tells.status
two_at_most (request.Script scripted) held saved old new exit (img, image, steps, script, plays) = of_ending _ exit plays.report.status
two_at_most (request.Check traced compared script) held saved old new exit (img, image, es, trace, (found, same, sound, saves, leads)) = of_nothing exit sound.status
two_at_most (request.Profile traced to by asked) held saved old new exit (img, image, es, trace, (names, named, told)) = of_nothing exit told.status
two_at_most (request.Show traced shown) held saved old new exit (img, image, es, trace, (names, named, told)) = of_nothing exit told.status
two_at_most (request.Draw traced picture) held saved old new exit (drawn, quiet, zero) = of_nothing exit zero
two_at_most (request.Export traced exported) held saved old new exit (saves, quiet, zero) = of_nothing exit zero
two_at_most (request.Assemble assembly) held saved old new exit (made, named, quiet) = of_nothing exit made.status
two_at_most (request.List image asked) held saved old new exit (img, is_image, (names, named, lists)) = of_nothing exit lists.status
