-- A run that has ended has an ending that is an exit, a trap or a full history.
use Rattle.std.proofs.Common.{ℕ, zero, suc, ◌≡◌, Bool, true, false, ◌||◌, Option, Some, None, refl, sym, true≢false}
use Rattle.std.specs.Prelude.{is_some, ⊤}
use Rattle.svc_image.specs.Image.{Image}
use Rattle.svc_core_laws.specs.declared.end.End.{End}
use Rattle.svc_core_laws.specs.declared.end.End.TheVariants as end
use Rattle.svc_core_laws.specs.Program.{stopped_after}
use Rattle.svc_core_laws.specs.Sequence.{PlainSeq, ending_of, next_plain, plain_seq, plain_task}
use Rattle.svc_machine.specs.Reads.{is_full}
use Rattle.svc_machine.specs.Value.{MachineValue}
use Rattle.svc_history.specs.Glances.{has_ended}
use Rattle.svc_schedule.specs.Steps.{ending_at, is_over}

-- what stops a run is an exit or a trap
abbrev Stops : Option End → Type 0
Stops None = ⊤
Stops (Some (end.Next e)) = ⊥
Stops (Some (end.Exit code)) = ⊤
Stops (Some (end.Trap number)) = ⊤

after_stops : (done : Option End) → Stops (stopped_after done)
after_stops None = tt
after_stops (Some (end.Next e)) = tt
after_stops (Some (end.Exit code)) = tt
after_stops (Some (end.Trap number)) = tt

next_stops : (img : Image) (s : PlainSeq) (due : Option ℕ) → Stops s.stopped → Stops (next_plain img s due).stopped
next_stops img s None known = known
next_stops img s (Some e) known = after_stops (plain_task img e s.memory).core.done

seq_stops : (img : Image) (k : ℕ) → Stops (plain_seq img k).stopped
seq_stops img zero = tt
seq_stops img (suc k) = next_stops img (plain_seq img k) (plain_seq img k).due (seq_stops img k)

over : (full : Bool) (stopped : Option End) (due : Option ℕ) → Stops stopped → (is_some stopped || full) ≡ true
    → is_over (ending_of full stopped due) ≡ true
over true None due known ended = refl
over false None due known ended = absurd (true≢false (sym ended))
over full (Some (end.Next e)) due known ended = elim known [ ]
over full (Some (end.Exit code)) due known ended = refl
over full (Some (end.Trap number)) due known ended = refl

pub ended_is_over : (m : MachineValue) → has_ended m ≡ true → is_over (ending_at m) ≡ true
ended_is_over m ended =
    over (is_full m) (plain_seq m.image m.plain.commits).stopped (plain_seq m.image m.plain.commits).due
    (seq_stops m.image m.plain.commits) ended
