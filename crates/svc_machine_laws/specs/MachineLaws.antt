-- The laws that tie the whole machine to the plain machine, for any program.
use Rattle.std.specs.Prelude.{ℕ, ◌≡◌, ◌<◌, ◌==◌, true, not, ◌&&◌, Option, Some, slice_get}
use Rattle.svc_core_laws.specs.declared.end.End.{End}
use Rattle.svc_core_laws.specs.Program.{Want, Local, Load, Store, Narrow, Emit, Program, Run, wrote, exposed_words}
use Rattle.svc_core_laws.specs.Program.{output}
use Rattle.svc_core_laws.specs.Program.{over, part, seq, locals, are_local}
use Rattle.svc_bus_laws.specs.Versioned.{version, is_exposed, view}
use Rattle.svc_machine_laws.specs.PlainMachine.{Task, Plain, Running, running, memory_at}
use Rattle.svc_machine_laws.specs.WholeMachine.{machine_of}

-- a submit for the task at a place: this many local turns lead from the task's core to this core, and the asked turn,
-- if any, is the next one there
pub record Taken {C : Type 0} (p : Program C) (s : Plain) (place local : ℕ) (end : C)
    (ask : Option (Want C)) : Type 0 where
  pub run : Running C
  pub at : slice_get (running p s) place ≡ Some run
  pub own : are_local p local run.run.core ≡ true
  pub end_is : locals p local run.run.core ≡ end
  pub ask_is : (w : Want C) → ask ≡ Some w → p.want end ≡ w

-- the head, if there is one, has ended this way
pub record HasEnded {C : Type 0} (p : Program C) (s : Plain) : Type 0 where
  pub end : End
  pub is : (x : Running C) → slice_get (running p s) 0 ≡ Some x → p.done x.run.core ≡ Some end

-- the word that a turn wants, if any, is one of the first n
abbrev pub IsWithin : {C : Type 0} → ℕ → Want C → Type 0
IsWithin words (Local c) = Unit {0}
IsWithin words (Load a value go) = a < words
IsWithin words (Store a w c) = a < words
IsWithin words (Narrow a f c) = a < words
IsWithin words (Emit w c) = Unit {0}

-- the part of an active task: its run again, on the memory of its place
abbrev pub run_at : {C : Type 0} → Program C → Plain → (place : ℕ) → Task → Run C
run_at p s place t = part p t.entry t.turns (memory_at p (seq p s.commits).memory s.tasks place)

-- what the plain machine says of the active task at a place
pub record IsAnew {C : Type 0} (p : Program C) (s : Plain) (place : ℕ) (t : Task) : Type 0 where
  -- its core and waiting output are its part's
  pub seat : slice_get (machine_of p s).seats place
      ≡ Some (record {
        unit = t.unit;
        epoch = t.epoch;
        entry = t.entry;
        core = (run_at p s place t).core;
        waiting = output (run_at p s place t).log;
      })
  -- its versions are the written words with the values that its part leaves, and its exposed words, unless it is the
  -- head, are its part's
  pub versions : (a : ℕ) → version (machine_of p s).versioned place a ≡ wrote (run_at p s place t).log a
  pub exposes : (a : ℕ)
      → is_exposed (machine_of p s).versioned place a ≡ (not (place == 0) && exposed_words (run_at p s place t).log a)
  -- it reads the memory of its place, under what it wrote itself
  pub reads : (a : ℕ)
      → view (machine_of p s).versioned place a
      ≡ over (wrote (run_at p s place t).log) (memory_at p (seq p s.commits).memory s.tasks place) a
