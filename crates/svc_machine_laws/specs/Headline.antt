-- The headline: what the committed tasks have left is what the sequential run leaves on one flat memory of bytes.
use Rattle.std.specs.Prelude.{ℕ, ◌≡◌}
use Rattle.svc_image.specs.Image.{Image}
use Rattle.svc_core_laws.specs.Bytes.{word_at}
use Rattle.svc_core_laws.specs.Sequence.{plain_seq}
use Rattle.svc_bus_laws.specs.LineTable.{committed_value}
use Rattle.svc_machine_laws.specs.Standing.{Whole}

-- the committed tasks are the first k of the sequential order, and committed memory, output, due entry and stop are
-- exactly what running them one after another leaves
pub record IsSequential (img : Image) (k : ℕ) (w : Whole) : Type 0 where
  pub tasks : w.machine.versioned.commits ≡ k
  pub memory : (a : ℕ) → committed_value w.lines a ≡ word_at (plain_seq img k).memory a
  pub output : w.machine.output ≡ (plain_seq img k).output
  pub due : w.machine.due ≡ (plain_seq img k).due
  pub stopped : w.machine.stopped ≡ (plain_seq img k).stopped
