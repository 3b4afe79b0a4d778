-- What the type of a recorder guarantees.
use Rattle.std.specs.Prelude.{◌≡◌, ◌+◌, ◌≤◌, length}
use Rattle.svc_image.specs.Image.{IsImage}
use Rattle.svc_machine_laws.specs.Reached.{IsReached}
use Rattle.svc_history_laws.specs.Board.{board}
use Rattle.svc_history.specs.Recorded.{Recorded, IsLegal, standing_of}

-- the history is legal, and the machine is where it leads, which is a standing that events lead to. It has an entry for
-- each accepted event, commits among them, and each assigned task was committed or squashed or is active.
pub record IsKept (r : Recorded) : Type 0 where
  pub legal : IsLegal r
  pub image : IsImage r.machine.image
  pub reached : IsReached r.machine.image r.machine.config (standing_of r)
  pub accepted : length r.entries ≡ (standing_of r).plain.accepted
  pub commits : (standing_of r).plain.commits ≡ (board r.entries).committed
  pub events : (board r.entries).events ≡ (standing_of r).plain.accepted
  pub assigned :
      (board r.entries).assigned
      ≡ (board r.entries).committed + (board r.entries).squashed + length (standing_of r).plain.tasks
  pub assigned_few : (board r.entries).assigned ≤ (board r.entries).events
