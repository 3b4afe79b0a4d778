use Rattle.std.specs.Prelude.{◌≡◌, take}
use Rattle.svc_script.specs.Suppliers.{AllAlike}
use Rattle.svc_script.proofs.suppliers.follow_all.Given as goal

abbrev pub invariant-loop-index : goal.invariant-loop-index
invariant-loop-index l = record {
  image : l.recorder.machine.image ≡ l.fn.recorder.machine.image;
  config : l.recorder.machine.config ≡ l.fn.recorder.machine.config;
  alike : AllAlike l.recorder.entries (take l.index l.entries);
}
