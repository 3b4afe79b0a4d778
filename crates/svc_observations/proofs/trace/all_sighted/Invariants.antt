use Rattle.std.proofs.Common.{◌≡◌, take}
use Rattle.svc_machine_laws.specs.Standing.{opened_at}
use Rattle.svc_observations.specs.Sightings.{all_sighted}
use Rattle.svc_observations.proofs.trace.all_sighted.Given as goal

abbrev pub invariant-loop-index : goal.invariant-loop-index
invariant-loop-index l = record {
  image : l.recorder.machine.image ≡ l.fn.image;
  config_is : l.recorder.machine.config ≡ l.fn.config;
  entries : l.recorder.entries ≡ take l.index l.entries;
  found : l.found.items ≡ all_sighted l.fn.image (opened_at l.fn.image l.fn.config 0) 0 (take l.index l.entries);
}
