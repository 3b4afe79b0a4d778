use Rattle.std.proofs.Common.{◌≡◌, take}
use Rattle.svc_instruction_profile.specs.Addresses.{addresses}
use Rattle.svc_instruction_profile.proofs.addresses.note_all.Given as goal

abbrev pub invariant-loop-index : goal.invariant-loop-index
invariant-loop-index l = record {
  image : l.recorder.machine.image ≡ l.fn.recorder.machine.image;
  config : l.recorder.machine.config ≡ l.fn.recorder.machine.config;
  before : l.recorder.entries ≡ take l.index l.entries;
  asked : l.asked.items ≡ addresses l.fn.recorder.machine.image l.fn.recorder.machine.config (take l.index l.entries);
}
