use Rattle.svc_bus_laws.proofs.SeenLaws.{opened_agrees, own_state}
use Rattle.svc_bus_laws.proofs.SoundSeen.{same_agrees, sound_seen}
use Rattle.svc_bus_laws.proofs.agreement.state_law.Goals as goal

pub returns : goal.returns
returns c = record { opened = opened_agrees; own = own_state; same = same_agrees; sound = sound_seen }
