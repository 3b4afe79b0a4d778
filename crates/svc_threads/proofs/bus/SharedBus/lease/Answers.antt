use Rattle.svc_threads.proofs.Leasing.{leases_own}
use Rattle.svc_threads.proofs.Owning.{glanced}
use Rattle.svc_threads.proofs.bus.SharedBus.lease.Goals as goal

pub returns-clause-glance : goal.returns-clause-glance
returns-clause-glance g c = glanced c.recorder.result.now c.args.unit c.glance.result c.glance.ensures.legal c.glance.ensures.glance

pub returns-clause-own : goal.returns-clause-own
returns-clause-own g c = leases_own c.recorder.result.now.machine c.args.unit c.glance.result c.glance.ensures.glance
