use Rattle.std.proofs.Common.{◌∙◌, ap, subst, sym}
use Rattle.svc_bus.specs.State.{bus_state}
use Rattle.svc_show.specs.declared.cached.Cached.{Cached}
use Rattle.svc_show.specs.Named.{AreVersions}
use Rattle.svc_show.proofs.Namers.{nobody_line, nobody_version}
use Rattle.svc_show.proofs.cached.Cached.of.Goals as goal

pub returns-in-Nobody : goal.returns-in-Nobody
returns-in-Nobody c =
    let b = bus_state c.args.machine.now.bus in
    let n = c.args.named in
    record {
      line = ap (λ (k : Cached). k.line) c.nothing.ensures ∙ sym (nobody_line b n c.in-Nobody.is c.args.units);
      versions = subst (AreVersions b n c.args.units) (sym (ap (λ (k : Cached). k.versions) c.nothing.ensures)) (nobody_version b n c.in-Nobody.is c.args.units);
    }
