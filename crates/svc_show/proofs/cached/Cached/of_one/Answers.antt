use Rattle.std.proofs.Common.{◌∙◌, Bool, ap, ap₂, arith, subst, sym}
use Rattle.std.specs.Prelude.{◌||◌, is_some}
use Rattle.svc_bus.specs.State.{bus_state}
use Rattle.svc_show.specs.declared.cached.Cached.{Cached}
use Rattle.svc_show.specs.declared.cached.Versions.{Versions}
use Rattle.svc_show.specs.Named.{AreVersions, and_line}
use Rattle.svc_show.proofs.Namers.{its_line, its_version, line_past, version_past}
use Rattle.svc_show.proofs.cached.Cached.of_one.Goals as goal

pub returns-then-from-units : goal.returns-then-from-units
returns-then-from-units c =
    let b = bus_state c.args.machine.now.bus in
    let n = c.args.named in
    let unit = c.args.unit in
    let units = c.args.units in
    let shown = c.line_of_named.ensures in
    record {
      line =
          c.and.ensures.line ∙ ap₂ (λ (x y : Bool). x || y) (ap (λ (k : Cached). k.line) c.nothing.ensures) (ap is_some shown)
          ∙ sym (its_line b n unit c.requires.alone units (omega arith));
      versions =
          subst (AreVersions b n units)
          (sym (c.and.ensures.versions ∙ ap₂ and_line (ap (λ (k : Cached). k.versions) c.nothing.ensures) shown)) (its_version b n unit c.requires.alone units (omega arith));
    }

pub returns-else-from-units : goal.returns-else-from-units
returns-else-from-units c =
    let b = bus_state c.args.machine.now.bus in
    let n = c.args.named in
    let unit = c.args.unit in
    let units = c.args.units in
    record {
      line = ap (λ (k : Cached). k.line) c.nothing-else-from-units.ensures ∙ sym (line_past b n unit c.requires.alone units (omega arith));
      versions = subst (AreVersions b n units) (sym (ap (λ (k : Cached). k.versions) c.nothing-else-from-units.ensures)) (version_past b n unit c.requires.alone units (omega arith));
    }
