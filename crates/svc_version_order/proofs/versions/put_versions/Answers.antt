use Rattle.std.proofs.Common.{Some, ◌∙◌, ap, subst, sym}
use Rattle.std.specs.Io.KnownBytes.{Appends}
use Rattle.svc_bus.specs.State.{bus_state}
use Rattle.svc_bus.specs.Versions.{AreItsVersions}
use Rattle.svc_report.proofs.PlainLines.{on_ok}
use Rattle.svc_version_order.specs.Order.{version_fields}
use Rattle.svc_version_order.proofs.VersionFields.{fields_of_versions}
use Rattle.svc_version_order.proofs.versions.put_versions.Goals as goal

pub returns : goal.returns
returns c =
    let m = c.args.machine.now in
    let bus = bus_state m.bus in
    let word = c.args.named.word.0 in
    let at = c.config-standing.ensures.standing in
    let caches = at.1.lines.caches ∙ (c.config-standing.ensures.reached at.0 at.1).lines.caches in
    let are = subst (AreItsVersions bus word) (sym c.deref.ensures.0) c.committed_versions.ensures in
    let same = fields_of_versions bus at.0.lines word c.deref.result.now at.1.lines are ∙ ap (λ n. version_fields n bus word) caches in
    on_ok c.put_each.result (subst (Appends (Some c.args.rows.now.items) (Some c.put_each.new.rows.items)) same) c.put_each.ensures
