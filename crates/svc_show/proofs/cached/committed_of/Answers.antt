use Rattle.std.proofs.Common.{◌∙◌, subst, sym}
use Rattle.svc_image.specs.Image.{IsImage}
use Rattle.svc_core_laws.specs.Turns.{data_words}
use Rattle.svc_bus.specs.State.{bus_state}
use Rattle.svc_show.specs.Named.{AreVersions}
use Rattle.svc_show.proofs.Caches.{no_other, no_version, the_value, the_version}
use Rattle.svc_show.proofs.Settled.{one_left, settled}
use Rattle.svc_show.proofs.cached.committed_of.Goals as goal

pub returns-in-Absent : goal.returns-in-Absent
returns-in-Absent c =
    let m = c.args.machine.now in
    let n = c.args.named in
    let b = bus_state m.bus in
    let units = m.config.units in
    let stands = c.config-standing.ensures.standing in
    let reached = c.config-standing.ensures.reached stands.0 stands.1 in
    let sound = subst IsImage c.image.ensures c.start-start.ensures.sound in
    let none = subst (AreVersions b n units) c.in-Absent.is c.requires.versions in
    c.backing_of.ensures ∙ settled m stands.0 stands.1 reached sound n.word.0 (no_version b n (data_words m.image) units c.requires.own none)

pub returns-in-One : goal.returns-in-One
returns-in-One c =
    let m = c.args.machine.now in
    let n = c.args.named in
    let b = bus_state m.bus in
    let units = m.config.units in
    let words = data_words m.image in
    let value = c.in-One.value in
    let stands = c.config-standing.ensures.standing in
    let reached = c.config-standing.ensures.reached stands.0 stands.1 in
    let sound = subst IsImage c.image.ensures c.start-start.ensures.sound in
    let one = subst (AreVersions b n units) c.in-One.is c.requires.versions in
    let own = c.requires.own in
    sym (the_value b n words units value own one)
    ∙ one_left m stands.0 stands.1 reached sound n.word.0 one.unit one.inside (the_version b n words units value own one) (no_other b n words units value own one)
