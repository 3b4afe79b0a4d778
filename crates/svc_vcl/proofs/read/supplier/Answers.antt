use Rattle.std.proofs.Common.{◌≡◌, ◌∙◌, sym, ap, Some, None}
use Rattle.svc_vcl.specs.Listed.{nearest_version_in, newest_version_in}
use Rattle.svc_vcl.proofs.ReadPlans.{served_version, served_spill, served_committed, served_memory}
use Rattle.svc_vcl.proofs.read.supplier.Goals as goal

pub returns-in-Some-clause-served : goal.returns-in-Some-clause-served
returns-in-Some-clause-served c = λ b t a unit read.
    let found : nearest_version_in c.args.list.now.active c.args.place ≡ Some c.in-Some.version = ap (λ active. nearest_version_in active c.args.place) (sym c.active.ensures.lines) ∙ sym c.nearest_version.ensures ∙ c.in-Some.is in
    (served_version b t a c.args.list.now unit c.args.place c.args.spill c.args.backing read c.in-Some.version found).0

pub returns-in-Some-clause-value : goal.returns-in-Some-clause-value
returns-in-Some-clause-value c = λ b t a unit read.
    let found : nearest_version_in c.args.list.now.active c.args.place ≡ Some c.in-Some.version = ap (λ active. nearest_version_in active c.args.place) (sym c.active.ensures.lines) ∙ sym c.nearest_version.ensures ∙ c.in-Some.is in
    (served_version b t a c.args.list.now unit c.args.place c.args.spill c.args.backing read c.in-Some.version found).1

pub returns-in-Some-spill-clause-served : goal.returns-in-Some-spill-clause-served
returns-in-Some-spill-clause-served c = λ b t a unit read.
    let none : nearest_version_in c.args.list.now.active c.args.place ≡ None = ap (λ active. nearest_version_in active c.args.place) (sym c.active.ensures.lines) ∙ sym c.nearest_version.ensures ∙ c.in_default.is in
    (served_spill b t a c.args.list.now unit c.args.place c.args.spill c.args.backing read c.in-Some-spill.value none c.in-Some-spill.is).0

pub returns-in-Some-newest_version-clause-served : goal.returns-in-Some-newest_version-clause-served
returns-in-Some-newest_version-clause-served c = λ b t a unit read.
    let none : nearest_version_in c.args.list.now.active c.args.place ≡ None = ap (λ active. nearest_version_in active c.args.place) (sym c.active.ensures.lines) ∙ sym c.nearest_version.ensures ∙ c.in_default.is in
    let found : newest_version_in c.args.list.now.committed ≡ Some c.in-Some-newest_version.version = ap newest_version_in (sym c.committed.ensures.lines) ∙ sym c.newest_version.ensures ∙ c.in-Some-newest_version.is in
    (served_committed b t a c.args.list.now unit c.args.place c.args.spill c.args.backing read c.in-Some-newest_version.version none c.in_default-spill.is found).0

pub returns-in-Some-newest_version-clause-value : goal.returns-in-Some-newest_version-clause-value
returns-in-Some-newest_version-clause-value c = λ b t a unit read.
    let none : nearest_version_in c.args.list.now.active c.args.place ≡ None = ap (λ active. nearest_version_in active c.args.place) (sym c.active.ensures.lines) ∙ sym c.nearest_version.ensures ∙ c.in_default.is in
    let found : newest_version_in c.args.list.now.committed ≡ Some c.in-Some-newest_version.version = ap newest_version_in (sym c.committed.ensures.lines) ∙ sym c.newest_version.ensures ∙ c.in-Some-newest_version.is in
    (served_committed b t a c.args.list.now unit c.args.place c.args.spill c.args.backing read c.in-Some-newest_version.version none c.in_default-spill.is found).1

pub returns-in-None-clause-served : goal.returns-in-None-clause-served
returns-in-None-clause-served c = λ b t a unit read.
    let none : nearest_version_in c.args.list.now.active c.args.place ≡ None = ap (λ active. nearest_version_in active c.args.place) (sym c.active.ensures.lines) ∙ sym c.nearest_version.ensures ∙ c.in_default.is in
    let lacks : newest_version_in c.args.list.now.committed ≡ None = ap newest_version_in (sym c.committed.ensures.lines) ∙ sym c.newest_version.ensures ∙ c.in-None.is in
    (served_memory b t a c.args.list.now unit c.args.place c.args.spill c.args.backing read none c.in_default-spill.is lacks).0
