use Rattle.std.proofs.Common.{◌≡◌, ◌∙◌, sym, ap, ap₂, Some, None, length, arith}
use Rattle.svc_line.specs.Bits.{bits_of}
use Rattle.svc_bus_laws.specs.BusSteps.{is_overtaken_line}
use Rattle.svc_vcl.specs.Listed.{slot_at, is_overtaken_in, reusable_copy_in}
use Rattle.svc_vcl.specs.Planned.{supplier_of}
use Rattle.svc_bus_laws.specs.Supplier.{Hit, Reuse}
use Rattle.svc_vcl.proofs.Slots.{overtaken_is}
use Rattle.svc_vcl.proofs.ReadPlans.{fill_line, fill_supplier, hit_supplier, hit_value, reuse_line, reuse_supplier, reuse_valid, reuse_value, view_is}
use Rattle.svc_vcl.proofs.read.plan_read.Goals as goal

pub returns-in-Some-clause-value : goal.returns-in-Some-clause-value
returns-in-Some-clause-value c = λ b t a read.
    let list = c.args.list.now in
    let own = c.in-Some.own in
    let slot : slot_at list.active c.args.place ≡ Some own = ap (λ active. slot_at active c.args.place) (sym c.active.ensures.lines) ∙ c.in-Some.is in
    view_is b t a list c.args.unit.0 c.args.place c.args.spill c.args.backing read Hit own.line.value
    (hit_supplier b t a list c.args.unit.0 c.args.place c.args.spill c.args.backing read own slot)
    (hit_value b t a list c.args.unit.0 c.args.place c.args.spill c.args.backing read own slot)

-- the task has no active line, and its unit has a copy of the word
unowned : (c : goal.After-on_reuse) → slot_at c.args.list.now.active c.args.place ≡ None
unowned c = ap (λ active. slot_at active c.args.place) (sym c.active.ensures.lines) ∙ c.in_default.is

copied : (c : goal.After-on_reuse) → reusable_copy_in c.args.list.now.committed c.args.unit.0 ≡ Some c.in-Some-reusable_copy.copy
copied c = ap (λ committed. reusable_copy_in committed c.args.unit.0) (sym c.committed.ensures.lines) ∙ sym c.reusable_copy.ensures ∙ c.in-Some-reusable_copy.is

pub returns-in-Some-reusable_copy-clause-served : goal.returns-in-Some-reusable_copy-clause-served
returns-in-Some-reusable_copy-clause-served c = λ b t a read.
    let list = c.args.list.now in
    let copy = c.in-Some-reusable_copy.copy in
    reuse_supplier b t a list c.args.unit.0 c.args.place c.args.spill c.args.backing read (unowned c) copy (copied c)

pub returns-in-Some-reusable_copy-clause-value : goal.returns-in-Some-reusable_copy-clause-value
returns-in-Some-reusable_copy-clause-value c = λ b t a read.
    let list = c.args.list.now in
    let copy = c.in-Some-reusable_copy.copy in
    view_is b t a list c.args.unit.0 c.args.place c.args.spill c.args.backing read Reuse copy.line.value
    (reuse_supplier b t a list c.args.unit.0 c.args.place c.args.spill c.args.backing read (unowned c) copy (copied c))
    (reuse_value b t a list c.args.unit.0 c.args.place c.args.spill c.args.backing read (unowned c) copy (copied c))

pub returns-in-Some-reusable_copy-clause-line : goal.returns-in-Some-reusable_copy-clause-line
returns-in-Some-reusable_copy-clause-line c = λ b t a read.
    let list = c.args.list.now in
    let copy = c.in-Some-reusable_copy.copy in
    reuse_line b t a list c.args.unit.0 c.args.place c.args.spill c.args.backing read (unowned c) copy (copied c) (bits_of c.on_reuse.result) c.on_reuse.ensures

pub returns-in-Some-reusable_copy-clause-valid : goal.returns-in-Some-reusable_copy-clause-valid
returns-in-Some-reusable_copy-clause-valid c = λ b t a read.
    let list = c.args.list.now in
    let copy = c.in-Some-reusable_copy.copy in
    reuse_valid b t a list c.args.unit.0 c.args.place c.args.spill c.args.backing read (unowned c) copy (copied c) (bits_of c.on_reuse.result) c.on_reuse.ensures

-- the task has no active line, and its unit no copy
unread : (c : goal.After-on_load) → slot_at c.args.list.now.active c.args.place ≡ None
unread c = ap (λ active. slot_at active c.args.place) (sym c.active.ensures.lines) ∙ c.in_default.is

uncopied : (c : goal.After-on_load) → reusable_copy_in c.args.list.now.committed c.args.unit.0 ≡ None
uncopied c = ap (λ committed. reusable_copy_in committed c.args.unit.0) (sym c.committed.ensures.lines) ∙ sym c.reusable_copy.ensures ∙ c.in_default-reusable_copy.is

pub returns-clause-served : goal.returns-clause-served
returns-clause-served c = λ b t a read.
    let list = c.args.list.now in
    fill_supplier b t a list c.args.unit.0 c.args.place c.args.spill c.args.backing read (unread c) (uncopied c) (supplier_of c.supplier-served.result.0) (c.supplier-served.ensures.served b t a c.args.unit.0 read)

pub returns-clause-value : goal.returns-clause-value
returns-clause-value c = λ b t a read.
    let list = c.args.list.now in
    view_is b t a list c.args.unit.0 c.args.place c.args.spill c.args.backing read (supplier_of c.supplier-served.result.0) c.supplier-served.result.1 (returns-clause-served c b t a read) (c.supplier-served.ensures.value b t a c.args.unit.0 read)

pub returns-clause-line : goal.returns-clause-line
returns-clause-line c = λ b t a read.
    let list = c.args.list.now in
    let same : length c.active-3.result.now ≡ length b.units = ap length c.active-3.ensures.lines ∙ read.request.described.places in
    let passed : c.is_overtaken-overtaken.result ≡ is_overtaken_line b (length b.units) c.args.place a =
    c.is_overtaken-overtaken.ensures ∙ ap₂ (λ active n. is_overtaken_in active n c.args.place) c.active-2.ensures.lines same ∙ overtaken_is b t a list c.args.unit.0 c.args.place read.request (length b.units) (omega arith) in
    fill_line b t a list c.args.unit.0 c.args.place c.args.spill c.args.backing read (unread c) (uncopied c) c.supplier-served.result.1 (bits_of c.on_load.result) c.is_first_use.result c.is_overtaken-overtaken.result (returns-clause-value c b t a read) c.on_load.ensures c.is_first_use.ensures passed
