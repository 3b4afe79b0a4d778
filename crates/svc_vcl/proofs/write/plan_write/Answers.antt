use Rattle.std.proofs.Common.{◌≡◌, ◌∙◌, ◌<◌, sym, ap, ap₂, subst, Option, List, length, arith, unwrap_or, take, ◌++◌, ◌&&◌, ◌||◌, refl, is_some}
use Rattle.svc_line.specs.Bits.{bits_of, after_store}
use Rattle.svc_bus_laws.specs.BusSteps.{is_overtaken_line, line_after_cut}
use Rattle.svc_bus_laws.specs.BusLine.{is_active_line, purged_line, version_of_line}
use Rattle.svc_bus_laws.specs.LineTable.{is_cut}
use Rattle.svc_bus_laws.specs.BusView.{bus_line_at, bus_map}
use Rattle.svc_links_laws.specs.LinkSteps.{place_after, unit_of}
use Rattle.svc_bus_laws.specs.Versioned.{survivors}
use Rattle.svc_vol.specs.declared.held_line.HeldLine.{HeldLine}
use Rattle.svc_vcl.specs.Listed.{slot_at, is_overtaken_in, nearest_version_in, next_version_in, victim_in}
use Rattle.svc_vcl.specs.Planned.{becomes_stale, copies_in, is_named, marked_where, own_bits, passed_in, relinked_in, unit_in}
use Rattle.svc_vcl.proofs.Slots.{victim_is}
use Rattle.svc_vcl.proofs.WritePlans.{few_left, left, other_line, overtaken_after, stale_is, written_line}
use Rattle.svc_vcl.proofs.Linking.{changed_named, marked_again, next_unit, previous_named, previous_unit}
use Rattle.svc_vcl.proofs.Staling.{stale_named_in}
use Rattle.svc_vcl.proofs.write.plan_write.Goals as goal

pub is_overtaken-overtaken-requires : goal.is_overtaken-overtaken-requires
is_overtaken-overtaken-requires c =
    let active = c.active-active.result.now in
    let left : c.unwrap_or-left.result ≡ unwrap_or (victim_in active c.args.place) (length active) = c.unwrap_or-left.ensures ∙ ap (λ victim. unwrap_or victim (length active)) c.victim-victim.ensures in
    let few = few_left active c.args.place (subst (λ (slots : List (Option HeldLine)). c.args.place < length slots) (sym c.active-active.ensures.lines) c.requires) in
    omega arith

pub returns-clause-victim : goal.returns-clause-victim
returns-clause-victim c = λ b t a request.
    c.victim-victim.ensures ∙ ap (λ active. victim_in active c.args.place) c.active-active.ensures.lines ∙ victim_is b t a c.args.list.now c.args.unit.0 c.args.place request

pub returns-clause-line : goal.returns-clause-line
returns-clause-line c = λ b t a request.
    let list = c.args.list.now in
    let place = c.args.place in
    let left : c.unwrap_or-left.result ≡ unwrap_or (victim_in c.active-active.result.now place) (length c.active-active.result.now) = c.unwrap_or-left.ensures ∙ ap (λ victim. unwrap_or victim (length c.active-active.result.now)) c.victim-victim.ensures in
    let passed : c.is_overtaken-overtaken.result ≡ is_overtaken_line b (survivors (bus_map b) place a) place a =
    c.is_overtaken-overtaken.ensures ∙ ap (λ n. is_overtaken_in c.active-active.result.now n place) left
    ∙ ap (λ active. is_overtaken_in active (unwrap_or (victim_in active place) (length active)) place) c.active-active.ensures.lines
    ∙ overtaken_after b t a list c.args.unit.0 place request in
    let bits : bits_of c.on_store-bits.result ≡ after_store (own_bits (slot_at list.active place)) c.is_overtaken-overtaken.result =
    c.on_store-bits.ensures ∙ ap (λ own. after_store own c.is_overtaken-overtaken.result) (c.own_bits.ensures ∙ ap (λ active. own_bits (slot_at active place)) c.active-active.ensures.lines) in
    written_line b t a list c.args.unit.0 place request c.args.value (bits_of c.on_store-bits.result) c.is_overtaken-overtaken.result bits passed

pub next_version-requires-clause-few : goal.next_version-requires-clause-few
next_version-requires-clause-few c =
    let active = c.active-active.result.now in
    let left : c.unwrap_or-left.result ≡ unwrap_or (victim_in active c.args.place) (length active) = c.unwrap_or-left.ensures ∙ ap (λ victim. unwrap_or victim (length active)) c.victim-victim.ensures in
    let few = few_left active c.args.place (subst (λ (slots : List (Option HeldLine)). c.args.place < length slots) (sym c.active-active.ensures.lines) c.requires) in
    omega arith

-- how many tasks are left
left_is : (c : goal.After-unit_of) → c.unwrap_or-left.result ≡ unwrap_or (victim_in c.args.list.now.active c.args.place) (length c.args.list.now.active)
left_is c =
    c.unwrap_or-left.ensures ∙ ap (λ victim. unwrap_or victim (length c.active-active.result.now)) c.victim-victim.ensures
    ∙ ap (λ active. unwrap_or (victim_in active c.args.place) (length active)) c.active-active.ensures.lines

pub returns-clause-next : goal.returns-clause-next
returns-clause-next c = λ b t a request.
    let list = c.args.list.now in
    let place = c.args.place in
    let few = few_left list.active place c.requires in
    let same = request.described.places in
    c.unit_of-next.ensures
    ∙ ap unit_in (c.next_version.ensures ∙ ap₂ (λ active n. next_version_in active n place) c.active-active.ensures.lines (left_is c))
    ∙ next_unit b t a list c.args.unit.0 place request (unwrap_or (victim_in list.active place) (length list.active)) (omega (arith, few, same))
    ∙ ap (λ n. unit_of b.units (place_after n (λ q. is_some (version_of_line (bus_line_at b q a))) place)) (left b t a list c.args.unit.0 place request)

nearest_is : (c : goal.After-unit_of) → c.nearest_version-nearest.result ≡ nearest_version_in c.args.list.now.active c.args.place
nearest_is c = c.nearest_version-nearest.ensures ∙ ap (λ active. nearest_version_in active c.args.place) c.active-active.ensures.lines

pub returns-clause-previous : goal.returns-clause-previous
returns-clause-previous c = λ b t a request. c.unit_of.ensures ∙ ap unit_in (nearest_is c) ∙ previous_unit b t a c.args.list.now c.args.unit.0 c.args.place request

pub returns-clause-listed : goal.returns-clause-listed
returns-clause-listed c =
    let list = c.args.list.now in
    c.list_previous.ensures.listed
    ∙ ap₂ (λ (xs : List HeldLine) (o : Option HeldLine). xs ++ relinked_in o)
    (c.list_earlier.ensures.listed
    ∙ ap₂ (λ (xs ys : List HeldLine). xs ++ ys)
    (c.list_copies.ensures.listed ∙ ap₂ (λ (xs committed : List HeldLine). xs ++ copies_in committed c.args.unit.0) c.clear.ensures c.committed.ensures.lines)
    (ap (λ (active : List (Option HeldLine)). passed_in (take c.args.place active)) c.active-active.ensures.lines))
    (nearest_is c)

pub returns-clause-linked : goal.returns-clause-linked
returns-clause-linked c = λ other e.
    ap (λ (versions : List HeldLine). is_named versions other) (returns-clause-listed c)
    ∙ previous_named c.args.list.now c.args.unit.0 c.args.place other (omega arith) (sym (c.unit_of.ensures ∙ ap unit_in (nearest_is c)) ∙ e)

pub returns-clause-stale : goal.returns-clause-stale
returns-clause-stale c = λ b t a other request.
    ap (λ (versions : List HeldLine). is_named versions other) (returns-clause-listed c)
    ∙ changed_named c.args.list.now c.args.unit.0 c.args.place other
    ∙ ap (λ x. x || is_named (relinked_in (nearest_version_in c.args.list.now.active c.args.place)) other) (stale_named_in c.args.list.now c.args.unit.0 c.args.place other (omega arith) ∙ stale_is b t a c.args.list.now c.args.unit.0 c.args.place request other)

pub returns-clause-others : goal.returns-clause-others
returns-clause-others c = λ b t a value other request ne.
    other_line b t a c.args.list.now c.args.unit.0 c.args.place request other ne value (becomes_stale b c.args.place a other) refl
    ∙ marked_again b t a c.args.list.now c.args.unit.0 c.args.place request other (becomes_stale b c.args.place a other) (is_cut b.units (survivors (bus_map b) c.args.place a) other && is_active_line (b.lines other a))
    ∙ ap (λ x. marked_where x (purged_line (line_after_cut b (survivors (bus_map b) c.args.place a) other a))) (sym (returns-clause-stale c b t a other request))
