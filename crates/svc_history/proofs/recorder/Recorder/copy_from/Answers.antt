use Rattle.std.proofs.Common.{◌≡◌, ◌++◌, ◌∙◌, ap, ap₂, sym, subst, arith, true, is_ok, length, List}
use Rattle.std.specs.Prelude.{if◌then◌else◌}
use Rattle.svc_base.specs.declared.config.Config.{Config}
use Rattle.svc_machine.specs.Value.{MachineValue}
use Rattle.svc_history_laws.specs.declared.entry.Entry.{Entry}
use Rattle.svc_history.specs.Kept.{IsKept}
use Rattle.svc_history.specs.Recorded.{Recorded}
use Rattle.svc_history.proofs.recorder.Recorder.copy_from.Goals as goal
use Rattle.svc_history.proofs.recorder.Recorder.copy_from.Goals.{After-extend_from_slice-room}

pub copy_from-requires-clause-image : goal.copy_from-requires-clause-image
copy_from-requires-clause-image c =
    ap (λ (r : Recorded). r.machine.image) c.self.view_is ∙ c.requires.image ∙ sym (ap (λ (r : Recorded). r.machine.image) c.other.view_is)

pub copy_from-requires-clause-config : goal.copy_from-requires-clause-config
copy_from-requires-clause-config c =
    ap (λ (r : Recorded). r.machine.config) c.self.view_is ∙ c.requires.config ∙ sym (ap (λ (r : Recorded). r.machine.config) c.other.view_is)

-- after it
module _ (c : After-extend_from_slice-room) where
  abbrev other : Recorded
  other = record { machine = c.other.inside.machine; entries = c.other.inside.entries.items }

  config : c.self.inside.machine.config ≡ c.other.inside.machine.config
  config = ap (λ (r : Recorded). r.machine.config) c.self.view_is ∙ c.requires.config ∙ sym (ap (λ (r : Recorded). r.machine.config) c.other.view_is)

  ok : is_ok c.extend_from_slice-room.result ≡ true
  ok =
      let kept = c.other.invariant.0 in
      let count = kept.accepted in
      let few = kept.reached.accepted_few in
      let same = ap (λ (g : Config). g.events) config in
      let room = c.self.invariant.1 in
      let long = ap (λ (l : List Entry). length l) c.deref.ensures.value in
      let cleared = c.clear.ensures.capacity in
      let none = c.clear.ensures.len in
      c.extend_from_slice-room.ensures.succeeds (omega (arith, count, few, same, room, long, cleared, none))

  entries : c.extend_from_slice-room.new.self.items ≡ c.other.inside.entries.items
  entries =
      c.extend_from_slice-room.ensures.items ∙ ap (λ b. if b then c.clear.new.self.items ++ c.deref.result.now else c.clear.new.self.items) ok
      ∙ ap₂ {C = List Entry} (λ (a b : List Entry). a ++ b) c.clear.ensures.items c.deref.ensures.value

  same : record { machine = c.copy_from.new.self; entries = c.extend_from_slice-room.new.self.items } ≡ other
  same = ap₂ {C = Recorded} (λ (m : MachineValue) (l : List Entry). record { machine = m; entries = l }) c.copy_from.ensures entries

pub invariant_of-self : goal.invariant_of-self
invariant_of-self c = (
  subst IsKept (sym (same (goal.at.invariant_of-self c).After-extend_from_slice-room)) c.other.invariant.0,
  (let events = ap (λ (m : MachineValue). m.config.events) c.copy_from.ensures in
      let same_events = ap (λ (g : Config). g.events) (config (goal.at.invariant_of-self c).After-extend_from_slice-room) in
      let room = c.self.invariant.1 in
      let cleared = c.clear.ensures.capacity in
      let more = c.extend_from_slice-room.ensures.capacity in
      omega (arith, events, same_events, room, cleared, more)),
)

pub returns : goal.returns
returns c = same (goal.at.returns c).After-extend_from_slice-room ∙ c.other.view_is
