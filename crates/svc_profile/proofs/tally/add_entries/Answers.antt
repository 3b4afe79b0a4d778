use Rattle.std.proofs.Common.{[], None}
use Rattle.svc_history_laws.specs.declared.entry.Entry.{Entry}
use Rattle.svc_history_laws.specs.declared.entry.Kind.TheVariants as kind
use Rattle.svc_history_laws.specs.declared.entry.ReplyKind.TheVariants as reply
use Rattle.svc_profile.specs.Counts.{entry_counts}
use Rattle.svc_profile.proofs.Tallies.{tally_room, tally_step}
use Rattle.svc_profile.proofs.tally.add_entries.Goals as goal

abbrev nothing : Entry
nothing = record {
  kind = kind.Assign;
  unit = record { 0 = 0 };
  arg = None;
  local = None;
  ask = None;
  reply = reply.Assigned;
  addr = None;
  word = None;
  served = None;
  from = None;
  cause = None;
  first = None;
  squashed = None;
}

pub add_for-requires : goal.add_for-requires
add_for-requires c =
    record { few = rw c.of_entry.ensures (tally_room (λ (e : Entry). e.addr) entry_counts [] c.args.entries.now c.loop-entry.entry-index nothing c.loop-entry.words c.loop-entry-test.true c.loop-entry.invariant c.requires.few) }

pub loop-entry-preserved : goal.loop-entry-preserved
loop-entry-preserved c =
    tally_step (λ (e : Entry). e.addr) entry_counts [] c.args.entries.now c.loop-entry.entry-index nothing c.loop-entry.words c.add_for.new.words c.loop-entry-test.true c.loop-entry.invariant (rw c.of_entry.ensures at c.in_ok-add_for.ensures)
