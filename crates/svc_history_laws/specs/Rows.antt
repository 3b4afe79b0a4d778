-- Entries of a worked row.
use Rattle.std.specs.Prelude.{ℕ, true, Some, None}
use Rattle.svc_history_laws.specs.declared.entry.Kind.TheVariants.{Assign, Submit}
use Rattle.svc_history_laws.specs.declared.entry.ReplyKind.TheVariants as reply
use Rattle.svc_history_laws.specs.declared.entry.ServedKind.TheVariants as kind
use Rattle.svc_history_laws.specs.declared.entry.Entry.{Entry}
use Rattle.svc_history_laws.specs.Entries.{plain_entry}

-- an assignment to the unit
abbrev pub assignment_of : (unit : ℕ) → Entry
assignment_of unit =
    let e : Entry = plain_entry Assign (record { 0 = unit }) (Some 0) None None in
    record e { reply = reply.Assigned; word = Some 0 }

-- an asked turn without local ones
abbrev pub asking : (unit : ℕ) → Entry
asking unit = plain_entry Submit (record { 0 = unit }) None (Some 0) (Some true)

abbrev pub loading : (unit addr word : ℕ) → Entry
loading unit addr word =
    let e : Entry = asking unit in
    record e { reply = reply.Loaded; addr = Some (record { 0 = addr }); word = Some word; served = Some kind.Memory }

-- a store of less than a word, which first read its word
abbrev pub storing_part : (unit addr word : ℕ) → Entry
storing_part unit addr word =
    let e : Entry = asking unit in
    record e { reply = reply.Stored; addr = Some (record { 0 = addr }); word = Some word; served = Some kind.Hit }

abbrev pub putting_out : (unit word : ℕ) → Entry
putting_out unit word = let e : Entry = asking unit in record e { reply = reply.Emitted; word = Some word }
