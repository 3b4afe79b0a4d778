-- Which fields of two entries are the same.
use Rattle.std.specs.Prelude.{◌≡◌}
use Rattle.svc_history_laws.specs.declared.entry.Entry.{Entry}

-- those of the event
abbrev pub HaveSameEvent : Entry → Entry → Type 0
HaveSameEvent a b = (a.kind ≡ b.kind) × (a.unit ≡ b.unit) × (a.arg ≡ b.arg) × (a.local ≡ b.local) × (a.ask ≡ b.ask)

-- those of what was done
abbrev pub HaveSameDeed : Entry → Entry → Type 0
HaveSameDeed a b =
    (a.reply ≡ b.reply) × (a.addr ≡ b.addr) × (a.word ≡ b.word) × (a.served ≡ b.served) × (a.from ≡ b.from)

-- those of the cut
abbrev pub HaveSameCut : Entry → Entry → Type 0
HaveSameCut a b = (a.cause ≡ b.cause) × (a.first ≡ b.first) × (a.squashed ≡ b.squashed)
