-- The texts of fields.
use Rattle.std.specs.Prelude.{ℕ, List, [], Option, Some, None, Bool, true, false, ◌==◌, ◌&&◌, ◌||◌, codes, decimal}
use Rattle.std.specs.Prelude.{get_or, length, nat_lt, ◌≡◌, ◌≢◌}
use Rattle.svc_base.specs.declared.ids.UnitId.{UnitId}
use Rattle.svc_base.specs.declared.ids.WordAddr.{WordAddr}
use Rattle.svc_history_laws.specs.declared.entry.Kind.{Kind}
use Rattle.svc_history_laws.specs.declared.entry.Kind.TheVariants as kind
use Rattle.svc_history_laws.specs.declared.entry.ReplyKind.{ReplyKind}
use Rattle.svc_history_laws.specs.declared.entry.ReplyKind.TheVariants as reply
use Rattle.svc_history_laws.specs.declared.entry.ServedKind.{ServedKind}
use Rattle.svc_history_laws.specs.declared.entry.ServedKind.TheVariants as served
use Rattle.svc_history_laws.specs.declared.entry.CutKind.{CutKind}
use Rattle.svc_history_laws.specs.declared.entry.CutKind.TheVariants as cause

-- the word for each kind, reply, supplier and cause
abbrev pub kind_word : Kind → List ℕ
kind_word kind.Assign = codes "assign"
kind_word kind.Submit = codes "submit"
kind_word kind.Replace = codes "replace"
kind_word kind.Cancel = codes "cancel"
kind_word kind.Commit = codes "commit"

abbrev pub reply_word : ReplyKind → List ℕ
reply_word reply.Assigned = codes "assigned"
reply_word reply.Ran = codes "ran"
reply_word reply.Loaded = codes "loaded"
reply_word reply.Stored = codes "stored"
reply_word reply.Emitted = codes "emitted"
reply_word reply.Trapped = codes "trapped"
reply_word reply.Replaced = codes "replaced"
reply_word reply.Cancelled = codes "cancelled"
reply_word reply.Committed = codes "committed"

abbrev pub served_word : ServedKind → List ℕ
served_word served.Hit = codes "hit"
served_word served.Reuse = codes "reuse"
served_word served.Version = codes "version"
served_word served.Spill = codes "spill"
served_word served.Committed = codes "committed"
served_word served.Memory = codes "memory"

abbrev pub cause_word : CutKind → List ℕ
cause_word cause.Violation = codes "violation"
cause_word cause.Guess = codes "guess"
cause_word cause.Cancel = codes "cancel"

-- 1 if a burst asks, otherwise 0
abbrev pub ask_word : Bool → List ℕ
ask_word true = codes "1"
ask_word false = codes "0"

abbrev pub unit_text : UnitId → List ℕ
unit_text unit = decimal unit.0

abbrev pub address_text : WordAddr → List ℕ
address_text addr = decimal addr.0

-- the field of a value that may not apply: empty if it doesn't
abbrev pub optional : {A : Type 0} → (A → List ℕ) → Option A → List ℕ
optional text None = []
optional text (Some x) = text x

-- a sign or a zero stands before other bytes
abbrev pub is_padded : List ℕ → Bool
is_padded field = (get_or field 0 0 == 43) || ((get_or field 0 0 == 48) && nat_lt 1 (length field))

-- what a field is read as: a value with P whose text it is, or none if no value with P has this text. No second rule
-- says what a field may look like.
abbrev pub Reads : {A : Type 0} → (A → Type 0) → (A → List ℕ) → List ℕ → Option A → Type 0
Reads {A} P text field None = (x : A) → P x → field ≢ text x
Reads P text field (Some x) = P x × (field ≡ text x)

abbrev pub IsAny : {A : Type 0} → A → Type 0
IsAny x = Unit {0}
