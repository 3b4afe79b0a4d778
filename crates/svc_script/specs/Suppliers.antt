-- Traces whose reads name other suppliers.
use Rattle.std.specs.Prelude.{◌≡◌, ⊤, ℕ, ◌+◌, Bool, true, ◌&&◌, List, [], ◌∷◌, ◌++◌, Some, None, is_some, slice_get}
use Rattle.std.specs.Prelude.{take}
use Rattle.svc_base.specs.declared.config.Config.{Config}
use Rattle.svc_image.specs.Image.{Image}
use Rattle.svc_machine_laws.specs.Events.{Event}
use Rattle.svc_machine_laws.specs.Standing.{Standing, refusal_of, reply_to}
use Rattle.svc_history_laws.specs.declared.entry.Entry.{Entry}
use Rattle.svc_history_laws.specs.declared.entry.Kind.{Kind}
use Rattle.svc_history_laws.specs.declared.entry.Kind.TheVariants.{Assign, Submit, Replace, Cancel, Commit}
use Rattle.svc_history_laws.specs.Entries.{entry_of}
use Rattle.svc_history_laws.specs.Legal.{LegalHistory, led_to}
use Rattle.svc_history_laws.specs.Replay.{IsRefusedThere, IsReplay}
use Rattle.svc_history.specs.Recorded.{IsLegal, Recorded, standing_of}
use Rattle.svc_history.specs.declared.trace.TraceFault.{TraceFault}
use Rattle.svc_history.specs.declared.trace.TraceFaultKind.{TraceFaultKind}
use Rattle.svc_history.specs.declared.trace.TraceFaultKind.TheVariants.{Memory, Refused, Differs}

-- an entry with the supplier that another one names
abbrev pub supplied_as : Entry → (other : Entry) → Entry
supplied_as e other = record e { served = other.served; from = other.from }

-- they are the same but for the supplier
abbrev pub AreAlike : Entry → Entry → Type 0
AreAlike found e = found ≡ supplied_as e found

-- so is each entry of one list and the one at its place in the other
abbrev pub AllAlike : List Entry → List Entry → Type 0
AllAlike [] [] = ⊤
AllAlike (f ∷ fs) (e ∷ es) = AreAlike f e × AllAlike fs es
AllAlike [] (e ∷ es) = ⊥
AllAlike (f ∷ fs) [] = ⊥

-- the numbers that its event needs are there
abbrev pub has_numbers : Kind → Entry → Bool
has_numbers Assign e = is_some e.arg
has_numbers Submit e = is_some e.local && is_some e.ask
has_numbers Replace e = is_some e.arg
has_numbers Cancel e = true
has_numbers Commit e = true

-- a recorder goes on by an entry that is this one but for the supplier
pub record Follows (r : Recorded) (e : Entry) (next : Recorded) : Type 0 where
  pub found : Entry
  pub alike : AreAlike found e
  pub legal : IsLegal next
  pub entries : next.entries ≡ r.entries ++ found ∷ []

-- with these suppliers the entries are a legal history
pub record IsSoundWith (img : Image) (config : Config) (es found : List Entry) : Type 0 where
  pub alike : AllAlike found es
  pub legal : LegalHistory img config found

-- the entry's event is accepted there, and has an entry that is another one but for the supplier, too
pub record DiffersElsewhere (img : Image) (config : Config) (s : Standing) (e : Entry) : Type 0 where
  pub event : Event
  pub replay : IsReplay img s.plain e event
  pub accepted : refusal_of img config s event ≡ None
  pub entry : AreAlike (entry_of event (reply_to img s event)) e → ⊥

-- the entries before the index are sound with some suppliers, and with no suppliers those up to the entry there, of
-- which this holds where the ones before it lead
pub record IsFirstWrong (img : Image) (config : Config) (es : List Entry) (index : ℕ)
    (Is : Standing → Entry → Type 0) : Type 0 where
  pub found : List Entry
  pub before : IsSoundWith img config (take index es) found
  pub entry : Entry
  pub there : slice_get es index ≡ Some entry
  pub wrong : Is (led_to img config found) entry
  pub faulty : (other : List Entry) → IsSoundWith img config (take (index + 1) es) other → ⊥

-- the fault names the first faulty entry and its kind: its event is refused there, or has another answer; or memory was
-- refused
abbrev pub IsFaultOfRestAt : Image → Config → List Entry → ℕ → TraceFaultKind → Type 0
IsFaultOfRestAt img config es index Memory = index ≡ 0
IsFaultOfRestAt img config es index Refused = IsFirstWrong img config es index (IsRefusedThere img config)
IsFaultOfRestAt img config es index Differs = IsFirstWrong img config es index (DiffersElsewhere img config)

-- the fault of a trace whose suppliers aren't compared
abbrev pub IsFaultOfRest : Image → Config → List Entry → TraceFault → Type 0
IsFaultOfRest img config es fault = IsFaultOfRestAt img config es fault.index fault.kind

-- why a recorder doesn't go on by an entry, where its history leads
abbrev pub IsWrongElsewhere : Recorded → Entry → TraceFaultKind → Type 0
IsWrongElsewhere r e Memory = ⊥
IsWrongElsewhere r e Refused = IsRefusedThere r.machine.image r.machine.config (standing_of r) e
IsWrongElsewhere r e Differs = DiffersElsewhere r.machine.image r.machine.config (standing_of r) e
