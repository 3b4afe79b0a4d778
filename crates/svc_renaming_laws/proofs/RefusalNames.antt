-- An event is refused for the same reason whatever the units' names.
use Rattle.std.proofs.Common.{ℕ, ◌≡◌, ◌^◌, ◌-◌, ◌==◌, false, not, ◌&&◌, [], ◌∷◌, Option, Some, None, refl, sym, ap, ◌∙◌, subst, is_some, is_none, option_map, unwrap_or, slice_get}
use Rattle.std.proofs.lemmas.Option.{slice_get-map}
use Rattle.svc_base.specs.declared.config.Config.{Config}
use Rattle.svc_base.specs.declared.refusal.Refusal.TheVariants as refusal
use Rattle.svc_image.specs.Image.{Image, is_entry}
use Rattle.svc_core_laws.specs.State.{State}
use Rattle.svc_core_laws.specs.Same.{same_state}
use Rattle.svc_core_laws.specs.Words.{program}
use Rattle.svc_core_laws.specs.Bursts.{Advance, are_of, is_nothing}
use Rattle.svc_bus_laws.specs.LineTable.{LineTable}
use Rattle.svc_machine_laws.specs.WholeMachine.{Seat, Machine, machine_of}
use Rattle.svc_machine_laws.specs.Events.{Event, Assign, Submit, Replace, Cancel, Commit, seat_place}
use Rattle.svc_machine_laws.specs.Refusals.{seat_at, is_current, has_ended, asked_word, full_set, no_unit, history_full, cases_of, first_case, refuse}
use Rattle.svc_machine_laws.specs.Standing.{Standing, refusal_of}
use Rattle.svc_machine_laws.specs.Reached.{IsReached}
use Rattle.svc_renaming_laws.specs.Renamings.{Renaming, IsRenaming}
use Rattle.svc_renaming_laws.specs.RenamedLines.{renamed_lines}
use Rattle.svc_renaming_laws.specs.Renamed.{renamed_standing, renamed_burst, renamed_event}
use Rattle.svc_renaming_laws.proofs.Names.{same_known}
use Rattle.svc_renaming_laws.proofs.LineMoves.{same_full, same_resident, same_pinned}
use Rattle.svc_renaming_laws.proofs.TaskNames.{renamed_seat, renamed_machine, machine_renamed, same_seat_place, same_seat}

module _ (r : Renaming) where
  current_renamed : (b : Advance) (o : Option (Seat State)) → is_current (renamed_burst r b) (option_map (renamed_seat r) o) ≡ is_current b o
  current_renamed b None = refl
  current_renamed b (Some x) = refl

  ended_renamed : (o : Option (Seat State)) → has_ended (option_map (renamed_seat r) o) ≡ has_ended o
  ended_renamed None = refl
  ended_renamed (Some x) = refl

  some_renamed : (o : Option (Seat State)) → is_some (option_map (renamed_seat r) o) ≡ is_some o
  some_renamed None = refl
  some_renamed (Some x) = refl

  none_renamed : (o : Option (Seat State)) → is_none (option_map (renamed_seat r) o) ≡ is_none o
  none_renamed None = refl
  none_renamed (Some x) = refl

module _ (img : Image) (config : Config) (r : Renaming) (m : Machine State) (t : LineTable) (known : IsRenaming config.units r) (is : IsRenaming t.caches r) where
  abbrev n : Machine State
  n = renamed_machine r m

  head : slice_get n.seats 0 ≡ option_map (renamed_seat r) (slice_get m.seats 0)
  head = slice_get-map (renamed_seat r) m.seats 0

  has_head : is_some (slice_get n.seats 0) ≡ is_some (slice_get m.seats 0)
  has_head = ap is_some head ∙ some_renamed r (slice_get m.seats 0)

  no_head : is_none (slice_get n.seats 0) ≡ is_none (slice_get m.seats 0)
  no_head = ap is_none head ∙ none_renamed r (slice_get m.seats 0)

  head_ended : has_ended (slice_get n.seats 0) ≡ has_ended (slice_get m.seats 0)
  head_ended = ap has_ended head ∙ ended_renamed r (slice_get m.seats 0)

  place : (u : ℕ) → seat_place n (r.there u) ≡ seat_place m u
  place u = same_seat_place r t.caches is m u

  ended : (u : ℕ) → has_ended (seat_at n (r.there u)) ≡ has_ended (seat_at m u)
  ended u = ap has_ended (same_seat r t.caches is m u) ∙ ended_renamed r (seat_at m u)

  named : (u : ℕ) → no_unit config (r.there u) ≡ no_unit config u
  named u = same_known r config.units known u

  full : (u : ℕ) (o : Option ℕ) → full_set (renamed_lines r t) (r.there u) o ≡ full_set t u o
  full u None = refl
  full u (Some a) = same_full r t is u a

  pub cases_renamed : (x : Event) → first_case (cases_of img config n (renamed_lines r t) (renamed_event r x)) ≡ first_case (cases_of img config m t x)
  cases_renamed (Assign unit guess) = λ i. first_case (
      (named unit i, refusal.NoSuchUnit)
      ∷ (is_some (place unit i), refusal.Busy)
      ∷ (has_head i && not (is_entry img guess), refusal.NotEntry)
      ∷ (is_some m.stopped, refusal.Stopped)
      ∷ (history_full config m, refusal.HistoryFull)
      ∷ (m.epoch == 2 ^ 64 - 1, refusal.EpochsSpent)
      ∷ [])
  cases_renamed (Submit b) =
      let current : is_current (renamed_burst r b) (seat_at n (r.there b.unit.0)) ≡ is_current b (seat_at m b.unit.0) =
      ap (is_current (renamed_burst r b)) (same_seat r t.caches is m b.unit.0) ∙ current_renamed r b (seat_at m b.unit.0) in
      let room = full b.unit.0 (asked_word img b.ask) in
      λ i. first_case (
      (named b.unit.0 i, refusal.NoSuchUnit)
      ∷ (is_none (place b.unit.0 i), refusal.Idle)
      ∷ (not (current i), refusal.Stale)
      ∷ (not (are_of img b.looks), refusal.ForeignText)
      ∷ (ended b.unit.0 i, refusal.Done)
      ∷ (is_some (room i), refusal.SetFull (record { 0 = unwrap_or (room i) 0 }))
      ∷ (history_full config m, refusal.HistoryFull)
      ∷ (is_nothing b.ask && same_state b.end b.start, refusal.EmptyBurst)
      ∷ [])
  cases_renamed (Replace unit address) = λ i. first_case (
      (named unit i, refusal.NoSuchUnit)
      ∷ (is_some m.stopped, refusal.Stopped)
      ∷ (same_resident r t is unit address i, refusal.NotResident)
      ∷ (same_pinned r t is unit address i, refusal.Pinned)
      ∷ (history_full config m, refusal.HistoryFull)
      ∷ [])
  cases_renamed (Cancel unit) = λ i. first_case (
      (named unit i, refusal.NoSuchUnit)
      ∷ (is_none (place unit i), refusal.Idle)
      ∷ (unwrap_or (option_map (λ place. place == 0) (place unit i)) false, refusal.IsHead)
      ∷ (history_full config m, refusal.HistoryFull)
      ∷ [])
  cases_renamed (Commit by) = λ i. first_case (
      (named by i, refusal.NoSuchUnit)
      ∷ (is_some m.stopped, refusal.Stopped)
      ∷ (has_head i && not (head_ended i), refusal.HeadNotDone)
      ∷ (no_head i, refusal.NoTask)
      ∷ (history_full config m, refusal.HistoryFull)
      ∷ [])

spelled : (img : Image) (config : Config) (u : Standing) (x : Event) → refusal_of img config u x ≡ first_case (cases_of img config (machine_of (program img) u.plain) u.lines x)
unfolding refusal_of refuse
spelled img config u x = refl

pub renamed_refused : (img : Image) (config : Config) (r : Renaming) (s : Standing) → IsRenaming config.units r → IsReached img config s → (x : Event)
    → refusal_of img config (renamed_standing r s) (renamed_event r x) ≡ refusal_of img config s x
renamed_refused img config r s is reached x =
    let lines : IsRenaming s.lines.caches r = subst (λ n. IsRenaming n r) (sym reached.lines.caches) is in
    spelled img config (renamed_standing r s) (renamed_event r x)
    ∙ ap (λ (m : Machine State). first_case (cases_of img config m (renamed_lines r s.lines) (renamed_event r x))) (machine_renamed r (program img) s.plain)
    ∙ cases_renamed img config r (machine_of (program img) s.plain) s.lines is lines x
    ∙ sym (spelled img config s x)
