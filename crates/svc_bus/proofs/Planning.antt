-- What the plan of a write says of a sound bus.
use Rattle.std.proofs.Common.{◌≡◌, ◌≢◌, ◌∙◌, refl, sym, ap, ap₂, subst, ℕ, ◌+◌, ◌-◌, ◌<◌, Bool, true, false, is_some, Option, Some, List, length, get_or, option_map, unwrap_or, inl, inr, arith}
use Rattle.std.specs.Prelude.{IfSome}
use Rattle.svc_vol.specs.declared.held_line.HeldLine.{HeldLine}
use Rattle.svc_base.specs.declared.refusal.Refusal.TheVariants as refusal
use Rattle.svc_line.specs.Line.{SeenLine}
use Rattle.svc_cache.specs.declared.probes.Probes.{Probes}
use Rattle.svc_cache.specs.Places.{CacheValue}
use Rattle.svc_bus_laws.specs.Search.{least}
use Rattle.svc_bus_laws.specs.Versioned.{Row, Versioned, survivors, victim_answer}
use Rattle.svc_bus_laws.specs.Versioned as answer
use Rattle.svc_bus_laws.specs.LineTable.{LineTable, unit_at, versioned_map}
use Rattle.svc_bus_laws.specs.BusState.{BusState, Agrees}
use Rattle.svc_bus_laws.specs.BusLine.{purged_line, version_of_line}
use Rattle.svc_bus_laws.specs.BusSteps.{bus_write, line_after_cut}
use Rattle.svc_bus_laws.specs.BusView.{bus_line_at, bus_map, bus_row}
use Rattle.svc_links_laws.specs.LinkSteps.{place_after, place_before, unit_of}
use Rattle.svc_bus_laws.proofs.Searches.{least_cases, length-tabulate}
use Rattle.svc_bus_laws.proofs.SeenLaws.{map_seen}
use Rattle.svc_vol.specs.Lines.{CountsOneOfEach, lines_in}
use Rattle.svc_vol.specs.Value.{IsListOf, ListValue}
use Rattle.svc_vcl.specs.Described.{IsRequest, line_with}
use Rattle.svc_vcl.specs.Planned.{changed_in, is_named, marked_where}
use Rattle.svc_retire.specs.Purges.{HasRoomFor}
use Rattle.svc_bus.specs.Value.{BusValue, IsSoundBus, state_in}
use Rattle.svc_bus.specs.Calls.{full_refusal}
use Rattle.svc_bus.specs.Room.{full_in}
use Rattle.svc_bus.specs.Marks.{AreHeld}
use Rattle.svc_bus.specs.Stores.{ChangeOnce}
use Rattle.svc_bus.proofs.Agreeing.{place_is}
use Rattle.svc_bus.proofs.Full.{full_shown}
use Rattle.svc_bus.proofs.Knowing.{units_known}
use Rattle.svc_bus.proofs.Rooms.{ways_few, places_few}
use Rattle.svc_bus.proofs.Requests.{list_describes}
use Rattle.svc_bus.proofs.Overtaking.{changed_held, changed_once}
use Rattle.svc_bus.proofs.Writing.{IsPlanned, own_active}

-- the look-ups after the version list's can be counted
pub room_to_store : (b : BusValue) (sound : IsSoundBus b) (cs : List CacheValue) → cs ≡ b.caches → (first later : Probes) → first.searches ≡ 0 → first.places ≡ 0 → CountsOneOfEach first later b.caches → HasRoomFor later cs (1 + (length cs + length cs))
room_to_store b sound cs same first later none empty counts =
    let few = sound.few_caches in
    let searches = counts.searches in
    let places = counts.places in
    let narrow = places_few b sound in
    subst (λ (xs : List CacheValue). HasRoomFor later xs (1 + (length xs + length xs))) (sym same) (record {
      searches = omega (arith, few, searches, none);
      places = omega (arith, few, places, empty, narrow);
      ways = ways_few b sound;
    })

-- what a cache answers of a full set is the refusal
pub refusal_is : (b : BusValue) (sound : IsSoundBus b) (unit word : ℕ) → unit < length b.caches → (cs : List CacheValue) → cs ≡ b.caches → (memory : List ℕ) → memory ≡ b.backing
    → option_map (λ (named : ℕ). refusal.SetFull (record { 0 = named })) (full_in cs unit (length memory) word) ≡ full_refusal (state_in b) unit word
refusal_is b sound unit word known cs same memory also =
    ap₂ (λ (xs : List CacheValue) (ys : List ℕ). option_map (λ (named : ℕ). refusal.SetFull (record { 0 = named })) (full_in xs unit (length ys) word)) same also
    ∙ ap (option_map (λ (named : ℕ). refusal.SetFull (record { 0 = named }))) (full_shown b unit sound known word)

-- the version list of a word of the bus
abbrev pub HasList : BusValue → (word : ℕ) → ListValue → Type 0
HasList b word list = IsListOf (lines_in b.caches word) (length b.caches) b.units list

pub listed : (b : BusValue) → IsSoundBus b → (word : ℕ) (list : ListValue) (cs : List CacheValue) → cs ≡ b.caches → IsListOf (lines_in cs word) (length cs) b.units list → HasList b word list
listed b sound word list cs same lists = subst (λ (xs : List CacheValue). IsListOf (lines_in xs word) (length xs) b.units list) same lists

-- the unit of a task has a cache
pub unit_known : (b : BusValue) → IsSoundBus b → (unit place : ℕ) → place < length b.units → get_or b.units place 0 ≡ unit → unit < length b.caches
unit_known b sound unit place within at = subst (λ u. u < length b.caches) at (units_known b sound place within)

-- the least number is below its bound
least_within : (n : ℕ) (test : ℕ → Bool) → IfSome (least n test) (λ v. v < n)
least_within n test = elim (least_cases n test) [
  | inl (none, never) ↦ rw none tt
  | inr (m, is, found) ↦ rw is found.within
]

module _ (b : BusValue) (sound : IsSoundBus b) (unit place word : ℕ) (within : place < length b.units) (at : get_or b.units place 0 ≡ unit) (list : ListValue) (has : HasList b word list) where
  pub request : IsRequest (state_in b) (sound.linked.table) word list unit place
  request = record { agrees = sound.linked.agrees; described = list_describes b sound word list has.committed has.active; within = within; at_work = at }

  -- the victim
  module _ (chosen : Option ℕ) (tasks : ℕ) (all : tasks ≡ length b.units) (clause : (s : BusState) (t : LineTable) (a : ℕ) → IsRequest s t a list unit place → chosen ≡ answer.victim (bus_map s) place a) where
    chosen_is : chosen ≡ answer.victim (bus_map (state_in b)) place word
    chosen_is = clause (state_in b) (sound.linked.table) word request

    rows_are : length (bus_map (state_in b)).rows ≡ length b.units
    rows_are = length-tabulate {A = Row} (length b.units) (bus_row (state_in b))

    pub chosen_within : IfSome chosen (λ v. v < tasks)
    chosen_within = subst (λ (o : Option ℕ). IfSome o (λ v. v < tasks)) (sym chosen_is) (subst (λ n. IfSome (answer.victim (bus_map (state_in b)) place word) (λ v. v < n)) (rows_are ∙ sym all) (least_within (length (bus_map (state_in b)).rows) _))

    pub left_is : (left : ℕ) → left ≡ unwrap_or chosen tasks → left ≡ survivors (bus_map (state_in b)) place word
    left_is left is = is ∙ ap₂ (λ (o : Option ℕ) (n : ℕ). unwrap_or o n) chosen_is (all ∙ sym rows_are)

    abbrev answer_of : ℕ → ℕ → answer.Victim
    answer_of v n = record { first = b.commits + v; tasks = n - v }

    pub chosen_shown : (s : LineTable) (p : ℕ) → Agrees (state_in b) s → p < length s.units → unit_at s p ≡ unit → option_map (λ v. answer_of v tasks) chosen ≡ victim_answer (versioned_map s) p word
    chosen_shown s p agrees here is =
        ap₂ (λ (o : Option ℕ) (n : ℕ). option_map (λ v. answer_of v n) o) chosen_is (all ∙ sym rows_are)
        ∙ ap₂ (λ (m : Versioned) (q : ℕ). victim_answer m q word) (map_seen (state_in b) s agrees) (sym (place_is b s agrees place p sound within here (is ∙ sym at)))

  -- the lines that change
  module _ (changed : List HeldLine) (are : changed ≡ changed_in list unit place) where
    pub held_lines : (cs : List CacheValue) → cs ≡ b.caches → AreHeld cs word changed
    held_lines cs same = subst (λ (vs : List HeldLine). AreHeld cs word vs) (sym are) (subst (λ (xs : List CacheValue). AreHeld xs word (changed_in list unit place)) (sym same) (changed_held b sound place word unit within at list has.committed has.active))

    pub once_each : (cs : List CacheValue) → cs ≡ b.caches → ChangeOnce cs unit word changed
    once_each cs same = subst (λ (vs : List HeldLine). ChangeOnce cs unit word vs) (sym are) (subst (λ (xs : List CacheValue). ChangeOnce xs unit word (changed_in list unit place)) (sym same) (changed_once b sound place word unit within at list has.committed has.active))

    -- all of it
    module _ (value left : ℕ) (line : SeenLine) (previous : Option ℕ) (is_left : left ≡ survivors (bus_map (state_in b)) place word) (value_is : line.value ≡ value) (valid : line.bits.valid ≡ true)
        (own : (s : BusState) (t : LineTable) (a : ℕ) → IsRequest s t a list unit place → (bus_write s place a value).lines unit a ≡ Some (line_with value line.bits))
        (others : (s : BusState) (t : LineTable) (a w other : ℕ) → IsRequest s t a list unit place → other ≢ unit → (bus_write s place a w).lines other a ≡ marked_where (is_named changed other) (purged_line (line_after_cut s (survivors (bus_map s) place a) other a)))
        (next_is : (s : BusState) (t : LineTable) (a : ℕ) → IsRequest s t a list unit place → line.next ≡ unit_of s.units (place_after (survivors (bus_map s) place a) (λ q. is_some (version_of_line (bus_line_at s q a))) place))
        (previous_is : (s : BusState) (t : LineTable) (a : ℕ) → IsRequest s t a list unit place → previous ≡ unit_of s.units (place_before (λ q. is_some (version_of_line (bus_line_at s q a))) place))
        (linked : (other : ℕ) → previous ≡ Some other → is_named changed other ≡ true) where
      pub planned : IsPlanned b place word value line previous changed left
      planned = record {
        left_is = is_left;
        own = ap (λ u. (bus_write (state_in b) place word value).lines u word) at ∙ own (state_in b) sound.linked.table word request;
        value_is = value_is;
        valid = valid;
        next_is = next_is (state_in b) sound.linked.table word request;
        previous_is = previous_is (state_in b) sound.linked.table word request;
        others = λ u ne. others (state_in b) sound.linked.table word value u request (λ e. ne (e ∙ sym at));
        unnamed = ap (is_named changed) at ∙ (once_each b.caches refl).others;
        linked = linked;
      }

      pub line_active : word < length b.backing → line.bits.commit ≡ false
      line_active known = own_active b sound place word value line previous changed left within known planned
