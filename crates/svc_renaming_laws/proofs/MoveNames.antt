-- Moves, plays and what they show, of renamed units.
use Rattle.std.proofs.Common.{ℕ, ◌≡◌, ◌+◌, List, [], ◌∷◌, ◌++◌, map, Option, Some, None, inl, inr, refl, sym, ap, ap₂, ◌∙◌, subst, option_map, unwrap_or}
use Rattle.std.specs.Prelude.{◌↔◌, option_and_then, option_to_list, slice_get}
use Rattle.std.proofs.lemmas.List.{length-map}
use Rattle.svc_base.specs.declared.config.Config.{Config}
use Rattle.svc_base.specs.declared.refusal.Refusal.{Refusal}
use Rattle.svc_base.specs.declared.served.Served.{Served}
use Rattle.svc_base.specs.declared.served.Served.TheVariants as served
use Rattle.svc_image.specs.Image.{Image, IsImage}
use Rattle.svc_core_laws.specs.declared.end.End.{End}
use Rattle.svc_core_laws.specs.State.{State}
use Rattle.svc_core_laws.specs.Program.{Program, seq}
use Rattle.svc_core_laws.specs.Words.{program}
use Rattle.svc_core_laws.specs.Bursts.{Advance}
use Rattle.svc_machine_laws.specs.declared.reply.Reply.{Reply}
use Rattle.svc_machine_laws.specs.PlainMachine.{Task, Plain, Running, running, run_done}
use Rattle.svc_machine_laws.specs.WholeMachine.{Seat, Machine, machine_of}
use Rattle.svc_machine_laws.specs.Guess.{guess, guess_after, successor_at, last_end, youngest}
use Rattle.svc_machine_laws.specs.Refusals.{seat_at}
use Rattle.svc_machine_laws.specs.Events.{Event, Submit, IsEvent, seat_place}
use Rattle.svc_machine_laws.specs.Standing.{Standing, refusal_of, reply_to}
use Rattle.svc_machine_laws.specs.Reached.{IsReached}
use Rattle.svc_machine_laws.proofs.Given.{given}
use Rattle.svc_machine_laws.proofs.Standings.{step_reached}
use Rattle.svc_history_laws.specs.declared.entry.CutKind.{CutKind}
use Rattle.svc_history_laws.specs.declared.entry.CutKind.TheVariants as cut
use Rattle.svc_history_laws.specs.declared.entry.Entry.{Entry}
use Rattle.svc_history_laws.specs.Entries.{kind_served, unit_served, served_told, entry_of}
use Rattle.svc_explore_laws.specs.declared.observation.Happening.{Happening}
use Rattle.svc_explore_laws.specs.declared.observation.Happening.TheVariants as what
use Rattle.svc_explore_laws.specs.declared.observation.By.TheVariants as by
use Rattle.svc_explore_laws.specs.declared.observation.Observation.{Observation}
use Rattle.svc_explore_laws.specs.Moves.{IsBurstAt, SubmitsOrReplaces, AsksWith, AsksBy, Moves, IsTurn, Plays}
use Rattle.svc_explore_laws.specs.Observations.{Numbers, numbers, happening_of, value_of, supplier_of, task_of, address_of, happened_so, squashed_so, observations}
use Rattle.svc_explore_laws.proofs.ClosedPlays.{moves_event}
use Rattle.svc_renaming_laws.specs.Renamings.{Renaming, IsRenaming, unchanged, undone, followed_by}
use Rattle.svc_renaming_laws.specs.Renamed.{renamed_task, renamed_plain, renamed_standing, renamed_unit, renamed_burst, renamed_event, renamed_entry}
use Rattle.svc_renaming_laws.specs.Sights.{CanBeSeen}
use Rattle.svc_renaming_laws.specs.SightLaws.{PlaysRenamed}
use Rattle.svc_renaming_laws.proofs.Names.{undone_renames, map_both}
use Rattle.svc_renaming_laws.proofs.TaskNames.{renamed_run, renamed_seat, machine_renamed, runs_renamed, tasks_entries, same_place, same_seat_place, same_seat}
use Rattle.svc_renaming_laws.proofs.RefusalNames.{renamed_refused}
use Rattle.svc_renaming_laws.proofs.ReachedNames.{renamed_reached}
use Rattle.svc_renaming_laws.proofs.EventNames.{follows_renamed, renamed_step}
use Rattle.svc_renaming_laws.proofs.ReplyNames.{entry_renamed, reply_renamed}

-- ---- the guess

ends_renamed : {C : Type 0} (r : Renaming) (p : Program C) (xs : List (Running C)) → last_end (run_done p) (map (renamed_run r) xs) ≡ last_end (run_done p) xs
ends_renamed r p [] = refl
ends_renamed r p (x ∷ []) = refl
ends_renamed r p (x ∷ y ∷ xs) = ends_renamed r p (y ∷ xs)

guess_renamed : {C : Type 0} (r : Renaming) (p : Program C) (entries : List ℕ) (s : Plain) → guess p entries (renamed_plain r s) ≡ guess p entries s
guess_renamed r p entries s =
    ap₂ (λ o l. guess_after entries (seq p s.commits).due (successor_at p s.commits) o (youngest l))
    (ap (last_end (run_done p)) (runs_renamed r p (seq p s.commits).memory s.tasks) ∙ ends_renamed r p (running p s))
    (tasks_entries r s.tasks)

-- ---- what an entry shows

-- what an event's entry says of the supplier
served_kept : (x : Event) (y : Reply) → (entry_of x y).served ≡ option_map kind_served (served_told y.what)
unfolding entry_of
served_kept x y = refl

from_kept : (x : Event) (y : Reply) → (entry_of x y).from ≡ option_and_then unit_served (served_told y.what)
unfolding entry_of
from_kept x y = refl

module _ (units : ℕ) (r : Renaming) (s : Plain) (is : IsRenaming units r) where
  abbrev old : Numbers
  old = numbers s

  abbrev new : Numbers
  new = numbers (renamed_plain r s)

  unit_number : (u : ℕ) → new.of_unit (r.there u) ≡ old.of_unit u
  unit_number u = λ i. s.commits + unwrap_or (same_place r units is s u i) (length-map s.tasks (renamed_task r) i)

  supplier_renamed : (o : Option Served) → option_map (supplier_of new (option_map (renamed_unit r) (option_and_then unit_served o))) (option_map kind_served o)
      ≡ option_map (supplier_of old (option_and_then unit_served o)) (option_map kind_served o)
  supplier_renamed None = refl
  supplier_renamed (Some served.Hit) = refl
  supplier_renamed (Some served.Reuse) = refl
  supplier_renamed (Some (served.Version unit)) = ap (λ n. Some (by.Version n)) (unit_number unit.0)
  supplier_renamed (Some served.Spill) = refl
  supplier_renamed (Some (served.Committed unit)) = refl
  supplier_renamed (Some served.Memory) = refl

  task_renamed : (e : Entry) (h : Happening) → task_of new (renamed_entry r e) h ≡ task_of old e h
  task_renamed e what.Commit = refl
  task_renamed e what.Begin = unit_number e.unit.0
  task_renamed e what.Load = unit_number e.unit.0
  task_renamed e what.Store = unit_number e.unit.0
  task_renamed e what.Output = unit_number e.unit.0
  task_renamed e what.Trap = unit_number e.unit.0
  task_renamed e what.Replace = unit_number e.unit.0
  task_renamed e what.Squash = unit_number e.unit.0

  -- an entry that says of its supplier what an answer does
  module _ (e : Entry) (o : Option Served) (served_is : e.served ≡ option_map kind_served o) (from_is : e.from ≡ option_and_then unit_served o) where
    by_renamed : option_map (supplier_of new (option_map (renamed_unit r) e.from)) e.served ≡ option_map (supplier_of old e.from) e.served
    by_renamed =
        (λ i. option_map (supplier_of new (option_map (renamed_unit r) (from_is i))) (served_is i))
        ∙ supplier_renamed o
        ∙ sym (λ i. option_map (supplier_of old (from_is i)) (served_is i))

    happened_renamed : (h : Happening) → happened_so new (renamed_entry r e) h ≡ happened_so old e h
    happened_renamed h = λ i. record { what = h; task = task_renamed e h i; word = option_map address_of e.addr; value = value_of h e.word; by = by_renamed i }

    maybe_happened : (o : Option Happening) → option_map (happened_so new (renamed_entry r e)) o ≡ option_map (happened_so old e) o
    maybe_happened None = refl
    maybe_happened (Some h) = ap Some (happened_renamed h)

    squashed_renamed : (o : Option CutKind) → option_map (squashed_so (renamed_entry r e)) o ≡ option_map (squashed_so e) o
    squashed_renamed None = refl
    squashed_renamed (Some cut.Violation) = refl
    squashed_renamed (Some cut.Guess) = refl
    squashed_renamed (Some cut.Cancel) = refl

    pub entry_shows : observations (renamed_plain r s) (renamed_entry r e) ≡ observations s e
    entry_shows = λ i. option_to_list (maybe_happened (happening_of e.reply) i) ++ option_to_list (squashed_renamed e.cause i)

  pub event_shows : (x : Event) (y : Reply) → observations (renamed_plain r s) (renamed_entry r (entry_of x y)) ≡ observations s (entry_of x y)
  event_shows x y = entry_shows (entry_of x y) (served_told y.what) (served_kept x y) (from_kept x y)

-- ---- moves and plays

module _ (img : Image) (is_image : IsImage img) (config : Config) (r : Renaming) (is : IsRenaming config.units r) (most : ℕ) where
  abbrev p : Program State
  p = program img

  module _ (s : Standing) (reached : IsReached img config s) where
    abbrev there : Standing
    there = renamed_standing r s

    burst_at : (unit : ℕ) (seat : Seat State) (b : Advance) → IsBurstAt img most unit seat b → IsBurstAt img most (r.there unit) (renamed_seat r seat) (renamed_burst r b)
    burst_at unit seat b at = record {
      unit_is = ap r.there at.unit_is;
      epoch = at.epoch;
      start = at.start;
      advance = record { follows = follows_renamed r b at.advance.follows; looks = at.advance.looks; most = at.advance.most; stopped = at.advance.stopped };
    }

    submits : (unit : ℕ) (b : Advance) (why : Option Refusal) (x : Event) → SubmitsOrReplaces unit b why x → SubmitsOrReplaces (r.there unit) (renamed_burst r b) why (renamed_event r x)
    submits unit b why x (inl l) = inl (ap (renamed_event r) l.0, l.1)
    submits unit b why x (inr l) = inr (l.0, l.1, ap (renamed_event r) l.2)

    asks_with : (unit : ℕ) (seat : Seat State) (d : Option End) (x : Event) → AsksWith img config s most unit seat d x → AsksWith img config there most (r.there unit) (renamed_seat r seat) d (renamed_event r x)
    asks_with unit seat None x h = (
      renamed_burst r h.0,
      burst_at unit seat h.0 h.1,
      subst (λ why. SubmitsOrReplaces (r.there unit) (renamed_burst r h.0) why (renamed_event r x)) (sym (renamed_refused img config r s is reached (Submit h.0)))
          (submits unit h.0 (refusal_of img config s (Submit h.0)) x h.2),
    )
    asks_with unit seat (Some end) x h = (
      ap (λ (m : Machine State). seat_place m (r.there unit)) (machine_renamed r p s.plain) ∙ same_seat_place r config.units is (machine_of p s.plain) unit ∙ h.0,
      ap (renamed_event r) h.1,
    )

    asks_by : (unit : ℕ) (o : Option (Seat State)) (x : Event) → AsksBy img config s most unit o x → AsksBy img config there most (r.there unit) (option_map (renamed_seat r) o) (renamed_event r x)
    asks_by unit None x h = (h.0, guess_renamed r p img.entries s.plain ∙ h.1, ap (renamed_event r) h.2)
    asks_by unit (Some seat) x h = asks_with unit seat seat.core.done x h

    seat_is : (unit : ℕ) → seat_at (machine_of p there.plain) (r.there unit) ≡ option_map (renamed_seat r) (seat_at (machine_of p s.plain) unit)
    seat_is unit = ap (λ (m : Machine State). seat_at m (r.there unit)) (machine_renamed r p s.plain) ∙ same_seat r config.units is (machine_of p s.plain) unit

    pub moves_renamed : (unit : ℕ) (x : Event) → Moves img config most s unit x → Moves img config most there (r.there unit) (renamed_event r x)
    moves_renamed unit x h = record {
      known = is.known unit h.known;
      asks = subst (λ o. AsksBy img config there most (r.there unit) o (renamed_event r x)) (sym (seat_is unit)) (asks_by unit (seat_at (machine_of p s.plain) unit) x h.asks);
      accepted = renamed_refused img config r s is reached x ∙ h.accepted;
    }

    abbrev pub turn_renamed : (t : Standing) (e : Entry) → IsTurn img config most s t e → IsTurn img config most there (renamed_standing r t) (renamed_entry r e)
    turn_renamed t e turn =
        let x : Event = turn.event in
        let ev : IsEvent x = moves_event img config most s turn.unit x turn.moves in
        record {
          unit = r.there turn.unit;
          event = renamed_event r x;
          moves = moves_renamed turn.unit x turn.moves;
          entry =
              ap (renamed_entry r) turn.entry
              ∙ sym (entry_renamed r x (reply_to img s x))
              ∙ sym (ap (entry_of (renamed_event r x)) (reply_renamed r img config s is reached x));
          leads = ap (renamed_standing r) turn.leads ∙ sym (renamed_step img (given img is_image) config r s is reached x ev turn.moves.accepted);
        }

    pub turn_shows : (t : Standing) (e : Entry) → IsTurn img config most s t e → observations there.plain (renamed_entry r e) ≡ observations s.plain e
    turn_shows t e turn =
        subst (λ f. observations there.plain (renamed_entry r f) ≡ observations s.plain f) (sym turn.entry) (event_shows config.units r s.plain is turn.event (reply_to img s turn.event))

    pub turn_reached : (t : Standing) (e : Entry) → IsTurn img config most s t e → IsReached img config t
    turn_reached t e turn =
        subst (IsReached img config) (sym turn.leads)
        (step_reached img (given img is_image) config s reached turn.event (moves_event img config most s turn.unit turn.event turn.moves) turn.moves.accepted)

  pub plays_renamed : (es : List Entry) (s : Standing) → IsReached img config s → (play : Plays img config most s es) → PlaysRenamed img config r most s es play
  plays_renamed [] s reached play = record { other = tt; same = refl }
  plays_renamed (e ∷ es) s reached play =
      let rest = plays_renamed es play.0 (turn_reached s reached play.0 e play.1) play.2 in
      record {
        other = (renamed_standing r play.0, turn_renamed s reached play.0 e play.1, rest.other);
        same = ap₂ (λ (o : List Observation) (os : List (List Observation)). o ∷ os) (turn_shows s reached play.0 e play.1) rest.same;
      }

  pub seen_renamed : (s : Standing) → IsReached img config s → (o : Observation) → CanBeSeen img config most s o → CanBeSeen img config most (renamed_standing r s) o
  seen_renamed s reached o seen =
      let w = plays_renamed seen.entries s reached seen.play in
      record {
        entries = map (renamed_entry r) seen.entries;
        play = w.other;
        index = seen.index;
        sight = seen.sight;
        sight_is = ap (λ (l : List (List Observation)). slice_get l seen.index) w.same ∙ seen.sight_is;
        shows = seen.shows;
      }

-- ---- and back again

list_back : (r : Renaming) (us : List ℕ) → ((u : ℕ) → r.back (r.there u) ≡ u) → map r.back (map r.there us) ≡ us
list_back r [] returns = refl
list_back r (u ∷ us) returns = ap₂ (λ (v : ℕ) (vs : List ℕ). v ∷ vs) (returns u) (list_back r us returns)

tasks_back : (r : Renaming) (ts : List Task) → ((u : ℕ) → r.back (r.there u) ≡ u) → map (renamed_task (undone r)) (map (renamed_task r) ts) ≡ ts
tasks_back r [] returns = refl
tasks_back r (t ∷ ts) returns =
    ap₂ {C = List Task} (λ (u : ℕ) (us : List Task). record { unit = u; epoch = t.epoch; entry = t.entry; turns = t.turns } ∷ us) (returns t.unit) (tasks_back r ts returns)

pub standing_back : (r : Renaming) (s : Standing) → ((u : ℕ) → r.back (r.there u) ≡ u) → renamed_standing (undone r) (renamed_standing r s) ≡ s
standing_back r s returns =
    let tasks = tasks_back r s.plain.tasks returns in
    let units = list_back r s.lines.units returns in
    λ i. record {
      plain = record { commits = s.plain.commits; accepted = s.plain.accepted; epoch = s.plain.epoch; tasks = tasks i };
      lines = record {
        caches = s.lines.caches;
        sets = s.lines.sets;
        ways = s.lines.ways;
        words = s.lines.words;
        lines = λ u a. s.lines.lines (returns u i) a;
        spill = s.lines.spill;
        backing = s.lines.backing;
        commits = s.lines.commits;
        units = units i;
      };
    }

-- ---- one renaming after another, and none

pub standing_followed : (r o : Renaming) (s : Standing) → renamed_standing o (renamed_standing r s) ≡ renamed_standing (followed_by r o) s
standing_followed r o s =
    let tasks = map_both (renamed_task r) (renamed_task o) s.plain.tasks in
    let units = map_both r.there o.there s.lines.units in
    λ i. record {
      plain = record { commits = s.plain.commits; accepted = s.plain.accepted; epoch = s.plain.epoch; tasks = tasks i };
      lines = record {
        caches = s.lines.caches;
        sets = s.lines.sets;
        ways = s.lines.ways;
        words = s.lines.words;
        lines = λ u a. s.lines.lines (r.back (o.back u)) a;
        spill = s.lines.spill;
        backing = s.lines.backing;
        commits = s.lines.commits;
        units = units i;
      };
    }

map_same : {A : Type 0} (xs : List A) → map (λ x. x) xs ≡ xs
map_same [] = refl
map_same {A} (x ∷ xs) = ap {B = List A} (λ l. x ∷ l) (map_same xs)

pub standing_unchanged : (s : Standing) → renamed_standing unchanged s ≡ s
standing_unchanged s =
    let tasks : map (renamed_task unchanged) s.plain.tasks ≡ s.plain.tasks = map_same s.plain.tasks in
    let units : map (λ (u : ℕ). u) s.lines.units ≡ s.lines.units = map_same s.lines.units in
    λ i. record {
      plain = record { commits = s.plain.commits; accepted = s.plain.accepted; epoch = s.plain.epoch; tasks = tasks i };
      lines = record {
        caches = s.lines.caches;
        sets = s.lines.sets;
        ways = s.lines.ways;
        words = s.lines.words;
        lines = s.lines.lines;
        spill = s.lines.spill;
        backing = s.lines.backing;
        commits = s.lines.commits;
        units = units i;
      };
    }

pub same_sights : (img : Image) → IsImage img → (config : Config) (r : Renaming) (s : Standing) → IsRenaming config.units r → IsReached img config s
    → (most : ℕ) (o : Observation) → CanBeSeen img config most (renamed_standing r s) o ↔ CanBeSeen img config most s o
same_sights img is_image config r s is reached most o = (
  λ seen. subst (λ t. CanBeSeen img config most t o) (standing_back r s is.returns)
      (seen_renamed img is_image config (undone r) (undone_renames config.units r is) most (renamed_standing r s) (renamed_reached img config r s is reached) o seen),
  seen_renamed img is_image config r is most s reached o,
)
