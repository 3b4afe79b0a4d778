-- What the type of a recorder keeps is kept by every event, and says what the committed tasks have left.
use Rattle.std.proofs.Common.{ℕ, ◌≡◌, ◌+◌, ◌<◌, ◌≤◌, List, [], ◌∷◌, ◌++◌, length, Option, Some, None, Err, refl, sym, ap, ap₂, ◌∙◌, subst, arith, length-append, is_some, option_map, unwrap_or}
use Rattle.svc_base.specs.declared.config.Config.{Config}
use Rattle.svc_base.specs.declared.refusal.Refusal.{Refusal}
use Rattle.svc_image.specs.Image.{Image, IsImage}
use Rattle.svc_core_laws.specs.Words.{program}
use Rattle.svc_bus_laws.specs.BusState.{AreAlike}
use Rattle.svc_bus_laws.proofs.Alike.{alike_maps}
use Rattle.svc_bus.specs.State.{bus_state}
use Rattle.svc_machine_laws.specs.Blame.{tasks_begun, tasks_cut}
use Rattle.svc_machine_laws.specs.declared.reply.Cut.{Cut}
use Rattle.svc_machine_laws.specs.declared.reply.Reply.{Reply}
use Rattle.svc_machine_laws.specs.PlainMachine.{Plain, Task, commit_tasks, submit}
use Rattle.svc_machine_laws.specs.Events.{asked_want, plain_event, plain_submit, plain_cancel, Event, Assign, Submit, Replace, Cancel, Commit, IsEvent}
use Rattle.svc_machine_laws.specs.Standing.{Standing, opened_at, refusal_of, standing_after, after_event, reply_to, is_commit, whole_of, unless}
use Rattle.svc_machine_laws.specs.Headline.{IsSequential}
use Rattle.svc_machine_laws.specs.Reached.{IsReached}
use Rattle.svc_machine_laws.proofs.Folds.{reached_is, step_commits, opened_reached}
use Rattle.svc_machine_laws.proofs.Given.{given}
use Rattle.svc_machine_laws.proofs.Accepted.{can_assign, can_submit, can_replace, can_cancel, can_commit}
use Rattle.svc_machine_laws.proofs.Checks.{check_accepted}
use Rattle.svc_machine_laws.proofs.Numbers.{all_counted}
use Rattle.svc_machine_laws.proofs.Standings.{event_reached}
use Rattle.svc_machine.specs.Value.{MachineValue, StandsAt, IsSequentialMachine}
use Rattle.svc_history_laws.specs.declared.entry.Entry.{Entry}
use Rattle.svc_history_laws.specs.Entries.{count_of, entry_of, entry_asking, telling}
use Rattle.svc_history_laws.specs.Board.{Tally, assigns, board, tally_with, counted_on, commits, no_events}
use Rattle.svc_history_laws.specs.Legal.{Legal, LegalEntry, last, led_to, after_entry}
use Rattle.svc_history_laws.proofs.Legality.{legal_entry, entry_leads, last-append, Legal-append}
use Rattle.svc_history.specs.Applying.{IsApplied, refused_at}
use Rattle.svc_history.specs.Recorded.{Recorded, IsCounted, standing_of}
use Rattle.svc_history.specs.Kept.{IsKept}

-- what holds of a standing holds with every line table that is alike to its own
pub reached_alike : (img : Image) (config : Config) (s t : Standing) → IsReached img config s → t.plain ≡ s.plain → AreAlike s.lines t.lines → IsReached img config t
reached_alike img config s t reached same alike =
    let first = alike.first in
    let second = alike.second in
    subst (λ (q : Plain). IsReached img config (record { plain = q; lines = t.lines })) (sym same) (record {
      due = reached.due;
      idle = reached.idle;
      entries = reached.entries;
      counted = reached.counted;
      commits_few = reached.commits_few;
      accepted_few = reached.accepted_few;
      outputs_few = reached.outputs_few;
      lines = record {
        sound = second.sound;
        same_map = sym (alike_maps s.lines t.lines alike) ∙ reached.lines.same_map;
        units = sym second.units ∙ (first.units ∙ reached.lines.units);
        caches = sym second.caches ∙ (first.caches ∙ reached.lines.caches);
        sets = sym second.sets ∙ (first.sets ∙ reached.lines.sets);
        ways = sym second.ways ∙ (first.ways ∙ reached.lines.ways);
        words = sym second.words ∙ (first.words ∙ reached.lines.words);
      };
    })

-- the headline of a recorder
pub sequential : (r : Recorded) → IsKept r → IsSequentialMachine (board r.entries).committed r.machine
sequential r kept =
    let img = r.machine.image in
    let here = kept.legal.here in
    let count : r.machine.plain.commits ≡ (board r.entries).committed = ap (λ (q : Plain). q.commits) here.plain ∙ kept.commits in
    record {
      tasks = count;
      whole = λ s at.
          let same : s.plain ≡ (standing_of r).plain = sym at.plain ∙ here.plain in
          let reached : IsReached img r.machine.config s = reached_alike img r.machine.config (standing_of r) s kept.reached same (record { bus = bus_state r.machine.bus; first = here.lines; second = at.lines }) in
          let is = reached_is img (given img kept.image) r.machine.config s reached in
          subst (λ (k : ℕ). IsSequential img k (whole_of img s)) (ap (λ (q : Plain). q.commits) (sym at.plain) ∙ count) is;
    }

accepted_step : (img : Image) (config : Config) (s : Standing) (x : Event) → refusal_of img config s x ≡ None → after_event img config s x ≡ standing_after img s x
unfolding after_event
accepted_step img config s x h = ap (λ o. unless o s (standing_after img s x)) h

refused_step : (img : Image) (config : Config) (s : Standing) (x : Event) (r : Refusal) → refusal_of img config s x ≡ Some r → after_event img config s x ≡ s
unfolding after_event
refused_step img config s x r h = ap (λ o. unless o s (standing_after img s x)) h

-- an accepted event is one more
one_more : (img : Image) (config : Config) (s : Standing) (x : Event) → refusal_of img config s x ≡ None → (standing_after img s x).plain.accepted ≡ s.plain.accepted + 1
unfolding standing_after plain_event
one_more img config s (Assign unit guess) h = omega arith
one_more img config s (Submit b) h =
    let can = can_submit img config s b h in
    let e = ap (λ o. (plain_submit img s.plain o b).accepted) can.at in
    let checked = check_accepted (program img) (submit (program img) s.plain can.place b.local (is_some (asked_want img b))) can.place in
    omega (arith, e, checked)
one_more img config s (Replace unit a) h = omega arith
one_more img config s (Cancel unit) h = let e = ap (λ o. (plain_cancel s.plain o).accepted) (can_cancel img config s unit h).at in omega (arith, e)
one_more img config s (Commit by) h = of s.plain.tasks
  where
    of : (ts : List Task) → (commit_tasks (program img) s.plain ts).accepted ≡ s.plain.accepted + 1
    of [] = omega arith
    of (t ∷ ts) = omega arith

kind_commits : (img : Image) (s : Standing) (x : Event) → commits (entry_of x (reply_to img s x)).kind ≡ is_commit x
unfolding entry_of
kind_commits img s (Assign unit guess) = refl
kind_commits img s (Submit b) = refl
kind_commits img s (Replace unit a) = refl
kind_commits img s (Cancel unit) = refl
kind_commits img s (Commit by) = refl

kind_assigns : (x : Event) (r : Reply) → assigns (entry_of x r).kind ≡ tasks_begun x
unfolding entry_of
kind_assigns (Assign unit guess) r = refl
kind_assigns (Submit b) r = refl
kind_assigns (Replace unit a) r = refl
kind_assigns (Cancel unit) r = refl
kind_assigns (Commit by) r = refl

cuts_counted : (cut : Option Cut) → unwrap_or (option_map count_of cut) 0 ≡ tasks_cut cut
cuts_counted None = refl
cuts_counted (Some cut) = refl

cuts_told : (x : Event) (r : Reply) → unwrap_or (entry_of x r).squashed 0 ≡ tasks_cut r.cut
unfolding entry_of
cuts_told x r = cuts_counted r.cut

begun_few : (x : Event) → tasks_begun x ≤ 1
begun_few (Assign unit guess) = omega arith
begun_few (Submit b) = omega arith
begun_few (Replace unit a) = omega arith
begun_few (Cancel unit) = omega arith
begun_few (Commit by) = omega arith

-- the numbers that a board shows of the history
pub counts : (r : Recorded) → IsKept r → IsCounted r
counts r kept =
    let events = kept.events in
    let few = kept.reached.accepted_few in
    let assigned = kept.assigned in
    record {
      in_order = record { tasks = omega (arith, assigned); events = kept.assigned_few };
      events_few = omega (arith, events, few);
    }

counted-append : (t : Tally) (es : List Entry) (e : Entry) → counted_on t (es ++ e ∷ []) ≡ tally_with (counted_on t es) e
unfolding counted_on
counted-append t [] e = refl
counted-append t (f ∷ es) e = counted-append (tally_with t f) es e

-- the recorder after an accepted event
pub record Follows (r : Recorded) (x : Event) (m : MachineValue) (e : Entry) : Type 0 where
  pub event : IsEvent x
  pub accepted : refusal_of r.machine.image r.machine.config (standing_of r) x ≡ None
  pub image : m.image ≡ r.machine.image
  pub config : m.config ≡ r.machine.config
  pub at : StandsAt m (after_event r.machine.image r.machine.config (standing_of r) x)
  pub entry : e ≡ entry_of x (reply_to r.machine.image (standing_of r) x)

pub leads : (r : Recorded) (x : Event) (m : MachineValue) (e : Entry) → IsKept r → Follows r x m e
    → led_to r.machine.image r.machine.config (r.entries ++ e ∷ []) ≡ after_event r.machine.image r.machine.config (standing_of r) x
leads r x m e kept f =
    let img = r.machine.image in
    let config = r.machine.config in
    last-append img (opened_at img config 0) r.entries e
    ∙ (ap (after_entry img (standing_of r)) f.entry
    ∙ (entry_leads img (given img kept.image) config (standing_of r) x f.event f.accepted ∙ sym (accepted_step img config (standing_of r) x f.accepted)))

moved : (r : Recorded) (m : MachineValue) → m.image ≡ r.machine.image → m.config ≡ r.machine.config → (P : Image → Config → Type 0) → P r.machine.image r.machine.config → P m.image m.config
moved r m image config P h = subst (λ (i : Image). P i m.config) (sym image) (subst (λ (c : Config). P r.machine.image c) (sym config) h)

-- the type's facts after an accepted event
pub recorded : (r : Recorded) (x : Event) (m : MachineValue) (e : Entry) → IsKept r → Follows r x m e → IsKept (record { machine = m; entries = r.entries ++ e ∷ [] })
recorded r x m e kept f =
    let img = r.machine.image in
    let config = r.machine.config in
    let s : Standing = standing_of r in
    let es : List Entry = r.entries ++ e ∷ [] in
    let led : led_to img config es ≡ after_event img config s x = leads r x m e kept f in
    let stepped_is : led_to img config es ≡ standing_after img s x = led ∙ accepted_step img config s x f.accepted in
    let move = moved r m f.image f.config in
    let all : Legal img config (opened_at img config 0) es =
    Legal-append img config (opened_at img config 0) r.entries e kept.legal.legal (subst (LegalEntry img config s) (sym f.entry) (legal_entry img (given img kept.image) config s x f.event f.accepted)) in
    let more = ap (λ (q : Standing). q.plain.accepted) stepped_is ∙ one_more img config s x f.accepted in
    let commits_more = ap (λ (q : Standing). q.plain.commits) stepped_is ∙ step_commits img (given img kept.image) config s x f.accepted in
    let kind = ap (λ (y : Entry). commits y.kind) f.entry ∙ kind_commits img s x in
    let longer : board es ≡ tally_with (board r.entries) e = counted-append no_events r.entries e in
    let tally = ap (λ (t : Tally). t.committed) longer in
    let events_more = ap (λ (t : Tally). t.events) longer in
    let assigned_more = ap (λ (t : Tally). t.assigned) longer in
    let squashed_more = ap (λ (t : Tally). t.squashed) longer in
    let begins = ap (λ (y : Entry). assigns y.kind) f.entry ∙ kind_assigns x (reply_to img s x) in
    let cuts = ap (λ (y : Entry). unwrap_or y.squashed 0) f.entry ∙ cuts_told x (reply_to img s x) in
    let one = begun_few x in
    let all_tasks = all_counted img (given img kept.image) config s x f.event f.accepted in
    let tasks_left = ap (λ (q : Standing). length q.plain.tasks) stepped_is in
    record {
      legal = record {
        legal = move (λ i c. Legal i c (opened_at i c 0) es) all;
        here = move (λ i c. StandsAt m (led_to i c es)) (subst (StandsAt m) (sym led) f.at);
      };
      image = move (λ i c. IsImage i) kept.image;
      reached = move (λ i c. IsReached i c (led_to i c es)) (subst (IsReached img config) (sym led) (event_reached img (given img kept.image) config s kept.reached x f.event));
      accepted = move (λ i c. length es ≡ (led_to i c es).plain.accepted) (omega (arith, more, kept.accepted, length-append r.entries (e ∷ [])));
      commits = move (λ i c. (led_to i c es).plain.commits ≡ (board es).committed) (omega (arith, commits_more, kind, tally, kept.commits));
      events = move (λ i c. (board es).events ≡ (led_to i c es).plain.accepted) (omega (arith, more, events_more, kept.events));
      assigned = move (λ i c. (board es).assigned ≡ (board es).committed + (board es).squashed + length (led_to i c es).plain.tasks)
          (omega (arith, assigned_more, tally, squashed_more, begins, cuts, kind, all_tasks, tasks_left, kept.assigned));
      assigned_few = omega (arith, assigned_more, events_more, begins, one, kept.assigned_few);
    }

-- and before any event
pub opening_kept : (m : MachineValue) → IsImage m.image → StandsAt m (opened_at m.image m.config 0) → IsKept (record { machine = m; entries = [] })
unfolding Legal last counted_on
opening_kept m image at = record {
  legal = record { legal = tt; here = at };
  image = image;
  reached = opened_reached m.image (given m.image image) m.config 0;
  accepted = refl;
  commits = refl;
  events = refl;
  assigned = refl;
  assigned_few = omega arith;
}

-- the entry that is written is the event's
pub entry_is : (x : Event) (r answer : Reply) (n e : Entry) → n ≡ entry_asking x → r ≡ answer → e ≡ telling r n → e ≡ entry_of x answer
unfolding entry_of
entry_is x r answer n e names is tells = tells ∙ ap₂ telling is names

-- an event is accepted below the limit alone
pub below_limit : (img : Image) (config : Config) (s : Standing) (x : Event) → refusal_of img config s x ≡ None → s.plain.accepted < config.events
below_limit img config s (Assign unit guess) h = (can_assign img config s unit guess h).room
below_limit img config s (Submit b) h = (can_submit img config s b h).room
below_limit img config s (Replace unit a) h = (can_replace img config s unit a h).room
below_limit img config s (Cancel unit) h = (can_cancel img config s unit h).room
below_limit img config s (Commit by) h = (can_commit img config s by h).room

-- where the machine has other image and configuration by name, the standing is the same
pub leads_there : (r : Recorded) (x : Event) (m : MachineValue) (e : Entry) → IsKept r → Follows r x m e
    → standing_of (record { machine = m; entries = r.entries ++ e ∷ [] }) ≡ after_event r.machine.image r.machine.config (standing_of r) x
leads_there r x m e kept f =
    ap (λ (i : Image). led_to i m.config (r.entries ++ e ∷ [])) f.image ∙ (ap (λ (c : Config). led_to r.machine.image c (r.entries ++ e ∷ [])) f.config ∙ leads r x m e kept f)

-- a refused event leaves all as it is
pub stayed : (r : Recorded) (x : Event) (m : MachineValue) (why : Refusal) → IsKept r → refused_at r x ≡ Some why → m ≡ r.machine
    → IsApplied r (record { machine = m; entries = r.entries }) x (Err why)
stayed r x m why kept because same =
    subst (λ (v : MachineValue). IsApplied r (record { machine = v; entries = r.entries }) x (Err why)) (sym same) (record {
      refused = because;
      index = tt;
      entry = tt;
      entries = tt;
      standing = sym (refused_step r.machine.image r.machine.config (standing_of r) x why because);
      image = refl;
      config = refl;
      unchanged = refl;
      was_legal = kept.legal;
      legal = kept.legal;
      counted = counts r kept;
      headline = sequential r kept;
    })

-- so is a recorder just opened
pub opened_kept : (m : MachineValue) (img : Image) (config : Config) (es : List Entry) → m.image ≡ img → m.config ≡ config → IsImage img → StandsAt m (opened_at img config 0) → es ≡ [] → IsKept (record { machine = m; entries = es })
opened_kept m img config es image same sound at none =
    subst (λ (l : List Entry). IsKept (record { machine = m; entries = l })) (sym none)
    (opening_kept m (subst IsImage (sym image) sound)
    (subst (λ (c : Config). StandsAt m (opened_at m.image c 0)) (sym same) (subst (λ (i : Image). StandsAt m (opened_at i config 0)) (sym image) at)))
