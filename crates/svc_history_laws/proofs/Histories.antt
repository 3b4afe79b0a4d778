-- Where legal histories lead.
use Rattle.std.proofs.Common.{◌∙◌, is_some, ℕ, zero, suc, ◌≡◌, ◌+◌, ◌≤◌, List, [], ◌∷◌, Option, Some, None, refl, sym, ap, subst, arith, length, slice_get, take, option_map, unwrap_or}
use Rattle.std.proofs.lemmas.Option.{none-some, same_Some}
use Rattle.svc_base.specs.declared.config.Config.{Config}
use Rattle.svc_image.specs.Image.{Image}
use Rattle.svc_machine_laws.specs.declared.reply.Cut.{Cut}
use Rattle.svc_machine_laws.specs.declared.reply.Reply.{Reply}
use Rattle.svc_machine_laws.specs.PlainMachine.{Plain}
use Rattle.svc_machine_laws.specs.Events.{Event, IsEvent, Assign, Submit, Replace, Cancel, Commit, asked_want, plain_event, plain_submit, plain_cancel}
use Rattle.svc_machine_laws.specs.PlainMachine as plain
use Rattle.svc_machine_laws.specs.Standing.{Standing, opened_at, refusal_of, standing_after, reply_to, is_commit}
use Rattle.svc_machine_laws.specs.Reached.{IsReached}
use Rattle.svc_machine_laws.specs.Blame.{tasks_cut, tasks_begun}
use Rattle.svc_machine_laws.proofs.Given.{Given}
use Rattle.svc_machine_laws.proofs.Accepted.{can_submit, can_cancel}
use Rattle.svc_machine_laws.proofs.Checks.{check_accepted}
use Rattle.svc_machine_laws.proofs.Folds.{step_commits, opened_reached}
use Rattle.svc_machine_laws.proofs.Numbers.{all_counted}
use Rattle.svc_machine_laws.proofs.Standings.{step_reached}
use Rattle.svc_core_laws.specs.Words.{program}
use Rattle.svc_core_laws.specs.State.{State}
use Rattle.svc_core_laws.specs.Program.{Program}
use Rattle.svc_history_laws.specs.declared.entry.Entry.{Entry}
use Rattle.svc_history_laws.specs.Board.{Tally, IsInOrder, no_events, assigns, commits, tally_with, counted_on, board}
use Rattle.svc_history_laws.specs.Entries.{entry_of, count_of}
use Rattle.svc_history_laws.specs.Legal.{LegalEntry, after_entry, Legal, LegalHistory, last, led_to}
use Rattle.svc_history_laws.specs.Histories.{HasEvent, LeadsOn}
use Rattle.svc_history_laws.proofs.Leases.{has_event}

-- an entry of a legal history: the entries before it are legal, and it is legal where they lead
pub record Stands (img : Image) (config : Config) (s : Standing) (es : List Entry) (i : ℕ) (e : Entry) : Type 0 where
  pub before : Legal img config s (take i es)
  pub here : LegalEntry img config (last img s (take i es)) e

pub stands : (img : Image) (config : Config) (s : Standing) (es : List Entry) (i : ℕ) (e : Entry) → Legal img config s es → slice_get es i ≡ Some e → Stands img config s es i e
unfolding Legal last
stands img config s [] i e legal at = absurd (none-some e at)
stands img config s (f ∷ es) zero e legal at = record { before = tt; here = subst (LegalEntry img config s) (same_Some f e at) legal.0 }
stands img config s (f ∷ es) (suc i) e legal at =
    let rest = stands img config (after_entry img s f) es i e legal.1 at in
    record { before = (legal.0, rest.before); here = rest.here }

-- where one entry more leads
pub last_take : (img : Image) (s : Standing) (es : List Entry) (i : ℕ) (e : Entry) → slice_get es i ≡ Some e → last img s (take (suc i) es) ≡ after_entry img (last img s (take i es)) e
unfolding last
last_take img s [] i e h = absurd (none-some e h)
last_take img s (f ∷ es) zero e h = ap (after_entry img s) (same_Some f e h)
last_take img s (f ∷ es) (suc i) e h = last_take img (after_entry img s f) es i e h

-- an entry counts what its event does
kind_begins : (x : Event) (r : Reply) → assigns (entry_of x r).kind ≡ tasks_begun x
unfolding entry_of
kind_begins (Assign unit guess) r = refl
kind_begins (Submit b) r = refl
kind_begins (Replace unit a) r = refl
kind_begins (Cancel unit) r = refl
kind_begins (Commit by) r = refl

pub kind_commits : (x : Event) (r : Reply) → commits (entry_of x r).kind ≡ is_commit x
unfolding entry_of
kind_commits (Assign unit guess) r = refl
kind_commits (Submit b) r = refl
kind_commits (Replace unit a) r = refl
kind_commits (Cancel unit) r = refl
kind_commits (Commit by) r = refl

cuts : (x : Event) (r : Reply) → unwrap_or (entry_of x r).squashed 0 ≡ tasks_cut r.cut
unfolding entry_of
cuts x r = of r.cut
  where
    of : (o : Option Cut) → unwrap_or (option_map count_of o) 0 ≡ tasks_cut o
    of None = refl
    of (Some cut) = refl

begins_one : (x : Event) → tasks_begun x ≤ 1
begins_one (Assign unit guess) = omega arith
begins_one (Submit b) = omega arith
begins_one (Replace unit a) = omega arith
begins_one (Cancel unit) = omega arith
begins_one (Commit by) = omega arith

commit_accepted : (p : Program State) (s : Plain) → (plain.commit p s).accepted ≡ suc s.accepted
commit_accepted p s = of s.tasks
  where
    of : (ts : List plain.Task) → (plain.commit_tasks p s ts).accepted ≡ suc s.accepted
    of [] = refl
    of (t ∷ ts) = refl

step_accepted : (img : Image) (config : Config) (s : Standing) (x : Event) → refusal_of img config s x ≡ None → (standing_after img s x).plain.accepted ≡ suc s.plain.accepted
unfolding standing_after plain_event
step_accepted img config s (Assign unit guess) h = refl
step_accepted img config s (Submit b) h = let can = can_submit img config s b h in
    ap (λ o. (plain_submit img s.plain o b).accepted) can.at ∙ check_accepted (program img) (plain.submit (program img) s.plain can.place b.local (is_some (asked_want img b))) can.place
step_accepted img config s (Replace unit a) h = refl
step_accepted img config s (Cancel unit) h = let can = can_cancel img config s unit h in ap (λ o. (plain_cancel s.plain o).accepted) can.at
step_accepted img config s (Commit by) h = commit_accepted (program img) s.plain

-- a standing and the numbers of the entries that led to it
pub record Tallies (img : Image) (config : Config) (s : Standing) (t : Tally) : Type 0 where
  pub reached : IsReached img config s
  pub commits : s.plain.commits ≡ t.committed
  pub accepted : s.plain.accepted ≡ t.events
  pub tasks : t.assigned ≡ t.committed + t.squashed + length s.plain.tasks
  pub few : t.assigned ≤ t.events

tallies_step : (img : Image) → Given img → (config : Config) (s : Standing) (t : Tally) (x : Event) → IsEvent x → refusal_of img config s x ≡ None → Tallies img config s t
    → Tallies img config (standing_after img s x) (tally_with t (entry_of x (reply_to img s x)))
tallies_step img given config s t x is ok h =
    let r : Reply = reply_to img s x in
    let assigned = kind_begins x r in
    let committed = kind_commits x r in
    let squashed = cuts x r in
    let numbers = all_counted img given config s x is ok in
    let one = begins_one x in
    record {
      reached = step_reached img given config s h.reached x is ok;
      commits = let k = step_commits img given config s x ok in omega (arith, k, h.commits, committed);
      accepted = let n = step_accepted img config s x ok in omega (arith, n, h.accepted);
      tasks = omega (arith, assigned, committed, squashed, numbers, h.tasks);
      few = omega (arith, assigned, one, h.few);
    }

pub tallies_entry : (img : Image) → Given img → (config : Config) (s : Standing) (t : Tally) (e : Entry) → LegalEntry img config s e → Tallies img config s t → Tallies img config (after_entry img s e) (tally_with t e)
tallies_entry img given config s t e legal h =
    let x : HasEvent img config s e = has_event img given config s e legal in
    subst (λ (n : Standing). Tallies img config n (tally_with t e)) (sym x.leads)
    (subst (λ (f : Entry). Tallies img config (standing_after img s x.event) (tally_with t f)) (sym x.entry) (tallies_step img given config s t x.event x.is x.accepted h))

tallies_on : (img : Image) → Given img → (config : Config) (s : Standing) (t : Tally) (es : List Entry) → Legal img config s es → Tallies img config s t → Tallies img config (last img s es) (counted_on t es)
unfolding Legal last counted_on
tallies_on img given config s t [] legal h = h
tallies_on img given config s t (e ∷ es) legal h = tallies_on img given config (after_entry img s e) (tally_with t e) es legal.1 (tallies_entry img given config s t e legal.0 h)

-- the numbers of a legal history
pub tallies : (img : Image) → Given img → (config : Config) (es : List Entry) → LegalHistory img config es → Tallies img config (led_to img config es) (board es)
tallies img given config es legal =
    tallies_on img given config (opened_at img config 0) no_events es legal
    (record { reached = opened_reached img given config 0; commits = refl; accepted = refl; tasks = refl; few = omega arith })

events_counted : (t : Tally) (es : List Entry) → (counted_on t es).events ≡ t.events + length es
unfolding counted_on
events_counted t [] = omega arith
events_counted t (e ∷ es) = let ih = events_counted (tally_with t e) es in omega (arith, ih)

pub leads_on : (img : Image) → Given img → (config : Config) (es : List Entry) → LegalHistory img config es → LeadsOn img config es
leads_on img given config es legal =
    let t = tallies img given config es legal in
    let n = events_counted no_events es in
    record { reached = t.reached; commits = t.commits; accepted = omega (arith, t.accepted, n) }

pub in_order : (img : Image) → Given img → (config : Config) (es : List Entry) → LegalHistory img config es → IsInOrder (board es)
in_order img given config es legal =
    let t = tallies img given config es legal in
    record { tasks = omega (arith, t.tasks); events = t.few }
