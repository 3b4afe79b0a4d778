-- The stories of a legal history are the logs of its active tasks, and at a commit the sequential answers.
use Rattle.std.proofs.Common.{inl, inr, ◌⊎◌, ℕ, zero, suc, ◌≡◌, ◌≢◌, ◌==◌, Bool, true, false, cond, List, [], ◌∷◌, ◌++◌, map, Option, Some, None, refl, sym, ap, ◌∙◌, subst, arith, option_map, unwrap_or, is_some, slice_get, take, get_or, ◌≤◌, ◌+◌, length, ◌<◌}
use Rattle.std.proofs.lemmas.Option.{none-some, same_Some, slice_get-map, slice_get-get_or}
use Rattle.std.proofs.lemmas.List.{take_all}
use Rattle.std.proofs.lemmas.Bool.{eq-eqb, ne_eqb}
use Rattle.svc_base.specs.declared.config.Config.{Config}
use Rattle.svc_image.specs.Image.{Image}
use Rattle.svc_core_laws.specs.State.{State}
use Rattle.svc_core_laws.specs.Program.{Memory, Program, Action, part, seq, wrote, over, task_log}
use Rattle.svc_core_laws.specs.Words.{program}
use Rattle.svc_bus_laws.specs.ByRows.{edit, cut_at}
use Rattle.svc_machine_laws.specs.declared.reply.What.{What}
use Rattle.svc_machine_laws.specs.declared.reply.What.TheVariants as what
use Rattle.svc_machine_laws.specs.declared.reply.Reply.{Reply}
use Rattle.svc_machine_laws.specs.PlainMachine.{Task, Plain, Running, runs_of, unit_of}
use Rattle.svc_machine_laws.specs.Events.{Event, IsEvent, Assign, Submit, Replace, Cancel, Commit}
use Rattle.svc_machine_laws.specs.Standing.{Standing, opened_at, refusal_of, standing_after, reply_to, is_commit}
use Rattle.svc_machine_laws.specs.Reached.{IsReached}
use Rattle.svc_machine_laws.specs.Replies.{plain_reply, plain_committed}
use Rattle.svc_machine_laws.specs.Logs.{TaskLog, log_of, logs_of, action_of, plus, adds, CommitsAnswers, LogsFollow}
use Rattle.svc_machine_laws.proofs.Given.{Given}
use Rattle.svc_machine_laws.proofs.Accepted.{can_assign, can_commit}
use Rattle.svc_bus_laws.proofs.Searches.{cases_below}
use Rattle.svc_machine_laws.proofs.Folds.{opened_reached, step_commits}
use Rattle.svc_machine_laws.proofs.Places.{found, not_found, within, some_at}
use Rattle.svc_machine_laws.proofs.Standings.{step_reached}
use Rattle.svc_machine_laws.proofs.TaskLogs.{logs_follow}
use Rattle.svc_history_laws.specs.declared.entry.Kind.{Kind}
use Rattle.svc_history_laws.specs.declared.entry.Kind.TheVariants as kind
use Rattle.svc_history_laws.specs.declared.entry.Entry.{Entry}
use Rattle.svc_history_laws.specs.Entries.{entry_of, reply_told, address_told, word_told, served_told, kind_served}
use Rattle.svc_history_laws.specs.Legal.{LegalEntry, after_entry, Legal, LegalHistory, last, led_to}
use Rattle.svc_history_laws.specs.Board.{board, commits}
use Rattle.svc_history_laws.specs.Histories.{HasEvent}
use Rattle.svc_history_laws.specs.Stories.{told_reply, the_address, told_by, told_on, story_after, story, IsAnswered, HasCommit}
use Rattle.svc_history_laws.proofs.Leases.{has_event}
use Rattle.svc_history_laws.proofs.Histories.{Stands, stands, tallies, kind_commits, last_take}

-- an entry tells what its reply does
told_what : (w : What) → told_reply (reply_told w) (unwrap_or (option_map the_address (address_told w)) 0) (unwrap_or (word_told w) 0) (is_some (option_map kind_served (served_told w))) ≡ action_of w
told_what (what.Assigned task entry epoch) = refl
told_what what.Ran = refl
told_what (what.Loaded addr value by) = refl
told_what (what.Stored addr word None) = refl
told_what (what.Stored addr word (Some by)) = refl
told_what (what.Emitted word) = refl
told_what (what.Trapped number) = refl
told_what (what.Replaced addr) = refl
told_what what.Cancelled = refl
told_what (what.Committed task end) = refl

entry_tells : (x : Event) (r : Reply) → told_by (entry_of x r) ≡ action_of r.what
unfolding entry_of
entry_tells x r = told_what r.what

-- things of lists that were changed
pub get_one_more : {A : Type 0} (xs : List A) (y : A) (q : ℕ) (z : A) → slice_get (xs ++ y ∷ []) q ≡ Some z → (slice_get xs q ≡ Some z) ⊎ (y ≡ z)
get_one_more [] y zero z h = inr (same_Some y z h)
get_one_more [] y (suc q) z h = absurd (none-some z h)
get_one_more (x ∷ xs) y zero z h = inl h
get_one_more (x ∷ xs) y (suc q) z h = get_one_more xs y q z h

pub get_taken : {A : Type 0} (n : ℕ) (xs : List A) (q : ℕ) (z : A) → slice_get (take n xs) q ≡ Some z → slice_get xs q ≡ Some z
get_taken zero xs q z h = absurd (none-some z h)
get_taken (suc n) [] q z h = absurd (none-some z h)
get_taken (suc n) (x ∷ xs) zero z h = h
get_taken (suc n) (x ∷ xs) (suc q) z h = get_taken n xs q z h

pub get_cut : {A : Type 0} (c : Option ℕ) (xs : List A) (q : ℕ) (z : A) → slice_get (cut_at c xs) q ≡ Some z → slice_get xs q ≡ Some z
get_cut None xs q z h = h
get_cut (Some n) xs q z h = get_taken n xs q z h

pub record IsEdited {A : Type 0} (f : A → A) (xs : List A) (place q : ℕ) (z : A) : Type 0 where
  pub here : q ≡ place
  pub old : A
  pub there : slice_get xs place ≡ Some old
  pub new : f old ≡ z

zero_suc : (n : ℕ) → suc n ≡ 0 → ⊥
zero_suc n h = omega (arith, h)

pub get_edited : {A : Type 0} (place : ℕ) (f : A → A) (c : Option ℕ) (xs : List A) (q : ℕ) (z : A) → slice_get (edit place f c xs) q ≡ Some z
    → (IsEdited f xs place q z) ⊎ ((q ≢ place) × (slice_get xs q ≡ Some z))
get_edited place f c [] q z h = absurd (none-some z h)
get_edited zero f c (x ∷ xs) zero z h = inl (record { here = refl; old = x; there = refl; new = same_Some (f x) z h })
get_edited zero f c (x ∷ xs) (suc q) z h = inr (zero_suc q, get_cut c xs q z h)
get_edited (suc place) f c (x ∷ xs) zero z h = inr ((λ e. zero_suc place (sym e)), h)
get_edited (suc place) f c (x ∷ xs) (suc q) z h = elim (get_edited place f c xs q z h) [
  | inl is ↦ inl (record { here = ap suc is.here; old = is.old; there = is.there; new = is.new })
  | inr same ↦ inr ((λ e. same.0 (omega (arith, e))), same.1)
]

-- the units of the logs are those of the tasks
unit_logged : TaskLog → ℕ
unit_logged t = t.unit

units_logged : (p : Program State) (m : Memory) (ts : List Task) → map unit_logged (map log_of (runs_of p m ts)) ≡ map unit_of ts
unfolding unit_logged
units_logged p m [] = refl
units_logged p m (t ∷ ts) = ap {B = List ℕ} (λ l. t.unit ∷ l) (units_logged p (over (wrote (part p t.entry t.turns m).log) m) ts)

pub unit_at_log : (img : Image) (s : Plain) (q : ℕ) (t : TaskLog) → slice_get (logs_of (program img) s) q ≡ Some t → slice_get (map unit_of s.tasks) q ≡ Some t.unit
unfolding unit_logged
unit_at_log img s q t h =
    ap (λ l. slice_get l q) (sym (units_logged (program img) (seq (program img) s.commits).memory s.tasks))
    ∙ (slice_get-map unit_logged (logs_of (program img) s) q ∙ ap (option_map unit_logged) h)

-- two places of one unit are one
pub one_place : (img : Image) (config : Config) (s : Standing) → IsReached img config s → (q r u : ℕ) → slice_get (map unit_of s.plain.tasks) q ≡ Some u → slice_get (map unit_of s.plain.tasks) r ≡ Some u → q ≡ r
one_place img config s reached q r u one other =
    let units : s.lines.units ≡ map unit_of s.plain.tasks = reached.lines.units in
    let here : slice_get s.lines.units q ≡ Some u = ap (λ l. slice_get l q) units ∙ one in
    let there : slice_get s.lines.units r ≡ Some u = ap (λ l. slice_get l r) units ∙ other in
    let inside = within s.lines.units q u here in
    let within_too = within s.lines.units r u there in
    let left : get_or s.lines.units q 0 ≡ u = same_Some _ u (sym (slice_get-get_or s.lines.units q 0 inside) ∙ here) in
    let right : get_or s.lines.units r 0 ≡ u = same_Some _ u (sym (slice_get-get_or s.lines.units r 0 within_too) ∙ there) in
    reached.lines.sound.distinct_units q r inside within_too (left ∙ sym right)

-- THE STORY of each active task's unit is its log
Tells : Image → Plain → (ℕ → List Action) → Type 0
Tells img s f = (q : ℕ) (t : TaskLog) → slice_get (logs_of (program img) s) q ≡ Some t → f t.unit ≡ t.log

same_either : (b : Bool) (log : List Action) → cond b log log ≡ log
same_either true log = refl
same_either false log = refl

own_unit : (u v : ℕ) (new old : List Action) → u ≡ v → cond (u == v) new old ≡ new
own_unit u v new old h = ap (λ b. cond b new old) (eq-eqb u v h)

other_unit : (u v : ℕ) (new old : List Action) → (u ≡ v → ⊥) → cond (u == v) new old ≡ old
other_unit u v new old h = ap (λ b. cond b new old) (ne_eqb u v h)

module _ (img : Image) (given : Given img) (config : Config) (s : Standing) (reached : IsReached img config s) (f : ℕ → List Action) (tells : Tells img s.plain f) where
  abbrev p : Program State
  p = program img

  tells_step : (x : Event) → IsEvent x → refusal_of img config s x ≡ None → LogsFollow p s.plain (standing_after img s x).plain x (reply_to img s x).what
      → Tells img (standing_after img s x).plain (λ u. told_on u (f u) (entry_of x (reply_to img s x)))
  unfolding Tells entry_of
  tells_step (Assign unit guess) is ok logs q t h =
      let can = can_assign img config s unit guess ok in
      elim (get_one_more (logs_of p s.plain) (record { unit = unit; log = [] }) q t (ap (λ l. slice_get l q) (sym logs) ∙ h)) [
        | inl old ↦
            (let at = unit_at_log img s.plain q t old in
            let inside = within (map unit_of s.plain.tasks) q t.unit at in
            let unit_is : get_or (map unit_of s.plain.tasks) q 0 ≡ t.unit = same_Some _ t.unit (sym (slice_get-get_or (map unit_of s.plain.tasks) q 0 inside) ∙ at) in
            other_unit unit t.unit [] (f t.unit) (λ same. not_found (map unit_of s.plain.tasks) unit q can.idle inside (unit_is ∙ sym same)) ∙ tells q t old)
        | inr new ↦ own_unit unit t.unit [] (f t.unit) (ap (λ (y : TaskLog). y.unit) new) ∙ ap (λ (y : TaskLog). y.log) new
      ]
  tells_step (Submit b) is ok logs q t h =
      let done : What = (reply_to img s (Submit b)).what in
      let e : Entry = entry_of (Submit b) (reply_to img s (Submit b)) in
      let unit_here = found (map unit_of s.plain.tasks) b.unit.0 logs.place logs.at in
      elim (get_edited logs.place (adds (action_of done)) logs.cut (logs_of p s.plain) q t (ap (λ l. slice_get l q) (sym logs.logs) ∙ h)) [
        | inl is ↦
            (let unit_is : b.unit.0 ≡ is.old.unit = same_Some b.unit.0 is.old.unit (sym unit_here ∙ unit_at_log img s.plain logs.place is.old is.there) in
            own_unit b.unit.0 t.unit (plus (told_by e) (f t.unit)) (f t.unit) (unit_is ∙ ap (λ (y : TaskLog). y.unit) is.new)
            ∙ (ap (λ o. plus o (f t.unit)) (entry_tells (Submit b) (reply_to img s (Submit b)))
            ∙ (ap (λ u. plus (action_of done) (f u)) (sym (ap (λ (y : TaskLog). y.unit) is.new))
            ∙ (ap (plus (action_of done)) (tells logs.place is.old is.there) ∙ ap (λ (y : TaskLog). y.log) is.new))))
        | inr same ↦
            other_unit b.unit.0 t.unit (plus (told_by e) (f t.unit)) (f t.unit) (λ u. same.0 (one_place img config s reached q logs.place t.unit (unit_at_log img s.plain q t same.1) (unit_here ∙ ap Some u)))
            ∙ tells q t same.1
      ]
  tells_step (Replace unit a) is ok logs q t h = same_either (unit == t.unit) (f t.unit) ∙ tells q t (ap (λ l. slice_get l q) (sym logs) ∙ h)
  tells_step (Cancel unit) is ok logs q t h =
      same_either (unit == t.unit) (f t.unit) ∙ tells q t (get_taken logs.place (logs_of p s.plain) q t (ap (λ l. slice_get l q) (sym logs.logs) ∙ h))
  tells_step (Commit by) is ok logs q t h =
      same_either (by == t.unit) (f t.unit)
      ∙ tells (suc q) t (ap (λ l. slice_get l (suc q)) logs.head ∙ left logs.keep logs.others (ap (λ l. slice_get l q) (sym logs.logs) ∙ h))
    where
      left : (keep : Bool) (others : List TaskLog) → slice_get (cond keep others []) q ≡ Some t → slice_get others q ≡ Some t
      left true others k = k
      left false others k = absurd (none-some t k)

  -- a commit's story
  committed_word : (ts : List Task) (x : Running State) → slice_get (runs_of p (seq p s.plain.commits).memory ts) 0 ≡ Some x → word_told (plain_committed p s.plain.commits ts).what ≡ Some s.plain.commits
  committed_word [] x h = absurd (none-some x h)
  committed_word (t ∷ ts) x h = refl

-- where the logs have a head, so have the tasks
record HasHead (s : Plain) (unit : ℕ) : Type 0 where
  head : Task
  others : List Task
  tasks : s.tasks ≡ head ∷ others
  unit_is : head.unit ≡ unit

head_of : (img : Image) (s : Plain) (t : TaskLog) → slice_get (logs_of (program img) s) 0 ≡ Some t → HasHead s t.unit
head_of img s t h = of s.tasks refl (unit_at_log img s 0 t h)
  where
    of : (ts : List Task) → s.tasks ≡ ts → slice_get (map unit_of s.tasks) 0 ≡ Some t.unit → HasHead s t.unit
    of [] e k = absurd (none-some t.unit (ap (λ (l : List Task). slice_get (map unit_of l) 0) (sym e) ∙ k))
    of (u ∷ ts) e k = record { head = u; others = ts; tasks = e; unit_is = same_Some u.unit t.unit (ap (λ (l : List Task). slice_get (map unit_of l) 0) (sym e) ∙ k) }

-- a standing and the stories that led to it
record Told (img : Image) (config : Config) (s : Standing) (f : ℕ → List Action) : Type 0 where
  reached : IsReached img config s
  tells : Tells img s.plain f

told_entry : (img : Image) → Given img → (config : Config) (s : Standing) (f : ℕ → List Action) (e : Entry) → LegalEntry img config s e → Told img config s f → Told img config (after_entry img s e) (λ u. told_on u (f u) e)
told_entry img given config s f e legal h =
    let x : HasEvent img config s e = has_event img given config s e legal in
    subst (λ (n : Standing). Told img config n (λ u. told_on u (f u) e)) (sym x.leads)
    (subst (λ (d : Entry). Told img config (standing_after img s x.event) (λ u. told_on u (f u) d)) (sym x.entry)
    (record {
      reached = step_reached img given config s h.reached x.event x.is x.accepted;
      tells = tells_step img given config s h.reached f h.tells x.event x.is x.accepted (logs_follow img given config s h.reached x.event x.is x.accepted);
    }))

told_after : (img : Image) → Given img → (config : Config) (s : Standing) (f : ℕ → List Action) (es : List Entry) → Legal img config s es → Told img config s f → Told img config (last img s es) (λ u. story_after u (f u) es)
unfolding Legal last story_after
told_after img given config s f [] legal h = h
told_after img given config s f (e ∷ es) legal h = told_after img given config (after_entry img s e) (λ u. told_on u (f u) e) es legal.1 (told_entry img given config s f e legal.0 h)

stories : (img : Image) → Given img → (config : Config) (es : List Entry) → LegalHistory img config es → Told img config (led_to img config es) (λ u. story u es)
unfolding Tells
stories img given config es legal =
    told_after img given config (opened_at img config 0) (λ u. []) es legal
    (record { reached = opened_reached img given config 0; tells = λ q t h. absurd (none-some t h) })

-- what is said at a commit
record Says (img : Image) (s : Standing) (f : ℕ → List Action) (e : Entry) : Type 0 where
  head : Task
  others : List Task
  tasks : s.plain.tasks ≡ head ∷ others
  number : e.word ≡ Some s.plain.commits
  answers : f head.unit ≡ task_log (program img) s.plain.commits

says_event : (img : Image) → Given img → (config : Config) (s : Standing) (f : ℕ → List Action) → Told img config s f → (x : Event) → IsEvent x → refusal_of img config s x ≡ None
    → (entry_of x (reply_to img s x)).kind ≡ kind.Commit → Says img s f (entry_of x (reply_to img s x))
unfolding entry_of reply_to plain_reply Tells
says_event img given config s f h (Assign unit guess) is ok k = cc
says_event img given config s f h (Submit b) is ok k = cc
says_event img given config s f h (Replace unit a) is ok k = cc
says_event img given config s f h (Cancel unit) is ok k = cc
says_event img given config s f h (Commit by) is ok k =
    let logs : CommitsAnswers (program img) s.plain (standing_after img s (Commit by)).plain = logs_follow img given config s h.reached (Commit by) is ok in
    let t : TaskLog = record { unit = logs.unit; log = task_log (program img) s.plain.commits } in
    let first : slice_get (logs_of (program img) s.plain) 0 ≡ Some t = ap (λ (l : List TaskLog). slice_get l 0) logs.head in
    let top = head_of img s.plain t first in
    let can = can_commit img config s (by) ok in
    record {
      head = top.head;
      others = top.others;
      tasks = top.tasks;
      number = committed_word img given config s h.reached f h.tells s.plain.tasks can.run can.here;
      answers = ap f top.unit_is ∙ h.tells 0 t first;
    }

says_entry : (img : Image) → Given img → (config : Config) (s : Standing) (f : ℕ → List Action) → Told img config s f → (e : Entry) → LegalEntry img config s e → e.kind ≡ kind.Commit → Says img s f e
says_entry img given config s f h e legal k =
    let x : HasEvent img config s e = has_event img given config s e legal in
    subst (Says img s f) (sym x.entry) (says_event img given config s f h x.event x.is x.accepted (ap (λ (d : Entry). d.kind) (sym x.entry) ∙ k))

-- EACH COMMIT of a legal history
pub is_answered : (img : Image) → Given img → (config : Config) (es : List Entry) → LegalHistory img config es → (i : ℕ) (e : Entry) → slice_get es i ≡ Some e → e.kind ≡ kind.Commit → IsAnswered img config es i e
is_answered img given config es legal i e at k =
    let st : Stands img config (opened_at img config 0) es i e = stands img config (opened_at img config 0) es i e legal at in
    let says = says_entry img given config (led_to img config (take i es)) (λ u. story u (take i es)) (stories img given config (take i es) st.before) e st.here k in
    record { head = says.head; others = says.others; tasks = says.tasks; number = says.number; answers = says.answers }

-- EACH NUMBER below the commits has its commit
is_commit_kind : (k : Kind) → commits k ≡ 1 → k ≡ kind.Commit
is_commit_kind kind.Assign h = absurd (omega (arith, h))
is_commit_kind kind.Submit h = absurd (omega (arith, h))
is_commit_kind kind.Replace h = absurd (omega (arith, h))
is_commit_kind kind.Cancel h = absurd (omega (arith, h))
is_commit_kind kind.Commit h = refl

at_most_one : (k : Kind) → commits k ≤ 1
at_most_one kind.Assign = omega arith
at_most_one kind.Submit = omega arith
at_most_one kind.Replace = omega arith
at_most_one kind.Cancel = omega arith
at_most_one kind.Commit = omega arith

commits_found : (img : Image) → Given img → (config : Config) (es : List Entry) → LegalHistory img config es → (i : ℕ) → i ≤ length es → (j : ℕ) → j < (led_to img config (take i es)).plain.commits → HasCommit es j
unfolding last
commits_found img given config es legal zero le j lt = absurd (omega (arith, lt))
commits_found img given config es legal (suc i) le j lt =
    let some = some_at es i (omega (arith, le)) in
    let e : Entry = some.0 in
    let st : Stands img config (opened_at img config 0) es i e = stands img config (opened_at img config 0) es i e legal some.1 in
    let s : Standing = led_to img config (take i es) in
    let x : HasEvent img config s e = has_event img given config s e st.here in
    let step : (led_to img config (take (suc i) es)).plain.commits ≡ is_commit x.event + s.plain.commits =
    ap (λ (n : Standing). n.plain.commits) (last_take img (opened_at img config 0) es i e some.1 ∙ x.leads) ∙ step_commits img given config s x.event x.accepted in
    let same : commits e.kind ≡ is_commit x.event = ap (λ (d : Entry). commits d.kind) x.entry ∙ kind_commits x.event (reply_to img s x.event) in
    elim (cases_below j s.plain.commits (let one = at_most_one e.kind in omega (arith, lt, step, same, one))) [
      | inl before ↦ commits_found img given config es legal i (omega (arith, le)) j before
      | inr here ↦
          (let k : e.kind ≡ kind.Commit = is_commit_kind e.kind (let one = at_most_one e.kind in omega (arith, lt, step, same, one, here)) in
          record { index = i; entry = e; at = some.1; kind = k; number_is = (is_answered img given config es legal i e some.1 k).number ∙ ap Some (sym here) })
    ]

pub has_commit : (img : Image) → Given img → (config : Config) (es : List Entry) → LegalHistory img config es → (j : ℕ) → j < (board es).committed → HasCommit es j
has_commit img given config es legal j lt =
    let all : take (length es) es ≡ es = take_all (length es) es (omega arith) in
    let n = (tallies img given config es legal).commits in
    let m = ap (λ l. (led_to img config l).plain.commits) all in
    commits_found img given config es legal (length es) (omega arith) j (omega (arith, lt, n, m))
