-- The active tasks that are followed through a history are, in order, those of the machine where it leads.
use Rattle.std.proofs.Common.{inl, inr, ◌≡◌, ◌∙◌, ◌+◌, ◌-◌, ◌==◌, ◌≤◌, ◌++◌, ◌∷◌, [], ◌&&◌, ℕ, zero, suc, Bool, true, false, cond, List, Option, Some, None, length, take, map, option_map, slice_get, refl, ap, sym, subst, arith, append-nil}
use Rattle.std.specs.List.{filter, position, position_or_len}
use Rattle.std.specs.Prelude.{nat_lt, not}
use Rattle.std.proofs.lemmas.Bool.{eq-eqb, le-leb, le-ltb, lt-leb, lt-ltb, ltb-false, ltb-true, ne_eqb}
use Rattle.std.proofs.lemmas.List.{take_all}
use Rattle.std.proofs.lemmas.Option.{none-some, same_Some}
use Rattle.svc_base.specs.declared.config.Config.{Config}
use Rattle.svc_base.specs.declared.ids.UnitId.{UnitId}
use Rattle.svc_image.specs.Image.{Image}
use Rattle.svc_core_laws.specs.Bursts.{Advance}
use Rattle.svc_core_laws.specs.Program.{Memory, Program, over, part, seq, wrote}
use Rattle.svc_core_laws.specs.State.{State}
use Rattle.svc_core_laws.specs.Words.{program}
use Rattle.svc_bus_laws.specs.ByRows.{cut_at, edit}
use Rattle.svc_machine_laws.specs.declared.reply.Cause.{Cause}
use Rattle.svc_machine_laws.specs.declared.reply.Cause.TheVariants as cause
use Rattle.svc_machine_laws.specs.declared.reply.Cut.{Cut}
use Rattle.svc_machine_laws.specs.Blame.{IsBlamedOn, IsCutAt, tasks_begun, tasks_cut}
use Rattle.svc_machine_laws.specs.Events.{Event, IsEvent}
use Rattle.svc_machine_laws.specs.Events as event
use Rattle.svc_machine_laws.specs.Logs.{LogsFollow, TaskLog, adds, log_of, logs_of, action_of}
use Rattle.svc_machine_laws.specs.PlainMachine.{Plain, Task, runs_of, unit_of}
use Rattle.svc_machine_laws.specs.Reached.{IsReached}
use Rattle.svc_machine_laws.specs.Replies.{plain_committed, plain_reply}
use Rattle.svc_machine_laws.specs.Standing.{Standing, is_commit, refusal_of, reply_to, standing_after}
use Rattle.svc_machine_laws.proofs.Blames.{blamed}
use Rattle.svc_machine_laws.proofs.EditedLists.{map_append_one, map_edit, map_take}
use Rattle.svc_machine_laws.proofs.Folds.{step_commits}
use Rattle.svc_machine_laws.proofs.Followed.{map_count}
use Rattle.svc_machine_laws.proofs.Given.{Given}
use Rattle.svc_machine_laws.proofs.Numbers.{all_counted}
use Rattle.svc_machine_laws.proofs.TaskLogs.{logs_follow}
use Rattle.svc_history_laws.specs.declared.entry.CutKind.{CutKind}
use Rattle.svc_history_laws.specs.declared.entry.Entry.{Entry}
use Rattle.svc_history_laws.specs.declared.entry.Kind.TheVariants.{Commit}
use Rattle.svc_history_laws.specs.Entries.{cause_of, entry_of, first_of, entry_asking, telling, why_cut}
use Rattle.svc_history_laws.proofs.Histories.{kind_commits}
use Rattle.svc_report.specs.Counting.{one_where}
use Rattle.svc_report.specs.Summary.{is_kind}
use Rattle.svc_task_runs.specs.declared.task_run.Fate.TheVariants as fate
use Rattle.svc_task_runs.specs.declared.task_run.TaskRun.{TaskRun}
use Rattle.svc_task_runs.specs.Runs.{Runs, after, begun, fate_of, goes_on, is_active, is_load, is_not_above, is_number, is_store, is_submit_of, step, turns_in}

-- ---- lists

-- the first place in a list that has one element more in front
pub position_cons : {X : Type 0} (p : X → Bool) (x : X) (xs : List X) → position p (x ∷ xs) ≡ cond (p x) (Some 0) (option_map suc (position p xs))
position_cons p x xs = split (p x)
  where
    found : (b : Bool) → Option ℕ
    found b = let n = cond (not b) (1 + position_or_len p xs) 0 in cond (nat_lt n (suc (length xs))) (Some n) None

    shifted : (n m : ℕ) (b : Bool) → nat_lt n m ≡ b → cond (nat_lt (1 + n) (suc m)) (Some (1 + n)) None ≡ option_map suc (cond b (Some n) None)
    shifted n m true h = ap (λ (b : Bool). cond b (Some (1 + n)) None) (lt-ltb (1 + n) (suc m) (let k = ltb-true n m h in omega (arith, k))) ∙ ap Some (let e : 1 + n ≡ suc n = omega arith in e)
    shifted n m false h = ap (λ (b : Bool). cond b (Some (1 + n)) None) (le-ltb (1 + n) (suc m) (let k = ltb-false n m h in omega (arith, k)))

    split : (b : Bool) → found b ≡ cond b (Some 0) (option_map suc (position p xs))
    split true = ap (λ (b : Bool). cond b (Some 0) None) (lt-ltb 0 (suc (length xs)) (omega arith))
    split false = shifted (position_or_len p xs) (length xs) (nat_lt (position_or_len p xs) (length xs)) refl

-- what was taken from the front is as much as there is of it
front_taken : {A : Type 0} (n : ℕ) (xs : List A) → take n xs ≡ take (length (take n xs)) xs
front_taken zero xs = refl
front_taken (suc n) [] = refl
front_taken {A} (suc n) (x ∷ xs) = ap {B = List A} (λ q. x ∷ q) (front_taken n xs)

front_all : {A : Type 0} (xs : List A) → xs ≡ take (length xs) xs
front_all xs = sym (take_all (length xs) xs (omega arith))

front_cut : {A : Type 0} (c : Option ℕ) (xs : List A) → cut_at c xs ≡ take (length (cut_at c xs)) xs
front_cut None xs = front_all xs
front_cut (Some n) xs = front_taken n xs

-- an edit that only cuts leaves the front
front_edited : {A : Type 0} (place : ℕ) (c : Option ℕ) (xs : List A) → edit place (λ x. x) c xs ≡ take (length (edit place (λ x. x) c xs)) xs
front_edited place c [] = refl
front_edited {A} zero c (x ∷ xs) = ap {B = List A} (λ q. x ∷ q) (front_cut c xs)
front_edited {A} (suc place) c (x ∷ xs) = ap {B = List A} (λ q. x ∷ q) (front_edited place c xs)

taken_of_none : {A : Type 0} (n : ℕ) → let none : List A = [] in take n none ≡ none
taken_of_none zero = refl
taken_of_none (suc n) = refl

-- what is left if all from a place on are taken away
left_before : {A : Type 0} (place : ℕ) (xs : List A) → take (length xs - (length xs - place)) xs ≡ take place xs
left_before {A} place [] = let none : List A = [] in taken_of_none (length none - (length none - place)) ∙ sym (taken_of_none place)
left_before zero (x ∷ xs) = ap (λ k. take k (x ∷ xs)) (let none : length (x ∷ xs) - (length (x ∷ xs) - 0) ≡ 0 = omega arith in none)
left_before {A} (suc place) (x ∷ xs) =
    ap (λ k. take k (x ∷ xs)) (let one : length (x ∷ xs) - (length (x ∷ xs) - suc place) ≡ suc (length xs - (length xs - place)) = omega arith in one)
    ∙ ap {B = List A} (λ q. x ∷ q) (left_before place xs)

-- ---- active tasks, by number and unit

-- these are the tasks of the units, numbered from here on
abbrev pub AreTasks : ℕ → List TaskRun → List ℕ → Type 0
AreTasks n [] [] = Unit {0}
AreTasks n (r ∷ rs) (u ∷ us) = (r.number ≡ n) × (r.unit.0 ≡ u) × AreTasks (suc n) rs us
AreTasks n [] (u ∷ us) = ⊥
AreTasks n (r ∷ rs) [] = ⊥

as_many : (n : ℕ) (rs : List TaskRun) (us : List ℕ) → AreTasks n rs us → length rs ≡ length us
as_many n [] [] are = refl
as_many n (r ∷ rs) (u ∷ us) are = ap suc (as_many (suc n) rs us are.2)
as_many n [] (u ∷ us) are = absurd are
as_many n (r ∷ rs) [] are = absurd are

one_more : (n : ℕ) (rs : List TaskRun) (us : List ℕ) (r : TaskRun) (u : ℕ) → AreTasks n rs us → r.number ≡ n + length us → r.unit.0 ≡ u → AreTasks n (rs ++ r ∷ []) (us ++ u ∷ [])
one_more n [] [] r u are number unit = (omega (arith, number), unit, tt)
one_more n (x ∷ rs) (v ∷ us) r u are number unit = (are.0, are.1, one_more (suc n) rs us r u are.2 (omega (arith, number)) unit)
one_more n [] (v ∷ us) r u are number unit = absurd are
one_more n (x ∷ rs) [] r u are number unit = absurd are

-- the task of a number is the one at its place, and the first of that number
pub record IsTaskOf (n place unit : ℕ) (rs : List TaskRun) : Type 0 where
  pub run : TaskRun
  pub there : slice_get rs place ≡ Some run
  pub unit_is : run.unit.0 ≡ unit
  pub first : position (λ (r : TaskRun). is_number (Some (n + place)) r.number) rs ≡ Some place

pub task_of : (n place unit : ℕ) (rs : List TaskRun) (us : List ℕ) → AreTasks n rs us → slice_get us place ≡ Some unit → IsTaskOf n place unit rs
task_of n place unit [] [] are at = absurd (none-some unit at)
task_of n place unit [] (u ∷ us) are at = absurd are
task_of n place unit (r ∷ rs) [] are at = absurd are
task_of n zero unit (r ∷ rs) (u ∷ us) are at =
    let number = are.0 in
    let here : (n + 0 == r.number) ≡ true = eq-eqb (n + 0) r.number (omega (arith, number)) in
    record {
      run = r;
      there = refl;
      unit_is = are.1 ∙ same_Some u unit at;
      first = position_cons (λ (r : TaskRun). is_number (Some (n + 0)) r.number) r rs ∙ ap (λ (b : Bool). cond b (Some 0) (option_map suc (position (λ (r : TaskRun). is_number (Some (n + 0)) r.number) rs))) here;
    }
task_of n (suc place) unit (r ∷ rs) (u ∷ us) are at =
    let number = are.0 in
    let rest : IsTaskOf (suc n) place unit rs = task_of (suc n) place unit rs us are.2 at in
    let other : (n + suc place == r.number) ≡ false = ne_eqb (n + suc place) r.number (λ same. omega (arith, same, number)) in
    let same : suc n + place ≡ n + suc place = omega arith in
    record {
      run = rest.run;
      there = rest.there;
      unit_is = rest.unit_is;
      first = position_cons (λ (r : TaskRun). is_number (Some (n + suc place)) r.number) r rs
          ∙ ap (λ (b : Bool). cond b (Some 0) (option_map suc (position (λ (r : TaskRun). is_number (Some (n + suc place)) r.number) rs))) other
          ∙ ap (option_map suc) (ap (λ (k : ℕ). position (λ (r : TaskRun). is_number (Some k) r.number) rs) (sym same) ∙ rest.first);
    }

-- ---- an entry

-- an entry changes neither a task's number nor its unit nor where it began
pub record IsKept (r now : TaskRun) : Type 0 where
  pub number : now.number ≡ r.number
  pub unit : now.unit ≡ r.unit
  pub first : now.first ≡ r.first

pub kept : (at : ℕ) (e : Entry) (r : TaskRun) → IsKept r (after at e r)
unfolding after
kept at e r = let same = by (is_submit_of e r) in record { number = same.0; unit = same.1; first = same.2 }
  where
    by : (b : Bool)
        → (let now : TaskRun = cond b (record r { turns = r.turns + turns_in e; loads = r.loads + one_where (is_load e.reply); stores = r.stores + one_where (is_store e.reply) }) r in
        (now.number ≡ r.number) × (now.unit ≡ r.unit) × (now.first ≡ r.first))
    by true = (refl, refl, refl)
    by false = (refl, refl, refl)

module _ (at : ℕ) (e : Entry) where
  -- the tasks that go on
  abbrev pub left : List TaskRun → List TaskRun
  left rs = filter goes_on (map (after at e) rs)

  -- the entry commits the task of this number
  abbrev pub commits_it : ℕ → Bool
  commits_it n = is_kind Commit e.kind && is_number e.word n

  stays : (r : TaskRun) → is_not_above e.first r.number ≡ false → commits_it r.number ≡ false → goes_on (after at e r) ≡ true
  unfolding after
  stays r below other =
      ap (λ (b : Bool). is_active (cond b (fate_of e.cause) (cond (commits_it r.number) fate.Committed fate.Active))) below
      ∙ ap (λ (b : Bool). is_active (cond b fate.Committed fate.Active)) other

  is_committed : (r : TaskRun) → is_not_above e.first r.number ≡ false → commits_it r.number ≡ true → goes_on (after at e r) ≡ false
  unfolding after
  is_committed r below it =
      ap (λ (b : Bool). is_active (cond b (fate_of e.cause) (cond (commits_it r.number) fate.Committed fate.Active))) below
      ∙ ap (λ (b : Bool). is_active (cond b fate.Committed fate.Active)) it

  is_cut : (r : TaskRun) → is_not_above e.first r.number ≡ true → is_active (fate_of e.cause) ≡ false → goes_on (after at e r) ≡ false
  unfolding after
  is_cut r above gone =
      ap (λ (b : Bool). is_active (cond b (fate_of e.cause) (cond (commits_it r.number) fate.Committed fate.Active))) above ∙ gone

  one_stays : (n : ℕ) (r : TaskRun) (u : ℕ) (rs : List TaskRun) (us : List ℕ) → goes_on (after at e r) ≡ true → r.number ≡ n → r.unit.0 ≡ u → AreTasks (suc n) (left rs) us
      → AreTasks n (left (r ∷ rs)) (u ∷ us)
  one_stays n r u rs us goes number unit rest =
      let same : IsKept r (after at e r) = kept at e r in
      subst (λ (b : Bool). AreTasks n (cond b (after at e r ∷ left rs) (left rs)) (u ∷ us)) (sym goes)
      (same.number ∙ number, ap (λ (v : UnitId). v.0) same.unit ∙ unit, rest)

  one_leaves : (r : TaskRun) (rs : List TaskRun) → goes_on (after at e r) ≡ false → left (r ∷ rs) ≡ left rs
  one_leaves r rs gone = ap (λ (b : Bool). cond b (after at e r ∷ left rs) (left rs)) gone

  -- no task from this number on is committed
  abbrev pub Spares : ℕ → Type 0
  Spares n = (m : ℕ) → n ≤ m → commits_it m ≡ false

  -- without a cut all stay
  all_stay : (n : ℕ) (rs : List TaskRun) (us : List ℕ) → e.first ≡ None → Spares n → AreTasks n rs us → AreTasks n (left rs) us
  all_stay n [] [] none spares are = tt
  all_stay n [] (u ∷ us) none spares are = absurd are
  all_stay n (r ∷ rs) [] none spares are = absurd are
  all_stay n (r ∷ rs) (u ∷ us) none spares are =
      let number = are.0 in
      one_stays n r u rs us (stays r (ap (λ (o : Option ℕ). is_not_above o r.number) none) (spares r.number (omega (arith, number)))) number are.1
      (all_stay (suc n) rs us none (λ m le. spares m (omega (arith, le))) are.2)

  -- a cut from a number on leaves none above it
  none_stay : (n first : ℕ) (rs : List TaskRun) (us : List ℕ) → e.first ≡ Some first → first ≤ n → is_active (fate_of e.cause) ≡ false → AreTasks n rs us → left rs ≡ []
  none_stay n first [] us is le gone are = refl
  none_stay n first (r ∷ rs) [] is le gone are = absurd are
  none_stay n first (r ∷ rs) (u ∷ us) is le gone are =
      let number = are.0 in
      one_leaves r rs (is_cut r (ap (λ (o : Option ℕ). is_not_above o r.number) is ∙ le-leb first r.number (omega (arith, le, number))) gone)
      ∙ none_stay (suc n) first rs us is (omega (arith, le)) gone are.2

  -- and all below it
  some_stay : (n place : ℕ) (rs : List TaskRun) (us : List ℕ) → e.first ≡ Some (n + place) → is_active (fate_of e.cause) ≡ false → Spares n → AreTasks n rs us → AreTasks n (left rs) (take place us)
  some_stay n zero rs us is gone spares are = subst (λ (l : List TaskRun). AreTasks n l []) (sym (none_stay n (n + 0) rs us is (omega arith) gone are)) tt
  some_stay n (suc place) [] [] is gone spares are = tt
  some_stay n (suc place) [] (u ∷ us) is gone spares are = absurd are
  some_stay n (suc place) (r ∷ rs) [] is gone spares are = absurd are
  some_stay n (suc place) (r ∷ rs) (u ∷ us) is gone spares are =
      let number = are.0 in
      let below = ap (λ (o : Option ℕ). is_not_above o r.number) is ∙ lt-leb (n + suc place) r.number (omega (arith, number)) in
      let same : n + suc place ≡ suc n + place = omega arith in
      one_stays n r u rs (take place us) (stays r below (spares r.number (omega (arith, number)))) number are.1
      (some_stay (suc n) place rs us (is ∙ ap Some same) gone (λ m le. spares m (omega (arith, le))) are.2)

  cut_gone : (cut : Cut) → e.cause ≡ Some (cause_of cut) → is_active (fate_of e.cause) ≡ false
  cut_gone cut is = ap (λ (o : Option CutKind). is_active (fate_of o)) is ∙ by cut.cause
    where
      by : (c : Cause) → is_active (fate_of (Some (why_cut c))) ≡ false
      by (cause.Violation a) = refl
      by cause.WrongGuess = refl
      by cause.Cancelled = refl

  -- the first task that a cut takes is at this place, counted from a number on, and all after it go
  record IsCutFrom (n : ℕ) (us : List ℕ) (cut : Cut) : Type 0 where
    place : ℕ
    first : cut.first.0 ≡ n + place
    tasks : cut.tasks ≡ length us - place

  -- the tasks that stay are those whose units do
  followed : (n : ℕ) (rs : List TaskRun) (us new : List ℕ) (o : Option Cut) → e.first ≡ option_map first_of o → e.cause ≡ option_map cause_of o → ((cut : Cut) → o ≡ Some cut → IsCutFrom n us cut)
      → new ≡ take (length new) us → length new + tasks_cut o ≡ length us → Spares n → AreTasks n rs us → AreTasks n (left rs) new
  followed n rs us new None first cause cuts front count spares are =
      let all : take (length new) us ≡ us = take_all (length new) us (omega (arith, count)) in
      subst (AreTasks n (left rs)) (sym (front ∙ all)) (all_stay n rs us first spares are)
  followed n rs us new (Some cut) first cause cuts front count spares are =
      let c : IsCutFrom n us cut = cuts cut refl in
      let tasks = c.tasks in
      let some = c.first in
      let many : length new ≡ length us - (length us - c.place) = omega (arith, count, tasks) in
      let is : new ≡ take c.place us = front ∙ ap (λ k. take k us) many ∙ left_before c.place us in
      subst (AreTasks n (left rs)) (sym is) (some_stay n c.place rs us (first ∙ ap Some some) (cut_gone cut cause) spares are)

-- ---- the units of the active tasks

abbrev units : Plain → List ℕ
units s = map unit_of s.tasks

abbrev logged : TaskLog → ℕ
logged t = t.unit

all_logged : (p : Program State) (m : Memory) (ts : List Task) → map logged (map log_of (runs_of p m ts)) ≡ map unit_of ts
all_logged p m [] = refl
all_logged p m (t ∷ ts) = ap {B = List ℕ} (λ l. t.unit ∷ l) (all_logged p (over (wrote (part p t.entry t.turns m).log) m) ts)

units_logged : (p : Program State) (s : Plain) → map logged (logs_of p s) ≡ units s
units_logged p s = all_logged p (seq p s.commits).memory s.tasks

-- the units of what the logs become
logs_units : (p : Program State) (n : Plain) (logs : List TaskLog) → logs_of p n ≡ logs → units n ≡ map logged logs
logs_units p n logs is = sym (units_logged p n) ∙ ap (map logged) is

is_front : (now new us : List ℕ) → now ≡ new → new ≡ take (length new) us → now ≡ take (length now) us
is_front now new us is front = subst (λ (l : List ℕ). l ≡ take (length l) us) (sym is) front

cut_place : (img : Image) (s : Plain) (x : Event) (cut : Cut) (c : Cause) → IsBlamedOn img s x cut c → (place : ℕ) × IsCutAt s cut place
cut_place img s x cut (cause.Violation a) b = (b.victim, b.cut_at)
cut_place img s x cut cause.WrongGuess (inl b) = (1, b.cut_at)
cut_place img s x cut cause.WrongGuess (inr b) = (suc b.place, b.cut_at)
cut_place img s x cut cause.Cancelled b = (b.place, b.cut_at)

-- a commit tells the number of the head
tells_number : (p : Program State) (k u : ℕ) (us : List ℕ) (ts : List Task) (f : Entry) → map unit_of ts ≡ u ∷ us → (telling (plain_committed p k ts) f).word ≡ Some k
tells_number p k u us [] f is = cc
tells_number p k u us (t ∷ ts) f is = refl

-- ---- a history

-- the tasks that are active here are the machine's
pub record AreActive (s : Plain) (r : Runs) : Type 0 where
  pub commits : r.commits ≡ s.commits
  pub tasks : AreTasks s.commits r.active (map unit_of s.tasks)

module _ (img : Image) (given : Given img) (config : Config) (s : Standing) (reached : IsReached img config s) (at : ℕ) (runs : Runs) (are : AreActive s.plain runs) where
  abbrev p : Program State
  p = program img

  abbrev next : Event → Plain
  next x = (standing_after img s x).plain

  abbrev told_of : Event → Entry
  told_of x = entry_of x (reply_to img s x)

  -- what is counted of the units
  counted : (x : Event) → IsEvent x → refusal_of img config s x ≡ None → length (units (next x)) + tasks_cut (reply_to img s x).cut + is_commit x ≡ length (units s.plain) + tasks_begun x
  counted x is ok =
      let all = all_counted img given config s x is ok in
      let before = map_count unit_of s.plain.tasks in
      let now = map_count unit_of (next x).tasks in
      omega (arith, all, before, now)

  first_told : (x : Event) → (told_of x).first ≡ option_map first_of (reply_to img s x).cut
  unfolding entry_of
  first_told x = refl

  cause_told : (x : Event) → (told_of x).cause ≡ option_map cause_of (reply_to img s x).cut
  unfolding entry_of
  cause_told x = refl

  cuts_from : (x : Event) → IsEvent x → refusal_of img config s x ≡ None → (cut : Cut) → (reply_to img s x).cut ≡ Some cut → IsCutFrom at (told_of x) s.plain.commits (units s.plain) cut
  cuts_from x is ok cut h =
      let c = cut_place img s.plain x cut cut.cause (blamed img given config s reached x is ok cut h) in
      let many = map_count unit_of s.plain.tasks in
      let tasks = c.1.tasks in
      record { place = c.0; first = c.1.first; tasks = omega (arith, many, tasks) }

  -- an event that neither begins nor commits a task
  goes_on_with : (x : Event) → IsEvent x → refusal_of img config s x ≡ None → is_commit x ≡ 0 → tasks_begun x ≡ 0 → units (next x) ≡ take (length (units (next x))) (units s.plain)
      → ((m : ℕ) → commits_it at (told_of x) m ≡ false) → AreTasks s.plain.commits (left at (told_of x) runs.active) (units (next x))
  goes_on_with x is ok commits_none begins_none front spares =
      let count = counted x is ok in
      followed at (told_of x) s.plain.commits runs.active (units s.plain) (units (next x)) (reply_to img s x).cut (first_told x) (cause_told x) (cuts_from x is ok) front
      (omega (arith, count, commits_none, begins_none)) (λ m le. spares m) are.tasks

  abbrev Next : Event → Type 0
  Next x = AreTasks (next x).commits (step at (told_of x) runs).active (units (next x))

  -- where no task begins
  none_begun : (x : Event) → (next x).commits ≡ s.plain.commits → begun (told_of x).kind at (told_of x) runs ≡ [] → AreTasks s.plain.commits (left at (told_of x) runs.active) (units (next x)) → Next x
  unfolding step
  none_begun x same none h =
      subst (λ (n : ℕ). AreTasks n (left at (told_of x) runs.active ++ begun (told_of x).kind at (told_of x) runs) (units (next x))) (sym same)
      (subst (λ (l : List TaskRun). AreTasks s.plain.commits l (units (next x))) (sym (ap (λ l. left at (told_of x) runs.active ++ l) none ∙ append-nil (left at (told_of x) runs.active))) h)

  same_commits : (x : Event) → refusal_of img config s x ≡ None → is_commit x ≡ 0 → (next x).commits ≡ s.plain.commits
  same_commits x ok none = let k = step_commits img given config s x ok in omega (arith, k, none)

  -- an assignment
  assigned : (unit guess : ℕ) → IsEvent (event.Assign unit guess) → refusal_of img config s (event.Assign unit guess) ≡ None → Next (event.Assign unit guess)
  unfolding step entry_of reply_to plain_reply
  assigned unit guess is ok =
      let x : Event = event.Assign unit guess in
      let logs : LogsFollow p s.plain (next x) x (reply_to img s x).what = logs_follow img given config s reached x is ok in
      let one : TaskLog = record { unit = unit; log = [] } in
      let us : units (next x) ≡ units s.plain ++ unit ∷ [] = logs_units p (next x) (logs_of p s.plain ++ one ∷ []) logs ∙ map_append_one logged (logs_of p s.plain) one ∙ ap (λ l. l ++ unit ∷ []) (units_logged p s.plain) in
      let old = all_stay at (told_of x) s.plain.commits runs.active (units s.plain) refl (λ m le. refl) are.tasks in
      let many = as_many s.plain.commits runs.active (units s.plain) are.tasks in
      let k = are.commits in
      subst (λ (n : ℕ). AreTasks n (step at (told_of x) runs).active (units (next x))) (sym (same_commits x ok refl))
      (subst (AreTasks s.plain.commits (step at (told_of x) runs).active) (sym us)
      (one_more s.plain.commits (left at (told_of x) runs.active) (units s.plain) _ unit old (omega (arith, many, k)) refl))

  submitted : (b : Advance) → IsEvent (event.Submit b) → refusal_of img config s (event.Submit b) ≡ None → Next (event.Submit b)
  unfolding entry_of
  submitted b is ok =
      let x : Event = event.Submit b in
      let logs : LogsFollow p s.plain (next x) x (reply_to img s x).what = logs_follow img given config s reached x is ok in
      let us : units (next x) ≡ edit logs.place (λ u. u) logs.cut (units s.plain) =
      logs_units p (next x) (edit logs.place (adds (action_of (reply_to img s x).what)) logs.cut (logs_of p s.plain)) logs.logs
      ∙ map_edit logged (adds (action_of (reply_to img s x).what)) (λ u. u) logs.place logs.cut (logs_of p s.plain) (λ t h. refl)
      ∙ ap (edit logs.place (λ u. u) logs.cut) (units_logged p s.plain) in
      none_begun x (same_commits x ok refl) refl
      (goes_on_with x is ok refl refl (is_front (units (next x)) (edit logs.place (λ u. u) logs.cut (units s.plain)) (units s.plain) us (front_edited logs.place logs.cut (units s.plain))) (λ m. refl))

  replaced : (unit address : ℕ) → IsEvent (event.Replace unit address) → refusal_of img config s (event.Replace unit address) ≡ None → Next (event.Replace unit address)
  unfolding entry_of
  replaced unit address is ok =
      let x : Event = event.Replace unit address in
      let logs : LogsFollow p s.plain (next x) x (reply_to img s x).what = logs_follow img given config s reached x is ok in
      let us : units (next x) ≡ units s.plain = logs_units p (next x) (logs_of p s.plain) logs ∙ units_logged p s.plain in
      none_begun x (same_commits x ok refl) refl (goes_on_with x is ok refl refl (is_front (units (next x)) (units s.plain) (units s.plain) us (front_all (units s.plain))) (λ m. refl))

  cancelled : (unit : ℕ) → IsEvent (event.Cancel unit) → refusal_of img config s (event.Cancel unit) ≡ None → Next (event.Cancel unit)
  unfolding entry_of
  cancelled unit is ok =
      let x : Event = event.Cancel unit in
      let logs : LogsFollow p s.plain (next x) x (reply_to img s x).what = logs_follow img given config s reached x is ok in
      let us : units (next x) ≡ take logs.place (units s.plain) =
      logs_units p (next x) (take logs.place (logs_of p s.plain)) logs.logs ∙ map_take logged logs.place (logs_of p s.plain) ∙ ap (take logs.place) (units_logged p s.plain) in
      none_begun x (same_commits x ok refl) refl
      (goes_on_with x is ok refl refl (is_front (units (next x)) (take logs.place (units s.plain)) (units s.plain) us (front_taken logs.place (units s.plain))) (λ m. refl))

  -- the head of the active tasks is committed, and the others stay or go
  head_leaves : (x : Event) → IsEvent x → refusal_of img config s x ≡ None → is_commit x ≡ 1 → tasks_begun x ≡ 0 → (u : ℕ) (us : List ℕ) → units s.plain ≡ u ∷ us → units (next x) ≡ take (length (units (next x))) us
      → ((m : ℕ) → commits_it at (told_of x) m ≡ (s.plain.commits == m)) → (rs : List TaskRun) → AreTasks s.plain.commits rs (u ∷ us) → AreTasks (suc s.plain.commits) (left at (told_of x) rs) (units (next x))
  head_leaves x is ok one none u us head front commits_one [] tasks = absurd tasks
  head_leaves x is ok one none u us head front commits_one (r ∷ rs) tasks =
      let e : Entry = told_of x in
      let k : ℕ = s.plain.commits in
      let many = ap length head in
      let count = counted x is ok in
      let number = tasks.0 in
      let cuts : (cut : Cut) → (reply_to img s x).cut ≡ Some cut → IsCutFrom at e (suc k) us cut = λ cut h.
      (let c : IsCutFrom at e k (units s.plain) cut = cuts_from x is ok cut h in
      let gone = ap tasks_cut h in
      of c.place cut c.first c.tasks many count one none gone) in
      let below : is_not_above e.first r.number ≡ false = above (reply_to img s x).cut (first_told x) cuts number in
      subst (λ (l : List TaskRun). AreTasks (suc k) l (units (next x))) (sym (one_leaves at e r rs (is_committed at e r below (commits_one r.number ∙ eq-eqb k r.number (sym number)))))
      (followed at e (suc k) rs us (units (next x)) (reply_to img s x).cut (first_told x) (cause_told x) cuts front (omega (arith, count, many, one, none))
      (λ m le. commits_one m ∙ ne_eqb k m (λ same. omega (arith, same, le))) tasks.2)
    where
      of : (place : ℕ) (cut : Cut) → cut.first.0 ≡ s.plain.commits + place → cut.tasks ≡ length (units s.plain) - place → length (units s.plain) ≡ suc (length us)
          → length (units (next x)) + tasks_cut (reply_to img s x).cut + is_commit x ≡ length (units s.plain) + tasks_begun x → is_commit x ≡ 1 → tasks_begun x ≡ 0 → tasks_cut (reply_to img s x).cut ≡ cut.tasks
          → IsCutFrom at (told_of x) (suc s.plain.commits) us cut
      of zero cut first tasks many count one none gone = absurd (omega (arith, tasks, many, count, one, none, gone))
      of (suc place) cut first tasks many count one none gone = record { place = place; first = omega (arith, first); tasks = omega (arith, tasks, many) }

      above : (o : Option Cut) → (told_of x).first ≡ option_map first_of o → ((cut : Cut) → o ≡ Some cut → IsCutFrom at (told_of x) (suc s.plain.commits) us cut) → r.number ≡ s.plain.commits
          → is_not_above (told_of x).first r.number ≡ false
      above None first cuts number = ap (λ (o : Option ℕ). is_not_above o r.number) first
      above (Some cut) first cuts number =
          let c : IsCutFrom at (told_of x) (suc s.plain.commits) us cut = cuts cut refl in
          let some = c.first in
          ap (λ (o : Option ℕ). is_not_above o r.number) first ∙ lt-leb cut.first.0 r.number (omega (arith, some, number))

  committed : (by : ℕ) → IsEvent (event.Commit by) → refusal_of img config s (event.Commit by) ≡ None → Next (event.Commit by)
  unfolding step entry_of reply_to plain_reply
  committed by is ok =
      let x : Event = event.Commit by in
      let logs : LogsFollow p s.plain (next x) x (reply_to img s x).what = logs_follow img given config s reached x is ok in
      let others : List ℕ = map logged logs.others in
      let head : units s.plain ≡ logs.unit ∷ others = sym (units_logged p s.plain) ∙ ap (map logged) logs.head in
      let front : units (next x) ≡ take (length (units (next x))) others =
      is_front (units (next x)) (map logged (cond logs.keep logs.others [])) others (logs_units p (next x) (cond logs.keep logs.others []) logs.logs) (rest logs.keep logs.others) in
      let number : (told_of x).word ≡ Some s.plain.commits = tells_number p s.plain.commits logs.unit others s.plain.tasks (entry_asking x) head in
      let all = head_leaves x is ok refl refl logs.unit others head front (λ m. ap (λ (o : Option ℕ). is_number o m) number) runs.active (subst (AreTasks s.plain.commits runs.active) head are.tasks) in
      let k = step_commits img given config s x ok in
      let more : (next x).commits ≡ suc s.plain.commits = omega (arith, k) in
      subst (λ (n : ℕ). AreTasks n (step at (told_of x) runs).active (units (next x))) (sym more)
      (subst (λ (l : List TaskRun). AreTasks (suc s.plain.commits) l (units (next x))) (sym (append-nil (left at (told_of x) runs.active))) all)
    where
      rest : (keep : Bool) (logs : List TaskLog) → map logged (cond keep logs []) ≡ take (length (map logged (cond keep logs []))) (map logged logs)
      rest true logs = front_all (map logged logs)
      rest false logs = refl

  tasks_follow : (x : Event) → IsEvent x → refusal_of img config s x ≡ None → Next x
  tasks_follow (event.Assign unit guess) is ok = assigned unit guess is ok
  tasks_follow (event.Submit b) is ok = submitted b is ok
  tasks_follow (event.Replace unit address) is ok = replaced unit address is ok
  tasks_follow (event.Cancel unit) is ok = cancelled unit is ok
  tasks_follow (event.Commit by) is ok = committed by is ok

  -- an accepted event
  pub active_after : (x : Event) → IsEvent x → refusal_of img config s x ≡ None → AreActive (next x) (step at (told_of x) runs)
  unfolding step
  active_after x is ok =
      let k = step_commits img given config s x ok in
      let kinds = kind_commits x (reply_to img s x) in
      let same = are.commits in
      record { commits = omega (arith, k, kinds, same); tasks = tasks_follow x is ok }
