-- The answer to every accepted event is the plain machine's.
use Rattle.std.proofs.Common.{ℕ, suc, ◌≡◌, ◌+◌, Bool, true, false, List, [], ◌∷◌, map, length, Option, Some, None, refl, sym, ap, ap₂, ◌∙◌, subst, is_some, option_map, slice_get, unwrap_or}
use Rattle.std.proofs.lemmas.Option.{same_Some, none-some}
use Rattle.svc_base.specs.declared.config.Config.{Config}
use Rattle.svc_image.specs.Image.{Image}
use Rattle.svc_core_laws.specs.declared.end.End.{End}
use Rattle.svc_core_laws.specs.declared.end.End.TheVariants as end
use Rattle.svc_core_laws.specs.State.{State}
use Rattle.svc_core_laws.specs.Program.{Memory, Program, Want, Local, Load, Store, Narrow, Emit, Run, wrote, over, part, seq, locals, are_local}
use Rattle.svc_core_laws.specs.Words.{program}
use Rattle.svc_bus_laws.specs.Versioned.{Row, with_head}
use Rattle.svc_bus_laws.specs.LineTable.{LineTable}
use Rattle.svc_machine_laws.specs.declared.reply.Cause.TheVariants as cause
use Rattle.svc_machine_laws.specs.declared.reply.What.TheVariants as what
use Rattle.svc_machine_laws.specs.declared.reply.Reply.{Reply}
use Rattle.svc_machine_laws.specs.PlainMachine.{Task, Plain, Running, runs_of, running, run_of, row_of, memory_at, entry_of, entry_for, stays}
use Rattle.svc_machine_laws.specs.WholeMachine.{machine_of, seat_of, seat_entry, memory_seen}
use Rattle.svc_machine_laws.specs.MachineLaws.{Taken}
use Rattle.svc_machine_laws.specs.Events.{Event, Assign, Submit, Replace, Cancel, Commit, IsEvent, asked_want}
use Rattle.svc_machine_laws.specs.Replies.{turn_done, turn_cut, cut_from, reply_to_commit, reply_to_cancel, serves_at, whole_asked, whole_submitted, whole_cancelled, whole_committed, whole_reply, plain_asked_of, plain_asked, plain_submitted, plain_cancelled, plain_committed, plain_reply}
use Rattle.svc_machine_laws.specs.Standing.{Standing, refusal_of}
use Rattle.svc_machine_laws.proofs.Given.{Given}
use Rattle.svc_machine_laws.proofs.Accepted.{can_submit, can_cancel, seat_places}
use Rattle.svc_machine_laws.proofs.Anew.{runs_at, view_at}
use Rattle.svc_machine_laws.proofs.EditedLists.{view_hide, victim_hide}
use Rattle.svc_machine_laws.proofs.MachineEvents.{taken}
use Rattle.svc_machine_laws.proofs.Parts.{part_locals}
use Rattle.svc_machine_laws.specs.PlainMachine as plain
use Rattle.svc_machine_laws.specs.WholeMachine as whole
use Rattle.svc_machine_laws.specs.WholeMachine.{Machine}
use Rattle.svc_machine_laws.specs.Replies.{reply_after_check}
use Rattle.svc_machine_laws.proofs.Checks.{same_check}
use Rattle.svc_machine_laws.proofs.Submits.{submit_step}
use Rattle.svc_machine_laws.proofs.Steps.{map_runs}

pub count : {C : Type 0} (p : Program C) (m : Memory) (ts : List Task) → length (map seat_of (runs_of p m ts)) ≡ length ts
count p m [] = refl
count p m (t ∷ ts) = ap suc (count p (over (wrote (part p t.entry t.turns m).log) m) ts)

cut_hide : {C : Type 0} (w : Want C) (rows : List Row) (k n place : ℕ) → turn_cut w (with_head rows) k n place ≡ turn_cut w rows k n place
cut_hide (Local c) rows k n place = refl
cut_hide (Load a value go) rows k n place = refl
cut_hide (Store a v c) rows k n place = ap (option_map (λ i. cut_from (cause.Violation (record { 0 = a })) k n (suc place + i))) (victim_hide place a rows)
cut_hide (Narrow a f c) rows k n place = ap (option_map (λ i. cut_from (cause.Violation (record { 0 = a })) k n (suc place + i))) (victim_hide place a rows)
cut_hide (Emit v c) rows k n place = refl

-- an asked turn
pub asked_reply : {C : Type 0} (p : Program C) (s : Plain) (t : LineTable) (place local : ℕ) (last : C) (ask : Option (Want C)) → Taken p s place local last ask
    → whole_asked p (machine_of p s) t place ask ≡ plain_asked p s t place local (is_some ask)
asked_reply p s t place local last None tk = refl
asked_reply {C} p s t place local last (Some w) tk = of (slice_get s.tasks place) refl
  where
    of : (o : Option Task) → slice_get s.tasks place ≡ o → whole_asked p (machine_of p s) t place (Some w) ≡ plain_asked_of p s t place local o
    of None e =
        let none : slice_get (running p s) place ≡ None = runs_at p (seq p s.commits).memory s.tasks place ∙ ap (option_map (run_of p (memory_at p (seq p s.commits).memory s.tasks place))) e in
        absurd (none-some tk.run (sym none ∙ tk.at))
    of (Some task) e =
        let m : Memory = memory_at p (seq p s.commits).memory s.tasks place in
        let rows : List Row = map row_of (running p s) in
        let x : Running C = run_of p m task in
        let at : slice_get (running p s) place ≡ Some x = runs_at p (seq p s.commits).memory s.tasks place ∙ ap (option_map (run_of p m)) e in
        let same : tk.run ≡ x = same_Some tk.run x (sym tk.at ∙ at) in
        let own : are_local p local x.run.core ≡ true = subst (λ (z : Running C). are_local p local z.run.core ≡ true) same tk.own in
        let core : locals p local x.run.core ≡ last = subst (λ (z : Running C). locals p local z.run.core ≡ last) same tk.end_is in
        let run : part p task.entry (local + task.turns) m ≡ record { core = locals p local x.run.core; log = x.run.log } = part_locals p task.entry local task.turns m own in
        let look : memory_seen (machine_of p s).versioned place ≡ over (wrote x.run.log) m = view_hide rows (seq p s.commits).memory place ∙ view_at p (seq p s.commits).memory s.tasks place task e in
        let wants : w ≡ p.want (locals p local x.run.core) = sym (ap p.want core ∙ tk.ask_is w refl) in
        let reply : Want C → Memory → List Row → ℕ → Reply = λ v l q n. record { what = turn_done p v l (serves_at t place); cut = turn_cut v q s.commits n place } in
        ap₂ (λ l n. reply w l (with_head rows) n) look (count p (seq p s.commits).memory s.tasks)
        ∙ ap {B = Reply} (λ c. record { what = turn_done p w (over (wrote x.run.log) m) (serves_at t place); cut = c }) (cut_hide w rows s.commits (length s.tasks) place)
        ∙ ap (λ v. reply v (over (wrote x.run.log) m) rows (length s.tasks)) wants
        ∙ ap (λ (r : Run C). reply (p.want r.core) (over (wrote r.log) m) rows (length s.tasks)) (sym run)

rest_cut : {C : Type 0} (p : Program C) (k : ℕ) (ended : Option End) (keep : Bool) (m : Memory) (ts : List Task) → reply_to_commit k ended keep (map seat_of (runs_of p m ts)) ≡ reply_to_commit k ended keep ts
rest_cut p k ended keep m [] = refl
rest_cut p k ended true m (t ∷ ts) = refl
rest_cut p k ended false m (t ∷ ts) =
    ap {B = Reply} (λ n. record { what = what.Committed (record { 0 = k }) (unwrap_or ended (end.Next 0)); cut = Some (cut_from cause.WrongGuess k (suc (suc n)) 1) })
    (count p (over (wrote (part p t.entry t.turns m).log) m) ts)

commit_reply : {C : Type 0} (p : Program C) (k : ℕ) (ts : List Task) → whole_committed p k (map seat_of (runs_of p (seq p k).memory ts)) ≡ plain_committed p k ts
commit_reply p k [] = refl
commit_reply {C} p k (t ∷ ts) =
    let r : Run C = part p t.entry t.turns (seq p k).memory in
    let m : Memory = over (wrote r.log) (seq p k).memory in
    rest_cut p k (p.done r.core) (stays (p.done r.core) (map seat_entry (map seat_of (runs_of p m ts)))) m ts
    ∙ ap (λ l. reply_to_commit k (p.done r.core) (stays (p.done r.core) l) ts) (map_runs p seat_entry entry_of (λ y. refl) m ts)

module _ (img : Image) (given : Given img) (config : Config) (s : Standing) where
  abbrev p : Program State
  p = program img

  -- THE REPLY
  pub reply_is : (x : Event) → IsEvent x → refusal_of img config s x ≡ None → whole_reply img (machine_of p s.plain) s.lines x ≡ plain_reply img s.plain s.lines x
  unfolding whole_reply plain_reply
  reply_is (Assign unit guess) is h =
      ap₂ (λ n l. record { what = what.Assigned (record { 0 = s.plain.commits + n }) (entry_for (seq p s.plain.commits).due l guess) s.plain.epoch; cut = None })
      (count p (seq p s.plain.commits).memory s.plain.tasks) (map_runs p seat_entry entry_of (λ y. refl) (seq p s.plain.commits).memory s.plain.tasks)
  reply_is (Submit b) is h =
      let can = can_submit img config s b h in
      let tk = taken img given config s b is can in
      let ask : Option (Want State) = asked_want img b in
      let m : Machine State = machine_of p s.plain in
      let after : Plain = plain.submit p s.plain can.place b.local (is_some ask) in
      ap (λ o. whole_submitted p m s.lines o b.end ask) (seat_places img config s b.unit.0 ∙ can.at)
      ∙ ap (λ (n : Machine State). reply_after_check (whole.is_misled p n.seats can.place) s.plain.commits (length m.seats) can.place (whole_asked p m s.lines can.place ask)) (sym (submit_step p s.plain can.place b.local b.end ask tk))
      ∙ ap (λ c. reply_after_check c s.plain.commits (length m.seats) can.place (whole_asked p m s.lines can.place ask)) (same_check p after can.place)
      ∙ ap₂ (λ n r. reply_after_check (plain.is_misled p after can.place) s.plain.commits n can.place r) (count p (seq p s.plain.commits).memory s.plain.tasks) (asked_reply p s.plain s.lines can.place b.local b.end ask tk)
      ∙ sym (ap (λ o. plain_submitted p s.plain s.lines o b.local (is_some (asked_want img b))) can.at)
  reply_is (Replace unit a) is h = refl
  reply_is (Cancel unit) is h =
      let can = can_cancel img config s unit h in
      ap (whole_cancelled (machine_of p s.plain)) (seat_places img config s unit ∙ can.at)
      ∙ ap (λ n. reply_to_cancel s.plain.commits n can.place) (count p (seq p s.plain.commits).memory s.plain.tasks)
      ∙ sym (ap (plain_cancelled s.plain) can.at)
  reply_is (Commit by) is h = commit_reply p s.plain.commits s.plain.tasks
