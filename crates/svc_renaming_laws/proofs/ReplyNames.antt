-- The answer to an event of renamed units, and its entry.
use Rattle.std.proofs.Common.{ℕ, suc, ◌≡◌, ◌+◌, ◌<◌, Bool, true, false, cond, List, [], ◌∷◌, map, length, Option, Some, None, refl, sym, ap, ◌∙◌, subst, arith, option_map, slice_get, unwrap_or, is_some}
use Rattle.std.specs.Prelude.{option_and_then}
use Rattle.std.proofs.lemmas.Option.{slice_get-map}
use Rattle.std.proofs.lemmas.List.{length-map}
use Rattle.svc_base.specs.declared.config.Config.{Config}
use Rattle.svc_base.specs.declared.served.Served.{Served}
use Rattle.svc_base.specs.declared.served.Served.TheVariants as served
use Rattle.svc_image.specs.Image.{Image}
use Rattle.svc_core_laws.specs.declared.end.End.{End}
use Rattle.svc_core_laws.specs.State.{State}
use Rattle.svc_core_laws.specs.Program.{Memory, Program, Run, Want, Local, Load, Store, Narrow, Emit, wrote, over, part, seq}
use Rattle.svc_core_laws.specs.Words.{program}
use Rattle.svc_bus_laws.specs.Versioned.{Row}
use Rattle.svc_bus_laws.specs.Supplier.{Supplier, supplier}
use Rattle.svc_bus_laws.specs.Supplier as supply
use Rattle.svc_machine_laws.specs.declared.reply.What.{What}
use Rattle.svc_machine_laws.specs.declared.reply.What.TheVariants as what
use Rattle.svc_machine_laws.specs.declared.reply.Reply.{Reply}
use Rattle.svc_machine_laws.specs.PlainMachine.{Task, Plain, running, row_of, memory_at, entry_for, unit_of, stays}
use Rattle.svc_machine_laws.specs.PlainMachine as plain
use Rattle.svc_machine_laws.specs.Events.{Event, Assign, Submit, Replace, Cancel, Commit, task_place, asked_want}
use Rattle.svc_machine_laws.specs.Replies.{served_by, turn_done, turn_cut, reply_to_commit, wrong_guess, serves_at, reply_after_check, plain_asked_of, plain_asked, plain_submitted, plain_cancelled, plain_committed, plain_reply}
use Rattle.svc_machine_laws.specs.Standing.{Standing, reply_to}
use Rattle.svc_machine_laws.specs.Reached.{IsReached}
use Rattle.svc_machine_laws.proofs.Places.{within}
use Rattle.svc_history_laws.specs.declared.entry.Entry.{Entry}
use Rattle.svc_history_laws.specs.Entries.{reply_told, address_told, word_told, served_told, kind_served, unit_served, cause_of, first_of, count_of, entry_asking, telling, entry_of}
use Rattle.svc_renaming_laws.specs.Renamings.{Renaming, IsRenaming}
use Rattle.svc_renaming_laws.specs.RenamedLines.{renamed_lines, renamed_supplier}
use Rattle.svc_renaming_laws.specs.Renamed.{renamed_task, renamed_plain, renamed_standing, renamed_unit, renamed_event, renamed_served, renamed_what, renamed_reply, renamed_entry}
use Rattle.svc_renaming_laws.proofs.LineNames.{same_supplier}
use Rattle.svc_renaming_laws.proofs.TaskNames.{tasks_entries, runs_renamed, memory_renamed, rows_renamed, submit_renamed, misled_renamed, same_place}

module _ (r : Renaming) where
  -- ---- the entry
  told_reply : (w : What) → reply_told (renamed_what r w) ≡ reply_told w
  told_reply (what.Assigned task entry epoch) = refl
  told_reply what.Ran = refl
  told_reply (what.Loaded addr value by) = refl
  told_reply (what.Stored addr word by) = refl
  told_reply (what.Emitted word) = refl
  told_reply (what.Trapped number) = refl
  told_reply (what.Replaced addr) = refl
  told_reply what.Cancelled = refl
  told_reply (what.Committed task end) = refl

  told_address : (w : What) → address_told (renamed_what r w) ≡ address_told w
  told_address (what.Assigned task entry epoch) = refl
  told_address what.Ran = refl
  told_address (what.Loaded addr value by) = refl
  told_address (what.Stored addr word by) = refl
  told_address (what.Emitted word) = refl
  told_address (what.Trapped number) = refl
  told_address (what.Replaced addr) = refl
  told_address what.Cancelled = refl
  told_address (what.Committed task end) = refl

  told_word : (w : What) → word_told (renamed_what r w) ≡ word_told w
  told_word (what.Assigned task entry epoch) = refl
  told_word what.Ran = refl
  told_word (what.Loaded addr value by) = refl
  told_word (what.Stored addr word by) = refl
  told_word (what.Emitted word) = refl
  told_word (what.Trapped number) = refl
  told_word (what.Replaced addr) = refl
  told_word what.Cancelled = refl
  told_word (what.Committed task end) = refl

  told_served : (w : What) → served_told (renamed_what r w) ≡ option_map (renamed_served r) (served_told w)
  told_served (what.Assigned task entry epoch) = refl
  told_served what.Ran = refl
  told_served (what.Loaded addr value by) = refl
  told_served (what.Stored addr word by) = refl
  told_served (what.Emitted word) = refl
  told_served (what.Trapped number) = refl
  told_served (what.Replaced addr) = refl
  told_served what.Cancelled = refl
  told_served (what.Committed task end) = refl

  kind_kept : (x : Served) → kind_served (renamed_served r x) ≡ kind_served x
  kind_kept served.Hit = refl
  kind_kept served.Reuse = refl
  kind_kept (served.Version unit) = refl
  kind_kept served.Spill = refl
  kind_kept (served.Committed unit) = refl
  kind_kept served.Memory = refl

  kinds_kept : (o : Option Served) → option_map kind_served (option_map (renamed_served r) o) ≡ option_map kind_served o
  kinds_kept None = refl
  kinds_kept (Some x) = ap Some (kind_kept x)

  from_renamed : (x : Served) → unit_served (renamed_served r x) ≡ option_map (renamed_unit r) (unit_served x)
  from_renamed served.Hit = refl
  from_renamed served.Reuse = refl
  from_renamed (served.Version unit) = refl
  from_renamed served.Spill = refl
  from_renamed (served.Committed unit) = refl
  from_renamed served.Memory = refl

  froms_renamed : (o : Option Served) → option_and_then unit_served (option_map (renamed_served r) o) ≡ option_map (renamed_unit r) (option_and_then unit_served o)
  froms_renamed None = refl
  froms_renamed (Some x) = from_renamed x

  named_renamed : (x : Event) → entry_asking (renamed_event r x) ≡ renamed_entry r (entry_asking x)
  named_renamed (Assign unit guess) = refl
  named_renamed (Submit b) = refl
  named_renamed (Replace unit address) = refl
  named_renamed (Cancel unit) = refl
  named_renamed (Commit by) = refl

  telling_renamed : (y : Reply) (e : Entry) → telling (renamed_reply r y) (renamed_entry r e) ≡ renamed_entry r (telling y e)
  telling_renamed y e =
      let served_is : option_map kind_served (served_told (renamed_what r y.what)) ≡ option_map kind_served (served_told y.what) =
      ap (option_map kind_served) (told_served y.what) ∙ kinds_kept (served_told y.what) in
      let from_is : option_and_then unit_served (served_told (renamed_what r y.what)) ≡ option_map (renamed_unit r) (option_and_then unit_served (served_told y.what)) =
      ap (option_and_then unit_served) (told_served y.what) ∙ froms_renamed (served_told y.what) in
      λ i. record {
        kind = e.kind;
        unit = renamed_unit r e.unit;
        arg = e.arg;
        local = e.local;
        ask = e.ask;
        reply = told_reply y.what i;
        addr = told_address y.what i;
        word = told_word y.what i;
        served = served_is i;
        from = from_is i;
        cause = option_map cause_of y.cut;
        first = option_map first_of y.cut;
        squashed = option_map count_of y.cut;
      }

  pub entry_renamed : (x : Event) (y : Reply) → entry_of (renamed_event r x) (renamed_reply r y) ≡ renamed_entry r (entry_of x y)
  unfolding entry_of
  entry_renamed x y = ap (telling (renamed_reply r y)) (named_renamed x) ∙ telling_renamed y (entry_asking x)

  -- ---- the answer
  served_renamed : (x : Supplier) → served_by (renamed_supplier r x) ≡ renamed_served r (served_by x)
  served_renamed supply.Hit = refl
  served_renamed supply.Reuse = refl
  served_renamed (supply.Version unit) = refl
  served_renamed supply.Spill = refl
  served_renamed (supply.Committed unit) = refl
  served_renamed supply.Memory = refl

  -- what a turn did, where each read is served by the renamed one
  done_renamed : {C : Type 0} (p : Program C) (w : Want C) (look : Memory) (here there : ℕ → Served) → ((a : ℕ) → there a ≡ renamed_served r (here a))
      → turn_done p w look there ≡ renamed_what r (turn_done p w look here)
  done_renamed p (Local c) look here there same = refl
  done_renamed p (Load a value go) look here there same = ap (what.Loaded (record { 0 = a }) (value (look a))) (same a)
  done_renamed p (Store a w c) look here there same = refl
  done_renamed p (Narrow a f c) look here there same = ap (λ x. what.Stored (record { 0 = a }) (f (look a)) (Some x)) (same a)
  done_renamed p (Emit w c) look here there same = refl

  checked_renamed : (b : Bool) (k count place : ℕ) (y : Reply) → reply_after_check b k count place (renamed_reply r y) ≡ renamed_reply r (reply_after_check b k count place y)
  checked_renamed false k count place y = refl
  checked_renamed true k count place y = refl

  guess_renamed : (k : ℕ) (ts : List Task) → wrong_guess k (map (renamed_task r) ts) ≡ wrong_guess k ts
  guess_renamed k [] = refl
  guess_renamed k (t ∷ ts) = ap (λ n. Some (Rattle.svc_machine_laws.specs.Replies.cut_from Rattle.svc_machine_laws.specs.declared.reply.Cause.TheVariants.WrongGuess k (suc (suc n)) 1)) (length-map ts (renamed_task r))

  committed_renamed : {C : Type 0} (p : Program C) (k : ℕ) (ts : List Task) → plain_committed p k (map (renamed_task r) ts) ≡ renamed_reply r (plain_committed p k ts)
  committed_renamed p k [] = refl
  committed_renamed {C} p k (t ∷ ts) =
      let ended : Option End = p.done (part p t.entry t.turns (seq p k).memory).core in
      ap (λ l. reply_to_commit k ended (stays ended l) (map (renamed_task r) ts)) (tasks_entries r ts)
      ∙ ap {B = Reply} (λ c. record { what = what.Committed (record { 0 = k }) (unwrap_or ended (Rattle.svc_core_laws.specs.declared.end.End.TheVariants.Next 0)); cut = cond (stays ended (map plain.entry_of ts)) None c }) (guess_renamed k ts)

  module _ (img : Image) (config : Config) (s : Standing) (is : IsRenaming config.units r) (reached : IsReached img config s) where
    abbrev p : Program State
    p = program img

    lines : IsRenaming s.lines.caches r
    lines = subst (λ k. IsRenaming k r) (sym reached.lines.caches) is

    count : length (map (renamed_task r) s.plain.tasks) ≡ length s.plain.tasks
    count = length-map s.plain.tasks (renamed_task r)

    serves : (place : ℕ) → place < length s.plain.tasks → (a : ℕ) → serves_at (renamed_lines r s.lines) place a ≡ renamed_served r (serves_at s.lines place a)
    serves place h a =
        let units : length s.lines.units ≡ length s.plain.tasks = ap length reached.lines.units ∙ length-map s.plain.tasks unit_of in
        ap served_by (same_supplier r s.lines lines reached.lines.sound place a (omega (arith, h, units))) ∙ served_renamed (supplier s.lines place a)

    asked_of : (place local : ℕ) (o : Option Task) → slice_get s.plain.tasks place ≡ o
        → plain_asked_of p (renamed_plain r s.plain) (renamed_lines r s.lines) place local (option_map (renamed_task r) o) ≡ renamed_reply r (plain_asked_of p s.plain s.lines place local o)
    asked_of place local None e = refl
    asked_of place local (Some task) e =
        let first : Memory = (seq p s.plain.commits).memory in
        let run : Memory → Run State = λ m. part p task.entry (local + task.turns) m in
        let answer : Memory → List Row → ℕ → (ℕ → Served) → Reply = λ m rows n serves. record {
          what = turn_done p (p.want (run m).core) (over (wrote (run m).log) m) serves;
          cut = turn_cut (p.want (run m).core) rows s.plain.commits n place;
        } in
        let there : ℕ → Served = serves_at (renamed_lines r s.lines) place in
        let here : ℕ → Served = serves_at s.lines place in
        let m : Memory = memory_at p first s.plain.tasks place in
        let rows : map row_of (running p (renamed_plain r s.plain)) ≡ map row_of (running p s.plain) = ap (map row_of) (runs_renamed r p first s.plain.tasks) ∙ rows_renamed r (running p s.plain) in
        (λ i. answer (memory_renamed r p first s.plain.tasks place i) (rows i) (count i) there)
        ∙ ap {B = Reply} (λ w. record { what = w; cut = turn_cut (p.want (run m).core) (map row_of (running p s.plain)) s.plain.commits (length s.plain.tasks) place })
        (done_renamed p (p.want (run m).core) (over (wrote (run m).log) m) here there (serves place (within s.plain.tasks place task e)))

    asked : (place local : ℕ) (ask : Bool) → plain_asked p (renamed_plain r s.plain) (renamed_lines r s.lines) place local ask ≡ renamed_reply r (plain_asked p s.plain s.lines place local ask)
    asked place local false = refl
    asked place local true =
        ap (plain_asked_of p (renamed_plain r s.plain) (renamed_lines r s.lines) place local) (slice_get-map (renamed_task r) s.plain.tasks place)
        ∙ asked_of place local (slice_get s.plain.tasks place) refl

    submitted : (o : Option ℕ) (local : ℕ) (ask : Bool) → plain_submitted p (renamed_plain r s.plain) (renamed_lines r s.lines) o local ask ≡ renamed_reply r (plain_submitted p s.plain s.lines o local ask)
    submitted None local ask = refl
    submitted (Some place) local ask =
        let misled : plain.is_misled p (plain.submit p (renamed_plain r s.plain) place local ask) place ≡ plain.is_misled p (plain.submit p s.plain place local ask) place =
        ap (λ k. plain.is_misled p k place) (submit_renamed r p s.plain place local ask) ∙ misled_renamed r p (plain.submit p s.plain place local ask) place in
        (λ i. reply_after_check (misled i) s.plain.commits (count i) place (asked place local ask i))
        ∙ checked_renamed (plain.is_misled p (plain.submit p s.plain place local ask) place) s.plain.commits (length s.plain.tasks) place (plain_asked p s.plain s.lines place local ask)

    cancelled_at : (o : Option ℕ) → plain_cancelled (renamed_plain r s.plain) o ≡ renamed_reply r (plain_cancelled s.plain o)
    cancelled_at None = refl
    cancelled_at (Some place) = ap (λ n. Rattle.svc_machine_laws.specs.Replies.reply_to_cancel s.plain.commits n place) count

    pub reply_renamed : (x : Event) → reply_to img (renamed_standing r s) (renamed_event r x) ≡ renamed_reply r (reply_to img s x)
    unfolding reply_to plain_reply
    reply_renamed (Assign unit guess) = λ i. record {
      what = what.Assigned (record { 0 = s.plain.commits + count i }) (entry_for (seq p s.plain.commits).due (tasks_entries r s.plain.tasks i) guess) s.plain.epoch;
      cut = None;
    }
    reply_renamed (Submit b) =
        ap (λ o. plain_submitted p (renamed_plain r s.plain) (renamed_lines r s.lines) o b.local (is_some (asked_want img b))) (same_place r config.units is s.plain b.unit.0)
        ∙ submitted (task_place s.plain b.unit.0) b.local (is_some (asked_want img b))
    reply_renamed (Replace unit address) = refl
    reply_renamed (Cancel unit) = ap (plain_cancelled (renamed_plain r s.plain)) (same_place r config.units is s.plain unit) ∙ cancelled_at (task_place s.plain unit)
    reply_renamed (Commit by) = committed_renamed p s.plain.commits s.plain.tasks
