-- Who serves a read of a word that its task has neither exposed nor written.
use Rattle.std.proofs.Common.{inl, inr, ℕ, ◌≡◌, ◌≢◌, ◌==◌, ◌<◌, Bool, true, false, cond, not, ◌&&◌, Option, Some, None, refl, sym, ap, ◌∙◌, option_map, is_some, length, slice_get}
use Rattle.std.proofs.lemmas.Option.{none-some, same_Some, slice_get-map}
use Rattle.std.proofs.lemmas.Bool.{ne_eqb, cases_Bool}
use borrow.Author.Tests.{both_ways}
use Rattle.svc_base.specs.declared.config.Config.{Config}
use Rattle.svc_base.specs.declared.ids.UnitId.{UnitId}
use Rattle.svc_image.specs.Image.{Image}
use Rattle.svc_core_laws.specs.State.{State}
use Rattle.svc_core_laws.specs.Program.{wrote, exposed_words}
use Rattle.svc_core_laws.specs.Words.{program}
use Rattle.svc_bus_laws.specs.Search.{greatest}
use Rattle.svc_bus_laws.specs.Versioned.{Versioned, version, is_exposed}
use Rattle.svc_bus_laws.specs.LineTable.{Line, LineTable, is_active, is_reusable, version_in, exposed_in, unit_at, line_at, newest, own_version}
use Rattle.svc_bus_laws.specs.Supplier.{Supplier, Spill, supplier, by_version, by_committed}
use Rattle.svc_bus_laws.proofs.Searches.{greatest_cases}
use Rattle.svc_bus_laws.proofs.Tables.{version_is, exposed_is, own_above}
use Rattle.svc_machine_laws.specs.PlainMachine.{Task, Plain, Running, running}
use Rattle.svc_machine_laws.specs.WholeMachine.{machine_of}
use Rattle.svc_machine_laws.specs.MachineLaws.{run_at}
use Rattle.svc_machine_laws.specs.Replies.{served_by}
use Rattle.svc_machine_laws.specs.Standing.{Standing}
use Rattle.svc_machine_laws.specs.Reached.{IsReached}
use Rattle.svc_machine_laws.specs.Logs.{TaskLog, log_of, logs_of}
use Rattle.svc_machine_laws.proofs.Anew.{task_anew}
use Rattle.svc_machine_laws.proofs.Places.{within}
use Rattle.svc_history_laws.specs.declared.entry.ServedKind.TheVariants as kind
use Rattle.svc_history_laws.specs.Entries.{kind_served, unit_served}
use Rattle.svc_history_laws.proofs.Legality.{RunsTask, task_here}
use Rattle.svc_history_laws.proofs.Stories.{unit_at_log}

-- the task of a log
pub record IsLogged (img : Image) (s : Plain) (q : ℕ) (t : TaskLog) : Type 0 where
  pub task : Task
  pub task_is : slice_get s.tasks q ≡ Some task
  pub log_is : t.log ≡ (run_at (program img) s q task).log
  pub unit_is : t.unit ≡ task.unit

pub logged : (img : Image) (s : Plain) (q : ℕ) (t : TaskLog) → slice_get (logs_of (program img) s) q ≡ Some t → IsLogged img s q t
logged img s q t h = of (slice_get (running (program img) s) q) refl (sym (slice_get-map log_of (running (program img) s) q) ∙ h)
  where
    of : (o : Option (Running State)) → slice_get (running (program img) s) q ≡ o → option_map log_of (slice_get (running (program img) s) q) ≡ Some t → IsLogged img s q t
    of None e k = absurd (none-some t (ap (option_map log_of) (sym e) ∙ k))
    of (Some x) e k =
        let here : RunsTask img s q x = task_here img s q x e in
        let same : log_of x ≡ t = same_Some (log_of x) t (ap (option_map log_of) (sym e) ∙ k) in
        record {
          task = here.task;
          task_is = here.task_is;
          log_is = ap (λ (y : TaskLog). y.log) (sym same) ∙ ap (λ (y : Running State). y.run.log) here.run_is;
          unit_is = ap (λ (y : TaskLog). y.unit) (sym same) ∙ ap (λ (y : Running State). y.task.unit) here.run_is;
        }

-- what the map holds of a task is in its log
pub version_logged : (img : Image) (s : Plain) (q : ℕ) (t : TaskLog) → slice_get (logs_of (program img) s) q ≡ Some t → (a : ℕ) → version (machine_of (program img) s).versioned q a ≡ wrote t.log a
version_logged img s q t h a =
    let l = logged img s q t h in
    (task_anew (program img) s q l.task l.task_is).versions a ∙ ap (λ g. wrote g a) (sym l.log_is)

pub exposed_logged : (img : Image) (s : Plain) (q : ℕ) (t : TaskLog) → slice_get (logs_of (program img) s) q ≡ Some t → (a : ℕ) → is_exposed (machine_of (program img) s).versioned q a ≡ (not (q == 0) && exposed_words t.log a)
exposed_logged img s q t h a =
    let l = logged img s q t h in
    (task_anew (program img) s q l.task l.task_is).exposes a ∙ ap (λ g. not (q == 0) && exposed_words g a) (sym l.log_is)

-- a supplier below the reader that has a version
pub record VersionAt (t : LineTable) (q a : ℕ) (o : Option UnitId) : Type 0 where
  pub place : ℕ
  pub below : place < q
  pub unit : o ≡ Some (record { 0 = unit_at t place })
  pub has : is_some (version_in (line_at t place a)) ≡ true

pub record Supplies (t : LineTable) (q a : ℕ) (x : Supplier) : Type 0 where
  pub not_hit : kind_served (served_by x) ≢ kind.Hit
  pub version : kind_served (served_by x) ≡ kind.Version → VersionAt t q a (unit_served (served_by x))

supplies_committed : (t : LineTable) (q a : ℕ) (spilled : Bool) (o : Option ℕ) → Supplies t q a (cond spilled Spill (by_committed o))
supplies_committed t q a true o = record { not_hit = λ h. cc; version = λ h. absurd cc }
supplies_committed t q a false None = record { not_hit = λ h. cc; version = λ h. absurd cc }
supplies_committed t q a false (Some u) = record { not_hit = λ h. cc; version = λ h. absurd cc }

supplies_version : (t : LineTable) (q a : ℕ) → Supplies t q a (by_version t a (greatest q (λ r. is_some (version_in (line_at t r a)))))
supplies_version t q a = elim (greatest_cases q (λ r. is_some (version_in (line_at t r a)))) [
  | inl none ↦ rw (none.0) (supplies_committed t q a (is_some (t.spill a)) (newest t a))
  | inr found ↦ rw (found.1) (record { not_hit = λ h. cc; version = λ h. record { place = found.0; below = found.2; unit = refl; has = found.3 } })
]

pub supplies : (t : LineTable) (q a : ℕ) → is_active (line_at t q a) ≡ false → Supplies t q a (supplier t q a)
supplies t q a miss = elim (cases_Bool (is_reusable (line_at t q a))) [
  | inl reusable ↦ rw (miss, reusable) (record { not_hit = λ h. cc; version = λ h. absurd cc })
  | inr other ↦ rw (miss, other) (supplies_version t q a)
]

module _ (img : Image) (config : Config) (s : Standing) (reached : IsReached img config s) (q : ℕ) (t : TaskLog) (at : slice_get (logs_of (program img) s.plain) q ≡ Some t) (a : ℕ) where
  inside : q < length s.lines.units
  inside = within s.lines.units q t.unit (ap (λ l. slice_get l q) reached.lines.units ∙ unit_at_log img s.plain q t at)

  pub own_logged : own_version s.lines q a ≡ wrote t.log a
  own_logged = sym (version_is s.lines q a inside) ∙ (ap (λ (v : Versioned). version v q a) reached.lines.same_map ∙ version_logged img s.plain q t at a)

  line_exposed : (not (q == 0) && exposed_in (line_at s.lines q a)) ≡ (not (q == 0) && exposed_words t.log a)
  line_exposed = sym (exposed_is s.lines q a inside) ∙ (ap (λ (v : Versioned). is_exposed v q a) reached.lines.same_map ∙ exposed_logged img s.plain q t at a)

  -- a task that has neither exposed the word nor written it has no active line of it
  pub no_line : q ≢ 0 → exposed_words t.log a ≡ false → wrote t.log a ≡ None → is_active (line_at s.lines q a) ≡ false
  no_line later fresh unwritten = of (line_at s.lines q a) refl
    where
      exposes : exposed_in (line_at s.lines q a) ≡ false
      exposes = ap (λ b. not b && exposed_in (line_at s.lines q a)) (sym (ne_eqb q 0 later)) ∙ (line_exposed ∙ (ap (λ b. not b && exposed_words t.log a) (ne_eqb q 0 later) ∙ fresh))

      writes : version_in (line_at s.lines q a) ≡ None
      writes = sym (own_above s.lines q a later) ∙ (own_logged ∙ unwritten)

      active : (l : Line) → line_at s.lines q a ≡ Some l → l.commit ≡ false → (store : Bool) → l.store ≡ store → ⊥
      active l e uncommitted true dirty =
          let some : version_in (line_at s.lines q a) ≡ Some l.value = ap version_in e ∙ (ap (λ b. cond (not b && l.store) (Some l.value) None) uncommitted ∙ ap (λ b. cond b (Some l.value) None) dirty) in
          none-some l.value (sym writes ∙ some)
      active l e uncommitted false clean =
          let sound = (reached.lines.sound.sound_lines (unit_at s.lines q) a l e).active uncommitted in
          let place : sound.0 ≡ q = reached.lines.sound.distinct_units sound.0 q sound.2.within inside sound.1 in
          elim (sound.2.loaded clean) [
            | inl head ↦ later (sym place ∙ head)
            | inr load ↦
                (let some : exposed_in (line_at s.lines q a) ≡ true = ap exposed_in e ∙ (ap (λ b. not b && l.load) uncommitted ∙ load) in
                both_ways (exposed_in (line_at s.lines q a)) exposes some)
          ]

      of : (o : Option Line) → line_at s.lines q a ≡ o → is_active (line_at s.lines q a) ≡ false
      of None e = ap is_active e
      of (Some l) e = elim (cases_Bool l.commit) [
        | inl done ↦ ap is_active e ∙ ap not done
        | inr uncommitted ↦ absurd (active l e uncommitted l.store refl)
      ]
