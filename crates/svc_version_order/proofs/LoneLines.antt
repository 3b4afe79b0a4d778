-- The row of a word of which one unit alone may have a line.
use Rattle.std.proofs.Common.{◌≡◌, ◌≢◌, ◌∙◌, ◌+◌, ◌<◌, ◌≤◌, ◌++◌, ◌∷◌, [], ℕ, zero, suc, List, Bool, true, false, Option, Some, None, ◌⊎◌, inl, inr, get_or, length, refl, ap, ap₂, sym, subst, arith, true≢false, eq-eqb, ne_eqb}
use Rattle.std.specs.Prelude.{◌==◌, ◌&&◌, ◌||◌, codes, cond, flat_map, is_some, not}
use Rattle.std.specs.List.{list_any, range_with_len}
use Rattle.std.proofs.lemmas.Bool.{cases_eq, cases_lt}
use Rattle.std.proofs.lemmas.List.{append-nil}
use Rattle.svc_base.specs.declared.ids.UnitId.{UnitId}
use Rattle.svc_bus.specs.Versions.{AreItsVersions, HasVersion, IsOlder}
use Rattle.svc_bus_laws.specs.BusLine.{BusLine, is_active_line, is_committed_dirty_line}
use Rattle.svc_bus_laws.specs.BusState.{Agrees, BusState}
use Rattle.svc_bus_laws.specs.LineTable.{LineTable}
use Rattle.svc_bus_laws.proofs.SoundSeen.{sound_seen}
use Rattle.svc_core_laws.specs.State.{State}
use Rattle.svc_machine_laws.specs.PlainMachine.{Running}
use Rattle.svc_text.specs.Rows.{fields}
use Rattle.svc_held.specs.declared.named.Named.{Named}
use Rattle.svc_held.specs.declared.named.Namers.TheVariants as namers
use Rattle.svc_held.specs.Held.{HasItsLines, is_cached}
use Rattle.svc_held.specs.Named.{may_have}
use Rattle.svc_held.specs.Tasks.{each_task}
use Rattle.svc_version_order.specs.Fields.{active_field, committed_field, committed_fields}
use Rattle.svc_version_order.specs.Order.{clean_field, clean_fields, is_clean_line, line_fields, lone_field, order_row, task_field, version_fields, word_fields}
use Rattle.svc_version_order.proofs.Counting.{any_below, any_one, one_row}
use Rattle.svc_version_order.proofs.VersionFields.{fields_of_versions}

-- nothing is told of any task
none_told : (told : ℕ → Running State → List ℕ) → ((number : ℕ) (x : Running State) → told number x ≡ []) → (number : ℕ) (runs : List (Running State)) → each_task told number runs ≡ []
none_told told none number [] = refl
none_told told none number (x ∷ runs) = ap₂ (λ l m. l ++ m) (none number x) (none_told told none (suc number) runs)

module _ (b : BusState) (t : LineTable) (words : ℕ) (n : Named) (unit : UnitId) (agrees : Agrees b t) (own : HasItsLines b words n) (alone : n.by ≡ namers.One unit) where
  abbrev word : ℕ
  word = n.word.0

  other : (u : ℕ) → unit.0 ≢ u → b.lines u word ≡ None
  other u apart = own.lines u (ap (may_have u) alone ∙ ne_eqb u unit.0 (λ e. apart (sym e)))

  -- what holds of no line holds of the other units
  fails : (p : Option BusLine → Bool) → p None ≡ false → (u : ℕ) → unit.0 ≢ u → p (b.lines u word) ≡ false
  fails p never u apart = ap p (other u apart) ∙ never

  mine : (p : Option BusLine → Bool) → p None ≡ false → (u : ℕ) → p (b.lines u word) ≡ true → unit.0 ≡ u
  mine p never u passes = elim (cases_eq unit.0 u) [
    | inl same ↦ same
    | inr apart ↦ absurd (true≢false (sym passes ∙ fails p never u apart))
  ]

  -- without a line of the unit there is none
  pub no_row : b.lines unit.0 word ≡ None → (units commits : ℕ) (runs : List (Running State)) → [] ≡ order_row units b commits runs word
  no_row none units commits runs =
      sym (ap (λ x. cond x (word_fields units b commits runs word) []) (any_below (λ u. is_some (b.lines u word)) units (λ u below. nowhere u)))
    where
      nowhere : (u : ℕ) → is_some (b.lines u word) ≡ false
      nowhere u = elim (cases_eq unit.0 u) [
        | inl same ↦ ap (λ v. is_some (b.lines v word)) (sym same) ∙ ap is_some none
        | inr apart ↦ fails is_some refl u apart
      ]

  module _ (l : BusLine) (is : b.lines unit.0 word ≡ Some l) where
    inside : unit.0 < b.caches
    inside = elim (cases_lt unit.0 b.caches) [
      | inl below ↦ below
      | inr past ↦ absurd (true≢false (sym (ap is_some is) ∙ ap is_some ((sound_seen b t agrees).cached unit.0 word past)))
    ]

    clean : clean_fields b.caches b word ≡ clean_field unit.0 (Some l)
    clean =
        one_row (λ u. clean_field u (b.lines u word)) unit.0 b.caches inside
        (λ u below apart. ap (λ x. cond x (committed_field u) []) (fails is_clean_line refl u apart))
        ∙ ap (clean_field unit.0) is

    -- its version, if it is one
    are : (x : Bool) → is_committed_dirty_line (Some l) ≡ x → AreItsVersions b word (cond x (unit ∷ []) [])
    are true version = record {
      only = λ k d within. only k d within;
      each = λ u passes. ap (λ x. x || false) (eq-eqb unit.0 u (mine is_committed_dirty_line refl u passes));
      oldest_first = λ i j d before within. absurd (omega (arith, before, within));
    }
      where
        only : (k : ℕ) (d : UnitId) → k < 1 → HasVersion b word (get_or (unit ∷ []) k d)
        only zero d within = ap is_committed_dirty_line is ∙ version
        only (suc k) d within = absurd (omega (arith, within))
    are false clean = record {
      only = λ k d within. absurd (omega (arith, within));
      each = λ u passes.
          absurd (true≢false (sym passes ∙ ap (λ v. is_committed_dirty_line (b.lines v word)) (sym (mine is_committed_dirty_line refl u passes)) ∙ ap is_committed_dirty_line is ∙ clean));
      oldest_first = λ i j d before within. absurd (omega (arith, within));
    }

    versions : (x : Bool) → is_committed_dirty_line (Some l) ≡ x → version_fields b.caches b word ≡ committed_fields (cond x (unit ∷ []) [])
    versions x version = sym (fields_of_versions b t word (cond x (unit ∷ []) []) agrees (are x version))

    -- of a committed line no task has a field
    idle : l.commit ≡ true → (commits : ℕ) (runs : List (Running State)) → each_task (task_field b word) commits runs ≡ []
    idle committed commits runs =
        none_told (task_field b word) (λ number x. ap (λ y. cond y (active_field x.task.unit number) []) (never x.task.unit)) commits runs
      where
        never : (u : ℕ) → is_active_line (b.lines u word) ≡ false
        never u = elim (cases_eq unit.0 u) [
          | inl same ↦ ap (λ v. is_active_line (b.lines v word)) (sym same) ∙ ap is_active_line is ∙ ap not committed
          | inr apart ↦ fails is_active_line refl u apart
        ]

    lone_line : (commits : ℕ) (runs : List (Running State))
        → line_fields b.caches b commits runs word ≡ lone_field l.commit unit.0 (each_task (task_field b word) commits runs) ++ codes "\n"
    lone_line commits runs =
        ap₂ (λ k v. k ++ (v ++ (tasks ++ codes "\n"))) clean (versions (l.commit && l.store) refl) ∙ by l.commit l.store refl
      where
        tasks : List ℕ
        tasks = each_task (task_field b word) commits runs

        by : (c s : Bool) → l.commit ≡ c
            → cond (c && not s) (committed_field unit.0) [] ++ (committed_fields (cond (c && s) (unit ∷ []) []) ++ (each_task (task_field b word) commits runs ++ codes "\n"))
            ≡ cond c (committed_field unit.0) (each_task (task_field b word) commits runs) ++ codes "\n"
        by true true e =
            ap₂ (λ v k. v ++ (k ++ codes "\n")) (append-nil (committed_field unit.0)) (idle e commits runs)
        by true false e = ap (λ k. committed_field unit.0 ++ (k ++ codes "\n")) (idle e commits runs)
        by false true e = refl
        by false false e = refl

    pub lone_row : (commits : ℕ) (runs : List (Running State))
        → fields (codes "order") (word ∷ []) ++ (lone_field l.commit unit.0 (each_task (task_field b word) commits runs) ++ codes "\n")
        ≡ order_row b.caches b commits runs word
    lone_row commits runs =
        ap (λ k. fields (codes "order") (word ∷ []) ++ k) (sym (lone_line commits runs))
        ∙ sym (ap (λ x. cond x (word_fields b.caches b commits runs word) []) (any_one (λ u. is_some (b.lines u word)) unit.0 b.caches inside (λ u apart. ap is_some (own.lines u (ap (may_have u) alone ∙ apart))) ∙ ap is_some is))
