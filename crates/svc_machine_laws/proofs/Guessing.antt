-- A guess is an entry, and there is one until the run stops.
use Rattle.std.proofs.Common.{ℕ, zero, suc, ◌≡◌, ◌≤◌, ◌==◌, Bool, true, false, cond, List, [], ◌∷◌, map, length, Option, Some, None, refl, ap, ◌∙◌, subst, is_some, slice_get, unwrap_or, arith, ⊎_elim}
use Rattle.std.specs.Prelude.{◌||◌, nat_lt}
use Rattle.std.specs.List.{list_any}
use Rattle.std.proofs.lemmas.Option.{same_Some, none-some}
use Rattle.std.proofs.lemmas.Bool.{eq-eqb}
use borrow.Author.Tests.{both_ways}
use Rattle.svc_base.specs.declared.config.Config.{Config}
use Rattle.svc_image.specs.Image.{Image, IsImage, is_entry}
use Rattle.svc_core_laws.specs.declared.end.End.{End}
use Rattle.svc_core_laws.specs.declared.end.End.TheVariants as end
use Rattle.svc_core_laws.specs.State.{State}
use Rattle.svc_core_laws.specs.Program.{Memory, Program, over, wrote, part, seq, task, next_task, due_after, stopped_after}
use Rattle.svc_core_laws.specs.Words.{program}
use Rattle.svc_machine_laws.specs.PlainMachine.{Task, entry_of, runs_of, running, run_done}
use Rattle.svc_machine_laws.specs.Guess.{newer_successor, successor_at, first_above, entry_after, youngest, guess_after, last_end, IsGuess}
use Rattle.svc_machine_laws.specs.Standing.{Standing}
use Rattle.svc_machine_laws.specs.Reached.{IsReached}
use Rattle.svc_machine_laws.proofs.Given.{Given}
use Rattle.svc_machine_laws.proofs.Sound.{goes_on}

-- a run that has stopped has no due task
ended_due : (o : Option End) → is_some (stopped_after o) ≡ true → due_after o ≡ None
ended_due None h = refl
ended_due (Some (end.Next e)) h = absurd (both_ways false refl h)
ended_due (Some (end.Exit code)) h = refl
ended_due (Some (end.Trap number)) h = refl

stopped_due : {C : Type 0} (p : Program C) (k : ℕ) → is_some (seq p k).stopped ≡ true → (seq p k).due ≡ None
stopped_due p zero h = absurd (both_ways false refl h)
stopped_due p (suc k) h = next (seq p k).due refl (stopped_due p k) h
  where
    next : (o : Option ℕ) → (seq p k).due ≡ o → (is_some (seq p k).stopped ≡ true → (seq p k).due ≡ None) → is_some (next_task p (seq p k) o).stopped ≡ true → (next_task p (seq p k) o).due ≡ None
    next None e before h = e
    next (Some e) same before h = ended_due (p.done (task p e (seq p k).memory).core) h

-- an entry that is found in the table is one
or_found : (x y : Bool) → y ≡ true → (x || y) ≡ true
or_found true y h = refl
or_found false y h = h

above_is : (entries : List ℕ) (e x : ℕ) → first_above entries e ≡ Some x → list_any (λ y. y == x) entries ≡ true
above_is [] e x h = absurd (none-some x h)
above_is (y ∷ entries) e x h = split (above_is entries e x) (nat_lt e y) h
  where
    split : (first_above entries e ≡ Some x → list_any (λ z. z == x) entries ≡ true) → (b : Bool) → cond b (Some y) (first_above entries e) ≡ Some x → ((y == x) || list_any (λ z. z == x) entries) ≡ true
    split rest true h = ap (λ b. b || list_any (λ z. z == x) entries) (eq-eqb y x (same_Some y x h))
    split rest false h = or_found (y == x) _ (rest h)

first_is : (entries : List ℕ) → 1 ≤ length entries → list_any (λ y. y == unwrap_or (slice_get entries 0) 0) entries ≡ true
first_is [] h = absurd (omega (arith, h))
first_is (y ∷ entries) h = ap (λ b. b || list_any (λ z. z == y) entries) (eq-eqb y y refl)

after_is : (img : Image) → IsImage img → (e : ℕ) → is_entry img (entry_after img.entries e) ≡ true
unfolding is_entry
after_is img is e = of (first_above img.entries e) refl
  where
    of : (o : Option ℕ) → first_above img.entries e ≡ o → list_any (λ y. y == unwrap_or o (unwrap_or (slice_get img.entries 0) 0)) img.entries ≡ true
    of None h = first_is img.entries is.entries_some
    of (Some x) h = above_is img.entries e x h

-- so is a successor
successor_is : (img : Image) → Given img → (k e n : ℕ) → successor_at (program img) k e ≡ Some n → is_entry img n ≡ true
successor_is img given zero e n h = absurd (none-some n h)
successor_is img given (suc k) e n h = newer (seq (program img) k).due (seq (program img) (suc k)).due refl (successor_is img given k e n) h
  where
    newer : (began next : Option ℕ) → (seq (program img) (suc k)).due ≡ next → (successor_at (program img) k e ≡ Some n → is_entry img n ≡ true) → newer_successor began e next (successor_at (program img) k e) ≡ Some n → is_entry img n ≡ true
    newer None next f older h = older h
    newer (Some b) None f older h = older h
    newer (Some b) (Some x) f older h = split (b == e) h
      where
        split : (t : Bool) → cond t (Some x) (successor_at (program img) k e) ≡ Some n → is_entry img n ≡ true
        split true h = given.enters (suc k) n (f ∙ h)
        split false h = older h

-- so is the entry that the last of some tasks has handed on to
hands_on : (o : Option End) (n : ℕ) → due_after o ≡ Some n → o ≡ Some (end.Next n)
hands_on None n h = absurd (none-some n h)
hands_on (Some (end.Next e)) n h = ap (λ x. Some (end.Next x)) (same_Some e n h)
hands_on (Some (end.Exit code)) n h = absurd (none-some n h)
hands_on (Some (end.Trap number)) n h = absurd (none-some n h)

last_handed : (img : Image) → Given img → (m : Memory) (ts : List Task) (n : ℕ) → due_after (last_end (run_done (program img)) (runs_of (program img) m ts)) ≡ Some n → is_entry img n ≡ true
last_handed img given m [] n h = absurd (none-some n h)
last_handed img given m (t ∷ []) n h = given.is_program.enters t.entry t.turns m n (hands_on _ n h)
last_handed img given m (t ∷ u ∷ ts) n h = last_handed img given (over (wrote (part (program img) t.entry t.turns m).log) m) (u ∷ ts) n h

module _ (img : Image) (is : IsImage img) (given : Given img) (config : Config) (s : Standing) (reached : IsReached img config s) where
  abbrev p : Program State
  p = program img

  abbrev k : ℕ
  k = s.plain.commits

  abbrev ended : Option End
  ended = last_end (run_done p) (running p s.plain)

  some_guess : (o : Option ℕ) → is_some (seq p k).stopped ≡ false → is_some (guess_after img.entries (seq p k).due (successor_at p k) ended o) ≡ true
  some_guess None off = ⊎_elim (λ (d : is_some (seq p k).due ≡ true). d) (λ (on : is_some (seq p k).stopped ≡ true). absurd (both_ways (is_some (seq p k).stopped) off on)) (goes_on p given.is_program k)
  some_guess (Some e) off = refl

  guessed : (began : ℕ) (o : Option ℕ) → successor_at p k began ≡ o → is_entry img (unwrap_or o (entry_after img.entries began)) ≡ true
  guessed began None h = after_is img is began
  guessed began (Some n) h = successor_is img given k began n h

  guess_entry : (o : Option ℕ) (e : ℕ) → guess_after img.entries (seq p k).due (successor_at p k) ended o ≡ Some e → is_entry img e ≡ true
  guess_entry None e h = given.enters k e h
  guess_entry (Some began) e h = subst (λ n. is_entry img n ≡ true) (same_Some _ e h) (handed (due_after ended) refl)
    where
      handed : (o : Option ℕ) → due_after ended ≡ o → is_entry img (unwrap_or o (unwrap_or (successor_at p k began) (entry_after img.entries began))) ≡ true
      handed None f = guessed began (successor_at p k began) refl
      handed (Some n) f = last_handed img given (seq p k).memory s.plain.tasks n f

  pub is_guess : IsGuess img s.plain
  is_guess = record {
    stopped = λ h. ap (λ (ts : List Task). guess_after img.entries (seq p k).due (successor_at p k) ended (youngest (map entry_of ts))) (reached.idle h) ∙ stopped_due p k h;
    going = some_guess (youngest (map entry_of s.plain.tasks));
    entry = guess_entry (youngest (map entry_of s.plain.tasks));
  }
