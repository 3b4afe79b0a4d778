-- A commit, a beginning and a squash without numbers keep a bus in agreement with each line table that it agrees with.
use Rattle.std.proofs.Common.{◌≡◌, ◌≢◌, refl, sym, ap, ap₂, ◌∙◌, subst, ℕ, suc, ◌+◌, ◌<◌, ◌≤◌, Some, None, true, false, Bool, cond, not, ◌&&◌, [], ◌∷◌, ◌++◌, Option, length, get_or, take, drop, unwrap_or, leb, ltb}
use Rattle.std.specs.Bool.{◌==◌}
use Rattle.svc_bus_laws.specs.LineTable.{Line, LineTable, is_active, is_cut, task_in, unit_at}
use Rattle.svc_bus_laws.specs.Steps.{line_after_commit, line_after_squashing, commit, squash, begin}
use Rattle.svc_bus_laws.specs.Sound.{IsSound}
use Rattle.svc_bus_laws.specs.BusLine.{is_active_line, is_dirty_line, settled_line}
use Rattle.svc_bus_laws.specs.BusState.{BusState, Agrees, without_number, is_dirty}
use Rattle.svc_bus_laws.specs.BusSteps.{bus_begin, bus_commit, line_after_cut, bus_squash}
use Rattle.svc_bus_laws.proofs.Numbered.{squash_is, squash_line}
use Rattle.svc_bus_laws.proofs.CommitLaws.{commit_sound}
use Rattle.svc_bus_laws.proofs.SquashLaws.{squash_sound}
use Rattle.svc_bus_laws.proofs.BeginLaws.{begin_sound}
use Rattle.svc_bus_laws.proofs.SeenLaws.{active_line_is, dirty_line_is}

settled_is : (line : Option Line) → without_number (line_after_commit line) ≡ settled_line (without_number line)
settled_is None = refl
settled_is (Some l) = refl

settled_keeps : (line : Option Line) → (is_dirty (line_after_commit line) ≡ is_dirty line) × (task_in (line_after_commit line) ≡ task_in line)
settled_keeps None = (refl, refl)
settled_keeps (Some l) = (refl, refl)

pub commit_agrees : (b : BusState) (t : LineTable) → Agrees b t → 0 < length t.units → Agrees (bus_commit b) (commit t)
commit_agrees b t agrees has_head = record {
  sound = commit_sound t agrees.sound has_head;
  caches = agrees.caches;
  sets = agrees.sets;
  ways = agrees.ways;
  words = agrees.words;
  lines = λ v a. (λ i. cond (v == get_or (agrees.units i) 0 0) (settled_line (agrees.lines v a i)) (agrees.lines v a i)) ∙ both (v == unit_at t 0) (t.lines v a);
  order = λ a u v. agrees.order a u v ∙ sym (ap₂ (λ x y. x && y) (ap₂ (λ x y. x && y) (kept u a).0 (kept v a).0) (ap₂ ltb (kept u a).1 (kept v a).1));
  spill = λ a. refl;
  backing = λ a. ap₂ unwrap_or (agrees.spill a) (agrees.backing a);
  commits = ap suc agrees.commits;
  units = ap (drop 1) agrees.units;
}
  where
    both : (x : Bool) (line : Option Line) → cond x (settled_line (without_number line)) (without_number line) ≡ without_number (cond x (line_after_commit line) line)
    both true line = sym (settled_is line)
    both false line = refl

    kept : (v a : ℕ) → (is_dirty ((commit t).lines v a) ≡ is_dirty (t.lines v a)) × (task_in ((commit t).lines v a) ≡ task_in (t.lines v a))
    kept v a = go (v == unit_at t 0) (t.lines v a)
      where
        go : (x : Bool) (line : Option Line) → (is_dirty (cond x (line_after_commit line) line) ≡ is_dirty line) × (task_in (cond x (line_after_commit line) line) ≡ task_in line)
        go true line = settled_keeps line
        go false line = (refl, refl)

pub begin_agrees : (b : BusState) (t : LineTable) (u : ℕ) → Agrees b t → u < t.caches → ((p : ℕ) → p < length t.units → unit_at t p ≢ u) → Agrees (bus_begin b u) (begin t u)
begin_agrees b t u agrees known idle = record {
  sound = begin_sound t u agrees.sound known idle;
  caches = agrees.caches;
  sets = agrees.sets;
  ways = agrees.ways;
  words = agrees.words;
  lines = agrees.lines;
  order = agrees.order;
  spill = agrees.spill;
  backing = agrees.backing;
  commits = agrees.commits;
  units = ap (λ us. us ++ u ∷ []) agrees.units;
}

never : (x y z : Bool) → ((x && false) && y) ≡ ((x && false) && z)
never true y z = refl
never false y z = refl

twice : (x y : Bool) → (x && (x && y)) ≡ (x && y)
twice true y = refl
twice false y = refl

module _ (b : BusState) (t : LineTable) (n : ℕ) (agrees : Agrees b t) where
  pub cut_line : IsSound t → (v a : ℕ) → line_after_cut b n v a ≡ without_number (line_after_squashing (t.commits + n) (t.lines v a))
  cut_line sound v a =
      (λ i. cond (is_cut (agrees.units i) n v && is_active_line (agrees.lines v a i)) None (agrees.lines v a i))
      ∙ ap (λ x. cond (is_cut t.units n v && x) None (without_number (t.lines v a))) (active_line_is (t.lines v a))
      ∙ both (is_cut t.units n v && is_active (t.lines v a)) (t.lines v a)
      ∙ ap without_number (squash_line t n sound v a)
    where
      both : (x : Bool) (line : Option Line) → cond x None (without_number line) ≡ without_number (cond x None line)
      both true line = refl
      both false line = refl

  pub squash_steps : 0 < n → n ≤ length t.units → Agrees (bus_squash b n) (squash t n)
  squash_steps above room = record {
    sound = subst IsSound (sym (squash_is t n agrees.sound)) (squash_sound t n agrees.sound above room);
    caches = agrees.caches;
    sets = agrees.sets;
    ways = agrees.ways;
    words = agrees.words;
    lines = λ v a. cut_line agrees.sound v a ∙ sym (ap without_number (squash_line t n agrees.sound v a));
    order = λ a u v.
        ap₂ (λ x y. (is_dirty_line x && is_dirty_line y) && b.is_older a u v) (cut_line agrees.sound u a) (cut_line agrees.sound v a)
        ∙ ap₂ (λ x y. (x && y) && b.is_older a u v) (dirty_line_is (line_after_squashing (t.commits + n) (t.lines u a))) (dirty_line_is (line_after_squashing (t.commits + n) (t.lines v a)))
        ∙ ap (λ x. (is_dirty (line_after_squashing (t.commits + n) (t.lines u a)) && is_dirty (line_after_squashing (t.commits + n) (t.lines v a))) && x) (agrees.order a u v)
        ∙ compare (t.lines u a) (t.lines v a)
        ∙ sym (ap₂ (λ k l. (is_dirty k && is_dirty l) && ltb (task_in k) (task_in l)) (squash_line t n agrees.sound u a) (squash_line t n agrees.sound v a));
    spill = agrees.spill;
    backing = agrees.backing;
    commits = agrees.commits;
    units = ap (take n) agrees.units;
  }
    where
      compare : (k l : Option Line) → ((is_dirty (line_after_squashing (t.commits + n) k) && is_dirty (line_after_squashing (t.commits + n) l)) && ((is_dirty k && is_dirty l) && ltb (task_in k) (task_in l))) ≡ ((is_dirty (line_after_squashing (t.commits + n) k) && is_dirty (line_after_squashing (t.commits + n) l)) && ltb (task_in (line_after_squashing (t.commits + n) k)) (task_in (line_after_squashing (t.commits + n) l)))
      compare None l = refl
      compare (Some k) None = never (is_dirty (line_after_squashing (t.commits + n) (Some k))) ((is_dirty (Some k) && false) && ltb k.task 0) (ltb (task_in (line_after_squashing (t.commits + n) (Some k))) 0)
      compare (Some k) (Some l) = go (not k.commit && leb (t.commits + n) k.task) (not l.commit && leb (t.commits + n) l.task)
        where
          go : (x y : Bool) → ((is_dirty (cond x None (Some k)) && is_dirty (cond y None (Some l))) && ((k.store && l.store) && ltb k.task l.task)) ≡ ((is_dirty (cond x None (Some k)) && is_dirty (cond y None (Some l))) && ltb (task_in (cond x None (Some k))) (task_in (cond y None (Some l))))
          go true y = refl
          go false true = never k.store ((k.store && l.store) && ltb k.task l.task) (ltb k.task 0)
          go false false = twice (k.store && l.store) (ltb k.task l.task)

pub squash_agrees : (b : BusState) (t : LineTable) (n : ℕ) → Agrees b t → 0 < n → n ≤ length t.units → Agrees (bus_squash b n) (squash t n)
squash_agrees b t n agrees above room = squash_steps b t n agrees above room
