-- Steps of a script, one after another.
use Rattle.std.proofs.Common.{◌≡◌, ◌+◌, ◌++◌, [], ℕ, List, Option, Some, None, refl, sym, subst, append_assoc, add-one}
use Rattle.std.proofs.lemmas.List.{append-nil}
use Rattle.std.specs.Prelude.{slice_get}
use Rattle.std.specs.Io.KnownBytes.{Appends}
use Rattle.svc_history.specs.Recorded.{Recorded}
use Rattle.svc_script.specs.declared.script.Step.{Step}
use Rattle.svc_script.specs.declared.playing.Answer.{Answer}
use Rattle.svc_script.specs.Playing.{DoesKind, HasPlayed, Kept, Play, PlaysTo, answer_row}

then_appends : (a b c : Option (List ℕ)) (x y : List ℕ) → Appends a b x → Appends b c y → Appends a c (x ++ y)
then_appends None b c x y f g = tt
then_appends (Some p) None c x y f g = absurd f
then_appends (Some p) (Some q) None x y f g = absurd g
then_appends (Some p) (Some q) (Some r) x y f g = rw (g, f) (append_assoc p x y)

appends_nothing : (a : Option (List ℕ)) → Appends a a []
appends_nothing None = tt
appends_nothing (Some p) = sym (append-nil p)

-- no step yet
pub none_played : (steps : List Step) (r : Recorded) (kept : Kept) (old : Option (List ℕ)) → HasPlayed steps 0 r kept r kept old old
none_played steps r kept old = record { text = []; steps_done = refl; lines = appends_nothing old; image = refl; config_is = refl }

-- one step more
pub one_more_played : (steps : List Step) (n : ℕ) (r between next : Recorded) (kept held after : Kept) (old mid new : Option (List ℕ)) (s : Step) (a : Answer)
    → HasPlayed steps n r kept between held old mid → slice_get steps n ≡ Some s → DoesKind s.kind s.unit between held a next after
    → next.machine.image ≡ between.machine.image → next.machine.config ≡ between.machine.config → Appends mid new (answer_row a)
    → HasPlayed steps (n + 1) r kept next after old new
one_more_played steps n r between next kept held after old mid new s a before is_step does image config line =
    let now : Play = record { run = next; kept = after; text = before.text ++ answer_row a } in
    record {
      text = before.text ++ answer_row a;
      steps_done = subst (λ (k : ℕ). PlaysTo steps k (record { run = r; kept = kept; text = [] }) now) (sym (add-one n))
          (record { run = between; kept = held; text = before.text }, before.steps_done, s, is_step, (a, does, refl));
      lines = then_appends old mid new before.text (answer_row a) before.lines line;
      image = rw (image) before.image;
      config_is = rw (config) before.config_is;
    }
