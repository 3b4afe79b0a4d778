-- What is looked for among all schedules.
use Rattle.std.specs.Prelude.{IfOk, IfErr, IfSome, IsNone, IsTrue}
use Rattle.std.proofs.Common.{◌≡◌, ℕ, List, Option, Some, None, Result, Ok, Err, inl, inr, refl, subst}
use denote.Ref.{Bor}
use Rattle.std.specs.List.{AllByRecursion}
use Rattle.svc_image.specs.Image.{Image}
use Rattle.svc_history_laws.specs.declared.entry.Entry.{Entry}
use Rattle.svc_explore_laws.specs.declared.observation.Observation.{Observation}
use Rattle.svc_explore_laws.specs.Closed.{IsIn}
use Rattle.svc_explore.specs.declared.found.Seen.{Seen}
use Rattle.svc_observations.specs.declared.sought.Sought.{Sought}
use Rattle.svc_explore.specs.declared.walk.Exploration.{Exploration}
use Rattle.svc_explore.specs.Found.{IsShown, are_seen}
use Rattle.svc_explore.specs.Witnesses.{IsFirstMatch, IsWitness}
use Rattle.svc_observations.specs.Sought.{Matches}
use Rattle.svc_explore.proofs.NoMatch.{no_match}
use Rattle.svc_explore.proofs.Permuting.{all_get}
use Rattle.svc_request.specs.declared.faults.Fault.{Fault}
use Rattle.svc_request.specs.declared.request.Explored.{Explored}
use Rattle.svc_request.specs.declared.request.Request.TheVariants as request
use Rattle.svc_request.specs.Held.{Held}
use Rattle.svc_request.specs.Names.{written_by}
use Rattle.svc_answer.specs.Explored.{FindsSight, HasWitness, IsAnswerTo, IsExplorationOf}
use Rattle.svc_answer.specs.Named.{IsNamedIn}
use Rattle.svc_answer.specs.Requests.{IsAnswered, IsOfSource, IsQuiet, SavesAlone, SavesAnyTrace}

-- what was found is shown by its schedule
pub shown_if : (img : Image) (explored : Explored) (found : List Seen) → AllByRecursion (IsShown img explored.config explored.burst) found → (seen : Option (Bor Seen))
    → IfSome seen (λ s. IsIn s.now found) → IfSome seen (λ s. IsShown img explored.config explored.burst s.now)
shown_if img explored found all None there = tt
shown_if img explored found all (Some s) there = all_get (IsShown img explored.config explored.burst) found all there.0 s.now there.1

-- what was found, or that nothing is to be found
pub answer_of : (img : Image) (explored : Explored) (sought : Sought) (x : Exploration) (saves : List Entry → Type 0) → IsExplorationOf img explored.config explored.burst explored.states x
    → (seen : Option (Bor Seen)) → (seen ≡ None → IsTrue x.whole) → IfSome seen (λ s. IsFirstMatch sought s.now x.found.items) → IfSome seen (λ s. Matches sought s.now.what)
    → (IsNone seen → (o : Observation) → IsIn o (are_seen x.found.items) → Matches sought o → ⊥)
    → IfSome seen (λ s. HasWitness img explored s.now.what saves) → IsAnswerTo img explored sought x saves seen
answer_of img explored sought x saves is None whole there matches none witness = no_match img explored.config explored.burst (are_seen x.found.items) sought (is.whole (whole refl)) (none refl)
answer_of img explored sought x saves is (Some s) whole there matches none witness = (there, matches, witness)

-- with the image there, what was found of it or why not
pub find_answered : {O : Type 0} (contents : O → Option (List ℕ)) (explored : Explored) (sought : Sought) (trace : Option (Bor (List ℕ))) (held saved : Held) (old new : O) (r : Result ℕ Fault) (img : Image)
    → IsOfSource held explored.image img → IfOk r (λ exit. IsNamedIn held explored.names (λ names. FindsSight names img explored sought (SavesAnyTrace saved trace) (contents old) (contents new) exit))
    → IfErr r (IsQuiet old new) → SavesAlone (written_by (request.Find explored sought trace)) held saved r
    → IsAnswered contents (request.Find explored sought trace) held saved old new r
find_answered contents explored sought trace held saved old new (Ok exit) img image finds silent alone =
    record { done = (img, image, finds); silent = tt; order = tt; machine = tt; kept = alone.kept; spared = tt }
find_answered contents explored sought trace held saved old new (Err f) img image finds silent alone = record {
  done = tt;
  silent = silent;
  order = inr (img, image);
  machine = λ run. tt;
  kept = alone.kept;
  spared = elim (alone.spared) [ inl late ↦ inr (late, (img, image)) | inr keeps ↦ inl keeps ];
}

-- the history that was saved is a witness
pub saved_by : {A : Type 0} (r : Result A Fault) (img : Image) (explored : Explored) (o : Observation) (es told : List Entry) (saves : List Entry → Type 0) → told ≡ es → IsWitness img explored.config explored.burst o es
    → IfOk r (λ _. saves told) → IfOk r (λ _. HasWitness img explored o saves)
saved_by (Ok x) img explored o es told saves same witness saved = (es, witness, subst saves same saved)
saved_by (Err f) img explored o es told saves same witness saved = tt
