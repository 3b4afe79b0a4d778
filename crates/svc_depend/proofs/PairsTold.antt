-- What is told of a task by its links is what it needs of others.
use Rattle.std.proofs.Common.{◌≡◌, ◌∙◌, ◌+◌, ◌<◌, ◌++◌, ℕ, suc, List, Option, Some, ap, ap₂, sym, subst, arith, add-one, append-nil, drop, length, take, take_all}
use Rattle.std.specs.List.{All}
use Rattle.std.specs.List.Sorted.{IsNonDecreasingBy, IsPermutation}
use Rattle.std.proofs.lemmas.List.{drop_all}
use Rattle.std.proofs.lemmas.List.Elements.{All-from_recursion}
use Rattle.std.proofs.lemmas.List.Sorted.{length_permutation}
use Rattle.std.specs.Io.KnownBytes.{Appends, append_known}
use Rattle.std.proofs.KnownBytes.{Appends-trans, Keeps-refl, append_known-grown}
use Rattle.svc_image.specs.Image.{Image, IsImage}
use Rattle.svc_core_laws.specs.declared.end.End.{End}
use Rattle.svc_core_laws.specs.State.{State, limit_of}
use Rattle.svc_core_laws.specs.Program.{exposed_words, task_log}
use Rattle.svc_core_laws.specs.Turns.{data_words}
use Rattle.svc_core_laws.specs.Words.{program}
use Rattle.svc_depend_laws.specs.Pairs.{words_of}
use Rattle.svc_depend_laws.proofs.DataWords.{words_of_data}
use Rattle.svc_depend.specs.declared.links.Link.{Link}
use Rattle.svc_depend.specs.declared.pairs.PairForm.{PairForm}
use Rattle.svc_depend.specs.declared.needs.TaskNeeds.{TaskNeeds}
use Rattle.svc_depend.specs.declared.needs.Totals.{Totals}
use Rattle.svc_depend.specs.declared.tracker.Tracker.{Tracker}
use Rattle.svc_depend.specs.Walks.{IsFollowed, IsWalked}
use Rattle.svc_depend.specs.Links.{AreLinks, IsOrdered, links_text, words_on}
use Rattle.svc_depend.specs.Pairs.{pair_told, pairs_of}
use Rattle.svc_depend.specs.Tables.{text_over}
use Rattle.svc_depend.proofs.InOrder.{all_before, same_links, words_are}
use Rattle.svc_depend.proofs.Linked.{AreLinked}
use Rattle.svc_depend.proofs.Told.{links_are}
use Rattle.svc_depend.proofs.Texts.{text_same}

pub told_pairs : (form : PairForm) (img : Image) (task : ℕ) (links : List Link) → IsOrdered links → AreLinks (program img) task (exposed_words (task_log (program img) task)) links → links_text form task links ≡ pairs_of form img task
told_pairs form img task links order are =
    text_same (λ on. pair_told form task on (words_on links on)) (λ on. pair_told form task on (words_of (program img) (data_words img) task on)) task
    (λ on below. ap (pair_told form task on) (words_are (program img) (data_words img) task on links (λ word e. (words_of_data img task word).0 e) order are))

-- one task more is told
pub one_more_told : (f : ℕ → List ℕ) (n : ℕ) (a b c : Option (List ℕ)) → Appends a b (text_over f n) → Appends b c (f n) → Appends a c (text_over f (n + 1))
one_more_told f n a b c so_far one = subst (λ (j : ℕ). Appends a c (text_over f j)) (sym (add-one n)) (Appends-trans a b c (text_over f n) (f n) so_far one)

-- what is gathered has grown at its end
pub gathered_more : (a b : Option (List ℕ)) (rows old new end : List ℕ) → Appends a (append_known b old) rows → new ≡ old ++ end → Appends a (append_known b new) (rows ++ end)
gathered_more a b rows old new end so_far grown =
    Appends-trans a (append_known b old) (append_known b new) rows end so_far (append_known-grown (append_known b old) b old new end (Keeps-refl (append_known b old)) grown)

-- the tasks were followed so far to the words and the entry from which the next one is followed
pub followed_here : (img : Image) (j : ℕ) (m m' : List ℕ) (due : Option ℕ) (entry : ℕ) (last : Option End) (s : Tracker) (rows : List TaskNeeds) (all : Totals) → m' ≡ m → due ≡ Some entry
    → IsFollowed img j m due last s rows all → IsFollowed img j m' (Some entry) last s rows all
followed_here img j m m' due entry last s rows all same is h =
    subst (λ (l : List ℕ). IsFollowed img j l (Some entry) last s rows all) (sym same) (subst (λ (o : Option ℕ). IsFollowed img j m o last s rows all) is h)

-- the links of a task, once they are ordered in their place
module _ (img : Image) (sound : IsImage img) (j : ℕ) (m : List ℕ) (entry : ℕ) (last : Option End) (s : Tracker) (rows : List TaskNeeds) (all : Totals) (h : IsFollowed img j m (Some entry) last s rows all)
    (core : State) (after : List ℕ) (u : Tracker) (walked : IsWalked img entry (suc (limit_of img entry)) m s core after u)
    (found lent ordered now : List Link) (len : ℕ) (linked : AreLinked img entry (suc (limit_of img entry)) m s found) (lends : lent ≡ found) (moved : IsPermutation lent ordered) (order : IsOrdered ordered)
    (shown : now ≡ take len (ordered ++ drop (length ordered) found)) (size : len ≡ length found) where
  task_is : u.task ≡ j
  task_is = walked.task ∙ h.task

  now_is : now ≡ ordered
  now_is =
      let same : length ordered ≡ length lent = length_permutation lent ordered moved in
      let long : length lent ≡ length found = ap length lends in
      shown ∙ ap (λ (rest : List Link). take len (ordered ++ rest)) (drop_all (length ordered) found (omega (arith, same, long))) ∙ ap (take len) (append-nil ordered)
      ∙ take_all len ordered (omega (arith, same, long, size))

  are : AreLinks (program img) j (exposed_words (task_log (program img) j)) ordered
  are =
      same_links (program img) j (exposed_words (task_log (program img) j)) lent ordered moved
      (subst (AreLinks (program img) j (exposed_words (task_log (program img) j))) (sym lends) (links_are img sound j m entry last s rows all h core after u walked found linked))

  pub now_rises : IsNonDecreasingBy (λ l. l.on) now
  now_rises = subst (IsNonDecreasingBy (λ (l : Link). l.on)) (sym now_is) order.by_task

  pub now_before : All (λ l. l.on < u.task) now
  now_before =
      subst (λ (k : ℕ). All (λ (l : Link). l.on < k) now) (sym task_is)
      (subst (All (λ (l : Link). l.on < j)) (sym now_is) (All-from_recursion (λ (l : Link). l.on < j) ordered (all_before (program img) j (exposed_words (task_log (program img) j)) ordered are)))

  pub now_told : (form : PairForm) → links_text form u.task now ≡ pairs_of form img j
  now_told form = ap₂ (links_text form) task_is now_is ∙ told_pairs form img j ordered order are
