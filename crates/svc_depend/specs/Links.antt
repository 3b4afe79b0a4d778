-- The words that a task needs of others, one by one.
use Rattle.std.specs.Prelude.{◌≡◌, ℕ, ◌-◌, ◌==◌, ◌<◌, ◌≤◌, length, ◌||◌, ◌&&◌, cond, Bool, List, [], ◌∷◌, map, get_or}
use Rattle.std.specs.Prelude.{Option, Some, None}
use Rattle.std.specs.List.{filter, count_by}
use Rattle.std.specs.List.Sorted.{IsNonDecreasingBy}
use Rattle.svc_core_laws.specs.Program.{Program}
use Rattle.svc_depend_laws.specs.Pairs.{is_needed_of}
use Rattle.svc_depend.specs.declared.links.Link.{Link}
use Rattle.svc_depend.specs.declared.pairs.PairForm.{PairForm}
use Rattle.svc_depend.specs.declared.tracker.Tracker.{Tracker}
use Rattle.svc_depend.specs.declared.word.Word.{Word}
use Rattle.svc_depend.specs.Pairs.{pair_told}
use Rattle.svc_depend.specs.Tables.{text_over}
use Rattle.svc_depend.specs.Words.{is_touched, untouched}

-- the task from which the word comes, if the one that reads it needs it here for the first time and it comes from a
-- task
abbrev pub origin_of : (task : ℕ) → Word → Option ℕ
origin_of task x = cond (is_touched task x || (x.writer == 0)) None (Some (x.writer - 1))

abbrev pub link_to : (word : ℕ) → Option ℕ → List Link
link_to word None = []
link_to word (Some on) = record { on = on; word = word } ∷ []

-- what is needed of another task where the one that runs reads this word, if it reads one
abbrev pub links_read : Tracker → Option ℕ → List Link
links_read t None = []
links_read t (Some word) = link_to word (origin_of t.task (get_or t.words.items word untouched))

-- the same, to this word of that task
abbrev pub is_link : (on word : ℕ) → Link → Bool
is_link on word l = (l.on == on) && (l.word == word)

-- the links are those of a task that has exposed these words, each once
abbrev pub AreLinks : {C : Type 0} → Program C → (task : ℕ) → (exposes : ℕ → Bool) → List Link → Type 0
AreLinks p task exposes links =
    (on word : ℕ) → count_by (is_link on word) links ≡ cond (is_needed_of p task exposes on word) 1 0

-- the words of the links to a task
abbrev pub words_on : List Link → (on : ℕ) → List ℕ
words_on links on = map (λ l. l.word) (filter (λ l. l.on == on) links)

-- what is told of a task by its links
abbrev pub links_text : PairForm → (task : ℕ) → List Link → List ℕ
links_text form task links = text_over (λ on. pair_told form task on (words_on links on)) task

-- links in the order of the tasks that are needed, and those of one in the order of their words
pub record IsOrdered (links : List Link) : Type 0 where
  pub by_task : IsNonDecreasingBy (λ l. l.on) links
  pub by_word : (i j : ℕ) (d : Link) → i ≤ j → j < length links → (get_or links j d).on ≡ (get_or links i d).on
      → (get_or links i d).word ≤ (get_or links j d).word
