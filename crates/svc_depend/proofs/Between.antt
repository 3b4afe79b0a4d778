-- A tracker before the first task, and between two.
use Rattle.std.proofs.Common.{ℕ, zero, suc, ◌≡◌, ◌+◌, ◌<◌, ◌≤◌, false, List, length, get_or, None, refl, sym, ◌∙◌, subst, arith}
use Rattle.std.proofs.lemmas.Bool.{ne_eqb}
use Rattle.svc_core_laws.specs.Program.{Program, exposed_words, no_reads, no_words, task_log, wrote}
use Rattle.svc_depend_laws.specs.Chain.{Times}
use Rattle.svc_depend_laws.specs.Counts.{is_written, readers, writers}
use Rattle.svc_depend_laws.specs.Over.{count_over, least_over}
use Rattle.svc_depend.specs.declared.word.Word.{Word}
use Rattle.svc_depend.specs.declared.tracker.Tracker.{Tracker}
use Rattle.svc_depend.specs.Words.{untouched}
use Rattle.svc_depend.specs.Tracking.{IsWord, IsTracked}

pub none_counted : (n : ℕ) → count_over (λ i. false) n ≡ 0
none_counted zero = refl
none_counted (suc n) = let rest = none_counted n in omega (arith, rest)

pub none_least : (n : ℕ) → least_over (λ i. None) n ≡ None
none_least zero = refl
none_least (suc n) = none_least n

-- a word that no task has touched
pub fresh_word : {C : Type 0} (p : Program C) (word : ℕ) → IsWord p 0 word false false 0 untouched
fresh_word p word = record {
  reader = ne_eqb 0 (0 + 1) (λ e. omega (arith, e));
  no_later = omega arith;
  writer = refl;
  stored = refl;
  readers = refl;
  writers = refl;
  nearest = refl;
}

pub fresh : {C : Type 0} (p : Program C) (t : Tracker) → t.task ≡ 0 → t.needs ≡ 0 → t.memory ≡ 0 → t.stores ≡ 0 → t.nearest ≡ None → t.time ≡ 0
    → ((word : ℕ) → word < length t.words.items → get_or t.words.items word untouched ≡ untouched) → IsTracked p no_reads no_words (λ a. 0) 0 t
fresh p t task needs memory stores nearest now words = record {
  words = λ word below.
      subst (λ (k : ℕ). IsWord p k word false false 0 (get_or t.words.items word untouched)) (sym task)
      (subst (IsWord p 0 word false false 0) (sym (words word below)) (fresh_word p word));
  needs = needs ∙ sym (none_counted (length t.words.items));
  memory = memory ∙ sym (none_counted (length t.words.items));
  stores = stores ∙ sym (none_counted (length t.words.items));
  nearest = nearest ∙ sym (none_least (length t.words.items));
  time_is = now;
}

-- a word once the task that runs has ended
next_word : {C : Type 0} (p : Program C) (task word time : ℕ) (x : Word) → IsWord p task word (exposed_words (task_log p task) word) (is_written (wrote (task_log p task)) word) time x → IsWord p (suc task) word false false time x
next_word p task word time x h =
    let low : x.reader ≤ task + 1 = h.no_later in
    record {
      reader = ne_eqb x.reader (suc task + 1) (λ e. omega (arith, e, low));
      no_later = omega (arith, low);
      writer = h.writer;
      stored = h.stored;
      readers = (let n : x.readers ≡ readers p (suc task) word = h.readers in omega (arith, n));
      writers = (let n : x.writers ≡ writers p (suc task) word = h.writers in omega (arith, n));
      nearest = h.nearest;
    }

pub next : {C : Type 0} (p : Program C) (times : Times) (now : ℕ) (s t : Tracker) → IsTracked p (exposed_words (task_log p s.task)) (wrote (task_log p s.task)) times now s
    → t.task ≡ s.task + 1 → t.words.items ≡ s.words.items → t.needs ≡ 0 → t.memory ≡ 0 → t.stores ≡ 0 → t.nearest ≡ None → t.time ≡ 0 → IsTracked p no_reads no_words times 0 t
next p times now s t h task words needs memory stores nearest now_is =
    let one : suc s.task ≡ t.task = omega (arith, task) in
    record {
      words = λ word below.
          subst (λ (k : ℕ). IsWord p k word false false (times word) (get_or t.words.items word untouched)) one
          (subst (λ (v : List Word). IsWord p (suc s.task) word false false (times word) (get_or v word untouched)) (sym words)
          (next_word p s.task word (times word) (get_or s.words.items word untouched) (h.words word (subst (λ (v : List Word). word < length v) words below))));
      needs = needs ∙ sym (none_counted (length t.words.items));
      memory = memory ∙ sym (none_counted (length t.words.items));
      stores = stores ∙ sym (none_counted (length t.words.items));
      nearest = nearest ∙ sym (none_least (length t.words.items));
      time_is = now_is;
    }
