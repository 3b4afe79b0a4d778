-- A tracker follows the run, turn by turn.
use Rattle.std.proofs.Common.{ℕ, suc, ◌≡◌, ◌+◌, ◌<◌, Bool, true, false, cond, max, ◌&&◌, ◌||◌, List, length, get_or, Option, Some, None, refl, sym, ap, ap₂, ◌∙◌, subst, arith, is_some, is_none, inl, inr, get_or-set_same, get_or-set_other, add-one}
use Rattle.std.specs.Prelude.{slice_set, IfSome}
use Rattle.std.proofs.lemmas.Bool.{cases_eq, eq-eqb, ne_eqb}
use Rattle.svc_core_laws.specs.Program.{Memory, Want, Local, Load, Store, Narrow, Emit, Program, Action, Words, with_word, with_read, wrote, exposed_words, act}
use Rattle.svc_depend_laws.specs.Needs.{comes_from}
use Rattle.svc_depend_laws.specs.Over.{lesser, count_over, least_over}
use Rattle.svc_depend_laws.specs.Counts.{back_to, distance_in, is_from_memory, is_written}
use Rattle.svc_depend_laws.specs.Chain.{Clock, Times, ready, stored_at, tick, word_read, word_written}
use Rattle.svc_depend.specs.declared.word.Word.{Word}
use Rattle.svc_depend.specs.declared.word.Read.{Read}
use Rattle.svc_depend.specs.declared.word.Write.{Write}
use Rattle.svc_depend.specs.declared.tracker.Tracker.{Tracker}
use Rattle.svc_depend.specs.Words.{untouched, read_by, written_by}
use Rattle.svc_depend.specs.Tracking.{IsWord, IsTracked, HasRead, HasReadIf, HasWritten, HasWrittenIf, with_turn}
use Rattle.svc_depend.proofs.Overs.{sum_step, least_step}
use Rattle.svc_depend.proofs.OneWord.{ReadIs, WriteIs, one_if, read_is, write_is}

or_false : (b : Bool) → (b || false) ≡ b
or_false true = refl
or_false false = refl

-- the exposed words after a read: there, and elsewhere
pub read_here : (word : ℕ) (writes : Words) (exposes : ℕ → Bool) → with_read word writes exposes word ≡ (exposes word || is_none (writes word))
read_here word writes exposes = ap (λ b. exposes word || (b && is_none (writes word))) (eq-eqb word word refl)

pub read_there : (word : ℕ) (writes : Words) (exposes : ℕ → Bool) (a : ℕ) → (a ≡ word → ⊥) → with_read word writes exposes a ≡ exposes a
read_there word writes exposes a ne = ap (λ b. exposes a || (b && is_none (writes a))) (ne_eqb word a (λ e. ne (sym e))) ∙ or_false (exposes a)

write_here : (word v : ℕ) (writes : Words) → is_written (with_word word v writes) word ≡ true
write_here word v writes = ap (λ b. is_some (cond b (Some v) (writes word))) (eq-eqb word word refl)

write_there : (word v : ℕ) (writes : Words) (a : ℕ) → (a ≡ word → ⊥) → is_written (with_word word v writes) a ≡ is_written writes a
write_there word v writes a ne = ap (λ b. is_some (cond b (Some v) (writes a))) (ne_eqb word a (λ e. ne (sym e)))

time_here : (word now : ℕ) (times : Times) → stored_at (Some word) now times word ≡ now
time_here word now times = ap (λ b. cond b now (times word)) (eq-eqb word word refl)

time_there : (word now : ℕ) (times : Times) (a : ℕ) → (a ≡ word → ⊥) → stored_at (Some word) now times a ≡ times a
time_there word now times a ne = ap (λ b. cond b now (times a)) (ne_eqb word a (λ e. ne (sym e)))

-- what is kept of each word, where one word changes
word_by : {C : Type 0} (p : Program C) (task word : ℕ) (items : List Word) (x : Word) (e f w v : ℕ → Bool) (s t : ℕ → ℕ)
    → ((a : ℕ) → a < length items → IsWord p task a (e a) (w a) (s a) (get_or items a untouched))
    → ((a : ℕ) → (a ≡ word → ⊥) → (f a ≡ e a) × (v a ≡ w a) × (t a ≡ s a))
    → word < length items → IsWord p task word (f word) (v word) (t word) x
    → (a : ℕ) → a < length items → IsWord p task a (f a) (v a) (t a) (get_or (slice_set items word x) a untouched)
word_by p task word items x e f w v s t before others inside here a below = elim (cases_eq a word) [
  | inl same ↦
      let at : get_or (slice_set items word x) word untouched ≡ x = get_or-set_same items word x untouched inside in
      subst (λ (b : ℕ). IsWord p task b (f b) (v b) (t b) (get_or (slice_set items word x) b untouched)) (sym same)
      (subst (IsWord p task word (f word) (v word) (t word)) (sym at) here)
  | inr ne ↦
      let o = others a ne in
      let at : get_or (slice_set items word x) a untouched ≡ get_or items a untouched = get_or-set_other items word a x untouched ne in
      subst (IsWord p task a (f a) (v a) (t a)) (sym at)
      (subst (λ (b : Bool). IsWord p task a b (v a) (t a) (get_or items a untouched)) (sym o.0)
      (subst (λ (b : Bool). IsWord p task a (e a) b (t a) (get_or items a untouched)) (sym o.1)
      (subst (λ (n : ℕ). IsWord p task a (e a) (w a) n (get_or items a untouched)) (sym o.2) (before a below))))
]

module _ {C : Type 0} (p : Program C) (exposes : ℕ → Bool) (writes : Words) (times : Times) (time word : ℕ) (s t : Tracker) (inside : word < length s.words.items) (h : IsTracked p exposes writes times time s) where
  abbrev x : Word
  x = get_or s.words.items word untouched

  -- ---- a read

  abbrev shown : ℕ → Bool
  shown = with_read word writes exposes

  abbrev r : Read
  r = read_by s.task x

  is : ReadIs p s.task word (exposes word) (writes word) (times word) r
  is = read_is p s.task word (exposes word) (writes word) (times word) x (h.words word inside)

  read_words : (a : ℕ) → a < length s.words.items → IsWord p s.task a (shown a) (is_written writes a) (times a) (get_or (slice_set s.words.items word r.word) a untouched)
  read_words =
      word_by p s.task word s.words.items r.word exposes shown (is_written writes) (is_written writes) times times h.words
      (λ a ne. (read_there word writes exposes a ne, refl, refl)) inside
      (subst (λ (b : Bool). IsWord p s.task word b (is_written writes word) (times word) r.word) (sym (read_here word writes exposes)) is.word_is)

  read_needs : count_over shown (length s.words.items) ≡ s.needs + r.needs
  read_needs =
      sum_step (λ i. one_if (exposes i)) (λ i. one_if (shown i)) (length s.words.items) word r.needs inside
      (λ i ne. ap one_if (read_there word writes exposes i ne)) (ap one_if (read_here word writes exposes) ∙ is.needs)
      ∙ ap (λ n. n + r.needs) (sym h.needs)

  read_memory : count_over (is_from_memory p s.task shown) (length s.words.items) ≡ s.memory + r.memory
  read_memory =
      sum_step (λ i. one_if (is_from_memory p s.task exposes i)) (λ i. one_if (is_from_memory p s.task shown i)) (length s.words.items) word r.memory inside
      (λ i ne. ap (λ b. one_if (b && is_none (comes_from p s.task i))) (read_there word writes exposes i ne))
      (ap (λ b. one_if (b && is_none (comes_from p s.task word))) (read_here word writes exposes) ∙ is.memory)
      ∙ ap (λ n. n + r.memory) (sym h.memory)

  read_nearest : least_over (distance_in p s.task shown) (length s.words.items) ≡ lesser r.distance s.nearest
  read_nearest =
      least_step (distance_in p s.task exposes) (distance_in p s.task shown) (length s.words.items) word r.distance inside
      (λ i ne. ap (λ b. cond b (back_to s.task (comes_from p s.task i)) None) (read_there word writes exposes i ne))
      (ap (λ b. cond b (back_to s.task (comes_from p s.task word)) None) (read_here word writes exposes) ∙ is.distance)
      ∙ ap (lesser r.distance) (sym h.nearest)

  pub after_read : (ready_at : ℕ) → HasRead word s t ready_at → IsTracked p shown writes times time t
  after_read ready_at has =
      let size : length t.words.items ≡ length s.words.items = has.same.size in
      let task : t.task ≡ s.task = has.same.task in
      record {
        words = λ a below.
            subst (λ (k : ℕ). IsWord p k a (shown a) (is_written writes a) (times a) (get_or t.words.items a untouched)) (sym task)
            (subst (λ (l : List Word). IsWord p s.task a (shown a) (is_written writes a) (times a) (get_or l a untouched)) (sym has.words)
            (read_words a (omega (arith, below, size))));
        needs = has.needs ∙ sym read_needs ∙ ap (count_over shown) (sym size);
        memory = has.memory ∙ sym read_memory ∙ ap₂ (λ k n. count_over (is_from_memory p k shown) n) (sym task) (sym size);
        stores = has.stores ∙ h.stores ∙ ap (count_over (is_written writes)) (sym size);
        nearest = has.nearest ∙ sym read_nearest ∙ ap₂ (λ k n. least_over (distance_in p k shown) n) (sym task) (sym size);
        time_is = has.same.time ∙ h.time_is;
      }

  pub waits : (ready_at : ℕ) → HasRead word s t ready_at → ready_at ≡ ready exposes writes times (Some word)
  waits ready_at has = has.waits ∙ is.ready

  -- ---- a store of this value

  module _ (v : ℕ) where
    abbrev stored : Words
    stored = with_word word v writes

    abbrev then_times : Times
    then_times = stored_at (Some word) time times

    abbrev u : Write
    u = written_by s.task s.time x

    done : WriteIs p s.task word (exposes word) (is_written writes word) s.time u
    done = write_is p s.task word (exposes word) (is_written writes word) (times word) s.time x (h.words word inside)

    write_words : (a : ℕ) → a < length s.words.items → IsWord p s.task a (exposes a) (is_written stored a) (then_times a) (get_or (slice_set s.words.items word u.word) a untouched)
    write_words =
        word_by p s.task word s.words.items u.word exposes exposes (is_written writes) (is_written stored) times then_times h.words
        (λ a ne. (refl, write_there word v writes a ne, time_there word time times a ne)) inside
        (subst (λ (b : Bool). IsWord p s.task word (exposes word) b (then_times word) u.word) (sym (write_here word v writes))
        (subst (λ (n : ℕ). IsWord p s.task word (exposes word) true n u.word) (h.time_is ∙ sym (time_here word time times)) done.word_is))

    write_stores : count_over (is_written stored) (length s.words.items) ≡ s.stores + u.stores
    write_stores =
        sum_step (λ i. one_if (is_written writes i)) (λ i. one_if (is_written stored i)) (length s.words.items) word u.stores inside
        (λ i ne. ap one_if (write_there word v writes i ne)) (ap one_if (write_here word v writes) ∙ done.stores)
        ∙ ap (λ n. n + u.stores) (sym h.stores)

    pub after_write : HasWritten word s t → IsTracked p exposes stored then_times time t
    after_write has =
        let size : length t.words.items ≡ length s.words.items = has.same.size in
        let task : t.task ≡ s.task = has.same.task in
        record {
          words = λ a below.
              subst (λ (k : ℕ). IsWord p k a (exposes a) (is_written stored a) (then_times a) (get_or t.words.items a untouched)) (sym task)
              (subst (λ (l : List Word). IsWord p s.task a (exposes a) (is_written stored a) (then_times a) (get_or l a untouched)) (sym has.words)
              (write_words a (omega (arith, below, size))));
          needs = has.needs ∙ h.needs ∙ ap (count_over exposes) (sym size);
          memory = has.memory ∙ h.memory ∙ ap₂ (λ k n. count_over (is_from_memory p k exposes) n) (sym task) (sym size);
          stores = has.stores ∙ sym write_stores ∙ ap (count_over (is_written stored)) (sym size);
          nearest = has.nearest ∙ h.nearest ∙ ap₂ (λ k n. least_over (distance_in p k exposes) n) (sym task) (sym size);
          time_is = has.same.time ∙ h.time_is;
        }

-- ---- the same, of a word that there may be

abbrev pub read_if : Option ℕ → Words → (ℕ → Bool) → ℕ → Bool
read_if None writes exposes = exposes
read_if (Some word) writes exposes = with_read word writes exposes

abbrev written_if : Option ℕ → (v : ℕ) → Words → Words
written_if None v writes = writes
written_if (Some word) v writes = with_word word v writes

after_read_if : {C : Type 0} (p : Program C) (exposes : ℕ → Bool) (writes : Words) (times : Times) (time : ℕ) (o : Option ℕ) (s t : Tracker) (at : ℕ) → IfSome o (λ w. w < length s.words.items)
    → IsTracked p exposes writes times time s → HasReadIf o s t at → IsTracked p (read_if o writes exposes) writes times time t × (at ≡ ready exposes writes times o)
after_read_if p exposes writes times time None s t at inside h has = (subst (IsTracked p exposes writes times time) (sym has.0) h, has.1)
after_read_if p exposes writes times time (Some word) s t at inside h has =
    (after_read p exposes writes times time word s t inside h at has, waits p exposes writes times time word s t inside h at has)

after_write_if : {C : Type 0} (p : Program C) (exposes : ℕ → Bool) (writes : Words) (times : Times) (time : ℕ) (o : Option ℕ) (s t : Tracker) (v : ℕ) → IfSome o (λ w. w < length s.words.items)
    → IsTracked p exposes writes times time s → HasWrittenIf o s t → IsTracked p exposes (written_if o v writes) (stored_at o time times) time t
after_write_if p exposes writes times time None s t v inside h has = subst (IsTracked p exposes writes times time) (sym has) h
after_write_if p exposes writes times time (Some word) s t v inside h has = after_write p exposes writes times time word s t inside h v has

after_tick : {C : Type 0} (p : Program C) (exposes : ℕ → Bool) (writes : Words) (times : Times) (time at : ℕ) (s : Tracker) → IsTracked p exposes writes times time s
    → IsTracked p exposes writes times (suc (max time at)) (with_turn at s)
after_tick p exposes writes times time at s h = record {
  words = h.words;
  needs = h.needs;
  memory = h.memory;
  stores = h.stores;
  nearest = h.nearest;
  time_is = ap (λ n. max n at + 1) h.time_is ∙ add-one (max time at);
}

-- the value that a turn stores
value_of : {C : Type 0} → Want C → Memory → ℕ
value_of (Local c) m = 0
value_of (Load a value go) m = 0
value_of (Store a v c) m = v
value_of (Narrow a f c) m = f (m a)
value_of (Emit v c) m = 0

-- what the actions are after it
turn_done : {C D : Type 0} (p : Program D) (w : Want C) (m : Memory) (log : List Action) (times : Times) (time : ℕ) (t : Tracker)
    → IsTracked p (read_if (word_read w) (wrote log) (exposed_words log)) (written_if (word_written w) (value_of w m) (wrote log)) times time t
    → IsTracked p (exposed_words (act w m log).log) (wrote (act w m log).log) times time t
unfolding value_of
turn_done p (Local c) m log times time t h = h
turn_done p (Load a value go) m log times time t h = h
turn_done p (Store a v c) m log times time t h = h
turn_done p (Narrow a f c) m log times time t h = h
turn_done p (Emit v c) m log times time t h = h

read_size : (o : Option ℕ) (s t u : Tracker) (at : ℕ) → HasReadIf o s t at → u ≡ with_turn at t → length s.words.items ≡ length u.words.items
read_size None s t u at has ticks = ap (λ (x : Tracker). length x.words.items) (sym has.0) ∙ ap (λ (x : Tracker). length x.words.items) (sym ticks)
read_size (Some word) s t u at has ticks = sym has.same.size ∙ ap (λ (x : Tracker). length x.words.items) (sym ticks)

pub after_turn : {C D : Type 0} (p : Program D) (w : Want C) (m : Memory) (log : List Action) (clock : Clock) (reads writes : Option ℕ) (s t u v : Tracker) (at : ℕ)
    → IfSome reads (λ a. a < length s.words.items) → IfSome writes (λ a. a < length s.words.items) → reads ≡ word_read w → writes ≡ word_written w
    → HasReadIf reads s t at → u ≡ with_turn at t → HasWrittenIf writes u v
    → IsTracked p (exposed_words log) (wrote log) clock.stores clock.now s
    → IsTracked p (exposed_words (act w m log).log) (wrote (act w m log).log) (tick w log clock).stores (tick w log clock).now v
after_turn p w m log clock reads writes s t u v at in_reads in_writes is_read is_written_ has_read has_turn has_written h =
    let o : Option ℕ = word_read w in
    let first = after_read_if p (exposed_words log) (wrote log) clock.stores clock.now o s t at (subst (λ (x : Option ℕ). IfSome x (λ a. a < length s.words.items)) is_read in_reads) h (subst (λ (x : Option ℕ). HasReadIf x s t at) is_read has_read) in
    let now : ℕ = suc (max clock.now (ready (exposed_words log) (wrote log) clock.stores o)) in
    let shown : ℕ → Bool = read_if o (wrote log) (exposed_words log) in
    let second : IsTracked p shown (wrote log) clock.stores now u =
    subst (IsTracked p shown (wrote log) clock.stores now) (sym has_turn)
    (subst (λ (n : ℕ). IsTracked p shown (wrote log) clock.stores (suc (max clock.now n)) (with_turn at t)) first.1 (after_tick p shown (wrote log) clock.stores clock.now at t first.0)) in
    turn_done p w m log (stored_at (word_written w) now clock.stores) now v
    (after_write_if p shown (wrote log) clock.stores now (word_written w) u v (value_of w m)
    (subst (λ (n : ℕ). IfSome (word_written w) (λ a. a < n)) (read_size reads s t u at has_read has_turn) (subst (λ (x : Option ℕ). IfSome x (λ a. a < length s.words.items)) is_written_ in_writes)) second
    (subst (λ (x : Option ℕ). HasWrittenIf x u v) is_written_ has_written))
