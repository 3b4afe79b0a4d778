-- What a read and a store make of a word.
use Rattle.std.proofs.Common.{ℕ, ◌≡◌, ◌==◌, ◌+◌, ◌-◌, ◌<◌, nat_lt, not, Bool, true, false, cond, ◌&&◌, ◌||◌, Option, Some, None, refl, sym, ap, ap₂, ◌∙◌, subst, arith, is_some, is_none}
use Rattle.std.specs.Prelude.{if◌then◌else◌}
use Rattle.std.proofs.lemmas.Bool.{eq-eqb, ne_eqb, le-ltb}
use Rattle.svc_core_laws.specs.Program.{Program}
use Rattle.svc_depend_laws.specs.Needs.{comes_from}
use Rattle.svc_depend_laws.specs.Over.{lesser}
use Rattle.svc_depend_laws.specs.Counts.{back_to}
use Rattle.svc_depend_laws.proofs.Nearests.{origin_is}
use Rattle.svc_depend.specs.declared.word.Word.{Word}
use Rattle.svc_depend.specs.declared.word.Read.{Read}
use Rattle.svc_depend.specs.declared.word.Write.{Write}
use Rattle.svc_depend.specs.Words.{distance_back, is_touched, first_read, later_read, read_by, written_by}
use Rattle.svc_depend.specs.Tracking.{place_of, IsWord}
use Rattle.svc_depend.proofs.Overs.{lesser_none}

-- an earlier task
abbrev IsEarlier : (task : ℕ) → Option ℕ → Type 0
IsEarlier task None = Unit {0}
IsEarlier task (Some from) = from < task

earlier_of : {C : Type 0} (p : Program C) (task word : ℕ) (c : Option ℕ) → comes_from p task word ≡ c → IsEarlier task c
earlier_of p task word None e = tt
earlier_of p task word (Some from) e = (origin_is p task word from e).before

earlier : {C : Type 0} (p : Program C) (task word : ℕ) → IsEarlier task (comes_from p task word)
earlier p task word = earlier_of p task word (comes_from p task word) refl

-- the last writer is this task where it has written the word
own_place : (task : ℕ) (written : Bool) (c : Option ℕ) → IsEarlier task c → (place_of (cond written (Some task) c) == task + 1) ≡ written
own_place task true c h = eq-eqb (task + 1) (task + 1) refl
own_place task false None h = ne_eqb 0 (task + 1) (λ e. omega (arith, e))
own_place task false (Some from) h = ne_eqb (from + 1) (task + 1) (λ e. omega (arith, e, h))

back_is : (task : ℕ) (c : Option ℕ) → IsEarlier task c → distance_back task (place_of c) ≡ back_to task c
back_is task None h = refl
back_is task (Some from) h =
    let z : (from + 1 == 0) ≡ false = ne_eqb (from + 1) 0 (λ e. omega (arith, e)) in
    let l : nat_lt task (from + 1) ≡ false = le-ltb task (from + 1) (omega (arith, h)) in
    let d : task + 1 - (from + 1) ≡ task - from = omega (arith, h) in
    ap (λ b. if b || nat_lt task (from + 1) then None else Some (task + 1 - (from + 1))) z
    ∙ ap (λ b. if b then None else Some (task + 1 - (from + 1))) l
    ∙ ap Some d

-- 1 where the test holds
abbrev pub one_if : Bool → ℕ
one_if b = cond b 1 0

memory_is : (c : Option ℕ) → one_if (place_of c == 0) ≡ one_if (is_none c)
memory_is None = refl
memory_is (Some from) = let z : (from + 1 == 0) ≡ false = ne_eqb (from + 1) 0 (λ e. omega (arith, e)) in ap one_if z

pub touched_is : {C : Type 0} (p : Program C) (task word : ℕ) (e w : Bool) (time : ℕ) (x : Word) → IsWord p task word e w time x → is_touched task x ≡ (e || w)
touched_is p task word e w time x h =
    ap₂ (λ (a b : Bool). a || b) h.reader (ap (λ (n : ℕ). n == task + 1) h.writer ∙ own_place task w (comes_from p task word) (earlier p task word))

-- what a read is to come to, where the word has this value if the task has written it
pub record ReadIs {C : Type 0} (p : Program C) (task word : ℕ) (e : Bool) (o : Option ℕ) (time : ℕ) (r : Read) : Type 0 where
  pub word_is : IsWord p task word (e || is_none o) (is_some o) time r.word
  pub needs : one_if (e || is_none o) ≡ one_if e + r.needs
  pub memory : one_if ((e || is_none o) && is_none (comes_from p task word)) ≡ one_if (e && is_none (comes_from p task word)) + r.memory
  pub distance : cond (e || is_none o) (back_to task (comes_from p task word)) None ≡ lesser r.distance (cond e (back_to task (comes_from p task word)) None)
  pub ready : r.ready ≡ cond (e || is_some o) 0 time

plus_zero : (n : ℕ) → n ≡ n + 0
plus_zero n = omega arith

zero_plus : (n : ℕ) → n ≡ 0 + n
zero_plus n = omega arith

later : (task : ℕ) (x : Word) → is_touched task x ≡ true → read_by task x ≡ later_read x
later task x t = ap (λ b. cond b (later_read x) (first_read task x)) t

first : (task : ℕ) (x : Word) → is_touched task x ≡ false → read_by task x ≡ first_read task x
first task x t = ap (λ b. cond b (later_read x) (first_read task x)) t

pub read_is : {C : Type 0} (p : Program C) (task word : ℕ) (e : Bool) (o : Option ℕ) (time : ℕ) (x : Word) → IsWord p task word e (is_some o) time x → ReadIs p task word e o time (read_by task x)
read_is p task word true o time x h =
    subst (ReadIs p task word true o time) (sym (later task x (touched_is p task word true (is_some o) time x h)))
    (record { word_is = h; needs = refl; memory = plus_zero _; distance = refl; ready = refl })
read_is p task word false (Some v) time x h =
    subst (ReadIs p task word false (Some v) time) (sym (later task x (touched_is p task word false true time x h)))
    (record { word_is = h; needs = refl; memory = refl; distance = refl; ready = refl })
read_is p task word false None time x h =
    let c : Option ℕ = comes_from p task word in
    let back : distance_back task x.writer ≡ back_to task c = ap (distance_back task) h.writer ∙ back_is task c (earlier p task word) in
    let none : one_if (x.writer == 0) ≡ one_if (is_none c) = ap (λ n. one_if (n == 0)) h.writer ∙ memory_is c in
    subst (ReadIs p task word false None time) (sym (first task x (touched_is p task word false false time x h)))
    (record {
      word_is = record {
        reader = eq-eqb (task + 1) (task + 1) refl;
        no_later = omega arith;
        writer = h.writer;
        stored = h.stored;
        readers = (let n = h.readers in omega (arith, n));
        writers = h.writers;
        nearest = ap₂ lesser back h.nearest;
      };
      needs = refl;
      memory = sym none ∙ (let n : ℕ = one_if (x.writer == 0) in zero_plus n);
      distance = sym (lesser_none (distance_back task x.writer) ∙ back);
      ready = h.stored;
    })

-- what a store is to come to
pub record WriteIs {C : Type 0} (p : Program C) (task word : ℕ) (e w : Bool) (now : ℕ) (r : Write) : Type 0 where
  pub word_is : IsWord p task word e true now r.word
  pub stores : 1 ≡ one_if w + r.stores

stores_are : (w : Bool) → 1 ≡ one_if w + one_if (not w)
stores_are true = refl
stores_are false = refl

pub write_is : {C : Type 0} (p : Program C) (task word : ℕ) (e w : Bool) (time now : ℕ) (x : Word) → IsWord p task word e w time x → WriteIs p task word e w now (written_by task now x)
write_is p task word e w time now x h =
    let own : (x.writer == task + 1) ≡ w = ap (λ (n : ℕ). n == task + 1) h.writer ∙ own_place task w (comes_from p task word) (earlier p task word) in
    let stores : one_if (not (x.writer == task + 1)) ≡ one_if (not w) = ap (λ b. one_if (not b)) own in
    let sum : 1 ≡ one_if w + one_if (not w) = stores_are w in
    record {
      word_is = record {
        reader = h.reader;
        no_later = h.no_later;
        writer = refl;
        stored = refl;
        readers = h.readers;
        writers = (let n = h.writers in omega (arith, n, stores, sum));
        nearest = h.nearest;
      };
      stores = sum ∙ ap (λ n. one_if w + n) (sym stores);
    }
