-- Links in order: the words of those to a task are the words that are needed of it.
use Rattle.std.proofs.Common.{ℕ, suc, ◌≡◌, ◌==◌, ◌+◌, ◌<◌, ◌≤◌, ◌∷◌, ◌⊎◌, inl, inr, ◌&&◌, Bool, true, false, cond, List, [], map, length, get_or, Option, Some, None, refl, sym, ap, ap₂, ◌∙◌, subst, arith}
use Rattle.std.specs.List.{AllByRecursion, count_by, filter}
use Rattle.std.specs.List.Sorted.{IsPermutation, IsSortedByKey}
use Rattle.std.specs.Cmp.{IsTotalOrder}
use Rattle.std.specs.Ordering.{is_lt, nat_cmp, ordering_then}
use Rattle.std.specs.declared.cmp.Ordering.{Ordering}
use Rattle.std.proofs.lemmas.Cmp.{nat_cmp_total, on_total, then_total}
use Rattle.std.proofs.lemmas.Bool.{cases_eq, cases_order, eq-eqb, ne_eqb, lt-ltb, le-ltb}
use Rattle.std.proofs.lemmas.List.Sums.{sum_by-cons}
use Rattle.std.proofs.lemmas.List.Sorted.{ranks_by, sorted_far, sum_by-IsPermutation}
use Rattle.svc_core_laws.specs.Program.{Program, exposed_words, task_log}
use Rattle.svc_depend_laws.specs.Needs.{comes_from}
use Rattle.svc_depend_laws.specs.Pairs.{is_from, is_needed_of, words_of}
use Rattle.svc_depend_laws.proofs.Nearests.{origin_is}
use Rattle.svc_depend.specs.declared.links.Link.{Link}
use Rattle.svc_depend.specs.Links.{AreLinks, IsOrdered, is_link, words_on}
use Rattle.svc_depend.proofs.OneWord.{one_if}
use Rattle.svc_depend.proofs.Once.{Rises, count_at, once}

abbrev count_to : (on word : ℕ) → List Link → ℕ
count_to on word links = count_by (is_link on word) links

-- the words of the links to a task, where the first one is such a link, and where it isn't
words_same : (on : ℕ) (l : Link) (ls : List Link) → l.on ≡ on → words_on (l ∷ ls) on ≡ l.word ∷ words_on ls on
words_same on l ls e = ap (λ t. map (λ (x : Link). x.word) (cond t (l ∷ filter (λ x. x.on == on) ls) (filter (λ x. x.on == on) ls))) (eq-eqb l.on on e)

words_other : (on : ℕ) (l : Link) (ls : List Link) → (l.on ≡ on → ⊥) → words_on (l ∷ ls) on ≡ words_on ls on
words_other on l ls ne = ap (λ t. map (λ (x : Link). x.word) (cond t (l ∷ filter (λ x. x.on == on) ls) (filter (λ x. x.on == on) ls))) (ne_eqb l.on on ne)

-- ---- they rise

rest_ordered : (l : Link) (ls : List Link) → IsOrdered (l ∷ ls) → IsOrdered ls
rest_ordered l ls h = record {
  by_task = λ i j d le inside. h.by_task (suc i) (suc j) d (omega (arith, le)) (omega (arith, inside));
  by_word = λ i j d le inside same. h.by_word (suc i) (suc j) d (omega (arith, le)) (omega (arith, inside)) same;
}

all_words : (on m : ℕ) (ls : List Link) → ((i : ℕ) (d : Link) → i < length ls → (get_or ls i d).on ≡ on → m ≤ (get_or ls i d).word) → AllByRecursion (λ v. m ≤ v) (words_on ls on)
all_words on m [] h = tt
all_words on m (l ∷ ls) h = by (all_words on m ls (λ i d inside same. h (suc i) d (omega (arith, inside)) same)) (cases_eq l.on on)
  where
    by : AllByRecursion (λ v. m ≤ v) (words_on ls on) → (l.on ≡ on) ⊎ (l.on ≡ on → ⊥) → AllByRecursion (λ v. m ≤ v) (words_on (l ∷ ls) on)
    by rest (inl e) = subst (AllByRecursion (λ v. m ≤ v)) (sym (words_same on l ls e)) (h 0 l (omega arith) e, rest)
    by rest (inr ne) = subst (AllByRecursion (λ v. m ≤ v)) (sym (words_other on l ls ne)) rest

words_rise : (on : ℕ) (ls : List Link) → IsOrdered ls → Rises (words_on ls on)
words_rise on [] h = tt
words_rise on (l ∷ ls) h = by (words_rise on ls (rest_ordered l ls h)) (cases_eq l.on on)
  where
    by : Rises (words_on ls on) → (l.on ≡ on) ⊎ (l.on ≡ on → ⊥) → Rises (words_on (l ∷ ls) on)
    by rest (inl e) =
        subst Rises (sym (words_same on l ls e))
        (all_words on l.word ls (λ i d inside same. h.by_word 0 (suc i) d (omega arith) (omega (arith, inside)) (same ∙ sym e)), rest)
    by rest (inr ne) = subst Rises (sym (words_other on l ls ne)) rest

-- ---- how often a word stands among them

words_counted : (on a : ℕ) (ls : List Link) → count_at a (words_on ls on) ≡ count_to on a ls
words_counted on a [] = refl
words_counted on a (l ∷ ls) = by (words_counted on a ls) (cases_eq l.on on)
  where
    whole : count_to on a (l ∷ ls) ≡ one_if ((l.on == on) && (l.word == a)) + count_to on a ls
    whole = sum_by-cons (λ x. one_if (is_link on a x)) l ls

    by : count_at a (words_on ls on) ≡ count_to on a ls → (l.on ≡ on) ⊎ (l.on ≡ on → ⊥) → count_at a (words_on (l ∷ ls) on) ≡ count_to on a (l ∷ ls)
    by rest (inl e) =
        let one : one_if ((l.on == on) && (l.word == a)) ≡ one_if (l.word == a) = ap (λ t. one_if (t && (l.word == a))) (eq-eqb l.on on e) in
        let sum : count_at a (l.word ∷ words_on ls on) ≡ one_if (l.word == a) + count_at a (words_on ls on) = sum_by-cons (λ v. one_if (v == a)) l.word (words_on ls on) in
        ap (count_at a) (words_same on l ls e) ∙ omega (arith, rest, whole, one, sum)
    by rest (inr ne) =
        let none : one_if ((l.on == on) && (l.word == a)) ≡ 0 = ap (λ t. one_if (t && (l.word == a))) (ne_eqb l.on on ne) in
        ap (count_at a) (words_other on l ls ne) ∙ omega (arith, rest, whole, none)

-- ---- the words that are needed

pub same_links : {C : Type 0} (p : Program C) (task : ℕ) (exposes : ℕ → Bool) (xs ys : List Link) → IsPermutation xs ys → AreLinks p task exposes xs → AreLinks p task exposes ys
same_links p task exposes xs ys moved are on word = sum_by-IsPermutation (λ l. one_if (is_link on word l)) xs ys moved ∙ are on word

both_hold : (a b : Bool) → (a && b) ≡ true → (a ≡ true) × (b ≡ true)
both_hold true b h = (refl, h)
both_hold false b h = absurd (cc)

-- links in order have the words that the task needs, if those are of the data
pub words_are : {C : Type 0} (p : Program C) (words task on : ℕ) (links : List Link) → ((word : ℕ) → exposed_words (task_log p task) word ≡ true → word < words) → IsOrdered links
    → AreLinks p task (exposed_words (task_log p task)) links → words_on links on ≡ words_of p words task on
words_are p words task on links inside order are =
    once (is_needed_of p task (exposed_words (task_log p task)) on) 0 words (words_on links on)
    (record {
      rises = words_rise on links order;
      below = λ v less. absurd (omega (arith, less));
      from = λ v le. words_counted on v links ∙ are on v;
      ends = λ v needed. (let low = inside v (both_hold (exposed_words (task_log p task) v) (is_from on (comes_from p task v)) needed).0 in omega (arith, low));
    })

-- ---- the tasks that are needed

is_there : (t : Bool) → 1 ≤ one_if t → t ≡ true
is_there true h = refl
is_there false h = absurd (omega (arith, h))

from_it : (on : ℕ) (c : Option ℕ) → is_from on c ≡ true → c ≡ Some on
from_it on None h = cc
from_it on (Some from) h = ap Some (of (cases_eq from on))
  where
    of : (from ≡ on) ⊎ (from ≡ on → ⊥) → from ≡ on
    of (inl e) = e
    of (inr ne) = let no : (from == on) ≡ false = ne_eqb from on ne in cc

some_before : {C : Type 0} (p : Program C) (task : ℕ) (exposes : ℕ → Bool) (all links : List Link) → AreLinks p task exposes all
    → ((on word : ℕ) → count_to on word links ≤ count_to on word all) → AllByRecursion (λ (l : Link). l.on < task) links
some_before p task exposes all [] are few = tt
some_before p task exposes all (l ∷ ls) are few =
    let here : count_to l.on l.word (l ∷ ls) ≡ one_if ((l.on == l.on) && (l.word == l.word)) + count_to l.on l.word ls = sum_by-cons (λ x. one_if (is_link l.on l.word x)) l ls in
    let one : one_if ((l.on == l.on) && (l.word == l.word)) ≡ 1 = ap₂ (λ s t. one_if (s && t)) (eq-eqb l.on l.on refl) (eq-eqb l.word l.word refl) in
    let most = few l.on l.word in
    let is = are l.on l.word in
    let needed : is_needed_of p task exposes l.on l.word ≡ true = is_there (is_needed_of p task exposes l.on l.word) (omega (arith, here, one, most, is)) in
    let comes : comes_from p task l.word ≡ Some l.on = from_it l.on (comes_from p task l.word) (both_hold (exposes l.word) (is_from l.on (comes_from p task l.word)) needed).1 in (
      (origin_is p task l.word l.on comes).before,
      some_before p task exposes all ls are (λ on word.
          (let sum : count_to on word (l ∷ ls) ≡ one_if (is_link on word l) + count_to on word ls = sum_by-cons (λ x. one_if (is_link on word x)) l ls in
          let less = few on word in
          omega (arith, sum, less))),
    )

pub all_before : {C : Type 0} (p : Program C) (task : ℕ) (exposes : ℕ → Bool) (links : List Link) → AreLinks p task exposes links → AllByRecursion (λ (l : Link). l.on < task) links
all_before p task exposes links are = some_before p task exposes links links are (λ on word. omega arith)

-- ---- what a sort by both leaves

-- of two pairs of which the one isn't less than the other
not_less : (a b c d : ℕ) → is_lt (ordering_then (nat_cmp a b) (nat_cmp c d)) ≡ false → (b ≤ a) × (a ≡ b → d ≤ c)
not_less a b c d h = (first (cases_order a b), λ e. second e (cases_order c d))
  where
    first : (a ≡ b) ⊎ ((a < b) ⊎ (b < a)) → b ≤ a
    first (inl e) = omega (arith, e)
    first (inr (inl less)) = let t = lt-ltb a b less in let wrong = rw t at h in cc
    first (inr (inr more)) = omega (arith, more)

    second : a ≡ b → (c ≡ d) ⊎ ((c < d) ⊎ (d < c)) → d ≤ c
    second e (inl s) = omega (arith, s)
    second e (inr (inl less)) = (let wrong = rw (le-ltb a b (omega (arith, e)), eq-eqb a b e, lt-ltb c d less) at h in cc)
    second e (inr (inr more)) = omega (arith, more)

-- a pair of numbers is less by the first, and where these are one by the second
abbrev less_pair : (x y : ℕ × ℕ) → Ordering
less_pair x y = ordering_then (nat_cmp x.0 y.0) (nat_cmp x.1 y.1)

pair_total : IsTotalOrder less_pair
pair_total = then_total (on_total (λ (x : ℕ × ℕ). x.0) nat_cmp_total) (on_total (λ (x : ℕ × ℕ). x.1) nat_cmp_total)

abbrev key_of : Link → ℕ × ℕ
key_of l = (l.on, l.word)

pub ordered : (links : List Link) → IsSortedByKey key_of less_pair links → IsOrdered links
ordered links up = record {
  by_task = λ i j d le inside. (far i j d le inside).0;
  by_word = λ i j d le inside same. (far i j d le inside).1 same;
}
  where
    far : (i j : ℕ) (d : Link) → i ≤ j → j < length links
        → ((get_or links i d).on ≤ (get_or links j d).on) × ((get_or links j d).on ≡ (get_or links i d).on → (get_or links i d).word ≤ (get_or links j d).word)
    far i j d le inside =
        not_less (get_or links j d).on (get_or links i d).on (get_or links j d).word (get_or links i d).word
        (sorted_far (λ (x y : Link). is_lt (less_pair (key_of x) (key_of y))) (ranks_by pair_total key_of) links up i j d le inside)
