-- The links of a task, turn by turn.
use Rattle.std.proofs.Common.{ℕ, suc, ◌≡◌, ◌==◌, ◌+◌, ◌-◌, ◌<◌, ◌≤◌, ◌++◌, Bool, true, false, cond, ◌&&◌, ◌||◌, List, [], length, get_or, Option, Some, None, refl, sym, ap, ◌∙◌, subst, arith, add-one, zero-add, is_some, is_none, inl, inr}
use Rattle.std.specs.Prelude.{IfSome, slice_index}
use Rattle.std.specs.List.{count_by}
use Rattle.std.proofs.lemmas.Bool.{cases_eq, eq-eqb, ne_eqb}
use Rattle.std.proofs.lemmas.List.Sums.{sum_by-append}
use Rattle.svc_image.specs.Image.{Image}
use Rattle.svc_core_laws.specs.State.{State, limit_of}
use Rattle.svc_core_laws.specs.declared.end.End.{End}
use Rattle.svc_core_laws.specs.Program.{Memory, Program, Run, Want, Local, Load, Store, Narrow, Emit, Action, Words, act, exposed_words, no_reads, no_words, over, part, with_read, wrote}
use Rattle.svc_core_laws.specs.Words.{program, wants}
use Rattle.svc_core_laws.proofs.Ends.{is_program}
use Rattle.svc_machine_laws.proofs.Parts.{part_stays}
use Rattle.svc_depend_laws.specs.Chain.{Times, word_read}
use Rattle.svc_depend_laws.specs.Needs.{comes_from}
use Rattle.svc_depend_laws.specs.Pairs.{is_from}
use Rattle.svc_depend.specs.declared.links.Link.{Link}
use Rattle.svc_depend.specs.declared.tracker.Tracker.{Tracker}
use Rattle.svc_depend.specs.declared.word.Word.{Word}
use Rattle.svc_depend.specs.Links.{AreLinks, is_link, link_to, links_read, origin_of}
use Rattle.svc_depend.specs.Tracking.{IsTracked, IsWord, place_of}
use Rattle.svc_depend.specs.Walks.{IsWalked}
use Rattle.svc_depend.specs.Words.{untouched}
use Rattle.svc_depend.proofs.Followed.{read_here, read_if, read_there}
use Rattle.svc_depend.proofs.OneWord.{one_if, touched_is}

-- ---- what a read is linked to

-- nothing where the task has exposed the word, or written it
origin_later : {C : Type 0} (p : Program C) (task word : ℕ) (e w : Bool) (time : ℕ) (x : Word) → IsWord p task word e w time x → (e || w) ≡ true → origin_of task x ≡ None
origin_later p task word e w time x h later = ap (λ b. cond (b || (x.writer == 0)) None (Some (x.writer - 1))) (touched_is p task word e w time x h ∙ later)

origin_by : (c : Option ℕ) → cond (place_of c == 0) None (Some (place_of c - 1)) ≡ c
origin_by None = refl
origin_by (Some from) =
    let z : (from + 1 == 0) ≡ false = ne_eqb (from + 1) 0 (λ e. omega (arith, e)) in
    let one : from + 1 - 1 ≡ from = omega arith in
    ap (λ b. cond b None (Some (from + 1 - 1))) z ∙ ap Some one

-- otherwise the task from which it comes
origin_first : {C : Type 0} (p : Program C) (task word : ℕ) (time : ℕ) (x : Word) → IsWord p task word false false time x → origin_of task x ≡ comes_from p task word
origin_first p task word time x h =
    ap (λ b. cond (b || (x.writer == 0)) None (Some (x.writer - 1))) (touched_is p task word false false time x h)
    ∙ ap (λ n. cond (n == 0) None (Some (n - 1))) h.writer ∙ origin_by (comes_from p task word)

-- how often these are such a link
abbrev count_to : (on word : ℕ) → List Link → ℕ
count_to on word links = count_by (is_link on word) links

and_false : (b : Bool) → (b && false) ≡ false
and_false true = refl
and_false false = refl

-- none to another word
elsewhere : (on a word : ℕ) (c : Option ℕ) → (a ≡ word → ⊥) → count_to on a (link_to word c) ≡ 0
elsewhere on a word None ne = refl
elsewhere on a word (Some from) ne = zero-add (one_if ((from == on) && (word == a))) ∙ ap (λ b. one_if ((from == on) && b)) (ne_eqb word a (λ e. ne (sym e))) ∙ ap one_if (and_false (from == on))

-- one to the word, where it comes from that task
there : (on word : ℕ) (c : Option ℕ) → count_to on word (link_to word c) ≡ one_if (is_from on c)
there on word None = refl
there on word (Some from) = zero-add (one_if ((from == on) && (word == word))) ∙ ap (λ b. one_if ((from == on) && b)) (eq-eqb word word refl) ∙ ap one_if (and_true (from == on))
  where
    and_true : (b : Bool) → (b && true) ≡ b
    and_true true = refl
    and_true false = refl

-- what a read adds for its word
added_there : {C : Type 0} (p : Program C) (task word on : ℕ) (e : Bool) (o : Option ℕ) (time : ℕ) (x : Word) → IsWord p task word e (is_some o) time x
    → one_if ((e || is_none o) && is_from on (comes_from p task word)) ≡ one_if (e && is_from on (comes_from p task word)) + count_to on word (link_to word (origin_of task x))
added_there p task word on true o time x h =
    let none : count_to on word (link_to word (origin_of task x)) ≡ 0 = ap (λ c. count_to on word (link_to word c)) (origin_later p task word true (is_some o) time x h refl) in
    omega (arith, none)
added_there p task word on false (Some v) time x h =
    let none : count_to on word (link_to word (origin_of task x)) ≡ 0 = ap (λ c. count_to on word (link_to word c)) (origin_later p task word false true time x h refl) in
    omega (arith, none)
added_there p task word on false None time x h =
    let one : count_to on word (link_to word (origin_of task x)) ≡ one_if (is_from on (comes_from p task word)) =
    ap (λ c. count_to on word (link_to word c)) (origin_first p task word time x h) ∙ there on word (comes_from p task word) in
    omega (arith, one)

-- after a read the links are those of what is exposed then
read_links : {C : Type 0} (p : Program C) (exposes : ℕ → Bool) (writes : Words) (times : Times) (time word : ℕ) (s : Tracker) (links : List Link) → word < length s.words.items
    → IsTracked p exposes writes times time s → AreLinks p s.task exposes links → AreLinks p s.task (with_read word writes exposes) (links ++ links_read s (Some word))
read_links p exposes writes times time word s links inside h are on a =
    let x : Word = get_or s.words.items word untouched in
    let new : List Link = link_to word (origin_of s.task x) in
    let sum : count_to on a (links ++ new) ≡ count_to on a links + count_to on a new = sum_by-append (λ l. one_if (is_link on a l)) links new in
    let before : count_to on a links ≡ one_if (exposes a && is_from on (comes_from p s.task a)) = are on a in
    elim (cases_eq a word) [
      | inl same ↦
          let here : one_if (with_read word writes exposes word && is_from on (comes_from p s.task word)) ≡ one_if (exposes word && is_from on (comes_from p s.task word)) + count_to on word new =
          ap (λ b. one_if (b && is_from on (comes_from p s.task word))) (read_here word writes exposes) ∙ added_there p s.task word on (exposes word) (writes word) (times word) x (h.words word inside) in
          let at : one_if (with_read word writes exposes a && is_from on (comes_from p s.task a)) ≡ one_if (exposes a && is_from on (comes_from p s.task a)) + count_to on a new =
          subst (λ (b : ℕ). one_if (with_read word writes exposes b && is_from on (comes_from p s.task b)) ≡ one_if (exposes b && is_from on (comes_from p s.task b)) + count_to on b new) (sym same) here in
          omega (arith, sum, before, at)
      | inr ne ↦
          let none : count_to on a new ≡ 0 = elsewhere on a word (origin_of s.task x) ne in
          let at : one_if (with_read word writes exposes a && is_from on (comes_from p s.task a)) ≡ one_if (exposes a && is_from on (comes_from p s.task a)) =
          ap (λ b. one_if (b && is_from on (comes_from p s.task a))) (read_there word writes exposes a ne) in
          omega (arith, sum, before, at, none)
    ]

read_links_if : {C : Type 0} (p : Program C) (exposes : ℕ → Bool) (writes : Words) (times : Times) (time : ℕ) (o : Option ℕ) (s : Tracker) (links : List Link) → IfSome o (λ w. w < length s.words.items)
    → IsTracked p exposes writes times time s → AreLinks p s.task exposes links → AreLinks p s.task (read_if o writes exposes) (links ++ links_read s o)
read_links_if p exposes writes times time None s links inside h are = λ on a. sum_by-append (λ l. one_if (is_link on a l)) links [] ∙ (let n = are on a in omega (arith, n))
read_links_if p exposes writes times time (Some word) s links inside h are = read_links p exposes writes times time word s links inside h are

-- ---- a task that is followed

-- the links of a task's first n turns
abbrev pub AreLinked : (img : Image) (entry n : ℕ) (before : List ℕ) (begun : Tracker) → List Link → Type 0
AreLinked img entry n before begun links =
    (times : Times) → IsTracked (program img) no_reads no_words times 0 begun
    → AreLinks (program img) begun.task (exposed_words (part (program img) entry n (slice_index before)).log) links

pub none_linked : (img : Image) (entry : ℕ) (before : List ℕ) (begun : Tracker) (links : List Link) → links ≡ [] → AreLinked img entry 0 before begun links
none_linked img entry before begun links none = λ times h on word. ap (count_to on word) none

-- what is exposed after a turn
turn_exposes : {C D : Type 0} (p : Program D) (task : ℕ) (w : Want C) (m : Memory) (log : List Action) (links : List Link) → AreLinks p task (read_if (word_read w) (wrote log) (exposed_words log)) links
    → AreLinks p task (exposed_words (act w m log).log) links
turn_exposes p task (Local c) m log links h = h
turn_exposes p task (Load a value go) m log links h = h
turn_exposes p task (Store a v c) m log links h = h
turn_exposes p task (Narrow a f c) m log links h = h
turn_exposes p task (Emit v c) m log links h = h

-- one turn more
pub more_linked : (img : Image) (entry n : ℕ) (before : List ℕ) (begun : Tracker) (core : State) (memory : List ℕ) (s : Tracker) (reads : Option ℕ) (links then : List Link)
    → IsWalked img entry n before begun core memory s → reads ≡ word_read (wants img core) → IfSome reads (λ w. w < length s.words.items) → then ≡ links ++ links_read s reads
    → AreLinked img entry n before begun links → AreLinked img entry (n + 1) before begun then
more_linked img entry n before begun core memory s reads links then h is_read inside is_then are times first =
    let p : Program State = program img in
    let base : Memory = slice_index before in
    let r : Run State = part p entry n base in
    let wanted : reads ≡ word_read (p.want r.core) = is_read ∙ ap (λ (x : State). word_read (p.want x)) h.core_is in
    let same : s.task ≡ begun.task = h.task in
    let old : AreLinks p s.task (exposed_words r.log) links = subst (λ (k : ℕ). AreLinks p k (exposed_words r.log) links) (sym same) (are times first) in
    let read : AreLinks p s.task (read_if reads (wrote r.log) (exposed_words r.log)) (links ++ links_read s reads) =
    read_links_if p (exposed_words r.log) (wrote r.log) _ _ reads s links inside (h.tracked times first) old in
    let turned : AreLinks p s.task (exposed_words (part p entry (suc n) base).log) then =
    turn_exposes p s.task (p.want r.core) (over (wrote r.log) base) r.log then
    (subst (λ (o : Option ℕ). AreLinks p s.task (read_if o (wrote r.log) (exposed_words r.log)) then) wanted
    (subst (AreLinks p s.task (read_if reads (wrote r.log) (exposed_words r.log))) (sym is_then) read)) in
    subst (λ (j : ℕ). AreLinks p begun.task (exposed_words (part p entry j base).log) then) (sym (add-one n))
    (subst (λ (k : ℕ). AreLinks p k (exposed_words (part p entry (suc n) base).log) then) same turned)

-- the links of a task that has ended are those of the whole task
pub whole_linked : (img : Image) (entry n : ℕ) (before : List ℕ) (begun : Tracker) (core : State) (memory : List ℕ) (t : Tracker) (links : List Link) (end : End)
    → n ≤ suc (limit_of img entry) → core.done ≡ Some end → IsWalked img entry n before begun core memory t → AreLinked img entry n before begun links
    → AreLinked img entry (suc (limit_of img entry)) before begun links
whole_linked img entry n before begun core memory t links end few done h are =
    let p : Program State = program img in
    let base : Memory = slice_index before in
    let k : ℕ = suc (limit_of img entry) - n in
    let back : k + n ≡ suc (limit_of img entry) = omega (arith, few) in
    let ended : p.done (part p entry n base).core ≡ Some end = sym (ap (λ (x : State). x.done) h.core_is) ∙ done in
    let same : part p entry n base ≡ part p entry (suc (limit_of img entry)) base = sym (part_stays p (is_program img) entry n k base end ended) ∙ ap (λ (j : ℕ). part p entry j base) back in
    λ times first. subst (λ (r : Run State). AreLinks p begun.task (exposed_words r.log) links) same (are times first)
