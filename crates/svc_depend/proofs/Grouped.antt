-- What is told of a task, group by group of its links in order.
use Rattle.std.proofs.Common.{ℕ, zero, suc, ◌≡◌, ◌==◌, ◌+◌, ◌-◌, ◌<◌, ◌≤◌, ◌++◌, ◌∷◌, ◌⊎◌, inl, inr, cond, min, List, [], map, length, get_or, take, drop, refl, sym, ap, ap₂, ◌∙◌, subst, arith, append_assoc, append-nil, length-take, length-drop, get_or-take, get_or-drop, drop-drop, take-append-drop}
use Rattle.std.specs.List.{All, AllByRecursion, AllWithin, between, filter}
use Rattle.std.specs.List.Sorted.{IsNonDecreasingBy}
use Rattle.std.proofs.lemmas.Bool.{cases_eq, cases_lt, eq-eqb, ne_eqb, lt-ltb}
use Rattle.std.proofs.lemmas.List.{length-map, map-append}
use Rattle.std.proofs.lemmas.List.Elements.{filter-append, recursion_from_All}
use Rattle.svc_depend.specs.declared.links.Link.{Link}
use Rattle.svc_depend.specs.declared.pairs.PairForm.{PairForm}
use Rattle.svc_depend.specs.Links.{links_text, words_on}
use Rattle.svc_depend.specs.Pairs.{pair_text, pair_told}
use Rattle.svc_depend.specs.Tables.{text_over}

-- a text that begins later, and its first piece
text_none : (f : ℕ → List ℕ) (n : ℕ) → ((i : ℕ) → i < n → f i ≡ []) → text_over f n ≡ []
text_none f zero none = refl
text_none f (suc n) none = ap₂ (λ x y. x ++ y) (text_none f n (λ i below. none i (omega (arith, below)))) (none n (omega arith))

text_split : (f g : ℕ → List ℕ) (m n : ℕ) → m < n → ((i : ℕ) → i < m → f i ≡ []) → ((i : ℕ) → i ≤ m → g i ≡ []) → ((i : ℕ) → m < i → f i ≡ g i) → text_over f n ≡ f m ++ text_over g n
text_split f g m zero below first rest same = absurd (omega (arith, below))
text_split f g m (suc n) below first rest same = by (λ less. text_split f g m n less first rest same) (cases_eq m n)
  where
    by : (m < n → text_over f n ≡ f m ++ text_over g n) → (m ≡ n) ⊎ (m ≡ n → ⊥) → text_over f (suc n) ≡ f m ++ text_over g (suc n)
    by more (inl e) =
        let before : text_over f n ≡ [] = text_none f n (λ i less. first i (omega (arith, less, e))) in
        let after : text_over g (suc n) ≡ [] = text_none g (suc n) (λ i less. rest i (omega (arith, less, e))) in
        ap (λ (x : List ℕ). x ++ f n) before ∙ ap f (sym e) ∙ sym (append-nil (f m)) ∙ ap (λ (x : List ℕ). f m ++ x) (sym after)
    by more (inr ne) =
        let other : m ≡ n → ⊥ = ne in
        let less : m < n = omega (arith, below, other) in
        ap₂ (λ (x y : List ℕ). x ++ y) (more less) (same n less) ∙ append_assoc (f m) (text_over g n) (g n)

-- ---- links to one task, and then links to later ones

words_append : (on : ℕ) (xs ys : List Link) → words_on (xs ++ ys) on ≡ words_on xs on ++ words_on ys on
words_append on xs ys =
    ap (map (λ (l : Link). l.word)) (filter-append (λ (l : Link). l.on == on) xs ys)
    ∙ map-append (λ (l : Link). l.word) (filter (λ l. l.on == on) xs) (filter (λ l. l.on == on) ys)

words_none : (on : ℕ) (xs : List Link) → AllByRecursion (λ (l : Link). l.on ≡ on → ⊥) xs → words_on xs on ≡ []
words_none on [] all = refl
words_none on (x ∷ xs) all =
    ap (λ t. map (λ (l : Link). l.word) (cond t (x ∷ filter (λ l. l.on == on) xs) (filter (λ l. l.on == on) xs))) (ne_eqb x.on on all.0)
    ∙ words_none on xs all.1

words_all : (on : ℕ) (xs : List Link) → AllByRecursion (λ (l : Link). l.on ≡ on) xs → words_on xs on ≡ map (λ (l : Link). l.word) xs
words_all on [] all = refl
words_all on (x ∷ xs) all =
    ap (λ t. map (λ (l : Link). l.word) (cond t (x ∷ filter (λ l. l.on == on) xs) (filter (λ l. l.on == on) xs))) (eq-eqb x.on on all.0)
    ∙ ap (λ (l : List ℕ). x.word ∷ l) (words_all on xs all.1)

apart : (on other : ℕ) (xs : List Link) → (other ≡ on → ⊥) → AllByRecursion (λ (l : Link). l.on ≡ other) xs → AllByRecursion (λ (l : Link). l.on ≡ on → ⊥) xs
apart on other [] ne all = tt
apart on other (x ∷ xs) ne all = (λ e. ne (sym all.0 ∙ e), apart on other xs ne all.1)

beyond : (on other : ℕ) (xs : List Link) → on ≤ other → AllByRecursion (λ (l : Link). other < l.on) xs → AllByRecursion (λ (l : Link). l.on ≡ on → ⊥) xs
beyond on other [] le all = tt
beyond on other (x ∷ xs) le all = (λ e. (let more = all.0 in omega (arith, more, e, le)), beyond on other xs le all.1)

module _ (form : PairForm) (task on : ℕ) (group rest : List Link) (early : on < task) (same : AllByRecursion (λ (l : Link). l.on ≡ on) group) (later : AllByRecursion (λ (l : Link). on < l.on) rest) where
  told : List Link → ℕ → List ℕ
  told links i = pair_told form task i (words_on links i)

  words_here : words_on (group ++ rest) on ≡ map (λ (l : Link). l.word) group
  words_here =
      words_append on group rest ∙ ap₂ (λ (x y : List ℕ). x ++ y) (words_all on group same) (words_none on rest (beyond on on rest (omega arith) later))
      ∙ append-nil (map (λ (l : Link). l.word) group)

  words_there : (i : ℕ) → (on ≡ i → ⊥) → words_on (group ++ rest) i ≡ words_on rest i
  words_there i ne = words_append i group rest ∙ ap (λ (x : List ℕ). x ++ words_on rest i) (words_none i group (apart i on group ne same))

  words_early : (i : ℕ) → i ≤ on → words_on rest i ≡ []
  words_early i le = words_none i rest (beyond i on rest le later)

  -- what is told of all links is what is told of the first group, and then of the rest
  pub told_split : links_text form task (group ++ rest) ≡ pair_told form task on (map (λ (l : Link). l.word) group) ++ links_text form task rest
  told_split =
      text_split (λ i. pair_told form task i (words_on (group ++ rest) i)) (λ i. pair_told form task i (words_on rest i)) on task early
      (λ i less. ap (pair_told form task i) (words_there i (λ e. omega (arith, e, less)) ∙ words_early i (omega (arith, less))))
      (λ i le. ap (pair_told form task i) (words_early i le))
      (λ i more. ap (pair_told form task i) (words_there i (λ e. omega (arith, e, more))))
      ∙ ap (λ ws. pair_told form task on ws ++ links_text form task rest) words_here

pub told_none : (form : PairForm) (task : ℕ) → links_text form task [] ≡ []
told_none form task = text_none (λ i. pair_told form task i (words_on [] i)) task (λ i below. refl)

-- of some words something is told
pub told_some : (form : PairForm) (task on : ℕ) (words : List ℕ) → 0 < length words → pair_told form task on words ≡ pair_text form task on words
told_some form task on words some = ap (λ t. cond t (pair_text form task on words) []) (lt-ltb 0 (length words) some)

-- ---- the group of links at a place, and those after it

module _ (links : List Link) (at end on : ℕ) (there : (d : Link) → (get_or links at d).on ≡ on) (inside : at < length links) (from : at ≤ end) (rest : AllWithin (λ l. on < l.on) links end (length links)) where
  -- the group isn't empty
  pub goes_on : (d : Link) → at < end
  goes_on d = by (cases_lt at end)
    where
      by : (at < end) ⊎ (end ≤ at) → at < end
      by (inl less) = less
      by (inr le) = let more = rest at d le inside in let same = there d in absurd (omega (arith, more, same))

  module _ (form : PairForm) (task : ℕ) (order : IsNonDecreasingBy (λ l. l.on) links) (before : All (λ l. l.on < task) links) (last : end ≤ length links) (group : AllWithin (λ l. l.on ≤ on) links at end) (d : Link) where
    cut : between at end links ++ drop end links ≡ drop at links
    cut =
        let k : ℕ = end - at in
        let over : at + k ≡ end = omega (arith, from) in
        ap (λ (l : List Link). take k (drop at links) ++ l) (sym (drop-drop k at links ∙ ap (λ (i : ℕ). drop i links) over)) ∙ take-append-drop k (drop at links)

    in_group : AllByRecursion (λ (l : Link). l.on ≡ on) (between at end links)
    in_group = recursion_from_All (λ (l : Link). l.on ≡ on) (between at end links) (λ i e below.
        (let size : length (between at end links) ≡ min (end - at) (length (drop at links)) = length-take (end - at) (drop at links) in
        let short : i < end - at = omega (arith, below, size) in
        let place : get_or (between at end links) i e ≡ get_or links (at + i) e = get_or-take (end - at) (drop at links) i e short ∙ get_or-drop at links i e in
        let most : (get_or links (at + i) e).on ≤ on = group (at + i) e (omega arith) (omega (arith, short)) in
        let least : (get_or links at e).on ≤ (get_or links (at + i) e).on = order at (at + i) e (omega arith) (omega (arith, short, last)) in
        let first : (get_or links at e).on ≡ on = there e in
        subst (λ (l : Link). l.on ≡ on) (sym place) (omega (arith, most, least, first))))

    in_rest : AllByRecursion (λ (l : Link). on < l.on) (drop end links)
    in_rest = recursion_from_All (λ (l : Link). on < l.on) (drop end links) (λ i e below.
        (let size : length (drop end links) ≡ length links - end = length-drop end links in
        subst (λ (l : Link). on < l.on) (sym (get_or-drop end links i e)) (rest (end + i) e (omega arith) (omega (arith, below, size)))))

    -- what is told from the place on is what is told of the group, and then what is told after it
    pub told_more : links_text form task (drop at links) ≡ pair_text form task on (map (λ (l : Link). l.word) (between at end links)) ++ links_text form task (drop end links)
    told_more =
        let early : on < task = (let first = there d in let less = before at d inside in omega (arith, first, less)) in
        let some : 0 < length (map (λ (l : Link). l.word) (between at end links)) =
        (let size : length (between at end links) ≡ min (end - at) (length (drop at links)) = length-take (end - at) (drop at links) in
        let left : length (drop at links) ≡ length links - at = length-drop at links in
        let mapped : length (map (λ (l : Link). l.word) (between at end links)) ≡ length (between at end links) = length-map (between at end links) (λ (l : Link). l.word) in
        let more = goes_on d in
        omega (arith, size, left, mapped, more, inside)) in
        ap (links_text form task) (sym cut)
        ∙ told_split form task on (between at end links) (drop end links) early in_group in_rest
        ∙ ap (λ (x : List ℕ). x ++ links_text form task (drop end links)) (told_some form task on (map (λ (l : Link). l.word) (between at end links)) some)

-- text and what is still to be told, where a piece was added
pub added_told : (text piece then left right whole : List ℕ) → text ++ left ≡ whole → then ≡ text ++ piece → left ≡ piece ++ right → then ++ right ≡ whole
added_told text piece then left right whole told grown split = ap (λ x. x ++ right) grown ∙ append_assoc text piece right ∙ ap (λ x. text ++ x) (sym split) ∙ told
