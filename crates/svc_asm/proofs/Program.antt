-- A text has one layout, which its lines make.
use Rattle.std.proofs.Common.{◌≡◌, ℕ, zero, suc, ◌-◌, ◌<◌, ◌==◌, Bool, true, false, inl, inr, refl, List, [], ◌∷◌, length, Option, Some, None, ap, sym, ◌∙◌, subst, arith}
use Rattle.std.proofs.lemmas.Bool.{eqb-true}
use Rattle.svc_image.specs.Image.{Image}
use Rattle.svc_layout.specs.declared.statement.Statement.{Statement}
use Rattle.svc_layout.specs.Layouts.{Layout}
use Rattle.svc_layout.specs.Passes.{first_pass, once_more, next_round, last_round, measuring_pass}
use Rattle.svc_layout.specs.Passes.{laying_pass, lacks}
use Rattle.svc_layout.specs.Texts.{with_source}
use Rattle.svc_layout.specs.Lines.{after}
use Rattle.svc_layout.specs.Images.{IsMadeOf}
use Rattle.svc_tokens.specs.Characters.{name_at}
use Rattle.svc_asm_lines.specs.DataLines.{next_at}
use Rattle.svc_asm.specs.declared.rounds.TheConstants.{MOST_PASSES, MOST_ROUNDS}
use Rattle.svc_asm.specs.Labels.{Gives}
use Rattle.svc_asm.specs.Passes.{Takes, Makes}
use Rattle.svc_asm.specs.Programs.{IsPass, Lacks, Finds, Begins, IsRound, Settles, IsLaid, IsProgramOf}

-- what is read and laid is one
same_read : (d : Layout) (text : List ℕ) (s t : Statement) (rest tail : List ℕ) → next_at d text ≡ Some (s, rest) → next_at d text ≡ Some (t, tail) → (s ≡ t) × (rest ≡ tail)
same_read d text s t rest tail h k =
    let both : Some (s, rest) ≡ Some (t, tail) = sym h ∙ k in
    let said : Option (Statement × List ℕ) → Statement = λ o. elim o [ None ↦ s | Some x ↦ x.0 ] in
    let left : Option (Statement × List ℕ) → List ℕ = λ o. elim o [ None ↦ rest | Some x ↦ x.1 ] in
    (ap said both, ap left both)

pub same_laid : (d e : Layout) → Some d ≡ Some e → d ≡ e
same_laid d e h = ap (λ (o : Option Layout). elim o [ None ↦ d | Some x ↦ x ]) h

pub advance : (todo : List Statement) (rest tail : List ℕ) (d next made : Layout) (s : Statement) → Takes rest d s tail next → Makes todo rest d made → (ts : List Statement) × Makes ts tail next made
advance [] rest tail d next made s takes h = absurd (omega (arith, takes.shorter, ap length h.0))
advance (t ∷ ts) rest tail d next made s takes h =
    let same = same_read d rest t s h.0 tail h.2.read takes.read in
    let laid : h.1 ≡ next = same_laid h.1 next (sym h.2.laid ∙ ap (λ (x : Statement). after (name_at rest) x d) same.0 ∙ takes.laid) in
    let to_tail : Makes ts tail h.1 made = subst (λ (r : List ℕ). Makes ts r h.1 made) same.1 h.3 in
    (ts, subst (λ (n : Layout). Makes ts tail n made) laid to_tail)

pub refuted : (todo : List Statement) (rest : List ℕ) (d made : Layout) → 0 < length rest → ((s : Statement) (tail : List ℕ) (next : Layout) → Takes rest d s tail next → ⊥) → Makes todo rest d made → ⊥
refuted [] rest d made some none h = absurd (omega (arith, some, ap length h.0))
refuted (s ∷ ss) rest d made some none h = none s h.0 h.1 h.2

-- what is left where a text is empty, and where it isn't
pub empty_is : (xs : List ℕ) → (length xs == 0) ≡ true → xs ≡ []
empty_is [] h = refl
empty_is (x ∷ xs) h = absurd (omega (arith, eqb-true (length (x ∷ xs)) 0 h))

pub some_left : (xs : List ℕ) → (length xs == 0) ≡ false → 0 < length xs
some_left [] h = absurd (cc)
some_left (x ∷ xs) h = omega arith

-- a text makes one layout
pub one_made : (ss ts : List Statement) (text : List ℕ) (d made other : Layout) → Makes ss text d made → Makes ts text d other → made ≡ other
one_made [] [] text d made other h k = sym h.1 ∙ k.1
one_made [] (t ∷ ts) text d made other h k = absurd (omega (arith, k.2.shorter, ap length h.0))
one_made (s ∷ ss) [] text d made other h k = absurd (omega (arith, h.2.shorter, ap length k.0))
one_made (s ∷ ss) (t ∷ ts) text d made other h k =
    let same = same_read d text s t h.0 k.0 h.2.read k.2.read in
    let laid : h.1 ≡ k.1 = same_laid h.1 k.1 (sym h.2.laid ∙ ap (λ (x : Statement). after (name_at text) x d) same.0 ∙ k.2.laid) in
    let moved : Makes ss k.0 h.1 made = subst (λ (r : List ℕ). Makes ss r h.1 made) same.1 h.3 in
    one_made ss ts k.0 k.1 made other (subst (λ (n : Layout). Makes ss k.0 n made) laid moved) k.3

-- labels are beside what lines make
pub makes_of : (ss : List Statement) (text : List ℕ) (d made : Layout) (labels : List (List ℕ × ℕ)) → Gives ss text d made labels → Makes ss text d made
makes_of [] text d made labels h = (h.0, h.1)
makes_of (s ∷ ss) text d made labels h = (h.0, h.1, h.3, makes_of ss h.0 h.1 made h.2 h.5)

-- a pass from one beginning ends in one way
pub one_pass : (text : List ℕ) (begun a b : Layout) → IsPass text begun a → IsPass text begun b → a ≡ b
one_pass text begun a b h k = h.3 ∙ ap (λ (d : Layout). with_source d) (one_made h.0 k.0 text begun h.1 k.1 h.2 k.2) ∙ sym k.3

not_both : (a b : Bool) → a ≡ b → a ≡ true → b ≡ false → ⊥
not_both a b same one other = let wrong : true ≡ false = sym one ∙ same ∙ other in cc

-- the names that a text needs are found in one way
lacks_not : (text : List ℕ) (begun a b : Layout) → Lacks text begun a → IsPass text begun b → lacks b ≡ false → ⊥
lacks_not text begun a b h k whole = not_both (lacks a) (lacks b) (ap (λ (x : Layout). lacks x) (one_pass text begun a b h.is k)) h.lacks whole

pub one_found : (n : ℕ) (text : List ℕ) (begun a b : Layout) → Finds n text begun a → Finds n text begun b → a ≡ b
one_found zero text begun a b h k = one_pass text begun a b h k
one_found (suc n) text begun a b (inl h) (inl k) = one_pass text begun a b h.0 k.0
one_found (suc n) text begun a b (inl h) (inr k) = absurd (lacks_not text begun k.0 a k.1 h.0 h.1)
one_found (suc n) text begun a b (inr h) (inl k) = absurd (lacks_not text begun h.0 b h.1 k.0 k.1)
one_found (suc n) text begun a b (inr h) (inr k) =
    let same : h.0 ≡ k.0 = one_pass text begun h.0 k.0 h.1.is k.1.is in
    one_found n text (once_more k.0) a b (subst (λ (d : Layout). Finds n text (once_more d) a) same h.2) k.2

-- the pass that lays a text begins in one way
pub one_begun : (has : Bool) (text : List ℕ) (first a b : Layout) → Begins has text first a → Begins has text first b → a ≡ b
one_begun false text first a b h k = h ∙ sym k
one_begun true text first a b h k =
    h.2 ∙ ap (λ (d : Layout). laying_pass d) (one_pass text (measuring_pass first) h.0 k.0 h.1 k.1) ∙ sym k.2

one_begun_at : (text : List ℕ) (first other a b : Layout) → first ≡ other → Begins first.has_distances text first a → Begins other.has_distances text other b → a ≡ b
one_begun_at text first other a b same h k = one_begun other.has_distances text other a b (subst (λ (d : Layout). Begins d.has_distances text d a) same h) k

-- where there are distances, they are measured first
pub measured_first : (has : Bool) (text : List ℕ) (first measured laid : Layout) → has ≡ true → IsPass text (measuring_pass first) measured → laid ≡ laying_pass measured → Begins has text first laid
measured_first false text first measured laid is pass same = cc
measured_first true text first measured laid is pass same = (measured, pass, same)

-- where distances aren't measured, no pass begins that lays the text
pub not_measured : (has : Bool) (text : List ℕ) (first made : Layout) → has ≡ true → ((d : Layout) → IsPass text (measuring_pass first) d → ⊥) → Begins has text first made → ⊥
not_measured false text first made is none h = cc
not_measured true text first made is none h = none h.0 h.1

-- a round from one beginning ends in one way
pub one_round : (text : List ℕ) (begun a b : Layout) (ls ms : List (List ℕ × ℕ)) → IsRound text begun a ls → IsRound text begun b ms → a ≡ b
one_round text begun a b ls ms h k =
    let first : h.first ≡ k.first = one_found MOST_PASSES text begun h.first k.first h.finds k.finds in
    let laid : h.laid ≡ k.laid = one_begun_at text h.first k.first h.laid k.laid first h.begins k.begins in
    let makes = makes_of h.lines text h.laid a ls h.gives in
    one_made h.lines k.lines text k.laid a b (subst (λ (d : Layout). Makes h.lines text d a) laid makes) (makes_of k.lines text k.laid b ms k.gives)

not_settled : (d e : Layout) → d ≡ e → d.grew ≡ true → e.grew ≡ false → ⊥
not_settled d e same grows settled = not_both d.grew e.grew (ap (λ (x : Layout). x.grew) same) grows settled

pub one_settled : (n : ℕ) (text : List ℕ) (begun a b : Layout) (ls ms : List (List ℕ × ℕ)) → Settles n text begun a ls → Settles n text begun b ms → a ≡ b
one_settled zero text begun a b ls ms h k = one_round text last_round a b ls ms h k
one_settled (suc n) text begun a b ls ms (inl h) (inl k) = one_round text begun a b ls ms h.0 k.0
one_settled (suc n) text begun a b ls ms (inl h) (inr k) = absurd (not_settled k.0 a (one_round text begun k.0 a k.1.labels ls k.1.is h.0) k.1.grew h.1)
one_settled (suc n) text begun a b ls ms (inr h) (inl k) = absurd (not_settled h.0 b (one_round text begun h.0 b h.1.labels ms h.1.is k.0) h.1.grew k.1)
one_settled (suc n) text begun a b ls ms (inr h) (inr k) =
    let same : h.0 ≡ k.0 = one_round text begun h.0 k.0 h.1.labels k.1.labels h.1.is k.1.is in
    one_settled n text (next_round k.0) a b ls ms (subst (λ (d : Layout). Settles n text (next_round d) a ls) same h.2) k.2

-- a text has one layout
pub one_laid : (text : List ℕ) (a b : Layout) → IsLaid text a → IsLaid text b → a ≡ b
one_laid text a b h k = one_settled MOST_ROUNDS text first_pass a b h.labels k.labels h.settles k.settles

-- the passes that go through are a round
pub round_by : (text : List ℕ) (ts : List Statement) (a first laid d : Layout) (labels : List (List ℕ × ℕ))
    → Finds MOST_PASSES text a first → Begins first.has_distances text first laid → Gives ts text laid d labels → IsRound text a d labels
round_by text ts a first laid d labels finds begins gives = record { first = first; finds = finds; laid = laid; begins = begins; lines = ts; gives = gives }

-- names that aren't found, a pass that doesn't begin, and one that doesn't go through
pub not_found : (text : List ℕ) (a made : Layout) (labels : List (List ℕ × ℕ)) → ((first : Layout) → Finds MOST_PASSES text a first → ⊥) → IsRound text a made labels → ⊥
not_found text a made labels none is = none is.first is.finds

pub not_begun : (text : List ℕ) (a first made : Layout) (labels : List (List ℕ × ℕ)) → Finds MOST_PASSES text a first
    → ((laid : Layout) → Begins first.has_distances text first laid → ⊥) → IsRound text a made labels → ⊥
not_begun text a first made labels finds none is =
    let same : is.first ≡ first = one_found MOST_PASSES text a is.first first is.finds finds in
    none is.laid (subst (λ (d : Layout). Begins d.has_distances text d is.laid) same is.begins)

pub not_laid : (text : List ℕ) (a first laid made : Layout) (labels : List (List ℕ × ℕ)) → Finds MOST_PASSES text a first → Begins first.has_distances text first laid
    → ((ts : List Statement) (made : Layout) (given : List (List ℕ × ℕ)) → Gives ts text laid made given → ⊥) → IsRound text a made labels → ⊥
not_laid text a first laid made labels finds begins none is =
    let same : is.first ≡ first = one_found MOST_PASSES text a is.first first is.finds finds in
    let laid_same : is.laid ≡ laid = one_begun_at text is.first first is.laid laid same is.begins begins in
    none is.lines made labels (subst (λ (x : Layout). Gives is.lines text x made labels) laid_same is.gives)

one_less : (n : ℕ) → suc n - 1 ≡ n
one_less n = omega arith

-- the first of some passes finds the names, and where it lacks some, those behind it have to
pub first_finds : (n : ℕ) (text : List ℕ) (begun made : Layout) → IsPass text begun made → (n ≡ 0 → ⊥) → lacks made ≡ false → Finds n text begun made
first_finds zero text begun made is some whole = is
first_finds (suc n) text begun made is some whole = inl (is, whole)

pub next_finds : (n : ℕ) (text : List ℕ) (begun pass made : Layout) → (n ≡ 0 → ⊥) → IsPass text begun pass → lacks pass ≡ true → Finds (n - 1) text (once_more pass) made → Finds n text begun made
next_finds zero text begun pass made some is lacks h = absurd (some refl)
next_finds (suc n) text begun pass made some is lacks h = inr (pass, record { is = is; lacks = lacks }, subst (λ (k : ℕ). Finds k text (once_more pass) made) (one_less n) h)

-- where the first doesn't go through, none do
pub no_pass : (n : ℕ) (text : List ℕ) (begun made : Layout) → ((d : Layout) → IsPass text begun d → ⊥) → Finds n text begun made → ⊥
no_pass zero text begun made none h = none made h
no_pass (suc n) text begun made none (inl h) = none made h.0
no_pass (suc n) text begun made none (inr h) = none h.0 h.1.is

pub none_finds : (n : ℕ) (text : List ℕ) (begun pass made : Layout) → (n ≡ 0 → ⊥) → IsPass text begun pass → lacks pass ≡ true
    → ((d : Layout) → Finds (n - 1) text (once_more pass) d → ⊥) → Finds n text begun made → ⊥
none_finds zero text begun pass made some is lacks none h = absurd (some refl)
none_finds (suc n) text begun pass made some is lacks none (inl h) = lacks_not text begun pass made (record { is = is; lacks = lacks }) h.0 h.1
none_finds (suc n) text begun pass made some is lacks none (inr h) =
    let same : h.0 ≡ pass = one_pass text begun h.0 pass h.1.is is in
    let rest : Finds n text (once_more pass) made = subst (λ (d : Layout). Finds n text (once_more d) made) same h.2 in
    none made (subst (λ (k : ℕ). Finds k text (once_more pass) made) (sym (one_less n)) rest)

-- the first of some rounds settles a text, and where it grows, those behind it have to
pub first_settles : (n : ℕ) (text : List ℕ) (begun made : Layout) (labels : List (List ℕ × ℕ)) → (n ≡ 0 → ⊥) → IsRound text begun made labels → made.grew ≡ false → Settles n text begun made labels
first_settles zero text begun made labels some is settled = absurd (some refl)
first_settles (suc n) text begun made labels some is settled = inl (is, settled)

pub next_settle : (n : ℕ) (text : List ℕ) (begun round made : Layout) (found labels : List (List ℕ × ℕ)) → (n ≡ 0 → ⊥) → IsRound text begun round found → round.grew ≡ true
    → Settles (n - 1) text (next_round round) made labels → Settles n text begun made labels
next_settle zero text begun round made found labels some is grew h = absurd (some refl)
next_settle (suc n) text begun round made found labels some is grew h =
    inr (round, record { labels = found; is = is; grew = grew }, subst (λ (k : ℕ). Settles k text (next_round round) made labels) (one_less n) h)

-- where the first doesn't go through, none do
pub no_round : (n : ℕ) (text : List ℕ) (begun made : Layout) (labels : List (List ℕ × ℕ)) → (n ≡ 0 → ⊥) → ((d : Layout) (ls : List (List ℕ × ℕ)) → IsRound text begun d ls → ⊥) → Settles n text begun made labels → ⊥
no_round zero text begun made labels some none h = absurd (some refl)
no_round (suc n) text begun made labels some none (inl h) = none made labels h.0
no_round (suc n) text begun made labels some none (inr h) = none h.0 h.1.labels h.1.is

pub none_settles : (n : ℕ) (text : List ℕ) (begun round made : Layout) (found labels : List (List ℕ × ℕ)) → (n ≡ 0 → ⊥) → IsRound text begun round found → round.grew ≡ true
    → ((d : Layout) (ls : List (List ℕ × ℕ)) → Settles (n - 1) text (next_round round) d ls → ⊥) → Settles n text begun made labels → ⊥
none_settles zero text begun round made found labels some is grew none h = absurd (some refl)
none_settles (suc n) text begun round made found labels some is grew none (inl h) = not_settled round made (one_round text begun round made found labels is h.0) grew h.1
none_settles (suc n) text begun round made found labels some is grew none (inr h) =
    let same : h.0 ≡ round = one_round text begun h.0 round h.1.labels found h.1.is is in
    let rest : Settles n text (next_round round) made labels = subst (λ (d : Layout). Settles n text (next_round d) made labels) same h.2 in
    none made labels (subst (λ (k : ℕ). Settles k text (next_round round) made labels) (sym (one_less n)) rest)

-- the layout of a text makes the images that it is a program of
pub program_made : (text : List ℕ) (d : Layout) (img : Image) → IsLaid text d → IsProgramOf text img → IsMadeOf d img
program_made text d img laid program = subst (λ (x : Layout). IsMadeOf x img) (one_laid text program.layout d program.laid laid) program.image
