-- Texts that lead from one layout to another, one behind the other.
use Rattle.std.proofs.Common.{◌≡◌, ℕ, ◌<◌, List, [], ◌∷◌, ◌++◌, length, Option, Some, None, refl, sym, ◌∙◌, subst, arith}
use Rattle.std.specs.List.{AllByRecursion}
use Rattle.std.proofs.lemmas.List.{length-append, append-nil, append_assoc}
use Rattle.svc_layout.specs.declared.statement.Next.TheVariants as go
use Rattle.svc_layout.specs.declared.statement.Statement.{Statement}
use Rattle.svc_layout.specs.declared.statement.Statement.TheVariants as say
use Rattle.svc_layout.specs.Options.{◌>>=◌}
use Rattle.svc_layout.specs.Layouts.{Layout}
use Rattle.svc_layout.specs.Lines.{after}
use Rattle.svc_tokens.specs.Characters.{name_at}
use Rattle.svc_asm_lines.specs.DataLines.{next_at}
use Rattle.svc_asm.specs.Labels.{label_in, Gives}
use Rattle.svc_asm.specs.Passes.{Makes}
use Rattle.svc_asm.proofs.Program.{same_laid}
use Rattle.svc_list.specs.Listings.{HasText, statement_text, Line, Says, Labels, Codes, Starts, line_of, text_of}
use Rattle.svc_list.proofs.LinesBack.{Trails, IsRead, line_back, next_back}
use Rattle.svc_list.proofs.Keeping.{line_keeps, kept}
use Rattle.svc_list.proofs.LayoutsBack.{after_all}

-- what makes a layout from here on makes it behind this text too
abbrev pub Leads : List ℕ → Layout → Layout → Type 0
Leads text d e = (tail : List ℕ) (made : Layout) (ss : List Statement) → Makes ss tail e made → (ts : List Statement) × Makes ts (text ++ tail) d made

longer : (text tail : List ℕ) → 0 < length text → length tail < length (text ++ tail)
longer text tail some = omega (arith, length-append text tail, some)

pub one_leads : (text : List ℕ) (s : Statement) (d e : Layout) → 0 < length text → ((tail : List ℕ) → next_at d (text ++ tail) ≡ Some (s, tail)) → ((tail : List ℕ) → after (name_at (text ++ tail)) s d ≡ Some e) → Leads text d e
one_leads text s d e some read laid = λ tail made ss m. (s ∷ ss, (tail, e, record { read = read tail; shorter = longer text tail some; laid = laid tail }, m))

pub leads_none : (d : Layout) → Leads [] d d
leads_none d = λ tail made ss m. (ss, m)

pub leads_both : (a b : List ℕ) (d e f : Layout) → Leads a d e → Leads b e f → Leads (a ++ b) d f
leads_both a b d e f h k = λ tail made ss m.
    let behind = k tail made ss m in
    let whole = h (b ++ tail) made behind.0 behind.1 in
    (whole.0, subst (λ (text : List ℕ). Makes whole.0 text d made) (sym (append_assoc a b tail)) whole.1)

pub leads_at : (text : List ℕ) (d e f : Layout) → e ≡ f → Leads text d e → Leads text d f
leads_at text d e f same h = subst (λ (x : Layout). Leads text d x) same h

-- a whole text
pub leads_whole : (text : List ℕ) (d e : Layout) → Leads text d e → (ss : List Statement) × Makes ss text d e
leads_whole text d e h = let all = h [] e [] (refl, refl) in (all.0, subst (λ (x : List ℕ). Makes all.0 x d e) (append-nil text) all.1)

-- what lines make, they make with the labels that they give
pub given_by : (ss : List Statement) (text : List ℕ) (d made : Layout) → Makes ss text d made → (labels : List (List ℕ × ℕ)) × Gives ss text d made labels
given_by [] text d made h = ([], (h.0, h.1, refl))
given_by (s ∷ ss) text d made h =
    let rest = given_by ss h.0 h.1 made h.3 in
    (label_in h.1 (name_at text) s ++ rest.0, (h.0, h.1, rest.0, h.2, refl, rest.1))

line_some : (s : Statement) (note : List ℕ) → 0 < length (line_of (Says s note))
line_some s note = omega (arith, length-append (statement_text s) (note ++ (10 ∷ [])), length-append note (10 ∷ []))

next_of : (ls : List Line) (d made : Layout) (o : Option Layout) → (o >>= after_all ls) ≡ Some made → (next : Layout) × (o ≡ Some next) × (after_all ls next ≡ Some made)
next_of ls d made None h = absurd (cc)
next_of ls d made (Some next) h = (next, refl, h)

-- no line with a text is a label
no_label : (name : List ℕ) (s : Statement) (d : Layout) → HasText s → after name s d ≡ after [] s d
no_label name say.Label d h = absurd h
no_label name (say.Symbol s) d h = absurd h
no_label name (say.Common n step) d h = absurd h
no_label name (say.LocalCommon n step) d h = absurd h
no_label name (say.Bound l next) d h = absurd h
no_label name _ d h = refl

pub line_leads : (s : Statement) (note : List ℕ) (d e : Layout) → d.next ≡ go.Line → HasText s → Trails note → after [] s d ≡ Some e → Leads (line_of (Says s note)) d e
line_leads s note d e line h trails laid =
    one_leads (line_of (Says s note)) s d e (line_some s note) (λ tail. next_back d (line_of (Says s note) ++ tail) (s, tail) line (line_back d s note tail h trails))
    (λ tail. no_label (name_at (line_of (Says s note) ++ tail)) s d h ∙ laid)

pub lines_lead : (ls : List Line) (d e : Layout) → d.next ≡ go.Line → AllByRecursion IsRead ls → after_all ls d ≡ Some e → Leads (text_of ls) d e
unfolding text_of
lines_lead [] d e line h k = leads_at [] d d e (same_laid d e k) (leads_none d)
lines_lead (Says s note ∷ ls) d e line h k =
    let step = next_of ls d e (after [] s d) k in
    let same = kept go.Line (after [] s d) step.0 (line_keeps s d h.0.0 line) step.1 in
    leads_both (line_of (Says s note)) (text_of ls) d step.0 e (line_leads s note d step.0 line h.0.0 h.0.1 step.1) (lines_lead ls step.0 e same h.1 step.2)
lines_lead (Labels a ∷ ls) d e line h k = absurd h.0
lines_lead (Codes w to note ∷ ls) d e line h k = absurd h.0
lines_lead (Starts a ∷ ls) d e line h k = absurd h.0
