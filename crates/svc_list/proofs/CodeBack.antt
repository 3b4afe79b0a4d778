-- The lines of the text make its words, its entries and its labels, in both passes.
use Rattle.std.proofs.Common.{◌≡◌, ℕ, suc, ◌+◌, ◌*◌, ◌/◌, ◌%◌, ◌^◌, ◌<◌, ◌≤◌, ◌⊎◌, inl, inr, Bool, true, false, ◌==◌, ◌&&◌, nat_lt, List, [], ◌∷◌, ◌++◌, length, Option, Some, None, refl, ap, sym, ◌∙◌, subst, arith, if◌then◌else◌}
use Rattle.std.specs.List.{AllByRecursion}
use Rattle.std.specs.Str.{bytes_eq}
use Rattle.std.specs.Map.{update}
use Rattle.std.proofs.lemmas.Map.{update_same, update_other}
use Rattle.std.proofs.lemmas.Bool.{eq-eqb, ne_eqb, eqb-true, leb-true, and_parts, cases_eq}
use Rattle.std.proofs.lemmas.List.{length-append, append-nil, append_assoc}
use Rattle.svc_layout.specs.declared.section.Section.TheVariants as section
use Rattle.svc_layout.specs.declared.section.Width.TheVariants as wide
use Rattle.svc_layout.specs.declared.statement.Next.TheVariants as go
use Rattle.svc_layout.specs.declared.statement.Statement.TheVariants as say
use Rattle.svc_layout.specs.Options.{◌>>=◌}
use Rattle.svc_layout.specs.Sources.{Names, no_bindings}
use Rattle.svc_layout.specs.Layouts.{Layout}
use Rattle.svc_layout.specs.Places.{place, here, spot_here}
use Rattle.svc_layout.specs.Addresses.{address_of}
use Rattle.svc_layout.specs.Contents.{with_word}
use Rattle.svc_layout.specs.Labels.{with_symbol}
use Rattle.svc_layout.specs.Lines.{going_on, after}
use Rattle.svc_tokens.specs.Characters.{name_at, found}
use Rattle.svc_instructions.specs.declared.table.Part.{Part}
use Rattle.svc_instructions.specs.declared.table.Row.{Row}
use Rattle.svc_instructions.specs.Instructions.{parts_of, row_of}
use Rattle.svc_asm_lines.specs.Statements.{statement_at, line_at}
use Rattle.svc_names.specs.declared.name.Name.{Name}
use Rattle.svc_list.specs.Listings.{HasText, statement_text, label_text, row_text, code_text, word_note, Line, Says, Labels, Codes, bare, line_of, text_of, led_along, word_start, target_by, target_of, line_for, labels, code}
use Rattle.svc_list.proofs.NamesBack.{Ends}
use Rattle.svc_list.proofs.LinesBack.{Trails, three, unlabelled, next_back, ended_back}
use Rattle.svc_list.proofs.NotesBack.{AreNamed, bare_ends, word_ends}
use Rattle.svc_list.proofs.LabelsBack.{label_apart, label_same, colon_name, label_back, empty_back, text_spot, spot_is, label_found, label_again}
use Rattle.svc_list.proofs.RowsBack.{refilled, Near, Reaches, row_back, row_stops, known_same}
use Rattle.svc_list.proofs.LayoutsBack.{AreMarks, next_marks, top_marks, marked, worded, Free, free_later, free_behind, one_entry, one_word, value_in_text, line_goes_on, entries_of, limits_of}
use Rattle.svc_list.proofs.Leading.{Leads, one_leads, leads_none, leads_both, leads_at, line_leads}
use Rattle.svc_list.proofs.Printing.{text_both}

pub two : (b : Bool) → (b ≡ true) ⊎ (b ≡ false)
two true = inl refl
two false = inr refl

-- the word that a pass lays
abbrev pub laid_as : Option Row → Option ℕ → Bool → ℕ → ℕ
laid_as None to known w = w
laid_as (Some r) to known w = refilled known to (parts_of r) w r.1

abbrev pub laid_word : Bool → (count address w : ℕ) → ℕ
laid_word known count address w = laid_as (row_of w) (target_of count address w) known w

abbrev pub words_in : Bool → (count n : ℕ) → List ℕ → List ℕ
words_in known count n [] = []
words_in known count n (w ∷ ws) = laid_word known count (4 * n) w ∷ words_in known count (suc n) ws

-- the names behind a label, and behind the words of the text
abbrev pub named_in : Bool → Names → ℕ → Names
named_in known names a = if known then names else update bytes_eq names (label_text a) (Some (text_spot a))

abbrev pub labelled_in : Bool → (ℕ → Bool) → ℕ → Names → Names
labelled_in known labelled n names = if labelled n then named_in known names (4 * n) else names

abbrev pub names_in : Bool → (ℕ → Bool) → ℕ → List ℕ → Names → Names
names_in known labelled n [] names = names
names_in known labelled n (w ∷ ws) names = names_in known labelled (suc n) ws (labelled_in known labelled n names)

-- in the first pass no label from here on has been found; in the second one all are known
abbrev pub Good : Bool → ℕ → (ℕ → Bool) → ℕ → Names → Type 0
Good true count labelled n names = (k : ℕ) → k < count → labelled k ≡ true → names (label_text (4 * k)) ≡ Some (text_spot (4 * k))
Good false count labelled n names = (k : ℕ) → n ≤ k → k < count → names (label_text (4 * k)) ≡ None

good_next : (known : Bool) (count : ℕ) (labelled : ℕ → Bool) (n : ℕ) (names : Names) → n < count → count ≤ 65536 → Good known count labelled n names → Good known count labelled (suc n) (labelled_in known labelled n names)
good_next true count labelled n names low few good = λ k h holds.
    elim (two (labelled n)) [ inl here ↦ rw here (good k h holds) | inr none ↦ rw none (good k h holds) ]
good_next false count labelled n names low few good = λ k above h.
    elim (two (labelled n)) [
      | inl here ↦
          let other : bytes_eq (label_text (4 * n)) (label_text (4 * k)) ≡ false = label_apart (4 * n) (4 * k) (omega (arith, low, few)) (omega (arith, h, few)) (λ same. omega (arith, above, same)) in
          rw here (update_other bytes_eq names (label_text (4 * n)) (Some (text_spot (4 * n))) (label_text (4 * k)) other ∙ good k (omega (arith, above)) h)
      | inr none ↦ rw none (good k (omega (arith, above)) h)
    ]

-- a layout with these names
abbrev pub naming : Layout → Names → Layout
naming d names = record d { source = record d.source { names = names } }

-- a layout whose next word of the text is the n-th
pub record IsAt (known : Bool) (n : ℕ) (d : Layout) : Type 0 where
  pub text : d.section ≡ section.Text
  pub words : length d.text ≡ n
  pub pass : d.known ≡ known
  pub line : d.next ≡ go.Line
  pub near : Near d
  pub bare : d.source.bindings ≡ no_bindings

-- a label's line
label_part : (a : ℕ) (d e : Layout) → d.next ≡ go.Line → with_symbol (label_text a) (spot_here d) d ≡ Some e → Leads (label_text a ++ (58 ∷ [])) d e
label_part a d e line laid =
    one_leads (label_text a ++ (58 ∷ [])) say.Label d e (omega (arith, length-append (label_text a) (58 ∷ [])))
    (λ tail. next_back d ((label_text a ++ (58 ∷ [])) ++ tail) (say.Label, tail) line (ap (line_at d) (append_assoc (label_text a) (58 ∷ []) tail) ∙ label_back d a tail))
    (λ tail. ap (λ (name : List ℕ). with_symbol name (spot_here d) d) (ap name_at (append_assoc (label_text a) (58 ∷ []) tail) ∙ colon_name a tail) ∙ laid)

empty_part : (e : Layout) → e.next ≡ go.Line → Leads (10 ∷ []) e e
empty_part e line = one_leads (10 ∷ []) say.Nothing e e (omega arith) (λ tail. next_back e (10 ∷ tail) (say.Nothing, tail) line (empty_back e tail)) (λ tail. refl)

label_leads : (a : ℕ) (d e : Layout) → d.next ≡ go.Line → e.next ≡ go.Line → with_symbol (label_text a) (spot_here d) d ≡ Some e → Leads (line_of (Labels a)) d e
label_leads a d e line next laid =
    subst (λ (text : List ℕ). Leads text d e) (append_assoc (label_text a) (58 ∷ []) (10 ∷ []))
    (leads_both (label_text a ++ (58 ∷ [])) (10 ∷ []) d e e (label_part a d e line laid) (empty_part e next))

named_leads : (known : Bool) (a : ℕ) (d : Layout) → d.section ≡ section.Text → 4 * length d.text ≡ a → d.known ≡ known → d.next ≡ go.Line → d.source.bindings ≡ no_bindings
    → ((known ≡ true) × (d.source.names (label_text a) ≡ Some (text_spot a))) ⊎ ((known ≡ false) × (d.source.names (label_text a) ≡ None))
    → Leads (line_of (Labels a)) d (naming d (named_in known d.source.names a))
named_leads known a d text same pass line bare (inl second) =
    rw (second.0) (label_leads a d d line line (label_again d a (pass ∙ second.0) bare second.1 (spot_is d a text same)))
named_leads known a d text same pass line bare (inr first) =
    rw (first.0) (label_leads a d (naming d (update bytes_eq d.source.names (label_text a) (Some (text_spot a)))) line line (label_found d a (pass ∙ first.0) first.1 (spot_is d a text same)))

good_here : (known : Bool) (count : ℕ) (labelled : ℕ → Bool) (n : ℕ) (names : Names) → n < count → labelled n ≡ true → Good known count labelled n names
    → ((known ≡ true) × (names (label_text (4 * n)) ≡ Some (text_spot (4 * n)))) ⊎ ((known ≡ false) × (names (label_text (4 * n)) ≡ None))
good_here true count labelled n names low holds good = inl (refl, good n low holds)
good_here false count labelled n names low holds good = inr (refl, good n (omega arith) low)

pub labels_lead : (known : Bool) (count : ℕ) (labelled : ℕ → Bool) (n : ℕ) (d : Layout) → n < count → IsAt known n d → Good known count labelled n d.source.names → Leads (text_of (labels labelled n)) d (naming d (labelled_in known labelled n d.source.names))
unfolding labels text_of
labels_lead known count labelled n d low at good =
    let four : 4 * length d.text ≡ 4 * n = ap (λ (x : ℕ). 4 * x) at.words in
    elim (two (labelled n)) [
      | inl holds ↦
          let e = naming d (named_in known d.source.names (4 * n)) in
          rw holds (leads_both (line_of (Labels (4 * n))) [] d e e (named_leads known (4 * n) d at.text four at.pass at.line at.bare (good_here known count labelled n d.source.names low holds good)) (leads_none e))
      | inr fails ↦ rw fails (leads_none d)
    ]

-- the line of a word that is of a row
row_read : (d : Layout) (to : Option ℕ) (w read : ℕ) (r : Row) (note tail : List ℕ) → row_of w ≡ Some r → Trails note → statement_at d (row_text to r w ++ (note ++ (10 ∷ tail))) ≡ Some (say.Instruction read, note ++ (10 ∷ tail))
    → line_at d (line_of (Codes w to note) ++ tail) ≡ Some (say.Instruction read, tail)
row_read d to w read r note tail row trails said =
    let rest = note ++ (10 ∷ tail) in
    let text : line_of (Codes w to note) ≡ row_text to r w ++ (note ++ (10 ∷ [])) = rw row refl in
    ap (λ (x : List ℕ). line_at d (x ++ tail)) text
    ∙ ap (line_at d) (three (row_text to r w) note (10 ∷ []) tail)
    ∙ unlabelled d (row_text to r w ++ rest) (row_stops to w r rest row (trails tail).stop)
    ∙ ended_back d (say.Instruction read) (row_text to r w ++ rest) rest tail (trails tail) said

row_leads : (d e : Layout) (to : Option ℕ) (w read : ℕ) (r : Row) (note : List ℕ) → d.next ≡ go.Line → row_of w ≡ Some r → Trails note
    → ((rest tail : List ℕ) → Ends rest tail → statement_at d (row_text to r w ++ rest) ≡ Some (say.Instruction read, rest))
    → after [] (say.Instruction read) d ≡ Some e
    → Leads (line_of (Codes w to note)) d e
row_leads d e to w read r note line row trails said laid =
    one_leads (line_of (Codes w to note)) (say.Instruction read) d e (omega (arith, length-append (code_text to w) (note ++ (10 ∷ [])), length-append note (10 ∷ [])))
    (λ tail. next_back d (line_of (Codes w to note) ++ tail) (say.Instruction read, tail) line (row_read d to w read r note tail row trails (said (note ++ (10 ∷ tail)) tail (trails tail))))
    (λ tail. laid)

-- addresses of the text
pub here_is : (d : Layout) (a : ℕ) → d.section ≡ section.Text → 4 * length d.text ≡ a → a < 2 ^ 32 → here d ≡ a
here_is d a text same low =
    let whole : (0 + a) % 2 ^ 32 ≡ a = omega (arith, low) in
    ap (place d) (spot_is d a text same) ∙ whole

pub known_address : (d : Layout) (t : ℕ) → d.known ≡ true → d.source.bindings ≡ no_bindings → t < 2 ^ 32 → d.source.names (label_text t) ≡ Some (text_spot t) → address_of d (label_text t) ≡ Some t
known_address d t second bare low named =
    let whole : (0 + t) % 2 ^ 32 ≡ t = omega (arith, low) in
    rw (second, bare, named) (ap Some whole)

pub unknown_address : (d : Layout) (t : ℕ) → d.known ≡ false → address_of d (label_text t) ≡ Some (here d)
unknown_address d t first = rw first refl

some_same : (a b : ℕ) → Some a ≡ Some b → a ≡ b
some_same a b e = ap (λ (o : Option ℕ). elim o [ None ↦ a | Some x ↦ x ]) e

pub placed_is : (count : ℕ) (o : Option ℕ) (t : ℕ) → word_start count o ≡ Some t → (o ≡ Some t) × (t % 4 ≡ 0) × (t < 4 * count)
placed_is count None t e = absurd (cc)
placed_is count (Some a) t e =
    elim (two (a % 4 == 0 && nat_lt a (4 * count))) [
      | inl holds ↦
          let same : a ≡ t = some_same a t (rw holds at e) in
          let parts = and_parts (a % 4 == 0) (nat_lt a (4 * count)) holds in
          let low : suc a ≤ 4 * count = leb-true (suc a) (4 * count) parts.1 in
          let word : a % 4 ≡ 0 = eqb-true (a % 4) 0 parts.0 in
          (ap Some same, subst (λ (x : ℕ). x % 4 ≡ 0) same word, subst (λ (x : ℕ). x < 4 * count) same low)
      | inr fails ↦ absurd (let gone : None ≡ Some t = rw fails at e in cc)
    ]

-- where the names of labels are known, or none is
abbrev Aimable : Bool → Layout → ℕ → Type 0
Aimable true d t = (d.known ≡ true) × (address_of d (label_text t) ≡ Some t)
Aimable false d t = (d.known ≡ false) × (address_of d (label_text t) ≡ Some (here d))

-- an instruction's word
instruction_laid : (d : Layout) (w : ℕ) → d.section ≡ section.Text → length d.text < 65536 → after [] (say.Instruction w) d ≡ Some (worded d w)
instruction_laid d w text room =
    let in_text : after [] (say.Instruction w) d ≡ with_word w d = rw text refl in
    in_text ∙ one_word d w room

aimable : (known : Bool) (count : ℕ) (labelled : ℕ → Bool) (n : ℕ) (d : Layout) (t : ℕ) → d.known ≡ known → d.source.bindings ≡ no_bindings → count ≤ 65536 → t % 4 ≡ 0 → t < 4 * count → labelled (t / 4) ≡ true → Good known count labelled n d.source.names → Aimable known d t
aimable true count labelled n d t pass bare few whole low marked good =
    let four : 4 * (t / 4) ≡ t = omega (arith, whole) in
    (pass, known_address d t pass bare (omega (arith, low, few)) (subst (λ (x : ℕ). d.source.names (label_text x) ≡ Some (text_spot x)) four (good (t / 4) (omega (arith, low)) marked)))
aimable false count labelled n d t pass bare few whole low marked good = (pass, unknown_address d t pass)

reaches : (known : Bool) (count : ℕ) (d : Layout) (ps : List Part) (w address : ℕ) (to : Option ℕ) → word_start count (led_along address w ps) ≡ to → here d ≡ address → ((t : ℕ) → to ≡ Some t → Aimable known d t) → Reaches known d to ps w
reaches known count d ps w address None leads at aims = tt
reaches true count d ps w address (Some t) leads at aims =
    let aim = aims t refl in
    (aim.0, aim.1, ap (λ (a : ℕ). led_along a w ps) at ∙ (placed_is count (led_along address w ps) t leads).0)
reaches false count d ps w address (Some t) leads at aims = aims t refl

-- the line of a word of the text
coded_row : (given : Option (List Name)) → AreNamed given → (known : Bool) (count : ℕ) (labelled : ℕ → Bool) (n : ℕ) (d : Layout) (w : ℕ) (row : Option Row) (to : Option ℕ) → row_of w ≡ row → found row (λ r. target_by count (4 * n) w r) None ≡ to → w < 2 ^ 32 → n < count → count ≤ 65536
    → IsAt known n d → Good known count labelled (suc n) d.source.names → ((t : ℕ) → to ≡ Some t → labelled (t / 4) ≡ true)
    → Leads (line_of (Codes w to (word_note given (4 * n) w))) d (worded d (laid_as row to known w))
unfolding statement_text
coded_row given are known count labelled n d w None to row leads fit low few at good marked =
    let text : line_of (Codes w to (word_note given (4 * n) w)) ≡ line_of (Says (say.Value wide.Word w go.Line) (word_note given (4 * n) w)) = rw row refl in
    subst (λ (x : List ℕ). Leads x d (worded d w)) (sym text)
    (line_leads (say.Value wide.Word w go.Line) (word_note given (4 * n) w) d (worded d w) at.line (refl, refl, fit) (word_ends given (4 * n) w are)
    (ap (λ (o : Option Layout). o >>= going_on go.Line) (value_in_text d w at.text ∙ one_word d w (omega (arith, at.words, low, few))) ∙ line_goes_on (worded d w) at.line))
coded_row given are known count labelled n d w (Some r) to row leads fit low few at good marked =
    let four : 4 * length d.text ≡ 4 * n = ap (λ (x : ℕ). 4 * x) at.words in
    let place = here_is d (4 * n) at.text four (omega (arith, low, few)) in
    let aims = λ (t : ℕ) (e : to ≡ Some t). let it = placed_is count (led_along (4 * n) w (parts_of r)) t (leads ∙ e) in aimable known count labelled (suc n) d t at.pass at.bare few it.1 it.2 (marked t e) good in
    let reached = reaches known count d (parts_of r) w (4 * n) to leads place aims in
    let read = refilled known to (parts_of r) w r.1 in
    row_leads d (worded d read) to w read r (word_note given (4 * n) w) at.line row (word_ends given (4 * n) w are)
    (λ rest tail ends. row_back known d at.near to w r rest tail row ends reached)
    (instruction_laid d read at.text (omega (arith, at.words, low, few)))

coded_leads : (given : Option (List Name)) → AreNamed given → (known : Bool) (count : ℕ) (labelled : ℕ → Bool) (n : ℕ) (d : Layout) (w : ℕ) → w < 2 ^ 32 → n < count → count ≤ 65536
    → IsAt known n d → Good known count labelled (suc n) d.source.names → ((t : ℕ) → target_of count (4 * n) w ≡ Some t → labelled (t / 4) ≡ true)
    → Leads (line_of (line_for given count (4 * n) w)) d (worded d (laid_word known count (4 * n) w))
coded_leads given are known count labelled n d w fit low few at good marked =
    coded_row given are known count labelled n d w (row_of w) (target_of count (4 * n) w) refl refl fit low few at good marked

-- each target of these words has a label
abbrev pub HaveLabels : ℕ → (ℕ → Bool) → ℕ → List ℕ → Type 0
HaveLabels count labelled n [] = Unit {0}
HaveLabels count labelled n (w ∷ ws) = ((t : ℕ) → target_of count (4 * n) w ≡ Some t → labelled (t / 4) ≡ true) × HaveLabels count labelled (suc n) ws

-- the layout behind the text
abbrev pub with_code : Bool → ℕ → (ℕ → Bool) → ℕ → List (ℕ × Option ℕ) → List ℕ → Layout → Layout
with_code known count labelled n ms ws d =
    record d { entries = d.entries ++ entries_of ms; limits = d.limits ++ limits_of ms; text = d.text ++ words_in known count n ws; source = record d.source { names = names_in known labelled n ws d.source.names } }

next_at_word : (known : Bool) (n : ℕ) (d : Layout) (w : ℕ) → IsAt known n d → IsAt known (suc n) (worded d w)
next_at_word known n d w at = record { text = at.text; words = omega (arith, at.words, length-append d.text (w ∷ [])); pass = at.pass; line = at.line; near = at.near; bare = at.bare }

-- a word, and what stands behind it
word_and_more : (given : Option (List Name)) → AreNamed given → (known : Bool) (count : ℕ) (labelled : ℕ → Bool) (n : ℕ) (d : Layout) (w : ℕ) → n < count → count ≤ 65536 → w < 2 ^ 32 → IsAt known n d
    → Good known count labelled (suc n) d.source.names → ((t : ℕ) → target_of count (4 * n) w ≡ Some t → labelled (t / 4) ≡ true)
    → (rest : List Line) (e : Layout) → Leads (text_of rest) (worded d (laid_word known count (4 * n) w)) e → Leads (line_of (line_for given count (4 * n) w) ++ text_of rest) d e
word_and_more given are known count labelled n d w low few fit at good marked rest e h =
    leads_both (line_of (line_for given count (4 * n) w)) (text_of rest) d (worded d (laid_word known count (4 * n) w)) e
    (coded_leads given are known count labelled n d w fit low few at good marked) h

-- a label, if there is one, and what stands behind it
label_and_more : (known : Bool) (count : ℕ) (labelled : ℕ → Bool) (n : ℕ) (d : Layout) → n < count → IsAt known n d → Good known count labelled n d.source.names
    → (rest : List Line) (e : Layout) → Leads (text_of rest) (naming d (labelled_in known labelled n d.source.names)) e → Leads (text_of (labels labelled n ++ rest)) d e
label_and_more known count labelled n d low at good rest e h =
    subst (λ (text : List ℕ). Leads text d e) (sym (text_both (labels labelled n) rest))
    (leads_both (text_of (labels labelled n)) (text_of rest) d (naming d (labelled_in known labelled n d.source.names)) e (labels_lead known count labelled n d low at good) h)

pub code_leads : (given : Option (List Name)) → AreNamed given → (known : Bool) (count : ℕ) (labelled : ℕ → Bool) → count ≤ 65536 → (ms : List (ℕ × Option ℕ)) (ws : List ℕ) (n : ℕ) (d : Layout) → n + length ws ≡ count → AllByRecursion (λ w. w < 2 ^ 32) ws → AllByRecursion (λ (m : ℕ × Option ℕ). HasText (say.Entry m.1)) ms
    → AreMarks d.version (4 * n) (4 * (n + length ws)) ms → IsAt known n d → length d.entries + length ms ≤ 1024 → Free n d.entries → Good known count labelled n d.source.names → HaveLabels count labelled n ws
    → Leads (text_of (code given count labelled n ms ws)) d (with_code known count labelled n ms ws d)
unfolding text_of code
code_leads given are known count labelled few [] [] n d all fit texts word_start at room free good named =
    rw (append-nil d.entries, append-nil d.limits, append-nil d.text) (leads_none d)
code_leads given are known count labelled few (m ∷ ms) [] n d all fit texts word_start at room free good named = absurd (omega (arith, word_start.0, word_start.2))
code_leads given are known count labelled few [] (w ∷ ws) n d all fit texts word_start at room free good named =
    let low : n < count = omega (arith, all) in
    let e₁ = naming d (labelled_in known labelled n d.source.names) in
    let at₁ : IsAt known n e₁ = record { text = at.text; words = at.words; pass = at.pass; line = at.line; near = at.near; bare = at.bare } in
    let good₁ = good_next known count labelled n d.source.names low few good in
    let v = laid_word known count (4 * n) w in
    let e₂ = worded e₁ v in
    let rest = code given count labelled (suc n) [] ws in
    let end = with_code known count labelled (suc n) [] ws e₂ in
    let more = code_leads given are known count labelled few [] ws (suc n) e₂ (omega (arith, all)) fit.1 tt tt (next_at_word known n e₁ v at₁) room (free_later n d.entries free) good₁ named.1 in
    let behind = word_and_more given are known count labelled n e₁ w low few fit.0 at₁ good₁ named.0 rest end more in
    let whole = label_and_more known count labelled n d low at good (line_for given count (4 * n) w ∷ rest) end behind in
    leads_at (text_of (code given count labelled n [] (w ∷ ws))) d end (with_code known count labelled n [] (w ∷ ws) d)
    (ap (λ (xs : List ℕ). record end { text = xs }) (append_assoc d.text (v ∷ []) (words_in known count (suc n) ws))) whole
code_leads given are known count labelled few (m ∷ ms) (w ∷ ws) n d all fit texts word_start at room free good named =
    let low : n < count = omega (arith, all) in
    let e₁ = naming d (labelled_in known labelled n d.source.names) in
    let at₁ : IsAt known n e₁ = record { text = at.text; words = at.words; pass = at.pass; line = at.line; near = at.near; bare = at.bare } in
    let good₁ = good_next known count labelled n d.source.names low few good in
    let v = laid_word known count (4 * n) w in
    let words = words_in known count (suc n) ws in
    elim (cases_eq m.0 (4 * n)) [
      | inl same ↦
          let here : (m.0 == 4 * n) ≡ true = eq-eqb m.0 (4 * n) same in
          let e₂ = marked e₁ m in
          let at₂ : IsAt known n e₂ = record { text = at.text; words = at.words; pass = at.pass; line = at.line; near = at.near; bare = at.bare } in
          let e₃ = worded e₂ v in
          let rest = code given count labelled (suc n) ms ws in
          let end = with_code known count labelled (suc n) ms ws e₃ in
          let next = top_marks d.version (4 * suc n) n (length ws) ms (next_marks d.version n m.0 (4 * (n + suc (length ws))) ms same word_start.4) in
          let more = code_leads given are known count labelled few ms ws (suc n) e₃ (omega (arith, all)) fit.1 texts.1 next (next_at_word known n e₂ v at₂) (omega (arith, room, length-append d.entries (m.0 ∷ []))) (free_behind n m.0 d.entries same free) good₁ named.1 in
          let behind = word_and_more given are known count labelled n e₂ w low few fit.0 at₂ good₁ named.0 rest end more in
          let entry = line_leads (say.Entry m.1) [] e₁ e₂ at.line texts.0 bare_ends (one_entry e₁ m (omega (arith, at.words, low, few)) (omega (arith, room)) (λ k above. free k (omega (arith, above, at.words))) (omega (arith, same, at.words)) word_start.3) in
          let both = leads_both (line_of (bare (say.Entry m.1))) (line_of (line_for given count (4 * n) w) ++ text_of rest) e₁ e₂ end entry behind in
          let whole = label_and_more known count labelled n d low at good (bare (say.Entry m.1) ∷ line_for given count (4 * n) w ∷ rest) end both in
          rw here (leads_at (text_of (labels labelled n ++ (bare (say.Entry m.1) ∷ line_for given count (4 * n) w ∷ rest))) d end (with_code known count labelled n (m ∷ ms) (w ∷ ws) d)
          (ap (λ (xs : List ℕ). record end { text = xs }) (append_assoc d.text (v ∷ []) words)
          ∙ ap (λ (xs : List ℕ). record end { text = d.text ++ (v ∷ words); entries = xs }) (append_assoc d.entries (m.0 ∷ []) (entries_of ms))
          ∙ ap (λ (xs : List (Option ℕ)). record end { text = d.text ++ (v ∷ words); entries = d.entries ++ (m.0 ∷ entries_of ms); limits = xs }) (append_assoc d.limits (m.1 ∷ []) (limits_of ms))) whole)
      | inr other ↦
          let here : (m.0 == 4 * n) ≡ false = ne_eqb m.0 (4 * n) other in
          let above : 4 * suc n ≤ m.0 = omega (arith, word_start.0, word_start.1, other) in
          let e₂ = worded e₁ v in
          let rest = code given count labelled (suc n) (m ∷ ms) ws in
          let end = with_code known count labelled (suc n) (m ∷ ms) ws e₂ in
          let next = top_marks d.version (4 * suc n) n (length ws) (m ∷ ms) (above, word_start.1, word_start.2, word_start.3, word_start.4) in
          let more = code_leads given are known count labelled few (m ∷ ms) ws (suc n) e₂ (omega (arith, all)) fit.1 texts next (next_at_word known n e₁ v at₁) room (free_later n d.entries free) good₁ named.1 in
          let behind = word_and_more given are known count labelled n e₁ w low few fit.0 at₁ good₁ named.0 rest end more in
          let whole = label_and_more known count labelled n d low at good (line_for given count (4 * n) w ∷ rest) end behind in
          rw here (leads_at (text_of (labels labelled n ++ (line_for given count (4 * n) w ∷ rest))) d end (with_code known count labelled n (m ∷ ms) (w ∷ ws) d)
          (ap (λ (xs : List ℕ). record end { text = xs }) (append_assoc d.text (v ∷ []) words)) whole)
    ]

-- what the passes lay and name
known_word : (row : Option Row) (to : Option ℕ) (w : ℕ) → w < 2 ^ 32 → row_of w ≡ row → laid_as row to true w ≡ w
known_word None to w fit e = refl
known_word (Some r) to w fit e = known_same to w r fit e

pub words_known : (count n : ℕ) (ws : List ℕ) → AllByRecursion (λ w. w < 2 ^ 32) ws → words_in true count n ws ≡ ws
words_known count n [] fits = refl
words_known count n (w ∷ ws) fits = ap (λ (v : ℕ). v ∷ words_in true count (suc n) ws) (known_word (row_of w) (target_of count (4 * n) w) w fits.0 refl) ∙ ap (λ (xs : List ℕ). w ∷ xs) (words_known count (suc n) ws fits.1)

pub words_length : (known : Bool) (count n : ℕ) (ws : List ℕ) → length (words_in known count n ws) ≡ length ws
words_length known count n [] = refl
words_length known count n (w ∷ ws) = ap suc (words_length known count (suc n) ws)

same_names : (b : Bool) (names : Names) → (if b then names else names) ≡ names
same_names true names = refl
same_names false names = refl

pub names_known : (labelled : ℕ → Bool) (n : ℕ) (ws : List ℕ) (names : Names) → names_in true labelled n ws names ≡ names
names_known labelled n [] names = refl
names_known labelled n (w ∷ ws) names = names_known labelled (suc n) ws (labelled_in true labelled n names) ∙ same_names (labelled n) names

-- a name that was found stays
pub stays_named : (labelled : ℕ → Bool) (n : ℕ) (ws : List ℕ) (names : Names) (k : ℕ) → k < n → n + length ws ≤ 65536 → names_in false labelled n ws names (label_text (4 * k)) ≡ names (label_text (4 * k))
stays_named labelled n [] names k below few = refl
stays_named labelled n (w ∷ ws) names k below few =
    stays_named labelled (suc n) ws (labelled_in false labelled n names) k (omega (arith, below)) (omega (arith, few))
    ∙ elim (two (labelled n)) [
      | inl holds ↦ rw holds (update_other bytes_eq names (label_text (4 * n)) (Some (text_spot (4 * n))) (label_text (4 * k)) (label_apart (4 * n) (4 * k) (omega (arith, few)) (omega (arith, below, few)) (λ same. omega (arith, below, same))))
      | inr fails ↦ rw fails refl
    ]

-- the first pass finds each label
pub names_found : (labelled : ℕ → Bool) (n : ℕ) (ws : List ℕ) (names : Names) (k : ℕ) → n ≤ k → k < n + length ws → n + length ws ≤ 65536 → labelled k ≡ true → names_in false labelled n ws names (label_text (4 * k)) ≡ Some (text_spot (4 * k))
names_found labelled n [] names k above below few holds = absurd (omega (arith, above, below))
names_found labelled n (w ∷ ws) names k above below few holds =
    elim (cases_eq n k) [
      | inl same ↦
          let here : labelled n ≡ true = ap labelled same ∙ holds in
          let now : labelled_in false labelled n names (label_text (4 * n)) ≡ Some (text_spot (4 * n)) = rw here (update_same bytes_eq names (label_text (4 * n)) (Some (text_spot (4 * n))) (label_text (4 * n)) (label_same (4 * n))) in
          subst (λ (j : ℕ). names_in false labelled n (w ∷ ws) names (label_text (4 * j)) ≡ Some (text_spot (4 * j))) same
          (stays_named labelled (suc n) ws (labelled_in false labelled n names) n (omega arith) (omega (arith, few)) ∙ now)
      | inr other ↦ names_found labelled (suc n) ws (labelled_in false labelled n names) k (omega (arith, above, other)) (omega (arith, below)) (omega (arith, few)) holds
    ]
