-- A line is read back from its text.
use Rattle.std.proofs.Common.{◌≡◌, ℕ, ◌^◌, ◌<◌, Bool, true, false, not, ◌&&◌, ◌==◌, List, [], ◌∷◌, ◌++◌, length, Some, None, refl, sym, ap, ◌∙◌, arith, decimal, codes}
use Rattle.std.proofs.lemmas.Bool.{and_parts, not-true}
use Rattle.std.proofs.lemmas.List.{append_assoc}
use Rattle.svc_rv32i.specs.declared.instr.Register.{Register}
use Rattle.svc_image.specs.declared.version.Version.{Version}
use Rattle.svc_image.specs.declared.version.Version.TheVariants as version
use Rattle.svc_image.specs.Version.{version_number}
use Rattle.svc_layout.specs.declared.section.Section.TheVariants as section
use Rattle.svc_layout.specs.declared.section.Width.TheVariants as wide
use Rattle.svc_layout.specs.declared.statement.Next.{Next}
use Rattle.svc_layout.specs.declared.statement.Next.TheVariants as go
use Rattle.svc_layout.specs.declared.statement.Statement.{Statement}
use Rattle.svc_layout.specs.declared.statement.Statement.TheVariants as say
use Rattle.svc_tokens.specs.Characters.{is_name, past, past_name, behind}
use Rattle.svc_layout.specs.Layouts.{Layout}
use Rattle.svc_instructions.specs.Couples.{instruction_at}
use Rattle.svc_expressions.specs.Operators.{operator_at}
use Rattle.svc_tokens.specs.Names.{letters_of}
use Rattle.svc_asm_lines.specs.Statements.{said_by, numbered_at, said_at, entry_before, directive_at, statement_at, ended_at, line_at}
use Rattle.svc_asm_lines.specs.declared.directives.Number.TheVariants as number
use Rattle.svc_asm_lines.specs.declared.directives.Says.TheVariants as says
use Rattle.svc_asm_lines.specs.DataLines.{first_at, part_at, next_at}
use Rattle.svc_list.specs.Listings.{first_text, statement_text, HasText, Line, Says, Labels, Codes, Starts, line_of}
use Rattle.svc_list.proofs.NamesBack.{all_dense, stops, Ends, at_name, at_rest, no_colon}
use Rattle.svc_list.proofs.NumbersBack.{spaced_name, decimal_some}
use Rattle.svc_list.proofs.ExpressionsBack.{count_back}
use Rattle.svc_list.proofs.OperandsBack.{spaced_value_back, first_back}

-- a name that no dot begins
abbrev pub names : List ℕ → Bool
names [] = false
names (c ∷ w) = all_dense (c ∷ w) && not (c == 46)

names_dense : (c : ℕ) (w : List ℕ) → names (c ∷ w) ≡ true → all_dense (c ∷ w) ≡ true
names_dense c w h = (and_parts (all_dense (c ∷ w)) (not (c == 46)) h).0

pub by_name : (d : Layout) (name rest : List ℕ) → names name ≡ true → stops rest ≡ true → statement_at d (name ++ rest) ≡ instruction_at d name rest
unfolding statement_at
by_name d [] rest h s = absurd (cc)
by_name d (c ∷ w) rest h s =
    let dense = names_dense c w h in
    let dot : (c == 46) ≡ false = not-true (c == 46) (and_parts (all_dense (c ∷ w)) (not (c == 46)) h).1 in
    rw (at_name c w rest dense s, at_rest c w rest dense s, dot) refl

-- the parts of a text, one after another
pub three : (a b c rest : List ℕ) → (a ++ (b ++ c)) ++ rest ≡ a ++ (b ++ (c ++ rest))
three a b c rest = append_assoc a (b ++ c) rest ∙ ap (λ x. a ++ x) (append_assoc b c rest)

-- a directive whose name is followed by this
pub by_directive : (d : Layout) (w rest : List ℕ) → all_dense (46 ∷ w) ≡ true → stops rest ≡ true → statement_at d ((46 ∷ w) ++ rest) ≡ directive_at d (46 ∷ w) rest
unfolding statement_at
by_directive d w rest h s = rw (at_name 46 w rest h s, at_rest 46 w rest h s) refl

word_back : (d : Layout) (n : ℕ) (rest tail : List ℕ) → n < 2 ^ 32 → Ends rest tail → said_at d says.Word (32 ∷ (decimal n ++ rest)) ≡ Some (say.Value wide.Word n go.Line, rest)
unfolding said_at
word_back d n rest tail h e = rw (spaced_value_back d n rest tail h e) refl

start_back : (d : Layout) (n : ℕ) (rest tail : List ℕ) → n < 2 ^ 32 → Ends rest tail → said_at d says.Start (32 ∷ (decimal n ++ rest)) ≡ Some (say.Start n, rest)
unfolding said_at
start_back d n rest tail h e = rw (spaced_value_back d n rest tail h e) refl

limit_back : (n : ℕ) (rest : List ℕ) → n < 2 ^ 32 → stops rest ≡ true → operator_at rest ≡ None → numbered_at number.Limit (32 ∷ (decimal n ++ rest)) ≡ Some (say.Limit n, rest)
unfolding numbered_at
limit_back n rest h s q = rw (count_back (2 ^ 32) n rest h h s q) refl

version_back : (v : Version) (rest : List ℕ) → stops rest ≡ true → operator_at rest ≡ None → numbered_at number.Version (32 ∷ (decimal (version_number v) ++ rest)) ≡ Some (say.Version v, rest)
unfolding numbered_at
version_back version.One rest s q = rw (count_back (2 ^ 32) 1 rest (omega arith) (omega arith) s q) refl
version_back version.Two rest s q = rw (count_back (2 ^ 32) 2 rest (omega arith) (omega arith) s q) refl

own_back : (n : ℕ) (rest : List ℕ) → n < 2 ^ 32 → stops rest ≡ true → operator_at rest ≡ None → numbered_at number.Own (32 ∷ (decimal n ++ rest)) ≡ Some (say.Entry (Some n), rest)
unfolding numbered_at
own_back n rest h s q = rw (count_back (2 ^ 32) n rest h h s q) refl

entry_limited : (name text : List ℕ) → 0 < length name → entry_before name text ≡ numbered_at number.Own text
entry_limited [] text some = absurd (omega (arith, some))
entry_limited (c ∷ name) text some = refl

entry_back : (d : Layout) (n : ℕ) (rest : List ℕ) → n < 2 ^ 32 → stops rest ≡ true → operator_at rest ≡ None → said_at d says.Entry (32 ∷ (decimal n ++ rest)) ≡ Some (say.Entry (Some n), rest)
unfolding said_at
entry_back d n rest h s q =
    ap (λ (name : List ℕ). entry_before name (32 ∷ (decimal n ++ rest))) (spaced_name n rest h s)
    ∙ entry_limited (decimal n) (32 ∷ (decimal n ++ rest)) (decimal_some n h)
    ∙ own_back n rest h s q

bare_entry_back : (d : Layout) (rest tail : List ℕ) → Ends rest tail → said_at d says.Entry rest ≡ Some (say.Entry None, rest)
unfolding said_at
bare_entry_back d rest tail e = ap (λ (name : List ℕ). entry_before name rest) e.no_name

setting_back : (d : Layout) (r : Register) (n : ℕ) (rest tail : List ℕ) → n < 2 ^ 32 → Ends rest tail → said_at d says.Register ((first_text r ++ (32 ∷ decimal n)) ++ rest) ≡ Some (say.Register r n, rest)
unfolding said_at
setting_back d r n rest tail h e =
    ap (said_at d says.Register) (append_assoc (first_text r) (32 ∷ decimal n) rest)
    ∙ rw (first_back r (32 ∷ (decimal n ++ rest)), spaced_value_back d n rest tail h e) refl

pub statement_back : (d : Layout) (s : Statement) (rest tail : List ℕ) → HasText s → Ends rest tail → statement_at d (statement_text s ++ rest) ≡ Some (s, rest)
unfolding statement_text is_name directive_at said_by letters_of said_at
statement_back d (say.Value w n next) rest tail h e =
    by_directive d (codes "word") (32 ∷ (decimal n ++ rest)) refl refl ∙ word_back d n rest tail h.2 e
    ∙ (λ i. Some (say.Value (sym h.0 i) n (sym h.1 i), rest))
statement_back d (say.Version v) rest tail h e = by_directive d (codes "svc_version") (32 ∷ (decimal (version_number v) ++ rest)) refl refl ∙ version_back v rest e.stop e.no_sign
statement_back d say.ReadOnly rest tail h e = by_directive d (codes "svc_readonly") rest refl e.stop
statement_back d (say.Entry None) rest tail h e = by_directive d (codes "svc_entry") rest refl e.stop ∙ bare_entry_back d rest tail e
statement_back d (say.Entry (Some n)) rest tail h e = by_directive d (codes "svc_entry") (32 ∷ (decimal n ++ rest)) refl refl ∙ entry_back d n rest h e.stop e.no_sign
statement_back d (say.Start n) rest tail h e = by_directive d (codes "svc_start") (32 ∷ (decimal n ++ rest)) refl refl ∙ start_back d n rest tail h e
statement_back d (say.Limit n) rest tail h e = by_directive d (codes "svc_limit") (32 ∷ (decimal n ++ rest)) refl refl ∙ limit_back n rest h e.stop e.no_sign
statement_back d (say.Register r n) rest tail h e = by_directive d (codes "svc_register") ((first_text r ++ (32 ∷ decimal n)) ++ rest) refl refl ∙ setting_back d r n rest tail h e
statement_back d (say.Section section.Text) rest tail h e = by_directive d (codes "text") rest refl e.stop
statement_back d (say.Section section.Rodata) rest tail h e = by_directive d (codes "rodata") rest refl e.stop
statement_back d (say.Section section.Data) rest tail h e = by_directive d (codes "data") rest refl e.stop
statement_back d (say.Section section.Bss) rest tail h e = by_directive d (codes "bss") rest refl e.stop
statement_back d _ rest tail h e = absurd h

-- a line that begins with no label
pub unlabelled : (d : Layout) (text : List ℕ) → behind 58 (past_name text) ≡ None → line_at d text ≡ ended_at d text
unfolding line_at
unlabelled d text h = rw h refl

-- the name of a line is followed by no colon
dense_stops : (c : ℕ) (w operands rest : List ℕ) → all_dense (c ∷ w) ≡ true → stops (operands ++ rest) ≡ true → behind 58 (past_name (((c ∷ w) ++ operands) ++ rest)) ≡ None
dense_stops c w operands rest dense s =
    ap (λ x. behind 58 (past_name x)) (append_assoc (c ∷ w) operands rest)
    ∙ ap (behind 58) (at_rest c w (operands ++ rest) dense s) ∙ no_colon (operands ++ rest) s

pub names_stop : (name operands rest : List ℕ) → names name ≡ true → stops (operands ++ rest) ≡ true → behind 58 (past_name ((name ++ operands) ++ rest)) ≡ None
names_stop [] operands rest h s = absurd (cc)
names_stop (c ∷ w) operands rest h s = dense_stops c w operands rest (names_dense c w h) s

pub directive_stops : (w rest : List ℕ) → all_dense (46 ∷ w) ≡ true → stops rest ≡ true → behind 58 (past_name ((46 ∷ w) ++ rest)) ≡ None
directive_stops w rest h s = ap (behind 58) (at_rest 46 w rest h s) ∙ no_colon rest s

statement_stops : (s : Statement) (rest : List ℕ) → HasText s → stops rest ≡ true → behind 58 (past_name (statement_text s ++ rest)) ≡ None
unfolding statement_text is_name past
statement_stops (say.Value w n next) rest h k = directive_stops (codes "word") (32 ∷ (decimal n ++ rest)) refl refl
statement_stops (say.Version v) rest h k = directive_stops (codes "svc_version") (32 ∷ (decimal (version_number v) ++ rest)) refl refl
statement_stops say.ReadOnly rest h k = directive_stops (codes "svc_readonly") rest refl k
statement_stops (say.Entry None) rest h k = directive_stops (codes "svc_entry") rest refl k
statement_stops (say.Entry (Some n)) rest h k = directive_stops (codes "svc_entry") (32 ∷ (decimal n ++ rest)) refl refl
statement_stops (say.Start n) rest h k = directive_stops (codes "svc_start") (32 ∷ (decimal n ++ rest)) refl refl
statement_stops (say.Limit n) rest h k = directive_stops (codes "svc_limit") (32 ∷ (decimal n ++ rest)) refl refl
statement_stops (say.Register r n) rest h k = directive_stops (codes "svc_register") ((first_text r ++ (32 ∷ decimal n)) ++ rest) refl refl
statement_stops (say.Section section.Text) rest h k = directive_stops (codes "text") rest refl k
statement_stops (say.Section section.Rodata) rest h k = directive_stops (codes "rodata") rest refl k
statement_stops (say.Section section.Data) rest h k = directive_stops (codes "data") rest refl k
statement_stops (say.Section section.Bss) rest h k = directive_stops (codes "bss") rest refl k
statement_stops _ rest h k = absurd h

-- a line whose comment ends it
abbrev pub Trails : List ℕ → Type 0
Trails note = (tail : List ℕ) → Ends (note ++ (10 ∷ tail)) tail

abbrev pub IsRead : Line → Type 0
IsRead (Says s note) = HasText s × Trails note
IsRead (Labels a) = ⊥
IsRead (Codes w to note) = ⊥
IsRead (Starts a) = ⊥

-- a line is read as what it says
pub line_back : (d : Layout) (s : Statement) (note tail : List ℕ) → HasText s → Trails note → line_at d (line_of (Says s note) ++ tail) ≡ Some (s, tail)
unfolding ended_at
line_back d s note tail h trails =
    let rest = note ++ (10 ∷ tail) in
    let ends = trails tail in
    ap (line_at d) (three (statement_text s) note (10 ∷ []) tail)
    ∙ unlabelled d (statement_text s ++ rest) (statement_stops s rest h ends.stop)
    ∙ rw (statement_back d s rest tail h ends, ends.over) refl

-- where a line is read next, the next part is that line
first_found : (d : Layout) (text : List ℕ) (read : Statement × List ℕ) → line_at d text ≡ Some read → first_at d text ≡ Some read
first_found d text read h = rw h refl

pub next_back : (d : Layout) (text : List ℕ) (read : Statement × List ℕ) → d.next ≡ go.Line → line_at d text ≡ Some read → next_at d text ≡ Some read
unfolding next_at
next_back d text read line h = ap (λ (n : Next). part_at n d text) line ∙ first_found d text read h

-- a statement is read with the end of its line
pub ended_back : (d : Layout) (s : Statement) (text rest tail : List ℕ) → Ends rest tail → statement_at d text ≡ Some (s, rest) → ended_at d text ≡ Some (s, tail)
unfolding ended_at
ended_back d s text rest tail e h = rw (h, e.over) refl
