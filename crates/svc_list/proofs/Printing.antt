-- The parts of a listing, one after another.
use Rattle.std.proofs.Common.{Bool, ◌≡◌, ℕ, zero, suc, ◌+◌, ◌*◌, ◌<◌, ◌≤◌, true, false, ◌==◌, List, [], ◌∷◌, ◌++◌, length, take, drop, slice_index, Option, refl, ap, sym, ◌∙◌, arith, add-one, drop-cons, append_assoc}
use Rattle.std.proofs.lemmas.Bool.{eq-eqb, ne_eqb}
use Rattle.std.proofs.lemmas.List.{append-nil}
use Rattle.svc_rv32i.specs.Meaning.{register}
use Rattle.svc_image.specs.declared.version.Version.{Version}
use Rattle.svc_image.specs.declared.version.Version.TheVariants as version
use Rattle.svc_image.specs.Image.{Image}
use Rattle.svc_layout.specs.declared.section.Section.TheVariants as section
use Rattle.svc_layout.specs.declared.statement.Statement.TheVariants as say
use Rattle.svc_names.specs.declared.name.Name.{Name}
use Rattle.svc_list.specs.Listings.{Labels, Line, bare, line_of, text_of, line_for, Starts, labels, is_labelled, datum, setting, settings, own_limit, marks, code, data_lines, all_data, head_lines, lines_of, listing_of}

-- what is put, and what is left to put, is the whole
pub goes_on : (out new line part rest whole : List ℕ) → new ≡ out ++ line → part ≡ line ++ rest → out ++ part ≡ whole → new ++ rest ≡ whole
goes_on out new line part rest whole put step so_far =
    ap (λ (xs : List ℕ). xs ++ rest) put ∙ append_assoc out line rest ∙ ap (λ (xs : List ℕ). out ++ xs) (sym step) ∙ so_far

pub ends : (out part whole : List ℕ) → part ≡ [] → out ++ part ≡ whole → out ≡ whole
ends out part whole none so_far = sym (append-nil out) ∙ ap (λ (xs : List ℕ). out ++ xs) (sym none) ∙ so_far

none_left : (xs : List ℕ) (i : ℕ) → length xs ≤ i → drop i xs ≡ []
none_left [] zero h = refl
none_left [] (suc i) h = refl
none_left (x ∷ xs) zero h = absurd (omega (arith, h))
none_left (x ∷ xs) (suc i) h = none_left xs i (omega (arith, h))

pub data_step : (given : Option (List Name)) (words : List ℕ) (i n : ℕ) → i < length words → text_of (data_lines given n (drop i words)) ≡ line_of (datum given n (slice_index words i)) ++ text_of (data_lines given (n + 4) (drop (i + 1) words))
unfolding text_of
data_step given words i n h = rw (add-one, drop-cons words i 0) refl

pub data_none : (given : Option (List Name)) (words : List ℕ) (i n : ℕ) → length words ≤ i → text_of (data_lines given n (drop i words)) ≡ []
unfolding text_of
data_none given words i n h = rw (none_left words i h) refl

pub text_both : (ss ts : List Line) → text_of (ss ++ ts) ≡ text_of ss ++ text_of ts
unfolding text_of
text_both [] ts = refl
text_both (s ∷ ss) ts = ap (λ (xs : List ℕ). line_of s ++ xs) (text_both ss ts) ∙ sym (append_assoc (line_of s) (text_of ss) (text_of ts))

pub settings_step : (values : List ℕ) (i n : ℕ) → i < length values → text_of (settings n (drop i values)) ≡ text_of (setting n (slice_index values i)) ++ text_of (settings (suc n) (drop (i + 1) values))
settings_step values i n h = rw (add-one, drop-cons values i 0) (text_both (setting n (slice_index values i)) (settings (suc n) (drop (suc i) values)))

pub settings_none : (values : List ℕ) (i n : ℕ) → length values ≤ i → text_of (settings n (drop i values)) ≡ []
unfolding text_of
settings_none values i n h = rw (none_left values i h) refl

-- a word at which an entry stands, and one at which none stands
pub entry_step : (given : Option (List Name)) (count : ℕ) (is : ℕ → Bool) (n : ℕ) (m : ℕ × Option ℕ) (w : ℕ) (ms : List (ℕ × Option ℕ)) (ws : List ℕ) → m.0 ≡ 4 * n
    → text_of (code given count is n (m ∷ ms) (w ∷ ws)) ≡ text_of (labels is n) ++ (line_of (bare (say.Entry m.1)) ++ (line_of (line_for given count (4 * n) w) ++ text_of (code given count is (suc n) ms ws)))
unfolding text_of code
entry_step given count is n m w ms ws same =
    let here : (m.0 == 4 * n) ≡ true = eq-eqb m.0 (4 * n) same in
    rw here (text_both (labels is n) (bare (say.Entry m.1) ∷ line_for given count (4 * n) w ∷ code given count is (suc n) ms ws))

other_step : (given : Option (List Name)) (count : ℕ) (is : ℕ → Bool) (n : ℕ) (m : ℕ × Option ℕ) (w : ℕ) (ms : List (ℕ × Option ℕ)) (ws : List ℕ) → (m.0 ≡ 4 * n → ⊥)
    → text_of (code given count is n (m ∷ ms) (w ∷ ws)) ≡ text_of (labels is n) ++ (line_of (line_for given count (4 * n) w) ++ text_of (code given count is (suc n) (m ∷ ms) ws))
unfolding text_of code
other_step given count is n m w ms ws other =
    let here : (m.0 == 4 * n) ≡ false = ne_eqb m.0 (4 * n) other in
    rw here (text_both (labels is n) (line_for given count (4 * n) w ∷ code given count is (suc n) (m ∷ ms) ws))

last_step : (given : Option (List Name)) (count : ℕ) (is : ℕ → Bool) (n w : ℕ) (ws : List ℕ) → text_of (code given count is n [] (w ∷ ws)) ≡ text_of (labels is n) ++ (line_of (line_for given count (4 * n) w) ++ text_of (code given count is (suc n) [] ws))
unfolding text_of code
last_step given count is n w ws = text_both (labels is n) (line_for given count (4 * n) w ∷ code given count is (suc n) [] ws)

-- no entry stands at the word
pub none_step : (given : Option (List Name)) (count : ℕ) (is : ℕ → Bool) (v : Version) (es ls : List ℕ) (n w : ℕ) (ws : List ℕ) → ((e l : ℕ) (fs ks : List ℕ) → es ≡ e ∷ fs → ls ≡ l ∷ ks → e ≡ 4 * n → ⊥)
    → text_of (code given count is n (marks v es ls) (w ∷ ws)) ≡ text_of (labels is n) ++ (line_of (line_for given count (4 * n) w) ++ text_of (code given count is (suc n) (marks v es ls) ws))
none_step given count is v [] ls n w ws other = last_step given count is n w ws
none_step given count is v (e ∷ es) [] n w ws other = last_step given count is n w ws
none_step given count is v (e ∷ es) (l ∷ ls) n w ws other = other_step given count is n (e, own_limit v l) w (marks v es ls) ws (λ same. other e l es ls refl refl same)

code_over : (given : Option (List Name)) (count : ℕ) (is : ℕ → Bool) (n : ℕ) (ms : List (ℕ × Option ℕ)) → code given count is n ms [] ≡ []
unfolding code
code_over given count is n [] = refl
code_over given count is n (m ∷ ms) = refl

pub code_none : (given : Option (List Name)) (count : ℕ) (is : ℕ → Bool) (ms : List (ℕ × Option ℕ)) (words : List ℕ) (i n : ℕ) → length words ≤ i → text_of (code given count is n ms (drop i words)) ≡ []
unfolding text_of
code_none given count is ms words i n h = rw (none_left words i h, code_over given count is n ms) refl

-- the data's lines where the first ones are read-only
pub fixed_data : (given : Option (List Name)) (n : ℕ) (front back : List ℕ) → text_of (data_lines given 1048576 front ++ (bare say.ReadOnly ∷ data_lines given (1048576 + 4 * n) back)) ≡ text_of (data_lines given 1048576 front) ++ (line_of (bare say.ReadOnly) ++ text_of (data_lines given (1048576 + 4 * n) back))
unfolding text_of
fixed_data given n front back = text_both (data_lines given 1048576 front) (bare say.ReadOnly ∷ data_lines given (1048576 + 4 * n) back)

-- the listing, part by part
pub listing_parts : (given : Option (List Name)) (img : Image) → listing_of given img ≡ text_of (head_lines img.version (slice_index img.limits 0) img.start) ++ (text_of (settings 1 img.registers) ++ (text_of (code given (length img.text) (is_labelled img.entries img.text) 0 (marks img.version img.entries img.limits) img.text) ++ (line_of (bare (say.Section section.Data)) ++ text_of (all_data given img.version img.read_only img.words))))
unfolding listing_of lines_of text_of
listing_parts given img =
    let head = head_lines img.version (slice_index img.limits 0) img.start in
    let words = code given (length img.text) (is_labelled img.entries img.text) 0 (marks img.version img.entries img.limits) img.text in
    let body = bare (say.Section section.Data) ∷ all_data given img.version img.read_only img.words in
    text_both head (settings 1 img.registers ++ (words ++ body))
    ∙ ap (λ (xs : List ℕ). text_of head ++ xs) (text_both (settings 1 img.registers) (words ++ body)
    ∙ ap (λ (xs : List ℕ). text_of (settings 1 img.registers) ++ xs) (text_both words body))

-- what is put in five steps
pub five : (o₁ o₂ o₃ o₄ o₅ l₁ l₂ l₃ l₄ l₅ : List ℕ) → o₁ ≡ l₁ → o₂ ≡ o₁ ++ l₂ → o₃ ≡ o₂ ++ l₃ → o₄ ≡ o₃ ++ l₄ → o₅ ≡ o₄ ++ l₅ → o₅ ≡ l₁ ++ (l₂ ++ (l₃ ++ (l₄ ++ l₅)))
five o₁ o₂ o₃ o₄ o₅ l₁ l₂ l₃ l₄ l₅ e₁ e₂ e₃ e₄ e₅ =
    e₅ ∙ ap (λ (xs : List ℕ). xs ++ l₅) e₄ ∙ append_assoc o₃ l₄ l₅
    ∙ ap (λ (xs : List ℕ). xs ++ (l₄ ++ l₅)) e₃ ∙ append_assoc o₂ l₃ (l₄ ++ l₅)
    ∙ ap (λ (xs : List ℕ). xs ++ (l₃ ++ (l₄ ++ l₅))) e₂ ∙ append_assoc o₁ l₂ (l₃ ++ (l₄ ++ l₅))
    ∙ ap (λ (xs : List ℕ). xs ++ (l₂ ++ (l₃ ++ (l₄ ++ l₅)))) e₁

-- one line or two, put before the rest
pub one_put : (o p l part rest : List ℕ) → p ≡ o ++ l → part ≡ l ++ rest → p ++ rest ≡ o ++ part
one_put o p l part rest e k = ap (λ (xs : List ℕ). xs ++ rest) e ∙ append_assoc o l rest ∙ ap (λ (xs : List ℕ). o ++ xs) (sym k)

pub two_put : (o p q l m part rest : List ℕ) → p ≡ o ++ l → q ≡ p ++ m → part ≡ l ++ (m ++ rest) → q ++ rest ≡ o ++ part
two_put o p q l m part rest e f k = one_put p q m (m ++ rest) rest f refl ∙ one_put o p l part (m ++ rest) e k

-- a register's line, where its value is 0 and where it isn't
pub setting_zero : (o : List ℕ) (n v : ℕ) → v ≡ 0 → o ≡ o ++ text_of (setting n v)
unfolding text_of setting
setting_zero o n v none = let here : (v == 0) ≡ true = eq-eqb v 0 none in rw here (sym (append-nil o))

pub setting_some : (o p : List ℕ) (n v : ℕ) → (v ≡ 0 → ⊥) → p ≡ o ++ line_of (bare (say.Register (register n) v)) → p ≡ o ++ text_of (setting n v)
unfolding text_of setting
setting_some o p n v some put =
    let here : (v == 0) ≡ false = ne_eqb v 0 some in
    rw here (put ∙ ap (λ (xs : List ℕ). o ++ xs) (sym (append-nil (line_of (bare (say.Register (register n) v))))))

-- two and three lines put
two_lines : (o o₁ o₂ a b : List ℕ) → o₁ ≡ o ++ a → o₂ ≡ o₁ ++ b → o₂ ≡ o ++ (a ++ (b ++ []))
two_lines o o₁ o₂ a b e₁ e₂ =
    e₂ ∙ ap (λ (xs : List ℕ). xs ++ b) e₁ ∙ append_assoc o a b ∙ ap (λ (xs : List ℕ). o ++ (a ++ xs)) (sym (append-nil b))

three_lines : (o o₁ o₂ o₃ a b c : List ℕ) → o₁ ≡ o ++ a → o₂ ≡ o₁ ++ b → o₃ ≡ o₂ ++ c → o₃ ≡ o ++ (a ++ (b ++ (c ++ [])))
three_lines o o₁ o₂ o₃ a b c e₁ e₂ e₃ =
    two_lines o₁ o₂ o₃ b c e₂ e₃ ∙ ap (λ (xs : List ℕ). xs ++ (b ++ (c ++ []))) e₁ ∙ append_assoc o a (b ++ (c ++ []))

-- the lines before the registers, in each version
pub head_one : (v : Version) (limit start : ℕ) (o o₁ o₂ o₃ : List ℕ) → v ≡ version.One → o₁ ≡ o ++ line_of (bare (say.Version v)) → o₂ ≡ o₁ ++ line_of (bare (say.Limit limit)) → o₃ ≡ o₂ ++ line_of (Starts start) → o₃ ≡ o ++ text_of (head_lines v limit start)
unfolding text_of
head_one v limit start o o₁ o₂ o₃ one e₁ e₂ e₃ =
    let first : o₁ ≡ o ++ line_of (bare (say.Version version.One)) = e₁ ∙ ap (λ (x : Version). o ++ line_of (bare (say.Version x))) one in
    three_lines o o₁ o₂ o₃ (line_of (bare (say.Version version.One))) (line_of (bare (say.Limit limit))) (line_of (Starts start)) first e₂ e₃
    ∙ ap (λ (x : Version). o ++ text_of (head_lines x limit start)) (sym one)

pub head_two : (v : Version) (limit start : ℕ) (o o₁ o₂ : List ℕ) → v ≡ version.Two → o₁ ≡ o ++ line_of (bare (say.Version v)) → o₂ ≡ o₁ ++ line_of (Starts start) → o₂ ≡ o ++ text_of (head_lines v limit start)
unfolding text_of
head_two v limit start o o₁ o₂ two e₁ e₂ =
    let first : o₁ ≡ o ++ line_of (bare (say.Version version.Two)) = e₁ ∙ ap (λ (x : Version). o ++ line_of (bare (say.Version x))) two in
    two_lines o o₁ o₂ (line_of (bare (say.Version version.Two))) (line_of (Starts start)) first e₂
    ∙ ap (λ (x : Version). o ++ text_of (head_lines x limit start)) (sym two)

-- data of which the first words are read-only
pub split_put : (given : Option (List Name)) (n : ℕ) (words front back o o₁ o₂ o₃ : List ℕ) → front ≡ take n words → back ≡ drop n words → o₁ ≡ o ++ text_of (data_lines given 1048576 front) → o₂ ≡ o₁ ++ line_of (bare say.ReadOnly) → o₃ ≡ o₂ ++ text_of (data_lines given (1048576 + 4 * n) back) → o₃ ≡ o ++ text_of (all_data given version.Two n words)
split_put given n words front back o o₁ o₂ o₃ f b e₁ e₂ e₃ =
    e₃ ∙ ap (λ (xs : List ℕ). xs ++ text_of (data_lines given (1048576 + 4 * n) back)) e₂ ∙ append_assoc o₁ (line_of (bare say.ReadOnly)) (text_of (data_lines given (1048576 + 4 * n) back))
    ∙ ap (λ (xs : List ℕ). xs ++ (line_of (bare say.ReadOnly) ++ text_of (data_lines given (1048576 + 4 * n) back))) e₁
    ∙ append_assoc o (text_of (data_lines given 1048576 front)) (line_of (bare say.ReadOnly) ++ text_of (data_lines given (1048576 + 4 * n) back))
    ∙ ap (λ (xs : List ℕ). o ++ xs) (sym (fixed_data given n front back))
    ∙ ap (λ (xs : List ℕ). o ++ text_of (data_lines given 1048576 xs ++ (bare say.ReadOnly ∷ data_lines given (1048576 + 4 * n) back))) f
    ∙ ap (λ (xs : List ℕ). o ++ text_of (data_lines given 1048576 (take n words) ++ (bare say.ReadOnly ∷ data_lines given (1048576 + 4 * n) xs))) b

-- a word, and the rest of the text
pub code_step : (given : Option (List Name)) (count : ℕ) (is : ℕ → Bool) (ms left : List (ℕ × Option ℕ)) (words out new whole : List ℕ) (i : ℕ) → i < length words
    → ((rest : List ℕ) → new ++ text_of (code given count is (suc i) left rest) ≡ out ++ text_of (code given count is i ms (slice_index words i ∷ rest)))
    → out ++ text_of (code given count is i ms (drop i words)) ≡ whole → new ++ text_of (code given count is (i + 1) left (drop (i + 1) words)) ≡ whole
code_step given count is ms left words out new whole i low step so_far =
    let next : i + 1 ≡ suc i = omega arith in
    let at : drop i words ≡ slice_index words i ∷ drop (suc i) words = drop-cons words i 0 low in
    rw next (step (drop (suc i) words) ∙ ap (λ (xs : List ℕ). out ++ text_of (code given count is i ms xs)) (sym at) ∙ so_far)

-- a label that was put, and what is put behind it
behind_label : (before o l part rest : List ℕ) (p : List ℕ) → o ≡ before ++ l → p ++ rest ≡ o ++ part → p ++ rest ≡ before ++ (l ++ part)
behind_label before o l part rest p e k = k ∙ ap (λ (xs : List ℕ). xs ++ part) e ∙ append_assoc before l part

-- a word behind the mark of its entry, and one where no entry stands
pub mark_put : (given : Option (List Name)) (count : ℕ) (is : ℕ → Bool) (v : Version) (n pc word limit : ℕ) (entries limits es ls words before o o₁ o₂ : List ℕ) → pc ≡ 4 * n → entries ≡ pc ∷ es → limits ≡ limit ∷ ls → o ≡ before ++ text_of (labels is n)
    → o₁ ≡ o ++ line_of (bare (say.Entry (own_limit v limit))) → o₂ ≡ o₁ ++ line_of (line_for given count pc word)
    → o₂ ++ text_of (code given count is (suc n) (marks v es ls) words) ≡ before ++ text_of (code given count is n (marks v entries limits) (word ∷ words))
mark_put given count is v n pc word limit entries limits es ls words before o o₁ o₂ same f g put e₁ e₂ =
    let at : line_of (line_for given count pc word) ≡ line_of (line_for given count (4 * n) word) = ap (λ (address : ℕ). line_of (line_for given count address word)) same in
    let rest = text_of (code given count is (suc n) (marks v es ls) words) in
    let entry = line_of (bare (say.Entry (own_limit v limit))) in
    let line = line_of (line_for given count (4 * n) word) in
    let whole : text_of (code given count is n (marks v entries limits) (word ∷ words)) ≡ text_of (labels is n) ++ (entry ++ (line ++ rest)) =
    ap (λ (xs : List ℕ). text_of (code given count is n (marks v xs limits) (word ∷ words))) f ∙ ap (λ (xs : List ℕ). text_of (code given count is n (marks v (pc ∷ es) xs) (word ∷ words))) g
    ∙ entry_step given count is n (pc, own_limit v limit) word (marks v es ls) words same in
    behind_label before o (text_of (labels is n)) (entry ++ (line ++ rest)) rest o₂ put (two_put o o₁ o₂ entry line (entry ++ (line ++ rest)) rest e₁ (e₂ ∙ ap (λ (xs : List ℕ). o₁ ++ xs) at) refl)
    ∙ ap (λ (xs : List ℕ). before ++ xs) (sym whole)

pub word_put : (given : Option (List Name)) (count : ℕ) (is : ℕ → Bool) (v : Version) (n pc word : ℕ) (entries limits words before o o₁ : List ℕ) → pc ≡ 4 * n → ((e l : ℕ) (es ls : List ℕ) → entries ≡ e ∷ es → limits ≡ l ∷ ls → e ≡ pc → ⊥) → o ≡ before ++ text_of (labels is n)
    → o₁ ≡ o ++ line_of (line_for given count pc word)
    → o₁ ++ text_of (code given count is (suc n) (marks v entries limits) words) ≡ before ++ text_of (code given count is n (marks v entries limits) (word ∷ words))
word_put given count is v n pc word entries limits words before o o₁ same other put e₁ =
    let at : line_of (line_for given count pc word) ≡ line_of (line_for given count (4 * n) word) = ap (λ (address : ℕ). line_of (line_for given count address word)) same in
    let rest = text_of (code given count is (suc n) (marks v entries limits) words) in
    let line = line_of (line_for given count (4 * n) word) in
    let whole = none_step given count is v entries limits n word words (λ e l es ls f g here. other e l es ls f g (here ∙ sym same)) in
    behind_label before o (text_of (labels is n)) (line ++ rest) rest o₁ put (one_put o o₁ line (line ++ rest) rest (e₁ ∙ ap (λ (xs : List ℕ). o ++ xs) at) refl)
    ∙ ap (λ (xs : List ℕ). before ++ xs) (sym whole)

-- the line of a label, and none
pub label_put : (is : ℕ → Bool) (n address : ℕ) (o new : List ℕ) → address ≡ 4 * n → is n ≡ true → new ≡ o ++ line_of (Labels address) → new ≡ o ++ text_of (labels is n)
unfolding text_of labels
label_put is n address o new at holds e =
    rw holds (e ∙ ap (λ (a : ℕ). o ++ line_of (Labels a)) at ∙ ap (λ (xs : List ℕ). o ++ xs) (sym (append-nil (line_of (Labels (4 * n))))))

pub no_label_put : (is : ℕ → Bool) (n : ℕ) (o : List ℕ) → is n ≡ false → o ≡ o ++ text_of (labels is n)
unfolding text_of labels
no_label_put is n o fails = rw fails (sym (append-nil o))
