-- The listing of an image is a program of it.
use Rattle.std.proofs.Common.{◌≡◌, ℕ, zero, suc, ◌+◌, ◌-◌, ◌*◌, ◌/◌, ◌^◌, ◌%◌, ◌<◌, ◌≤◌, Bool, true, false, ◌==◌, ◌&&◌, List, [], ◌∷◌, ◌++◌, length, take, drop, slice_index, Option, Some, None, All, refl, ap, sym, ◌∙◌, subst, arith, inl, inr, if◌then◌else◌, codes}
use Rattle.std.specs.Prelude.{replicate}
use Rattle.std.specs.List.{AllByRecursion, list_any}
use Rattle.std.specs.List.Sorted.{IsStrictlyIncreasing}
use Rattle.std.proofs.lemmas.Bool.{eqb-true, or_cases, or_left, or_right, eq-eqb}
use Rattle.std.proofs.lemmas.List.{append-nil, append_assoc}
use Rattle.std.proofs.lemmas.List.Elements.{All-head, All-tail, recursion_from_All}
use Rattle.svc_rv32i.specs.Meaning.{register}
use Rattle.svc_tokens.specs.Characters.{found}
use Rattle.svc_instructions.specs.declared.table.Row.{Row}
use Rattle.svc_instructions.specs.Instructions.{parts_of, row_of}
use Rattle.svc_image.specs.declared.version.Version.{Version}
use Rattle.svc_image.specs.declared.version.Version.TheVariants as version
use Rattle.svc_image.specs.Version.{read_only_by}
use Rattle.svc_image.specs.Image.{Image, IsImage, IsLimit, AreWords, StartsWord, is_entry}
use Rattle.svc_image.specs.Format.{bytes_of_words}
use Rattle.svc_layout.specs.declared.section.Section.TheVariants as section
use Rattle.svc_layout.specs.declared.statement.Next.TheVariants as go
use Rattle.svc_layout.specs.declared.statement.Statement.TheVariants as say
use Rattle.svc_layout.specs.Steps.{multiple}
use Rattle.svc_layout.specs.Areas.{fill_up, data_of, some_word}
use Rattle.svc_layout.specs.Sources.{Names, no_names, no_bindings, first_by, shared_spot}
use Rattle.svc_layout.specs.Layouts.{Layout}
use Rattle.svc_layout.specs.Passes.{zeros, empty}
use Rattle.svc_layout.specs.Addresses.{address_of}
use Rattle.svc_layout.specs.Directives.{with_version}
use Rattle.svc_layout.specs.Texts.{with_source}
use Rattle.svc_layout.specs.Images.{IsMadeOf}
use Rattle.svc_image.proofs.Wordwise.{length-bytes_of_words}
use Rattle.svc_tokens.specs.Characters.{is_name, past_name, behind}
use Rattle.svc_expressions.specs.Expressions.{value_at}
use Rattle.svc_tokens.specs.Names.{letters_of}
use Rattle.svc_asm_lines.specs.Statements.{said_by, said_at, directive_at, statement_at, line_at}
use Rattle.svc_asm.specs.Programs.{IsProgramOf}
use Rattle.svc_names.specs.declared.name.Name.{Name}
use Rattle.svc_list.specs.Listings.{label_text, HasText, Line, Starts, bare, line_of, text_of, led_along, target_by, target_of, is_at, is_target, is_labelled, setting, settings, own_limit, marks, code, data_lines, all_data, head_lines, listing_of}
use Rattle.svc_list.proofs.LinesBack.{IsRead, by_directive, directive_stops, unlabelled, next_back, ended_back}
use Rattle.svc_list.proofs.NotesBack.{AreNamed, bare_ends, datum_ends}
use Rattle.svc_list.proofs.LabelsBack.{text_spot}
use Rattle.svc_list.proofs.AimsBack.{label_value}
use Rattle.svc_list.proofs.LayoutsBack.{Above, common_limit, layout_for, registers_in, settings_laid, are_zeros, marks_are, marks_few, limit_laid, marks_entries, marks_limits, limits_of, all_data_laid, image_back, plain, texts_for}
use Rattle.svc_list.proofs.Leading.{Leads, given_by, one_leads, leads_none, leads_both, leads_at, leads_whole, line_leads, lines_lead}
use Rattle.svc_list.proofs.CodeBack.{Good, HaveLabels, with_code, words_in, names_in, known_address, unknown_address, here_is, placed_is, code_leads, words_known, names_known, names_found}
use Rattle.svc_list.proofs.Printing.{listing_parts}

-- the entries of an image stand one above another at words of the text
next_above : (e : ℕ) (es : List ℕ) (f : ℕ) (fs : List ℕ) → es ≡ f ∷ fs → IsStrictlyIncreasing (e ∷ es) → e + 1 ≤ f
next_above e [] f fs same rise = absurd (cc)
next_above e (g ∷ gs) f fs same rise =
    let up : e < g = rise 0 (omega arith) in
    let is : g ≡ f = ap (λ (xs : List ℕ). slice_index xs 0) same in
    omega (arith, up, is)

above_from : (n low : ℕ) (es : List ℕ) → IsStrictlyIncreasing es → All (StartsWord n) es → ((e : ℕ) (fs : List ℕ) → es ≡ e ∷ fs → low ≤ e) → Above low (4 * n) es
above_from n low [] rise placed least = tt
above_from n low (e ∷ es) rise placed least =
    let here = All-head (StartsWord n) e es placed in
    (least e es refl, here.0, here.1, above_from n (e + 1) es (λ k h. let same : suc k + 1 ≡ suc (k + 1) = omega arith in subst (λ (j : ℕ). slice_index (e ∷ es) (suc k) < slice_index (e ∷ es) j) same (rise (suc k) (omega (arith, h)))) (All-tail (StartsWord n) e es placed) (λ f fs same. next_above e es f fs same rise))

both : (ss ts : List Line) → AllByRecursion IsRead ss → AllByRecursion IsRead ts → AllByRecursion IsRead (ss ++ ts)
both [] ts h k = k
both (s ∷ ss) ts h k = (h.0, both ss ts h.1 k)

setting_text : (n v : ℕ) → v < 2 ^ 32 → AllByRecursion IsRead (setting n v)
unfolding setting
setting_text n v h = elim (v == 0) as (λ b. AllByRecursion IsRead (if b then [] else bare (say.Register (register n) v) ∷ [])) [ true ↦ tt | false ↦ ((h, bare_ends), tt) ]

settings_text : (n : ℕ) (vs : List ℕ) → AllByRecursion (λ w. w < 2 ^ 32) vs → AllByRecursion IsRead (settings n vs)
settings_text n [] h = tt
settings_text n (v ∷ vs) h = both (setting n v) (settings (suc n) vs) (setting_text n v h.0) (settings_text (suc n) vs h.1)

own_text_fits : (v : Version) (l : ℕ) → l < 2 ^ 32 → HasText (say.Entry (own_limit v l))
own_text_fits version.One l h = tt
own_text_fits version.Two l h = h

marks_text : (v : Version) (es ls : List ℕ) → AllByRecursion (λ l. l < 2 ^ 32) ls → AllByRecursion (λ (m : ℕ × Option ℕ). HasText (say.Entry m.1)) (marks v es ls)
marks_text v [] ls h = tt
marks_text v (e ∷ es) [] h = tt
marks_text v (e ∷ es) (l ∷ ls) h = (own_text_fits v l h.0, marks_text v es ls h.1)

data_text : (given : Option (List Name)) → AreNamed given → (n : ℕ) (ws : List ℕ) → AllByRecursion (λ w. w < 2 ^ 32) ws → AllByRecursion IsRead (data_lines given n ws)
data_text given are n [] h = tt
data_text given are n (w ∷ ws) h = (((refl, refl, h.0), datum_ends given n are), data_text given are (n + 4) ws h.1)

take_fits : (n : ℕ) (ws : List ℕ) → AllByRecursion (λ w. w < 2 ^ 32) ws → AllByRecursion (λ w. w < 2 ^ 32) (take n ws)
take_fits zero ws h = tt
take_fits (suc n) [] h = tt
take_fits (suc n) (w ∷ ws) h = (h.0, take_fits n ws h.1)

drop_fits : (n : ℕ) (ws : List ℕ) → AllByRecursion (λ w. w < 2 ^ 32) ws → AllByRecursion (λ w. w < 2 ^ 32) (drop n ws)
drop_fits zero ws h = h
drop_fits (suc n) [] h = tt
drop_fits (suc n) (w ∷ ws) h = drop_fits n ws h.1

all_data_text : (given : Option (List Name)) → AreNamed given → (v : Version) (n : ℕ) (ws : List ℕ) → AllByRecursion (λ w. w < 2 ^ 32) ws → AllByRecursion IsRead (all_data given v n ws)
all_data_text given are version.One n ws h = data_text given are 1048576 ws h
all_data_text given are version.Two n ws h =
    both (data_lines given 1048576 (take n ws)) (bare say.ReadOnly ∷ data_lines given (1048576 + 4 * n) (drop n ws)) (data_text given are 1048576 (take n ws) (take_fits n ws h)) ((tt, bare_ends), data_text given are (1048576 + 4 * n) (drop n ws) (drop_fits n ws h))

-- limits have 32 bits
limits_small : (ls : List ℕ) → All IsLimit ls → AllByRecursion (λ l. l < 2 ^ 32) ls
limits_small [] h = tt
limits_small (l ∷ ls) h = (omega (arith, (All-head IsLimit l ls h).1), limits_small ls (All-tail IsLimit l ls h))

first_limit : (ls : List ℕ) → All IsLimit ls → 1 ≤ length ls → IsLimit (slice_index ls 0)
first_limit [] h some = absurd (omega (arith, some))
first_limit (l ∷ ls) h some = All-head IsLimit l ls h

start_placed : (n s : ℕ) (es : List ℕ) → All (StartsWord n) es → list_any (λ e. e == s) es ≡ true → (s % 4 ≡ 0) × (s < 4 * n)
start_placed n s [] placed any = absurd (cc)
start_placed n s (e ∷ es) placed any =
    elim (or_cases (e == s) (list_any (λ e. e == s) es) any) [
      | inl here ↦
          let same : e ≡ s = eqb-true e s here in
          let first = All-head (StartsWord n) e es placed in
          (subst (λ (x : ℕ). x % 4 ≡ 0) same first.0, subst (λ (x : ℕ). x < 4 * n) same first.1)
      | inr there ↦ start_placed n s es (All-tail (StartsWord n) e es placed) there
    ]

no_zeros : (words : List ℕ) → (4 - length (bytes_of_words words) % 4) % 4 ≡ 0
no_zeros words = omega (arith, length-bytes_of_words words)

filled_words : (words : List ℕ) → fill_up 4 (bytes_of_words words) ≡ bytes_of_words words
unfolding fill_up
filled_words words = ap (λ (n : ℕ). bytes_of_words words ++ replicate n 0) (no_zeros words) ∙ append-nil (bytes_of_words words)

some_is : (bytes : List ℕ) → 1 ≤ length bytes → some_word bytes ≡ bytes
some_is [] some = absurd (omega (arith, some))
some_is (b ∷ bytes) some = refl

none_filled : fill_up 4 [] ≡ []
unfolding fill_up
none_filled = refl

words_are_data : (words : List ℕ) → 1 ≤ length words → data_of 4 4 [] (bytes_of_words words) [] ≡ bytes_of_words words
unfolding data_of
words_are_data words some =
    let bytes = bytes_of_words words in
    rw (none_filled, filled_words words, append-nil bytes, filled_words words) (some_is bytes (omega (arith, some, length-bytes_of_words words)))

made_image : (names : Names) (known : Bool) (from : ℕ) (img : Image) → IsImage img → IsMadeOf (layout_for names known from img) img
made_image names known from img sound =
    sym (image_back names known from img sound (words_are_data img.words sound.words_some))

-- how far behind the data's beginning .bss begins, by the first pass
abbrev bss_behind : Image → ℕ
bss_behind img = multiple 4 (0 + length (bytes_of_words img.words))

-- the start, by its label
start_value : (d : Layout) (a x : ℕ) (tail : List ℕ) → address_of d (label_text a) ≡ Some x → value_at d (32 ∷ (label_text a ++ (10 ∷ tail))) ≡ Some (x, 10 ∷ tail)
start_value d a x tail e = label_value d a x (10 ∷ tail) tail (bare_ends tail) e

start_said : (d : Layout) (a x : ℕ) (tail : List ℕ) → address_of d (label_text a) ≡ Some x → statement_at d (codes ".svc_start " ++ (label_text a ++ (10 ∷ tail))) ≡ Some (say.Start x, 10 ∷ tail)
unfolding is_name directive_at said_by letters_of said_at
start_said d a x tail e = by_directive d (codes "svc_start") (32 ∷ (label_text a ++ (10 ∷ tail))) refl refl ∙ rw (start_value d a x tail e) refl

start_stops : (a : ℕ) (tail : List ℕ) → behind 58 (past_name (codes ".svc_start " ++ (label_text a ++ (10 ∷ tail)))) ≡ None
unfolding is_name
start_stops a tail = directive_stops (codes "svc_start") (32 ∷ (label_text a ++ (10 ∷ tail))) refl refl

start_read : (d : Layout) (a x : ℕ) (tail : List ℕ) → address_of d (label_text a) ≡ Some x → line_at d (line_of (Starts a) ++ tail) ≡ Some (say.Start x, tail)
start_read d a x tail e =
    let text = codes ".svc_start " ++ (label_text a ++ (10 ∷ tail)) in
    ap (λ (xs : List ℕ). line_at d (codes ".svc_start " ++ xs)) (append_assoc (label_text a) (10 ∷ []) tail)
    ∙ unlabelled d text (start_stops a tail) ∙ ended_back d (say.Start x) text (10 ∷ tail) tail (bare_ends tail) (start_said d a x tail e)

start_leads : (d : Layout) (a x : ℕ) → d.next ≡ go.Line → address_of d (label_text a) ≡ Some x → Leads (line_of (Starts a)) d (record d { start = Some x })
start_leads d a x line e =
    one_leads (line_of (Starts a)) (say.Start x) d (record d { start = Some x }) (omega arith) (λ tail. next_back d (line_of (Starts a) ++ tail) (say.Start x, tail) line (start_read d a x tail e)) (λ tail. refl)

-- what a pass reads of the start
abbrev begun : Bool → ℕ → ℕ
begun known start = if known then start else 0

abbrev Begins : Bool → Names → ℕ → Type 0
Begins true names start = (start < 2 ^ 32) × (names (label_text start) ≡ Some (text_spot start))
Begins false names start = Unit {0}

start_at_label : (known : Bool) (d : Layout) (start : ℕ) → d.known ≡ known → d.section ≡ section.Text → d.text ≡ [] → d.source.bindings ≡ no_bindings → Begins known d.source.names start → address_of d (label_text start) ≡ Some (begun known start)
start_at_label true d start pass text none bare begins = known_address d start pass bare begins.0 begins.1
start_at_label false d start pass text none bare begins =
    let first : 4 * length d.text ≡ 0 = ap (λ (xs : List ℕ). 4 * length xs) none in
    unknown_address d start pass ∙ ap Some (here_is d 0 text first (omega arith))

-- a pass over the listing begins
abbrev opening : Names → Bool → ℕ → Layout
opening names known from = record (empty (texts_for known names) known 0 from) { source = plain names }

-- the layout behind the lines before the registers
abbrev headed : Names → Bool → ℕ → Version → (limit start : ℕ) → Layout
headed names known from v limit start = record (opening names known from) { version = Some v; limit = common_limit v limit; start = Some start }

head_leads : (v : Version) (limit start : ℕ) (names : Names) (known : Bool) (from : ℕ) → IsLimit limit → Begins known names start
    → Leads (text_of (head_lines v limit start)) (opening names known from) (headed names known from v limit (begun known start))
unfolding text_of with_version
head_leads version.One limit start names known from fit begins =
    let d₀ = opening names known from in
    let d₁ = record d₀ { version = Some version.One } in
    let d₂ = record d₁ { limit = limit } in
    let d₃ = record d₂ { start = Some (begun known start) } in
    let last = leads_both (line_of (Starts start)) [] d₂ d₃ d₃ (start_leads d₂ start (begun known start) refl (start_at_label known d₂ start refl refl refl refl begins)) (leads_none d₃) in
    let limits = leads_both (line_of (bare (say.Limit limit))) (line_of (Starts start) ++ []) d₁ d₂ d₃ (line_leads (say.Limit limit) [] d₁ d₂ refl (omega (arith, fit.1)) bare_ends (limit_laid limit d₁ fit)) last in
    leads_both (line_of (bare (say.Version version.One))) (line_of (bare (say.Limit limit)) ++ (line_of (Starts start) ++ [])) d₀ d₁ d₃ (line_leads (say.Version version.One) [] d₀ d₁ refl tt bare_ends refl) limits
head_leads version.Two limit start names known from fit begins =
    let d₀ = opening names known from in
    let d₁ = record d₀ { version = Some version.Two } in
    let d₃ = record d₁ { start = Some (begun known start) } in
    let last = leads_both (line_of (Starts start)) [] d₁ d₃ d₃ (start_leads d₁ start (begun known start) refl (start_at_label known d₁ start refl refl refl refl begins)) (leads_none d₃) in
    leads_both (line_of (bare (say.Version version.Two))) (line_of (Starts start) ++ []) d₀ d₁ d₃ (line_leads (say.Version version.Two) [] d₀ d₁ refl tt bare_ends refl) last

-- each target has a label
found_whole : (count address w : ℕ) (row : Option Row) (t : ℕ) → found row (λ r. target_by count address w r) None ≡ Some t → t % 4 ≡ 0
found_whole count address w None t e = absurd (cc)
found_whole count address w (Some r) t e = (placed_is count (led_along address w (parts_of r)) t e).1

target_whole : (count address w : ℕ) (t : ℕ) → target_of count address w ≡ Some t → t % 4 ≡ 0
target_whole count address w t e = found_whole count address w (row_of w) t e

have_labels : (count : ℕ) (labelled : ℕ → Bool) (n : ℕ) (ws : List ℕ) → ((k : ℕ) → is_target count (4 * k) n ws ≡ true → labelled k ≡ true) → HaveLabels count labelled n ws
have_labels count labelled n [] h = tt
have_labels count labelled n (w ∷ ws) h = (
  λ t e. h (t / 4) (or_left (is_at (4 * (t / 4)) (target_of count (4 * n) w)) (is_target count (4 * (t / 4)) (suc n) ws)
      (ap (is_at (4 * (t / 4))) e ∙ eq-eqb t (4 * (t / 4)) (omega (arith, target_whole count (4 * n) w t e)))),
  have_labels count labelled (suc n) ws (λ k g. h k (or_right (is_at (4 * k) (target_of count (4 * n) w)) (is_target count (4 * k) (suc n) ws) g)),
)

image_labels : (img : Image) → HaveLabels (length img.text) (is_labelled img.entries img.text) 0 img.text
unfolding is_labelled
image_labels img =
    have_labels (length img.text) (is_labelled img.entries img.text) 0 img.text (λ k g. or_right (list_any (λ e. e == 4 * k) img.entries) (is_target (length img.text) (4 * k) 0 img.text) g)

start_labelled : (img : Image) (k : ℕ) → 4 * k ≡ img.start → list_any (λ e. e == img.start) img.entries ≡ true → is_labelled img.entries img.text k ≡ true
unfolding is_labelled
start_labelled img k same any =
    or_left (list_any (λ e. e == 4 * k) img.entries) (is_target (length img.text) (4 * k) 0 img.text) (subst (λ (s : ℕ). list_any (λ e. e == s) img.entries ≡ true) (sym same) any)

none_shared : (known : Bool) (names : Names) (name : List ℕ) → shared_spot (texts_for known names) name ≡ None
unfolding first_by
none_shared true names name = refl
none_shared false names name = refl

-- the layout that a pass makes of an image
abbrev passed : Names → Bool → ℕ → Image → Layout
passed names known from img =
    record (layout_for (names_in known (is_labelled img.entries img.text) 0 img.text names) known from img) { sources = texts_for known names; start = Some (begun known img.start); text = words_in known (length img.text) 0 img.text }

pass_leads : (given : Option (List Name)) → AreNamed given → (names : Names) (known : Bool) (from : ℕ) (img : Image) → IsImage img → Begins known names img.start → Good known (length img.text) (is_labelled img.entries img.text) 0 names
    → Leads (listing_of given img) (opening names known from) (passed names known from img)
pass_leads given are names known from img sound begins good =
    let v = img.version in
    let limit = slice_index img.limits 0 in
    let count = length img.text in
    let labelled = is_labelled img.entries img.text in
    let ms = marks v img.entries img.limits in
    let fits = λ (xs : List ℕ) (h : AreWords xs). recursion_from_All (λ w. w < 2 ^ 32) xs h in
    let limits = limits_small img.limits sound.limits_fit in
    let d₀ = opening names known from in
    let d₁ = headed names known from v limit (begun known img.start) in
    let d₂ = registers_in d₁ img.registers in
    let d₃ = with_code known count labelled 0 ms img.text d₂ in
    let d₄ = record d₃ { section = section.Data } in
    let d₅ = record d₄ { data_bytes = bytes_of_words img.words; read_only = read_only_by v img.read_only } in
    let top : 4 * count ≡ 4 * (0 + count) = omega arith in
    let above = above_from count 0 img.entries sound.entries_rise sound.entries_placed (λ e fs same. omega arith) in
    let placed = marks_are v 0 (4 * (0 + count)) img.entries img.limits (recursion_from_All IsLimit img.limits sound.limits_fit) (subst (λ (t : ℕ). Above 0 t img.entries) top above) in
    let first = head_leads v limit img.start names known from (first_limit img.limits sound.limits_fit (omega (arith, sound.limits_each, sound.entries_some))) begins in
    let second = lines_lead (settings 1 img.registers) d₁ d₂ refl (settings_text 1 img.registers (fits img.registers sound.registers_fit)) (settings_laid d₁ [] img.registers zeros 1 refl (sym sound.registers_all) (are_zeros zeros refl) (omega (arith, sound.registers_all))) in
    let third = code_leads given are known count labelled sound.text_few ms img.text 0 d₂ (omega arith) (fits img.text sound.text_fits) (marks_text v img.entries img.limits limits) placed (record { text = refl; words = refl; pass = refl; line = refl; near = (λ left. refl, λ name. none_shared known names name); bare = refl }) (omega (arith, marks_few v img.entries img.limits, sound.entries_few)) (λ k above. refl) good (image_labels img) in
    let fourth = line_leads (say.Section section.Data) [] d₃ d₄ refl tt bare_ends refl in
    let fifth = lines_lead (all_data given v img.read_only img.words) d₄ d₅ refl (all_data_text given are v img.read_only img.words (fits img.words sound.words_fit)) (all_data_laid given v img.read_only img.words d₄ refl refl refl (refl, refl, refl, refl) refl refl refl sound.read_only_few sound.words_few) in
    let body = text_of (all_data given v img.read_only img.words) in
    let words = text_of (code given count labelled 0 ms img.text) in
    let sets = text_of (settings 1 img.registers) in
    let mark = line_of (bare (say.Section section.Data)) in
    let whole = leads_both (text_of (head_lines v limit img.start)) (sets ++ (words ++ (mark ++ body))) d₀ d₁ d₅ first
    (leads_both sets (words ++ (mark ++ body)) d₁ d₂ d₅ second (leads_both words (mark ++ body) d₂ d₃ d₅ third (leads_both mark body d₃ d₄ d₅ fourth fifth))) in
    leads_at (listing_of given img) d₀ d₅ (passed names known from img)
    (ap (λ (es : List ℕ). record (passed names known from img) { entries = es; limits = limits_of ms }) (marks_entries v img.entries img.limits sound.limits_each)
    ∙ ap (λ (ls : List (Option ℕ)). record (passed names known from img) { limits = ls }) (marks_limits v img.entries img.limits sound.limits_each))
    (subst (λ (text : List ℕ). Leads text d₀ d₅) (sym (listing_parts given img)) whole)

-- the names that the first pass finds
abbrev found_names : Image → Names
found_names img = names_in false (is_labelled img.entries img.text) 0 img.text no_names

found_all : (img : Image) → IsImage img → (k : ℕ) → k < length img.text → is_labelled img.entries img.text k ≡ true → found_names img (label_text (4 * k)) ≡ Some (text_spot (4 * k))
found_all img sound k low holds = names_found (is_labelled img.entries img.text) 0 img.text no_names k (omega arith) (omega (arith, low)) (omega (arith, sound.text_few)) holds

start_found : (img : Image) → IsImage img → Begins true (found_names img) img.start
unfolding is_entry
start_found img sound =
    let place = start_placed (length img.text) img.start img.entries sound.entries_placed sound.start_entry in
    let four : 4 * (img.start / 4) ≡ img.start = omega (arith, place.0) in (
      omega (arith, place.1, sound.text_few),
      subst (λ (s : ℕ). found_names img (label_text s) ≡ Some (text_spot s)) four (found_all img sound (img.start / 4) (omega (arith, place.1)) (start_labelled img (img.start / 4) four sound.start_entry)),
    )

-- the second pass lays the image itself
second_laid : (names : Names) (from : ℕ) (img : Image) → IsImage img → passed names true from img ≡ layout_for names true from img
second_laid names from img sound =
    ap (λ (ws : List ℕ). record (passed names true from img) { text = ws }) (words_known (length img.text) 0 img.text (recursion_from_All (λ w. w < 2 ^ 32) img.text sound.text_fits))
    ∙ ap (λ (found : Names). record (layout_for found true from img) { sources = texts_for true names }) (names_known (is_labelled img.entries img.text) 0 img.text names)

-- the listing of an image is a program of it
pub listing_is_program : (given : Option (List Name)) → AreNamed given → (img : Image) → IsImage img → IsProgramOf (listing_of given img) img
listing_is_program names_given are img sound =
    let names = found_names img in
    let from = bss_behind img in
    let first = leads_whole (listing_of names_given img) (opening no_names false 0) (passed no_names false 0 img) (pass_leads names_given are no_names false 0 img sound tt (λ k above low. refl)) in
    let second = leads_whole (listing_of names_given img) (opening names true from) (layout_for names true from img)
    (leads_at (listing_of names_given img) (opening names true from) (passed names true from img) (layout_for names true from img) (second_laid names from img sound)
    (pass_leads names_given are names true from img sound (start_found img sound) (found_all img sound))) in
    let given = given_by second.0 (listing_of names_given img) (opening names true from) (layout_for names true from img) second.1 in
    record {
      layout = layout_for names true from img;
      laid = record { labels = given.0; settles = inl (record { first = with_source (passed no_names false 0 img); finds = inl ((first.0, passed no_names false 0 img, first.1, refl), refl); laid = opening names true from; begins = refl; lines = second.0; gives = given.1 }, refl) };
      image = made_image names true from img sound;
    }
