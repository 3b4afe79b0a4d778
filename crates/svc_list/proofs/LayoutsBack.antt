-- The lines of an image make its layout.
use Rattle.std.proofs.Common.{◌≡◌, ℕ, suc, ◌+◌, ◌-◌, ◌*◌, ◌/◌, ◌%◌, ◌^◌, ◌<◌, ◌≤◌, inl, inr, Bool, true, false, ◌==◌, ◌&&◌, nat_le, nat_lt, List, [], ◌∷◌, ◌++◌, length, map, slice_index, replicate, take, drop, Option, Some, None, refl, ap, sym, ◌∙◌, subst, arith}
use Rattle.std.proofs.Math.Seq.{set-append_seam}
use Rattle.std.proofs.lemmas.Bool.{eq-eqb, eqb-true, ne_eqb, le-leb, cases_eq, and_parts}
use Rattle.std.proofs.lemmas.List.{append_assoc, append-nil, length-append, length-take-le, take-append-drop}
use Rattle.std.proofs.lemmas.List.Folds.{list_any-append}
use Rattle.std.proofs.lemmas.Grind.{flat_map-append}
use Rattle.std.specs.List.{AllByRecursion, list_any}
use Rattle.svc_rv32i.specs.Meaning.{register}
use Rattle.svc_image.specs.declared.version.Version.{Version}
use Rattle.svc_image.specs.declared.version.Version.TheVariants as version
use Rattle.svc_image.specs.Version.{read_only_by, limits_by}
use Rattle.svc_image.specs.Image.{Image, IsImage, IsLimit, AreWords}
use Rattle.svc_image.specs.Format.{bytes_of_word, bytes_of_words, words_in}
use Rattle.svc_image.proofs.Wordwise.{length-bytes_of_words, words_in-bytes_of_words}
use Rattle.svc_layout.specs.declared.section.Section.TheVariants as section
use Rattle.svc_layout.specs.declared.section.Width.TheVariants as wide
use Rattle.svc_layout.specs.declared.statement.Next.{Next}
use Rattle.svc_layout.specs.declared.statement.Next.TheVariants as go
use Rattle.svc_layout.specs.declared.statement.Statement.TheVariants as say
use Rattle.svc_layout.specs.Options.{◌>>=◌}
use Rattle.svc_layout.specs.Areas.{with_more}
use Rattle.svc_layout.specs.Sources.{Names, Source, no_source}
use Rattle.svc_layout.specs.Layouts.{Layout}
use Rattle.svc_layout.specs.Places.{data_size}
use Rattle.svc_layout.specs.Passes.{no_distances, no_branches}
use Rattle.svc_layout.specs.Contents.{with_word, with_bytes, with_value}
use Rattle.svc_layout.specs.Directives.{is_limit, with_version, with_read_only, with_own, with_place, with_entry}
use Rattle.svc_layout.specs.Directives.{with_limit, with_register}
use Rattle.svc_layout.specs.Lines.{going_on, after}
use Rattle.svc_layout.specs.Images.{limits_in, data_in, image_laid}
use Rattle.svc_names.specs.declared.name.Name.{Name}
use Rattle.svc_list.specs.Listings.{Line, Says, Labels, Codes, Starts, bare, setting, settings, own_limit, marks, data_lines, all_data}

-- the layout after all of these lines, of which none is a label
abbrev pub after_all : List Line → Layout → Option Layout
after_all [] d = Some d
after_all (Says s note ∷ ls) d = after [] s d >>= after_all ls
after_all (Labels a ∷ ls) d = None
after_all (Codes w to note ∷ ls) d = None
after_all (Starts a ∷ ls) d = None

-- the limit that the lines of an image set for all its entries
abbrev pub common_limit : Version → ℕ → ℕ
common_limit version.One limit = limit
common_limit version.Two limit = 65536

-- a text whose names no other finds, and the texts that a pass knows before it begins
abbrev pub plain : Names → Source
plain names = record no_source { names = names }

abbrev pub texts_for : Bool → Names → List Source
texts_for false names = []
texts_for true names = plain names ∷ []

-- the layout of an image, in a pass with these names
abbrev pub layout_for : Names → Bool → ℕ → Image → Layout
layout_for names known from img = record {
  version = Some img.version;
  limit = common_limit img.version (slice_index img.limits 0);
  read_only = read_only_by img.version img.read_only;
  start = Some img.start;
  registers = img.registers;
  entries = img.entries;
  limits = map (own_limit img.version) img.limits;
  text = img.text;
  rodata_bytes = [];
  data_bytes = bytes_of_words img.words;
  bss_bytes = [];
  data_step = 4;
  bss_step = 4;
  section = section.Data;
  next = go.Line;
  number = 0;
  source = plain names;
  found = [];
  known = known;
  data_from = 0;
  bss_from = from;
  sources = texts_for known names;
  places_known = known;
  lacks_names = false;
  lacks_places = false;
  passed = 0;
  distances = no_distances;
  has_distances = false;
  distances_known = known;
  turned = no_branches;
  turns_all = false;
  grew = false;
}

-- lines after lines
after_step : (o : Option Layout) (f g : Layout → Option Layout) (e : Layout) (r : Option Layout) → ((d : Layout) → f d ≡ Some e → g d ≡ r) → (o >>= f) ≡ Some e → (o >>= g) ≡ r
after_step None f g e r same h = absurd (cc)
after_step (Some d) f g e r same h = same d h

after_both : (ss ts : List Line) (d e : Layout) → after_all ss d ≡ Some e → after_all (ss ++ ts) d ≡ after_all ts e
after_both [] ts d e h = ap (λ o. o >>= after_all ts) h
after_both (Says s note ∷ ss) ts d e h = after_step (after [] s d) (after_all ss) (after_all (ss ++ ts)) e (after_all ts e) (λ x k. after_both ss ts x e k) h
after_both (Labels a ∷ ss) ts d e h = absurd (cc)
after_both (Codes w to note ∷ ss) ts d e h = absurd (cc)
after_both (Starts a ∷ ss) ts d e h = absurd (cc)

-- a layout with these registers
abbrev pub registers_in : Layout → List ℕ → Layout
registers_in d xs = record d { registers = xs }

abbrev all_zero : List ℕ → Bool
all_zero [] = true
all_zero (x ∷ xs) = x == 0 && all_zero xs

one_setting : (d : Layout) (done zs : List ℕ) (z v n : ℕ) → suc (length done) ≡ n → n < 32 → with_register (register n) v (registers_in d (done ++ (z ∷ zs))) ≡ Some (registers_in d (done ++ (v ∷ zs)))
unfolding with_register register
one_setting d done zs z v n e h =
    let number : n % 2 ^ 5 ≡ n = omega (arith, h) in
    let some : (n == 0) ≡ false = ne_eqb n 0 (λ zero_is. omega (arith, e, zero_is)) in
    let place : n - 1 ≡ length done = omega (arith, e) in
    rw (number, some, place) (ap (λ xs. Some (registers_in d xs)) (set-append_seam done z zs v))

setting_laid : (d : Layout) (done zs : List ℕ) (v n : ℕ) → suc (length done) ≡ n → n < 32 → after_all (setting n v) (registers_in d (done ++ (0 ∷ zs))) ≡ Some (registers_in d (done ++ (v ∷ zs)))
unfolding setting
setting_laid d done zs v n e h =
    elim (cases_eq v 0) [
      | inl none ↦ let here : (v == 0) ≡ true = eq-eqb v 0 none in rw here (ap (λ (x : ℕ). Some (registers_in d (done ++ (x ∷ zs)))) (sym none))
      | inr some ↦ let here : (v == 0) ≡ false = ne_eqb v 0 some in rw here (ap (λ o. o >>= after_all []) (one_setting d done zs 0 v n e h))
    ]

pub are_zeros : (xs : List ℕ) → all_zero xs ≡ true → AllByRecursion (λ x. x ≡ 0) xs
are_zeros [] h = tt
are_zeros (x ∷ xs) h = let parts = and_parts (x == 0) (all_zero xs) h in (eqb-true x 0 parts.0, are_zeros xs parts.1)

pub settings_laid : (d : Layout) (done vs zs : List ℕ) (n : ℕ) → suc (length done) ≡ n → length zs ≡ length vs → AllByRecursion (λ x. x ≡ 0) zs → n + length vs ≤ 32 → after_all (settings n vs) (registers_in d (done ++ zs)) ≡ Some (registers_in d (done ++ vs))
settings_laid d done [] [] n e same none h = refl
settings_laid d done [] (z ∷ zs) n e same none h = absurd (omega (arith, same))
settings_laid d done (v ∷ vs) [] n e same none h = absurd (omega (arith, same))
settings_laid d done (v ∷ vs) (z ∷ zs) n e same none h =
    let k : suc (length (done ++ (v ∷ []))) ≡ suc n = omega (arith, e, length-append done (v ∷ [])) in
    let rest = settings_laid d (done ++ (v ∷ [])) vs zs (suc n) k (omega (arith, same)) none.1 (omega (arith, h)) in
    let from : (done ++ (v ∷ [])) ++ zs ≡ done ++ (v ∷ zs) = append_assoc done (v ∷ []) zs in
    let to : (done ++ (v ∷ [])) ++ vs ≡ done ++ (v ∷ vs) = append_assoc done (v ∷ []) vs in
    ap (λ x. after_all (settings n (v ∷ vs)) (registers_in d (done ++ (x ∷ zs)))) none.0
    ∙ after_both (setting n v) (settings (suc n) vs) (registers_in d (done ++ (0 ∷ zs))) (registers_in d (done ++ (v ∷ zs))) (setting_laid d done zs v n e (omega (arith, h)))
    ∙ ap (λ xs. after_all (settings (suc n) vs) (registers_in d xs)) (sym from)
    ∙ rest ∙ ap (λ xs. Some (registers_in d xs)) to

pub value_in_text : (d : Layout) (w : ℕ) → d.section ≡ section.Text → with_value wide.Word w d ≡ with_word w d
unfolding with_value
value_in_text d w text = rw text refl

-- the version that a layout has is said again
version_again : (v : Version) (d : Layout) → d.version ≡ Some v → with_version v d ≡ Some d
unfolding with_version
version_again version.One d h = rw h refl
version_again version.Two d h = rw h refl

-- a limit of an image may be said
limit_is : (n : ℕ) → IsLimit n → is_limit n ≡ true
limit_is n h = rw (le-leb 1 n h.0, le-leb n 65536 h.1) refl

pub limit_laid : (n : ℕ) (d : Layout) → IsLimit n → with_limit n d ≡ Some (record d { limit = n })
unfolding with_limit
limit_laid n d h = rw (limit_is n h) refl

-- an entry with a limit of its own stands in a program of version 2
abbrev pub Allows : Option Version → Option ℕ → Type 0
Allows v None = Unit {0}
Allows v (Some limit) = (v ≡ Some version.Two) × (is_limit limit ≡ true)

own_allowed : (o : Option ℕ) (d : Layout) → Allows d.version o → with_own o d ≡ Some d
own_allowed None d h = refl
own_allowed (Some limit) d h = rw h.1 (version_again version.Two d h.0)

-- marks from an address on, below the end of the text, in a program of this version
abbrev pub AreMarks : Option Version → ℕ → ℕ → List (ℕ × Option ℕ) → Type 0
AreMarks v low top [] = Unit {0}
AreMarks v low top (m ∷ ms) = (low ≤ m.0) × (m.0 % 4 ≡ 0) × (m.0 < top) × Allows v m.1 × AreMarks v (m.0 + 1) top ms

pub next_marks : (v : Option Version) (n e top : ℕ) (ms : List (ℕ × Option ℕ)) → e ≡ 4 * n → AreMarks v (e + 1) top ms → AreMarks v (4 * suc n) top ms
next_marks v n e top [] same h = tt
next_marks v n e top (m ∷ ms) same h = (omega (arith, same, h.0, h.1), h.1, h.2, h.3, h.4)

pub top_marks : (v : Option Version) (low n m : ℕ) (ms : List (ℕ × Option ℕ)) → AreMarks v low (4 * (n + suc m)) ms → AreMarks v low (4 * (suc n + m)) ms
top_marks v low n m ms h = let top : 4 * (n + suc m) ≡ 4 * (suc n + m) = omega arith in subst (λ (t : ℕ). AreMarks v low t ms) top h

-- a layout with a mark more, and one with a word more of the text
abbrev pub marked : Layout → ℕ × Option ℕ → Layout
marked d m = record d { entries = d.entries ++ (m.0 ∷ []); limits = d.limits ++ (m.1 ∷ []) }

abbrev pub worded : Layout → ℕ → Layout
worded d w = record d { text = d.text ++ (w ∷ []) }

-- no entry stands at a word from the n-th on
abbrev pub Free : ℕ → List ℕ → Type 0
Free n entries = (k : ℕ) → n ≤ k → list_any (λ e. e == 4 * k) entries ≡ false

pub free_later : (n : ℕ) (entries : List ℕ) → Free n entries → Free (suc n) entries
free_later n entries free k above = free k (omega (arith, above))

pub free_behind : (n m : ℕ) (entries : List ℕ) → m ≡ 4 * n → Free n entries → Free (suc n) (entries ++ (m ∷ []))
free_behind n m entries same free k above =
    list_any-append (λ e. e == 4 * k) entries (m ∷ [])
    ∙ rw (free k (omega (arith, above)), ne_eqb m (4 * k) (λ here. omega (arith, here, same, above))) refl

one_place : (d : Layout) (m : ℕ × Option ℕ) → length d.text < 65536 → length d.entries < 1024 → Free (length d.text) d.entries → m.0 ≡ 4 * length d.text → with_place m.1 d ≡ Some (marked d m)
unfolding with_place
one_place d m h few free same =
    let fits : nat_lt (length d.text) 65536 ≡ true = le-leb (suc (length d.text)) 65536 h in
    let room : nat_lt (length d.entries) 1024 ≡ true = le-leb (suc (length d.entries)) 1024 few in
    rw (fits, room, free (length d.text) (omega arith)) (ap (λ (e : ℕ). Some (record d { entries = d.entries ++ (e ∷ []); limits = d.limits ++ (m.1 ∷ []) })) (sym same))

pub one_entry : (d : Layout) (m : ℕ × Option ℕ) → length d.text < 65536 → length d.entries < 1024 → Free (length d.text) d.entries → m.0 ≡ 4 * length d.text → Allows d.version m.1 → with_entry m.1 d ≡ Some (marked d m)
unfolding with_entry
one_entry d m h few free same allowed = ap (λ (o : Option Layout). o >>= with_place m.1) (own_allowed m.1 d allowed) ∙ one_place d m h few free same

pub one_word : (d : Layout) (w : ℕ) → length d.text < 65536 → with_word w d ≡ Some (worded d w)
unfolding with_word
one_word d w h =
    let fits : nat_lt (length d.text) 65536 ≡ true = le-leb (suc (length d.text)) 65536 h in
    rw fits refl

-- the entries of marks, and their limits
abbrev pub entries_of : List (ℕ × Option ℕ) → List ℕ
entries_of [] = []
entries_of (m ∷ ms) = m.0 ∷ entries_of ms

abbrev pub limits_of : List (ℕ × Option ℕ) → List (Option ℕ)
limits_of [] = []
limits_of (m ∷ ms) = m.1 ∷ limits_of ms

-- a layout with more marks and words
abbrev pub grown : Layout → List ℕ → List (Option ℕ) → List ℕ → Layout
grown d entries limits text = record d { entries = d.entries ++ entries; limits = d.limits ++ limits; text = d.text ++ text }

-- entries from an address on, below the end of the text
abbrev pub Above : ℕ → ℕ → List ℕ → Type 0
Above low top [] = Unit {0}
Above low top (e ∷ es) = (low ≤ e) × (e % 4 ≡ 0) × (e < top) × Above (e + 1) top es

own_allows : (v : Version) (limit : ℕ) → IsLimit limit → Allows (Some v) (own_limit v limit)
own_allows version.One limit h = tt
own_allows version.Two limit h = (refl, limit_is limit h)

pub marks_are : (v : Version) (low top : ℕ) (es ls : List ℕ) → AllByRecursion IsLimit ls → Above low top es → AreMarks (Some v) low top (marks v es ls)
marks_are v low top [] ls limits h = tt
marks_are v low top (e ∷ es) [] limits h = tt
marks_are v low top (e ∷ es) (l ∷ ls) limits h = (h.0, h.1, h.2, own_allows v l limits.0, marks_are v (e + 1) top es ls limits.1 h.3)

pub marks_few : (v : Version) (es ls : List ℕ) → length (marks v es ls) ≤ length es
marks_few v [] ls = omega arith
marks_few v (e ∷ es) [] = omega arith
marks_few v (e ∷ es) (l ∷ ls) = omega (arith, marks_few v es ls)

pub marks_entries : (v : Version) (es ls : List ℕ) → length ls ≡ length es → entries_of (marks v es ls) ≡ es
marks_entries v [] ls h = refl
marks_entries v (e ∷ es) [] h = absurd (omega (arith, h))
marks_entries v (e ∷ es) (l ∷ ls) h = ap (λ (xs : List ℕ). e ∷ xs) (marks_entries v es ls (omega (arith, h)))

pub marks_limits : (v : Version) (es ls : List ℕ) → length ls ≡ length es → limits_of (marks v es ls) ≡ map (own_limit v) ls
marks_limits v [] [] h = refl
marks_limits v [] (l ∷ ls) h = absurd (omega (arith, h))
marks_limits v (e ∷ es) [] h = absurd (omega (arith, h))
marks_limits v (e ∷ es) (l ∷ ls) h = ap (λ (xs : List (Option ℕ)). own_limit v l ∷ xs) (marks_limits v es ls (omega (arith, h)))

-- a layout with these bytes of data
abbrev holding : Layout → List ℕ → Layout
holding d xs = record d { data_bytes = xs }

length-bytes_of_word : (word : ℕ) → length (bytes_of_word word) ≡ 4
unfolding bytes_of_words
length-bytes_of_word word = ap length (sym (append-nil (bytes_of_word word))) ∙ length-bytes_of_words (word ∷ [])

-- .data is the only section of data, and no alignment is asked for
abbrev pub IsAlone : Layout → Type 0
IsAlone d = (d.rodata_bytes ≡ []) × (d.bss_bytes ≡ []) × (d.data_step ≡ 4) × (d.bss_step ≡ 4)

-- it has few bytes where it is in words
alone_few : (d : Layout) (bytes : List ℕ) → IsAlone d → length bytes ≤ 262144 → data_size (holding d bytes) ≤ 262144
alone_few d bytes alone room = rw (alone.0, alone.1, alone.2, alone.3) (omega (arith, room))

one_datum : (d : Layout) (bytes : List ℕ) (w : ℕ) → d.section ≡ section.Data → IsAlone d → length bytes + 4 ≤ 262144 → with_bytes (bytes_of_word w) (holding d bytes) ≡ Some (holding d (bytes ++ bytes_of_word w))
unfolding with_bytes with_more
one_datum d bytes w inside alone room =
    let four : length (bytes_of_word w) ≡ 4 = length-bytes_of_word w in
    let fits : nat_le (length bytes + length (bytes_of_word w)) 262144 ≡ true = le-leb (length bytes + length (bytes_of_word w)) 262144 (omega (arith, room, four)) in
    let next = holding d (bytes ++ bytes_of_word w) in
    let left : nat_le (data_size next) 262144 ≡ true =
    le-leb (data_size next) 262144 (alone_few d (bytes ++ bytes_of_word w) alone (omega (arith, room, four, length-append bytes (bytes_of_word w)))) in
    rw (inside, fits, left) refl

-- a line follows where one was to follow
pub line_goes_on : (d : Layout) → d.next ≡ go.Line → going_on go.Line d ≡ Some d
line_goes_on d line = ap (λ (n : Next). Some (record d { next = n })) (sym line)

word_in_data : (d : Layout) (w : ℕ) → d.section ≡ section.Data → with_value wide.Word w d ≡ with_bytes (bytes_of_word w) d
unfolding with_value bytes_of_word
word_in_data d w h = rw h refl

datum_laid : (d : Layout) (bytes : List ℕ) (w : ℕ) → d.section ≡ section.Data → d.next ≡ go.Line → IsAlone d → length bytes + 4 ≤ 262144
    → after [] (say.Value wide.Word w go.Line) (holding d bytes) ≡ Some (holding d (bytes ++ bytes_of_word w))
datum_laid d bytes w inside line alone room =
    ap (λ o. o >>= going_on go.Line) (word_in_data (holding d bytes) w inside ∙ one_datum d bytes w inside alone room)
    ∙ line_goes_on (holding d (bytes ++ bytes_of_word w)) line

data_laid : (given : Option (List Name)) (d : Layout) (n : ℕ) (bytes ws : List ℕ) → d.section ≡ section.Data → d.next ≡ go.Line → IsAlone d → length bytes + 4 * length ws ≤ 262144 → after_all (data_lines given n ws) (holding d bytes) ≡ Some (holding d (bytes ++ bytes_of_words ws))
unfolding bytes_of_words
data_laid given d n bytes [] inside line alone room = rw (append-nil bytes) refl
data_laid given d n bytes (w ∷ ws) inside line alone room =
    let longer_by : length (bytes ++ bytes_of_word w) ≡ length bytes + 4 = length-append bytes (bytes_of_word w) ∙ ap (λ n. length bytes + n) (length-bytes_of_word w) in
    ap (λ o. o >>= after_all (data_lines given (n + 4) ws)) (datum_laid d bytes w inside line alone (omega (arith, room)))
    ∙ data_laid given d (n + 4) (bytes ++ bytes_of_word w) ws inside line alone (omega (arith, room, longer_by))
    ∙ ap (λ xs. Some (holding d xs)) (append_assoc bytes (bytes_of_word w) (bytes_of_words ws))

bytes_of_both : (xs ys : List ℕ) → bytes_of_words (xs ++ ys) ≡ bytes_of_words xs ++ bytes_of_words ys
unfolding bytes_of_words
bytes_of_both xs ys = flat_map-append bytes_of_word xs ys

-- the words so far are read-only
fixed_laid : (d : Layout) (words : List ℕ) → d.section ≡ section.Data → d.data_from ≡ 0 → d.version ≡ Some version.Two → with_read_only (holding d (bytes_of_words words)) ≡ Some (record d { data_bytes = bytes_of_words words; read_only = length words })
unfolding with_read_only
fixed_laid d words inside first two =
    let size = length-bytes_of_words words in
    let up_to : d.data_from + length (bytes_of_words words) ≡ length (bytes_of_words words) = omega (arith, first) in
    let by_words : (length (bytes_of_words words) % 4 == 0) ≡ true = eq-eqb (length (bytes_of_words words) % 4) 0 (omega (arith, size)) in
    let count : length (bytes_of_words words) / 4 ≡ length words = omega (arith, size) in
    rw (version_again version.Two (holding d (bytes_of_words words)) two, inside, up_to, by_words, count) refl

pub all_data_laid : (given : Option (List Name)) (v : Version) (n : ℕ) (words : List ℕ) (d : Layout) → d.version ≡ Some v → d.section ≡ section.Data → d.next ≡ go.Line → IsAlone d → d.data_from ≡ 0 → d.data_bytes ≡ [] → d.read_only ≡ 0 → n ≤ length words → length words ≤ 65536
    → after_all (all_data given v n words) d ≡ Some (record d { data_bytes = bytes_of_words words; read_only = read_only_by v n })
all_data_laid given version.One n words d said inside line alone first none free few most =
    ap (λ (xs : List ℕ). after_all (data_lines given 1048576 words) (holding d xs)) none
    ∙ data_laid given d 1048576 [] words inside line alone (omega (arith, most))
    ∙ ap (λ (q : ℕ). Some (record d { data_bytes = bytes_of_words words; read_only = q })) free
all_data_laid given version.Two n words d said inside line alone first none free few most =
    let front = take n words in
    let back = drop n words in
    let count : length front ≡ n = length-take-le n words few in
    let split : front ++ back ≡ words = take-append-drop n words in
    let sizes : length front + length back ≡ length words = sym (length-append front back) ∙ ap length split in
    let room : length (bytes_of_words front) + 4 * length back ≤ 262144 = omega (arith, length-bytes_of_words front, sizes, most) in
    let fixed : after_all (data_lines given 1048576 front) d ≡ Some (holding d (bytes_of_words front)) =
    ap (λ (xs : List ℕ). after_all (data_lines given 1048576 front) (holding d xs)) none ∙ data_laid given d 1048576 [] front inside line alone (omega (arith, sizes, most)) in
    after_both (data_lines given 1048576 front) (bare say.ReadOnly ∷ data_lines given (1048576 + 4 * n) back) d (holding d (bytes_of_words front)) fixed
    ∙ ap (λ o. o >>= after_all (data_lines given (1048576 + 4 * n) back)) (fixed_laid d front inside first said)
    ∙ data_laid given (record d { read_only = length front }) (1048576 + 4 * n) (bytes_of_words front) back inside line alone room
    ∙ ap (λ (xs : List ℕ). Some (record d { data_bytes = xs; read_only = length front })) (sym (bytes_of_both front back) ∙ ap bytes_of_words split)
    ∙ ap (λ (q : ℕ). Some (record d { data_bytes = bytes_of_words words; read_only = q })) count

-- limits of their own are the limits
own_limits : (limit : ℕ) (ls : List ℕ) → limits_in limit (map (own_limit version.Two) ls) ≡ ls
own_limits limit [] = refl
own_limits limit (l ∷ ls) = ap (λ (xs : List ℕ). l ∷ xs) (own_limits limit ls)

limits_back : (v : Version) (n : ℕ) (ls : List ℕ) → (v ≡ version.One → ls ≡ replicate n (slice_index ls 0))
    → limits_by v n (common_limit v (slice_index ls 0)) (limits_in (common_limit v (slice_index ls 0)) (map (own_limit v) ls)) ≡ ls
limits_back version.One n ls shared = sym (shared refl)
limits_back version.Two n ls shared = own_limits 65536 ls

read_only_back : (v : Version) (n : ℕ) → (v ≡ version.One → n ≡ 0) → read_only_by v (read_only_by v n) ≡ n
read_only_back version.One n nothing = sym (nothing refl)
read_only_back version.Two n nothing = refl

-- the words of data that is the bytes of words
words_back : (bytes words : List ℕ) → bytes ≡ bytes_of_words words → AreWords words → words_in (length bytes / 4) bytes ≡ words
words_back bytes words same fit =
    let count : length (bytes_of_words words) / 4 ≡ length words = omega (arith, length-bytes_of_words words) in
    ap (λ (xs : List ℕ). words_in (length xs / 4) xs) same
    ∙ ap (λ (n : ℕ). words_in n (bytes_of_words words)) count
    ∙ ap (words_in (length words)) (sym (append-nil (bytes_of_words words)))
    ∙ words_in-bytes_of_words words [] fit

-- the layout of an image makes the image
pub image_back : (names : Names) (known : Bool) (from : ℕ) (img : Image) → IsImage img → data_in (layout_for names known from img) ≡ bytes_of_words img.words
    → image_laid (layout_for names known from img) ≡ img
unfolding image_laid
image_back names known from img sound bytes =
    let read_only = read_only_back img.version img.read_only (λ is. (sound.first is).nothing) in
    let limits = limits_back img.version (length img.entries) img.limits (λ is. (sound.first is).shared) in
    let words = words_back (data_in (layout_for names known from img)) img.words bytes sound.words_fit in
    λ i. record { version = img.version; read_only = read_only i; start = img.start; registers = img.registers; entries = img.entries; limits = limits i; text = img.text; words = words i }
