-- The text of an image: its lines, and how each is written.
use Rattle.std.specs.Prelude.{◌≡◌, Bool, false, ◌&&◌, ◌||◌, nat_le, length, ℕ, suc, ◌+◌, ◌*◌, ◌-◌, ◌/◌, ◌%◌, ◌^◌, ◌<◌}
use Rattle.std.specs.Prelude.{nat_lt, ◌==◌, List, [], ◌∷◌, ◌++◌, take, drop, length, slice_index, flat_map, Option}
use Rattle.std.specs.Prelude.{Some, None, if◌then◌else◌, codes, decimal}
use Rattle.std.specs.List.{list_any}
use Rattle.svc_rv32i.specs.declared.instr.Register.{Register}
use Rattle.svc_rv32i.specs.declared.instr.Instr.{Instr}
use Rattle.svc_rv32i.specs.declared.instr.Instr.TheVariants as i
use Rattle.svc_rv32i.specs.Meaning.{register}
use Rattle.svc_image.specs.declared.version.Version.{Version}
use Rattle.svc_image.specs.declared.version.Version.TheVariants as version
use Rattle.svc_image.specs.declared.layout.TheConstants.{DATA_START}
use Rattle.svc_image.specs.Version.{version_number}
use Rattle.svc_image.specs.Image.{Image}
use Rattle.svc_layout.specs.declared.section.Section.{Section}
use Rattle.svc_layout.specs.declared.section.Section.TheVariants as section
use Rattle.svc_layout.specs.declared.section.Width.TheVariants as wide
use Rattle.svc_layout.specs.declared.statement.Next.TheVariants as go
use Rattle.svc_layout.specs.declared.statement.Statement.{Statement}
use Rattle.svc_layout.specs.declared.statement.Statement.TheVariants as say
use Rattle.svc_tokens.specs.Characters.{found, name_at}
use Rattle.svc_instructions.specs.declared.table.Part.{Part}
use Rattle.svc_instructions.specs.declared.table.Part.TheVariants as part
use Rattle.svc_instructions.specs.declared.table.Row.{Row}
use Rattle.svc_instructions.specs.Instructions.{part_number, parts_of, row_of}
use Rattle.svc_names.specs.declared.name.Name.{Name}
use Rattle.svc_names.specs.Given.{noted_by}

-- an operand behind its space, and the comma behind it
abbrev pub register_text : Register → List ℕ
register_text r = 120 ∷ decimal r.number

abbrev pub first_text : Register → List ℕ
first_text r = 32 ∷ (register_text r ++ (44 ∷ []))

abbrev pub last_text : Register → List ℕ
last_text r = 32 ∷ register_text r

-- a number whose sign is up, of so many, and one whose sign is down
abbrev pub signed_text : ℕ → ℕ → List ℕ
signed_text half n = if nat_lt n half then decimal n else 45 ∷ decimal (2 * half - n)

abbrev pub short_text : ℕ → List ℕ
short_text n = 32 ∷ signed_text 2048 n

-- an offset from here, which is twice a number of so many
abbrev pub offset_text : ℕ → ℕ → List ℕ
offset_text half n =
    if nat_lt n half then codes " . + " ++ decimal (2 * n) else codes " . - " ++ decimal (2 * (2 * half - n))

abbrev pub upper_text : ℕ → List ℕ
upper_text n = 32 ∷ decimal n

-- a word in eight hexadecimal digits
abbrev pub hex_digit : ℕ → ℕ
hex_digit n = if nat_lt n 10 then 48 + n else 87 + n

unfoldable pub hex_text : ℕ → List ℕ
hex_text n =
    hex_digit (n / 2 ^ 28 % 16) ∷ hex_digit (n / 2 ^ 24 % 16) ∷ hex_digit (n / 2 ^ 20 % 16)
    ∷ hex_digit (n / 2 ^ 16 % 16)
    ∷ hex_digit (n / 2 ^ 12 % 16) ∷ hex_digit (n / 2 ^ 8 % 16) ∷ hex_digit (n / 2 ^ 4 % 16) ∷ hex_digit (n % 16) ∷ []

-- the label of a place in the text, by its address
abbrev pub label_text : ℕ → List ℕ
label_text address = codes "at_" ++ hex_text address

-- how far a branch or a jump goes: to a label, where one is given
abbrev pub reach_text : Option ℕ → (half steps : ℕ) → List ℕ
reach_text None half steps = offset_text half steps
reach_text (Some target) half steps = 32 ∷ label_text target

-- an operand by its number; none of a fence is shown
unfoldable pub part_text : Option ℕ → Part → ℕ → List ℕ
part_text to part.End n = []
part_text to part.Comma n = 44 ∷ []
part_text to part.Rd n = last_text (register (n % 2 ^ 5))
part_text to part.Rs1 n = last_text (register (n % 2 ^ 5))
part_text to part.Rs2 n = last_text (register (n % 2 ^ 5))
part_text to part.Base n = 40 ∷ (register_text (register (n % 2 ^ 5)) ++ (41 ∷ []))
part_text to part.Immediate n = short_text (n % 2 ^ 12)
part_text to part.StoreOffset n = short_text (n % 2 ^ 12)
part_text to part.Amount n = upper_text (n % 2 ^ 5)
part_text to part.Upper n = upper_text (n % 2 ^ 20)
part_text to part.Order n = []
part_text to part.Branch n = reach_text to 2048 (n % 2 ^ 12)
part_text to part.Jump n = reach_text to 524288 (n % 2 ^ 20)

-- the operands of a word, and its instruction: the name of its row and its operands
abbrev pub parts_text : Option ℕ → List Part → ℕ → List ℕ
parts_text to [] w = []
parts_text to (p ∷ more) w = part_text to p (part_number p w) ++ parts_text to more w

abbrev pub row_text : Option ℕ → Row → ℕ → List ℕ
row_text to r w = name_at r.0 ++ parts_text to (parts_of r) w

-- a word of the text: its instruction, or, where it has none that is shown, its number
abbrev pub code_text : Option ℕ → ℕ → List ℕ
code_text to w = found (row_of w) (λ r. row_text to r w) (codes ".word " ++ decimal w)

-- the instructions that are shown as such: a fence may have fields that no text names
abbrev pub IsShown : Instr → Type 0
IsShown (i.Fence rd rs1 imm) = ⊥
IsShown instr = Unit {0}

-- the limit that an entry has of its own
abbrev pub own_text : Option ℕ → List ℕ
own_text None = []
own_text (Some n) = 32 ∷ decimal n

-- a section, by its own name
abbrev pub section_text : Section → List ℕ
section_text section.Text = codes ".text"
section_text section.Rodata = codes ".rodata"
section_text section.Data = codes ".data"
section_text section.Bss = codes ".bss"

-- what a line says, as text, where a listing has such lines
unfoldable pub statement_text : Statement → List ℕ
statement_text (say.Value w n next) = codes ".word " ++ decimal n
statement_text (say.Version v) = codes ".svc_version " ++ decimal (version_number v)
statement_text say.ReadOnly = codes ".svc_readonly"
statement_text (say.Entry limit) = codes ".svc_entry" ++ own_text limit
statement_text (say.Start n) = codes ".svc_start " ++ decimal n
statement_text (say.Limit n) = codes ".svc_limit " ++ decimal n
statement_text (say.Register r n) = codes ".svc_register" ++ (first_text r ++ (32 ∷ decimal n))
statement_text (say.Section s) = section_text s
statement_text _ = []

-- what has a text that is read back: numbers of 32 bits, and of values those that end their line
abbrev pub HasText : Statement → Type 0
HasText (say.Value w n next) = (w ≡ wide.Word) × (next ≡ go.Line) × (n < 2 ^ 32)
HasText (say.Version v) = Unit {0}
HasText say.ReadOnly = Unit {0}
HasText (say.Entry None) = Unit {0}
HasText (say.Entry (Some n)) = n < 2 ^ 32
HasText (say.Start n) = n < 2 ^ 32
HasText (say.Limit n) = n < 2 ^ 32
HasText (say.Register r n) = n < 2 ^ 32
HasText (say.Section s) = Unit {0}
HasText _ = ⊥

-- how the comment behind a word begins: with its address
abbrev pub address_note : ℕ → List ℕ
address_note address = 9 ∷ (codes "# 0x" ++ hex_text address)

-- the comments behind a word of the text, which tells its bits, and behind a word of the data: both end with the name
-- of the address, if names are given and it has one
abbrev pub word_note : Option (List Name) → (address word : ℕ) → List ℕ
word_note names address word = address_note address ++ (32 ∷ (hex_text word ++ noted_by names address))

abbrev pub datum_note : Option (List Name) → (address : ℕ) → List ℕ
datum_note names address = address_note address ++ noted_by names address

-- a line: a statement and the comment behind it, if any; a label; a word of the text, the address that it leads to, if
-- any, and the comment behind it; or the start, by its label
pub data Line : Type 0 where
  Says : Statement → List ℕ → Line
  Labels : ℕ → Line
  Codes : ℕ → Option ℕ → List ℕ → Line
  Starts : ℕ → Line

abbrev pub bare : Statement → Line
bare s = Says s []

abbrev pub line_of : Line → List ℕ
line_of (Says s note) = statement_text s ++ (note ++ (10 ∷ []))
line_of (Labels address) = label_text address ++ (58 ∷ 10 ∷ [])
line_of (Codes w to note) = code_text to w ++ (note ++ (10 ∷ []))
line_of (Starts address) = codes ".svc_start " ++ (label_text address ++ (10 ∷ []))

unfoldable pub text_of : List Line → List ℕ
text_of ls = flat_map line_of ls

-- the address that so many steps of two bytes lead to, of which `half` of the numbers are forward: none below 0
abbrev pub step_target : (half address steps : ℕ) → Option ℕ
step_target half address steps =
    if nat_lt steps half then Some (address + 2 * steps) else
    if nat_le (2 * (2 * half - steps)) address then Some (address - 2 * (2 * half - steps)) else None

-- an address at which a word of the text begins, which has so many
abbrev pub word_start : ℕ → Option ℕ → Option ℕ
word_start count None = None
word_start count (Some address) = if address % 4 == 0 && nat_lt address (4 * count) then Some address else None

-- where an operand of the word at an address leads, and the first of its operands that leads anywhere
abbrev pub led_by : (address w : ℕ) → Part → Option ℕ
led_by address w part.Branch = step_target 2048 address (part_number part.Branch w)
led_by address w part.Jump = step_target 524288 address (part_number part.Jump w)
led_by address w _ = None

abbrev pub led_along : (address w : ℕ) → List Part → Option ℕ
led_along address w [] = None
led_along address w (p ∷ more) = found (led_by address w p) (λ target. Some target) (led_along address w more)

-- where in the text the word at an address leads
abbrev pub target_by : (count address w : ℕ) → Row → Option ℕ
target_by count address w r = word_start count (led_along address w (parts_of r))

abbrev pub target_of : (count address w : ℕ) → Option ℕ
target_of count address w = found (row_of w) (λ r. target_by count address w r) None

abbrev pub is_at : ℕ → Option ℕ → Bool
is_at address None = false
is_at address (Some target) = target == address

-- whether one of these words, of which the first is the n-th, leads to an address
abbrev pub is_target : (count address n : ℕ) → List ℕ → Bool
is_target count address n [] = false
is_target count address n (w ∷ ws) = is_at address (target_of count (4 * n) w) || is_target count address (suc n) ws

-- the n-th word of a text has a label where it is an entry or a target
unfoldable pub is_labelled : (entries text : List ℕ) → ℕ → Bool
is_labelled entries text n = list_any (λ e. e == 4 * n) entries || is_target (length text) (4 * n) 0 text

-- the lines that set registers, from the n-th register on: those that aren't 0
unfoldable pub setting : ℕ → ℕ → List Line
setting n v = if v == 0 then [] else bare (say.Register (register n) v) ∷ []

abbrev pub settings : ℕ → List ℕ → List Line
settings n [] = []
settings n (v ∷ vs) = setting n v ++ settings (suc n) vs

-- the entries, each with the limit that its line gives it: none in version 1, where all have one
abbrev pub own_limit : Version → ℕ → Option ℕ
own_limit version.One limit = None
own_limit version.Two limit = Some limit

abbrev pub marks : Version → (entries limits : List ℕ) → List (ℕ × Option ℕ)
marks v (e ∷ es) (l ∷ ls) = (e, own_limit v l) ∷ marks v es ls
marks v [] ls = []
marks v (e ∷ es) [] = []

-- the line of a word of a text of so many words, and that of a word of the data, at this address
abbrev pub line_for : Option (List Name) → (count address word : ℕ) → Line
line_for names count address word = Codes word (target_of count address word) (word_note names address word)

abbrev pub datum : Option (List Name) → (address word : ℕ) → Line
datum names address word = Says (say.Value wide.Word word go.Line) (datum_note names address)

-- the label of the n-th word, if it has one
unfoldable pub labels : (ℕ → Bool) → ℕ → List Line
labels labelled n = if labelled n then Labels (4 * n) ∷ [] else []

-- the lines of text words, of which the first is the n-th, of the entries among them, and of their labels
unfoldable pub code : Option (List Name) → ℕ → (ℕ → Bool) → ℕ → List (ℕ × Option ℕ) → List ℕ → List Line
code names count labelled n ms [] = []
code names count labelled n [] (w ∷ ws) =
    labels labelled n ++ (line_for names count (4 * n) w ∷ code names count labelled (suc n) [] ws)
code names count labelled n (m ∷ ms) (w ∷ ws) =
    labels labelled n
    ++ (if m.0 == 4 * n then
    bare (say.Entry m.1) ∷ line_for names count (4 * n) w ∷ code names count labelled (suc n) ms ws else
    line_for names count (4 * n) w ∷ code names count labelled (suc n) (m ∷ ms) ws)

-- the lines of data words from an address on
abbrev pub data_lines : Option (List Name) → ℕ → List ℕ → List Line
data_lines names address [] = []
data_lines names address (w ∷ ws) = datum names address w ∷ data_lines names (address + 4) ws

-- the lines of the data, where in version 2 the first ones are read-only
abbrev pub all_data : Option (List Name) → Version → ℕ → List ℕ → List Line
all_data names version.One n words = data_lines names DATA_START words
all_data names version.Two n words =
    data_lines names DATA_START (take n words)
    ++ (bare say.ReadOnly ∷ data_lines names (DATA_START + 4 * n) (drop n words))

-- the lines before the registers: in version 1 the limit of all tasks is one of them
abbrev pub head_lines : Version → (limit start : ℕ) → List Line
head_lines version.One limit start = bare (say.Version version.One) ∷ bare (say.Limit limit) ∷ Starts start ∷ []
head_lines version.Two limit start = bare (say.Version version.Two) ∷ Starts start ∷ []

-- the lines of an image, with the names of addresses, if names are given
unfoldable pub lines_of : Option (List Name) → Image → List Line
lines_of names img =
    head_lines img.version (slice_index img.limits 0) img.start ++ (settings 1 img.registers
    ++ (code names (length img.text) (is_labelled img.entries img.text) 0
    (marks img.version img.entries img.limits) img.text ++
    (bare (say.Section section.Data) ∷ all_data names img.version img.read_only img.words)))

-- the listing of an image, with the names of addresses, if names are given
unfoldable pub listing_of : Option (List Name) → Image → List ℕ
listing_of names img = text_of (lines_of names img)
