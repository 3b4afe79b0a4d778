-- How addresses and words are told: by their names, if names are given and they have one, or else by their numbers.
use Rattle.std.specs.Prelude.{ℕ, List, [], ◌++◌, Option, Some, None, codes, decimal}
use Rattle.svc_base.specs.declared.ids.WordAddr.{WordAddr}
use Rattle.svc_names.specs.declared.name.Name.{Name}
use Rattle.svc_names.specs.Given.{noted_by}
use Rattle.svc_names.specs.Near.{label, near_text, nearest}
use Rattle.svc_names.specs.Rows.{data_address}
use Rattle.svc_sheet.specs.declared.names.Label.{Label}
use Rattle.svc_sheet.specs.declared.names.Label.TheVariants as told

-- what is told of an address or a word
abbrev pub label_text : Label → List ℕ
label_text (told.Name near) = near_text near
label_text (told.Number before number) = before.now ++ decimal number

-- an address by the name found for it, or by its number
abbrev pub address_found : (address : ℕ) → Option Name → List ℕ
address_found address None = decimal address
address_found address (Some n) = label address n

-- the same, if names are given
abbrev pub address_label : Option (List Name) → (address : ℕ) → List ℕ
address_label None address = decimal address
address_label (Some names) address = address_found address (nearest address names)

-- a word of data by the name found for it, or by its number
abbrev pub word_found : (word : ℕ) → Option Name → List ℕ
word_found word None = codes "word " ++ decimal word
word_found word (Some n) = label (data_address word) n

-- the same, if names are given
abbrev pub word_label : Option (List Name) → (word : ℕ) → List ℕ
word_label None word = codes "word " ++ decimal word
word_label (Some names) word = word_found word (nearest (data_address word) names)

-- a line with the name found for a word
abbrev pub called : (word : ℕ) → Option Name → List ℕ
called word None = []
called word (Some n) =
    codes "word " ++ decimal word ++ codes " is " ++ label (data_address word) n ++ codes "\n"

-- the same, if names are given and there is a word
abbrev pub word_called : Option (List Name) → Option WordAddr → List ℕ
word_called None word = []
word_called (Some names) None = []
word_called (Some names) (Some word) = called word.0 (nearest (data_address word.0) names)

-- a line with the address of an instruction, and its name, if names are given and it has one
abbrev pub address_line : Option (List Name) → (address : Option ℕ) → List ℕ
address_line names None = []
address_line names (Some address) = codes "at address " ++ decimal address ++ noted_by names address ++ codes "\n"
