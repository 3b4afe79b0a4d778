-- What names tell, if any are given.
use Rattle.std.specs.Prelude.{◌≡◌, ◌∷◌, [], ℕ, List, Option, Some, None, decimal, option_map}
use denote.Ref.{Bor}
use Rattle.svc_names.specs.declared.name.Name.{Name}
use Rattle.svc_names.specs.declared.names.Names.{Names}
use Rattle.svc_names.specs.declared.rows.Rows.{Rows}
use Rattle.svc_names.specs.Near.{label, nearest}
use Rattle.svc_names.specs.Rows.{data_address, with_names}

-- the names that are given
abbrev pub listed : Option (Bor Names) → Option (List Name)
listed given = option_map (λ (n : Bor Names). n.now.list.items) given

-- a word of data by the name found for it, or by its number
abbrev pub word_label : (word : ℕ) → Option Name → List ℕ
word_label word None = decimal word
word_label word (Some n) = label (data_address word) n

-- a word of data by its name, if names are given and it has one
abbrev pub word_text : Option (List Name) → (word : ℕ) → List ℕ
word_text None word = decimal word
word_text (Some names) word = word_label word (nearest (data_address word) names)

-- the name found for an address, behind a space
abbrev pub spaced_label : (address : ℕ) → Option Name → List ℕ
spaced_label address None = []
spaced_label address (Some n) = 32 ∷ label address n

-- the name of an address behind a space, if names are given and it has one
abbrev pub noted_by : Option (List Name) → (address : ℕ) → List ℕ
noted_by None address = []
noted_by (Some names) address = spaced_label address (nearest address names)

-- the rows of a text: with names, if any are given, each has one field more
abbrev pub told_with : Option (List Name) → Rows → List ℕ → List ℕ
told_with None rows text = text
told_with (Some names) rows text = with_names names rows text
