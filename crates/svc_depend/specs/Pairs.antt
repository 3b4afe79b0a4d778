-- The texts of what a task needs of another one: a row for each such pair, or an edge of a graph.
use Rattle.std.specs.Prelude.{ℕ, zero, suc, ◌-◌, nat_lt, cond, List, [], ◌∷◌, ◌++◌, Option, length, take, codes}
use Rattle.std.specs.Prelude.{decimal, flat_map}
use Rattle.svc_image.specs.Image.{Image}
use Rattle.svc_core_laws.specs.Turns.{data_words}
use Rattle.svc_core_laws.specs.Words.{program}
use Rattle.svc_text.specs.Rows.{row}
use Rattle.svc_names.specs.declared.name.Name.{Name}
use Rattle.svc_names.specs.Given.{listed, word_text}
use Rattle.svc_depend_laws.specs.Pairs.{words_of}
use Rattle.svc_depend.specs.declared.pairs.PairForm.{PairForm}
use Rattle.svc_depend.specs.declared.pairs.PairForm.TheVariants as pair
use Rattle.svc_depend.specs.Tables.{text_over}

-- ---- a pair, by the words that the one needs of the other

abbrev pub pair_row : (task on : ℕ) → List ℕ → List ℕ
pair_row task on words = row (decimal task) (on ∷ (task - on) ∷ length words ∷ [])

-- words one after another, by their names if any are given, with a space between two
abbrev pub words_text : Option (List Name) → List ℕ → List ℕ
words_text names [] = []
words_text names (w ∷ ws) = word_text names w ++ flat_map (λ v. codes " " ++ word_text names v) ws

-- how many more there are, if any
abbrev pub more_text : ℕ → List ℕ
more_text zero = []
more_text (suc n) = codes " +" ++ decimal (suc n)

-- the first three, and how many more there are
abbrev pub label : Option (List Name) → List ℕ → List ℕ
label names words = words_text names (take 3 words) ++ more_text (length words - 3)

abbrev pub edge : Option (List Name) → (task on : ℕ) → List ℕ → List ℕ
edge names task on words =
    codes "  " ++ decimal task ++ codes " -> " ++ decimal on ++ codes " [label=\"" ++ label names words
    ++ codes "\"];\n"

abbrev pub pair_text : PairForm → (task on : ℕ) → List ℕ → List ℕ
pair_text pair.Rows task on words = pair_row task on words
pair_text (pair.Graph names) task on words = edge (listed names) task on words

-- nothing is told of two tasks of which the one needs nothing of the other
abbrev pub pair_told : PairForm → (task on : ℕ) → List ℕ → List ℕ
pair_told form task on words = cond (nat_lt 0 (length words)) (pair_text form task on words) []

-- ---- all pairs of the first so many tasks, by task, and then by the one that it needs

abbrev pub pairs_of : PairForm → Image → (task : ℕ) → List ℕ
pairs_of form img task = text_over (λ on. pair_told form task on (words_of (program img) (data_words img) task on)) task

abbrev pub pairs_begin : PairForm → List ℕ
pairs_begin pair.Rows = codes "task,on,distance,words\n"
pairs_begin (pair.Graph names) = codes "digraph depend {\n"

abbrev pub pairs_end : PairForm → List ℕ
pairs_end pair.Rows = []
pairs_end (pair.Graph names) = codes "}\n"

abbrev pub pairs_text : PairForm → Image → (tasks : ℕ) → List ℕ
pairs_text form img tasks = pairs_begin form ++ (text_over (pairs_of form img) tasks ++ pairs_end form)
