-- The rows of words by what is kept of them are those of the words.
use Rattle.std.proofs.Common.{ℕ, zero, suc, ◌≡◌, ◌<◌, ◌++◌, List, length, get_or, refl, ap, ap₂, ◌∙◌, arith}
use Rattle.std.specs.Prelude.{unwrap_or}
use Rattle.svc_image.specs.Image.{Image}
use Rattle.svc_core_laws.specs.Words.{program}
use Rattle.svc_depend_laws.specs.Counts.{readers, writers}
use Rattle.svc_depend.specs.declared.word.Word.{Word}
use Rattle.svc_depend.specs.Tables.{text_over, word_header, word_row, word_row_of, word_table}
use Rattle.svc_depend.specs.Told.{AreWords}
use Rattle.svc_depend.specs.Words.{untouched}
use Rattle.svc_depend.specs.WordRows.{kept_row, kept_table}

pub text_same : (f g : ℕ → List ℕ) (n : ℕ) → ((i : ℕ) → i < n → f i ≡ g i) → text_over f n ≡ text_over g n
text_same f g zero h = refl
text_same f g (suc n) h = ap₂ (λ x y. x ++ y) (text_same f g n (λ i b. h i (omega (arith, b)))) (h n (omega arith))

row_same : (img : Image) (tasks : ℕ) (words : List Word) (word : ℕ) → AreWords img tasks words → word < length words → kept_row words word ≡ word_row img tasks word
row_same img tasks words word are below =
    ap₂ (λ r w. word_row_of word r w (unwrap_or (get_or words word untouched).nearest 0)) (are.readers_are word below) (are.writers_are word below)
    ∙ ap (λ n. word_row_of word (readers (program img) tasks word) (writers (program img) tasks word) (unwrap_or n 0)) (are.nearest_is word below)

pub table_same : (img : Image) (tasks : ℕ) (words : List Word) → AreWords img tasks words → kept_table words ≡ word_table img tasks
table_same img tasks words are =
    ap (λ l. word_header ++ l)
    (text_same (kept_row words) (word_row img tasks) (length words) (λ i b. row_same img tasks words i are b)
    ∙ ap (text_over (word_row img tasks)) are.size)
