-- What the program answers, over files and streams that are equal to given ones.
use Rattle.std.proofs.Common.{◌≡◌, ℕ, List, [], Option, Some, subst}
use Rattle.svc_request.specs.declared.request.Request.{Request}
use Rattle.svc_answer.specs.Requests.{Does}
use Rattle.svc_command.specs.Asked.{KeepsAsked, MayAsk}
use Rattle.svc_desk.specs.declared.packed.FileSize.{FileSize}
use Rattle.svc_desk.specs.Held.{held_by, held_over}

-- what is said of words, of the files before and after, and of what was printed before
abbrev Fact : Type 1
Fact = List (List ℕ) → (before after : List ℕ → Option (List ℕ)) → (printed : List ℕ) → Type 0

-- at a desk at which no file was saved, and at which the files that are read are the same afterwards
at_desk : (P : Fact) (words asked : List (List ℕ)) (sizes before after : List FileSize) (contents bytes left : List ℕ) (no_sizes : List FileSize) (no_bytes : List ℕ)
    (saved_sizes : List FileSize) (saved out : List ℕ)
    → words ≡ asked → before ≡ sizes → bytes ≡ contents → after ≡ sizes → left ≡ contents → no_sizes ≡ [] → no_bytes ≡ [] → out ≡ []
    → P words (λ name. held_over no_sizes no_bytes before bytes name) (λ name. held_over saved_sizes saved after left name) out
    → P asked (held_by sizes contents) (held_over saved_sizes saved sizes contents) []
at_desk P words asked sizes before after contents bytes left no_sizes no_bytes saved_sizes saved out
    the_words the_sizes the_bytes same_sizes same_bytes none_sized none blank holds =
    let held = λ (s : List FileSize) (b : List ℕ) (ns : List FileSize) (nb : List ℕ) (name : List ℕ). held_over ns nb s b name in
    let kept = λ (s : List FileSize) (b : List ℕ) (name : List ℕ). held_over saved_sizes saved s b name in
    let one = subst (λ s. P words (held s bytes no_sizes no_bytes) (kept after left) out) the_sizes holds in
    let two = subst (λ b. P words (held sizes b no_sizes no_bytes) (kept after left) out) the_bytes one in
    let three = subst (λ ns. P words (held sizes contents ns no_bytes) (kept after left) out) none_sized two in
    let four = subst (λ nb. P words (held sizes contents [] nb) (kept after left) out) none three in
    let five = subst (λ s. P words (held_by sizes contents) (kept s left) out) same_sizes four in
    let six = subst (λ b. P words (held_by sizes contents) (kept sizes b) out) same_bytes five in
    let seven = subst (λ it. P it (held_by sizes contents) (held_over saved_sizes saved sizes contents) out) the_words six in
    subst (λ o. P asked (held_by sizes contents) (held_over saved_sizes saved sizes contents) o) blank seven

-- what was done
pub told : (words asked : List (List ℕ)) (sizes before after : List FileSize) (contents bytes left : List ℕ) (no_sizes : List FileSize) (no_bytes : List ℕ)
    (saved_sizes : List FileSize) (saved out : List ℕ) (new : Option (List ℕ)) (exit : ℕ)
    → words ≡ asked → before ≡ sizes → bytes ≡ contents → after ≡ sizes → left ≡ contents → no_sizes ≡ [] → no_bytes ≡ [] → out ≡ []
    → ((x : Request) × MayAsk words x × Does x (λ name. held_over no_sizes no_bytes before bytes name) (λ name. held_over saved_sizes saved after left name) (Some out) new exit)
    → (x : Request) × MayAsk asked x × Does x (held_by sizes contents) (held_over saved_sizes saved sizes contents) (Some []) new exit
told words asked sizes before after contents bytes left no_sizes no_bytes saved_sizes saved out new exit =
    at_desk (λ it before after printed. (x : Request) × MayAsk it x × Does x before after (Some printed) new exit)
    words asked sizes before after contents bytes left no_sizes no_bytes saved_sizes saved out

-- which files were kept
pub kept : (words asked : List (List ℕ)) (sizes before after : List FileSize) (contents bytes left : List ℕ) (no_sizes : List FileSize) (no_bytes : List ℕ)
    (saved_sizes : List FileSize) (saved out : List ℕ)
    → words ≡ asked → before ≡ sizes → bytes ≡ contents → after ≡ sizes → left ≡ contents → no_sizes ≡ [] → no_bytes ≡ [] → out ≡ []
    → KeepsAsked words (λ name. held_over no_sizes no_bytes before bytes name) (λ name. held_over saved_sizes saved after left name)
    → KeepsAsked asked (held_by sizes contents) (held_over saved_sizes saved sizes contents)
kept words asked sizes before after contents bytes left no_sizes no_bytes saved_sizes saved out =
    at_desk (λ it before after printed. KeepsAsked it before after)
    words asked sizes before after contents bytes left no_sizes no_bytes saved_sizes saved out
