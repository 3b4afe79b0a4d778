-- Files that are read one behind another.
use Rattle.std.specs.Prelude.{IfSome}
use Rattle.std.proofs.Common.{◌≡◌, ◌∙◌, ◌++◌, ◌∷◌, ◌+◌, ◌<◌, ℕ, List, [], Option, Some, None, ap, get_or, length, subst, sym, take}
use Rattle.std.proofs.lemmas.List.{append_assoc, append-nil, take_more}
use denote.Ref.{Bor}
use Rattle.svc_asm.specs.Texts.{behind_first, next_text}
use Rattle.svc_request.specs.Held.{Held}
use Rattle.svc_answer.specs.Assembly.{all_held, with_first}

-- these bytes are a start and other texts behind it, if those are known
abbrev pub Follows : (start bytes : List ℕ) → Option (List (List ℕ)) → Type 0
Follows start bytes texts = IfSome texts (λ others. bytes ≡ start ++ behind_first others)

-- the first of the others belongs to the start
forth : (start text bytes : List ℕ) (texts : Option (List (List ℕ))) → Follows start bytes (with_first (Some text) texts)
    → Follows (start ++ (next_text ++ text)) bytes texts
forth start text bytes None is = tt
forth start text bytes (Some others) is =
    is ∙ (ap (λ b. start ++ b) (sym (append_assoc next_text text (behind_first others)))
    ∙ sym (append_assoc start (next_text ++ text) (behind_first others)))

back : (start text bytes : List ℕ) (texts : Option (List (List ℕ))) → Follows (start ++ (next_text ++ text)) bytes texts
    → Follows start bytes (with_first (Some text) texts)
back start text bytes None is = tt
back start text bytes (Some others) is =
    is ∙ (append_assoc start (next_text ++ text) (behind_first others)
    ∙ ap (λ b. start ++ b) (append_assoc next_text text (behind_first others)))

-- a text more behind no others
last : (known : Option (List ℕ)) (start bytes new : List ℕ) → bytes ≡ start ++ []
    → IfSome known (λ k. new ≡ bytes ++ next_text ++ k) → Follows start new (with_first known (Some []))
last None start bytes new is added = tt
last (Some k) start bytes new is added =
    added ∙ (ap (λ b. b ++ next_text ++ k) (is ∙ append-nil start)
    ∙ (append_assoc start next_text k ∙ ap (λ t. start ++ (next_text ++ t)) (sym (append-nil k))))

-- one behind others, of which the first is in the way
within : (known : Option (List ℕ)) (old more : Option (List (List ℕ))) (start bytes new : List ℕ)
    → ((s : List ℕ) → Follows s bytes old → Follows s new more)
    → Follows start bytes (with_first known old) → Follows start new (with_first known more)
within None old more start bytes new grow is = tt
within (Some k) old more start bytes new grow is =
    back start k new more (grow (start ++ (next_text ++ k)) (forth start k bytes old is))

-- a file more behind those that were read
pub file_more : (held : Held) (names : List (Bor (List ℕ))) (name : Bor (List ℕ)) (start bytes new : List ℕ)
    → Follows start bytes (all_held held names) → IfSome (held name.now) (λ k. new ≡ bytes ++ next_text ++ k)
    → Follows start new (all_held held (names ++ name ∷ []))
file_more held [] name start bytes new is added = last (held name.now) start bytes new is added
file_more held (first ∷ names) name start bytes new is added =
    within (held first.now) (all_held held names) (all_held held (names ++ name ∷ [])) start bytes new
    (λ s before. file_more held names name s bytes new before added) is

-- the same in a loop over names
pub file_next : (held : Held) (names : List (Bor (List ℕ))) (i : ℕ) (d : Bor (List ℕ)) (start bytes pushed new : List ℕ) → i < length names
    → Follows start bytes (all_held held (take i names)) → pushed ≡ bytes ++ next_text
    → IfSome (held (get_or names i d).now) (λ k. new ≡ pushed ++ k) → Follows start new (all_held held (take (i + 1) names))
file_next held names i d start bytes pushed new inside before is added =
    let name = get_or names i d in
    subst (λ (l : List (Bor (List ℕ))). Follows start new (all_held held l)) (sym (take_more names i d inside))
    (file_more held (take i names) name start bytes new before
    (subst (λ (p : List ℕ). IfSome (held name.now) (λ k. new ≡ p ++ k)) is added))
