-- What is written of a word by its row is read back, by its numbers or by the label that it leads to.
use Rattle.std.proofs.Common.{◌≡◌, ℕ, suc, ◌*◌, ◌%◌, ◌^◌, ◌<◌, ◌≤◌, ◌⊎◌, Bool, true, false, ◌&&◌, List, [], ◌∷◌, ◌++◌, length, Option, Some, None, refl, ap, sym, ◌∙◌, arith, inl, inr, subst, if◌then◌else◌, codes}
use Rattle.std.specs.Prelude.{option_map}
use Rattle.std.specs.List.{AllByRecursion, find}
use Rattle.std.specs.Str.{bytes_eq}
use Rattle.std.proofs.lemmas.Bool.{and_parts, eqb-true, cases_lt, cases_Bool, le-leb, lt-leb}
use Rattle.std.proofs.lemmas.List.{append_assoc, append-nil}
use Rattle.svc_rv32i.specs.Meaning.{register}
use Rattle.svc_layout.specs.declared.statement.Statement.TheVariants as say
use Rattle.svc_layout.specs.Options.{◌>>=◌}
use Rattle.svc_layout.specs.Sources.{shared_spot}
use Rattle.svc_layout.specs.Layouts.{Layout}
use Rattle.svc_layout.specs.Places.{here}
use Rattle.svc_layout.specs.Addresses.{address_of}
use Rattle.svc_layout.specs.Notes.{is_turned}
use Rattle.svc_tokens.specs.Characters.{is_name, past_blanks, name_at, past_name, behind, found}
use Rattle.svc_tokens.specs.Names.{letters_of}
use Rattle.svc_tokens.specs.Tokens.{first_register_at, base_at}
use Rattle.svc_expressions.specs.Operators.{operator_at}
use Rattle.svc_instructions.specs.Offsets.{reach, target_at, is_far, branch_at}
use Rattle.svc_instructions.specs.declared.table.Part.{Part}
use Rattle.svc_instructions.specs.declared.table.Part.TheVariants as part
use Rattle.svc_instructions.specs.declared.table.Row.{Row}
use Rattle.svc_instructions.specs.declared.table.TheConstants.{ROWS, ALIASES, COUPLES}
use Rattle.svc_instructions.specs.Instructions.{parts_of, part_number, part_at, with_part, parts_at, over, row_at, rows_at, alone_at, fixed_bits, is_of, row_of}
use Rattle.svc_instructions.specs.Couples.{has_name, couple_at, set_at, relative_upper_at, relative_named, single_at, longer_at, other_at, lettered_at, instruction_at}
use Rattle.svc_asm_lines.specs.Statements.{statement_at}
use Rattle.svc_list.specs.Listings.{register_text, last_text, upper_text, label_text, reach_text, part_text, parts_text, row_text, step_target, led_by, led_along}
use Rattle.svc_list.proofs.NamesBack.{stops, Ends, ends_over, no_slash}
use Rattle.svc_list.proofs.OperandsBack.{register_back, spaced_register_back, short_back, target_back, upper_back, upper_no_mark, amount_back}
use Rattle.svc_list.proofs.LinesBack.{names, by_name, names_stop}
use Rattle.svc_list.proofs.AimsBack.{label_offset, target_by, aims, known_aims, unknown_aims}
use Rattle.svc_list.proofs.FilledBack.{filled, upper_fills, jump_fills, register_fills, shift_fills, immediate_fills, load_fills, store_fills, branch_fills, system_fills, lui_fixed, auipc_fixed, load_fixed, jalr_fixed}
use Rattle.svc_list.proofs.Parts.{limit, taken_fits, branch_fits, jump_fits}

-- the number that a pass reads of an operand: how far a label is, the first one doesn't know
abbrev pub passed : Bool → Option ℕ → ℕ → ℕ
passed known None n = n
passed known (Some t) n = if known then n else 0

abbrev pub seen : Bool → Option ℕ → Part → ℕ → ℕ
seen known to part.Branch n = passed known to n
seen known to part.Jump n = passed known to n
seen known to part.End n = n
seen known to part.Comma n = n
seen known to part.Rd n = n
seen known to part.Rs1 n = n
seen known to part.Rs2 n = n
seen known to part.Base n = n
seen known to part.Immediate n = n
seen known to part.StoreOffset n = n
seen known to part.Amount n = n
seen known to part.Upper n = n
seen known to part.Order n = n

-- the word that it makes of a row's operands
abbrev pub refilled : Bool → Option ℕ → List Part → ℕ → ℕ → ℕ
refilled known to [] w word = word
refilled known to (p ∷ more) w word = refilled known to more w (with_part word p (seen known to p (part_number p w)))

-- no branch is turned, and no text shares a name
abbrev pub Near : Layout → Type 0
Near d = ((left : ℕ) → is_turned d left ≡ false) × ((name : List ℕ) → shared_spot d.sources name ≡ None)

none_far : (known : Bool) → (known && false) ≡ false
none_far true = refl
none_far false = refl

not_far : (d : Layout) → Near d → (text : List ℕ) → is_far d text ≡ false
not_far d near text = rw (near.0 (length text), near.1 (name_at text)) (none_far d.known)

-- where labels are known, a word leads to its own; where they aren't, each stands for here
abbrev pub Reached : Bool → Layout → ℕ → List Part → ℕ → Type 0
Reached true d t ps w = (d.known ≡ true) × (address_of d (label_text t) ≡ Some t) × (led_along (here d) w ps ≡ Some t)
Reached false d t ps w = (d.known ≡ false) × (address_of d (label_text t) ≡ Some (here d))

abbrev pub Reaches : Bool → Layout → Option ℕ → List Part → ℕ → Type 0
Reaches known d None ps w = Unit {0}
Reaches known d (Some t) ps w = Reached known d t ps w

-- nothing follows a target, and nothing is of a fence
abbrev pub is_last : List Part → Bool
is_last [] = true
is_last (part.End ∷ more) = is_last more
is_last (p ∷ more) = false

-- no operator is written first
abbrev pub is_quiet : List Part → Bool
is_quiet [] = true
is_quiet (part.End ∷ more) = is_quiet more
is_quiet (part.Base ∷ more) = true
is_quiet (p ∷ more) = false

-- what is written as a number
abbrev pub is_number : Part → Bool
is_number part.Immediate = true
is_number part.StoreOffset = true
is_number part.Amount = true
is_number part.Upper = true
is_number p = false

-- what is no target, and no set of accesses
abbrev pub is_plain : Part → Bool
is_plain part.Branch = false
is_plain part.Jump = false
is_plain part.Order = false
is_plain p = true

abbrev pub is_shown : List Part → Bool
is_shown [] = true
is_shown (part.Branch ∷ more) = is_last more
is_shown (part.Jump ∷ more) = is_last more
is_shown (part.Order ∷ more) = false
is_shown (part.Immediate ∷ more) = is_quiet more && is_shown more
is_shown (part.StoreOffset ∷ more) = is_quiet more && is_shown more
is_shown (part.Amount ∷ more) = is_quiet more && is_shown more
is_shown (part.Upper ∷ more) = is_quiet more && is_shown more
is_shown (p ∷ more) = is_shown more

small5 : (n : ℕ) → n < 2 ^ 5 → n % 2 ^ 5 ≡ n
small5 n h = omega arith

small12 : (n : ℕ) → n < 2 ^ 12 → n % 2 ^ 12 ≡ n
small12 n h = omega arith

small20 : (n : ℕ) → n < 2 ^ 20 → n % 2 ^ 20 ≡ n
small20 n h = omega arith

register_reads : (n : ℕ) → n < 2 ^ 5 → (register (n % 2 ^ 5)).number ≡ n
unfolding register
register_reads n h = omega arith

-- nothing is written behind a target, and nothing leads further
last_text_none : (to : Option ℕ) (ps : List Part) (w : ℕ) → is_last ps ≡ true → parts_text to ps w ≡ []
unfolding part_text
last_text_none to [] w h = refl
last_text_none to (part.End ∷ more) w h = last_text_none to more w h
last_text_none to (p ∷ more) w h = absurd (cc)

last_leads_none : (address w : ℕ) (ps : List Part) → is_last ps ≡ true → led_along address w ps ≡ None
last_leads_none address w [] h = refl
last_leads_none address w (part.End ∷ more) h = last_leads_none address w more h
last_leads_none address w (p ∷ more) h = absurd (cc)

last_led : (o : Option ℕ) (t : ℕ) → found o (λ target. Some target) None ≡ Some t → o ≡ Some t
last_led None t e = e
last_led (Some x) t e = e

-- where labels are known, so many steps lead to the label
abbrev pub AimsAt : Bool → Layout → (t half n : ℕ) → Type 0
AimsAt true d t half n = (d.known ≡ true) × (address_of d (label_text t) ≡ Some t) × (step_target half (here d) n ≡ Some t)
AimsAt false d t half n = (d.known ≡ false) × (address_of d (label_text t) ≡ Some (here d))

abbrev pub Aims : Bool → Layout → Option ℕ → (half n : ℕ) → Type 0
Aims known d None half n = Unit {0}
Aims known d (Some t) half n = AimsAt known d t half n

its_aims : (known : Bool) (d : Layout) (to : Option ℕ) (p : Part) (more : List Part) (w half n : ℕ) → is_last more ≡ true → led_by (here d) w p ≡ step_target half (here d) n → Reaches known d to (p ∷ more) w → Aims known d to half n
its_aims known d None p more w half n last e reaches = tt
its_aims true d (Some t) p more w half n last e reaches =
    (reaches.0, reaches.1, sym e ∙ last_led (led_by (here d) w p) t (ap (λ o. found (led_by (here d) w p) (λ target. Some target) o) (sym (last_leads_none (here d) w more last)) ∙ reaches.2))
its_aims false d (Some t) p more w half n last e reaches = reaches

-- a target, of which half of the numbers are forward, by its numbers or by its label
target_reads : (known : Bool) (d : Layout) (to : Option ℕ) (half n : ℕ) (rest tail : List ℕ) → half ≤ 524288 → 0 < half → n < 2 * half → Ends rest tail → Aims known d to half n
    → target_at half d (reach_text to half n ++ rest) ≡ Some (passed known to n, rest)
target_reads known d None half n rest tail small some fits ends aim = target_back d half n rest ends.stop ends.no_sign small fits
target_reads true d (Some t) half n rest tail small some fits ends aim =
    target_by d half (32 ∷ (label_text t ++ rest)) rest (reach d t) n (label_offset d t t rest tail ends aim.1) (known_aims d half t n aim.0 (aims half (here d) t n fits aim.2))
target_reads false d (Some t) half n rest tail small some fits ends aim =
    target_by d half (32 ∷ (label_text t ++ rest)) rest (reach d (here d)) 0 (label_offset d t (here d) rest tail ends aim.1) (unknown_aims d half (here d) some aim.0)

branch_reads : (known : Bool) (d : Layout) (to : Option ℕ) (more : List Part) (w : ℕ) (rest tail : List ℕ) → is_last more ≡ true → Ends rest tail → Reaches known d to (part.Branch ∷ more) w
    → target_at 2048 d (reach_text to 2048 (part_number part.Branch w % 2 ^ 12) ++ rest) ≡ Some (passed known to (part_number part.Branch w), rest)
branch_reads known d to more w rest tail last ends reaches =
    let n = part_number part.Branch w in
    ap (λ k. target_at 2048 d (reach_text to 2048 k ++ rest)) (small12 n (branch_fits w))
    ∙ target_reads known d to 2048 n rest tail (omega arith) (omega arith) (branch_fits w) ends (its_aims known d to part.Branch more w 2048 n last refl reaches)

jump_reads : (known : Bool) (d : Layout) (to : Option ℕ) (more : List Part) (w : ℕ) (rest tail : List ℕ) → is_last more ≡ true → Ends rest tail → Reaches known d to (part.Jump ∷ more) w
    → target_at 524288 d (reach_text to 524288 (part_number part.Jump w % 2 ^ 20) ++ rest) ≡ Some (passed known to (part_number part.Jump w), rest)
jump_reads known d to more w rest tail last ends reaches =
    let n = part_number part.Jump w in
    ap (λ k. target_at 524288 d (reach_text to 524288 k ++ rest)) (small20 n (jump_fits w))
    ∙ target_reads known d to 524288 n rest tail (omega arith) (omega arith) (jump_fits w) ends (its_aims known d to part.Jump more w 524288 n last refl reaches)

-- an operand that is no target is read back from its text
part_back : (d : Layout) (to : Option ℕ) (p : Part) (n : ℕ) (rest : List ℕ) → is_plain p ≡ true → n < limit p → stops rest ≡ true → (is_number p ≡ true → operator_at rest ≡ None) → part_at d p (part_text to p n ++ rest) ≡ Some (n, rest)
unfolding part_at part_text base_at past_blanks is_name
part_back d to part.End n rest k h s q = let none : 0 ≡ n = omega (arith, h) in ap (λ x. Some (x, rest)) none
part_back d to part.Comma n rest k h s q = let none : 0 ≡ n = omega (arith, h) in rw (no_slash 44 rest refl) (ap (λ x. Some (x, rest)) none)
part_back d to part.Rd n rest k h s q = rw (spaced_register_back (register (n % 2 ^ 5)) rest s) (ap (λ x. Some (x, rest)) (register_reads n h))
part_back d to part.Rs1 n rest k h s q = rw (spaced_register_back (register (n % 2 ^ 5)) rest s) (ap (λ x. Some (x, rest)) (register_reads n h))
part_back d to part.Rs2 n rest k h s q = rw (spaced_register_back (register (n % 2 ^ 5)) rest s) (ap (λ x. Some (x, rest)) (register_reads n h))
part_back d to part.Base n rest k h s q =
    let r = register (n % 2 ^ 5) in
    rw (append_assoc (register_text r) (41 ∷ []) rest, no_slash 40 (register_text r ++ (41 ∷ rest)) refl, register_back r (41 ∷ rest) refl, no_slash 41 rest refl)
    (ap (λ x. Some (x, rest)) (register_reads n h))
part_back d to part.Immediate n rest k h s q = rw (small12 n h) (short_back d n rest s (q refl) h)
part_back d to part.StoreOffset n rest k h s q = rw (small12 n h) (short_back d n rest s (q refl) h)
part_back d to part.Amount n rest k h s q = rw (small5 n h) (amount_back n rest h s (q refl))
part_back d to part.Upper n rest k h s q = rw (small20 n h) (upper_back d n rest h s (q refl))
part_back d to part.Order n rest k h s q = absurd (cc)
part_back d to part.Branch n rest k h s q = absurd (cc)
part_back d to part.Jump n rest k h s q = absurd (cc)

-- behind a number no operator is written
quiet_text : (to : Option ℕ) (ps : List Part) (w : ℕ) (rest tail : List ℕ) → is_quiet ps ≡ true → Ends rest tail → operator_at (parts_text to ps w ++ rest) ≡ None
unfolding part_text operator_at past_blanks
quiet_text to [] w rest tail h ends = ends.no_sign
quiet_text to (part.End ∷ more) w rest tail h ends = quiet_text to more w rest tail h ends
quiet_text to (part.Base ∷ more) w rest tail h ends = refl
quiet_text to (p ∷ more) w rest tail h ends = absurd (cc)

-- what stands behind an operand ends its name
offset_stops : (to : Option ℕ) (half n : ℕ) (rest : List ℕ) → stops (reach_text to half n ++ rest) ≡ true
unfolding is_name
offset_stops (Some t) half n rest = refl
offset_stops None half n rest = elim (cases_lt n half) [ inl h ↦ rw (le-leb (suc n) half (omega (arith, h))) refl | inr h ↦ rw (lt-leb (suc n) half (omega (arith, h))) refl ]

part_stops : (to : Option ℕ) (p : Part) (n : ℕ) (rest : List ℕ) → stops rest ≡ true → stops (part_text to p n ++ rest) ≡ true
unfolding part_text is_name
part_stops to part.End n rest s = s
part_stops to part.Order n rest s = s
part_stops to part.Branch n rest s = offset_stops to 2048 (n % 2 ^ 12) rest
part_stops to part.Jump n rest s = offset_stops to 524288 (n % 2 ^ 20) rest
part_stops to _ n rest s = refl

parts_stop : (to : Option ℕ) (ps : List Part) (w : ℕ) (rest : List ℕ) → stops rest ≡ true → stops (parts_text to ps w ++ rest) ≡ true
parts_stop to [] w rest s = s
parts_stop to (p ∷ more) w rest s =
    ap stops (append_assoc (part_text to p (part_number p w)) (parts_text to more w) rest) ∙ part_stops to p (part_number p w) (parts_text to more w ++ rest) (parts_stop to more w rest s)

-- an operand, and what is read behind it
step : (known : Bool) (d : Layout) (to : Option ℕ) (p : Part) (more : List Part) (w word : ℕ) (rest : List ℕ)
    → part_at d p (part_text to p (part_number p w) ++ (parts_text to more w ++ rest)) ≡ Some (seen known to p (part_number p w), parts_text to more w ++ rest)
    → parts_at d more (parts_text to more w ++ rest) (with_part word p (seen known to p (part_number p w))) ≡ Some (refilled known to (p ∷ more) w word, rest)
    → parts_at d (p ∷ more) (parts_text to (p ∷ more) w ++ rest) word ≡ Some (refilled known to (p ∷ more) w word, rest)
step known d to p more w word rest read next =
    ap (λ text. part_at d p text >>= (λ n. parts_at d more n.1 (with_part word p n.0))) (append_assoc (part_text to p (part_number p w)) (parts_text to more w) rest)
    ∙ ap (λ o. o >>= (λ n. parts_at d more n.1 (with_part word p n.0))) read ∙ next

-- a target, behind which the line ends
branch_part : (known : Bool) (d : Layout) (near : Near d) (to : Option ℕ) (more : List Part) (w : ℕ) (rest tail : List ℕ) → is_last more ≡ true → Ends rest tail → Reaches known d to (part.Branch ∷ more) w
    → part_at d part.Branch (part_text to part.Branch (part_number part.Branch w) ++ (parts_text to more w ++ rest)) ≡ Some (passed known to (part_number part.Branch w), parts_text to more w ++ rest)
unfolding part_at part_text branch_at
branch_part known d near to more w rest tail last ends reaches =
    rw (last_text_none to more w last, not_far d near (reach_text to 2048 (part_number part.Branch w % 2 ^ 12) ++ rest)) (branch_reads known d to more w rest tail last ends reaches)

jump_part : (known : Bool) (d : Layout) (to : Option ℕ) (more : List Part) (w : ℕ) (rest tail : List ℕ) → is_last more ≡ true → Ends rest tail → Reaches known d to (part.Jump ∷ more) w
    → part_at d part.Jump (part_text to part.Jump (part_number part.Jump w) ++ (parts_text to more w ++ rest)) ≡ Some (passed known to (part_number part.Jump w), parts_text to more w ++ rest)
unfolding part_at part_text
jump_part known d to more w rest tail last ends reaches = rw (last_text_none to more w last) (jump_reads known d to more w rest tail last ends reaches)

-- operands behind which no target stands reach any
none_reached : (known : Bool) (d : Layout) (to : Option ℕ) (ps : List Part) (w : ℕ) → is_last ps ≡ true → (word : ℕ) (rest tail : List ℕ) → Ends rest tail → parts_at d ps (parts_text to ps w ++ rest) word ≡ Some (refilled known to ps w word, rest)
none_reached known d to [] w h word rest tail ends = refl
none_reached known d to (part.End ∷ more) w h word rest tail ends =
    step known d to part.End more w word rest (part_back d to part.End (part_number part.End w) (parts_text to more w ++ rest) refl (taken_fits part.End w) (parts_stop to more w rest ends.stop) (λ no. absurd (cc)))
    (none_reached known d to more w h (with_part word part.End (part_number part.End w)) rest tail ends)
none_reached known d to (p ∷ more) w h word rest tail ends = absurd (cc)

same_reach : (known : Bool) (d : Layout) (to : Option ℕ) (ps qs : List Part) (w : ℕ) → led_along (here d) w ps ≡ led_along (here d) w qs → Reaches known d to ps w → Reaches known d to qs w
same_reach known d None ps qs w e h = h
same_reach true d (Some t) ps qs w e h = (h.0, h.1, sym e ∙ h.2)
same_reach false d (Some t) ps qs w e h = h

-- the operands of a word are read back from their text, whatever row they are of
parts_back : (known : Bool) (d : Layout) (near : Near d) (to : Option ℕ) (ps : List Part) (w word : ℕ) (rest tail : List ℕ) → is_shown ps ≡ true → Ends rest tail → Reaches known d to ps w
    → parts_at d ps (parts_text to ps w ++ rest) word ≡ Some (refilled known to ps w word, rest)
parts_back known d near to [] w word rest tail k ends reaches = refl
parts_back known d near to (part.Branch ∷ more) w word rest tail k ends reaches =
    step known d to part.Branch more w word rest (branch_part known d near to more w rest tail k ends reaches) (none_reached known d to more w k (with_part word part.Branch (passed known to (part_number part.Branch w))) rest tail ends)
parts_back known d near to (part.Jump ∷ more) w word rest tail k ends reaches =
    step known d to part.Jump more w word rest (jump_part known d to more w rest tail k ends reaches) (none_reached known d to more w k (with_part word part.Jump (passed known to (part_number part.Jump w))) rest tail ends)
parts_back known d near to (part.Order ∷ more) w word rest tail k ends reaches = absurd (cc)
parts_back known d near to (part.End ∷ more) w word rest tail k ends reaches =
    step known d to part.End more w word rest (part_back d to part.End (part_number part.End w) (parts_text to more w ++ rest) refl (taken_fits part.End w) (parts_stop to more w rest ends.stop) (λ no. absurd (cc)))
    (parts_back known d near to more w (with_part word part.End (part_number part.End w)) rest tail k ends (same_reach known d to (part.End ∷ more) more w refl reaches))
parts_back known d near to (part.Comma ∷ more) w word rest tail k ends reaches =
    step known d to part.Comma more w word rest (part_back d to part.Comma (part_number part.Comma w) (parts_text to more w ++ rest) refl (taken_fits part.Comma w) (parts_stop to more w rest ends.stop) (λ no. absurd (cc)))
    (parts_back known d near to more w (with_part word part.Comma (part_number part.Comma w)) rest tail k ends (same_reach known d to (part.Comma ∷ more) more w refl reaches))
parts_back known d near to (part.Rd ∷ more) w word rest tail k ends reaches =
    step known d to part.Rd more w word rest (part_back d to part.Rd (part_number part.Rd w) (parts_text to more w ++ rest) refl (taken_fits part.Rd w) (parts_stop to more w rest ends.stop) (λ no. absurd (cc)))
    (parts_back known d near to more w (with_part word part.Rd (part_number part.Rd w)) rest tail k ends (same_reach known d to (part.Rd ∷ more) more w refl reaches))
parts_back known d near to (part.Rs1 ∷ more) w word rest tail k ends reaches =
    step known d to part.Rs1 more w word rest (part_back d to part.Rs1 (part_number part.Rs1 w) (parts_text to more w ++ rest) refl (taken_fits part.Rs1 w) (parts_stop to more w rest ends.stop) (λ no. absurd (cc)))
    (parts_back known d near to more w (with_part word part.Rs1 (part_number part.Rs1 w)) rest tail k ends (same_reach known d to (part.Rs1 ∷ more) more w refl reaches))
parts_back known d near to (part.Rs2 ∷ more) w word rest tail k ends reaches =
    step known d to part.Rs2 more w word rest (part_back d to part.Rs2 (part_number part.Rs2 w) (parts_text to more w ++ rest) refl (taken_fits part.Rs2 w) (parts_stop to more w rest ends.stop) (λ no. absurd (cc)))
    (parts_back known d near to more w (with_part word part.Rs2 (part_number part.Rs2 w)) rest tail k ends (same_reach known d to (part.Rs2 ∷ more) more w refl reaches))
parts_back known d near to (part.Base ∷ more) w word rest tail k ends reaches =
    step known d to part.Base more w word rest (part_back d to part.Base (part_number part.Base w) (parts_text to more w ++ rest) refl (taken_fits part.Base w) (parts_stop to more w rest ends.stop) (λ no. absurd (cc)))
    (parts_back known d near to more w (with_part word part.Base (part_number part.Base w)) rest tail k ends (same_reach known d to (part.Base ∷ more) more w refl reaches))
parts_back known d near to (part.Immediate ∷ more) w word rest tail k ends reaches =
    step known d to part.Immediate more w word rest (part_back d to part.Immediate (part_number part.Immediate w) (parts_text to more w ++ rest) refl (taken_fits part.Immediate w) (parts_stop to more w rest ends.stop) (λ _. quiet_text to more w rest tail (and_parts (is_quiet more) (is_shown more) k).0 ends))
    (parts_back known d near to more w (with_part word part.Immediate (part_number part.Immediate w)) rest tail (and_parts (is_quiet more) (is_shown more) k).1 ends (same_reach known d to (part.Immediate ∷ more) more w refl reaches))
parts_back known d near to (part.StoreOffset ∷ more) w word rest tail k ends reaches =
    step known d to part.StoreOffset more w word rest (part_back d to part.StoreOffset (part_number part.StoreOffset w) (parts_text to more w ++ rest) refl (taken_fits part.StoreOffset w) (parts_stop to more w rest ends.stop) (λ _. quiet_text to more w rest tail (and_parts (is_quiet more) (is_shown more) k).0 ends))
    (parts_back known d near to more w (with_part word part.StoreOffset (part_number part.StoreOffset w)) rest tail (and_parts (is_quiet more) (is_shown more) k).1 ends (same_reach known d to (part.StoreOffset ∷ more) more w refl reaches))
parts_back known d near to (part.Amount ∷ more) w word rest tail k ends reaches =
    step known d to part.Amount more w word rest (part_back d to part.Amount (part_number part.Amount w) (parts_text to more w ++ rest) refl (taken_fits part.Amount w) (parts_stop to more w rest ends.stop) (λ _. quiet_text to more w rest tail (and_parts (is_quiet more) (is_shown more) k).0 ends))
    (parts_back known d near to more w (with_part word part.Amount (part_number part.Amount w)) rest tail (and_parts (is_quiet more) (is_shown more) k).1 ends (same_reach known d to (part.Amount ∷ more) more w refl reaches))
parts_back known d near to (part.Upper ∷ more) w word rest tail k ends reaches =
    step known d to part.Upper more w word rest (part_back d to part.Upper (part_number part.Upper w) (parts_text to more w ++ rest) refl (taken_fits part.Upper w) (parts_stop to more w rest ends.stop) (λ _. quiet_text to more w rest tail (and_parts (is_quiet more) (is_shown more) k).0 ends))
    (parts_back known d near to more w (with_part word part.Upper (part_number part.Upper w)) rest tail (and_parts (is_quiet more) (is_shown more) k).1 ends (same_reach known d to (part.Upper ∷ more) more w refl reaches))

-- the first row of a name
abbrev pub named : List ℕ → List Row → Option Row
named name rows = find (λ r. bytes_eq name r.0) rows

-- auipc alone may have %pcrel_hi behind it
abbrev pub IsApart : Row → Type 0
IsApart r = (bytes_eq (name_at r.0) (codes "auipc") ≡ false) ⊎ ((parts_of r) ≡ part.Rd ∷ part.Comma ∷ part.Upper ∷ part.End ∷ part.End ∷ [])

-- a word that has the bits of a row is its word with operands
abbrev pub Fills : Row → Type 0
Fills r = (w : ℕ) → w < 2 ^ 32 → fixed_bits w ≡ r.1 → filled (parts_of r) w r.1 ≡ w

-- what is to hold of each row: its name can be read, finds it, and stands for no other thing; and its operands can be read
abbrev pub Good : Row → Type 0
Good r =
    (names (name_at r.0) ≡ true) × (letters_of (name_at r.0) ≡ Some r.0) × (bytes_eq (name_at r.0) (codes "li") ≡ false) × (find (has_name r.0) COUPLES ≡ None)
    × (named r.0 ROWS ≡ Some r) × (is_shown (parts_of r) ≡ true) × IsApart r × Fills r

each_good : AllByRecursion Good ROWS
unfolding is_name past_blanks letters_of
each_good = ((refl, refl, refl, refl, refl, refl, inl refl, λ w fit e. upper_fills 55 _ w fit refl (lui_fixed w) e), ((refl, refl, refl, refl, refl, refl, inr refl, λ w fit e. upper_fills 23 _ w fit refl (auipc_fixed w) e), ((refl, refl, refl, refl, refl, refl, inl refl, λ w fit e. jump_fills _ w fit refl e), ((refl, refl, refl, refl, refl, refl, inl refl, λ w fit e. load_fills 103 _ w fit refl (jalr_fixed w) e), ((refl, refl, refl, refl, refl, refl, inl refl, λ w fit e. branch_fills _ w fit refl e), ((refl, refl, refl, refl, refl, refl, inl refl, λ w fit e. branch_fills _ w fit refl e), ((refl, refl, refl, refl, refl, refl, inl refl, λ w fit e. branch_fills _ w fit refl e), ((refl, refl, refl, refl, refl, refl, inl refl, λ w fit e. branch_fills _ w fit refl e), ((refl, refl, refl, refl, refl, refl, inl refl, λ w fit e. branch_fills _ w fit refl e), ((refl, refl, refl, refl, refl, refl, inl refl, λ w fit e. branch_fills _ w fit refl e), ((refl, refl, refl, refl, refl, refl, inl refl, λ w fit e. load_fills 3 _ w fit refl (load_fixed w) e), ((refl, refl, refl, refl, refl, refl, inl refl, λ w fit e. load_fills 3 _ w fit refl (load_fixed w) e), ((refl, refl, refl, refl, refl, refl, inl refl, λ w fit e. load_fills 3 _ w fit refl (load_fixed w) e), ((refl, refl, refl, refl, refl, refl, inl refl, λ w fit e. load_fills 3 _ w fit refl (load_fixed w) e), ((refl, refl, refl, refl, refl, refl, inl refl, λ w fit e. load_fills 3 _ w fit refl (load_fixed w) e), ((refl, refl, refl, refl, refl, refl, inl refl, λ w fit e. store_fills _ w fit refl e), ((refl, refl, refl, refl, refl, refl, inl refl, λ w fit e. store_fills _ w fit refl e), ((refl, refl, refl, refl, refl, refl, inl refl, λ w fit e. store_fills _ w fit refl e), ((refl, refl, refl, refl, refl, refl, inl refl, λ w fit e. immediate_fills _ w fit refl refl e), ((refl, refl, refl, refl, refl, refl, inl refl, λ w fit e. immediate_fills _ w fit refl refl e), ((refl, refl, refl, refl, refl, refl, inl refl, λ w fit e. immediate_fills _ w fit refl refl e), ((refl, refl, refl, refl, refl, refl, inl refl, λ w fit e. immediate_fills _ w fit refl refl e), ((refl, refl, refl, refl, refl, refl, inl refl, λ w fit e. immediate_fills _ w fit refl refl e), ((refl, refl, refl, refl, refl, refl, inl refl, λ w fit e. immediate_fills _ w fit refl refl e), ((refl, refl, refl, refl, refl, refl, inl refl, λ w fit e. shift_fills _ w fit refl refl e), ((refl, refl, refl, refl, refl, refl, inl refl, λ w fit e. shift_fills _ w fit refl refl e), ((refl, refl, refl, refl, refl, refl, inl refl, λ w fit e. shift_fills _ w fit refl refl e), ((refl, refl, refl, refl, refl, refl, inl refl, λ w fit e. register_fills _ w fit refl e), ((refl, refl, refl, refl, refl, refl, inl refl, λ w fit e. register_fills _ w fit refl e), ((refl, refl, refl, refl, refl, refl, inl refl, λ w fit e. register_fills _ w fit refl e), ((refl, refl, refl, refl, refl, refl, inl refl, λ w fit e. register_fills _ w fit refl e), ((refl, refl, refl, refl, refl, refl, inl refl, λ w fit e. register_fills _ w fit refl e), ((refl, refl, refl, refl, refl, refl, inl refl, λ w fit e. register_fills _ w fit refl e), ((refl, refl, refl, refl, refl, refl, inl refl, λ w fit e. register_fills _ w fit refl e), ((refl, refl, refl, refl, refl, refl, inl refl, λ w fit e. register_fills _ w fit refl e), ((refl, refl, refl, refl, refl, refl, inl refl, λ w fit e. register_fills _ w fit refl e), ((refl, refl, refl, refl, refl, refl, inl refl, λ w fit e. register_fills _ w fit refl e), ((refl, refl, refl, refl, refl, refl, inl refl, λ w fit e. system_fills _ w fit refl e), ((refl, refl, refl, refl, refl, refl, inl refl, λ w fit e. system_fills _ w fit refl e), tt)))))))))))))))))))))))))))))))))))))))

found_good : (P : Row → Type 0) (test : Row → Bool) (rows : List Row) (r : Row) → AllByRecursion P rows → find test rows ≡ Some r → P r × (test r ≡ true)
found_good P test [] r h e = absurd (cc)
found_good P test (x ∷ more) r h e =
    elim (cases_Bool (test x)) [
      | inl holds ↦
          let same : Some x ≡ Some r = sym (rw holds refl) ∙ e in
          let is : x ≡ r = cc in
          (subst P is h.0, ap test (sym is) ∙ holds)
      | inr fails ↦ found_good P test more r h.1 (sym (rw fails refl) ∙ e)
    ]

-- the row that a name finds reads its operands
named_reads : (d : Layout) (name text : List ℕ) (rows : List Row) (r : Row) (x : ℕ × List ℕ) → named name rows ≡ Some r → row_at d r text ≡ Some x → rows_at d rows name text ≡ Some x
named_reads d name text [] r x e h = absurd (cc)
named_reads d name text (y ∷ more) r x e h =
    elim (cases_Bool (bytes_eq name y.0)) [
      | inl holds ↦
          let same : Some y ≡ Some r = sym (rw holds refl) ∙ e in
          let is : y ≡ r = cc in
          rw (holds, ap (λ (z : Row). row_at d z text) is, h) refl
      | inr fails ↦ rw fails (named_reads d name text more r x (sym (rw fails refl) ∙ e) h)
    ]

-- the operands of auipc have no part of a value
upper_plain : (d : Layout) (to : Option ℕ) (ps : List Part) (w : ℕ) (rest : List ℕ) → ps ≡ part.Rd ∷ part.Comma ∷ part.Upper ∷ part.End ∷ part.End ∷ [] → relative_upper_at d (parts_text to ps w ++ rest) ≡ None
unfolding relative_upper_at first_register_at part_text past_blanks is_name
upper_plain d to ps w rest e =
    let r = register (part_number part.Rd w % 2 ^ 5) in
    let fits : part_number part.Upper w % 2 ^ 20 < 2 ^ 20 = omega arith in
    let u = upper_text (part_number part.Upper w % 2 ^ 20) in
    let text : parts_text to ps w ++ rest ≡ last_text r ++ (44 ∷ (u ++ rest)) =
    ap (λ qs. parts_text to qs w ++ rest) e ∙ append_assoc (last_text r) (44 ∷ (u ++ [])) rest ∙ ap (λ x. last_text r ++ (44 ∷ (x ++ rest))) (append-nil u) in
    ap (relative_upper_at d) text ∙ rw (spaced_register_back r (44 ∷ (u ++ rest)) refl, no_slash 44 (u ++ rest) refl, upper_no_mark (part_number part.Upper w % 2 ^ 20) rest fits) refl

plain : (d : Layout) (to : Option ℕ) (r : Row) (w : ℕ) (rest : List ℕ) → IsApart r → relative_named d (name_at r.0) (parts_text to (parts_of r) w ++ rest) ≡ None
plain d to r w rest (inl other) = rw other refl
plain d to r w rest (inr upper) =
    elim (cases_Bool (bytes_eq (name_at r.0) (codes "auipc"))) [ inl is ↦ rw is (upper_plain d to (parts_of r) w rest upper) | inr other ↦ rw other refl ]

over_is : (w : ℕ) (rest tail : List ℕ) → Ends rest tail → over (w, rest) ≡ Some (w, rest)
over_is w rest tail ends = rw (ends_over rest tail ends) refl

-- what is written of a word of any row is read back as the word that the pass sees
pub row_back : (known : Bool) (d : Layout) (near : Near d) (to : Option ℕ) (w : ℕ) (r : Row) (rest tail : List ℕ) → row_of w ≡ Some r → Ends rest tail → Reaches known d to (parts_of r) w
    → statement_at d (row_text to r w ++ rest) ≡ Some (say.Instruction (refilled known to (parts_of r) w r.1), rest)
unfolding row_of row_at alone_at single_at other_at instruction_at
row_back known d near to w r rest tail e ends reaches =
    let good = (found_good Good (is_of (fixed_bits w)) ROWS r each_good e).0 in
    let operands = parts_text to (parts_of r) w ++ rest in
    let name = name_at r.0 in
    let word = refilled known to (parts_of r) w r.1 in
    let read : row_at d r operands ≡ Some (word, rest) = ap (λ o. o >>= over) (parts_back known d near to (parts_of r) w r.1 rest tail good.5 ends reaches) ∙ over_is word rest tail ends in
    let rows : rows_at d ROWS r.0 operands ≡ Some (word, rest) = named_reads d r.0 operands ROWS r (word, rest) good.4 read in
    let alone : alone_at d r.0 operands ≡ Some (say.Instruction word, rest) =
    ap (λ o. option_map (λ x. (say.Instruction x.0, x.1)) (found o (λ x. Some x) (rows_at d ALIASES r.0 operands))) rows in
    let single : single_at d name r.0 operands ≡ Some (say.Instruction word, rest) = ap (λ o. found o (λ x. Some x) (alone_at d r.0 operands)) (plain d to r w rest good.6) ∙ alone in
    let whole : instruction_at d name operands ≡ Some (say.Instruction word, rest) =
    ap (λ (b : Bool). if b then set_at operands else letters_of name >>= (λ letters. lettered_at d name letters operands)) good.2
    ∙ ap (λ o. o >>= (λ letters. lettered_at d name letters operands)) good.1
    ∙ ap (λ o. found o (λ c. couple_at d c operands) (other_at d name r.0 operands)) good.3
    ∙ ap (λ o. found o (λ x. Some x) (longer_at d name r.0 operands)) single in
    ap (statement_at d) (append_assoc name (parts_text to (parts_of r) w) rest) ∙ by_name d name operands good.0 (parts_stop to (parts_of r) w rest ends.stop) ∙ whole

pub row_stops : (to : Option ℕ) (w : ℕ) (r : Row) (rest : List ℕ) → row_of w ≡ Some r → stops rest ≡ true → behind 58 (past_name (row_text to r w ++ rest)) ≡ None
unfolding row_of
row_stops to w r rest e s = names_stop (name_at r.0) (parts_text to (parts_of r) w) rest (found_good Good (is_of (fixed_bits w)) ROWS r each_good e).0.0 (parts_stop to (parts_of r) w rest s)

-- where labels are known, or none is meant, that is the word itself
seen_none : (known : Bool) (p : Part) (n : ℕ) → seen known None p n ≡ n
seen_none known part.Branch n = refl
seen_none known part.Jump n = refl
seen_none known part.End n = refl
seen_none known part.Comma n = refl
seen_none known part.Rd n = refl
seen_none known part.Rs1 n = refl
seen_none known part.Rs2 n = refl
seen_none known part.Base n = refl
seen_none known part.Immediate n = refl
seen_none known part.StoreOffset n = refl
seen_none known part.Amount n = refl
seen_none known part.Upper n = refl
seen_none known part.Order n = refl

seen_true : (to : Option ℕ) (p : Part) (n : ℕ) → seen true to p n ≡ n
seen_true None part.Branch n = refl
seen_true (Some t) part.Branch n = refl
seen_true None part.Jump n = refl
seen_true (Some t) part.Jump n = refl
seen_true to part.End n = refl
seen_true to part.Comma n = refl
seen_true to part.Rd n = refl
seen_true to part.Rs1 n = refl
seen_true to part.Rs2 n = refl
seen_true to part.Base n = refl
seen_true to part.Immediate n = refl
seen_true to part.StoreOffset n = refl
seen_true to part.Amount n = refl
seen_true to part.Upper n = refl
seen_true to part.Order n = refl

refilled_known : (to : Option ℕ) (ps : List Part) (w word : ℕ) → refilled true to ps w word ≡ filled ps w word
refilled_known to [] w word = refl
refilled_known to (p ∷ more) w word = ap (λ n. refilled true to more w (with_part word p n)) (seen_true to p (part_number p w)) ∙ refilled_known to more w (with_part word p (part_number p w))

row_fills : (w : ℕ) (r : Row) → w < 2 ^ 32 → row_of w ≡ Some r → filled (parts_of r) w r.1 ≡ w
unfolding row_of
row_fills w r fit e = let it = found_good Good (is_of (fixed_bits w)) ROWS r each_good e in it.0.7 w fit (eqb-true (fixed_bits w) r.1 it.1)

pub known_same : (to : Option ℕ) (w : ℕ) (r : Row) → w < 2 ^ 32 → row_of w ≡ Some r → refilled true to (parts_of r) w r.1 ≡ w
known_same to w r fit e = refilled_known to (parts_of r) w r.1 ∙ row_fills w r fit e
