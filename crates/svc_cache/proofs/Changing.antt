-- What is found in a row after a commit and after a squash.
use Rattle.std.proofs.Common.{◌≡◌, ◌∙◌, refl, sym, ap, subst, ℕ, suc, ◌%◌, ◌<◌, true, false, Some, None, List, [], ◌∷◌, length, inl, inr, arith}
use Rattle.std.specs.Prelude.{◌&&◌, ◌==◌, option_map}
use Rattle.std.proofs.lemmas.Bool.{both_ways, cases_Bool}
use Rattle.svc_base.specs.declared.ids.UnitId.{UnitId}
use Rattle.svc_base.specs.declared.ids.WordAddr.{WordAddr}
use Rattle.svc_line.specs.Bits.{Bits, bits_of, is_active, after_commit, after_squash}
use Rattle.svc_line.specs.Line.{SeenLine, seen_line}
use Rattle.svc_cache.specs.declared.place.CachePlace.{CachePlace}
use Rattle.svc_cache.specs.Lines.{commit_line, squash_line}
use Rattle.svc_cache.specs.Places.{is_held, holds, line_among}
use Rattle.svc_cache.specs.Rows.{place_at}
use Rattle.svc_cache.specs.Sound.{IsSoundRow}
use Rattle.svc_cache.specs.Changes.{HasChangedBits}
use Rattle.svc_cache.proofs.Founds.{held_of, word_of, holds_nothing, at_head, past_head}

-- the bits of every place of the row have changed
pub record IsChangedRow (change : Bits → Bits) (before after : List CachePlace) : Type 0 where
  pub size : length after ≡ length before
  pub changed : (k : ℕ) → k < length before → HasChangedBits change (place_at before k) (place_at after k)

changed-tail : (change : Bits → Bits) (p q : CachePlace) (before after : List CachePlace) → IsChangedRow change (p ∷ before) (q ∷ after) → IsChangedRow change before after
changed-tail change p q before after all = record {
  size = let e = all.size in omega arith;
  changed = λ k below. all.changed (suc k) (omega (arith, below));
}

changed-head : (change : Bits → Bits) (p q : CachePlace) (before after : List CachePlace) → IsChangedRow change (p ∷ before) (q ∷ after) → HasChangedBits change p q
changed-head change p q before after all = all.changed 0 (omega arith)

-- the line of a changed place
changed-seen : (change : Bits → Bits) (p q : CachePlace) → HasChangedBits change p q → seen_line q.line ≡ record (seen_line p.line) { bits = change (bits_of p.line.bits) }
changed-seen change p q one = λ i. record { value = one.value i; bits = one.bits i; next = option_map (λ (unit : UnitId). unit.0) (one.next i) }

-- a place whose line is there as before holds the same words
same_holds : (change : Bits → Bits) (p q : CachePlace) (word : ℕ) → HasChangedBits change p q → is_held q ≡ is_held p → holds q word ≡ holds p word
same_holds change p q word one held = λ i. held i && ((one.word i).0 == word)

-- a commit leaves each line in its place
committed-valid : (b : Bits) → (after_commit b).valid ≡ b.valid
committed-valid b = elim (cases_Bool (is_active b)) [ inl active ↦ rw active | inr other ↦ rw other ]

committed-held : (p q : CachePlace) → HasChangedBits after_commit p q → is_held q ≡ is_held p
committed-held p q one = ap (λ (b : Bits). b.valid) one.bits ∙ committed-valid (bits_of p.line.bits)

pub found-committed : (before after : List CachePlace) → IsChangedRow after_commit before after → (word : ℕ) → line_among after word ≡ commit_line (line_among before word)
unfolding line_among
found-committed [] [] all word = refl
found-committed [] (q ∷ after) all word = let e = all.size in absurd (omega arith)
found-committed (p ∷ before) [] all word = let e = all.size in absurd (omega arith)
found-committed (p ∷ before) (q ∷ after) all word =
    let one = changed-head after_commit p q before after all in
    let same = same_holds after_commit p q word one (committed-held p q one) in
    let rest = found-committed before after (changed-tail after_commit p q before after all) word in
    elim (cases_Bool (holds p word)) [
      | inl here ↦ at_head q after word (same ∙ here) ∙ ap Some (changed-seen after_commit p q one) ∙ ap commit_line (sym (at_head p before word here))
      | inr away ↦ past_head q after word (same ∙ away) ∙ rest ∙ ap commit_line (sym (past_head p before word away))
    ]

pub sound-committed : (sets s : ℕ) (before after : List CachePlace) → IsChangedRow after_commit before after → IsSoundRow sets s before → IsSoundRow sets s after
unfolding IsSoundRow
sound-committed sets s [] [] all sound = sound
sound-committed sets s [] (q ∷ after) all sound = let e = all.size in absurd (omega arith)
sound-committed sets s (p ∷ before) [] all sound = let e = all.size in absurd (omega arith)
sound-committed sets s (p ∷ before) (q ∷ after) all sound =
    let one = changed-head after_commit p q before after all in
    let rest = changed-tail after_commit p q before after all in (
      λ held.
          let old = sound.0 (sym (committed-held p q one) ∙ held) in
          subst (λ (w : WordAddr). (w.0 % sets ≡ s) × (line_among after w.0 ≡ None)) (sym one.word) (old.0, found-committed before after rest p.word.0 ∙ ap commit_line old.1),
      sound-committed sets s before after rest sound.1,
    )

-- a squash takes active lines out, and leaves the others
squashed-active : (p q : CachePlace) → HasChangedBits after_squash p q → is_active (bits_of p.line.bits) ≡ true → is_held q ≡ false
squashed-active p q one active = ap (λ (b : Bits). b.valid) one.bits ∙ gone (bits_of p.line.bits) active
  where
    gone : (b : Bits) → is_active b ≡ true → (after_squash b).valid ≡ false
    gone b is = rw is

squashed-kept : (b : Bits) → is_active b ≡ false → after_squash b ≡ b
squashed-kept b other = rw other

squashed-held : (p q : CachePlace) → HasChangedBits after_squash p q → is_active (bits_of p.line.bits) ≡ false → is_held q ≡ is_held p
squashed-held p q one other = ap (λ (b : Bits). b.valid) (one.bits ∙ squashed-kept (bits_of p.line.bits) other)

squashed-was_held : (p q : CachePlace) → HasChangedBits after_squash p q → is_held q ≡ true → is_held p ≡ true
squashed-was_held p q one held = elim (cases_Bool (is_active (bits_of p.line.bits))) [
  | inl active ↦ absurd (both_ways _ (squashed-active p q one active) held)
  | inr other ↦ sym (squashed-held p q one other) ∙ held
]

squash_active : (line : SeenLine) → is_active line.bits ≡ true → squash_line (Some line) ≡ None
squash_active line active = rw active

squash_other : (line : SeenLine) → is_active line.bits ≡ false → squash_line (Some line) ≡ Some line
squash_other line other = rw other

pub found-squashed : (sets s : ℕ) (before after : List CachePlace) → IsChangedRow after_squash before after → IsSoundRow sets s before → (word : ℕ) → line_among after word ≡ squash_line (line_among before word)
unfolding line_among IsSoundRow
found-squashed sets s [] [] all sound word = refl
found-squashed sets s [] (q ∷ after) all sound word = let e = all.size in absurd (omega arith)
found-squashed sets s (p ∷ before) [] all sound word = let e = all.size in absurd (omega arith)
found-squashed sets s (p ∷ before) (q ∷ after) all sound word =
    let one = changed-head after_squash p q before after all in
    let rest = found-squashed sets s before after (changed-tail after_squash p q before after all) sound.1 word in
    elim (cases_Bool (is_active (bits_of p.line.bits))) [
      | inl active ↦ past_head q after word (holds_nothing q word (squashed-active p q one active)) ∙ rest ∙ elim (cases_Bool (holds p word)) [
        | inl here ↦
            let later : line_among before word ≡ None = ap (line_among before) (sym (word_of p word here)) ∙ (sound.0 (held_of p word here)).1 in
            ap squash_line later ∙ sym (squash_active (seen_line p.line) active) ∙ ap squash_line (sym (at_head p before word here))
        | inr away ↦ ap squash_line (sym (past_head p before word away))
      ]
      | inr other ↦
          let same = same_holds after_squash p q word one (squashed-held p q one other) in
          elim (cases_Bool (holds p word)) [
            | inl here ↦
                let line : seen_line q.line ≡ seen_line p.line = changed-seen after_squash p q one ∙ ap (λ (b : Bits). record (seen_line p.line) { bits = b }) (squashed-kept (bits_of p.line.bits) other) in
                at_head q after word (same ∙ here) ∙ ap Some line ∙ sym (squash_other (seen_line p.line) other) ∙ ap squash_line (sym (at_head p before word here))
            | inr away ↦ past_head q after word (same ∙ away) ∙ rest ∙ ap squash_line (sym (past_head p before word away))
          ]
    ]

pub sound-squashed : (sets s : ℕ) (before after : List CachePlace) → IsChangedRow after_squash before after → IsSoundRow sets s before → IsSoundRow sets s after
unfolding IsSoundRow
sound-squashed sets s [] [] all sound = sound
sound-squashed sets s [] (q ∷ after) all sound = let e = all.size in absurd (omega arith)
sound-squashed sets s (p ∷ before) [] all sound = let e = all.size in absurd (omega arith)
sound-squashed sets s (p ∷ before) (q ∷ after) all sound =
    let one = changed-head after_squash p q before after all in
    let rest = changed-tail after_squash p q before after all in (
      λ held.
          let old = sound.0 (squashed-was_held p q one held) in
          subst (λ (w : WordAddr). (w.0 % sets ≡ s) × (line_among after w.0 ≡ None)) (sym one.word) (old.0, found-squashed sets s before after rest sound.1 p.word.0 ∙ ap squash_line old.1),
      sound-squashed sets s before after rest sound.1,
    )
