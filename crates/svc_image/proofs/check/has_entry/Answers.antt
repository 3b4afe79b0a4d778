use Rattle.std.proofs.Common.{◌≡◌, ◌*◌, ◌∙◌, sym, nat_eq, ℕ, inl, inr, arith, ap, drop}
use Rattle.std.proofs.lemmas.Bool.{eq-eqb, ne_eqb, cases_lt}
use Rattle.svc_image.proofs.Wordwise.{any-words_in-none, any-words_in-found, word_at-rest}
use Rattle.svc_image.proofs.check.has_entry.Goals as goal

pub returns-then-whole_word-wanted : goal.returns-then-whole_word-wanted
returns-then-whole_word-wanted c =
    let here = word_at-rest c.args.bytes.now 148 (4 * c.loop-index.index) in
    sym (any-words_in-found (λ e. nat_eq e c.args.wanted) c.args.entries (drop 148 c.args.bytes.now) c.loop-index.index c.loop-index-test.true
    (eq-eqb _ _ (here ∙ sym c.whole_word.ensures ∙ c.if-whole_word-wanted.true)))

pub loop-index-preserved : goal.loop-index-preserved
loop-index-preserved c = λ k low. elim (cases_lt k c.loop-index.index) [
  | inl before ↦ c.loop-index.invariant k before
  | inr here ↦
      let last : k ≡ c.loop-index.index = omega (arith, low, here) in
      rw last (ap (λ (n : ℕ). nat_eq n c.args.wanted) (sym c.whole_word.ensures) ∙ ne_eqb _ _ c.if-whole_word-wanted.false)
]

pub returns : goal.returns
returns c =
    sym (any-words_in-none (λ e. nat_eq e c.args.wanted) c.args.entries (drop 148 c.args.bytes.now)
    (λ k low. ap (λ (n : ℕ). nat_eq n c.args.wanted) (word_at-rest c.args.bytes.now 148 (4 * k)) ∙ c.loop-index.invariant k (omega (arith, low))))
