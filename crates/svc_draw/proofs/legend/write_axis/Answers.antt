use Rattle.std.proofs.Common.{◌≡◌, ◌∙◌, ◌+◌, ◌-◌, ◌++◌, ℕ, List, ap, append_assoc, append-nil, arith, sym}
use Rattle.std.specs.Prelude.{flat_map}
use Rattle.std.specs.List.{range_with_len}
use Rattle.svc_draw.specs.Legend.{axis, number_at, words_below}
use Rattle.svc_draw.proofs.Texts.{numbers_more}
use Rattle.svc_draw.proofs.legend.write_axis.Goals as goal

pub loop-place-init : goal.loop-place-init
loop-place-init c =
    let s = c.args.frame.now.sheet in
    let old : List ℕ = c.args.text.now.items in
    let none : s.window.from - s.window.from ≡ 0 = omega arith in
    sym (ap (λ (n : ℕ). old ++ flat_map (number_at s) (range_with_len s.window.from n)) none ∙ append-nil old)

pub loop-place-preserved : goal.loop-place-preserved
loop-place-preserved c =
    let s = c.args.frame.now.sheet in
    let at : ℕ = c.loop-place.place in
    let from : ℕ = s.window.from in
    numbers_more (number_at s) from (at - from) at ((at + 1) - from) c.args.text.now.items c.loop-place.text.items c.write_number.new.text.items
    (omega (arith, c.loop-place.auto.place)) (omega (arith, c.loop-place.auto.place)) c.loop-place.invariant c.in_ok-write_number.ensures

pub returns : goal.returns
unfolding axis
returns c =
    let s = c.args.frame.now.sheet in
    let old : List ℕ = c.args.text.now.items in
    let at : ℕ = c.loop-place.place in
    let from : ℕ = s.window.from in
    let all : at - from ≡ s.window.to - from = omega arith in
    let shown : List ℕ = flat_map (number_at s) (range_with_len from (s.window.to - from)) in
    c.in_ok-write_words_below.ensures
    ∙ ap (λ (t : List ℕ). t ++ words_below s) (c.loop-place.invariant ∙ ap (λ (n : ℕ). old ++ flat_map (number_at s) (range_with_len from n)) all)
    ∙ append_assoc old shown (words_below s)
