use Rattle.std.proofs.Common.{◌≡◌, ◌*◌, ◌/◌, ◌++◌, ◌∙◌, ℕ, List, suc, false, length, slice_index, sym, ap, arith}
use Rattle.std.specs.Prelude.{slice_index_or}
use Rattle.svc_names.specs.Given.{listed}
use Rattle.svc_list.specs.Listings.{code, line_for, line_of, marks, text_of}
use Rattle.svc_list.proofs.Printing.{ends, code_none, code_step}
use Rattle.svc_list.proofs.listing.put_code.Goals as goal

pub loop-word-preserved : goal.loop-word-preserved
loop-word-preserved c =
    let i = c.loop-word.word-index in
    let at : c.loop-word.pc ≡ 4 * i = c.loop-word.invariant.address in
    let place : c.loop-word.pc / 4 ≡ i = omega (arith, at) in
    let before = marks c.args.version c.loop-word.entries.now c.loop-word.limits.now in
    let left = marks c.args.version c.in_ok-entries_left.entries_left.now c.in_ok-entries_left.limits_left.now in
    let given = listed c.args.names in
    let count = length c.args.text.now in
    let word = slice_index c.args.text.now i in
    let line : c.put_coded.new.out.items ≡ c.put_mark.new.out.items ++ line_of (line_for given count c.loop-word.pc word) =
    c.in_ok-put_coded.ensures ∙ ap (λ (n : ℕ). c.put_mark.new.out.items ++ line_of (line_for given n c.loop-word.pc word)) c.loop-word.invariant.count in
    record {
      address = omega (arith, at);
      count = c.loop-word.invariant.count;
      put = λ is each.
          let mark : is i ≡ slice_index_or c.args.labelled.now (c.loop-word.pc / 4) false = sym (each i c.loop-word-test.true) ∙ ap (λ (j : ℕ). slice_index_or c.args.labelled.now j false) (sym place) in
          code_step given count is before left c.args.text.now c.loop-word.out.items c.put_coded.new.out.items _ i c.loop-word-test.true
          (λ rest. ap (λ (xs : List ℕ). xs ++ text_of (code given count is (suc i) left rest)) line
          ∙ c.in_ok-entries_left.ensures given count i word is rest c.loop-word.out.items at (c.in_ok-put_labels.ensures i is at mark)) (c.loop-word.invariant.put is each);
    }

pub returns : goal.returns
returns c = λ is each.
    ends _ _ _ (code_none (listed c.args.names) (length c.args.text.now) is (marks c.args.version c.loop-word.entries.now c.loop-word.limits.now) c.args.text.now c.loop-word.word-index c.loop-word.word-index c.loop-word-test.false)
    (c.loop-word.invariant.put is each)
