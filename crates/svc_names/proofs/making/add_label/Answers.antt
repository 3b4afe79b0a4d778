use Rattle.std.proofs.Common.{◌≡◌, ◌∙◌, ℕ, List, ap, false, sym, true, arith}
use Rattle.std.specs.Ordering.{is_lt}
use Rattle.svc_names.specs.Made.{compared, pair_of}
use Rattle.svc_names.specs.Table.{comes_next, is_name_text}
use Rattle.svc_names.proofs.Made.{last_pushed, passed_label, pushed_label, stands_there}
use Rattle.svc_names.proofs.Order.{table_more}
use Rattle.svc_names.proofs.making.add_label.Goals as goal

pub returns-then-not-is_name_text-clause-made : goal.returns-then-not-is_name_text-clause-made
returns-then-not-is_name_text-clause-made c = λ before made low.
    passed_label before c.args.label c.args.names.now.items made
    (λ is. let never : true ≡ false = sym is ∙ sym c.is_name_text.ensures ∙ c.if-not-is_name_text.true in absurd (cc never))

pub returns-then-not-comes_next-clause-made : goal.returns-then-not-comes_next-clause-made
returns-then-not-comes_next-clause-made c = λ before made low.
    passed_label before c.args.label c.args.names.now.items made
    (λ is.
    let comes = rw c.deref.ensures.value at c.comes_next.ensures in
    stands_there c.args.names.now.items c.args.label.name.now c.args.label.address (sym comes ∙ c.if-not-comes_next.true) low)

pub returns-clause-made : goal.returns-clause-made
returns-clause-made c = λ before made low.
    let names = c.args.names.now.items in
    let text = c.args.label.name.now in
    let address = c.args.label.address in
    let pushed = c.in_ok-push_name.ensures in
    let n = pushed.0 in
    let same : pair_of n ≡ (text, address) = ap (λ (t : List ℕ). (t, n.address)) pushed.1 ∙ ap (λ (a : ℕ). (text, a)) pushed.2 in
    let named : is_name_text n.text.items ≡ true = ap is_name_text pushed.1 ∙ sym c.is_name_text.ensures ∙ c.if-not-is_name_text.false in
    let comes = rw c.deref.ensures.value at c.comes_next.ensures in
    let next : comes_next names n.text.items n.address ≡ true =
    ap (λ (p : List ℕ × ℕ). comes_next names p.0 p.1) same ∙ sym comes ∙ c.if-not-comes_next.false in
    let table = table_more names n made.table (record { name = named; small = omega (arith, pushed.2) }) next in
    rw pushed.3 (pushed_label before c.args.label names n made same table)

pub returns-clause-low : goal.returns-clause-low
returns-clause-low c = λ pair above before.
    let names = c.args.names.now.items in
    let pushed = c.in_ok-push_name.ensures in
    let n = pushed.0 in
    let same : pair_of n ≡ (c.args.label.name.now, c.args.label.address) =
    ap (λ (t : List ℕ). (t, n.address)) pushed.1 ∙ ap (λ (a : ℕ). (c.args.label.name.now, a)) pushed.2 in
    rw pushed.3 (last_pushed names n pair (ap (λ (p : List ℕ × ℕ). is_lt (compared pair p)) same ∙ above))
