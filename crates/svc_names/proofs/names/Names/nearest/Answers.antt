use Rattle.std.proofs.Common.{◌≡◌, ◌∙◌, ◌-◌, ◌++◌, ℕ, List, Option, Some, None, ap, arith, get_or, sym}
use Rattle.std.specs.Prelude.{option_map}
use Rattle.svc_names.specs.declared.name.Name.{Name}
use Rattle.svc_names.specs.Near.{behind_text, label, nearest}
use Rattle.svc_names.proofs.Nearest.{Finds, above_is_not, any_default, first_inside, its_address, nearest_found, none_is, none_of_kind}
use Rattle.svc_names.proofs.names.Names.nearest.Goals as goal

told : (a : ℕ) (names : List Name) (o : Option Name) → nearest a names ≡ o → option_map (label a) o ≡ option_map (label a) (nearest a names)
told a names o h = ap (option_map (label a)) (sym h)

pub returns-then-end-eq0 : goal.returns-then-end-eq0
returns-then-end-eq0 c =
    let names = c.args.self.now.list.items in
    let none = c.if-end-eq0.true in
    told c.args.address names None (none_is c.args.address names (λ k d low. above_is_not c.args.address (get_or names k d) (c.count_to-end.ensures.past k d (omega (arith, none)) low)))

pub returns-then-found-kind_start : goal.returns-then-found-kind_start
returns-then-found-kind_start c =
    let names = c.args.self.now.list.items in
    told c.args.address names None (none_of_kind c.args.address names c.count_to-end.result c.index.result.now c.args.self.now.order c.count_to-end.ensures.inside (omega arith)
    c.count_to-end.ensures.past c.index.ensures (omega arith))

abbrev address_of : Name → ℕ
address_of n = n.address

pub returns : goal.returns
returns c =
    let a = c.args.address in
    let names = c.args.self.now.list.items in
    let x = c.index.result.now in
    let first = c.first_of.result in
    let y = c.index-name.result.now in
    let found : c.from-found.result ≡ x.address = c.from-found.ensures in
    let finds : Finds a names c.count_to-end.result first x = record {
      order = c.args.self.now.order;
      inside = c.count_to-end.ensures.inside;
      some = omega arith;
      up_to = c.count_to-end.ensures.up_to;
      past = c.count_to-end.ensures.past;
      last = c.index.ensures;
      kind = omega arith;
      before = rw found at c.first_of.ensures.before;
      from = rw found at c.first_of.ensures.from;
    } in
    let same : get_or names first x ≡ y = any_default names first x y (omega (arith, first_inside a names c.count_to-end.result first x finds, finds.inside)) ∙ sym c.index-name.ensures in
    let address : y.address ≡ x.address = ap address_of (sym same) ∙ its_address a names c.count_to-end.result first x finds in
    let behind : a - c.from-found.result ≡ a - y.address = omega (arith, found, address) in
    ap Some (ap (λ (n : ℕ). c.as_slice.result.now ++ behind_text n) behind ∙ ap (λ (t : List ℕ). t ++ behind_text (a - y.address)) c.as_slice.ensures.value)
    ∙ told a names (Some y) (nearest_found a names c.count_to-end.result first x finds ∙ ap Some same)
