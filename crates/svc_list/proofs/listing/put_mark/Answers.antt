use Rattle.std.proofs.Common.{◌++◌, ◌∙◌, ap, refl, ℕ, Option}
use Rattle.svc_layout.specs.declared.statement.Statement.TheVariants as say
use Rattle.svc_list.specs.Listings.{bare, line_for, line_of}
use Rattle.svc_list.proofs.Printing.{mark_put, word_put}
use Rattle.svc_list.proofs.listing.put_mark.Goals as goal

pub returns-in_ok-put_line-in-Some : goal.returns-in_ok-put_line-in-Some
returns-in_ok-put_line-in-Some c = λ given count n word is words before same put.
    let next = c.in-Some.next in
    let out = c.args.out.now.items in
    let marked = c.put_line.new.out.items in
    mark_put given count is c.args.version n c.args.pc word next.0 c.args.entries.now c.args.limits.now next.1.now next.2.now words before out marked (marked ++ line_of (line_for given count c.args.pc word)) same c.in-Some.ensures.some.0 c.in-Some.ensures.some.1 put
    (c.in_ok-put_line-in-Some.ensures ∙ ap (λ (o : Option ℕ). out ++ line_of (bare (say.Entry o))) c.own_limit.ensures)
    refl

pub returns-in-None : goal.returns-in-None
returns-in-None c = λ given count n word is words before same put.
    let out = c.args.out.now.items in
    word_put given count is c.args.version n c.args.pc word c.args.entries.now c.args.limits.now words before out (out ++ line_of (line_for given count c.args.pc word)) same c.in-None.ensures.none put refl
