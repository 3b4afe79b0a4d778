use Rattle.std.proofs.Common.{rules, sym, ap, ◌∙◌, subst}
use Rattle.svc_threads.specs.Boards.{AtMost, Knower}
use Rattle.svc_threads.proofs.Rises.{publishes}
use Rattle.svc_threads.proofs.board.Board.publish.Goals as goal

pub swap_as-requires : goal.swap_as-requires
swap_as-requires g c =
    let is = c.pass.view_is in
    let grows = subst (λ (k : Knower). AtMost k.row c.args.row) (sym is) c.requires.grows in
    (search rules, (search rules, (ap (λ (k : Knower). k.board) is ∙ (c.requires.board ∙ sym c.self.view_is), publishes _ _ c.args.row (ap (λ (k : Knower). k.publishes) is ∙ c.requires.publisher) c.requires.order grows)))
