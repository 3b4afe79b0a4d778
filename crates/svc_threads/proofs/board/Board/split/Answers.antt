use Rattle.std.proofs.Common.{rules, sym, ap, ◌∙◌}
use Rattle.svc_threads.specs.Boards.{Knower}
use Rattle.svc_threads.proofs.Rises.{forks}
use Rattle.svc_threads.proofs.board.Board.split.Goals as goal

pub split_pass-requires : goal.split_pass-requires
split_pass-requires c = (search rules, (search rules, (ap (λ (k : Knower). k.board) c.pass.view_is ∙ (c.requires.board ∙ sym c.self.view_is), forks _ _)))
