use Rattle.std.proofs.Common.{rules, sym, ap, ◌∙◌}
use Rattle.svc_threads.specs.Boards.{Knower}
use Rattle.svc_threads.proofs.Rises.{reads}
use Rattle.svc_threads.proofs.board.Board.read.Goals as goal

pub load_as-requires : goal.load_as-requires
load_as-requires g c = (search rules, (search rules, (ap (λ (k : Knower). k.board) c.pass.view_is ∙ (c.requires.board ∙ sym c.self.view_is), reads _ _)))
