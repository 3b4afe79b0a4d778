use Rattle.std.proofs.Common.{◌≡◌, ◌+◌, ◌*◌, ◌-◌}
use Rattle.std.specs.Prelude.{option_map}
use Rattle.svc_draft.specs.Drafts.{layout_of}
use Rattle.svc_expressions.specs.Expressions.{operators_on, operand_at}
use Rattle.svc_expressions.proofs.expressions.+expression.Given as goal

-- a sign or a parenthesis goes a depth down, and an operator some ranks
abbrev pub decreases-read_operand : goal.decreases-read_operand
decreases-read_operand l = 6 * l.depth

abbrev pub decreases-read_operand_from : goal.decreases-read_operand_from
decreases-read_operand_from l = 6 * l.inner + 5

abbrev pub decreases-read_operators : goal.decreases-read_operators
decreases-read_operators l = 6 * l.depth + 4

abbrev pub decreases-read_behind : goal.decreases-read_behind
decreases-read_behind l = 6 * l.depth + l.ranks

-- what the rest makes of the number so far, the whole makes of the first one
abbrev pub invariant-read_behind-loop-step : goal.invariant-read_behind-loop-step
invariant-read_behind-loop-step l =
    operators_on (operand_at (option_map (λ d. layout_of d.now) l.names) l.depth) (l.most - l.step) l.ranks l.number l.rest
    ≡ operators_on (operand_at (option_map (λ d. layout_of d.now) l.names) l.depth) l.most l.ranks l.first l.text
