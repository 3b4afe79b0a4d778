-- What is read next: a line, or a part of a list, of a string, or of a name with its value.
use Rattle.std.specs.Prelude.{ℕ, List, Some}
use Rattle.svc_layout.specs.declared.statement.Next.{Next}
use Rattle.svc_layout.specs.declared.statement.Next.TheVariants as go
use Rattle.svc_layout.specs.declared.statement.Statement.{Statement}
use Rattle.svc_layout.specs.Options.{◌>>=◌}
use Rattle.svc_layout.specs.Layouts.{Layout}
use Rattle.svc_tokens.specs.Characters.{found, name_at, past_name}
use Rattle.svc_tokens.specs.Tokens.{Read}
use Rattle.svc_asm_lines.specs.declared.directives.TheConstants.{OPENED}
use Rattle.svc_asm_lines.specs.Lists.{item_at, long_at}
use Rattle.svc_asm_lines.specs.Statements.{said_by, said_at, line_at, passed_at}
use Rattle.svc_asm_lines.specs.Strings.{character_at}
use Rattle.svc_asm_lines.specs.Symbols.{bound_at, common_at, equal_at, local_common_at, symbol_at}

-- a directive that begins what has parts, up to the first of them
unfoldable pub opened_at : Layout → List ℕ → Read Statement
opened_at d text = said_by OPENED (name_at text) >>= (λ s. said_at d s (past_name text))

-- a line, up to the colon where it begins with a label, and up to the first part where it begins what has parts, or a
-- name that is set
abbrev pub first_at : Layout → List ℕ → Read Statement
first_at d text =
    found (line_at d text) (λ s. Some s) (found (opened_at d text) (λ s. Some s) (equal_at d text))

-- what is read next
abbrev pub part_at : Next → Layout → List ℕ → Read Statement
part_at go.Line d text = first_at d text
part_at (go.Value w) d text = item_at d w text
part_at (go.Character e) d text = character_at e text
part_at go.Long d text = long_at d text
part_at go.Symbol d text = symbol_at d 44 text
part_at go.Passed d text = passed_at d text
part_at go.Common d text = common_at text
part_at go.LocalCommon d text = local_common_at text
part_at (go.Bound l) d text = bound_at l text

unfoldable pub next_at : Layout → List ℕ → Read Statement
next_at d text = part_at d.next d text
