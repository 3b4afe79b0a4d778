-- The addresses at which entries ask matter for the table of instructions alone.
use Rattle.std.proofs.Common.{◌≡◌, ℕ, List, Option, Some, None, ap, refl}
use Rattle.svc_base.specs.declared.config.Config.{Config}
use Rattle.svc_history_laws.specs.declared.entry.Entry.{Entry}
use Rattle.svc_instruction_profile.specs.Rows.{instruction_table}
use Rattle.svc_request.specs.declared.request.Table.{Table}
use Rattle.svc_request.specs.declared.request.Table.TheVariants as table
use Rattle.svc_answer.specs.Costs.{cost_text}

pub same_cost : (by : Option Table) (asked told : List (Option ℕ)) (config : Config) (es : List Entry)
    → (by ≡ Some table.Instructions → asked ≡ told) → cost_text by asked config es ≡ cost_text by told config es
same_cost None asked told config es is = refl
same_cost (Some table.Tasks) asked told config es is = refl
same_cost (Some table.Units) asked told config es is = refl
same_cost (Some table.Words) asked told config es is = refl
same_cost (Some table.Pairs) asked told config es is = refl
same_cost (Some table.Suppliers) asked told config es is = refl
same_cost (Some table.Instructions) asked told config es is = ap (λ (a : List (Option ℕ)). instruction_table a es) (is refl)
same_cost (Some (table.Row row)) asked told config es is = refl
