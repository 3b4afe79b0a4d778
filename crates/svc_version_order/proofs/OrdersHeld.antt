-- The rows of the words that are listed are those of all words.
use Rattle.std.proofs.Common.{◌≡◌, [], ℕ, List, Option, Bool, refl, ap}
use Rattle.std.specs.Prelude.{cond, flat_map}
use Rattle.svc_core_laws.specs.State.{State}
use Rattle.svc_bus_laws.specs.BusState.{BusState}
use Rattle.svc_machine_laws.specs.PlainMachine.{Running}
use Rattle.svc_held.specs.declared.named.Named.{Named}
use Rattle.svc_span.specs.declared.span.Span.{Span}
use Rattle.svc_held.specs.Held.{IsHeldBy}
use Rattle.svc_held.proofs.Listed.{all_held, not_cached}
use Rattle.svc_version_order.specs.Order.{named_row, order_row, order_rows, word_fields}

pub orders_held : (b : BusState) (words : ℕ) (asked : Option Span) (named : List Named) → IsHeldBy b words asked named → (units commits : ℕ) (runs : List (Running State))
    → flat_map (named_row units b commits runs) named ≡ order_rows units words b commits runs
orders_held b words asked named held units commits runs =
    all_held b words asked named held (order_row units b commits runs) (named_row units b commits runs) (λ w inside. refl)
    (λ w inside nobody miss. ap (λ (x : Bool). cond x (word_fields units b commits runs w) []) (not_cached b words asked named held w units inside nobody))
