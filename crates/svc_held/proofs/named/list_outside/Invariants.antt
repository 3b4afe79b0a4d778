use Rattle.std.proofs.Common.{◌≡◌, ◌<◌, ◌≤◌, ℕ, false, Option}
use Rattle.std.specs.Prelude.{flat_map}
use Rattle.std.specs.List.{range_with_len}
use Rattle.svc_span.specs.declared.span.Span.{Span}
use Rattle.svc_held.specs.Named.{named_at}
use Rattle.svc_span.specs.Span.{is_asked}
use Rattle.svc_held.proofs.named.list_outside.Given as goal

abbrev pub invariant-loop-word : goal.invariant-loop-word
invariant-loop-word l =
    (asked : Option Span) → ((word : ℕ) → l.from ≤ word → word < l.to → is_asked asked word ≡ false)
    → l.fn.named.items ≡ flat_map (named_at asked l.marks) (range_with_len 0 l.from)
    → l.named.items ≡ flat_map (named_at asked l.marks) (range_with_len 0 l.word)
