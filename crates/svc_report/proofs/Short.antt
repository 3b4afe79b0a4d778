-- The records of traces are short, so a text of them is what is read of it.
use Rattle.std.proofs.Common.{◌∷◌, ◌<◌, ◌≤◌, ◌^◌, [], ℕ, List, Option, Some, None, Bool, true, false, refl, arith, length, map, zero-le, Result, Ok, Err}
use Rattle.std.specs.Prelude.{IfOk, IfSome, Vec, decimal}
use Rattle.std.specs.List.{AllByRecursion}
use Rattle.std.specs.declared.alloc.Global.{Global}
use Rattle.std.proofs.lemmas.Bool.{leb-true, ltb-true}
use Rattle.std.proofs.lemmas.Fmt.{length-decimal-le}
use Rattle.svc_base.specs.declared.ids.UnitId.{UnitId}
use Rattle.svc_base.specs.declared.ids.WordAddr.{WordAddr}
use Rattle.svc_history_laws.specs.declared.entry.CutKind.{CutKind}
use Rattle.svc_history_laws.specs.declared.entry.CutKind.TheVariants as cause
use Rattle.svc_history_laws.specs.declared.entry.Entry.{Entry}
use Rattle.svc_history_laws.specs.declared.entry.Kind.{Kind}
use Rattle.svc_history_laws.specs.declared.entry.Kind.TheVariants as kind
use Rattle.svc_history_laws.specs.declared.entry.ReplyKind.{ReplyKind}
use Rattle.svc_history_laws.specs.declared.entry.ReplyKind.TheVariants as reply
use Rattle.svc_history_laws.specs.declared.entry.ServedKind.{ServedKind}
use Rattle.svc_history_laws.specs.declared.entry.ServedKind.TheVariants as served
use Rattle.svc_report.specs.Fields.{address_text, ask_word, cause_word, kind_word, optional, reply_word, served_word, unit_text}
use Rattle.svc_record_limit.specs.Limit.{most_bytes}
use Rattle.svc_report.specs.Records.{IsRead, IsText}
use Rattle.svc_report.specs.Trace.{HasRow, columns, header, trace_records}
use Rattle.svc_report.specs.declared.error.ReportError.{ReportError}
use Rattle.svc_report.proofs.Whole.{IsShort, weight, whole_text}

kind_length : (k : Kind) → length (kind_word k) ≤ 10
kind_length kind.Assign = leb-true _ _ refl
kind_length kind.Submit = leb-true _ _ refl
kind_length kind.Replace = leb-true _ _ refl
kind_length kind.Cancel = leb-true _ _ refl
kind_length kind.Commit = leb-true _ _ refl

reply_length : (r : ReplyKind) → length (reply_word r) ≤ 10
reply_length reply.Assigned = leb-true _ _ refl
reply_length reply.Ran = leb-true _ _ refl
reply_length reply.Loaded = leb-true _ _ refl
reply_length reply.Stored = leb-true _ _ refl
reply_length reply.Emitted = leb-true _ _ refl
reply_length reply.Trapped = leb-true _ _ refl
reply_length reply.Replaced = leb-true _ _ refl
reply_length reply.Cancelled = leb-true _ _ refl
reply_length reply.Committed = leb-true _ _ refl

served_length : (s : Option ServedKind) → length (optional served_word s) ≤ 10
served_length None = zero-le
served_length (Some served.Hit) = leb-true _ _ refl
served_length (Some served.Reuse) = leb-true _ _ refl
served_length (Some served.Version) = leb-true _ _ refl
served_length (Some served.Spill) = leb-true _ _ refl
served_length (Some served.Committed) = leb-true _ _ refl
served_length (Some served.Memory) = leb-true _ _ refl

cause_length : (c : Option CutKind) → length (optional cause_word c) ≤ 10
cause_length None = zero-le
cause_length (Some cause.Violation) = leb-true _ _ refl
cause_length (Some cause.Guess) = leb-true _ _ refl
cause_length (Some cause.Cancel) = leb-true _ _ refl

ask_length : (a : Option Bool) → length (optional ask_word a) ≤ 10
ask_length None = zero-le
ask_length (Some true) = leb-true _ _ refl
ask_length (Some false) = leb-true _ _ refl

pub decimal_length : (n : ℕ) → n < 2 ^ 32 → length (decimal n) ≤ 10
decimal_length n low = length-decimal-le 10 n (omega arith) (omega (arith, low)) (omega (arith, low))

pub number_length : (n : Option ℕ) → IfSome n (λ x. x < 2 ^ 32) → length (optional decimal n) ≤ 10
number_length None low = zero-le
number_length (Some n) low = decimal_length n low

local_length : (n : Option ℕ) → IfSome n (λ x. x ≤ 63) → length (optional decimal n) ≤ 10
local_length None low = zero-le
local_length (Some n) low = decimal_length n (omega (arith, low))

address_length : (a : Option WordAddr) → IfSome a (λ x. x.0 < 2 ^ 32) → length (optional address_text a) ≤ 10
address_length None low = zero-le
address_length (Some a) low = decimal_length a.0 low

from_length : (u : Option UnitId) → IfSome u (λ x. x.0 ≤ 255) → length (optional unit_text u) ≤ 10
from_length None low = zero-le
from_length (Some u) low = decimal_length u.0 (omega (arith, low))

short_entry : (e : Entry) → HasRow e → IsShort (columns e)
unfolding columns
short_entry e row =
    let unit = decimal_length e.unit.0 (omega (arith, row.unit)) in
    omega (
      arith,
      kind_length e.kind,
      unit,
      number_length e.arg row.arg,
      local_length e.local row.local,
      ask_length e.ask,
      reply_length e.reply,
      address_length e.addr row.addr,
      number_length e.word row.word,
      served_length e.served,
      from_length e.from row.from,
      cause_length e.cause,
      number_length e.first row.first,
      number_length e.squashed row.squashed,
    )

pub all_short : {A : Type 0} (of : A → List (List ℕ)) (P : A → Type 0) → ((x : A) → P x → IsShort (of x)) → (items : List A) → AllByRecursion P items → AllByRecursion IsShort (map of items)
all_short of P short [] all = tt
all_short of P short (x ∷ xs) all = (short x all.0, all_short of P short xs all.1)

pub trace_short : (h : List Entry) → AllByRecursion HasRow h → AllByRecursion IsShort (trace_records h)
trace_short h all = (ltb-true (weight header) most_bytes refl, all_short columns HasRow short_entry h all)

-- a trace that is read is read whole
pub whole_trace : (known : Option (List ℕ)) (r : Result (Vec Entry Global) ReportError) → IfOk r (λ v. AllByRecursion HasRow v.items × IfSome known (λ text. IsRead text (trace_records v.items)))
    → IfOk r (λ v. AllByRecursion HasRow v.items × IfSome known (λ text. IsText text (trace_records v.items)))
whole_trace known (Err e) ok = tt
whole_trace None (Ok v) ok = (ok.0, tt)
whole_trace (Some text) (Ok v) ok = (ok.0, whole_text text (trace_records v.items) (trace_short v.items ok.0) ok.1)
