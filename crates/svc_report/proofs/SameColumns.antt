-- Two entries with the same columns are one.
use Rattle.std.proofs.Common.{◌≡◌, ◌<◌, ◌≤◌, ◌^◌, [], ℕ, List, Bool, Option, Some, None, refl, ap, true, false, arith, get_or, length}
use Rattle.std.specs.Prelude.{IfSome}
use Rattle.std.specs.Fmt.{decimal}
use Rattle.std.specs.Cmp.Lexicographic.{other_text}
use Rattle.std.proofs.lemmas.Fmt.{decimal_injective, decimal_nonempty}
use Rattle.svc_base.specs.declared.ids.UnitId.{UnitId}
use Rattle.svc_base.specs.declared.ids.WordAddr.{WordAddr}
use Rattle.svc_report.specs.Fields.{address_text, ask_word, cause_word, kind_word, optional, reply_word, served_word, unit_text}
use Rattle.svc_report.specs.Trace.{HasRow, columns}
use Rattle.svc_history_laws.specs.declared.entry.Kind.{Kind}
use Rattle.svc_history_laws.specs.declared.entry.Kind.TheVariants as kind
use Rattle.svc_history_laws.specs.declared.entry.ReplyKind.{ReplyKind}
use Rattle.svc_history_laws.specs.declared.entry.ReplyKind.TheVariants as reply
use Rattle.svc_history_laws.specs.declared.entry.ServedKind.{ServedKind}
use Rattle.svc_history_laws.specs.declared.entry.ServedKind.TheVariants as served
use Rattle.svc_history_laws.specs.declared.entry.CutKind.{CutKind}
use Rattle.svc_history_laws.specs.declared.entry.CutKind.TheVariants as cause
use Rattle.svc_history_laws.specs.declared.entry.Entry.{Entry}

kind_same : (a b : Kind) → kind_word a ≡ kind_word b → a ≡ b
kind_same kind.Assign kind.Assign h = refl
kind_same kind.Submit kind.Submit h = refl
kind_same kind.Replace kind.Replace h = refl
kind_same kind.Cancel kind.Cancel h = refl
kind_same kind.Commit kind.Commit h = refl
kind_same a b h = absurd (other_text (kind_word a) (kind_word b) refl h)

reply_same : (a b : ReplyKind) → reply_word a ≡ reply_word b → a ≡ b
reply_same reply.Assigned reply.Assigned h = refl
reply_same reply.Ran reply.Ran h = refl
reply_same reply.Loaded reply.Loaded h = refl
reply_same reply.Stored reply.Stored h = refl
reply_same reply.Emitted reply.Emitted h = refl
reply_same reply.Trapped reply.Trapped h = refl
reply_same reply.Replaced reply.Replaced h = refl
reply_same reply.Cancelled reply.Cancelled h = refl
reply_same reply.Committed reply.Committed h = refl
reply_same a b h = absurd (other_text (reply_word a) (reply_word b) refl h)

-- the text of a value is empty exactly where there is none
optional_same : {A : Type 0} (text : A → List ℕ) → ((x : A) → 0 < length (text x)) → ((x y : A) → text x ≡ text y → x ≡ y) → (a b : Option A) → optional text a ≡ optional text b → a ≡ b
optional_same text some same None None h = refl
optional_same text some same None (Some x) h = absurd (omega (arith, some x, ap length h))
optional_same text some same (Some x) None h = absurd (omega (arith, some x, ap length h))
optional_same {A} text some same (Some x) (Some y) h = ap (λ (z : A). Some z) (same x y h)

served_some : (x : ServedKind) → 0 < length (served_word x)
served_some served.Hit = omega arith
served_some served.Reuse = omega arith
served_some served.Version = omega arith
served_some served.Spill = omega arith
served_some served.Committed = omega arith
served_some served.Memory = omega arith

served_one : (a b : ServedKind) → served_word a ≡ served_word b → a ≡ b
served_one served.Hit served.Hit h = refl
served_one served.Reuse served.Reuse h = refl
served_one served.Version served.Version h = refl
served_one served.Spill served.Spill h = refl
served_one served.Committed served.Committed h = refl
served_one served.Memory served.Memory h = refl
served_one a b h = absurd (other_text (served_word a) (served_word b) refl h)

served_same : (a b : Option ServedKind) → optional served_word a ≡ optional served_word b → a ≡ b
served_same a b h = optional_same served_word served_some served_one a b h

cause_some : (x : CutKind) → 0 < length (cause_word x)
cause_some cause.Violation = omega arith
cause_some cause.Guess = omega arith
cause_some cause.Cancel = omega arith

cause_one : (a b : CutKind) → cause_word a ≡ cause_word b → a ≡ b
cause_one cause.Violation cause.Violation h = refl
cause_one cause.Guess cause.Guess h = refl
cause_one cause.Cancel cause.Cancel h = refl
cause_one a b h = absurd (other_text (cause_word a) (cause_word b) refl h)

cause_same : (a b : Option CutKind) → optional cause_word a ≡ optional cause_word b → a ≡ b
cause_same a b h = optional_same cause_word cause_some cause_one a b h

ask_some : (x : Bool) → 0 < length (ask_word x)
ask_some true = omega arith
ask_some false = omega arith

ask_one : (a b : Bool) → ask_word a ≡ ask_word b → a ≡ b
ask_one true true h = refl
ask_one false false h = refl
ask_one a b h = absurd (other_text (ask_word a) (ask_word b) refl h)

ask_same : (a b : Option Bool) → optional ask_word a ≡ optional ask_word b → a ≡ b
ask_same a b h = optional_same ask_word ask_some ask_one a b h

pub number_same : (a b : Option ℕ) → IfSome a (λ n. n < 2 ^ 64) → IfSome b (λ n. n < 2 ^ 64) → optional decimal a ≡ optional decimal b → a ≡ b
number_same None None p q h = refl
number_same None (Some n) p q h = absurd (omega (arith, decimal_nonempty n q, ap length h))
number_same (Some n) None p q h = absurd (omega (arith, decimal_nonempty n p, ap length h))
number_same (Some m) (Some n) p q h = ap (λ (x : ℕ). Some x) (decimal_injective m n p q h)

pub wide : (n : Option ℕ) → IfSome n (λ x. x < 2 ^ 32) → IfSome n (λ x. x < 2 ^ 64)
wide None h = tt
wide (Some n) h = omega arith

small : (most : ℕ) → most ≤ 255 → (n : Option ℕ) → IfSome n (λ x. x ≤ most) → IfSome n (λ x. x < 2 ^ 64)
small most low None h = tt
small most low (Some n) h = omega arith

pub unit_one : (u v : UnitId) → u.0 < 2 ^ 64 → v.0 < 2 ^ 64 → unit_text u ≡ unit_text v → u ≡ v
unit_one u v p q h = let n = decimal_injective u.0 v.0 p q h in λ i. record { 0 = n i }

unit_same : (a b : Option UnitId) → IfSome a (λ u. u.0 ≤ 255) → IfSome b (λ u. u.0 ≤ 255) → optional unit_text a ≡ optional unit_text b → a ≡ b
unit_same None None p q h = refl
unit_same None (Some v) p q h = absurd (omega (arith, decimal_nonempty v.0 (omega arith), ap length h))
unit_same (Some u) None p q h = absurd (omega (arith, decimal_nonempty u.0 (omega arith), ap length h))
unit_same (Some u) (Some v) p q h = ap (λ (x : UnitId). Some x) (unit_one u v (omega arith) (omega arith) h)

address_one : (u v : WordAddr) → u.0 < 2 ^ 64 → v.0 < 2 ^ 64 → address_text u ≡ address_text v → u ≡ v
address_one u v p q h = let n = decimal_injective u.0 v.0 p q h in λ i. record { 0 = n i }

address_same : (a b : Option WordAddr) → IfSome a (λ u. u.0 < 2 ^ 32) → IfSome b (λ u. u.0 < 2 ^ 32) → optional address_text a ≡ optional address_text b → a ≡ b
address_same None None p q h = refl
address_same None (Some v) p q h = absurd (omega (arith, decimal_nonempty v.0 (omega arith), ap length h))
address_same (Some u) None p q h = absurd (omega (arith, decimal_nonempty u.0 (omega arith), ap length h))
address_same (Some u) (Some v) p q h = ap (λ (x : WordAddr). Some x) (address_one u v (omega arith) (omega arith) h)

column : (e f : Entry) (k : ℕ) → columns e ≡ columns f → get_or (columns e) k [] ≡ get_or (columns f) k []
column e f k h = ap (λ (fs : List (List ℕ)). get_or fs k []) h

pub columns_same : (e f : Entry) → HasRow e → HasRow f → columns e ≡ columns f → e ≡ f
unfolding columns
columns_same e f p q h =
    let a = kind_same e.kind f.kind (column e f 0 h) in
    let b = unit_one e.unit f.unit (omega (arith, p.unit)) (omega (arith, q.unit)) (column e f 1 h) in
    let c = number_same e.arg f.arg (wide e.arg p.arg) (wide f.arg q.arg) (column e f 2 h) in
    let d = number_same e.local f.local (small 63 (omega arith) e.local p.local) (small 63 (omega arith) f.local q.local) (column e f 3 h) in
    let g = ask_same e.ask f.ask (column e f 4 h) in
    let j = reply_same e.reply f.reply (column e f 5 h) in
    let k = address_same e.addr f.addr p.addr q.addr (column e f 6 h) in
    let l = number_same e.word f.word (wide e.word p.word) (wide f.word q.word) (column e f 7 h) in
    let m = served_same e.served f.served (column e f 8 h) in
    let n = unit_same e.from f.from p.from q.from (column e f 9 h) in
    let o = cause_same e.cause f.cause (column e f 10 h) in
    let r = number_same e.first f.first (wide e.first p.first) (wide f.first q.first) (column e f 11 h) in
    let s = number_same e.squashed f.squashed (wide e.squashed p.squashed) (wide f.squashed q.squashed) (column e f 12 h) in
    λ i. record { kind = a i; unit = b i; arg = c i; local = d i; ask = g i; reply = j i; addr = k i; word = l i; served = m i; from = n i; cause = o i; first = r i; squashed = s i }
