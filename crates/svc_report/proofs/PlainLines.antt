-- A row as csv writes it, where no field calls for quotes, is the fields with commas between them and a line feed.
use Rattle.std.proofs.Common.{◌≡◌, ◌++◌, ◌∷◌, ◌∙◌, ◌≤◌, ◌<◌, ◌^◌, [], ℕ, List, Bool, Option, Some, None, refl, ap, true, false, arith}
use Rattle.std.specs.List.{AllByRecursion}
use Rattle.std.specs.Fmt.{decimal}
use Rattle.std.specs.Str.Parse.{AllDigits}
use Rattle.std.proofs.lemmas.Fmt.{digits_decimal}
use Rattle.std.proofs.lemmas.Str.Parse.{numerals_by_value, tells_digits}
use Rattle.std.proofs.lemmas.List.{append-nil}
use Rattle.std.proofs.lemmas.Bool.{ne_eqb}
use Rattle.csv.specs.Writing.{default_writer, fields_text, is_blank, needs_byte, row_text}
use Rattle.std.specs.Prelude.{IfSome, OnOk}
use Rattle.std.proofs.Common.{Result, Ok, Err, append_assoc}
use Rattle.std.specs.Io.KnownBytes.{Appends}
use Rattle.std.proofs.Common.{lit≤}
use Rattle.svc_base.specs.declared.ids.UnitId.{UnitId}
use Rattle.svc_base.specs.declared.ids.WordAddr.{WordAddr}
use Rattle.svc_report.specs.Lines.{IsPlain, joined, line}
use Rattle.svc_report.specs.Fields.{address_text, ask_word, cause_word, kind_word, optional, reply_word, served_word, unit_text}
use Rattle.svc_report.specs.Trace.{columns, row_of}
use Rattle.svc_history_laws.specs.declared.entry.Kind.{Kind}
use Rattle.svc_history_laws.specs.declared.entry.Kind.TheVariants as kind
use Rattle.svc_history_laws.specs.declared.entry.ReplyKind.{ReplyKind}
use Rattle.svc_history_laws.specs.declared.entry.ReplyKind.TheVariants as reply
use Rattle.svc_history_laws.specs.declared.entry.ServedKind.{ServedKind}
use Rattle.svc_history_laws.specs.declared.entry.ServedKind.TheVariants as served
use Rattle.svc_history_laws.specs.declared.entry.CutKind.{CutKind}
use Rattle.svc_history_laws.specs.declared.entry.CutKind.TheVariants as cause
use Rattle.svc_history_laws.specs.declared.entry.Entry.{Entry}

-- digits and letters call for no quotes
plain_byte : (b : ℕ) → 48 ≤ b → needs_byte default_writer b ≡ false
plain_byte b h = rw (ne_eqb b 44 (λ e. omega arith), ne_eqb b 34 (λ e. omega arith), ne_eqb b 13 (λ e. omega arith), ne_eqb b 10 (λ e. omega arith)) refl

plain_digits : (ds : List ℕ) → AllDigits 10 ds → IsPlain ds
plain_digits [] h = refl
plain_digits (d ∷ ds) h =
    let parts = (tells_digits).parts d ds h in
    rw (plain_byte d (omega (arith, parts.0))) (plain_digits ds parts.1)

pub plain_decimal : (n : ℕ) → n < 2 ^ 64 → IsPlain (decimal n)
plain_decimal n h = plain_digits (decimal n) (digits_decimal (numerals_by_value (AllDigits 10) tells_digits) n h)

plain_rest : (x : List ℕ) (ys : List (List ℕ)) → AllByRecursion IsPlain ys → x ++ fields_text default_writer ys ≡ joined (x ∷ ys)
unfolding fields_text joined
plain_rest x [] h = append-nil x
plain_rest x (y ∷ ys) h = rw h.0 (ap (λ (t : List ℕ). x ++ (44 ∷ t)) (plain_rest y ys h.1))

-- a row of two fields or more
pub row_is_line : (x y : List ℕ) (ys : List (List ℕ)) → IsPlain x → AllByRecursion IsPlain (y ∷ ys) → row_text default_writer (x ∷ y ∷ ys) ≡ line (x ∷ y ∷ ys)
unfolding is_blank
row_is_line x y ys p h = rw p (ap (λ (t : List ℕ). t ++ (10 ∷ [])) (plain_rest x (y ∷ ys) h))

plain_kind : (k : Kind) → IsPlain (kind_word k)
plain_kind kind.Assign = refl
plain_kind kind.Submit = refl
plain_kind kind.Replace = refl
plain_kind kind.Cancel = refl
plain_kind kind.Commit = refl

plain_reply : (k : ReplyKind) → IsPlain (reply_word k)
plain_reply reply.Assigned = refl
plain_reply reply.Ran = refl
plain_reply reply.Loaded = refl
plain_reply reply.Stored = refl
plain_reply reply.Emitted = refl
plain_reply reply.Trapped = refl
plain_reply reply.Replaced = refl
plain_reply reply.Cancelled = refl
plain_reply reply.Committed = refl

plain_served : (k : Option ServedKind) → IsPlain (optional served_word k)
plain_served None = refl
plain_served (Some served.Hit) = refl
plain_served (Some served.Reuse) = refl
plain_served (Some served.Version) = refl
plain_served (Some served.Spill) = refl
plain_served (Some served.Committed) = refl
plain_served (Some served.Memory) = refl

plain_cause : (k : Option CutKind) → IsPlain (optional cause_word k)
plain_cause None = refl
plain_cause (Some cause.Violation) = refl
plain_cause (Some cause.Guess) = refl
plain_cause (Some cause.Cancel) = refl

plain_ask : (k : Option Bool) → IsPlain (optional ask_word k)
plain_ask None = refl
plain_ask (Some true) = refl
plain_ask (Some false) = refl

pub plain_optional : (n : Option ℕ) → IfSome n (λ x. x < 2 ^ 64) → IsPlain (optional decimal n)
plain_optional None h = refl
plain_optional (Some n) h = plain_decimal n h

plain_unit : (n : Option UnitId) → IfSome n (λ u. u.0 < 2 ^ 8) → IsPlain (optional unit_text n)
plain_unit None h = refl
plain_unit (Some u) h = plain_decimal u.0 (omega arith)

plain_address : (n : Option WordAddr) → IfSome n (λ a. a.0 < 2 ^ 32) → IsPlain (optional address_text n)
plain_address None h = refl
plain_address (Some a) h = plain_decimal a.0 (omega arith)

-- what holds below one bound holds below a greater one
pub below : (k m : ℕ) → k ≤ m → (n : Option ℕ) → IfSome n (λ x. x < k) → IfSome n (λ x. x < m)
below k m le None h = tt
below k m le (Some n) h = omega arith

-- no column of an entry calls for quotes
pub row_of_entry : (e : Entry) → e.unit.0 < 2 ^ 8 → IfSome e.arg (λ n. n < 2 ^ 32) → IfSome e.local (λ n. n < 2 ^ 8) → IfSome e.addr (λ a. a.0 < 2 ^ 32) → IfSome e.word (λ n. n < 2 ^ 32)
    → IfSome e.from (λ u. u.0 < 2 ^ 8) → IfSome e.first (λ n. n < 2 ^ 32) → IfSome e.squashed (λ n. n < 2 ^ 32) → row_text default_writer (columns e) ≡ row_of e
unfolding columns
row_of_entry e unit arg local addr word from first squashed =
    let big = λ (n : Option ℕ) (h : IfSome n (λ x. x < 2 ^ 32)). plain_optional n (below (2 ^ 32) (2 ^ 64) (lit≤ tt) n h) in
    let small = λ (n : Option ℕ) (h : IfSome n (λ x. x < 2 ^ 8)). plain_optional n (below (2 ^ 8) (2 ^ 64) (lit≤ tt) n h) in
    row_is_line (kind_word e.kind) (unit_text e.unit) _ (plain_kind e.kind) (
      plain_decimal e.unit.0 (omega arith),
      (
        big e.arg arg,
        (
          small e.local local,
          (
            plain_ask e.ask,
            (
              plain_reply e.reply,
              (
                plain_address e.addr addr,
                (
                  big e.word word,
                  (plain_served e.served, (plain_unit e.from from, (plain_cause e.cause, (big e.first first, (big e.squashed squashed, tt))))),
                ),
              ),
            ),
          ),
        ),
      ),
    )

-- two writings, one after the other
pub then_appends : (a b c : Option (List ℕ)) (x y : List ℕ) → Appends a b x → Appends b c y → Appends a c (x ++ y)
then_appends None b c x y h k = tt
then_appends (Some xs) None c x y h k = absurd h
then_appends (Some xs) (Some ys) None x y h k = absurd k
then_appends (Some xs) (Some ys) (Some zs) x y h k = k ∙ rw h (append_assoc xs x y)

pub on_ok : {T E P Q : Type 0} (r : Result T E) → (P → Q) → OnOk r P → OnOk r Q
on_ok (Ok x) f p = f p
on_ok (Err e) f p = tt
