-- A cache's line as callers of the bus see it, and what a step makes of it and of its link.
use Rattle.std.proofs.Common.{◌≡◌, ◌⊎◌, ◌∙◌, refl, sym, ap, Bool, true, false, cond, not, ◌&&◌, Option, Some, None, inl, inr, true≢false}
use Rattle.std.specs.Prelude.{if◌then◌else◌}
use Rattle.std.proofs.lemmas.Bool.{and_parts}
use Rattle.svc_line.specs.Bits.{is_active}
use Rattle.svc_line.specs.Line.{SeenLine}
use Rattle.svc_cache.specs.Lines.{commit_line, squash_line, is_committed_line}
use Rattle.svc_bus_laws.specs.BusLine.{BusLine, is_active_line, is_committed_dirty_line, is_dirty_line, settled_line}
use Rattle.svc_bus_laws.specs.BusLine as shown
use Rattle.svc_vol.specs.Lines.{is_committed_version, link_of}
use Rattle.svc_vol.proofs.Validity.{HasV}
use Rattle.svc_vcl.specs.Described.{bus_line_of, line_with}
use Rattle.svc_retire.specs.Purges.{purged_line}

pub some_shown : (l : SeenLine) → l.bits.valid ≡ true → bus_line_of (Some l) ≡ Some (line_with l.value l.bits)
some_shown l valid = rw valid refl

pub none_shown : (line : Option SeenLine) → HasV line → bus_line_of line ≡ None → line ≡ None
none_shown None valid e = refl
none_shown (Some l) valid e = let some = sym (some_shown l valid) ∙ e in cc

pub version_shown : (line : Option SeenLine) → HasV line → is_committed_version line ≡ is_committed_dirty_line (bus_line_of line)
version_shown None valid = refl
version_shown (Some l) valid = sym (ap is_committed_dirty_line (some_shown l valid))

-- a committed line that is no version is clean
pub clean_shown : (line : Option SeenLine) → HasV line → is_committed_line line ≡ true → is_committed_dirty_line (bus_line_of line) ≡ false → is_dirty_line (bus_line_of line) ≡ false
clean_shown None valid committed e = refl
clean_shown (Some l) valid committed e =
    let commit = (and_parts l.bits.valid l.bits.commit committed).1 in
    ap is_dirty_line (some_shown l valid) ∙ sym (ap (λ c. c && l.bits.store) commit) ∙ sym (ap is_committed_dirty_line (some_shown l valid)) ∙ e

pub purged_shown : (line : Option SeenLine) → HasV line → bus_line_of (purged_line line) ≡ shown.purged_line (bus_line_of line)
purged_shown None valid = refl
purged_shown (Some l) valid = go (l.bits.commit && l.bits.store) ∙ sym (ap shown.purged_line (some_shown l valid))
  where
    go : (x : Bool) → bus_line_of (cond x None (Some l)) ≡ cond x None (Some (line_with l.value l.bits))
    go true = refl
    go false = some_shown l valid

-- a valid line is active where C is clear
active-is : (valid commit : Bool) → valid ≡ true → (valid && not commit) ≡ not commit
active-is true commit e = refl
active-is false commit e = absurd (true≢false (sym e))

not_active : (commit : Bool) → not commit ≡ false → true ≡ commit
not_active true e = refl
not_active false e = absurd (true≢false e)

pub settled_shown : (line : Option SeenLine) → HasV line → bus_line_of (commit_line line) ≡ settled_line (bus_line_of line)
settled_shown None valid = refl
settled_shown (Some l) valid = go (l.bits.valid && not l.bits.commit) (active-is l.bits.valid l.bits.commit valid) ∙ sym (ap settled_line (some_shown l valid))
  where
    go : (x : Bool) → x ≡ not l.bits.commit → bus_line_of (Some (record l { bits = if x then record (l.bits) { commit = true } else l.bits })) ≡ settled_line (Some (line_with l.value l.bits))
    go true e = some_shown (record l { bits = record (l.bits) { commit = true } }) valid
    go false e = some_shown l valid ∙ ap (λ (commit : Bool). Some (record { value = l.value; store = l.bits.store; load = l.bits.load; commit = commit; stale = l.bits.stale })) (sym (not_active l.bits.commit (sym e)))

pub squashed_shown : (line : Option SeenLine) → HasV line → bus_line_of (squash_line line) ≡ cond (is_active_line (bus_line_of line)) None (bus_line_of line)
squashed_shown None valid = refl
squashed_shown (Some l) valid = go (l.bits.valid && not l.bits.commit) (active-is l.bits.valid l.bits.commit valid) ∙ sym (ap (λ (o : Option BusLine). cond (is_active_line o) None o) (some_shown l valid))
  where
    go : (x : Bool) → x ≡ not l.bits.commit → bus_line_of (if x then None else Some l) ≡ cond (not l.bits.commit) None (Some (line_with l.value l.bits))
    go true e = ap (λ y. cond y None (Some (line_with l.value l.bits))) e
    go false e = some_shown l valid ∙ ap (λ y. cond y None (Some (line_with l.value l.bits))) e

-- ---- links

pub link_settled : (line : Option SeenLine) → link_of (commit_line line) ≡ link_of line
link_settled None = refl
link_settled (Some l) = refl

-- what is left of a line is the line or nothing
abbrev pub Stays : (new old : Option SeenLine) → Type 0
Stays new old = (new ≡ old) ⊎ (new ≡ None)

pub link_stays : (new old : Option SeenLine) → Stays new old → is_dirty_line (bus_line_of new) ≡ true → link_of new ≡ link_of old
link_stays new old (inl e) dirty = ap link_of e
link_stays new old (inr e) dirty = absurd (true≢false (sym dirty ∙ ap (λ (l : Option SeenLine). is_dirty_line (bus_line_of l)) e))

pub purge_stays : (line : Option SeenLine) → Stays (purged_line line) line
purge_stays line = go (is_committed_version line)
  where
    go : (x : Bool) → Stays (cond x None line) line
    go true = inr refl
    go false = inl refl

pub squash_stays : (line : Option SeenLine) → Stays (squash_line line) line
squash_stays None = inl refl
squash_stays (Some l) = go (is_active l.bits)
  where
    go : (x : Bool) → Stays (if x then None else Some l) (Some l)
    go true = inr refl
    go false = inl refl
