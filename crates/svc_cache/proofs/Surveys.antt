-- What a search knows after one more place.
use Rattle.std.proofs.Common.{◌≡◌, refl, ℕ, ◌+◌, ◌<◌, Bool, true, false, Option, Some, None, List, length, inl, inr, arith}
use Rattle.std.specs.Prelude.{if◌then◌else◌, nat_lt, not, ◌&&◌, ◌||◌}
use borrow.Author.Count.{below_more}
use Rattle.std.proofs.lemmas.Bool.{both_ways, cases_Bool, le-ltb, ltb-true, lt-ltb}
use Rattle.svc_cache.specs.declared.place.CachePlace.{CachePlace}
use Rattle.svc_cache.specs.Places.{is_held, holds, has_committed, precedes}
use Rattle.svc_cache.specs.Rows.{place_at, LacksBelow, AreHeld, IsFirstToLeave, IsRoomBelow}

pub lacks-none : (row : List CachePlace) (word : ℕ) → LacksBelow row 0 word
lacks-none row word = record { lacks = λ k below. absurd (omega (arith, below)) }

pub lacks-more : (row : List CachePlace) (k word : ℕ) → LacksBelow row k word → holds (place_at row k) word ≡ false → LacksBelow row (k + 1) word
lacks-more row k word before here = record { lacks = below_more (λ n. holds (place_at row n) word ≡ false) k before.lacks here }

-- the order of leaving, over plain variables: it is irreflexive and transitive
abbrev is_before : (c : Bool) (w : ℕ) (d : Bool) (v : ℕ) → Bool
is_before c w d v = if c then (not d || nat_lt w v) else (not d && nat_lt w v)

before_none : (c : Bool) (w : ℕ) → is_before c w c w ≡ false
before_none true w = le-ltb w w (omega arith)
before_none false w = le-ltb w w (omega arith)

lower : (w v u : ℕ) → nat_lt w v ≡ true → nat_lt v u ≡ true → nat_lt w u ≡ true
lower w v u first second = lt-ltb w u (let a = ltb-true w v first in let b = ltb-true v u second in omega arith)

before_both : (c d e : Bool) (w v u : ℕ) → is_before c w d v ≡ true → is_before d v e u ≡ true → is_before c w e u ≡ true
before_both true true true w v u first second = lower w v u first second
before_both true true false w v u first second = refl
before_both true false true w v u first second = cc
before_both true false false w v u first second = refl
before_both false true true w v u first second = cc
before_both false true false w v u first second = cc
before_both false false true w v u first second = cc
before_both false false false w v u first second = lower w v u first second

pub precedes_not_itself : (place : CachePlace) → precedes place place ≡ false
precedes_not_itself place = before_none (has_committed place) place.word.0

pub precedes_by : (a b c : CachePlace) → precedes a b ≡ true → precedes b c ≡ true → precedes a c ≡ true
precedes_by a b c first second = before_both (has_committed a) (has_committed b) (has_committed c) a.word.0 b.word.0 c.word.0 first second

-- the first to leave among no places, and with one more
pub leaves-none : (row : List CachePlace) (leaver : ℕ) → leaver < length row → IsFirstToLeave row 0 leaver
leaves-none row leaver within = record { within = within; unpreceded = λ k below. absurd (omega (arith, below)) }

pub leaves-kept : (row : List CachePlace) (k leaver : ℕ) → IsFirstToLeave row k leaver → precedes (place_at row k) (place_at row leaver) ≡ false → IsFirstToLeave row (k + 1) leaver
leaves-kept row k leaver before here = record {
  within = before.within;
  unpreceded = below_more (λ n. precedes (place_at row n) (place_at row leaver) ≡ false) k before.unpreceded here;
}

pub leaves-new : (row : List CachePlace) (k leaver : ℕ) → IsFirstToLeave row k leaver → k < length row → precedes (place_at row k) (place_at row leaver) ≡ true → IsFirstToLeave row (k + 1) k
leaves-new row k leaver before within here = record {
  within = within;
  unpreceded = below_more (λ n. precedes (place_at row n) (place_at row k) ≡ false) k (λ n below. still n (before.unpreceded n below)) (precedes_not_itself (place_at row k));
}
  where
    still : (n : ℕ) → precedes (place_at row n) (place_at row leaver) ≡ false → precedes (place_at row n) (place_at row k) ≡ false
    still n after = elim (cases_Bool (precedes (place_at row n) (place_at row k))) [
      | inl first ↦ absurd (both_ways _ after (precedes_by (place_at row n) (place_at row k) (place_at row leaver) first here))
      | inr past ↦ past
    ]

-- the room among no places, and with one more
pub held-none : (row : List CachePlace) → AreHeld row 0
held-none row = record { held = λ k below. absurd (omega (arith, below)) }

pub room-held : (row : List CachePlace) (k : ℕ) (room : Option ℕ) → IsRoomBelow row k room → is_held (place_at row k) ≡ true → IsRoomBelow row (k + 1) room
room-held row k None before here = record { held = below_more (λ n. is_held (place_at row n) ≡ true) k before.held here }
room-held row k (Some place) before here = (omega (arith, before.0), before.1)

pub room-empty : (row : List CachePlace) (k : ℕ) → is_held (place_at row k) ≡ false → IsRoomBelow row (k + 1) (Some k)
room-empty row k here = (omega arith, here)
