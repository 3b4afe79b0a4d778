-- How setting and clearing a bit of the number changes the bits.
use Rattle.std.proofs.Common.{◌≡◌, ◌∙◌, refl, ap, ℕ, ◌<◌, ◌/◌, ◌==◌, true, false, arith}
use Rattle.std.specs.Int.RustNames.{bit_and, bit_or}
use Rattle.std.specs.Int.Bits.{or_zero_r, and_zero_r}
use Rattle.std.proofs.lemmas.Nat.{and_or_self, and_or_apart, and_assoc, or_shr, and_shr, and_mask}
use Rattle.svc_line.specs.declared.bits.LineBits.{LineBits}
use Rattle.svc_line.specs.Bits.{Bits, bits_of, bits_in, has_bit}

-- a bit that is set is there, and the bits apart from it stay
has_set : (n weight : ℕ) → (weight == weight) ≡ true → has_bit (bit_or n weight) weight ≡ true
has_set n weight same = rw and_or_self same

kept_by_set : (n other weight : ℕ) → bit_and weight other ≡ 0 → has_bit (bit_or n weight) other ≡ has_bit n other
kept_by_set n other weight apart = ap (λ m. m == other) (and_or_apart other n weight apart)

-- a weight below 32 is no part of the bits without a name
unnamed_by_set : (n weight : ℕ) → weight / 32 ≡ 0 → bit_or n weight / 32 ≡ n / 32
unnamed_by_set n weight low = or_shr n weight 5 ∙ ap (bit_or (n / 32)) low ∙ or_zero_r (n / 32)

pub set_load : (n : ℕ) → bits_in (bit_or n 4) ≡ record (bits_in n) { load = true }
set_load n = λ i. record {
  valid = kept_by_set n 1 4 refl i;
  store = kept_by_set n 2 4 refl i;
  load = has_set n 4 refl i;
  commit = kept_by_set n 8 4 refl i;
  stale = kept_by_set n 16 4 refl i;
  unnamed = unnamed_by_set n 4 refl i;
}

pub set_commit : (n : ℕ) → bits_in (bit_or n 8) ≡ record (bits_in n) { commit = true }
set_commit n = λ i. record {
  valid = kept_by_set n 1 8 refl i;
  store = kept_by_set n 2 8 refl i;
  load = kept_by_set n 4 8 refl i;
  commit = has_set n 8 refl i;
  stale = kept_by_set n 16 8 refl i;
  unnamed = unnamed_by_set n 8 refl i;
}

pub set_stale : (n : ℕ) → bits_in (bit_or n 16) ≡ record (bits_in n) { stale = true }
set_stale n = λ i. record {
  valid = kept_by_set n 1 16 refl i;
  store = kept_by_set n 2 16 refl i;
  load = kept_by_set n 4 16 refl i;
  commit = kept_by_set n 8 16 refl i;
  stale = has_set n 16 refl i;
  unnamed = unnamed_by_set n 16 refl i;
}

-- a bit in the mask stays, and one apart from it goes
kept_by_mask : (n other mask : ℕ) → bit_and mask other ≡ other → has_bit (bit_and n mask) other ≡ has_bit n other
kept_by_mask n other mask within = ap (λ m. m == other) (and_assoc other n mask ∙ ap (bit_and n) within)

gone_by_mask : (n other mask : ℕ) → bit_and mask other ≡ 0 → (0 == other) ≡ false → has_bit (bit_and n mask) other ≡ false
gone_by_mask n other mask apart some = ap (λ m. m == other) (and_assoc other n mask ∙ ap (bit_and n) apart ∙ and_zero_r n) ∙ some

unnamed_by_mask : (n : ℕ) → n < 256 → bit_and n 247 / 32 ≡ n / 32
unnamed_by_mask n byte = let high : n / 32 < 8 = omega arith in and_shr n 247 5 ∙ and_mask (n / 32) 3 ∙ omega arith

pub clear_commit : (n : ℕ) → n < 256 → bits_in (bit_and n 247) ≡ record (bits_in n) { commit = false }
clear_commit n byte = λ i. record {
  valid = kept_by_mask n 1 247 refl i;
  store = kept_by_mask n 2 247 refl i;
  load = kept_by_mask n 4 247 refl i;
  commit = gone_by_mask n 8 247 refl refl i;
  stale = kept_by_mask n 16 247 refl i;
  unnamed = unnamed_by_mask n byte i;
}

-- the bits with a name stay, and the others go
pub keep_named : (n : ℕ) → bits_in (bit_and n 31) ≡ record (bits_in n) { unnamed = 0 }
keep_named n = λ i. record {
  valid = kept_by_mask n 1 31 refl i;
  store = kept_by_mask n 2 31 refl i;
  load = kept_by_mask n 4 31 refl i;
  commit = kept_by_mask n 8 31 refl i;
  stale = kept_by_mask n 16 31 refl i;
  unnamed = unnamed_gone i;
}
  where
    unnamed_gone : bit_and n 31 / 32 ≡ 0
    unnamed_gone = and_shr n 31 5 ∙ and_zero_r (n / 32)

-- the same for lines
pub with_commit : (line next : LineBits) → next.0 ≡ bit_or line.0 8 → bits_of next ≡ record (bits_of line) { commit = true }
unfolding bits_of
with_commit line next set = ap bits_in set ∙ set_commit line.0

pub with_stale : (line next : LineBits) → next.0 ≡ bit_or line.0 16 → bits_of next ≡ record (bits_of line) { stale = true }
unfolding bits_of
with_stale line next set = ap bits_in set ∙ set_stale line.0

pub with_reuse : (line cleared next : LineBits) → line.0 < 256 → cleared.0 ≡ bit_and line.0 247 → next.0 ≡ bit_or cleared.0 4 → bits_of next ≡ record (bits_of line) { commit = false; load = true }
unfolding bits_of
with_reuse line cleared next byte clear set = ap bits_in set ∙ set_load cleared.0 ∙ ap (λ n. record (bits_in n) { load = true }) clear ∙ ap (λ (b : Bits). record b { load = true }) (clear_commit line.0 byte)

pub with_names : (line next : LineBits) → next.0 ≡ bit_and line.0 31 → bits_of next ≡ record (bits_of line) { unnamed = 0 }
unfolding bits_of
with_names line next kept = ap bits_in kept ∙ keep_named line.0
