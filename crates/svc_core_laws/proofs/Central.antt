-- A part of a task depends on the memory at its exposed words alone.
use Rattle.std.proofs.Common.{ℕ, zero, suc, ◌≡◌, ◌==◌, Bool, true, false, ◌&&◌, ◌||◌, List, ◌∷◌, Option, Some, None, refl, ap, ◌∙◌}
use Rattle.std.proofs.Common.{unwrap_or, is_none}
use borrow.Author.Tests.{eq-eqb}
use Rattle.svc_core_laws.specs.Program.{Memory, Words, Want, Local, Load, Store, Narrow, Emit, Program, Run, Action, Loaded, Replaced, with_read, wrote, exposed_words, over, act, turn, part}

-- a test that holds, or else another, holds
or_left : (x y : Bool) → x ≡ true → (x || y) ≡ true
or_left x y h = rw h refl

-- a word that is read afresh is one of the reads
is_read : (r : Bool) (o : Option ℕ) (b x y : ℕ) → ((r || ((b == b) && is_none o)) ≡ true → x ≡ y) → unwrap_or o x ≡ unwrap_or o y
is_read r (Some w) b x y h = refl
is_read true None b x y h = h refl
is_read false None b x y h = let e : (b == b) ≡ true = eq-eqb b b refl in h (rw e refl)

read_agrees : (words : Words) (reads : ℕ → Bool) (m m' : Memory) (b : ℕ) → (with_read b words reads b ≡ true → m b ≡ m' b) → over words m b ≡ over words m' b
read_agrees words reads m m' b h = is_read (reads b) (words b) b (m b) (m' b) h

-- a word that was exposed before a turn is so after it
exposed_grows : {C : Type 0} (w : Want C) (m : Memory) (log : List Action) (a : ℕ) → exposed_words log a ≡ true → exposed_words (act w m log).log a ≡ true
exposed_grows (Local c) m log a h = h
exposed_grows (Load b value go) m log a h = or_left (exposed_words log a) _ h
exposed_grows (Store b v c) m log a h = h
exposed_grows (Narrow b f c) m log a h = or_left (exposed_words log a) _ h
exposed_grows (Emit v c) m log a h = h

-- a turn depends on the memory only so
act_agrees : {C : Type 0} (w : Want C) (m m' : Memory) (log : List Action)
    → ((a : ℕ) → exposed_words (act w (over (wrote log) m) log).log a ≡ true → m a ≡ m' a)
    → act w (over (wrote log) m) log ≡ act w (over (wrote log) m') log
act_agrees (Local c) m m' log h = refl
act_agrees {C} (Load b value go) m m' log h =
    ap {B = Run C} (λ x. record { core = go (value x); log = Loaded b (value x) ∷ log }) (read_agrees (wrote log) (exposed_words log) m m' b (h b))
act_agrees (Store b v c) m m' log h = refl
act_agrees {C} (Narrow b f c) m m' log h =
    ap {B = Run C} (λ x. record { core = c; log = Replaced b (f x) ∷ log }) (read_agrees (wrote log) (exposed_words log) m m' b (h b))
act_agrees (Emit v c) m m' log h = refl

-- the central lemma: memories that agree on the exposed words give the same core and the same actions
pub part_agrees : {C : Type 0} (p : Program C) (e n : ℕ) (m m' : Memory)
    → ((a : ℕ) → exposed_words (part p e n m).log a ≡ true → m a ≡ m' a)
    → part p e n m ≡ part p e n m'
part_agrees p e zero m m' h = refl
part_agrees {C} p e (suc n) m m' h =
    let r : Run C = part p e n m in
    let now : turn p r m ≡ turn p r m' = act_agrees (p.want r.core) m m' r.log h in
    let before : r ≡ part p e n m' = part_agrees p e n m m' (λ a k. h a (exposed_grows (p.want r.core) (over (wrote r.log) m) r.log a k)) in
    now ∙ ap (λ x. turn p x m') before
