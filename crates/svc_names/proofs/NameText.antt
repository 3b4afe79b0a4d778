-- A name has the characters of names alone.
use Rattle.std.proofs.Common.{◌≡◌, ◌∷◌, [], ℕ, List, Bool, true, false, refl, subst, length, take_while}
use Rattle.std.specs.Prelude.{◌&&◌, nat_le, nat_lt, cond}
use Rattle.std.specs.List.{AllByRecursion}
use Rattle.std.specs.Str.{bytes_eq}
use Rattle.std.proofs.lemmas.Slice.Eq.{bytes_eq-Decides}
use Rattle.std.proofs.lemmas.List.Sums.{take_while-cons}
use Rattle.svc_tokens.specs.Characters.{is_name, name_at, past_spaces}
use Rattle.svc_names.specs.Table.{is_name_text}
use Rattle.svc_names.proofs.Order.{second_of}

abbrev pub IsNameByte : ℕ → Type 0
IsNameByte c = is_name c ≡ true

one_taken : (c : ℕ) (b : Bool) (cs : List ℕ) → is_name c ≡ b → AllByRecursion IsNameByte cs → AllByRecursion IsNameByte (cond b (c ∷ cs) [])
one_taken c true cs is h = (is, h)
one_taken c false cs is h = tt

taken : (text : List ℕ) → AllByRecursion IsNameByte (take_while is_name text)
taken [] = tt
taken (c ∷ text) = rw (take_while-cons is_name c text) (one_taken c (is_name c) (take_while is_name text) refl (taken text))

pub name_bytes : (text : List ℕ) → is_name_text text ≡ true → AllByRecursion IsNameByte text
name_bytes text h =
    let fits = nat_lt 0 (length text) && nat_le (length text) 2000 in
    let same : name_at text ≡ text = (bytes_eq-Decides (name_at text) text).0 (second_of fits (bytes_eq (name_at text) text) h) in
    subst (AllByRecursion IsNameByte) same (taken (past_spaces text))
