-- The numbers that names have are within the bounds of their tables.
use Rattle.std.proofs.Common.{ℕ, ◌<◌, List, [], ◌∷◌, Some, None, lit<}
use Rattle.std.specs.Prelude.{IfSome}
use Rattle.std.specs.List.{AllByRecursion}
use Rattle.std.specs.Str.{bytes_eq}
use Rattle.std.proofs.lemmas.Bool.{cond_both}
use Rattle.svc_layout.specs.Options.{◌>>=◌}
use Rattle.svc_tokens.specs.declared.names.Named.{Named}
use Rattle.svc_tokens.specs.declared.names.TheConstants.{REGISTERS}
use Rattle.svc_tokens.specs.Names.{letters_of, named_in, number_named}

each_small : AllByRecursion (λ r. r.1 < 32) REGISTERS
each_small = (lit< tt, (lit< tt, (lit< tt, (lit< tt, (lit< tt, (lit< tt, (lit< tt, (lit< tt, (lit< tt, (lit< tt, (lit< tt, (lit< tt, (lit< tt, (lit< tt, (lit< tt, (lit< tt, (lit< tt, (lit< tt, (lit< tt, (lit< tt, (lit< tt, (lit< tt, (lit< tt, (lit< tt, (lit< tt, (lit< tt, (lit< tt, (lit< tt, (lit< tt, (lit< tt, (lit< tt, (lit< tt, (lit< tt, tt)))))))))))))))))))))))))))))))))

-- a bound of all rows' numbers bounds the one of a name
found_small : (limit : ℕ) (rows : List Named) (name : List ℕ) → AllByRecursion (λ r. r.1 < limit) rows → IfSome (named_in rows name) (λ n. n < limit)
found_small limit [] name h = tt
found_small limit (r ∷ more) name h =
    cond_both (bytes_eq name r.0) (Some r.1) (named_in more name) (λ o. IfSome o (λ n. n < limit)) (λ e. h.0) (λ e. found_small limit more name h.1)

pub number_small : (limit : ℕ) (rows : List Named) (name : List ℕ) → AllByRecursion (λ r. r.1 < limit) rows → IfSome (number_named rows name) (λ n. n < limit)
unfolding number_named
number_small limit rows name h = elim (letters_of name) as (λ o. IfSome (o >>= (λ letters. named_in rows letters)) (λ n. n < limit)) [ None ↦ tt | Some letters ↦ found_small limit rows letters h ]

pub register_small : (name : List ℕ) → IfSome (number_named REGISTERS name) (λ n. n < 32)
register_small name = number_small 32 REGISTERS name each_small
