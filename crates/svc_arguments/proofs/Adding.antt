-- What the parser is told by each step that gives it an argument or a subcommand.
use Rattle.std.proofs.Common.{◌≡◌, ◌∙◌, ◌<◌, ◌+◌, ◌++◌, ◌∷◌, ◌||◌, ℕ, Bool, false, true, List, []}
use Rattle.std.proofs.Common.{ap, get_or, length, map, refl, subst, sym, take}
use Rattle.std.proofs.lemmas.List.{append_assoc, map_more, map_push}
use Rattle.clap.specs.Words.{AddsArg, AddsSubcommand, App, Rule, app_of, rule_of, shape_of}
use Rattle.clap.specs.declared.builder.arg.Arg.{Arg}
use Rattle.clap.specs.declared.builder.command.Command.{Command}
use Rattle.clap.specs.declared.builder.command.Command.TheViews.{out-Command as fields_of}
use Rattle.svc_arguments.specs.Told.{TakesMore, Told, all_told, described, explain, is_told, tells, told}
use Rattle.svc_arguments.specs.declared.argument.Argument.{Argument}
use Rattle.svc_arguments.specs.declared.command.Subcommand.{Subcommand}

or_false : (b : Bool) → (b || false) ≡ b
or_false true = refl
or_false false = refl

same_pair : (x v : List ℕ) (y w : List Told) → x ≡ v → y ≡ w
    → let left : List ℕ × List Told = (x, y) in let right : List ℕ × List Told = (v, w) in left ≡ right
same_pair x v y w first second =
    let pair : List ℕ → List Told → List ℕ × List Told = λ z ts. (z, ts) in
    ap (λ z. pair z y) first ∙ ap (λ ts. pair v ts) second

-- a subcommand has one argument more
pub takes_one : (old new : Command) (a : Arg) → AddsArg old a new → a.global ≡ false
    → TakesMore old (is_told (rule_of a) ∷ []) new
takes_one old new a added here = record {
  name = ap (λ (x : App). x.top.name) (added.shape here);
  rules = ap (λ (x : App). map is_told x.top.rules) (added.shape here)
      ∙ map_push is_told (shape_of old).rules (rule_of a);
  local = added.globals ∙ (ap (λ b. (fields_of old).has_globals || b) here ∙ or_false (fields_of old).has_globals);
}

-- arguments behind one another
pub takes_both : (first old new : Command) (xs ys : List Told) → TakesMore first xs old → TakesMore old ys new
    → TakesMore first (xs ++ ys) new
takes_both first old new xs ys p q = record {
  name = q.name ∙ p.name;
  rules = q.rules ∙ (ap (λ l. l ++ ys) p.rules ∙ append_assoc (map is_told (shape_of first).rules) xs ys);
  local = q.local ∙ p.local;
}

-- one step through a table of arguments
pub takes_next : (first old new : Command) (a : Arg) (table : List Argument) (i : ℕ) (x : Argument) → i < length table
    → TakesMore first (map tells (take i table)) old → AddsArg old a new → a.global ≡ false
    → is_told (rule_of a) ≡ tells (get_or table i x)
    → TakesMore first (map tells (take (i + 1) table)) new
takes_next first old new a table i x inside before added here same =
    let one : TakesMore old (tells (get_or table i x) ∷ []) new =
    subst (λ (t : Told). TakesMore old (t ∷ []) new) same (takes_one old new a added here) in
    subst (λ (ts : List Told). TakesMore first ts new) (sym (map_more tells table i x inside))
    (takes_both first old new (map tells (take i table)) (tells (get_or table i x) ∷ []) before one)

-- a subcommand with the arguments of the table, and `--explain`
pub told_whole : (first old new : Command) (a : Arg) (s : Subcommand) → (shape_of first).name ≡ s.name.now
    → (shape_of first).rules ≡ [] → TakesMore first (map tells s.arguments.now) old → AddsArg old a new
    → a.global ≡ false → is_told (rule_of a) ≡ explain → told (shape_of new) ≡ described s
told_whole first old new a s name none before added here same =
    let one : TakesMore old (explain ∷ []) new =
    subst (λ (t : Told). TakesMore old (t ∷ []) new) same (takes_one old new a added here) in
    let all = takes_both first old new (map tells s.arguments.now) (explain ∷ []) before one in
    same_pair (shape_of new).name s.name.now (map is_told (shape_of new).rules)
    (map tells s.arguments.now ++ explain ∷ []) (all.name ∙ name)
    (all.rules ∙ ap (λ (rs : List Rule). map is_told rs ++ (map tells s.arguments.now ++ explain ∷ [])) none)

-- one step through the table of subcommands
pub has_next : (first old sub new : Command) (table : List Subcommand) (i : ℕ) (x : Subcommand) → i < length table
    → all_told old ≡ all_told first ++ map described (take i table)
    → AddsSubcommand old sub new → (fields_of sub).has_globals ≡ false
    → told (shape_of sub) ≡ described (get_or table i x)
    → all_told new ≡ all_told first ++ map described (take (i + 1) table)
has_next first old sub new table i x inside before added here same =
    let front = all_told first in
    let passed = map described (take i table) in
    ap (λ (a : App). map told a.subs) (added.shape here)
    ∙ (map_push told (app_of old).subs (shape_of sub)
    ∙ (ap (λ l. l ++ told (shape_of sub) ∷ []) before
    ∙ (ap (λ t. (front ++ passed) ++ t ∷ []) same
    ∙ (append_assoc front passed (described (get_or table i x) ∷ [])
    ∙ ap (λ l. front ++ l) (sym (map_more described table i x inside))))))
