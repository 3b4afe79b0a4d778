-- What the parser is told of the subcommands and their arguments.
use Rattle.std.specs.Prelude.{◌≡◌, ℕ, Bool, false, List, [], ◌∷◌, ◌++◌, map, codes, Option, Some, None}
use Rattle.std.specs.Borrow.{Bor}
use Rattle.clap.specs.Words.{Rule, Shape, app_of, items_of, rule_of, shape_of}
use Rattle.clap.specs.declared.builder.arg.Arg.{Arg}
use Rattle.clap.specs.declared.builder.command.Command.{Command}
use Rattle.clap.specs.declared.builder.command.Command.TheViews.{out-Command as fields_of}
use Rattle.svc_arguments.specs.declared.argument.Argument.{Argument}
use Rattle.svc_arguments.specs.declared.command.Subcommand.{Subcommand}

-- an argument's name, whether it has to be given, and its value if it isn't
pub record Told : Type 0 where
  pub name : List ℕ
  pub is_required : Bool
  pub default : List (List ℕ)

-- as the parser has it
abbrev pub is_told : Rule → Told
is_told r = record { name = r.id; is_required = r.required; default = r.defaults }

-- a value, if there is one, or these
abbrev pub unless : Option (Bor (List ℕ)) → List (List ℕ) → List (List ℕ)
unless None values = values
unless (Some value) values = value.now ∷ []

-- an argument that now has this value if it isn't given
abbrev pub with_default : Option (Bor (List ℕ)) → Told → Told
with_default default t = record t { default = unless default t.default }

-- as the table has it
abbrev pub tells : Argument → Told
tells a = record { name = a.name.now; is_required = a.is_required; default = unless a.default [] }

-- a subcommand's name and its arguments, as the parser has them
abbrev pub told : Shape → List ℕ × List Told
told s = (s.name, map is_told s.rules)

-- all subcommands of a command line, as the parser has them
abbrev pub all_told : Command → List (List ℕ × List Told)
all_told c = map told (app_of c).subs

-- `--explain`
abbrev pub explain : Told
explain = record { name = codes "explain"; is_required = false; default = [] }

-- as the table has them; each subcommand takes `--explain`, too
abbrev pub described : Subcommand → List ℕ × List Told
described s = (s.name.now, map tells s.arguments.now ++ explain ∷ [])

-- an argument of the parser has the name of the table's, has to be given if that has to, and has no default yet
pub record IsNamed (arg : Arg) (a : Argument) : Type 0 where
  pub name : arg.id.now ≡ a.name.now
  pub required : arg.required ≡ a.is_required
  pub default : items_of arg.default_vals ≡ []
  pub local : arg.global ≡ false

-- the parser reads the same of both
pub record IsSame (old new : Arg) : Type 0 where
  pub told : is_told (rule_of new) ≡ is_told (rule_of old)
  pub local : new.global ≡ old.global

-- a subcommand with these arguments behind those of another one
pub record TakesMore (old : Command) (more : List Told) (new : Command) : Type 0 where
  pub name : (shape_of new).name ≡ (shape_of old).name
  pub rules : map is_told (shape_of new).rules ≡ map is_told (shape_of old).rules ++ more
  pub local : (fields_of new).has_globals ≡ (fields_of old).has_globals
