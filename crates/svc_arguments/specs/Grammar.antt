-- The grammar of the command line.
use Rattle.std.specs.Prelude.{ℕ, false, true, List, [], ◌∷◌, ◌++◌, codes}
use Prim.Native.String.{String}
use Rattle.svc_arguments.specs.Told.{Told, explain}

-- an argument that has to be given
abbrev pub demand : String → Told
demand name = record { name = codes name; is_required = true; default = [] }

-- one that may be left out
abbrev pub option : String → Told
option name = record { name = codes name; is_required = false; default = [] }

-- one that has this value if it is left out
abbrev pub setting : String → String → Told
setting name value = record { name = codes name; is_required = false; default = codes value ∷ [] }

-- what says which machine is meant
abbrev pub machine : List Told
machine =
    setting "units" "4" ∷ setting "sets" "16" ∷ setting "ways" "2" ∷ setting "events" "100000"
    ∷ setting "turns" "1000000" ∷ []

-- a subcommand with its arguments, of which each takes `--explain`, too
abbrev pub subcommand : String → List Told → List ℕ × List Told
subcommand name arguments = (codes name, arguments ++ explain ∷ [])

-- all subcommands
unfoldable pub grammar : List (List ℕ × List Told)
grammar =
    subcommand "run" (demand "IMAGE" ∷ option "trace" ∷ option "row" ∷ option "header" ∷ option "schedule"
    ∷ option "seed" ∷ option "burst" ∷ option "after" ∷ machine)
    ∷ subcommand "seq" (demand "IMAGE" ∷ demand "tasks" ∷ [])
    ∷ subcommand "depend" (demand "IMAGE" ∷ setting "tasks" "1000000" ∷ option "by" ∷ option "dot"
    ∷ option "names" ∷ [])
    ∷ subcommand "explore" (demand "IMAGE" ∷ setting "burst" "63" ∷ setting "states" "1000000" ∷ option "find"
    ∷ option "trace" ∷ option "of" ∷ option "names" ∷ machine)
    ∷ subcommand "script" (demand "IMAGE" ∷ demand "EVENTS" ∷ machine ++ option "trace" ∷ [])
    ∷ subcommand "check" (demand "IMAGE" ∷ demand "TRACE" ∷ machine ++ option "ignore" ∷ option "script" ∷ [])
    ∷ subcommand "profile" (demand "IMAGE" ∷ demand "TRACE" ∷ option "to" ∷ option "by" ∷ option "row"
    ∷ option "header" ∷ option "names" ∷ machine)
    ∷ subcommand "show" (demand "IMAGE" ∷ demand "TRACE" ∷ option "at" ∷ option "detail" ∷ option "moves"
    ∷ option "memory" ∷ option "names" ∷ machine)
    ∷ subcommand "draw" (demand "IMAGE" ∷ demand "TRACE" ∷ demand "FILE.svg" ∷ setting "from" "0"
    ∷ option "count" ∷ option "unit" ∷ option "task" ∷ option "word" ∷ option "values" ∷ option "compact"
    ∷ option "rows" ∷ option "names" ∷ machine)
    ∷ subcommand "export" (demand "IMAGE" ∷ demand "TRACE" ∷ demand "FILE" ∷ demand "format" ∷ option "words"
    ∷ machine)
    ∷ subcommand "assemble" (demand "FILE" ∷ demand "IMAGE" ∷ option "names" ∷ [])
    ∷ subcommand "list" (demand "IMAGE" ∷ option "names" ∷ [])
    ∷ []
