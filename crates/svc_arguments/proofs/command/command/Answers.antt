use Rattle.std.proofs.Common.{◌≡◌, ◌∙◌, ◌++◌, List, [], ap, map}
use Rattle.std.proofs.lemmas.Result.{IfOk-weaker}
use Rattle.clap.specs.Words.{App, Shape, app_of, shape_of}
use Rattle.clap.specs.declared.builder.command.Command.{Command}
use Rattle.clap.specs.declared.builder.command.Command.TheOpen.{Command-F}
use Rattle.svc_arguments.specs.Grammar.{grammar}
use Rattle.svc_arguments.specs.Told.{all_told, told}
use Rattle.svc_arguments.proofs.command.command.Goals as goal

pub returns : goal.returns
unfolding grammar
returns c =
    let subs = λ (f : Command-F Command). map shape_of f.subcommands.items in
    let first = c.subcommand_required-command.result in
    let none : (app_of first).subs ≡ [] =
    ap subs c.subcommand_required-command.ensures ∙ (ap subs c.after_long_help.ensures ∙ (ap subs c.after_help.ensures
    ∙ (ap subs c.long_about.ensures ∙ (ap subs c.about.ensures ∙ (ap subs c.version.ensures
    ∙ (ap subs c.in_ok-bin_name.ensures.0 ∙ ap (λ (a : App). a.subs) c.new.ensures.app)))))) in
    -- the table says what the grammar says
    IfOk-weaker c.with_subcommands.result (λ new. all_told new ≡ all_told first ++ grammar)
    (λ command. all_told command ≡ grammar)
    (λ new all. all ∙ ap (λ (shapes : List Shape). map told shapes ++ grammar) none)
    c.with_subcommands.ensures
