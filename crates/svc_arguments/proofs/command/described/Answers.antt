use Rattle.std.proofs.Common.{◌≡◌, ◌∙◌, ap, false}
use Rattle.std.proofs.lemmas.Result.{IfOk-weaker}
use Rattle.clap.specs.Simple.{new_shape, shape_of_fields}
use Rattle.clap.specs.Words.{AddsArg, App, Shape, rule_of, shape_of}
use Rattle.clap.specs.declared.builder.command.Command.{Command}
use Rattle.clap.specs.declared.builder.command.Command.TheOpen.{Command-F}
use Rattle.clap.specs.declared.builder.command.Command.TheViews.{out-Command as fields_of}
use Rattle.svc_arguments.specs.Told.{described, explain, is_told, told}
use Rattle.svc_arguments.proofs.Adding.{takes_one, told_whole}
use Rattle.svc_arguments.proofs.command.described.Goals as goal

pub returns-clause-local : goal.returns-clause-local
returns-clause-local c =
    let here = λ (f : Command-F Command). f.has_globals in
    let none : (fields_of c.with_usage-command.result).has_globals ≡ false =
    c.with_usage-command.ensures.local ∙ (ap here c.after_help-command.ensures ∙ (ap here c.long_about.ensures
    ∙ (ap here c.about.ensures ∙ c.new.ensures.local))) in
    IfOk-weaker c.arg.result (AddsArg c.in_ok-command.command c.in_ok-given.field-0)
    (λ command. (fields_of command).has_globals ≡ false)
    (λ new added. (takes_one c.in_ok-command.command new c.in_ok-given.field-0 added c.in_ok-given.ensures.local).local
    ∙ (c.in_ok-command.ensures.local ∙ none))
    c.arg.ensures

pub returns-clause-told : goal.returns-clause-told
returns-clause-told c =
    let first = c.with_usage-command.result in
    let s = c.args.subcommand.now in
    let shape : shape_of first ≡ new_shape s.name.now =
    c.with_usage-command.ensures.shape ∙ (ap shape_of_fields c.after_help-command.ensures
    ∙ (ap shape_of_fields c.long_about.ensures
    ∙ (ap shape_of_fields c.about.ensures ∙ ap (λ (a : App). a.top) c.new.ensures.app))) in
    let same : is_told (rule_of c.in_ok-given.field-0) ≡ explain = c.in_ok-given.ensures.told in
    IfOk-weaker c.arg.result (AddsArg c.in_ok-command.command c.in_ok-given.field-0)
    (λ command. told (shape_of command) ≡ described s)
    (λ new added. told_whole first c.in_ok-command.command new c.in_ok-given.field-0 s
    (ap (λ (x : Shape). x.name) shape) (ap (λ (x : Shape). x.rules) shape) c.in_ok-command.ensures added
    c.in_ok-given.ensures.local same)
    c.arg.ensures
