use Rattle.std.proofs.Common.{◌∙◌, ap}
use Rattle.std.proofs.lemmas.Result.{IfOk-weaker}
use Rattle.clap.specs.Built.{AddsArg, AddsInTurn}
use Rattle.clap.specs.Simple.{app_of}
use Rattle.join_words.specs.Command.{IsCommand, jm_command, rules, with_rules}
use Rattle.join_words.proofs.Arguments.{has_all}
use Rattle.join_words.proofs.syntax.command.Goals as goal

pub returns-in-Ok : goal.returns-in-Ok
unfolding jm_command
returns-in-Ok c =
    let args = c.add_all.new.args.items in
    IfOk-weaker c.args-made.result (λ r. AddsInTurn AddsArg c.new.result args r) (λ r. IsCommand (app_of r))
    (λ r adds. record {
      is = has_all args rules c.new.result r (c.in-Ok.ensures c.new-args.ensures.items) adds
          ∙ ap (λ a. with_rules a rules) c.new.ensures.app;
    }) c.args-made.ensures
