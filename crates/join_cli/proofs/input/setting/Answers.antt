use Rattle.join_words.specs.Words.{asked}
use Rattle.join_words.proofs.Askable.{options_are}
use Rattle.join_cli.proofs.Made.{valid_asked}
use Rattle.join_cli.proofs.input.setting.Goals as goal

pub returns-clause-valid : goal.returns-clause-valid
returns-clause-valid c =
    rw c.grid-grid.ensures (valid_asked (asked c.args.options.now) (options_are c.args.options.now))
