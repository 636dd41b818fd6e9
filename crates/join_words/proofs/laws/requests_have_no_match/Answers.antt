use Rattle.std.proofs.Common.{refl}
use Rattle.clap.proofs.OnLiterals.{clap_on_literals}
use Rattle.join_words.specs.Command.{jm_command}
use Rattle.join_words.specs.Words.{asked_of}
use Rattle.join_words.proofs.laws.requests_have_no_match.Goals as goal

pub returns-clause-empty : goal.returns-clause-empty
unfolding asked_of jm_command clap_on_literals
returns-clause-empty c = refl

pub returns-clause-name_alone : goal.returns-clause-name_alone
unfolding asked_of jm_command clap_on_literals
returns-clause-name_alone c name = refl

pub returns-clause-help : goal.returns-clause-help
unfolding asked_of jm_command clap_on_literals
returns-clause-help c name = refl

pub returns-clause-short_help : goal.returns-clause-short_help
unfolding asked_of jm_command clap_on_literals
returns-clause-short_help c name = refl

pub returns-clause-version : goal.returns-clause-version
unfolding asked_of jm_command clap_on_literals
returns-clause-version c name = refl
