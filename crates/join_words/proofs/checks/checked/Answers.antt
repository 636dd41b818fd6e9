use Rattle.clap.specs.Matches.{found_of}
use Rattle.clap.specs.Walk.{rows_of}
use Rattle.join_words.specs.Words.{names_of}
use Rattle.join_words.proofs.Askable.{options_stand}
use Rattle.join_words.proofs.checks.checked.Goals as goal

pub options-requires-clause-together : goal.options-requires-clause-together
options-requires-clause-together c =
    options_stand (rows_of (found_of c.args.matches.now)) c.in-Ok.begun (names_of c.in-Ok-read_names.named) c.requires
    c.in-Ok.ensures (rw c.number-make.ensures at c.in-Ok-read_names.ensures)
