use Rattle.std.proofs.Common.{◌∙◌, map, string_bytes}
use Rattle.clap.specs.Matches.{found_of}
use Rattle.clap.specs.Walk.{rows_of}
use Rattle.join_words.specs.Words.{asked_by}
use Rattle.join_words.specs.declared.options.WordsError.TheVariants.{Fault}
use Rattle.join_words.proofs.Askable.{options_are}
use Rattle.join_words.proofs.ReadLemmas.{asked_of-match, gives_fault, same_error}
use Rattle.join_words.proofs.reading.read_words.Goals as goal

pub returns-in-Ok-clause-ok : goal.returns-in-Ok-clause-ok
returns-in-Ok-clause-ok c =
    asked_of-match (map string_bytes c.args.words.now) (rows_of (found_of c.in_ok-matches.matches))
    c.in_ok-matches.ensures.ok ∙ c.in-Ok.ensures

pub returns-in-Ok-clause-options : goal.returns-in-Ok-clause-options
returns-in-Ok-clause-options c = options_are c.in-Ok.options

pub returns-clause-fault : goal.returns-clause-fault
returns-clause-fault c fault is =
    asked_of-match (map string_bytes c.args.words.now) (rows_of (found_of c.in_ok-matches.matches))
    c.in_ok-matches.ensures.ok
    ∙ gives_fault (asked_by (rows_of (found_of c.in_ok-matches.matches))) c.in-Err.error fault
    c.in-Err.ensures (same_error c.in-Err.error (Fault fault) is)
