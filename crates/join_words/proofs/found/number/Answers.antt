use Rattle.std.proofs.Common.{◌∙◌, Some, None, ap}
use Rattle.std.specs.Prelude.{option_and_then}
use Rattle.clap.specs.Matches.{found_of}
use Rattle.join_words.specs.Found.{number_of}
use Rattle.join_words.proofs.TextReads.{first_is}
use Rattle.join_words.proofs.found.number.Goals as goal

pub returns-in-Some : goal.returns-in-Some
returns-in-Some c =
    c.number_in.ensures ∙ ap (option_and_then number_of) (first_is (found_of c.args.matches.now)
    c.args.id.now c.get_str.result (Some c.in-Some.text) c.get_str.ensures c.in-Some.is)

pub returns-in-None : goal.returns-in-None
returns-in-None c =
    ap (option_and_then number_of) (first_is (found_of c.args.matches.now)
    c.args.id.now c.get_str.result None c.get_str.ensures c.in-None.is)
