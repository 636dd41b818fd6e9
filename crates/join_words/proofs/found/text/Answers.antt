use Rattle.std.proofs.Common.{Option, Some, None, [], ap}
use Rattle.std.specs.Prelude.{unwrap_or}
use Rattle.clap.specs.Matches.{found_of}
use Rattle.clap.specs.Walk.{Text}
use Rattle.join_words.proofs.TextReads.{first_is}
use Rattle.join_words.proofs.found.text.Goals as goal

pub returns-in-Some : goal.returns-in-Some
returns-in-Some c =
    ap (λ (first : Option Text). unwrap_or first []) (first_is (found_of c.args.matches.now)
    c.args.id.now c.get_str.result (Some c.in-Some.text) c.get_str.ensures c.in-Some.is)

pub returns-in-None : goal.returns-in-None
returns-in-None c =
    ap (λ (first : Option Text). unwrap_or first []) (first_is (found_of c.args.matches.now)
    c.args.id.now c.get_str.result None c.get_str.ensures c.in-None.is)
