use Rattle.std.specs.Prelude.{codes}
use Rattle.clap.specs.Matches.{found_of}
use Rattle.join_words.proofs.TextReads.{count_of_none, count_of_some}
use Rattle.join_words.proofs.names.count.Goals as goal

pub returns-in-Some : goal.returns-in-Some
returns-in-Some c =
    count_of_some (found_of c.args.matches.now) (codes "files") c.get_strs.result c.in-Some.names
    c.get_strs.ensures c.in-Some.is

pub returns-in-None : goal.returns-in-None
returns-in-None c =
    count_of_none (found_of c.args.matches.now) (codes "files") c.get_strs.result c.get_strs.ensures c.in-None.is
