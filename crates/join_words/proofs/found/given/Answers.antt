use Rattle.std.proofs.Common.{refl}
use Rattle.clap.specs.Matches.{found_of}
use Rattle.join_words.proofs.TextReads.{first_is}
use Rattle.join_words.proofs.found.given.Goals as goal

pub returns : goal.returns
returns c = first_is (found_of c.args.matches.now) c.args.id.now c.get_str.result c.get_str.result c.get_str.ensures
    refl
