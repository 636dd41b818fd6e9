use Rattle.std.proofs.Common.{map, string_bytes}
use Rattle.clap.specs.Simple.{app_of}
use Rattle.join_words.specs.declared.options.WordsError.TheVariants.{Fault}
use Rattle.join_words.proofs.RangeLemmas.{are_in}
use Rattle.join_words.proofs.ReadLemmas.{free, is_match, same_error, tells}
use Rattle.join_words.proofs.reading.matched.Goals as goal

pub returns-in-Ok-try_get_matches_from-clause-ok : goal.returns-in-Ok-try_get_matches_from-clause-ok
returns-in-Ok-try_get_matches_from-clause-ok c =
    let line = map string_bytes c.args.words.now in
    let found = c.in-Ok-try_get_matches_from.ensures in
    is_match (app_of c.in-Ok.command) line c.in-Ok-try_get_matches_from.matches c.in-Ok.ensures
    (found.kinds (free (app_of c.in-Ok.command) c.in-Ok.ensures)) found.matches
    (are_in c.in-Ok.command c.in-Ok-try_get_matches_from.matches found.parsed c.in-Ok.ensures)

pub returns-in-Err-try_get_matches_from-clause-fault : goal.returns-in-Err-try_get_matches_from-clause-fault
returns-in-Err-try_get_matches_from-clause-fault c fault is =
    let failed = c.in-Err-try_get_matches_from.ensures in
    tells (app_of c.in-Ok.command) (map string_bytes c.args.words.now)
    c.in-Err-try_get_matches_from.error c.refusal.result fault c.in-Ok.ensures
    (failed.kinds (free (app_of c.in-Ok.command) c.in-Ok.ensures))
    c.refusal.ensures.memory c.refusal.ensures.others (same_error c.refusal.result (Fault fault) is)
