use Rattle.std.proofs.Common.{Option, Some, None, List, [], subst}
use Rattle.std.specs.Prelude.{codes, option_map, unwrap_or}
use Rattle.std.specs.Borrow.{Bor}
use Rattle.clap.specs.Matches.{found_of}
use Rattle.clap.specs.Walk.{Text, rows_of}
use Rattle.join_words.specs.Found.{names_given}
use Rattle.join_words.specs.Words.{GivesFiles, names_by}
use Rattle.join_words.proofs.TextReads.{all_is}
use Rattle.join_words.proofs.names.read_names.Goals as goal

pub returns-in-Some : goal.returns-in-Some
returns-in-Some c =
    subst (λ (on : Option Text). GivesFiles (names_by c.args.make on
    (names_given (rows_of (found_of c.args.matches.now)))) c.checked.result)
    c.given-on.ensures
    (subst (λ (all : Option (List Text)).
    GivesFiles (names_by c.args.make (option_map (λ (s : Bor Text). s.now) c.given-on.result) (unwrap_or all []))
    c.checked.result)
    (all_is (found_of c.args.matches.now) (codes "files") c.get_strs.result (Some c.in-Some.names)
    c.get_strs.ensures c.in-Some.is)
    c.checked.ensures)

pub returns-in-None : goal.returns-in-None
returns-in-None c =
    subst (λ (on : Option Text). GivesFiles (names_by c.args.make on
    (names_given (rows_of (found_of c.args.matches.now)))) c.checked-in-None.result)
    c.given-on.ensures
    (subst (λ (all : Option (List Text)).
    GivesFiles (names_by c.args.make (option_map (λ (s : Bor Text). s.now) c.given-on.result) (unwrap_or all []))
    c.checked-in-None.result)
    (all_is (found_of c.args.matches.now) (codes "files") c.get_strs.result None c.get_strs.ensures c.in-None.is)
    c.checked-in-None.ensures)
