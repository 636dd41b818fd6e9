use Rattle.std.specs.Prelude.{map, string_bytes}
use Rattle.join_cli.specs.Lines.{TellsLine}
use Rattle.join_cli.proofs.Ran.{ran_by, ran_without}
use Rattle.join_cli.proofs.StatusOfWords.{ran_made, ran_over}
use Rattle.join_cli.proofs.entry.jm_program.Goals as goal

pub returns-in-Ok-clause-done : goal.returns-in-Ok-clause-done
returns-in-Ok-clause-done g c zero =
    rw c.in-Ok.is
    (ran_by g.H.Shelf g.K.Sink (map string_bytes c.in-Ok.words.items) c.args.shelf.now c.run_words.new.shelf
    c.args.sink.now c.run_words.new.sink (TellsLine g.E.Sink c.args.errors.now c.run_words.new.errors)
    c.run_words.result c.run_words.ensures.ran zero)

pub returns-in-Ok-clause-nothing : goal.returns-in-Ok-clause-nothing
returns-in-Ok-clause-nothing g c some other memory =
    ran_without g.H.Shelf g.K.Sink (map string_bytes c.in-Ok.words.items) c.args.shelf.now c.run_words.new.shelf
    c.args.sink.now c.run_words.new.sink (TellsLine g.E.Sink c.args.errors.now c.run_words.new.errors)
    c.run_words.result c.run_words.ensures.ran some other memory

pub returns-in-Ok-clause-answer : goal.returns-in-Ok-clause-answer
returns-in-Ok-clause-answer g c =
    rw c.in-Ok.is
    (ran_over g.H.Shelf g.K.Sink (map string_bytes c.in-Ok.words.items) c.args.shelf.now c.run_words.new.shelf
    c.args.sink.now c.run_words.new.sink (TellsLine g.E.Sink c.args.errors.now c.run_words.new.errors)
    c.run_words.result c.run_words.ensures.ran)

pub returns-in-Ok-clause-made : goal.returns-in-Ok-clause-made
returns-in-Ok-clause-made g c =
    rw c.in-Ok.is
    (ran_made g.H.Shelf g.K.Sink (map string_bytes c.in-Ok.words.items) c.args.shelf.now c.run_words.new.shelf
    c.args.sink.now c.run_words.new.sink (TellsLine g.E.Sink c.args.errors.now c.run_words.new.errors)
    c.run_words.result c.run_words.ensures.ran)
