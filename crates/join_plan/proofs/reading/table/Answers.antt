use Rattle.std.proofs.Common.{◌≡◌, Ok, Err, inl, inr}
use Rattle.join_plan.specs.Files.{source_of}
use Rattle.join_plan.proofs.Seen.{file_refuses, file_seen, not_memory, not_read, not_rose, table_told, table_told_ok}
use Rattle.join_plan.proofs.reading.table.Goals as goal

pub returns-in-Ok-clause-found : goal.returns-in-Ok-clause-found
returns-in-Ok-clause-found g c files is =
    let same = not_rose (g.H.Shelf.faults c.args.shelf.now) (g.H.Shelf.faults c.read_table.new.shelf)
    c.in-Ok.ensures.rises
    (λ rose. cc (c.in-Ok.ensures.read.1 (inl rose))) in
    table_told_ok (source_of c.args.file.now) (g.H.Shelf.told c.args.shelf.now)
    (g.H.Shelf.faults c.read_table.new.shelf ≡ g.H.Shelf.faults c.args.shelf.now) c.in-Ok.table
    (λ lacks. c.in-Ok.ensures.read.1 (inr lacks)) c.in-Ok.ensures.answer files is same

pub returns-in-Err-clause-answer : goal.returns-in-Err-clause-answer
returns-in-Err-clause-answer g c files is same =
    rw c.file_refused.ensures
    (table_told (source_of c.args.file.now) (g.H.Shelf.told c.args.shelf.now)
    (g.H.Shelf.faults c.read_table.new.shelf ≡ g.H.Shelf.faults c.args.shelf.now) (Err c.in-Err.fault)
    (λ lacks. c.in-Err.ensures.read.1 (inr lacks)) c.in-Err.ensures.answer files is same)

pub returns-in-Err-clause-refused : goal.returns-in-Err-clause-refused
returns-in-Err-clause-refused g c asked of =
    rw c.file_refused.ensures
    (file_refuses (source_of c.args.file.now) c.in-Err.fault (g.H.Shelf.faults c.args.shelf.now)
    (g.H.Shelf.faults c.read_table.new.shelf) (g.H.Shelf.told c.args.shelf.now)
    (g.H.Shelf.picked c.read_table.new.shelf) _ asked
    c.in-Err.ensures.read.0 c.in-Err.ensures.place of)

pub returns-in-Ok-clause-seen : goal.returns-in-Ok-clause-seen
returns-in-Ok-clause-seen g c read memory =
    file_seen (source_of c.args.file.now) (g.H.Shelf.told c.args.shelf.now) (g.H.Shelf.picked c.read_table.new.shelf)
    (Ok c.in-Ok.table)
    (c.in-Ok.ensures.bytes (λ e. cc e) (λ e. cc e))

pub returns-in-Err-clause-seen : goal.returns-in-Err-clause-seen
returns-in-Err-clause-seen g c read memory =
    let source = source_of c.args.file.now in
    let of_bytes = c.in-Err.ensures.bytes (not_read source c.in-Err.fault (rw c.file_refused.ensures at read))
    (not_memory source c.in-Err.fault (rw c.file_refused.ensures at memory)) in
    rw c.file_refused.ensures
    (file_seen source (g.H.Shelf.told c.args.shelf.now) (g.H.Shelf.picked c.read_table.new.shelf) (Err c.in-Err.fault)
    of_bytes)
