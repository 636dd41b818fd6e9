use Rattle.std.proofs.Common.{◌≡◌, Err, inr}
use Rattle.join_rows.specs.Records.{table_of}
use Rattle.join_plan.specs.Files.{source_of}
use Rattle.join_plan.proofs.OneFile.{answer_refuses, answer_seen, answer_told_ok}
use Rattle.join_plan.proofs.Seen.{file_refuses, file_seen, not_memory, not_read, table_told}
use Rattle.join_plan.proofs.reading.bytes_of.Goals as goal

pub returns-in-Ok-clause-answer : goal.returns-in-Ok-clause-answer
returns-in-Ok-clause-answer g c =
    table_told (source_of c.args.file.now) (g.H.Shelf.told c.args.shelf.now)
    (g.H.Shelf.faults c.read_bytes.new.shelf ≡ g.H.Shelf.faults c.args.shelf.now) (table_of c.in-Ok.bytes)
    (λ lacks. c.in-Ok.ensures.read.1 (inr lacks)) c.in-Ok.ensures.answer

pub returns-in-Ok-clause-found : goal.returns-in-Ok-clause-found
returns-in-Ok-clause-found g c =
    answer_told_ok (source_of c.args.file.now) (g.H.Shelf.told c.args.shelf.now)
    (g.H.Shelf.faults c.read_bytes.new.shelf ≡ g.H.Shelf.faults c.args.shelf.now) (table_of c.in-Ok.bytes)
    (λ lacks. c.in-Ok.ensures.read.1 (inr lacks)) c.in-Ok.ensures.answer c.in-Ok.ensures.counts

pub returns-in-Ok-clause-seen : goal.returns-in-Ok-clause-seen
returns-in-Ok-clause-seen g c =
    answer_seen (source_of c.args.file.now) (g.H.Shelf.told c.args.shelf.now)
    (g.H.Shelf.picked c.read_bytes.new.shelf) (table_of c.in-Ok.bytes) c.in-Ok.ensures.bytes

pub returns-in-Ok-clause-refused : goal.returns-in-Ok-clause-refused
returns-in-Ok-clause-refused g c asked of =
    answer_refuses (source_of c.args.file.now) (table_of c.in-Ok.bytes) (g.H.Shelf.faults c.args.shelf.now)
    (g.H.Shelf.faults c.read_bytes.new.shelf) (g.H.Shelf.told c.args.shelf.now)
    (g.H.Shelf.picked c.read_bytes.new.shelf) _ asked c.in-Ok.ensures.read.0 c.in-Ok.ensures.place of

pub returns-in-Err-clause-answer : goal.returns-in-Err-clause-answer
returns-in-Err-clause-answer g c files is same =
    rw c.file_refused.ensures
    (table_told (source_of c.args.file.now) (g.H.Shelf.told c.args.shelf.now)
    (g.H.Shelf.faults c.read_bytes.new.shelf ≡ g.H.Shelf.faults c.args.shelf.now) (Err c.in-Err.fault)
    (λ lacks. c.in-Err.ensures.read.1 (inr lacks)) c.in-Err.ensures.answer files is same)

pub returns-in-Err-clause-seen : goal.returns-in-Err-clause-seen
returns-in-Err-clause-seen g c read memory =
    let source = source_of c.args.file.now in
    let of_bytes = c.in-Err.ensures.bytes (not_read source c.in-Err.fault (rw c.file_refused.ensures at read))
    (not_memory source c.in-Err.fault (rw c.file_refused.ensures at memory)) in
    rw c.file_refused.ensures
    (file_seen source (g.H.Shelf.told c.args.shelf.now) (g.H.Shelf.picked c.read_bytes.new.shelf) (Err c.in-Err.fault)
    of_bytes)

pub returns-in-Err-clause-refused : goal.returns-in-Err-clause-refused
returns-in-Err-clause-refused g c asked of =
    rw c.file_refused.ensures
    (file_refuses (source_of c.args.file.now) c.in-Err.fault (g.H.Shelf.faults c.args.shelf.now)
    (g.H.Shelf.faults c.read_bytes.new.shelf) (g.H.Shelf.told c.args.shelf.now)
    (g.H.Shelf.picked c.read_bytes.new.shelf) _ asked
    c.in-Err.ensures.read.0 c.in-Err.ensures.place of)
