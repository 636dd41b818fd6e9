use Rattle.join_rows.specs.Records.{table_of}
use Rattle.join_rows.proofs.Answered.{bytes-place, bytes-read, fault-answers, own-table}
use Rattle.join_rows.proofs.OfBytes.{bytes-read_whole, bytes-refused}
use Rattle.join_rows.proofs.Shapes.{table-in-shape}
use Rattle.join_rows.proofs.read.read_bytes.Goals as goal

pub returns-in-Err-clause-answer : goal.returns-in-Err-clause-answer
returns-in-Err-clause-answer g c = fault-answers (g.H.Shelf.told c.args.shelf.now) c.args.name.now
    (g.H.Shelf.faults c.args.shelf.now) (g.H.Shelf.faults c.read_whole.new.shelf)
    (g.H.Shelf.picked c.read_whole.new.shelf) c.in-Err.fault c.in-Err.ensures.err

pub returns-in-Err-clause-bytes : goal.returns-in-Err-clause-bytes
returns-in-Err-clause-bytes g c = bytes-refused (g.H.Shelf.told c.args.shelf.now) c.args.name.now
    (g.H.Shelf.faults c.args.shelf.now) (g.H.Shelf.faults c.read_whole.new.shelf)
    (g.H.Shelf.picked c.read_whole.new.shelf) c.in-Err.fault c.in-Err.ensures.err

pub returns-in-Ok-clause-read : goal.returns-in-Ok-clause-read
returns-in-Ok-clause-read g c = rw c.from_vec.ensures (bytes-read (g.H.Shelf.told c.args.shelf.now) c.args.name.now
    (g.H.Shelf.faults c.args.shelf.now) (g.H.Shelf.faults c.read_whole.new.shelf)
    (g.H.Shelf.picked c.read_whole.new.shelf) c.in-Ok.bytes.items (table_of c.in-Ok.bytes.items) c.in-Ok.ensures.ok
    (own-table c.in-Ok.bytes.items c.in-Ok.ensures.ok.3))

pub returns-in-Ok-clause-bytes : goal.returns-in-Ok-clause-bytes
returns-in-Ok-clause-bytes g c = rw c.from_vec.ensures (λ read memory.
    bytes-read_whole (g.H.Shelf.told c.args.shelf.now) c.args.name.now
    (g.H.Shelf.faults c.args.shelf.now) (g.H.Shelf.faults c.read_whole.new.shelf)
    (g.H.Shelf.picked c.read_whole.new.shelf) c.in-Ok.bytes.items (table_of c.in-Ok.bytes.items) c.in-Ok.ensures.ok
    (own-table c.in-Ok.bytes.items c.in-Ok.ensures.ok.3) memory)

pub returns-in-Ok-clause-table : goal.returns-in-Ok-clause-table
returns-in-Ok-clause-table g c = rw c.from_vec.ensures (table-in-shape c.in-Ok.bytes.items
    (table_of c.in-Ok.bytes.items) (own-table c.in-Ok.bytes.items c.in-Ok.ensures.ok.3))

pub returns-in-Ok-clause-place : goal.returns-in-Ok-clause-place
returns-in-Ok-clause-place g c = rw c.from_vec.ensures (λ read.
    bytes-place (g.H.Shelf.told c.args.shelf.now) c.args.name.now
    (g.H.Shelf.faults c.args.shelf.now) (g.H.Shelf.faults c.read_whole.new.shelf)
    (g.H.Shelf.picked c.read_whole.new.shelf) c.in-Ok.bytes.items (table_of c.in-Ok.bytes.items) c.in-Ok.ensures.ok
    (own-table c.in-Ok.bytes.items c.in-Ok.ensures.ok.3))
