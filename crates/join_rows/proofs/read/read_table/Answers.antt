use Rattle.std.proofs.lemmas.Result.{err_from_is_err_and}
use Rattle.join_rows.proofs.Answered.{bytes-answer, bytes-place, bytes-read, fault-answers}
use Rattle.join_rows.proofs.OfBytes.{bytes-read_whole, bytes-refused}
use Rattle.join_rows.proofs.Shapes.{table-in-shape}
use Rattle.join_rows.proofs.read.read_table.Goals as goal

pub returns-in_err-bytes-clause-answer : goal.returns-in_err-bytes-clause-answer
returns-in_err-bytes-clause-answer g c file tells same =
    let err = fault-answers (g.H.Shelf.told c.args.shelf.now) c.args.name.now (g.H.Shelf.faults c.args.shelf.now)
    (g.H.Shelf.faults c.read_whole.new.shelf) (g.H.Shelf.picked c.read_whole.new.shelf)
    c.in_err-bytes.field-0.0 c.in_err-bytes.ensures.err file tells same in
    let p = err_from_is_err_and c.from_residual.result c.from_residual.ensures.1 in
    rw (p.1, p.2) err

pub returns-clause-read : goal.returns-clause-read
returns-clause-read g c =
    bytes-read (g.H.Shelf.told c.args.shelf.now) c.args.name.now (g.H.Shelf.faults c.args.shelf.now)
    (g.H.Shelf.faults c.read_whole.new.shelf) (g.H.Shelf.picked c.read_whole.new.shelf)
    c.in_ok-bytes.bytes.items c.table_from.result c.in_ok-bytes.ensures.ok
    (rw c.as_slice.ensures.value at c.table_from.ensures)

pub returns-clause-answer : goal.returns-clause-answer
returns-clause-answer g c file tells same =
    bytes-answer (g.H.Shelf.told c.args.shelf.now) c.args.name.now (g.H.Shelf.faults c.args.shelf.now)
    (g.H.Shelf.faults c.read_whole.new.shelf) (g.H.Shelf.picked c.read_whole.new.shelf)
    c.in_ok-bytes.bytes.items c.table_from.result c.in_ok-bytes.ensures.ok
    (rw c.as_slice.ensures.value at c.table_from.ensures) file tells

pub returns-clause-place : goal.returns-clause-place
returns-clause-place g c not_read =
    bytes-place (g.H.Shelf.told c.args.shelf.now) c.args.name.now (g.H.Shelf.faults c.args.shelf.now)
    (g.H.Shelf.faults c.read_whole.new.shelf) (g.H.Shelf.picked c.read_whole.new.shelf)
    c.in_ok-bytes.bytes.items c.table_from.result c.in_ok-bytes.ensures.ok
    (rw c.as_slice.ensures.value at c.table_from.ensures)

pub returns-clause-table : goal.returns-clause-table
returns-clause-table g c = table-in-shape c.in_ok-bytes.bytes.items c.table_from.result
    (rw c.as_slice.ensures.value at c.table_from.ensures)

pub returns-in_err-bytes-clause-bytes : goal.returns-in_err-bytes-clause-bytes
returns-in_err-bytes-clause-bytes g c =
    let of_bytes = bytes-refused (g.H.Shelf.told c.args.shelf.now) c.args.name.now (g.H.Shelf.faults c.args.shelf.now)
    (g.H.Shelf.faults c.read_whole.new.shelf) (g.H.Shelf.picked c.read_whole.new.shelf)
    c.in_err-bytes.field-0.0 c.in_err-bytes.ensures.err in
    let p = err_from_is_err_and c.from_residual.result c.from_residual.ensures.1 in
    rw (p.1, p.2) of_bytes

pub returns-clause-bytes : goal.returns-clause-bytes
returns-clause-bytes g c read memory =
    bytes-read_whole (g.H.Shelf.told c.args.shelf.now) c.args.name.now (g.H.Shelf.faults c.args.shelf.now)
    (g.H.Shelf.faults c.read_whole.new.shelf) (g.H.Shelf.picked c.read_whole.new.shelf)
    c.in_ok-bytes.bytes.items c.table_from.result c.in_ok-bytes.ensures.ok
    (rw c.as_slice.ensures.value at c.table_from.ensures) memory
