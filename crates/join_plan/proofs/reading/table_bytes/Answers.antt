use Rattle.join_plan.specs.Causes.{Refuses}
use Rattle.join_plan.specs.Files.{source_of}
use Rattle.join_plan.proofs.OneFile.{judged_refuses}
use Rattle.join_plan.proofs.reading.table_bytes.Goals as goal

pub returns-in-Err-judge-clause-refused : goal.returns-in-Err-judge-clause-refused
returns-in-Err-judge-clause-refused g c asked of =
    rw c.file_refused.ensures
    (judged_refuses (source_of c.args.file.now) c.in-Ok.bytes c.in-Err-judge.fault
    (rw c.as_slice.ensures at c.in-Err-judge.ensures.bad)
    (Refuses (g.H.Shelf.faults c.args.shelf.now) (g.H.Shelf.faults c.bytes_of.new.shelf)
    (g.H.Shelf.told c.args.shelf.now) (g.H.Shelf.picked c.bytes_of.new.shelf) asked) tt
    (c.in-Ok.ensures.refused asked of))
