use Rattle.predicate_hints.proofs.Boundaries.{last_line_begins}
use Rattle.predicate_hints.proofs.pointing.last_line.Goals as goal

pub split_at-requires : goal.split_at-requires
split_at-requires c =
    let same = c.as_bytes.ensures.value in
    last_line_begins c.args.text.now c.last_line_len.result c.utf8.text (rw same at c.last_line_len.ensures.len)
    (rw same at c.last_line_len.ensures.within)
