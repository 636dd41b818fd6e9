use Rattle.predicate_hints.proofs.Boundaries.{first_line_ends}
use Rattle.predicate_hints.proofs.pointing.first_line.Goals as goal

pub split_at-requires : goal.split_at-requires
split_at-requires c =
    let same = c.as_bytes.ensures.value in
    first_line_ends c.args.text.now c.first_line_len.result (rw same at c.first_line_len.ensures.len)
    (rw same at c.first_line_len.ensures.within)
