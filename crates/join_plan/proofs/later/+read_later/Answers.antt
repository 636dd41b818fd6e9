use Rattle.std.proofs.Common.{◌∙◌, sym}
use Rattle.join_plan.proofs.LaterFiles.{answer_on, first_asked, found_on, rest_asked, seen_behind, seen_first}
use Rattle.join_plan.proofs.Refusals.{later_refuses_if}
use Rattle.join_plan.proofs.later.+read_later.Goals as goal

-- ---- a wave, and those behind it

pub returns-in-Ok-clause-answer : goal.returns-in-Ok-clause-answer
returns-in-Ok-clause-answer g t c files is same =
    answer_on c.args.number c.args.later.now _ c.in-len1-up.len_at_least files c.args.waves c.in-Ok.waves
    c.read_later.result (c.in-Ok.ensures.found files is)
    (c.read_later.ensures.answer files (c.in-Ok.ensures.told ∙ is)
    (same ∙ sym (c.in-Ok.ensures.counts (λ e. cc e))))

pub returns-in-Ok-clause-found : goal.returns-in-Ok-clause-found
returns-in-Ok-clause-found g t c =
    found_on c.args.number c.args.later.now _ c.in-len1-up.len_at_least (g.H.Shelf.told c.args.shelf.now)
    (g.H.Shelf.told c.read_wave.new.shelf) c.args.waves c.in-Ok.waves c.read_later.result c.in-Ok.ensures.told
    c.in-Ok.ensures.found c.read_later.ensures.found

pub returns-in-Ok-clause-seen : goal.returns-in-Ok-clause-seen
returns-in-Ok-clause-seen g t c read memory =
    seen_behind c.args.number c.args.later.now _ c.in-len1-up.len_at_least (g.H.Shelf.told c.args.shelf.now)
    (g.H.Shelf.picked c.args.shelf.now) (g.H.Shelf.picked c.read_wave.new.shelf)
    (g.H.Shelf.picked c.read_later.new.shelf) c.args.waves c.in-Ok.waves c.read_later.result
    (c.in-Ok.ensures.seen (λ e. cc e) (λ e. cc e))
    (rw c.in-Ok.ensures.told at (c.read_later.ensures.seen read memory))

pub returns-in-Ok-clause-refused : goal.returns-in-Ok-clause-refused
returns-in-Ok-clause-refused g t c asked are =
    later_refuses_if (g.H.Shelf.faults c.args.shelf.now) (g.H.Shelf.faults c.read_wave.new.shelf)
    (g.H.Shelf.faults c.read_later.new.shelf) (g.H.Shelf.told c.args.shelf.now)
    (g.H.Shelf.told c.read_wave.new.shelf) (g.H.Shelf.picked c.read_later.new.shelf) asked
    c.read_later.result c.in-Ok.ensures.rises c.in-Ok.ensures.told
    (c.read_later.ensures.refused asked
    (rest_asked c.args.number c.args.later.now c.in-len1-up.len_at_least asked are))

-- ---- a wave that is refused

pub returns-in-Err-clause-seen : goal.returns-in-Err-clause-seen
returns-in-Err-clause-seen g t c read memory =
    seen_first c.args.number c.args.later.now _ c.in-len1-up.len_at_least (g.H.Shelf.told c.args.shelf.now)
    (g.H.Shelf.picked c.args.shelf.now) (g.H.Shelf.picked c.read_wave.new.shelf) c.args.waves c.in-Err.refusal
    (c.in-Err.ensures.seen read memory)

pub returns-in-Err-clause-refused : goal.returns-in-Err-clause-refused
returns-in-Err-clause-refused g t c asked are =
    c.in-Err.ensures.refused asked (first_asked c.args.number c.args.later.now _ c.in-len1-up.len_at_least asked are)
