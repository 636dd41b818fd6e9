use Rattle.std.proofs.Common.{◌∙◌, sym}
use Rattle.std.specs.Map.Iter.{deref_pair}
use Rattle.std.proofs.lemmas.Map.Iter.{rest_all}
use Rattle.store_parts.proofs.MapRanges.{all_taken, gathered-backward, gathered-range}
use Rattle.store_parts.proofs.ordered.gather_ordered.Goals as goal

pub returns-then-is_backward : goal.returns-then-is_backward
returns-then-is_backward c =
    c.new-found.ensures ∙ sym (gathered-backward c.args.from c.args.to c.args.map.now.entries
    (sym c.is_backward.ensures ∙ c.if-is_backward.true))

pub returns : goal.returns
returns c =
    let ended = rest_all deref_pair c.loop-entry.entry-iterator c.next.new.self c.next.result c.in-None.is
    c.next.ensures.steps in
    all_taken c.loop-entry.entry-iterator c.loop-entry.found _ ended c.loop-entry.invariant
    ∙ gathered-range c.args.from c.args.to c.args.map.now.entries
