use Rattle.std.proofs.Common.{ap, sym, ◌∙◌, ◌++◌, map}
use Rattle.joiner_law.specs.Posting.{moved_post}
use Rattle.joiner_core.proofs.StoreLists.{own-side}
use Rattle.joiner_core.proofs.stock.send_side.Goals as goal

pub returns : goal.returns
returns c =
    c.in_ok-send_all.ensures
    ∙ ap (λ xs. c.args.sends.now ++ map (moved_post c.args.to c.args.epoch) xs)
    (c.as_slice.ensures ∙ c.side.ensures.tuples ∙ sym (own-side c.args.side c.args.store.now c.are_sided.ensures))
