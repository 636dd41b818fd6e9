use Rattle.std.proofs.Common.{◌≡◌, ◌++◌, List, sym, ◌∙◌, subst}
use Rattle.std.specs.Prelude.{OnOk}
use Rattle.epoch_tags.specs.declared.tuple.Tuple.{Tuple}
use Rattle.joiner_core.proofs.StoreLists.{own-side}
use Rattle.elastic_grow.proofs.whole.add_side.Goals as goal

pub returns : goal.returns
returns c =
    subst (λ (ts : List Tuple). OnOk c.add_copies.result (c.add_copies.new.all ≡ c.args.all.now ++ ts))
    (c.as_slice.ensures ∙ c.side.ensures.tuples ∙ sym (own-side c.args.side c.args.store.now c.are_sided.ensures))
    c.add_copies.ensures
