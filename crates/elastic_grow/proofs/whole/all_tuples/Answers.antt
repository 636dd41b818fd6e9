use Rattle.std.proofs.Common.{◌*◌, ◌++◌, ◌∙◌, ap, ap₂, ℕ, List}
use Rattle.row_cells.specs.declared.table.Side.TheVariants.{R, S}
use Rattle.row_cells.specs.Lists.{gather}
use Rattle.epoch_tags.specs.declared.tuple.Tuple.{Tuple}
use Rattle.elastic_grow.specs.Stores.{side_at}
use Rattle.elastic_grow.proofs.whole.all_tuples.Goals as goal

pub returns : goal.returns
returns c =
    let stores = c.args.stores.now in
    let r = c.in_ok-all.ensures
    ∙ ap₂ (λ (n step : ℕ). gather n (λ i. side_at stores R (i * step))) c.power.ensures c.power-2.ensures in
    let s = c.in_ok-more.ensures ∙ ap (λ (n : ℕ). gather n (λ i. side_at stores S (i * 1))) c.power-3.ensures in
    c.in_ok-add_copies.ensures ∙ ap₂ (λ (us vs : List Tuple). us ++ vs) r (c.as_slice.ensures ∙ s)
