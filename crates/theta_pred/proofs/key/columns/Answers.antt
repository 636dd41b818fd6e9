use Rattle.std.proofs.Common.{◌++◌, ◌∙◌, not, ap}
use Rattle.theta_pred.specs.Keys.{columns_of}
use Rattle.theta_pred.proofs.KeyPlaces.{difference-few}
use Rattle.theta_pred.proofs.key.columns.Goals as goal

pub invariant_of-result : goal.invariant_of-result
invariant_of-result c =
    let first = columns_of c.args.side c.args.turned c.args.left.now in
    let second = columns_of c.args.side (not c.args.turned) c.args.right.now in
    record {
      short = difference-few c.args.side c.args.turned c.args.left.now c.args.right.now _ c.requires.left
          c.requires.right
          (c.from_vec.ensures ∙ c.in_ok-add_columns-2.ensures
          ∙ ap (λ xs. xs ++ second) (c.in_ok-add_columns.ensures ∙ ap (λ xs. xs ++ first) c.new-parts.ensures.items));
    }
