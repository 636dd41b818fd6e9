use Rattle.std.proofs.Common.{◌++◌, ◌∙◌, ap}
use Rattle.theta_pred.specs.Formula.{formula_of}
use Rattle.theta_pred.specs.Numeric.{sum_places}
use Rattle.theta_pred.proofs.NumericPlaces.{AreNumeric-sorted}
use Rattle.theta_pred.proofs.numeric.numeric_places.Goals as goal

pub returns : goal.returns
returns c =
    let places = sum_places c.args.side (formula_of c.args.tree.now) in
    let added = c.in_ok-add_places.ensures ∙ ap (λ before. before ++ places) c.new-places.ensures.items in
    rw c.from_vec.ensures
    (AreNumeric-sorted c.args.width_r c.args.width_s c.args.side _ c.add_places.new.places.items
    c.sort_unstable.new.self.items c.dedup.new.self.items c.requires added c.sort_unstable.ensures.permutation
    c.sort_unstable.ensures.sorted c.dedup.ensures.filtered)
