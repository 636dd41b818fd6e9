use Rattle.std.proofs.Common.{◌≡◌, ℕ, ◌+◌, Some, slice_get, sym, subst, ap, ◌∙◌}
use Rattle.std.proofs.lemmas.Option.{slice_get-get_or}
use Rattle.elastic_grow.specs.Children.{parent_of}
use Rattle.elastic_grow.specs.Stores.{AreKept}
use Rattle.elastic_grow.proofs.Kept.{one_kept}
use Rattle.elastic_grow.proofs.copies.of_parents.Goals as goal

pub loop-id-preserved : goal.loop-id-preserved
loop-id-preserved c =
    let stores = c.args.stores.now in
    let store = c.in-Some.store.now in
    let found = c.in-Some.ensures.lookup in
    let from = λ (j : ℕ). slice_get stores (parent_of c.args.shift j) in
    let there = slice_get-get_or stores c.parent.result store found.3.0 ∙ ap Some (sym found.1) in
    let named = subst (λ (n : ℕ). slice_get stores n ≡ Some store) c.parent.ensures there in
    subst (AreKept c.args.shape from (c.loop-id.id + 1)) (sym c.in_ok-push.ensures.ok)
    (one_kept c.args.shape from c.loop-id.id c.loop-id.kept store c.in_ok-kept_copy.field-0 c.loop-id.invariant
    named c.in_ok-kept_copy.ensures)
