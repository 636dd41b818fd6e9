use Rattle.std.proofs.Common.{arith, subst, sym}
use Rattle.std.specs.List.Sorted.{IsPermutation, IsSorted}
use Rattle.std.specs.Ordering.{nat_cmp}
use Rattle.std.proofs.lemmas.List.Sorted.{IsPermutation-refl}
use Rattle.store_parts.proofs.index.in_order.Goals as goal

pub returns-then-len-lt2-clause-same : goal.returns-then-len-lt2-clause-same
returns-then-len-lt2-clause-same c = IsPermutation-refl c.args.found

pub returns-then-len-lt2-clause-rising : goal.returns-then-len-lt2-clause-rising
returns-then-len-lt2-clause-rising c = λ k d low within.
    absurd (omega (arith, within, c.if-len-lt2.true, c.len.ensures))

pub returns-clause-same : goal.returns-clause-same
returns-clause-same c =
    subst (λ places. IsPermutation places c.from_vec.result) c.in_ok-places.ensures
    (subst (IsPermutation c.in_ok-places.places.items) (sym c.from_vec.ensures) c.sort_unstable.ensures.permutation)

pub returns-clause-rising : goal.returns-clause-rising
returns-clause-rising c = subst (IsSorted nat_cmp) (sym c.from_vec.ensures) c.sort_unstable.ensures.sorted
