-- What was written bout by bout is the lines of the pairs that were taken.
use Rattle.std.proofs.Common.{◌≡◌, ℕ, ◌+◌, ◌-◌, ◌≤◌, sym, ap, subst, ◌∙◌, Option, List, [], ◌++◌, length, take, arith}
use Rattle.std.specs.Prelude.{sum_by}
use Rattle.std.specs.Io.KnownBytes.{append_known}
use Rattle.std.specs.List.Sorted.{IsPermutation}
use Rattle.std.proofs.Math.Seq.{take-append-add, take-length}
use Rattle.std.proofs.lemmas.Grind.{flat_map-append}
use Rattle.std.proofs.lemmas.List.{length-append}
use Rattle.std.proofs.lemmas.List.Concat.{length-flat_map}
use Rattle.row_cells.specs.Lists.{IsWithinBag, SameBag}
use Rattle.join_rows.specs.Sinks.{AppendsFront}
use Rattle.row_cells.proofs.Bags.{SameBag-append, SameBag-permutation, SameBag-refl, SameBag-sym, SameBag-trans}
use Rattle.epoch_tags.specs.declared.tuple.Pair.{Pair}
use Rattle.trace_law.specs.declared.input.Input.{Input}
use Rattle.trace_law.specs.Join.{nested_loop}
use Rattle.join_report.specs.PairLines.{pair_line, pair_lines}
use Rattle.join_report.proofs.Pieces.{known-append, known-none}
use Rattle.join_runtime.specs.Early.{WroteEach, WroteSome}
use Rattle.join_runtime.proofs.Rearranged.{rearranged}

-- the lines of these pairs were appended, in some order
pub record HasWritten (taken : List Pair) (old new : Option (List ℕ)) : Type 0 where
  pub pairs : List Pair
  pub same : SameBag pairs taken
  pub written : new ≡ append_known old (pair_lines pairs)

-- where no pairs were taken and nothing changed, the lines of the pairs taken were written
pub nothing_written : (taken : List Pair) (old new : Option (List ℕ)) → taken ≡ [] → new ≡ old
    → HasWritten taken old new
nothing_written taken old new none is = record {
  pairs = [];
  same = subst (SameBag []) (sym none) (SameBag-refl []);
  written = is ∙ sym (known-none old);
}

lines_joined : (xs ys : List Pair) → pair_lines xs ++ pair_lines ys ≡ pair_lines (xs ++ ys)
lines_joined xs ys = sym (flat_map-append pair_line xs ys)

within_too : (xs ys zs : List Pair) → SameBag xs ys → IsWithinBag ys zs → IsWithinBag xs zs
within_too xs ys zs same within = record {
  sums = λ f. let one = same.sums f in let two = within.sums f in
      omega (arith, one, two);
}

-- the pairs `taken` were written, and `fresh` are those that come then; with them they are `taken'`
module _ (taken since taken' fresh : List Pair) (moved : IsPermutation since fresh)
    (all : SameBag (taken ++ since) taken') (old middle : Option (List ℕ)) (before : HasWritten taken old middle) where
  with_fresh : SameBag (before.pairs ++ fresh) taken'
  with_fresh = SameBag-trans (SameBag-append before.same (SameBag-sym (SameBag-permutation since fresh moved))) all

  -- where the lines of the pairs that came then were written after those of the earlier ones, the lines of all taken
  -- were written
  pub written_more : (new : Option (List ℕ)) → new ≡ append_known middle (pair_lines fresh) → HasWritten taken' old new
  written_more new is = record {
    pairs = before.pairs ++ fresh;
    same = with_fresh;
    written = is ∙ (ap (λ known. append_known known (pair_lines fresh)) before.written
        ∙ (known-append old (pair_lines before.pairs) (pair_lines fresh)
        ∙ ap (append_known old) (lines_joined before.pairs fresh)));
  }

  -- where of them only a front was, and what was taken is within the nested loop, what was written is a front of the
  -- lines of pairs of it
  pub cut_written : (input : Input) (new : Option (List ℕ)) → IsWithinBag taken' (nested_loop input)
      → AppendsFront middle new (pair_lines fresh) → WroteSome input old new
  cut_written input new within front =
      let first = pair_lines before.pairs in
      let n = front.0 in
      record {
        pairs = before.pairs ++ fresh;
        right = within_too (before.pairs ++ fresh) taken' (nested_loop input) with_fresh within;
        front = (
          length first + n,
          front.1 ∙ (ap (λ known. append_known known (take n (pair_lines fresh))) before.written
              ∙ (known-append old first (take n (pair_lines fresh))
              ∙ ap (append_known old) (sym (take-append-add first (pair_lines fresh) n)
              ∙ ap (take (length first + n)) (lines_joined before.pairs fresh)))),
        );
      }

-- the lines of pairs taken within the nested loop are such a front, the whole of their lines
pub some_written : (input : Input) (taken : List Pair) (old new : Option (List ℕ))
    → IsWithinBag taken (nested_loop input) → HasWritten taken old new → WroteSome input old new
some_written input taken old new within has = record {
  pairs = has.pairs;
  right = within_too has.pairs taken (nested_loop input) has.same within;
  front = (
    length (pair_lines has.pairs),
    has.written ∙ ap (append_known old)
        (sym (take-length (pair_lines has.pairs))),
  );
}

-- where the pairs taken are those of the nested loop in some order, the lines of each of its pairs were written, whole
pub each_written : (input : Input) (taken pairs : List Pair) (old new : Option (List ℕ))
    → SameBag taken (nested_loop input) → pairs ≡ nested_loop input → HasWritten taken old new → WroteEach pairs old new
each_written input taken pairs old new all are has = record {
  order = has.pairs;
  each = subst (λ ps. IsPermutation ps has.pairs) (sym are)
      (rearranged (nested_loop input) has.pairs (SameBag-sym (SameBag-trans has.same all)));
  written = has.written;
}

-- ---- how long the lines are

long : (xs : List Pair) → length (pair_lines xs) ≡ sum_by (λ pair. length (pair_line pair)) xs
long xs = length-flat_map pair_line xs

-- lists that are the same as bags have lines that are as long together
pub same_long : (xs ys : List Pair) → SameBag xs ys → length (pair_lines xs) ≡ length (pair_lines ys)
same_long xs ys same = long xs ∙ (same.sums (λ pair. length (pair_line pair)) ∙ sym (long ys))

within_long : (xs ys : List Pair) → IsWithinBag xs ys → length (pair_lines xs) ≤ length (pair_lines ys)
within_long xs ys within = let one = long xs in let two = long ys in
    let less = within.sums (λ pair. length (pair_line pair)) in omega (arith, one, two, less)

-- what has room for the lines of `taken'` has room for those of `taken`, and then for those of `fresh`
module _ (taken since taken' fresh : List Pair) (moved : IsPermutation since fresh)
    (all : SameBag (taken ++ since) taken') (room : ℕ → Type 0) where
  fresh_long : length (pair_lines taken') ≡ length (pair_lines taken) + length (pair_lines fresh)
  fresh_long =
      let one = same_long (taken ++ since) taken' all in
      let two = ap length (lines_joined taken since) in
      let three = length-append (pair_lines taken) (pair_lines since) in
      let four = same_long since fresh (SameBag-permutation since fresh moved) in
      omega (arith, one, two, three, four)

  -- what has room for the lines of all pairs taken and more has room for those of before, then for the fresh ones, and
  -- for the same more
  pub room_behind : (more : ℕ) → room (length (pair_lines taken') + more)
      → room (length (pair_lines taken) + (length (pair_lines fresh) + more))
  room_behind more =
      let whole = fresh_long in
      let is : length (pair_lines taken') + more ≡ length (pair_lines taken) + (length (pair_lines fresh) + more) =
      omega (arith, whole) in
      subst room is

  -- what has room for the lines of a list that has all pairs taken, and more, has room for those of before, those of
  -- the fresh ones, those of the rest of that list, and the same more
  pub room_within : (ends : List Pair) (more : ℕ) → IsWithinBag taken' ends → room (length (pair_lines ends) + more)
      → room (length (pair_lines taken) + (length (pair_lines fresh)
      + (length (pair_lines ends) - length (pair_lines taken') + more)))
  room_within ends more within =
      let whole = fresh_long in
      let less = within_long taken' ends within in
      let is : length (pair_lines ends) + more ≡ length (pair_lines taken)
      + (length (pair_lines fresh) + (length (pair_lines ends) - length (pair_lines taken') + more)) =
      omega (arith, whole, less) in
      subst room is
