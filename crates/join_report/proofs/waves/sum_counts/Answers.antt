use Rattle.std.proofs.Common.{◌≡◌, ◌≤◌, ◌+◌, ◌++◌, ◌∙◌, ℕ, List, [], ◌∷◌, All, ap, arith, length, min, subst, sym}
use Rattle.join_report.specs.Waves.{sums_of}
use Rattle.join_report.proofs.Sums.{sums_within, zip2_more, zip2_whole}
use Rattle.join_report.proofs.waves.sum_counts.Goals as goal

pub loop-place-preserved : goal.loop-place-preserved
loop-place-preserved c =
    record {
      last = c.loop-place.invariant.last;
      sums = c.in_ok-push.ensures.ok
          ∙ ap (λ sums. sums ++ (c.at-count.result.now + c.at-other.result.now) ∷ []) c.loop-place.invariant.sums
          ∙ sym (zip2_more (λ count other. count + other) c.args.counts.now c.args.more.now c.loop-place.place
          c.at-count.result.now c.at-other.result.now c.at-count.ensures c.at-other.ensures);
    }

pub returns-clause-sums : goal.returns-clause-sums
returns-clause-sums c =
    let last = c.loop-place.invariant.last in
    let all : min (length c.args.counts.now) (length c.args.more.now) ≤ c.loop-place.place = omega arith in
    c.loop-place.invariant.sums
    ∙ zip2_whole (λ count other. count + other) c.args.counts.now c.args.more.now c.loop-place.place all

pub returns-clause-within : goal.returns-clause-within
returns-clause-within c m n of_counts of_more =
    let last = c.loop-place.invariant.last in
    let all : min (length c.args.counts.now) (length c.args.more.now) ≤ c.loop-place.place = omega arith in
    let whole : c.loop-place.sums ≡ sums_of c.args.counts.now c.args.more.now = c.loop-place.invariant.sums
    ∙ zip2_whole (λ count other. count + other) c.args.counts.now c.args.more.now c.loop-place.place all in
    subst (λ (sums : List ℕ). All (λ sum. sum ≤ m + n) sums) (sym whole)
    (sums_within c.args.counts.now c.args.more.now m n of_counts of_more)
