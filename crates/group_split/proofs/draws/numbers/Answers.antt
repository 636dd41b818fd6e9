use Rattle.std.proofs.Common.{◌≡◌, ◌++◌, ◌∷◌, ◌%◌, ◌<◌, ◌∙◌, [], sym, ap, subst, arith, length}
use Rattle.std.specs.Prelude.{All}
use Rattle.std.proofs.lemmas.List.FromFn.{map-range_with_len_more}
use Rattle.rand_pcg.specs.Pcg.{multiplier_64, pcg32}
use Rattle.rand_pcg.specs.Lcg.{next, started, increment_of}
use Rattle.group_split.specs.Sizes.{numbers_of, word_of}
use Rattle.row_tickets.proofs.Words.{next-advance}
use Rattle.group_split.proofs.Drawn.{advance-zero, numbers_below, numbers_many}
use Rattle.group_split.proofs.draws.numbers.Goals as goal

pub loop-i-init : goal.loop-i-init
loop-i-init c = record {
  place = c.generator-generator.ensures
      ∙ sym (advance-zero 64 multiplier_64 (started 64 multiplier_64 c.args.seed (increment_of 64 57)));
  drawn = c.new-numbers.ensures;
}

pub loop-i-preserved : goal.loop-i-preserved
loop-i-preserved c =
    let i = c.loop-i._i in
    let seed = c.args.seed in
    let joiners = c.args.joiners in
    let start = started 64 multiplier_64 seed (increment_of 64 57) in
    let number : c.next_number.result ≡ word_of seed i % joiners =
    c.next_number.ensures.value ∙ ap (λ g. (pcg32 g).0 % joiners) c.loop-i.invariant.place in
    record {
      place = c.next_number.ensures.moves_on ∙ ap (λ g. next 64 multiplier_64 g) c.loop-i.invariant.place
          ∙ next-advance 64 multiplier_64 i start;
      drawn = c.in_ok-push.ensures.ok ∙ ap (λ ns. ns ++ c.next_number.result ∷ []) c.loop-i.invariant.drawn
          ∙ ap (λ n. numbers_of seed joiners i ++ n ∷ []) number
          ∙ sym (map-range_with_len_more (λ n. word_of seed n % joiners) 0 i i (omega arith));
    }

pub returns-clause-below : goal.returns-clause-below
returns-clause-below c =
    let count = c.args.count in
    let all : c.loop-i._i ≡ count = omega arith in
    let are = c.loop-i.invariant.drawn ∙ ap (numbers_of c.args.seed c.args.joiners) all in
    subst (All (λ number. number < c.args.joiners)) (sym are)
    (numbers_below c.args.seed c.args.joiners count (omega arith))

pub returns-clause-many : goal.returns-clause-many
returns-clause-many c =
    let count = c.args.count in
    let all : c.loop-i._i ≡ count = omega arith in
    let are = c.loop-i.invariant.drawn ∙ ap (numbers_of c.args.seed c.args.joiners) all in
    ap length are ∙ numbers_many c.args.seed c.args.joiners count
