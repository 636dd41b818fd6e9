use Rattle.std.proofs.Common.{◌≡◌}
use Rattle.rand_pcg.specs.Lcg.{advance, started, increment_of}
use Rattle.rand_pcg.specs.Pcg.{multiplier_64}
use Rattle.group_split.specs.Sizes.{numbers_of}
use Rattle.group_split.proofs.draws.numbers.Given as goal

abbrev pub invariant-loop-i : goal.invariant-loop-i
invariant-loop-i l = record {
  place : l.generator ≡ advance 64 multiplier_64 l._i (started 64 multiplier_64 l.fn.seed (increment_of 64 57));
  drawn : l.numbers ≡ numbers_of l.fn.seed l.joiners l._i;
}
