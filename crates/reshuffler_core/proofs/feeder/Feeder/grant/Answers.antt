use Rattle.std.proofs.Common.{false, sym, ap, ◌∙◌, arith, drop, length}
use Rattle.reshuffler_core.specs.contracts.feeder.Feeder.{the_view}
use Rattle.reshuffler_core.specs.Standing.{FeederState, first_batch}
use Rattle.reshuffler_core.proofs.BatchCuts.{stays_within, rest_of_load}
use Rattle.reshuffler_core.proofs.feeder.Feeder.grant.Goals as goal

pub prove-unreachable-requires : goal.prove-unreachable-requires
prove-unreachable-requires c =
    let f = c.self.inside in
    let is = c.next_batch-batch.ensures.value ∙ ap (λ (s : FeederState). first_batch s.to_come) (sym c.self.view_is) in
    let within = stays_within f.batch f.sent f.load c.next_batch-batch.result.now c.self.invariant.some
    c.self.invariant.front is in
    let rows = ap length c.as_slice.ensures in
    omega arith

pub invariant_of-self : goal.invariant_of-self
invariant_of-self c =
    let f = c.self.inside in
    let is = c.next_batch-batch.ensures.value ∙ ap (λ (s : FeederState). first_batch s.to_come) (sym c.self.view_is) in
    record {
      grid = c.self.invariant.grid;
      shape = c.self.invariant.shape;
      some = c.self.invariant.some;
      few = c.self.invariant.few;
      front = stays_within f.batch f.sent f.load c.next_batch-batch.result.now c.self.invariant.some
          c.self.invariant.front is;
    }

pub returns-clause-state : goal.returns-clause-state
returns-clause-state c =
    let f = c.self.inside in
    let is = c.next_batch-batch.ensures.value ∙ ap (λ (s : FeederState). first_batch s.to_come) (sym c.self.view_is) in
    ap (λ bs. record (the_view f) { to_come = bs; asked = false })
    (rest_of_load f.batch f.sent f.load c.next_batch-batch.result.now c.self.invariant.some c.self.invariant.front
    is)
    ∙ ap (λ (s : FeederState). record s { to_come = drop 1 s.to_come; asked = false }) c.self.view_is
