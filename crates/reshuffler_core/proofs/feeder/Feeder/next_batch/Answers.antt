use Rattle.std.proofs.Common.{◌≡◌, ◌+◌, ◌-◌, min, sym, ap, ◌∙◌, arith, take, drop, length}
use Rattle.std.proofs.lemmas.List.{length-drop, length-take}
use Rattle.reshuffler_core.specs.Standing.{FeederState, first_batch}
use Rattle.reshuffler_core.proofs.BatchCuts.{first_cut}
use Rattle.reshuffler_core.proofs.feeder.Feeder.next_batch.Goals as goal

pub returns : goal.returns
returns c =
    let f = c.self.inside in
    let n = c.min-count.result in
    let rest = drop f.sent f.load in
    let count : f.sent + n - f.sent ≡ n = omega arith in
    let left = length-drop f.sent f.load in
    let is : n ≡ min (length rest) f.batch = c.min-count.ensures
    ∙ ap (λ xs. min (length xs - f.sent) f.batch) c.as_slice.ensures ∙ ap (λ m. min m f.batch) (sym left) in
    let whole : take (f.sent + n - f.sent) (drop f.sent c.as_slice-2.result.now) ≡ first_batch c.args.self.now.to_come =
    ap (λ xs. take (f.sent + n - f.sent) (drop f.sent xs)) c.as_slice-2.ensures ∙ ap (λ m. take m rest) count
    ∙ first_cut f.batch n rest c.self.invariant.some is ∙ ap (λ (s : FeederState). first_batch s.to_come)
    c.self.view_is in
    record {
      value = whole;
      few = let size = ap length whole in
          let taken = length-take (f.sent + n - f.sent) (drop f.sent c.as_slice-2.result.now) in
          let few = c.self.invariant.few in omega arith;
    }
