use Rattle.std.proofs.Common.{◌≡◌, ◌+◌, ◌-◌, ◌/◌, ◌<◌, ap, sym, ◌∙◌, arith, length}
use Rattle.reshuffler_core.specs.Standing.{FeederState}
use Rattle.reshuffler_core.proofs.BatchCuts.{none_left, some_left}
use Rattle.reshuffler_core.proofs.feeder.Feeder.batches_left.Goals as goal

pub returns-then-left-eq0 : goal.returns-then-left-eq0
returns-then-left-eq0 c =
    let f = c.self.inside in
    let is : length f.load - f.sent ≡ 0 = sym (ap (λ n. n - f.sent) c.len.ensures) ∙ c.if-left-eq0.true in
    none_left f.batch f.sent f.load c.self.invariant.some is ∙ ap (λ (s : FeederState). length s.to_come) c.self.view_is

pub returns-else-left-eq0 : goal.returns-else-left-eq0
returns-else-left-eq0 c =
    let f = c.self.inside in
    let more : 0 < length f.load - f.sent = let is = c.len.ensures in let some = c.if-left-eq0.false in
    grind (arith, is, some) in
    ap (λ n. (n - f.sent - 1) / f.batch + 1) c.len.ensures ∙ some_left f.batch f.sent f.load c.self.invariant.some more
    ∙ ap (λ (s : FeederState). length s.to_come) c.self.view_is
