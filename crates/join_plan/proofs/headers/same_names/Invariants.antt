use Rattle.std.proofs.Common.{◌≡◌, ◌<◌, ℕ, true, [], get_or, length}
use Rattle.std.specs.Str.{bytes_eq}
use Rattle.join_plan.proofs.headers.same_names.Given as goal

abbrev pub invariant-loop-place : goal.invariant-loop-place
invariant-loop-place l = record {
  long : length l.one ≡ length l.other;
  same : (i : ℕ) → i < l.place → bytes_eq (get_or l.one i []) (get_or l.other i []) ≡ true;
}
