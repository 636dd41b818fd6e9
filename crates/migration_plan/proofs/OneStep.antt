-- A step halves or doubles each joiner's part of a side.
use Rattle.std.proofs.Common.{◌≡◌, ◌≢◌, ℕ, ◌+◌, ◌<◌, ◌≤◌, min, inl, inr, refl, sym, ◌∙◌, ap, subst, arith, Bool, true}
use Rattle.std.proofs.Common.{false, not, ◌||◌, ◌&&◌}
use Rattle.std.proofs.lemmas.Bool.{lt-ltb, le-ltb, or_left}
use Rattle.std.specs.Prelude.{cond}
use Rattle.row_cells.specs.declared.table.Side.{Side}
use Rattle.row_cells.specs.declared.table.Side.TheVariants.{R, S}
use Rattle.epoch_tags.specs.declared.tuple.Tuple.{Tuple}
use Rattle.grid_map.specs.Grid.{partner}
use Rattle.grid_map.proofs.Halves.{rising_r, rising_r_apart, rising_s, falling_s, falling_s_apart, falling_r}
use Rattle.migration_plan.specs.Steps.{exchanged_side, partner_in_step, holds, holds_ticket}
use Rattle.migration_plan.specs.Laws.{StepKeeps, OneStep}

-- the same of a side and a ticket
record Parts (k b c id p : ℕ) (side exchanged : Side) (ticket : ℕ) : Type 0 where
  joins : side ≡ exchanged → holds_ticket k c id side ticket
      ≡ (holds_ticket k b id side ticket || holds_ticket k b p side ticket)
  apart : side ≡ exchanged → (holds_ticket k b id side ticket && holds_ticket k b p side ticket) ≡ false
  lessens : side ≢ exchanged → holds_ticket k c id side ticket ≡ true → holds_ticket k b id side ticket ≡ true

rises : (k b id : ℕ) (side : Side) (ticket : ℕ) → k ≤ 8 → b < k → Parts k b (b + 1) id (partner b id) side R ticket
rises k b id R ticket small below = record {
  joins = λ is. rising_r k b id ticket below small;
  apart = λ is. rising_r_apart k b id ticket;
  lessens = λ differ. absurd (differ refl);
}
rises k b id S ticket small below = record {
  joins = λ is. absurd (cc);
  apart = λ is. absurd (cc);
  lessens = λ differ. rising_s b id ticket;
}

falls : (k c id : ℕ) (side : Side) (ticket : ℕ) → k ≤ 8 → c < k → Parts k (c + 1) c id (partner c id) side S ticket
falls k c id S ticket small below = record {
  joins = λ is. falling_s c id ticket;
  apart = λ is. falling_s_apart c id ticket;
  lessens = λ differ. absurd (differ refl);
}
falls k c id R ticket small below = record {
  joins = λ is. absurd (cc);
  apart = λ is. absurd (cc);
  lessens = λ differ. falling_r k c id ticket below small;
}

-- of a tuple
of_tuple : (k b c id : ℕ) (t : Tuple) → Parts k b c id (partner_in_step b c id) t.side (exchanged_side b c) t.ticket
    → StepKeeps k b c id t
of_tuple k b c id t parts = record {
  keeps = λ is held. parts.joins is ∙ or_left (holds k b id t) (holds k b (partner_in_step b c id) t) held;
  joins = parts.joins;
  apart = λ is. ap not (parts.apart is);
  lessens = parts.lessens;
}

up : (k b c id : ℕ) (t : Tuple) → k ≤ 8 → c ≤ k → c ≡ b + 1 → StepKeeps k b c id t
up k b c id t small within is =
    let low : min b c ≡ b = omega arith in
    let exchanged : exchanged_side b c ≡ R = ap (λ (x : Bool). cond {A = Side} x R S) (lt-ltb b c (omega arith)) in
    let parts : Parts k b c id (partner b id) t.side R t.ticket =
    rw is (rises k b id t.side t.ticket small (omega arith)) in
    of_tuple k b c id t (subst (λ side. Parts k b c id (partner_in_step b c id) t.side side t.ticket) (sym exchanged)
    (subst (λ n. Parts k b c id (partner n id) t.side R t.ticket) (sym low) parts))

down : (k b c id : ℕ) (t : Tuple) → k ≤ 8 → b ≤ k → b ≡ c + 1 → StepKeeps k b c id t
down k b c id t small within is =
    let low : min b c ≡ c = omega arith in
    let exchanged : exchanged_side b c ≡ S = ap (λ (x : Bool). cond {A = Side} x R S) (le-ltb b c (omega arith)) in
    let parts : Parts k b c id (partner c id) t.side S t.ticket =
    rw is (falls k c id t.side t.ticket small (omega arith)) in
    of_tuple k b c id t (subst (λ side. Parts k b c id (partner_in_step b c id) t.side side t.ticket) (sym exchanged)
    (subst (λ n. Parts k b c id (partner n id) t.side S t.ticket) (sym low) parts))

-- a step to a neighbouring shift does to what joiners hold what the law says, in grids of up to 256 joiners
pub one_step_lem : OneStep
one_step_lem = λ k b c id small low high near t.
    elim near [ inl is ↦ up k b c id t small high is | inr is ↦ down k b c id t small low is ]
