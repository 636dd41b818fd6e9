-- A joiner that has just begun.
use Rattle.std.proofs.Common.{◌≡◌, ℕ, zero, suc, ◌^◌, ◌<◌, ◌≤◌, refl, sym, ◌∙◌, ap, subst, arith, false, Option, List}
use Rattle.std.proofs.Common.{[], ◌∷◌, ◌++◌, length}
use Rattle.std.proofs.lemmas.Bool.{false≢true}
use Rattle.std.specs.List.{AllByRecursion}
use Rattle.row_cells.specs.Lists.{SameBag, gather}
use Rattle.row_cells.proofs.Bags.{SameBag-refl}
use Rattle.epoch_tags.specs.declared.tuple.Tuple.{Tuple}
use Rattle.epoch_tags.specs.declared.message.ToJoiner.{ToJoiner}
use Rattle.epoch_tags.specs.Flags.{flag_at}
use Rattle.joiner_law.specs.Law.{Taken, pairs_by}
use Rattle.joiner_law.specs.History.{Step}
use Rattle.joiner_law.specs.Standing.{StandsSettled}
use Rattle.joiner_core.specs.Changes.{IsReady}
use Rattle.joiner_core.specs.State.{does_hold, IsStock, Stocked, OpenStep, MachineState}
use Rattle.theta_pred.specs.Formula.{Meaning}
use Rattle.joiner_core.proofs.RowWidths.{rows-none}
use Rattle.joiner_core.specs.Taking.{IsClosed, StandsBy, IsStepStock, IsStepWithin, IsCounted, HasSomeTurn}
use Rattle.joiner_core.specs.Machine.{IsSound, IsStuck, IsMade, StandsBetween, nothing_yet, start_of}
use Rattle.std.proofs.lemmas.List.{append-nil}
use Rattle.joiner_core.proofs.FlagChanges.{same-ends}
use Rattle.joiner_core.proofs.WholeCalls.{stands-for}

abbrev none_at : ℕ → List Tuple
none_at p = []

gather-nothing : (n : ℕ) → gather n none_at ≡ []
gather-nothing zero = refl
gather-nothing (suc n) = append-nil (gather n none_at) ∙ gather-nothing n

-- nothing taken, with one shift for all epochs
abbrev pub nothing_taken : ℕ → Taken
nothing_taken shift = record { from_feeder = λ p. []; from_joiner = λ q. []; shift_at = λ e. shift }

-- the first epoch, which began with these tuples
abbrev pub first_step : ℕ → List Tuple → Step
first_step shift base = record { shift = shift; came = base; arrived = [] }

-- equal lists are the same as bags
pub same-bag : (xs ys : List Tuple) → xs ≡ ys → SameBag xs ys
same-bag xs ys is = subst (λ (zs : List Tuple). SameBag xs zs) is (SameBag-refl xs)

settled-start : (k id shift epoch feeders : ℕ) (theta : Meaning) (base : List Tuple) → shift ≤ k
    → StandsSettled (start_of k id shift epoch feeders theta base) (nothing_taken shift) nothing_yet [] (λ p. false)
    base (first_step shift base) []
settled-start k id shift epoch feeders theta base low = record {
  steps = record {
    feeders = λ p less. record { counts_up = tt; by_shifts = tt; turns = refl; ends = refl };
    history = (
      record {
        shift = refl;
        within = low;
        arrived = same-bag [] (gather feeders none_at) (sym (gather-nothing feeders));
        came = SameBag-refl base;
      },
      tt,
    );
    by_one = tt;
    in_time = (tt, tt);
    pairs = record {
      pairs = λ older. subst (λ (xs : List Tuple). SameBag (pairs_by (does_hold theta) base base)
          (pairs_by (does_hold theta) xs xs)) (sym (append-nil base))
          (SameBag-refl (pairs_by (does_hold theta) base base));
    };
    sent = tt;
    parts = tt;
    told = refl;
    first_shift = refl;
    from_partner = λ q. tt;
    to_partner = λ q. tt;
  };
  store = same-bag base (base ++ []) (sym (append-nil base));
  links = λ q. record { never_falls = tt; up_to = tt; goes_on = omega arith };
  taken_up_to = λ q. tt;
}

closed-start : (k id shift epoch feeders : ℕ) (theta : Meaning) (base : Stocked) (m : MachineState) → shift ≤ k
    → IsMade k id shift epoch feeders theta base m
    → IsClosed (start_of k id shift epoch feeders theta base.tuples) (nothing_taken shift) nothing_yet [] m.epochs
closed-start k id shift epoch feeders theta base m low made = record {
  cur = first_step shift base.tuples;
  past = [];
  stands = subst (λ (a : List Tuple). StandsSettled (start_of k id shift epoch feeders theta base.tuples)
      (nothing_taken shift) nothing_yet [] (flag_at m.epochs.ended) a (first_step shift base.tuples) [])
      (ap (λ (stock : Stocked). stock.tuples) (sym made.store))
      (same-ends (start_of k id shift epoch feeders theta base.tuples) (nothing_taken shift) nothing_yet [] (λ p. false)
      (flag_at m.epochs.ended) base.tuples (first_step shift base.tuples) [] (λ p. sym (made.down p))
      (settled-start k id shift epoch feeders theta base.tuples low));
  epoch = let e = made.at_epoch in omega arith;
  shift = made.at_shift;
  ended_count = made.ended;
  moved = made.moved;
}

none-stuck : (queue : List ToJoiner) (x : ToJoiner) (rest : List ToJoiner) → queue ≡ [] → queue ≡ x ∷ rest → ⊥
none-stuck queue x rest none is = let a = ap length none in let b : length queue ≡ length (x ∷ rest) = ap length is in
    absurd (omega arith)

module _ (k id shift epoch feeders : ℕ) (theta : Meaning) (base : Stocked) (m : MachineState) where
  -- a machine as the code makes it is sound, if k is at most 8, shift and id are of the grid, and the base is a store
  -- of the predicate
  pub made-sound : k ≤ 8 → shift ≤ k → id < 2 ^ k → IsStock theta base → IsMade k id shift epoch feeders theta base m
      → IsSound m
  made-sound small low few stock made =
      let same_k = made.at_k in
      let same_shift = made.at_shift in
      record {
        within = record {
          small = omega arith;
          shift = omega arith;
          step = subst (λ (z : Option OpenStep). IsStepWithin m.epochs.k m.epochs.shift z) (sym made.step) tt;
          ended = made.ended ∙ sym made.at_feeders;
          count = subst (λ (z : Option OpenStep). IsCounted m.epochs.feeders z) (sym made.step) tt;
          begun = subst (λ (z : Option OpenStep). HasSomeTurn m.epochs.feeders z) (sym made.step) tt;
          rests = subst (λ (z : Option OpenStep). IsReady z → ⊥) (sym made.step) (λ never. never);
          id = subst (λ (n : ℕ). m.epochs.id < 2 ^ n) (sym made.at_k)
              (subst (λ (n : ℕ). n < 2 ^ k) (sym made.at_id) few);
          stock = subst (λ (th : Meaning). IsStock th m.epochs.store) (sym made.at_theta)
              (subst (IsStock theta) (sym made.store) stock);
          step_stock = subst (λ (z : Option OpenStep). IsStepStock m.epochs.theta z) (sym made.step) tt;
        };
        feeders = made.of_feeders ∙ sym made.at_feeders;
        joiners = made.of_joiners ∙ ap (λ n. 2 ^ n) (sym made.at_k);
        feeder_rows = rows-none m.epochs.theta m.of_feeders made.no_feeders;
        joiner_rows = rows-none m.epochs.theta m.of_joiners made.no_joiners;
      }

  -- and with some feeder, and no stamp in the base above the first epoch, it stands for empty lists
  pub made-stands : k ≤ 8 → shift ≤ k → id < 2 ^ k → 0 < feeders
      → AllByRecursion (λ (x : Tuple). x.stamp ≤ epoch) base.tuples → IsStock theta base
      → IsMade k id shift epoch feeders theta base m
      → StandsBetween (start_of k id shift epoch feeders theta base.tuples) nothing_yet m
  made-stands small low few some older stock made =
      let sound = made-sound small low few stock made in
      let stuck : IsStuck m = record {
        feeders = λ p less x rest is can. none-stuck _ x rest (made.no_feeders p) is;
        joiners = λ q less x rest is can. none-stuck _ x rest (made.no_joiners q) is;
      } in
      stands-for (start_of k id shift epoch feeders theta base.tuples) nothing_yet m
      (record { within = low; id = few; some = some; base = older })
      sound stuck
      (record {
        founds = [];
        last = [];
        to_collector = refl;
        none_empty = tt;
        few = omega arith;
        untold = λ no. refl;
        told = λ yes. absurd (false≢true (sym made.told ∙ yes));
        finishes = λ has. absurd (false≢true (sym (made.down 0) ∙ has.ended 0 (let n = made.ended in omega arith)));
      })
      (record {
        taken = nothing_taken shift;
        stands = record {
          fixed = record {
            k = made.at_k;
            id = made.at_id;
            feeders = made.at_feeders;
            matches = ap (λ (th : Meaning). does_hold th) made.at_theta;
            small = small;
          };
          now = subst (λ (z : Option OpenStep). StandsBy (start_of k id shift epoch feeders theta base.tuples)
              (nothing_taken shift) nothing_yet [] m.epochs z) (sym made.step)
              (closed-start k id shift epoch feeders theta base m low made);
        };
        feeders = λ p less. made.no_feeders p;
        joiners = λ q less. made.no_joiners q;
      })
