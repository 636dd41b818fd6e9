-- The pairs that wait to be sent, with what one message more finds.
use Rattle.std.proofs.Common.{◌≡◌, ℕ, ◌+◌, ◌≤◌, arith, cond, List, [], ◌∷◌, ◌++◌, length}
use Rattle.std.proofs.lemmas.List.Sums.{sum_by-append}
use Rattle.row_cells.specs.Lists.{SameBag}
use Rattle.row_cells.proofs.Bags.{SameBag-trans, SameBag-sym}
use Rattle.epoch_tags.specs.declared.tuple.Tuple.{Tuple}
use Rattle.epoch_tags.specs.declared.tuple.Pair.{Pair}
use Rattle.migration_plan.specs.Steps.{holds}
use Rattle.joiner_law.specs.Law.{JoinerStart}
use Rattle.joiner_law.specs.History.{Step, stored, CameOlder, ArrivedInTime, with_arrived, with_came, new_step}
use Rattle.joiner_law.specs.History.{all_tuples, only_stamp, probed}
use Rattle.joiner_law.specs.Standing.{ArePairs}
use Rattle.joiner_law.proofs.Heart.{found-arrived, found-came, found-under, found-new, stored-up_to}

wait-more : (sent waiting more base before after : List Pair) → SameBag (sent ++ waiting ++ base) before
    → SameBag after (before ++ more) → SameBag (sent ++ (waiting ++ more) ++ base) after
wait-more sent waiting more base before after is grows = record {
  sums = λ f.
      let whole = is.sums f in
      let new = grows.sums f in
      rw (
        sum_by-append f (sent ++ (waiting ++ more)) base,
        sum_by-append f sent (waiting ++ more),
        sum_by-append f waiting more,
      )
      (omega (
        arith,
        whole,
        new,
        sum_by-append f (sent ++ waiting) base,
        sum_by-append f sent waiting,
        sum_by-append f before more,
      ));
}

older-arrived : (e : ℕ) (x : Tuple) (step : Step) (past : List Step) → CameOlder e (with_arrived x step ∷ past)
    → CameOlder e (step ∷ past)
older-arrived e x step [] older = older
older-arrived e x step (before ∷ past) older = older

module _ (s : JoinerStart) (sent waiting : List Pair) (x : Tuple) where
  -- a tuple of the latest step
  pub pairs-arrived : (step : Step) (past : List Step) (a : List Tuple)
      → x.stamp ≡ s.epoch + length past → ArrivedInTime s.epoch (step ∷ past)
      → SameBag a (stored s.k s.id (step ∷ past))
      → ArePairs s sent waiting (step ∷ past) → ArePairs s sent (waiting ++ probed s.matches all_tuples x a)
      (with_arrived x step ∷ past)
  pairs-arrived step past a stamp in_time same is = record {
    pairs = λ older.
        let older' = older-arrived s.epoch x step past older in
        wait-more _ _ _ _ _ _ (is.pairs older') (found-arrived s.matches s.epoch s.k s.id x step past a stamp
        (stored-up_to s.epoch s.k s.id step past older' in_time) same);
  }

  -- a late tuple, under an open step
  pub pairs-under : (new cur : Step) (past : List Step) (a b : List Tuple)
      → x.stamp ≡ s.epoch + length past → ArrivedInTime s.epoch (new ∷ (cur ∷ past))
      → SameBag a (stored s.k s.id (cur ∷ past)) → SameBag b (stored s.k s.id (new ∷ (cur ∷ past)))
      → ArePairs s sent waiting (new ∷ (cur ∷ past))
      → ArePairs s sent (waiting ++ (probed s.matches all_tuples x a
      ++ cond (holds s.k new.shift s.id x) (probed s.matches (only_stamp (s.epoch + length (cur ∷ past))) x b) []))
      (new ∷ (with_arrived x cur ∷ past))
  pairs-under new cur past a b stamp in_time same_a same_b is = record {
    pairs = λ older.
        let below = older-arrived s.epoch x cur past older.1 in
        let older' : CameOlder s.epoch (new ∷ (cur ∷ past)) = (older.0, below) in
        wait-more _ _ _ _ _ _ (is.pairs older') (found-under s.matches s.epoch s.k s.id x new cur past a b stamp
        (stored-up_to s.epoch s.k s.id cur past below in_time.1) same_a same_b);
  }

-- a tuple that the partner moved here
pub pairs-came : (s : JoinerStart) (sent waiting : List Pair) (x : Tuple) (step before : Step) (past : List Step)
    (b : List Tuple)
    → SameBag b (stored s.k s.id (step ∷ (before ∷ past))) → ArePairs s sent waiting (step ∷ (before ∷ past))
    → ArePairs s sent (waiting ++ probed s.matches (only_stamp (s.epoch + length (before ∷ past))) x b)
    (with_came x step ∷ (before ∷ past))
pairs-came s sent waiting x step before past b same is = record {
  pairs = λ older.
      let low : x.stamp ≤ s.epoch + length past = older.0.0 in
      let older' : CameOlder s.epoch (step ∷ (before ∷ past)) = (older.0.1, older.1) in
      wait-more _ _ _ _ _ _ (is.pairs older') (found-came s.matches s.epoch s.k s.id x step before past b (omega arith)
      same);
}

-- a step is opened
pub pairs-new : (s : JoinerStart) (sent waiting : List Pair) (shift : ℕ) (before : Step) (past : List Step)
    → ArrivedInTime s.epoch (before ∷ past)
    → ArePairs s sent waiting (before ∷ past) → ArePairs s sent waiting (new_step shift ∷ (before ∷ past))
pairs-new s sent waiting shift before past in_time is = record {
  pairs = λ older. SameBag-trans (is.pairs older.1) (SameBag-sym
      (found-new s.matches s.epoch s.k s.id shift before past
      (stored-up_to s.epoch s.k s.id before past older.1 in_time)));
}
