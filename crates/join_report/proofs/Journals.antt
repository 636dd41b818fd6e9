-- What is read off a journal, line by line.
use Rattle.std.proofs.Common.{◌≡◌, ◌∙◌, ◌+◌, ℕ, zero, suc, ap, arith, refl, sym, true, false, Some, List, [], ◌∷◌, take}
use Rattle.std.proofs.Common.{drop, length, ◌<◌}
use Rattle.std.specs.Prelude.{slice_get, slice_index_or, ◌==◌}
use Rattle.std.proofs.lemmas.Option.{slice_get-get_or}
use Rattle.load_controller.specs.declared.line.TurnLine.{TurnLine}
use Rattle.load_controller.specs.Journal.{last_epoch, shift_at}

-- the line at a place, and those behind it
drop_at : {X : Type 0} (xs : List X) (n : ℕ) (x : X) → slice_get xs n ≡ Some x → drop n xs ≡ x ∷ drop (suc n) xs
drop_at [] n x at = absurd (cc)
drop_at (y ∷ xs) zero x at = let same : y ≡ x = cc in ap (λ z. z ∷ xs) same
drop_at (y ∷ xs) (suc n) x at = drop_at xs n x at

-- a line of the epoch
pub found : (first epoch n : ℕ) (journal : List TurnLine) (line : TurnLine) → slice_get journal n ≡ Some line
    → (line.epoch == epoch) ≡ true
    → shift_at first epoch (drop n journal) ≡ line.shift
found first epoch n journal line at is = ap (shift_at first epoch) (drop_at journal n line at) ∙ rw is refl

-- a line of another epoch
pub passed : (first epoch n : ℕ) (journal : List TurnLine) (line : TurnLine) → slice_get journal n ≡ Some line
    → (line.epoch == epoch) ≡ false
    → shift_at first epoch (drop n journal) ≡ shift_at first epoch (drop (n + 1) journal)
passed first epoch n journal line at other =
    let next : suc n ≡ n + 1 = omega arith in
    ap (shift_at first epoch) (drop_at journal n line at) ∙ rw other refl
    ∙ ap (λ m. shift_at first epoch (drop m journal)) next

-- one line more
last_of : (n : ℕ) (journal : List TurnLine) (line : TurnLine) → slice_get journal n ≡ Some line
    → last_epoch (take (suc n) journal) ≡ line.epoch
last_of n [] line at = absurd (cc)
last_of zero (x ∷ journal) line at = let same : x ≡ line = cc in ap (λ (l : TurnLine). l.epoch) same
last_of (suc n) (x ∷ []) line at = absurd (cc)
last_of (suc n) (x ∷ y ∷ journal) line at = last_of n (y ∷ journal) line at

-- the epoch of the line at place n is the last one of the journal's first n + 1 lines
pub last_at : (n : ℕ) (journal : List TurnLine) (line : TurnLine) → slice_get journal n ≡ Some line
    → line.epoch ≡ last_epoch (take (n + 1) journal)
last_at n journal line at =
    let next : suc n ≡ n + 1 = omega arith in
    sym (last_of n journal line at) ∙ ap (λ m. last_epoch (take m journal)) next

-- the same of a line that was read
pub read_at : (n : ℕ) (journal : List TurnLine) (other : TurnLine) → n < length journal
    → (slice_index_or journal n other).epoch ≡ last_epoch (take (n + 1) journal)
read_at n journal other within = last_at n journal (slice_index_or journal n other)
    (slice_get-get_or journal n other within)
