-- What one message more leaves as it was, of feeders, partners and steps.
use Rattle.std.proofs.Common.{◌≡◌, ℕ, zero, suc, ◌+◌, ◌<◌, ◌≤◌, ◌≢◌, inl, inr, refl, ◌∙◌, ap, arith, Bool, true, List}
use Rattle.std.proofs.Common.{[], ◌∷◌, ◌++◌, length, eq-eqb}
use Rattle.std.specs.Prelude.{map}
use Rattle.std.proofs.lemmas.Bool.{cases_eq, ne_eqb}
use Rattle.std.proofs.lemmas.List.Sums.{sum_by-cons, sum_by-append}
use Rattle.row_cells.specs.Lists.{SameBag, gather}
use Rattle.row_cells.proofs.Bags.{SameBag-refl}
use Rattle.epoch_tags.specs.declared.tuple.Tuple.{Tuple}
use Rattle.epoch_tags.specs.declared.tuple.Pair.{Pair}
use Rattle.epoch_tags.specs.declared.message.ToJoiner.{ToJoiner}
use Rattle.epoch_tags.specs.declared.message.ToJoiner.TheVariants.{Moved}
use Rattle.epoch_tags.specs.Messages.{tups_of, moved_of, moved_ends}
use Rattle.epoch_tags.specs.Posts.{posted_to_controller, posted_to_collector}
use Rattle.epoch_tags.specs.declared.message.ToController.{ToController}
use Rattle.migration_plan.specs.Steps.{partner_in_step}
use Rattle.joiner_law.specs.Law.{JoinerStart, JoinerLists, Taken, partner_of, shift_after}
use Rattle.joiner_law.specs.History.{Step, with_arrived, with_came, new_step}
use Rattle.joiner_law.specs.Standing.{grown, took_of_feeder, took_of_joiner, with_shift, IsOfFeeder, IsStep, SentUpTo}
use Rattle.joiner_law.specs.Standing.{ArePairs, pairs_sent, AreParts, with_sent, IsHistory}
use Rattle.joiner_law.specs.Posting.{moved_post}
use Rattle.joiner_law.proofs.LongerLists.{grown-same, grown-other}
use Rattle.joiner_law.proofs.PartnerPosts.{up_to-append}
use Rattle.std.proofs.lemmas.List.{append-nil}
use Rattle.epoch_tags.proofs.Appends.{moved_ends-append}

-- a list that had one tuple added at its end
pub added : (x : Tuple) (a xs ys : List Tuple) → SameBag a xs → SameBag ys (x ∷ xs) → SameBag (a ++ x ∷ []) ys
added x a xs ys same more = record {
  sums = λ f.
      let is = same.sums f in
      let now = more.sums f in
      omega (arith, is, now, sum_by-cons f x xs, sum_by-append f a (x ∷ []), sum_by-cons f x []);
}

-- from lists that are all empty nothing is gathered
pub gather-none : {X : Type 0} (f : ℕ → List X) (n : ℕ) → ((i : ℕ) → i < n → f i ≡ []) → gather n f ≡ []
gather-none f zero none = refl
gather-none f (suc n) none =
    let here : f n ≡ [] = none n (omega arith) in
    let rest : gather n f ≡ [] = gather-none f n (λ i low. none i (omega arith)) in
    rw (here, rest) refl

module _ (s : JoinerStart) (t : Taken) (done : ℕ) (turned ended turned' ended' : ℕ → Bool) where
  -- the feeders, one of which sent a message more
  pub feeders-grown : (p : ℕ) (m : ToJoiner) → ((q : ℕ) → q ≢ p → (turned' q ≡ turned q) × (ended' q ≡ ended q))
      → (IsOfFeeder s.epoch t.shift_at done (turned p) (ended p) (t.from_feeder p)
      → IsOfFeeder s.epoch t.shift_at done (turned' p) (ended' p) (t.from_feeder p ++ m ∷ []))
      → p < s.feeders
      → ((q : ℕ) → q < s.feeders → IsOfFeeder s.epoch t.shift_at done (turned q) (ended q) (t.from_feeder q))
      → (q : ℕ) → q < s.feeders → IsOfFeeder s.epoch t.shift_at done (turned' q) (ended' q) (grown p m t.from_feeder q)
  feeders-grown p m others here low all q less = elim (cases_eq q p) [
    | inl is ↦ rw (is, grown-same p m t.from_feeder) (here (all p low))
    | inr differ ↦
        let same = others q differ in
        rw (grown-other p m t.from_feeder q differ, same.0, same.1) (all q less)
  ]

-- what partners ended doesn't depend on feeders
pub parts-same : (s : JoinerStart) (t : Taken) (ended : Bool) (steps : List Step) (m : ToJoiner) (p : ℕ)
    → AreParts s t ended steps → AreParts s (took_of_feeder p m t) ended steps
parts-same s t ended [] m p is = tt
parts-same s t ended (step ∷ []) m p is = tt
parts-same s t ended (step ∷ (before ∷ past)) m p is = (is.0, parts-same s t true (before ∷ past) m p is.1)

-- nor on one tuple more that arrived in the latest step
pub parts-arrived : (s : JoinerStart) (t : Taken) (ended : Bool) (x : Tuple) (step : Step) (past : List Step)
    (m : ToJoiner) (p : ℕ) → AreParts s t ended (step ∷ past)
    → AreParts s (took_of_feeder p m t) ended (with_arrived x step ∷ past)
parts-arrived s t ended x step [] m p is = tt
parts-arrived s t ended x step (before ∷ past) m p is = (is.0, parts-same s t true (before ∷ past) m p is.1)

-- posts of moved tuples go to joiners alone
pub no_pairs : (to epoch : ℕ) (xs : List Tuple) → posted_to_collector (map (moved_post to epoch) xs) ≡ []
no_pairs to epoch [] = refl
no_pairs to epoch (x ∷ xs) = no_pairs to epoch xs

-- and none of them goes to the controller
pub no_orders : (to epoch : ℕ) (xs : List Tuple) → posted_to_controller (map (moved_post to epoch) xs) ≡ []
no_orders to epoch [] = refl
no_orders to epoch (x ∷ xs) = no_orders to epoch xs

-- with such posts sent, the pairs sent and those that wait are still those of all steps
pub pairs-posted : (s : JoinerStart) (lists : JoinerLists) (waiting : List Pair) (steps : List Step) (to epoch : ℕ)
    (xs : List Tuple) → ArePairs s (pairs_sent lists) waiting steps
    → ArePairs s (pairs_sent (with_sent lists (map (moved_post to epoch) xs))) waiting steps
pairs-posted s lists waiting steps to epoch xs is = rw (no_pairs to epoch xs, append-nil lists.to_collector) is

-- and what the controller was told is what it was told before
pub told-posted : (lists : JoinerLists) (to epoch : ℕ) (xs : List Tuple) (zs : List ToController)
    → lists.to_controller ≡ zs → (with_sent lists (map (moved_post to epoch) xs)).to_controller ≡ zs
told-posted lists to epoch xs zs is = rw (no_orders to epoch xs) (append-nil lists.to_controller ∙ is)

-- what partners ended, with a tuple more of one of them
pub grown-ends : (e : ℕ) (q : ℕ) (m : ToJoiner) (f : ℕ → List ToJoiner) (j : ℕ) → moved_ends e (m ∷ []) ≡ 0
    → moved_ends e (grown q m f j) ≡ moved_ends e (f j)
grown-ends e q m f j none = elim (cases_eq j q) [
  | inl is ↦ rw is (ap (λ ms. moved_ends e ms) (grown-same q m f) ∙ moved_ends-append e (f q) (m ∷ []) ∙ omega arith)
  | inr differ ↦ ap (λ ms. moved_ends e ms) (grown-other q m f j differ)
]

-- a joiner's message that is no end of one of these steps leaves what partners ended as it was
pub parts-quiet : (s : JoinerStart) (t : Taken) (ended : Bool) (q : ℕ) (m : ToJoiner) (steps : List Step)
    → ((n : ℕ) → n + 1 < length steps → moved_ends (s.epoch + n + 1) (m ∷ []) ≡ 0) → AreParts s t ended steps
    → AreParts s (took_of_joiner q m t) ended steps
parts-quiet s t ended q m [] none is = tt
parts-quiet s t ended q m (step ∷ []) none is = tt
parts-quiet s t ended q m (step ∷ (before ∷ past)) none is = (
  grown-ends (s.epoch + length past + 1) q m t.from_joiner (partner_of s t (length past))
      (none (length past) (omega arith)) ∙ is.0,
  parts-quiet s t true q m (before ∷ past)
      (λ n less. none n (omega arith)) is.1,
)

-- and so does a moved tuple, with which the latest step has one more that came
pub parts-moved : (s : JoinerStart) (t : Taken) (ended : Bool) (q epoch : ℕ) (x : Tuple) (step : Step)
    (past : List Step) → AreParts s t ended (step ∷ past) → AreParts s (took_of_joiner q (Moved epoch x) t) ended
    (with_came x step ∷ past)
parts-moved s t ended q epoch x step [] is = tt
parts-moved s t ended q epoch x step (before ∷ past) is = parts-quiet s t ended q (Moved epoch x)
    (step ∷ (before ∷ past)) (λ n less. refl) is

-- the shift of a later epoch changes no partner
pub parts-shift : (s : JoinerStart) (t : Taken) (epoch shift : ℕ) (steps : List Step) → s.epoch + length steps ≤ epoch
    → AreParts s t true steps → AreParts s (with_shift epoch shift t) true steps
parts-shift s t epoch shift [] low is = tt
parts-shift s t epoch shift (step ∷ []) low is = tt
parts-shift s t epoch shift (step ∷ (before ∷ past)) low is =
    let n = length past in
    let one : shift_after s (with_shift epoch shift t) n ≡ shift_after s t n =
    rw (ne_eqb (s.epoch + n) epoch (λ same. absurd (omega arith))) refl in
    let two : shift_after s (with_shift epoch shift t) (n + 1) ≡ shift_after s t (n + 1) =
    rw (ne_eqb (s.epoch + (n + 1)) epoch (λ same. absurd (omega arith))) refl in
    (rw (one, two) is.0, parts-shift s t epoch shift (before ∷ past) (omega arith) is.1)

-- the step that is opened
pub step-new : (s : JoinerStart) (t : Taken) (e shift n : ℕ) → shift ≤ s.k → e ≡ s.epoch + n + 1
    → ((q : ℕ) → moved_of (s.epoch + n + 1) (t.from_joiner q) ≡ [])
    → ((p : ℕ) → p < s.feeders → tups_of (s.epoch + n + 1) (t.from_feeder p) ≡ [])
    → IsStep s (with_shift e shift t) (suc n) (new_step shift)
step-new s t e shift n within is none_moved none_came =
    let next : s.epoch + suc n ≡ s.epoch + n + 1 = omega arith in
    record {
      shift = let same : s.epoch + suc n ≡ e = omega arith in rw (eq-eqb (s.epoch + suc n) e same) refl;
      within = within;
      arrived = rw (next, gather-none (λ p. tups_of (s.epoch + n + 1) (t.from_feeder p)) s.feeders none_came)
          (SameBag-refl []);
      came = rw (none_moved (partner_of s (with_shift e shift t) n)) (SameBag-refl []);
    }

-- the partner of the open step
pub who-is : (s : JoinerStart) (t : Taken) (new cur : Step) (past : List Step) → IsHistory s t (new ∷ (cur ∷ past))
    → partner_of s t (length past) ≡ partner_in_step cur.shift new.shift s.id
who-is s t new cur past is =
    let next : s.epoch + (length past + 1) ≡ s.epoch + length (cur ∷ past) = omega arith in
    let one : shift_after s t (length past) ≡ cur.shift = is.1.0.shift in
    let two : shift_after s t (length past + 1) ≡ new.shift = ap t.shift_at next ∙ is.0.shift in
    rw (one, two) refl

-- the shift of a later epoch leaves the first shift as it was
pub first-kept : (s : JoinerStart) (t : Taken) (epoch shift : ℕ) → s.epoch < epoch → shift_after s t 0 ≡ s.shift
    → shift_after s (with_shift epoch shift t) 0 ≡ s.shift
first-kept s t epoch shift low is = rw (ne_eqb (s.epoch + 0) epoch (λ same. absurd (omega arith))) is

-- where no link has anything later than an epoch, none has with one message more that isn't later
pub up_to-grown : (last q : ℕ) (m : ToJoiner) (f : ℕ → List ToJoiner) → SentUpTo last (m ∷ [])
    → ((j : ℕ) → SentUpTo last (f j)) → (j : ℕ) → SentUpTo last (grown q m f j)
up_to-grown last q m f here all j = elim (cases_eq j q) [
  | inl is ↦ rw (is, grown-same q m f) (up_to-append last (f q) (m ∷ []) (all q) here)
  | inr differ ↦ rw (grown-other q m f j differ) (all j)
]
