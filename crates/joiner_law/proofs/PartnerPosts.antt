-- What is sent to partners, with the posts of one message more.
use Rattle.std.proofs.Common.{◌≡◌, ℕ, ◌+◌, ◌<◌, ◌≤◌, ◌≢◌, inl, inr, refl, sym, ◌∙◌, ap, subst, arith, Bool, true, false}
use Rattle.std.proofs.Common.{cond, List, [], ◌∷◌, ◌++◌, length, eq-eqb}
use Rattle.std.specs.Prelude.{map, filter}
use Rattle.std.proofs.lemmas.Bool.{cases_eq, ne_eqb}
use Rattle.std.proofs.lemmas.List.Sums.{sum_by-cons, sum_by-append}
use Rattle.row_cells.specs.Lists.{SameBag}
use Rattle.row_cells.proofs.Bags.{SameBag-refl, SameBag-trans, SameBag-sym, SameBag-append, SameBag-filter}
use Rattle.epoch_tags.specs.declared.tuple.Tuple.{Tuple}
use Rattle.epoch_tags.specs.declared.message.ToJoiner.{ToJoiner}
use Rattle.epoch_tags.specs.declared.message.ToJoiner.TheVariants.{Tup, Turn, End, Moved, MovedEnd}
use Rattle.epoch_tags.specs.declared.message.Post.{Post}
use Rattle.epoch_tags.specs.Messages.{moved_of, moved_ends}
use Rattle.epoch_tags.specs.Orders.{NeverFalls}
use Rattle.epoch_tags.specs.Posts.{posted_to_joiner}
use Rattle.migration_plan.specs.Steps.{is_of, exchanged_side, partner_in_step}
use Rattle.joiner_law.specs.Law.{JoinerStart, JoinerLists}
use Rattle.joiner_law.specs.History.{Step, stored, with_arrived, with_came, new_step}
use Rattle.joiner_law.specs.Standing.{IsSent, AreSent, IsLink, SentUpTo, reached, with_sent}
use Rattle.joiner_law.specs.Posting.{moved_post, moved_end_post}
use Rattle.joiner_law.proofs.LongerLists.{moved_of-append}
use Rattle.joiner_law.proofs.Heart.{stored-arrived}
use Rattle.std.proofs.lemmas.List.{append-nil}
use Rattle.epoch_tags.proofs.Appends.{moved_ends-append}

-- ---- what posts carry

-- posts of moved tuples bring their receiver one message for each tuple, in order
pub posted-here : (to epoch : ℕ) (xs : List Tuple) → posted_to_joiner to (map (moved_post to epoch) xs)
    ≡ map (λ x. Moved epoch x) xs
posted-here to epoch [] = refl
posted-here to epoch (x ∷ xs) = rw (eq-eqb to to refl) (ap (λ ms. Moved epoch x ∷ ms) (posted-here to epoch xs))

-- and no other joiner anything
pub posted-elsewhere : (to epoch j : ℕ) (xs : List Tuple) → to ≢ j
    → posted_to_joiner j (map (moved_post to epoch) xs) ≡ []
posted-elsewhere to epoch j [] differ = refl
posted-elsewhere to epoch j (x ∷ xs) differ = rw (ne_eqb to j differ) (posted-elsewhere to epoch j xs differ)

moved-all : (epoch : ℕ) (xs : List Tuple) → moved_of epoch (map (λ x. Moved epoch x) xs) ≡ xs
moved-all epoch [] = refl
moved-all epoch (x ∷ xs) = rw (eq-eqb epoch epoch refl) (ap (λ ys. x ∷ ys) (moved-all epoch xs))

moved-none : (e epoch : ℕ) (xs : List Tuple) → epoch ≢ e → moved_of e (map (λ x. Moved epoch x) xs) ≡ []
moved-none e epoch [] differ = refl
moved-none e epoch (x ∷ xs) differ = rw (ne_eqb epoch e differ) (moved-none e epoch xs differ)

moved-no_ends : (e epoch : ℕ) (xs : List Tuple) → moved_ends e (map (λ x. Moved epoch x) xs) ≡ 0
moved-no_ends e epoch [] = refl
moved-no_ends e epoch (x ∷ xs) = moved-no_ends e epoch xs

-- posts that carry nothing of an epoch
pub record IsQuietAt (e : ℕ) (posts : List Post) : Type 0 where
  pub tuples : (j : ℕ) → moved_of e (posted_to_joiner j posts) ≡ []
  pub ends : (j : ℕ) → moved_ends e (posted_to_joiner j posts) ≡ 0

-- posts of tuples moved in another epoch carry nothing of this one
pub quiet-moved : (e to epoch : ℕ) (xs : List Tuple) → epoch ≢ e → IsQuietAt e (map (moved_post to epoch) xs)
quiet-moved e to epoch xs differ = record {
  tuples = λ j. elim (cases_eq to j) [
    | inl is ↦ rw (← is) (ap (λ ms. moved_of e ms) (posted-here to epoch xs) ∙ moved-none e epoch xs differ)
    | inr other ↦ ap (λ ms. moved_of e ms) (posted-elsewhere to epoch j xs other)
  ];
  ends = λ j. elim (cases_eq to j) [
    | inl is ↦ rw (← is) (ap (λ ms. moved_ends e ms) (posted-here to epoch xs) ∙ moved-no_ends e epoch xs)
    | inr other ↦ ap (λ ms. moved_ends e ms) (posted-elsewhere to epoch j xs other)
  ];
}

-- nor does the post that ends a part of another epoch
pub quiet-end : (e to epoch : ℕ) → epoch ≢ e → IsQuietAt e (moved_end_post to epoch ∷ [])
quiet-end e to epoch differ = record { tuples = tuples; ends = ends }
  where
    tuples : (j : ℕ) → moved_of e (posted_to_joiner j (moved_end_post to epoch ∷ [])) ≡ []
    tuples j = elim (cases_eq to j) [ inl is ↦ rw (eq-eqb to j is) refl | inr other ↦ rw (ne_eqb to j other) refl ]

    ends : (j : ℕ) → moved_ends e (posted_to_joiner j (moved_end_post to epoch ∷ [])) ≡ 0
    ends j = elim (cases_eq to j) [
      | inl is ↦ rw (
        eq-eqb to j is,
        ne_eqb epoch e differ,
      ) refl
      | inr other ↦ rw (ne_eqb to j other) refl
    ]

-- ---- each step

sent-quiet : (s : JoinerStart) (lists : JoinerLists) (posts : List Post) (ended : Bool) (step before : Step)
    (past : List Step) → IsQuietAt (s.epoch + length past + 1) posts
    → IsSent s lists ended step before past → IsSent s (with_sent lists posts) ended step before past
sent-quiet s lists posts ended step before past quiet is =
    let e = s.epoch + length past + 1 in
    let who = partner_in_step before.shift step.shift s.id in
    let same : moved_of e (lists.to_joiner who ++ posted_to_joiner who posts) ≡ moved_of e (lists.to_joiner who) =
    moved_of-append e (lists.to_joiner who) (posted_to_joiner who posts)
    ∙ ap (λ xs. moved_of e (lists.to_joiner who) ++ xs) (quiet.tuples who)
    ∙ append-nil (moved_of e (lists.to_joiner who)) in
    let none = quiet.ends who in
    let before_ends = is.ends in
    record {
      tuples = subst (λ (xs : List Tuple). SameBag xs (filter (is_of (exchanged_side before.shift step.shift))
          (stored s.k s.id (before ∷ past)))) (sym same) is.tuples;
      ends = moved_ends-append e (lists.to_joiner who) (posted_to_joiner who posts) ∙ omega arith;
    }

-- all steps, where the posts are of later epochs
pub all-quiet : (s : JoinerStart) (lists : JoinerLists) (posts : List Post) (ended : Bool) (steps : List Step)
    → ((n : ℕ) → n + 1 < length steps → IsQuietAt (s.epoch + n + 1) posts)
    → AreSent s lists ended steps → AreSent s (with_sent lists posts) ended steps
all-quiet s lists posts ended [] quiet is = tt
all-quiet s lists posts ended (step ∷ []) quiet is = tt
all-quiet s lists posts ended (step ∷ (before ∷ past)) quiet is = (
  sent-quiet s lists posts ended step before past (quiet (length past) (omega arith)) is.0,
  all-quiet s lists posts true (before ∷ past) (λ n less. quiet n (omega arith)) is.1,
)

-- one tuple more that arrived in the latest step changes nothing that was sent
pub sent-arrived : (s : JoinerStart) (lists : JoinerLists) (ended : Bool) (x : Tuple) (step : Step) (past : List Step)
    → AreSent s lists ended (step ∷ past) → AreSent s lists ended (with_arrived x step ∷ past)
sent-arrived s lists ended x step [] is = tt
sent-arrived s lists ended x step (before ∷ past) is = (record { tuples = is.0.tuples; ends = is.0.ends }, is.1)

-- nor does one tuple more that came
pub sent-came : (s : JoinerStart) (lists : JoinerLists) (ended : Bool) (x : Tuple) (step : Step) (past : List Step)
    → AreSent s lists ended (step ∷ past) → AreSent s lists ended (with_came x step ∷ past)
sent-came s lists ended x step [] is = tt
sent-came s lists ended x step (before ∷ past) is = (record { tuples = is.0.tuples; ends = is.0.ends }, is.1)

-- the tuples that are posted to the partner are added to those sent
sent-more : (s : JoinerStart) (lists : JoinerLists) (ended : Bool) (x : Tuple) (step before : Step) (past : List Step)
    (xs : List Tuple)
    → SameBag (filter (is_of (exchanged_side before.shift step.shift)) (stored s.k s.id (with_arrived x before ∷ past)))
    (filter (is_of (exchanged_side before.shift step.shift)) (stored s.k s.id (before ∷ past)) ++ xs)
    → IsSent s lists ended step before past
    → IsSent s (with_sent lists (map (moved_post (partner_in_step before.shift step.shift s.id)
    (s.epoch + length past + 1)) xs)) ended step (with_arrived x before) past
sent-more s lists ended x step before past xs grows is =
    let e = s.epoch + length past + 1 in
    let who = partner_in_step before.shift step.shift s.id in
    let posts = map (moved_post who e) xs in
    let carried : moved_of e (posted_to_joiner who posts) ≡ xs =
    ap (λ ms. moved_of e ms) (posted-here who e xs) ∙ moved-all e xs in
    let no_end : moved_ends e (posted_to_joiner who posts) ≡ 0 =
    ap (λ ms. moved_ends e ms) (posted-here who e xs) ∙ moved-no_ends e e xs in
    let before_ends = is.ends in
    let now : moved_of e (lists.to_joiner who ++ posted_to_joiner who posts) ≡ moved_of e (lists.to_joiner who) ++ xs =
    moved_of-append e (lists.to_joiner who) (posted_to_joiner who posts)
    ∙ ap (λ ys. moved_of e (lists.to_joiner who) ++ ys) carried in
    let bags : SameBag (moved_of e (lists.to_joiner who) ++ xs)
    (filter (is_of (exchanged_side before.shift step.shift)) (stored s.k s.id (with_arrived x before ∷ past))) =
    SameBag-trans (SameBag-append is.tuples (SameBag-refl xs)) (SameBag-sym grows) in
    record {
      tuples = subst (λ (ys : List Tuple). SameBag ys (filter (is_of (exchanged_side before.shift step.shift))
          (stored s.k s.id (with_arrived x before ∷ past)))) (sym now) bags;
      ends = moved_ends-append e (lists.to_joiner who) (posted_to_joiner who posts) ∙ omega arith;
    }

only_one : (kept : Bool) (x : Tuple) (ys : List Tuple) → SameBag (cond kept (x ∷ ys) ys) (ys ++ cond kept (x ∷ []) [])
only_one true x ys = record {
  sums = λ f. omega (
    arith,
    sum_by-cons f x ys,
    sum_by-append f ys (x ∷ []),
    sum_by-cons f x [],
  );
}
only_one false x ys = rw (append-nil ys) (SameBag-refl ys)

-- a late tuple is posted to the partner if it is of the exchanged side
pub sent-under : (s : JoinerStart) (lists : JoinerLists) (ended : Bool) (x : Tuple) (step before : Step)
    (past : List Step) → AreSent s lists ended (step ∷ (before ∷ past))
    → AreSent s (with_sent lists (map (moved_post (partner_in_step before.shift step.shift s.id)
    (s.epoch + length past + 1)) (cond (is_of (exchanged_side before.shift step.shift) x) (x ∷ []) []))) ended
    (step ∷ (with_arrived x before ∷ past))
sent-under s lists ended x step before past is =
    let keep = is_of (exchanged_side before.shift step.shift) in
    let who = partner_in_step before.shift step.shift s.id in
    let e = s.epoch + length past + 1 in
    let xs = cond (keep x) (x ∷ []) [] in
    let posts = map (moved_post who e) xs in
    let grows : SameBag (filter keep (stored s.k s.id (with_arrived x before ∷ past)))
    (filter keep (stored s.k s.id (before ∷ past)) ++ xs) =
    SameBag-trans (SameBag-filter keep (stored-arrived s.k s.id x before past))
    (only_one (keep x) x (filter keep (stored s.k s.id (before ∷ past)))) in (
      sent-more s lists ended x step before past xs grows is.0,
      all-quiet s lists posts true (with_arrived x before ∷ past)
          (λ n less. quiet-moved (s.epoch + n + 1) who e xs (λ same. absurd (omega arith)))
          (sent-arrived s lists true x before past is.1),
    )

-- ---- links

reached-append : (e : ℕ) (xs ys : List ToJoiner) → reached e (xs ++ ys) ≡ reached (reached e xs) ys
reached-append e [] ys = refl
reached-append e (Tup x ∷ xs) ys = reached-append e xs ys
reached-append e (Turn epoch shift ∷ xs) ys = reached-append e xs ys
reached-append e (End ∷ xs) ys = reached-append e xs ys
reached-append e (Moved epoch x ∷ xs) ys = reached-append epoch xs ys
reached-append e (MovedEnd epoch ∷ xs) ys = reached-append (epoch + 1) xs ys

NeverFalls-append : (e : ℕ) (xs ys : List ToJoiner) → NeverFalls e xs → NeverFalls (reached e xs) ys
    → NeverFalls e (xs ++ ys)
NeverFalls-append e [] ys left right = right
NeverFalls-append e (Tup x ∷ xs) ys left right = absurd left
NeverFalls-append e (Turn epoch shift ∷ xs) ys left right = absurd left
NeverFalls-append e (End ∷ xs) ys left right = absurd left
NeverFalls-append e (Moved epoch x ∷ xs) ys left right = (left.0, NeverFalls-append epoch xs ys left.1 right)
NeverFalls-append e (MovedEnd epoch ∷ xs) ys left right = (left.0, NeverFalls-append (epoch + 1) xs ys left.1 right)

falls-moved : (e epoch : ℕ) (xs : List Tuple) → e ≤ epoch → NeverFalls e (map (λ x. Moved epoch x) xs)
falls-moved e epoch [] low = tt
falls-moved e epoch (x ∷ xs) low = (low, falls-moved epoch epoch xs (omega arith))

reached-moved : (e epoch : ℕ) (xs : List Tuple) → e ≤ epoch → reached e (map (λ x. Moved epoch x) xs) ≤ epoch
reached-moved e epoch [] low = low
reached-moved e epoch (x ∷ xs) low = reached-moved epoch epoch xs (omega arith)

-- two lists with nothing later than an epoch have nothing later one after the other
pub up_to-append : (last : ℕ) (xs ys : List ToJoiner) → SentUpTo last xs → SentUpTo last ys → SentUpTo last (xs ++ ys)
up_to-append last [] ys left right = right
up_to-append last (Tup x ∷ xs) ys left right = up_to-append last xs ys left right
up_to-append last (Turn epoch shift ∷ xs) ys left right = up_to-append last xs ys left right
up_to-append last (End ∷ xs) ys left right = up_to-append last xs ys left right
up_to-append last (Moved epoch x ∷ xs) ys left right = (left.0, up_to-append last xs ys left.1 right)
up_to-append last (MovedEnd epoch ∷ xs) ys left right = (left.0, up_to-append last xs ys left.1 right)

up_to-moved : (last : ℕ) (xs : List Tuple) → SentUpTo last (map (λ x. Moved last x) xs)
up_to-moved last [] = tt
up_to-moved last (x ∷ xs) = (omega arith, up_to-moved last xs)

-- a list with nothing later than an epoch has nothing later than a later one
pub up_to-later : (last later : ℕ) (ms : List ToJoiner) → last ≤ later → SentUpTo last ms → SentUpTo later ms
up_to-later last later [] le up = tt
up_to-later last later (Tup x ∷ ms) le up = up_to-later last later ms le up
up_to-later last later (Turn epoch shift ∷ ms) le up = up_to-later last later ms le up
up_to-later last later (End ∷ ms) le up = up_to-later last later ms le up
up_to-later last later (Moved epoch x ∷ ms) le up = (
  let low : epoch ≤ last = up.0 in omega arith,
  up_to-later last later ms le up.1,
)
up_to-later last later (MovedEnd epoch ∷ ms) le up = (
  let low : epoch ≤ last = up.0 in omega arith,
  up_to-later last later ms le up.1,
)

-- tuples of the last epoch may follow, and it stays the next
pub link-moved : (first last : ℕ) (ms : List ToJoiner) (to j : ℕ) (xs : List Tuple) → IsLink first last last ms
    → IsLink first last last (ms ++ posted_to_joiner j (map (moved_post to last) xs))
link-moved first last ms to j xs is = elim (cases_eq to j) [
  | inl same ↦ rw (← same, posted-here to last xs) (record {
    never_falls = NeverFalls-append first ms (map (λ x. Moved last x) xs) is.never_falls
        (falls-moved (reached first ms) last xs is.goes_on);
    up_to = up_to-append last ms (map (λ x. Moved last x) xs) is.up_to (up_to-moved last xs);
    goes_on = rw (reached-append first ms (map (λ x. Moved last x) xs))
        (reached-moved (reached first ms) last xs is.goes_on);
  })
  | inr other ↦ rw (posted-elsewhere to last j xs other, append-nil ms) is
]

-- the end of the last epoch may follow, and then the one after it is the next
pub link-end : (first last : ℕ) (ms : List ToJoiner) → IsLink first last last ms
    → IsLink first last (last + 1) (ms ++ MovedEnd last ∷ [])
link-end first last ms is = record {
  never_falls = NeverFalls-append first ms (MovedEnd last ∷ []) is.never_falls (is.goes_on, tt);
  up_to = up_to-append last ms (MovedEnd last ∷ []) is.up_to (omega arith, tt);
  goes_on = rw (reached-append first ms (MovedEnd last ∷ [])) (omega arith);
}

-- the last epoch of a link, and the one that may follow, can be put later
pub link-later : (first last last' next next' : ℕ) (ms : List ToJoiner) → last ≤ last' → next ≤ next'
    → IsLink first last next ms → IsLink first last' next' ms
link-later first last last' next next' ms le le' is = let low = is.goes_on in
    record { never_falls = is.never_falls; up_to = up_to-later last last' ms le is.up_to; goes_on = omega arith }

-- nothing of an epoch that is still to come was sent
pub none-later : (last f : ℕ) (ms : List ToJoiner) → SentUpTo last ms → last < f → moved_of f ms ≡ []
none-later last f [] up low = refl
none-later last f (Tup x ∷ ms) up low = none-later last f ms up low
none-later last f (Turn epoch shift ∷ ms) up low = none-later last f ms up low
none-later last f (End ∷ ms) up low = none-later last f ms up low
none-later last f (Moved epoch x ∷ ms) up low = let le : epoch ≤ last = up.0 in
    rw (ne_eqb epoch f (λ same. absurd (omega arith))) (none-later last f ms up.1 low)
none-later last f (MovedEnd epoch ∷ ms) up low = none-later last f ms up.1 low

-- nor was an end of such an epoch
pub no_end-later : (last f : ℕ) (ms : List ToJoiner) → SentUpTo last ms → last < f → moved_ends f ms ≡ 0
no_end-later last f [] up low = refl
no_end-later last f (Tup x ∷ ms) up low = no_end-later last f ms up low
no_end-later last f (Turn epoch shift ∷ ms) up low = no_end-later last f ms up low
no_end-later last f (End ∷ ms) up low = no_end-later last f ms up low
no_end-later last f (Moved epoch x ∷ ms) up low = no_end-later last f ms up.1 low
no_end-later last f (MovedEnd epoch ∷ ms) up low = let le : epoch ≤ last = up.0 in
    rw (ne_eqb epoch f (λ same. absurd (omega arith))) (no_end-later last f ms up.1 low)

-- a step is opened: the exchanged side of the store is posted to the partner
pub sent-new : (s : JoinerStart) (lists : JoinerLists) (a : List Tuple) (shift : ℕ) (before : Step) (past : List Step)
    → ((q : ℕ) → SentUpTo (s.epoch + length past) (lists.to_joiner q)) → SameBag a (stored s.k s.id (before ∷ past))
    → AreSent s lists true (before ∷ past)
    → AreSent s (with_sent lists (map (moved_post (partner_in_step before.shift shift s.id) (s.epoch + length past + 1))
    (filter (is_of (exchanged_side before.shift shift)) a))) false (new_step shift ∷ (before ∷ past))
sent-new s lists a shift before past up_to same is =
    let keep = is_of (exchanged_side before.shift shift) in
    let who = partner_in_step before.shift shift s.id in
    let e = s.epoch + length past + 1 in
    let xs = filter keep a in
    let posts = map (moved_post who e) xs in
    let nothing : moved_of e (lists.to_joiner who) ≡ [] = none-later (s.epoch + length past) e (lists.to_joiner who)
    (up_to who) (omega arith) in
    let no_end : moved_ends e (lists.to_joiner who) ≡ 0 = no_end-later (s.epoch + length past) e (lists.to_joiner who)
    (up_to who) (omega arith) in
    let carried : moved_of e (posted_to_joiner who posts) ≡ xs =
    ap (λ ms. moved_of e ms) (posted-here who e xs) ∙ moved-all e xs in
    let no_end' : moved_ends e (posted_to_joiner who posts) ≡ 0 =
    ap (λ ms. moved_ends e ms) (posted-here who e xs) ∙ moved-no_ends e e xs in
    let now : moved_of e (lists.to_joiner who ++ posted_to_joiner who posts) ≡ xs =
    moved_of-append e (lists.to_joiner who) (posted_to_joiner who posts)
    ∙ ap (λ ys. ys ++ moved_of e (posted_to_joiner who posts)) nothing ∙ carried in (
      record {
        tuples = subst (λ (ys : List Tuple). SameBag ys (filter keep (stored s.k s.id (before ∷ past)))) (sym now)
            (SameBag-filter keep same);
        ends = moved_ends-append e (lists.to_joiner who) (posted_to_joiner who posts) ∙ omega arith;
      },
      all-quiet s lists posts true (before ∷ past) (λ n less. quiet-moved (s.epoch + n + 1) who e xs
          (λ same. absurd (omega arith))) is,
    )
