-- What a joiner has stored once all of an epoch has come to it.
use Rattle.std.proofs.Common.{◌≡◌, ℕ, zero, suc, ◌+◌, ◌^◌, ◌<◌, ◌≤◌, min, inl, inr, refl, sym, ◌∙◌, ap, subst, arith}
use Rattle.std.proofs.Common.{Bool, true, false, cond, ◌&&◌, List, [], ◌∷◌, ◌++◌, append_assoc}
use Rattle.std.specs.Prelude.{map, filter, ◌==◌}
use Rattle.std.proofs.lemmas.Bool.{lt-ltb, le-ltb}
use Rattle.epoch_tags.specs.declared.message.ToJoiner.TheVariants.{Tup, Turn, End, Moved, MovedEnd}
use Rattle.row_cells.specs.declared.table.Side.TheVariants.{R, S}
use Rattle.row_cells.specs.Lists.{IsPrefix, SameBag}
use Rattle.row_cells.proofs.Bags.{SameBag-map}
use Rattle.std.proofs.lemmas.List.{map-append}
use Rattle.epoch_tags.specs.declared.tuple.Tuple.{Tuple}
use Rattle.epoch_tags.specs.declared.message.ToJoiner.{ToJoiner}
use Rattle.epoch_tags.specs.Messages.{turns, moved_of, moved_ends}
use Rattle.grid_map.specs.Grid.{partner}
use Rattle.migration_plan.specs.Steps.{AreNeighbours, holds, is_of, exchanged_side, partner_in_step}
use Rattle.joiner_law.specs.Law.{opened, shift_after, partner_of, store, arrived as arrived_of, AllTurned, IsSettled}
use Rattle.epoch_tags.specs.Orders.{NeverFalls}
use Rattle.joiner_law.proofs.Moved.{whole_part}
use Rattle.trace_law.specs.declared.input.Input.{Input}
pub use Rattle.trace_law.specs.Stored.{HasAllOf}
use Rattle.trace_law.specs.declared.setting.Setting.{Setting}
use Rattle.trace_law.specs.Family.{Rest, Family, IsAgreeing, joiner_start, aged}
use Rattle.trace_law.proofs.Stores.{is_stored, rising_step, falling_step}
use Rattle.trace_law.proofs.Aged.{filter-map}
use Rattle.row_cells.proofs.Totals.{greatest_above}
use Rattle.grid_map.proofs.Halves.{partner_below}

-- ---- small facts

moved_ends-append : (e : ℕ) (xs ys : List ToJoiner) → 0 < moved_ends e xs → 0 < moved_ends e (xs ++ ys)
moved_ends-append e [] ys has = absurd (omega arith)
moved_ends-append e (Tup x ∷ xs) ys has = moved_ends-append e xs ys has
moved_ends-append e (Turn epoch shift ∷ xs) ys has = moved_ends-append e xs ys has
moved_ends-append e (End ∷ xs) ys has = moved_ends-append e xs ys has
moved_ends-append e (Moved epoch x ∷ xs) ys has = moved_ends-append e xs ys has
moved_ends-append e (MovedEnd epoch ∷ xs) ys has =
    one_more (epoch == e) (moved_ends e xs) (moved_ends e (xs ++ ys)) (moved_ends-append e xs ys) has
  where
    one_more : (t : Bool) (m n : ℕ) → (0 < m → 0 < n) → 0 < cond t (m + 1) m → 0 < cond t (n + 1) n
    one_more true m n grows has = omega arith
    one_more false m n grows has = grows has

-- one step, in either direction
either_step : (all A B M N : List Tuple) (k b b' e j : ℕ) → AreNeighbours b b' → b ≤ k → b' ≤ k → k ≤ 8
    → SameBag A (filter (is_stored k b e j) all) → SameBag B (filter (is_stored k b e (partner_in_step b b' j)) all)
    → SameBag M (filter (is_of (exchanged_side b b')) B)
    → SameBag N (filter (λ t. (t.stamp == e + 1) && holds k b' j t) all)
    → SameBag (filter (holds k b' j) A ++ M ++ N) (filter (is_stored k b' (e + 1) j) all)
either_step all A B M N k b b' e j (inl up) low low' small mine its came new =
    let least : min b b' ≡ b = omega arith in
    let its' : SameBag B (filter (is_stored k b e (partner b j)) all) = rw least at its in
    let came' : SameBag M (filter (is_of R) B) = rw (lt-ltb b b' (omega arith)) at came in
    let new' : SameBag N (filter (λ t. (t.stamp == e + 1) && holds k (b + 1) j t) all) = simp up at new in
    rw up (rising_step all A B M N k b e j (omega arith) small mine its' came' new')
either_step all A B M N k b b' e j (inr down) low low' small mine its came new =
    let least : min b b' ≡ b' = omega arith in
    let its0 : SameBag B (filter (is_stored k b e (partner b' j)) all) = rw least at its in
    let its' : SameBag B (filter (is_stored k (b' + 1) e (partner b' j)) all) = rw down at its0 in
    let mine' : SameBag A (filter (is_stored k (b' + 1) e j) all) = rw down at mine in
    let came' : SameBag M (filter (is_of S) B) = rw (le-ltb b b' (omega arith)) at came in
    falling_step all A B M N k b' e j (omega arith) small mine' its' came' new

-- the smaller of two neighbouring shifts has its bit in the grid
pub low_within : (k a c : ℕ) → AreNeighbours a c → a ≤ k → c ≤ k → min a c < k
low_within k a c (inl up) low low' = omega arith
low_within k a c (inr down) low low' = omega arith

-- ---- the induction over epochs
-- b has the shift of each epoch, and all has the tuples of all rows with their stamps. Given that the joiners go by
-- these shifts, and that feeders send each joiner what it holds, a joiner to which all of an epoch has come has stored
-- just the tuples of that epoch or older that it holds.
module _ (input : Input) (setting : Setting) (rest : Rest) (f : Family) (agrees : IsAgreeing input setting rest f)
    (all : List Tuple) (b : ℕ → ℕ)
    (some : 0 < setting.feeders) (small : setting.k ≤ 8)
    (shifts : (j : ℕ) (h : j < 2 ^ setting.k) (n : ℕ)
    → n ≤ opened (joiner_start input setting rest j) (agrees.taken_by_joiner j)
    → shift_after (joiner_start input setting rest j) (agrees.taken_by_joiner j) n ≡ b (rest.line.epoch + n))
    (starts : (j : ℕ) (h : j < 2 ^ setting.k) → HasAllOf setting.feeders (agrees.taken_by_joiner j) 0
    → SameBag (map (aged rest.line) (store (joiner_start input setting rest j) (agrees.taken_by_joiner j) 0))
    (filter (is_stored setting.k (b rest.line.epoch) rest.line.epoch j) all))
    (arrivals : (j : ℕ) (h : j < 2 ^ setting.k) (n : ℕ) → HasAllOf setting.feeders (agrees.taken_by_joiner j) (n + 1)
    → SameBag
    (map (aged rest.line)
    (arrived_of (joiner_start input setting rest j) (agrees.taken_by_joiner j) (rest.line.epoch + n + 1)))
    (filter (λ t. (t.stamp == rest.line.epoch + n + 1) && holds setting.k (b (rest.line.epoch + n + 1)) j t) all))
  where
    abbrev e0 : ℕ
    e0 = rest.line.epoch

    abbrev old : Tuple → Tuple
    old t = aged rest.line t

    -- the store after n settled steps has all that it is to hold
    pub complete : (n j : ℕ) (h : j < 2 ^ setting.k)
        → ((m : ℕ) → m < n → IsSettled (joiner_start input setting rest j) (agrees.taken_by_joiner j) m)
        → HasAllOf setting.feeders (agrees.taken_by_joiner j) n
        → SameBag (map (aged rest.line) (store (joiner_start input setting rest j) (agrees.taken_by_joiner j) n))
        (filter (is_stored setting.k (b (rest.line.epoch + n)) (rest.line.epoch + n) j) all)
    complete zero j h settled has =
        let same : e0 + 0 ≡ e0 = omega arith in
        subst
        (λ e.
        SameBag (map old (store (joiner_start input setting rest j) (agrees.taken_by_joiner j) 0))
        (filter (is_stored setting.k (b e) e j) all)) (sym same) (starts j h has)
    complete (suc n) j h settled has =
        let k = setting.k in
        let law = agrees.joiners j h in
        let s = joiner_start input setting rest j in
        let t = agrees.taken_by_joiner j in
        let step = settled n (omega arith) in
        let first : n < turns (t.from_feeder 0) = step.0 0 some in
        let open_j : n < opened s t =
        omega (arith, greatest_above setting.feeders (λ p. turns (t.from_feeder p)) 0 some) in
        let next_is : e0 + (n + 1) ≡ e0 + n + 1 = omega arith in
        let here : shift_after s t n ≡ b (e0 + n) = shifts j h n (omega arith) in
        let next : shift_after s t (n + 1) ≡ b (e0 + n + 1) = shifts j h (n + 1) (omega arith) ∙ ap b next_is in
        let near : AreNeighbours (shift_after s t n) (shift_after s t (n + 1)) = law.by_one n open_j in
        let low_here : shift_after s t n ≤ k = law.within n (omega arith) in
        let low_next : shift_after s t (n + 1) ≤ k = law.within (n + 1) (omega arith) in
        let low = min (shift_after s t n) (shift_after s t (n + 1)) in
        let low_k : low < k = low_within k (shift_after s t n) (shift_after s t (n + 1)) near low_here low_next in
        let q = partner_of s t n in
        let h' : q < 2 ^ k = partner_below k low j low_k h in
        -- the partner, and the link from it
        let law' = agrees.joiners q h' in
        let s' = joiner_start input setting rest q in
        let t' = agrees.taken_by_joiner q in
        let link : IsPrefix ((f.joiner j).from_joiner q) ((f.joiner q).to_joiner j) = agrees.joiner_joiner q j h' h in
        let of_q = law.of_joiners q h' in
        let sent : t.from_joiner q ++ (of_q.held ++ link.rest) ≡ (f.joiner q).to_joiner j =
        sym (append_assoc (t.from_joiner q) of_q.held link.rest) ∙ ap (λ ms. ms ++ link.rest) of_q.splits
        ∙ link.joins in
        let ended : 0 < moved_ends (e0 + n + 1) ((f.joiner q).to_joiner j) =
        subst (λ ms. 0 < moved_ends (e0 + n + 1) ms) sent
        (moved_ends-append (e0 + n + 1) (t.from_joiner q) (of_q.held ++ link.rest) step.1) in
        let falls : NeverFalls e0 (t.from_joiner q ++ (of_q.held ++ link.rest)) =
        subst (λ ms. NeverFalls e0 ms) (sym sent) (law'.never_falls j) in
        let moved_is : moved_of (e0 + n + 1) (t.from_joiner q) ≡ moved_of (e0 + n + 1) ((f.joiner q).to_joiner j) =
        whole_part (e0 + n + 1) e0 (t.from_joiner q) (of_q.held ++ link.rest) falls step.1
        ∙ ap (λ ms. moved_of (e0 + n + 1) ms) sent in
        -- it had turned, so it had all of the epoch before
        let end = law'.ended_only j (e0 + n + 1) ended in
        let same : end.0 ≡ n = omega (arith, end.1) in
        let turned : AllTurned s' t' n = subst (λ m. AllTurned s' t' m) same end.2 in
        let to_j : j ≡ partner_of s' t' n = subst (λ m. j ≡ partner_of s' t' m) same end.3 in
        let first' : n < turns (t'.from_feeder 0) = turned 0 some in
        let open_q : n < opened s' t' =
        omega (arith, greatest_above setting.feeders (λ p. turns (t'.from_feeder p)) 0 some) in
        let one' : opened s' t' ≤ law'.done + 1 = law'.one_open in
        let here' : shift_after s' t' n ≡ b (e0 + n) = shifts q h' n (omega arith) in
        let next' : shift_after s' t' (n + 1) ≡ b (e0 + n + 1) = shifts q h' (n + 1) (omega arith) ∙ ap b next_is in
        let shift = shift_after s t n in
        let shift' = shift_after s t (n + 1) in
        let mine : SameBag (map old (store s t n)) (filter (is_stored k shift (e0 + n) j) all) =
        subst (λ c. SameBag (map old (store s t n)) (filter (is_stored k c (e0 + n) j) all)) (sym here)
        (complete n j h (λ m low. settled m (omega arith)) (λ p hp. inl (step.0 p hp))) in
        let its : SameBag (map old (store s' t' n)) (filter (is_stored k shift (e0 + n) q) all) =
        subst (λ c. SameBag (map old (store s' t' n)) (filter (is_stored k c (e0 + n) q) all)) (sym here)
        (complete n q h' (λ m low. law'.settled m (omega arith)) (λ p hp. inl (turned p hp))) in
        let sent_q : SameBag (moved_of (e0 + n + 1) ((f.joiner q).to_joiner j))
        (filter (is_of (exchanged_side (shift_after s' t' n) (shift_after s' t' (n + 1)))) (store s' t' n)) =
        subst
        (λ i.
        SameBag (moved_of (e0 + n + 1) ((f.joiner q).to_joiner i))
        (filter (is_of (exchanged_side (shift_after s' t' n) (shift_after s' t' (n + 1)))) (store s' t' n)))
        (sym to_j) (law'.moved n open_q) in
        let side_is : exchanged_side (shift_after s' t' n) (shift_after s' t' (n + 1)) ≡ exchanged_side shift shift' =
        ap (λ c. exchanged_side c (shift_after s' t' (n + 1))) (here' ∙ sym here)
        ∙ ap (λ c. exchanged_side shift c) (next' ∙ sym next) in
        let x = exchanged_side shift shift' in
        let came : SameBag (moved_of (e0 + n + 1) (t.from_joiner q)) (filter (is_of x) (store s' t' n)) =
        subst (λ ts. SameBag ts (filter (is_of x) (store s' t' n))) (sym moved_is)
        (subst (λ y. SameBag (moved_of (e0 + n + 1) ((f.joiner q).to_joiner j)) (filter (is_of y) (store s' t' n)))
        side_is sent_q) in
        let came' : SameBag (map old (moved_of (e0 + n + 1) (t.from_joiner q)))
        (filter (is_of x) (map old (store s' t' n))) =
        subst (λ ts. SameBag (map old (moved_of (e0 + n + 1) (t.from_joiner q))) ts)
        (sym (filter-map old (is_of x) (is_of x) (λ y. refl) (store s' t' n))) (SameBag-map old came) in
        let one : e0 + n + 1 ≡ e0 + suc n = omega arith in
        let all_came : HasAllOf setting.feeders t (n + 1) =
        subst (λ m. HasAllOf setting.feeders t m) (omega arith) has in
        let new : SameBag (map old (arrived_of s t (e0 + n + 1)))
        (filter (λ y. (y.stamp == e0 + n + 1) && holds k shift' j y) all) =
        subst
        (λ c.
        SameBag (map old (arrived_of s t (e0 + n + 1))) (filter (λ y. (y.stamp == e0 + n + 1) && holds k c j y) all))
        (sym next) (arrivals j h n all_came) in
        let whole =
        either_step all (map old (store s t n)) (map old (store s' t' n))
        (map old (moved_of (e0 + n + 1) (t.from_joiner q))) (map old (arrived_of s t (e0 + n + 1))) k shift shift'
        (e0 + n) j
        near low_here low_next small mine its came' new in
        let parts : map old (store s t (suc n)) ≡ filter (holds k shift' j) (map old (store s t n))
        ++ map old (moved_of (e0 + n + 1) (t.from_joiner q)) ++ map old (arrived_of s t (e0 + n + 1)) =
        map-append old (filter (holds k shift' j) (store s t n) ++ moved_of (e0 + n + 1) (t.from_joiner q))
        (arrived_of s t (e0 + n + 1))
        ∙ ap (λ ts. ts ++ map old (arrived_of s t (e0 + n + 1)))
        (map-append old (filter (holds k shift' j) (store s t n)) (moved_of (e0 + n + 1) (t.from_joiner q)))
        ∙ ap (λ ts. ts ++ map old (moved_of (e0 + n + 1) (t.from_joiner q)) ++ map old (arrived_of s t (e0 + n + 1)))
        (sym (filter-map old (holds k shift' j) (holds k shift' j) (λ y. refl) (store s t n))) in
        let whole' : SameBag (map old (store s t (suc n))) (filter (is_stored k (b (e0 + n + 1)) (e0 + n + 1) j) all) =
        subst (λ ts. SameBag ts (filter (is_stored k (b (e0 + n + 1)) (e0 + n + 1) j) all)) (sym parts)
        (subst
        (λ c.
        SameBag
        (filter (holds k shift' j) (map old (store s t n)) ++ map old (moved_of (e0 + n + 1) (t.from_joiner q))
        ++ map old (arrived_of s t (e0 + n + 1))) (filter (is_stored k c (e0 + n + 1) j) all)) next whole) in
        subst (λ m. SameBag (map old (store s t (suc n))) (filter (is_stored k (b m) m j) all)) one whole'
