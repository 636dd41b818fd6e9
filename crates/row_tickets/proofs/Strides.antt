-- Of the indices from one of p's on, p's next is as many further as there are feeders.
use Rattle.std.proofs.Common.{◌≡◌, ℕ, zero, suc, ◌+◌, ◌-◌, ◌*◌, ◌/◌, ◌%◌, ◌<◌, ◌==◌, eqb, inl, inr, true, false, List}
use Rattle.std.proofs.Common.{◌∷◌, refl, ap, ◌∙◌, arith, eq-eqb}
use Rattle.std.specs.Prelude.{filter}
use Rattle.std.specs.List.{range_with_len}
use Rattle.std.proofs.lemmas.Nat.{mod-mul-add}
use Rattle.std.proofs.lemmas.Bool.{ne_eqb, cases_lt}
use Rattle.std.proofs.Math.Nat.{mod-add-div', mod-eq_of_lt, add-mul-mod_self_right}
use Rattle.row_tickets.specs.Share.{indices}

-- p's indices from i on, below n
abbrev pub indices_from : ℕ → ℕ → ℕ → ℕ → List ℕ
indices_from feeders p i n = filter (λ j. j % feeders == p) (range_with_len i (n - i))

-- a stretch of which none is p's
skipped : (feeders p d i m : ℕ) → ((t : ℕ) → t < d → ¬ ((i + t) % feeders ≡ p))
    → filter (λ j. j % feeders == p) (range_with_len i m) ≡ filter (λ j. j % feeders == p)
    (range_with_len (i + d) (m - d))
skipped feeders p zero i m none =
    let start : i + 0 ≡ i = omega arith in
    let all : m - 0 ≡ m = omega arith in
    rw (start, all) refl
skipped feeders p (suc d) i zero none = let over : 0 - suc d ≡ 0 = omega arith in rw over refl
skipped feeders p (suc d) i (suc m) none =
    let at : i + 0 ≡ i = omega arith in
    let not_here : eqb (i % feeders) p ≡ false = ne_eqb (i % feeders) p (rw at at (none 0 (omega arith))) in
    let start : i + suc d ≡ i + 1 + d = omega arith in
    let over : suc m - suc d ≡ m - d = omega arith in
    let more = skipped feeders p d (i + 1) m (λ t low. let further : i + 1 + t ≡ i + (t + 1) = omega arith in
    rw further (none (t + 1) (omega arith))) in
    rw (not_here, start, over) more

between : (feeders p i t : ℕ) → p < feeders → i % feeders ≡ p → t + 1 < feeders → ¬ ((i + 1 + t) % feeders ≡ p)
between feeders p i t below here few again =
    let whole = mod-add-div' i feeders in
    elim (cases_lt (p + 1 + t) feeders) [
      | inl lower ↦
          let at : i + 1 + t ≡ (i / feeders) * feeders + (p + 1 + t) = omega arith in
          let is = ap (λ n. n % feeders) at ∙ mod-mul-add (i / feeders) feeders (p + 1 + t) lower in
          omega arith
      | inr higher ↦
          let at : i + 1 + t ≡ (i / feeders + 1) * feeders + (p + 1 + t - feeders) = omega arith in
          let is = ap (λ n. n % feeders) at ∙ mod-mul-add (i / feeders + 1) feeders (p + 1 + t - feeders)
          (omega arith) in
          omega arith
    ]

-- p's indices from one of them on begin with it, and go on from as many further as there are feeders
pub indices_next : (feeders p i n : ℕ) → p < feeders → i % feeders ≡ p → i < n
    → indices_from feeders p i n ≡ i ∷ indices_from feeders p (i + feeders) n
indices_next feeders p i n below here more =
    let is_here : eqb (i % feeders) p ≡ true = eq-eqb (i % feeders) p here in
    let left : n - i ≡ suc (n - i - 1) = omega arith in
    let far : i + 1 + (feeders - 1) ≡ i + feeders = omega arith in
    let over : n - i - 1 - (feeders - 1) ≡ n - (i + feeders) = omega arith in
    let rest = skipped feeders p (feeders - 1) (i + 1) (n - i - 1)
    (λ t low. between feeders p i t below here (omega arith)) in
    rw left (rw is_here (ap (λ js. i ∷ js) (rw (far, over) at rest)))

-- all indices of p's are those from p itself on
pub indices_begin : (feeders p n : ℕ) → p < feeders → indices feeders p n ≡ indices_from feeders p p n
indices_begin feeders p n below =
    let start : 0 + p ≡ p = omega arith in
    rw start at (skipped feeders p p 0 n (λ t low again. let same : 0 + t ≡ t = omega arith in
    let low' : t < feeders = omega arith in let is : t % feeders ≡ t = mod-eq_of_lt low' in
    let again' = rw same at again in omega arith))

-- as many further as there are feeders, an index leaves the same when divided by their number
pub stays_of_p : (feeders i : ℕ) → (i + feeders) % feeders ≡ i % feeders
stays_of_p feeders i = let one : i + feeders ≡ i + 1 * feeders = omega arith in
    ap (λ n. n % feeders) one ∙ add-mul-mod_self_right i 1 feeders
