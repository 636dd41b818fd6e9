-- The places at which lines begin, where a line is passed over.
use Rattle.std.proofs.Common.{◌≡◌, ◌≢◌, ◌≤◌, ◌<◌, ◌+◌, ◌-◌, ◌⊎◌, inl, inr, ℕ, sym, ◌∙◌, ap, subst, arith}
use Rattle.std.proofs.Common.{List, get_or, drop, length, drop_of_length-le, eqb, codes}
use Rattle.std.specs.Prelude.{nat_lt}
use Rattle.std.specs.List.{starts_with}
use Rattle.std.proofs.lemmas.Bool.{false≢true, cases_eq, cases_lt, ltb-true, ltb-false, cond_both}
use Rattle.std.proofs.lemmas.List.{get_or-drop, length-drop}
use Rattle.report_picture.specs.Texts.{BeginsLine, MayBegin}

-- a line begins behind the feed that ends one
pub behind_line : (text rest : List ℕ) (place len : ℕ) → rest ≡ drop place text
    → (len < length rest → get_or rest len 0 ≡ 10)
    → place + (len + 1) ≤ length text → BeginsLine text (place + (len + 1))
behind_line text rest place len same feed within positive =
    let long : length rest ≡ length text - place = ap length same ∙ length-drop place text in
    let inside : len < length rest = omega (arith, long) in
    let at : get_or text (place + len) 0 ≡ 10 =
    sym (get_or-drop place text len 0) ∙ ap (λ r. get_or r len 0) (sym same) ∙ feed inside in
    let here : place + (len + 1) - 1 ≡ place + len = omega arith in
    ap (λ i. get_or text i 0) here ∙ at

-- no line begins within one
pub none_within : (text rest : List ℕ) (place len earlier : ℕ) → rest ≡ drop place text
    → ((k : ℕ) → k < len → get_or rest k 0 ≢ 10)
    → place < earlier → earlier < place + (len + 1) → BeginsLine text earlier → ⊥
none_within text rest place len earlier same line after before begins =
    let back = earlier - 1 - place in
    let small : earlier - 1 - place < len = omega arith in
    let there : place + (earlier - 1 - place) ≡ earlier - 1 = omega arith in
    let positive : 0 < earlier = omega arith in
    line (earlier - 1 - place) small
    (ap (λ r. get_or r (earlier - 1 - place) 0) same ∙ get_or-drop place text (earlier - 1 - place) 0
    ∙ ap (λ i. get_or text i 0) there ∙ begins positive)

-- a report may begin only within the text
pub may_begin_within : (text : List ℕ) (place : ℕ) → MayBegin text place → place < length text
may_begin_within text place may =
    elim (cases_lt place (length text)) [
      | inl inside ↦ inside
      | inr past ↦
          let none = ap (λ rest. starts_with eqb rest (codes "input ")) (drop_of_length-le text past) in
          absurd (false≢true (sym none ∙ may.input))
    ]

module _ (text rest : List ℕ) (place len start start' : ℕ) where
  -- what is known of the last start is known behind one line more
  pub last_so_far : rest ≡ drop place text
      → ((k : ℕ) → k < len → get_or rest k 0 ≢ 10)
      → place < length text
      → ((earlier : ℕ) → earlier < place → MayBegin text earlier
      → (earlier ≤ start) × (start < place) × (start < length text))
      → (MayBegin text place → start' ≡ place)
      → ((start' ≡ start) ⊎ ((start' ≡ place) × MayBegin text place))
      → (earlier : ℕ) → earlier < place + (len + 1) → MayBegin text earlier
      → (earlier ≤ start') × (start' < place + (len + 1)) × (start' < length text)
  last_so_far same line inside last newest either earlier before may =
      let Goal = (earlier ≤ start') × (start' < place + (len + 1)) × (start' < length text) in
      elim (cases_eq earlier place) [
        | inl here ↦
            let new : start' ≡ place = newest (subst (λ e. MayBegin text e) here may) in
            (omega (arith, new, here), omega (arith, new), omega (arith, new, inside))
        | inr differ ↦
            cond_both {A = ℕ} (nat_lt earlier place) 0 0 (λ _. Goal)
            (λ e. let less : earlier < place = ltb-true earlier place e in
            let old = last earlier less may in
            elim either [
              | inl kept ↦ (omega (arith, kept, old.0), omega (arith, kept, old.1), omega (arith, kept, old.2))
              | inr new ↦ (omega (arith, new.0), omega (arith, new.0), omega (arith, new.0, inside))
            ])
            (λ e. let more : place ≤ earlier = ltb-false earlier place e in
            absurd (none_within text rest place len earlier same line (omega arith) before may.line))
      ]

-- what was found is there
pub there_so_far : (text : List ℕ) (place start start' : ℕ) → (start < length text → MayBegin text start)
    → ((start' ≡ start) ⊎ ((start' ≡ place) × MayBegin text place))
    → start' < length text → MayBegin text start'
there_so_far text place start start' there either inside =
    elim either [
      | inl kept ↦ subst (λ s. MayBegin text s) (sym kept) (there (omega (arith, kept)))
      | inr new ↦ subst (λ s. MayBegin text s) (sym new.0) new.1
    ]

-- a start is within the text
pub start_within : (text : List ℕ) (place start start' : ℕ) → start ≤ length text → place < length text
    → ((start' ≡ start) ⊎ ((start' ≡ place) × MayBegin text place)) → start' ≤ length text
start_within text place start start' before inside either =
    elim either [
      | inl kept ↦ omega (arith, kept)
      | inr new ↦ omega (arith, new.0)
    ]
