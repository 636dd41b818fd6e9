-- What the checks of a match found that passed them.
use Rattle.std.proofs.Common.{◌≡◌, ◌≤◌, ◌+◌, ◌*◌, ℕ, Bool, true, false, List, [], ◌∷◌, Option, Some, None, arith}
use Rattle.std.proofs.Common.{length}
use Rattle.std.proofs.Common.{◌∙◌, refl, subst, sym}
use Rattle.std.specs.Prelude.{IfSome, IsSome, Result, Ok, Err, if◌then◌else◌, nat_le}
use Rattle.std.specs.Int.{is_power_of_two, trailing_zeros, w64}
use Rattle.std.proofs.lemmas.Bool.{leb-true}
use Rattle.clap.specs.Walk.{Text}
use Rattle.join_words.specs.Apart.{any_of, apart}
use Rattle.join_words.specs.Words.{AskedWave, Names, exponent_of, fixed_within, grid_by, later_names, names_by}
use Rattle.join_words.specs.Words.{then_of, three_names, unless_apart, wave_names}
use Rattle.join_words.specs.declared.apart.Given.{Given}
use Rattle.join_words.specs.declared.kind.Grid.{Grid}
use Rattle.join_words.specs.declared.options.WordsFault.{WordsFault}
use Rattle.join_words.specs.declared.options.WordsFault.TheVariants.{Fixed, Joiners, Together}
use Rattle.join_words.proofs.Powers.{small_exponent}

-- what a check found is one thing
pub found_is : {A : Type 0} (x y : A) → ◌≡◌ {A = Result A WordsFault} (Ok x) (Ok y) → x ≡ y
found_is x y is = cc

-- a fault is nothing that was found
pub no_fault : {A : Type 0} {fault : WordsFault} {x : A} → ◌≡◌ {A = Result A WordsFault} (Err fault) (Ok x) → ⊥
no_fault is = cc

-- where a check and the next one passed, the first found something, and the next passed with it
pub both_passed : {A B : Type 0} (first : Result A WordsFault) (next : A → Result B WordsFault) (end : B)
    → then_of first next ≡ Ok end → (x : A) × (first ≡ Ok x) × (next x ≡ Ok end)
both_passed (Ok x) next end is = (x, refl, is)
both_passed (Err fault) next end is = absurd (no_fault is)

-- what a choice found that might have been a fault
chosen : {A : Type 0} (b : Bool) (x y : A) (fault : WordsFault)
    → ◌≡◌ {A = Result A WordsFault} (if b then Ok x else Err fault) (Ok y) → (b ≡ true) × (x ≡ y)
chosen true x y fault is = (refl, found_is x y is)
chosen false x y fault is = absurd (no_fault is)

-- what was found where a choice might have been a fault
passed : {A : Type 0} (b : Bool) (next : Result A WordsFault) (end : A) (fault : WordsFault)
    → ◌≡◌ {A = Result A WordsFault} (if b then Err fault else next) (Ok end) → (b ≡ false) × (next ≡ Ok end)
passed true next end fault is = absurd (no_fault is)
passed false next end fault is = (refl, is)

-- no two words stood apart
pub not_apart : {A : Type 0} (given : Given) (next : Result A WordsFault) (end : A) → unless_apart given next ≡ Ok end
    → (any_of given apart ≡ false) × (next ≡ Ok end)
not_apart given next end is = passed (any_of given apart) next end Together is

-- of the grid that was found: there are 64 joiners at most, a fixed shift is one of the grid, and none is fixed where
-- none is given
pub record IsGrid (fixed : Option ℕ) (grid : Grid) : Type 0 where
  pub small : grid.k ≤ 6
  pub fits : IfSome grid.fixed (λ shift. shift ≤ grid.k)
  pub free : fixed ≡ None → grid.fixed ≡ None

-- the exponent that was found
exponent_found : (joiners k : ℕ) → joiners ≤ 64 → exponent_of joiners ≡ Ok k → k ≤ 6
exponent_found joiners k few is =
    let found = chosen (is_power_of_two joiners) (trailing_zeros w64 joiners) k Joiners is in
    subst (λ (n : ℕ). n ≤ 6) found.1 (small_exponent joiners few found.0)

-- nothing is no thing
none_some : {A : Type 0} {x : A} → None ≡ Some x → ⊥
none_some is = cc

-- the shift that was found
shift_found : (k : ℕ) (fixed shift : Option ℕ) → fixed_within k fixed ≡ Ok shift
    → IfSome shift (λ shift. shift ≤ k) × (fixed ≡ None → shift ≡ None)
shift_found k None None is = (tt, λ no. refl)
shift_found k None (Some shift) is = absurd (none_some (found_is None (Some shift) is))
shift_found k (Some fixed) shift is =
    let found = chosen (nat_le fixed k) (Some fixed) shift Fixed is in
    let within : fixed ≤ k = leb-true fixed k found.0 in
    (subst (λ (o : Option ℕ). IfSome o (λ shift. shift ≤ k)) found.1 within, λ no. sym found.1 ∙ no)

-- the grid that was found
pub grid_found : (groups : Bool) (joiners : ℕ) (fixed : Option ℕ) (grid : Grid) → joiners ≤ 64
    → grid_by groups joiners fixed ≡ Ok grid → IsGrid fixed grid
grid_found true joiners fixed grid few is =
    subst (IsGrid fixed) (found_is (record { k = 0; fixed = None }) grid is)
    (record { small = omega arith; fits = tt; free = λ no. refl })
grid_found false joiners fixed grid few is =
    let first = both_passed (exponent_of joiners) _ grid is in
    let second = both_passed (fixed_within first.0 fixed) _ grid first.2 in
    let shift = shift_found first.0 fixed second.0 second.1 in
    subst (IsGrid fixed) (found_is (record { k = first.0; fixed = second.0 }) grid second.2)
    (record { small = exponent_found joiners first.0 few first.1; fits = shift.0; free = shift.1 })

-- the later waves that were found: at most three, of two names each
later_found : (names : List Text) (later : List AskedWave) → later_names names ≡ Ok later
    → (length later ≤ 3) × (length names ≡ 2 * length later)
later_found [] later is =
    subst (λ (l : List AskedWave). (length l ≤ 3) × (0 ≡ 2 * length l)) (found_is _ later is) (omega arith, refl)
later_found (a ∷ []) later is = absurd (no_fault is)
later_found (a ∷ b ∷ []) later is =
    subst (λ (l : List AskedWave). (length l ≤ 3) × (2 ≡ 2 * length l)) (found_is _ later is) (omega arith, refl)
later_found (a ∷ b ∷ c ∷ []) later is = absurd (no_fault is)
later_found (a ∷ b ∷ c ∷ d ∷ []) later is =
    subst (λ (l : List AskedWave). (length l ≤ 3) × (4 ≡ 2 * length l)) (found_is _ later is) (omega arith, refl)
later_found (a ∷ b ∷ c ∷ d ∷ e ∷ []) later is = absurd (no_fault is)
later_found (a ∷ b ∷ c ∷ d ∷ e ∷ f ∷ []) later is =
    subst (λ (l : List AskedWave). (length l ≤ 3) × (6 ≡ 2 * length l)) (found_is _ later is) (omega arith, refl)
later_found (a ∷ b ∷ c ∷ d ∷ e ∷ f ∷ g ∷ names) later is = absurd (no_fault is)

-- of the names that were found: at most three later waves; of made tables none, nor a second join; without a second
-- join each wave has two names; and a second join has a text
pub record AreNames (make : Option ℕ) (on : Option Text) (names : List Text) (found : Names) : Type 0 where
  pub few : length found.later ≤ 3
  pub made : IfSome make (λ _. found.later ≡ [])
  pub half : found.chain ≡ None → length names ≤ 2 * length found.later + 2
  pub chained : IfSome found.chain (λ _. (make ≡ None) × IsSome on)

-- the names of the waves that were found
waves_found : (names : List Text) (found : Names) → wave_names names ≡ Ok found → AreNames None None names found
waves_found [] found is = absurd (no_fault is)
waves_found (a ∷ []) found is = absurd (no_fault is)
waves_found (a ∷ b ∷ names) found is =
    let passed = both_passed (later_names names) _ found is in
    let later = later_found names passed.0 passed.1 in
    let half : length names ≡ 2 * length passed.0 = later.1 in
    subst (AreNames None None (a ∷ b ∷ names)) (found_is _ found passed.2)
    (record { few = later.0; made = tt; half = λ no. omega (arith, half); chained = tt })

-- the three names that were found
three_found : (on : Text) (names : List Text) (found : Names) → three_names on names ≡ Ok found
    → AreNames None (Some on) names found
three_found on [] found is = absurd (no_fault is)
three_found on (a ∷ []) found is = absurd (no_fault is)
three_found on (a ∷ b ∷ []) found is = absurd (no_fault is)
three_found on (a ∷ b ∷ c ∷ []) found is =
    subst (AreNames None (Some on) (a ∷ b ∷ c ∷ [])) (found_is _ found is)
    (record { few = omega arith; made = tt; half = λ no. absurd (none_some (sym no)); chained = (refl, refl) })
three_found on (a ∷ b ∷ c ∷ d ∷ names) found is = absurd (no_fault is)

-- the names that were found
pub names_found : (make : Option ℕ) (on : Option Text) (names : List Text) (found : Names)
    → names_by make on names ≡ Ok found → AreNames make on names found
names_found (Some count) on [] found is =
    subst (AreNames (Some count) on []) (found_is _ found is)
    (record { few = omega arith; made = refl; half = λ no. omega arith; chained = tt })
names_found (Some count) on (a ∷ names) found is = absurd (no_fault is)
names_found None None names found is = waves_found names found is
names_found None (Some on) names found is = three_found on names found is
