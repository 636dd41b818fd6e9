use Rattle.std.proofs.Common.{◌≡◌, ◌∙◌, ◌↔◌, ℕ, ℤ, pos, List, Option, Some, ap, sym, w64}
use Rattle.std.proofs.lemmas.Int.{to_z_pos}
use Rattle.row_cells.specs.Numbers.{IsNumber, number_of}
use Rattle.row_cells.proofs.Numbers.{number_of-writes, number_of-written}
use Rattle.row_cells.proofs.number.number_in.Goals as goal

-- a result that is the text's number is just what the text writes
exact_of : (text : List ℕ) (result : Option ℤ) → result ≡ number_of text → (number : ℤ)
    → (result ≡ Some number) ↔ IsNumber text number
exact_of text result value number = (
  λ e. number_of-writes text number (sym value ∙ e),
  λ is. value ∙ number_of-written text number is,
)

pub returns-then-begins_otherwise-clause-exact : goal.returns-then-begins_otherwise-clause-exact
returns-then-begins_otherwise-clause-exact c =
    exact_of c.args.text.now _ (sym (c.begins_otherwise.ensures c.if-begins_otherwise.true))

pub overflow_cast-result : goal.overflow_cast-result
overflow_cast-result c = (number_of-writes c.args.text.now (pos c.in-Some.number) c.in-Some.ensures).fits

pub returns-in-Some-clause-value : goal.returns-in-Some-clause-value
returns-in-Some-clause-value c =
    let fits = overflow_cast-result c in
    ap (λ n. Some n) (to_z_pos w64 c.in-Some.number fits.sfits) ∙ sym c.in-Some.ensures

pub returns-in-Some-clause-exact : goal.returns-in-Some-clause-exact
returns-in-Some-clause-exact c = exact_of c.args.text.now _ (returns-in-Some-clause-value c)

pub returns-clause-exact : goal.returns-clause-exact
returns-clause-exact c = exact_of c.args.text.now c.long_number.result c.long_number.ensures
