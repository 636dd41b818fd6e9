-- The answer is that of the bytes that were read.
use Rattle.std.proofs.Common.{◌≡◌, ◌≤◌, ◌+◌, ◌^◌, ◌∙◌, ℕ, List, length, arith, Result, Err, refl, sym, ap, subst, inl}
use Rattle.std.proofs.Common.{inr}
use Rattle.std.proofs.lemmas.List.{take_all}
use Rattle.join_rows.specs.Reads.{IsOfBytes, WholeErr, WholeOk}
use Rattle.join_rows.specs.Records.{AnswerSays}
use Rattle.join_rows.specs.Shelves.{Spot, Told}
use Rattle.row_cells.specs.declared.table.Table.{Table}
use Rattle.join_rows.specs.declared.fault.TableFault.{TableFault}
use Rattle.join_rows.specs.declared.fault.TableFault.TheVariants as fault
use Rattle.join_rows.proofs.Answered.{TableIn, long-table, refused, short-table}
use Rattle.join_rows.proofs.Says.{says-table, table-says}

-- so it is where a file isn't read whole, unless a read failed or memory was wanting: it is too long
pub bytes-refused : (told : Told) (name : List ℕ) (old new : ℕ) (spot : Spot) (e : TableFault)
    → WholeErr told name old new spot e
    → (refused e ≡ refused fault.Read → ⊥) → (refused e ≡ refused fault.Memory → ⊥)
    → IsOfBytes told name spot (refused e)
bytes-refused told name old new spot fault.Read w read memory = absurd (read refl)
bytes-refused told name old new spot fault.TooLong w read memory =
    let past = w.2 in
    record {
      bytes = past.bytes;
      place = past.place;
      first = λ file tells. rw past.size at ((past.first file tells).1);
      answer = sym (long-table past.bytes (omega (arith, past.size)));
      says = omega (arith, past.size);
      exact = λ why says. sym (long-table past.bytes (omega (arith, past.size))) ∙ says-table why past.bytes says;
    }
bytes-refused told name old new spot fault.NoHeader w read memory = absurd w
bytes-refused told name old new spot (fault.Width number found) w read memory = absurd w
bytes-refused told name old new spot fault.TooMany w read memory = absurd w
bytes-refused told name old new spot fault.Memory w read memory = absurd (memory refl)

-- and where it is read whole, unless memory was wanting for the table
pub bytes-read_whole : (told : Told) (name : List ℕ) (old new : ℕ) (spot : Spot) (bytes : List ℕ)
    (r : Result Table TableFault) → WholeOk told name old new spot bytes → TableIn bytes r
    → (r ≡ Err fault.Memory → ⊥) → IsOfBytes told name spot r
bytes-read_whole told name old new spot bytes r w t memory = elim t [
  | inl m ↦ absurd (memory m)
  | inr f ↦
      let answer = f ∙ sym (short-table bytes w.3) in
      record {
        bytes = bytes;
        place = w.2;
        first = λ file tells.
            let same = w.4 file tells in
            let few : length file ≤ 2 ^ 24 + 1 = omega (arith, w.3, ap length same) in
            same ∙ sym (take_all (2 ^ 24 + 1) file few);
        answer = answer;
        says = subst (λ z. AnswerSays z bytes) (sym answer) (table-says bytes);
        exact = λ why says. answer ∙ says-table why bytes says;
      }
]
