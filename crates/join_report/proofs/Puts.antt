-- Puts one after the other: what a sink takes behind them.
use Rattle.std.proofs.Common.{◌≡◌, ◌+◌, ℕ, sym, ap, subst, ◌∙◌, arith, List, [], ◌++◌, length, length-append}
use Rattle.std.proofs.Common.{length-take, take, Option}
use Rattle.std.specs.Io.KnownBytes.{append_known}
use Rattle.join_rows.specs.Sinks.{PutsFront, PutsSome}
use Rattle.join_report.proofs.Pieces.{known-append, known-none}

-- no put
pub PutsSome-refl : (known : Option (List ℕ)) (takes : ℕ → Type 0) → PutsSome known known takes takes
PutsSome-refl known takes = record {
  text = [];
  written = sym (known-none known);
  left = λ more has. let same : length {A = ℕ} [] + more ≡ more = omega arith in subst takes same has;
}

-- a put that failed
pub PutsSome-front : (old new : Option (List ℕ)) (takes takes' : ℕ → Type 0) (piece : List ℕ)
    → PutsFront old new takes takes' piece → PutsSome old new takes takes'
PutsSome-front old new takes takes' piece put = record {
  text = take put.front piece;
  written = put.written;
  left = λ more has.
      let size : length (take put.front piece) + more ≡ put.front + more =
      omega (arith, put.within, length-take put.front piece) in
      put.left more (subst takes size has);
}

-- some puts, and others after them
pub PutsSome-trans : (old middle new : Option (List ℕ)) (takes takes' takes'' : ℕ → Type 0)
    → PutsSome old middle takes takes' → PutsSome middle new takes' takes''
    → PutsSome old new takes takes''
PutsSome-trans old middle new takes takes' takes'' before after = record {
  text = before.text ++ after.text;
  written = after.written ∙ (ap (λ known. append_known known after.text) before.written
      ∙ known-append old before.text after.text);
  left = λ more has.
      let both : length (before.text ++ after.text) + more ≡ length before.text + (length after.text + more) =
      omega (arith, length-append before.text after.text) in
      after.left more (before.left (length after.text + more) (subst takes both has));
}
