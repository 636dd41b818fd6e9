-- What a line that is put leaves of its sink.
use Rattle.std.proofs.Common.{◌≡◌, ◌∙◌, inl, inr, ℕ, List, length, refl, sym, ap, subst, arith, Result, Ok}
use Rattle.std.proofs.Common.{Err}
use Rattle.std.specs.Prelude.{OnErr, OnOk}
use Rattle.std.proofs.lemmas.List.{take_all}
use Rattle.std.specs.Io.KnownBytes.{append_known}
use Rattle.join_rows.specs.Shelves.{Faulted}
use Rattle.join_rows.specs.Sinks.{AppendsFront}
use Rattle.join_rows.specs.declared.sink.Sink.{Ghosts as SinkGhosts}
use Rattle.join_report.proofs.Pieces.{known-none}
use Rattle.join_cli.specs.Lines.{PutsLine}

-- where nothing was put, a front of the line was
pub puts_none : {E : Type 0} (e : SinkGhosts E) (sink : E) (line : List ℕ) → PutsLine e sink sink line
puts_none e sink line = record { front = (0, sym (known-none (e.written sink))); whole = λ few same. inl refl }

-- one call that puts the line, or fails
pub puts_line : {E A B : Type 0} (e : SinkGhosts E) (old new : E) (line piece : List ℕ) (result : Result A B)
    → piece ≡ line
    → OnOk result (e.written new ≡ append_known (e.written old) piece)
    → OnErr result (AppendsFront (e.written old) (e.written new) piece)
    → OnErr result (Faulted (e.faults old) (e.faults new)) → PutsLine e old new line
puts_line e old new line piece (Ok x) is puts front fails =
    let whole = puts ∙ ap (append_known (e.written old)) is in
    let all = ap (append_known (e.written old)) (sym (take_all (length line) line (omega arith))) in
    record { front = (length line, whole ∙ all); whole = λ few same. inr whole }
puts_line e old new line piece (Err x) is puts front fails = record {
  front = subst (AppendsFront (e.written old) (e.written new)) is front;
  whole = λ few same. elim fails [
    | inl rose ↦ absurd (omega (arith, rose, same))
    | inr last ↦ absurd (omega (arith, few, last))
  ];
}
