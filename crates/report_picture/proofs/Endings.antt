-- A text that ends with another.
use Rattle.std.proofs.Common.{◌≡◌, ℕ, sym, ◌∙◌, ap, List, ◌++◌, take, drop}
use Rattle.std.proofs.lemmas.List.{take-append-drop}
use Rattle.report_picture.specs.Texts.{AreLines, EndsWith}

-- a text with nothing but lines before a place ends with what stands from there on
pub ends : (text end : List ℕ) (place : ℕ) → AreLines (take place text) → drop place text ≡ end → EndsWith text end
ends text end place lines same = record {
  before = take place text;
  lines = lines;
  joined = sym (take-append-drop place text) ∙ ap (λ rest. take place text ++ rest) same;
}
