-- Texts that are cut out of one list of bytes.
use Rattle.std.proofs.Common.{◌≡◌, ◌≤◌, ◌+◌, ◌-◌, ◌∙◌, ℕ, zero, suc, List, [], ◌∷◌, ◌++◌, Some, length, take, drop}
use Rattle.std.proofs.Common.{ap, arith, refl}
use Rattle.std.specs.List.{slice_get, slice_range}
use Rattle.std.proofs.Math.Seq.{drop-append_seam, take-length}
use Rattle.std.proofs.lemmas.List.{drop-append-le, length-drop, take-append-le}
use Rattle.row_cells.specs.Texts.{AreEnds, cut}

-- there are as many texts as ends
pub length-cut : (from : ℕ) (ends bytes : List ℕ) → length (cut from ends bytes) ≡ length ends
length-cut from [] bytes = refl
length-cut from (end ∷ ends) bytes = ap suc (length-cut end ends bytes)

-- the text at a place lies between the end before it and its own
pub cut-at : (from : ℕ) (ends bytes : List ℕ) (place begin end : ℕ) → slice_get (from ∷ ends) place ≡ Some begin
    → slice_get ends place ≡ Some end → slice_get (cut from ends bytes) place ≡ Some (slice_range bytes begin end)
cut-at from [] bytes place begin end begins ends' = cc ends'
cut-at from (e ∷ ends) bytes zero begin end begins ends' =
    let same_begin : from ≡ begin = cc begins in
    let same_end : e ≡ end = cc ends' in
    ap (λ b. Some (slice_range bytes b e)) same_begin ∙ ap (λ t. Some (slice_range bytes begin t)) same_end
cut-at from (e ∷ ends) bytes (suc place) begin end begins ends' = cut-at e ends bytes place begin end begins ends'

-- where they begin isn't behind all bytes
pub begins-within : (from : ℕ) (ends : List ℕ) (total : ℕ) → AreEnds from ends total → from ≤ total
begins-within from [] total are = omega (arith, are)
begins-within from (end ∷ ends) total are = omega (arith, are.0, begins-within end ends total are.1)

-- the text at a place begins before it ends
pub begin-end : (from : ℕ) (ends : List ℕ) (total place begin end : ℕ) → AreEnds from ends total
    → slice_get (from ∷ ends) place ≡ Some begin → slice_get ends place ≡ Some end → begin ≤ end
begin-end from [] total place begin end are begins ends' = cc ends'
begin-end from (e ∷ ends) total zero begin end are begins ends' =
    let same_begin : from ≡ begin = cc begins in
    let same_end : e ≡ end = cc ends' in
    omega (arith, are.0, same_begin, same_end)
begin-end from (e ∷ ends) total (suc place) begin end are begins ends' =
    begin-end e ends total place begin end are.1 begins ends'

-- and ends within all bytes
pub end-within : (from : ℕ) (ends : List ℕ) (total place end : ℕ) → AreEnds from ends total
    → slice_get ends place ≡ Some end → end ≤ total
end-within from [] total place end are ends' = cc ends'
end-within from (e ∷ ends) total zero end are ends' =
    let same_end : e ≡ end = cc ends' in
    omega (arith, begins-within e ends total are.1, same_end)
end-within from (e ∷ ends) total (suc place) end are ends' = end-within e ends total place end are.1 ends'

-- bytes behind its end leave a text as it is
range-append : (bytes more : List ℕ) (begin end : ℕ) → begin ≤ end → end ≤ length bytes
    → slice_range (bytes ++ more) begin end ≡ slice_range bytes begin end
range-append bytes more begin end rises within =
    ap (take (end - begin)) (drop-append-le begin bytes more (omega (arith, rises, within)))
    ∙ take-append-le (end - begin) (drop begin bytes) more (omega (arith, length-drop begin bytes, rises, within))

-- and the bytes behind all are the next text
range-new : (bytes text : List ℕ) → slice_range (bytes ++ text) (length bytes) (length bytes + length text) ≡ text
range-new bytes text =
    let size : length bytes + length text - length bytes ≡ length text = omega arith in
    ap (λ n. take n (drop (length bytes) (bytes ++ text))) size
    ∙ ap (take (length text)) (drop-append_seam bytes text)
    ∙ take-length text

-- one more text
pub cut-more : (from : ℕ) (ends bytes text : List ℕ) → AreEnds from ends (length bytes)
    → cut from (ends ++ (length bytes + length text) ∷ []) (bytes ++ text) ≡ cut from ends bytes ++ text ∷ []
cut-more from [] bytes text are =
    ap (λ begin. slice_range (bytes ++ text) begin (length bytes + length text) ∷ []) are
    ∙ ap (λ new. new ∷ []) (range-new bytes text)
cut-more from (end ∷ ends) bytes text are =
    ap (λ first. first ∷ cut end (ends ++ (length bytes + length text) ∷ []) (bytes ++ text))
    (range-append bytes text from end are.0 (begins-within end ends (length bytes) are.1))
    ∙ ap (λ others. slice_range bytes from end ∷ others) (cut-more end ends bytes text are.1)

-- and one more end
pub ends-more : (from : ℕ) (ends : List ℕ) (total more : ℕ) → AreEnds from ends total
    → AreEnds from (ends ++ (total + more) ∷ []) (total + more)
ends-more from [] total more are = (omega (arith, are), refl)
ends-more from (end ∷ ends) total more are = (are.0, ends-more end ends total more are.1)
