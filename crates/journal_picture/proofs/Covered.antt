-- Each point has a stretch that stands for it, and what is drawn of each stretch is among the points.
use Rattle.std.proofs.Common.{◌≡◌, ◌≤◌, ℕ, suc, List, [], ◌∷◌, refl, sym, ◌∙◌, arith}
use Rattle.std.specs.Prelude.{All, Any, Contains, nat_le, ◌==◌}
use Rattle.std.proofs.lemmas.Bool.{cond_both, leb-true, leb-false, eqb-true}
use Rattle.std.proofs.lemmas.List.Elements.{All-nil, All-cons, All-head, All-tail, All-weaker, All-contains_itself}
use Rattle.journal_picture.specs.declared.point.Point.{Point}
use Rattle.journal_picture.specs.declared.curve.Stretch.{Stretch}
use Rattle.journal_picture.specs.Places.{column_of, height_of}
use Rattle.journal_picture.specs.Curve.{alone, higher, stretches_from, stretches_of, with_point, IsAmong, IsCovered}
use Rattle.journal_picture.specs.Curve.{StandsFor}

-- what is so of the first stretch and of all points behind it is so of each
among_from : (all : List Point) (total : ℕ) (stretch : Stretch) (points : List Point) → IsAmong all stretch
    → All (Contains all) points → All (IsAmong all) (stretches_from total stretch points)
among_from all total stretch [] here rest = All-cons (IsAmong all) stretch [] here (All-nil (IsAmong all))
among_from all total stretch (point ∷ points) here rest =
    let next = All-head (Contains all) point points rest in
    let others = All-tail (Contains all) point points rest in
    let first : Contains all stretch.highest = here.highest in
    cond_both (column_of total point == column_of total stretch.last)
    (stretches_from total (with_point stretch point) points) (stretch ∷ stretches_from total (alone point) points)
    (λ stretches. All (IsAmong all) stretches)
    (λ e. among_from all total (with_point stretch point) points
    (record {
      highest = cond_both (nat_le (height_of point) (height_of stretch.highest)) stretch.highest point (Contains all)
          (λ e'. first) (λ e'. next);
      last = next;
    }) others)
    (λ e. All-cons (IsAmong all) stretch (stretches_from total (alone point) points) here
    (among_from all total (alone point) points (record { highest = next; last = next }) others))

-- what is drawn of each stretch is among the points
pub stretches_among : (total : ℕ) (points : List Point) → All (IsAmong points) (stretches_of total points)
stretches_among total [] = All-nil (IsAmong [])
stretches_among total (point ∷ points) =
    let whole = point ∷ points in
    let each : All (Contains whole) whole = All-contains_itself whole in
    let first = All-head (Contains whole) point points each in
    among_from whole total (alone point) points (record { highest = first; last = first })
    (All-tail (Contains whole) point points each)

-- some element is one: the first
any_here : {X : Type 0} (P : X → Type 0) (x : X) (xs : List X) → P x → Any P (x ∷ xs)
any_here P x xs here = (0, x, omega arith, refl, here)

-- or one behind it
any_there : {X : Type 0} (P : X → Type 0) (x : X) (xs : List X) → Any P xs → Any P (x ∷ xs)
any_there P x xs (k, y, low, at, there) = (suc k, y, omega arith, at, there)

-- the higher of two is as high as each, and stands in their column
higher_than_first : (first point : Point) → height_of first ≤ height_of (higher first point)
higher_than_first first point =
    cond_both (nat_le (height_of point) (height_of first)) first point (λ p. height_of first ≤ height_of p)
    (λ e. omega arith)
    (λ e. let above = leb-false (height_of point) (height_of first) e in omega arith)

higher_than_point : (first point : Point) → height_of point ≤ height_of (higher first point)
higher_than_point first point =
    cond_both (nat_le (height_of point) (height_of first)) first point (λ p. height_of point ≤ height_of p)
    (λ e. leb-true (height_of point) (height_of first) e)
    (λ e. omega arith)

higher_column : (total : ℕ) (first point : Point) → column_of total point ≡ column_of total first
    → column_of total (higher first point) ≡ column_of total first
higher_column total first point same =
    cond_both (nat_le (height_of point) (height_of first)) first point (λ p. column_of total p ≡ column_of total first)
    (λ e. refl) (λ e. same)

-- a stretch with a point more of its column stands for what it stood for
stands_still : (total : ℕ) (stretch : Stretch) (p point : Point) → column_of total point ≡ column_of total stretch.last
    → StandsFor total p stretch → StandsFor total p (with_point stretch point)
stands_still total stretch p point same stands =
    let first = higher_than_first stretch.highest point in
    let high = stands.high in
    let even : column_of total stretch.last ≡ column_of total stretch.highest = stands.leaves ∙ sym stands.column in
    record {
      column = higher_column total stretch.highest point (same ∙ even) ∙ stands.column;
      leaves = same ∙ stands.leaves;
      high = omega arith;
    }

-- and for the point
stands_for_more : (total : ℕ) (stretch : Stretch) (point : Point) → column_of total point ≡ column_of total stretch.last
    → column_of total stretch.highest ≡ column_of total stretch.last → StandsFor total point (with_point stretch point)
stands_for_more total stretch point same even = record {
  column = higher_column total stretch.highest point (same ∙ sym even) ∙ even ∙ sym same;
  leaves = refl;
  high = higher_than_point stretch.highest point;
}

-- a point alone stands for itself
stands_alone : (total : ℕ) (point : Point) → StandsFor total point (alone point)
stands_alone total point = record { column = refl; leaves = refl; high = omega arith }

-- what a stretch stands for is covered by the stretches from it on
covers_first : (total : ℕ) (stretch : Stretch) (p : Point) (points : List Point) → StandsFor total p stretch
    → IsCovered total (stretches_from total stretch points) p
covers_first total stretch p [] stands = any_here (StandsFor total p) stretch [] stands
covers_first total stretch p (point ∷ points) stands =
    cond_both (column_of total point == column_of total stretch.last)
    (stretches_from total (with_point stretch point) points) (stretch ∷ stretches_from total (alone point) points)
    (λ stretches. IsCovered total stretches p)
    (λ e. let same : column_of total point ≡ column_of total stretch.last =
    eqb-true (column_of total point) (column_of total stretch.last) e in
    covers_first total (with_point stretch point) p points (stands_still total stretch p point same stands))
    (λ e. any_here (StandsFor total p) stretch (stretches_from total (alone point) points) stands)

-- and each point behind it
covers_rest : (total : ℕ) (stretch : Stretch) (points : List Point)
    → column_of total stretch.highest ≡ column_of total stretch.last
    → All (IsCovered total (stretches_from total stretch points)) points
covers_rest total stretch [] even = All-nil (IsCovered total (stretch ∷ []))
covers_rest total stretch (point ∷ points) even =
    cond_both (column_of total point == column_of total stretch.last)
    (stretches_from total (with_point stretch point) points) (stretch ∷ stretches_from total (alone point) points)
    (λ stretches. All (IsCovered total stretches) (point ∷ points))
    (λ e. let same : column_of total point ≡ column_of total stretch.last =
    eqb-true (column_of total point) (column_of total stretch.last) e in
    let more = with_point stretch point in
    let stands = stands_for_more total stretch point same even in
    All-cons (IsCovered total (stretches_from total more points)) point points
    (covers_first total more point points stands)
    (covers_rest total more points (stands.column ∙ sym stands.leaves)))
    (λ e. let others = stretches_from total (alone point) points in
    All-cons (IsCovered total (stretch ∷ others)) point points
    (any_there (StandsFor total point) stretch others
    (covers_first total (alone point) point points (stands_alone total point)))
    (All-weaker (IsCovered total others) (IsCovered total (stretch ∷ others))
    (λ p covered. any_there (StandsFor total p) stretch others covered) points
    (covers_rest total (alone point) points refl)))

-- each point is covered
pub stretches_cover : (total : ℕ) (points : List Point) → All (IsCovered total (stretches_of total points)) points
stretches_cover total [] = All-nil (IsCovered total [])
stretches_cover total (point ∷ points) =
    All-cons (IsCovered total (stretches_from total (alone point) points)) point points
    (covers_first total (alone point) point points (stands_alone total point))
    (covers_rest total (alone point) points refl)
