-- What the lines of a report give, one after the other.
use Rattle.std.proofs.Common.{◌≡◌, ◌≤◌, ◌<◌, ◌+◌, ◌^◌, ◌++◌, ℕ, List, [], ◌∷◌, Option, None, Some, All, refl}
use Rattle.std.proofs.Common.{sym}
use Rattle.std.proofs.Common.{◌∙◌, ap, arith, cond, fold, map, length, append_assoc, append-nil, length-append}
use Rattle.std.proofs.Common.{lt-ltb}
use Rattle.std.specs.List.{enumerate_from}
use Rattle.std.proofs.lemmas.List.Elements.{All-nil, All-cons, All-head, All-tail}
use Rattle.std.proofs.lemmas.List.Sums.{fold_push, fold-append}
use Rattle.report_lines.specs.declared.report_numbers.Step.{Step}
use Rattle.report_lines.specs.declared.report_numbers.Growth.{Growth}
use Rattle.report_lines.specs.declared.report_numbers.Joiner.{Joiner}
use Rattle.report_lines.specs.declared.report_numbers.Report.{Report}
use Rattle.report_picture.specs.Reading.{Entry, Input, Grid, Grow, Final, Held, Blank}
use Rattle.report_lines.specs.Grids.{IsWhole}
use Rattle.report_picture.specs.Reading.{line_of, IsReadable, with_step, taken}
use Rattle.report_picture.specs.Reading.{nothing_yet}

-- the report with these numbers
abbrev pub report_with : (x y : ℕ) (steps : List Step) (growth : Option Growth) (later : List Step)
    (n m copies best : ℕ) (joiners : List Joiner) → Report
report_with x y steps growth later n m copies best joiners = record {
  x = x;
  y = y;
  steps = steps;
  growth = growth;
  later = later;
  n = n;
  m = m;
  copies = copies;
  best = best;
  joiners = joiners;
}

-- the entries of the steps behind so many
abbrev pub grids_from : ℕ → List Step → List Entry
grids_from before steps = map (λ step. Grid (step.0 + 1) step.1) (enumerate_from before steps)

-- that of a growth, if there was one
abbrev pub growths : Option Growth → List Entry
growths None = []
growths (Some growth) = Grow growth ∷ []

-- those of the joiners from an id on
abbrev pub helds_from : ℕ → List Joiner → List Entry
helds_from id joiners = map (λ joiner. Held joiner.0 joiner.1) (enumerate_from id joiners)

-- those of a report behind its first
abbrev pub entries_behind : (steps : List Step) (growth : Option Growth) (later : List Step)
    (n m copies best : ℕ) (joiners : List Joiner) → List Entry
entries_behind steps growth later n m copies best joiners =
    grids_from 0 steps ++ (growths growth ++ (grids_from (length steps) later
    ++ (Final n m copies best ∷ helds_from 0 joiners)))

-- all of them
abbrev pub entries_of : Report → List Entry
entries_of report =
    Input report.x report.y
    ∷ entries_behind report.steps report.growth report.later report.n report.m report.copies report.best
    report.joiners

step_more : (steps : List Step) (step : Step) → length steps < 2 ^ 16 → with_step steps step ≡ steps ++ step ∷ []
step_more steps step few = ap (λ b. cond b (steps ++ step ∷ []) steps) (lt-ltb (length steps) (2 ^ 16) few)

grids_taken : (put : List Step → Report)
    → ((front : List Step) (epoch : ℕ) (step : Step) → taken (put front) (Grid epoch step) ≡ put (with_step front step))
    → (before : ℕ) (front steps : List Step) → length front + length steps ≤ 2 ^ 16
    → fold taken (put front) (grids_from before steps) ≡ put (front ++ steps)
grids_taken put takes before front [] few = ap put (sym (append-nil front))
grids_taken put takes before front (step ∷ steps) few =
    let one = length-append front (step ∷ []) in
    ap (λ report. fold taken report (grids_from (before + 1) steps))
    (takes front (before + 1) step ∙ ap put (step_more front step (omega arith)))
    ∙ grids_taken put takes (before + 1) (front ++ step ∷ []) steps (omega (arith, one))
    ∙ ap put (append_assoc front (step ∷ []) steps)

helds_taken : (put : List Joiner → Report)
    → ((front : List Joiner) (id : ℕ) (joiner : Joiner)
    → taken (put front) (Held id joiner) ≡ put (front ++ joiner ∷ []))
    → (id : ℕ) (front joiners : List Joiner)
    → fold taken (put front) (helds_from id joiners) ≡ put (front ++ joiners)
helds_taken put takes id front [] = ap put (sym (append-nil front))
helds_taken put takes id front (joiner ∷ joiners) =
    ap (λ report. fold taken report (helds_from (id + 1) joiners)) (takes front id joiner)
    ∙ helds_taken put takes (id + 1) (front ++ joiner ∷ []) joiners
    ∙ ap put (append_assoc front (joiner ∷ []) joiners)

module _ (x y : ℕ) (steps : List Step) where
  -- the lines of a report give what it has
  pub all_taken : (growth : Option Growth) (later : List Step) (n m copies best : ℕ) (joiners : List Joiner)
      → length steps ≤ 2 ^ 16 → length later ≤ 2 ^ 16 → (growth ≡ None → later ≡ [])
      → fold taken nothing_yet (Input x y ∷ entries_behind steps growth later n m copies best joiners)
      ≡ report_with x y steps growth later n m copies best joiners
  all_taken None later n m copies best joiners few few_later since =
      let nothing : later ≡ [] = since refl in
      let rest : List Step → List Entry =
      λ behind. grids_from (length steps) behind ++ (Final n m copies best ∷ helds_from 0 joiners) in
      fold-append taken (report_with x y [] None [] 1 1 0 0 []) (grids_from 0 steps) (rest later)
      ∙ ap (λ report. fold taken report (rest later))
      (grids_taken (λ front. report_with x y front None [] 1 1 0 0 []) (λ front epoch step. refl) 0 [] steps
      (omega (arith, few)))
      ∙ ap (λ behind. fold taken (report_with x y steps None [] 1 1 0 0 []) (rest behind)) nothing
      ∙ helds_taken (λ front. report_with x y steps None [] n m copies best front) (λ front id joiner. refl) 0 []
      joiners
      ∙ ap (λ behind. report_with x y steps None behind n m copies best joiners) (sym nothing)
  all_taken (Some growth) later n m copies best joiners few few_later since =
      let last : List Entry = Final n m copies best ∷ helds_from 0 joiners in
      let rest : List Entry = Grow growth ∷ (grids_from (length steps) later ++ last) in
      fold-append taken (report_with x y [] None [] 1 1 0 0 []) (grids_from 0 steps) rest
      ∙ ap (λ report. fold taken report rest)
      (grids_taken (λ front. report_with x y front None [] 1 1 0 0 []) (λ front epoch step. refl) 0 [] steps
      (omega (arith, few)))
      ∙ fold-append taken (report_with x y steps (Some growth) [] 1 1 0 0 []) (grids_from (length steps) later) last
      ∙ ap (λ report. fold taken report last)
      (grids_taken (λ front. report_with x y steps (Some growth) front 1 1 0 0 []) (λ front epoch step. refl)
      (length steps) [] later (omega (arith, few_later)))
      ∙ helds_taken (λ front. report_with x y steps (Some growth) later n m copies best front)
      (λ front id joiner. refl) 0 [] joiners

-- those of a whole report give it
pub report_taken : (report : Report) → IsWhole report → fold taken nothing_yet (entries_of report) ≡ report
report_taken report whole =
    all_taken report.x report.y report.steps report.growth report.later report.n report.m report.copies
    report.best report.joiners whole.grids.few whole.grids.few_later whole.grids.since

-- no line gives nothing more
pub none_taken : (first : Report) (entries : List Entry) → [] ≡ map line_of entries → first ≡ fold taken first entries
none_taken first [] none = refl
none_taken first (entry ∷ entries) none = absurd (cc)

-- a line that says nothing adds nothing
pub blank_taken : (first : Report) (entries : List Entry)
    → fold taken first (entries ++ Blank ∷ []) ≡ fold taken first entries
blank_taken first entries = fold_push taken first entries Blank

-- the last of these lines, and those before it, with the entries that they write
record LastParted (lines : List (List ℕ)) (line : List ℕ) (entries : List Entry) : Type 0 where
  front : List Entry
  entry : Entry
  parted : entries ≡ front ++ entry ∷ []
  fit : All IsReadable front
  fits : IsReadable entry
  before : lines ≡ map line_of front
  is : line ≡ line_of entry

parted_more : (first : List ℕ) (lines : List (List ℕ)) (line : List ℕ) (entry : Entry) (entries : List Entry)
    → first ≡ line_of entry → IsReadable entry → LastParted lines line entries
    → LastParted (first ∷ lines) line (entry ∷ entries)
parted_more first lines line entry entries here fits rest = record {
  front = entry ∷ rest.front;
  entry = rest.entry;
  parted = ap (λ es. entry ∷ es) rest.parted;
  fit = All-cons IsReadable entry rest.front fits rest.fit;
  fits = rest.fits;
  before = ap (λ l. l ∷ lines) here ∙ ap (λ ls. line_of entry ∷ ls) rest.before;
  is = rest.is;
}

last_parted : (lines : List (List ℕ)) (line : List ℕ) (entries : List Entry) → All IsReadable entries
    → lines ++ line ∷ [] ≡ map line_of entries → LastParted lines line entries
last_parted [] line [] fit same = absurd (cc)
last_parted [] line (entry ∷ []) fit same = record {
  front = [];
  entry = entry;
  parted = refl;
  fit = All-nil IsReadable;
  fits = All-head IsReadable entry [] fit;
  before = refl;
  is = (cc);
}
last_parted [] line (entry ∷ next ∷ entries) fit same = absurd (cc)
last_parted (first ∷ lines) line [] fit same = absurd (cc)
last_parted (first ∷ lines) line (entry ∷ entries) fit same =
    let here : first ≡ line_of entry = cc in
    let behind : lines ++ line ∷ [] ≡ map line_of entries = cc in
    parted_more first lines line entry entries here (All-head IsReadable entry entries fit)
    (last_parted lines line entries (All-tail IsReadable entry entries fit) behind)

-- what the lines so far gave, and one line more
pub one_line_more : (first before after : Report) (lines : List (List ℕ)) (line : List ℕ)
    → ((entries : List Entry) → All IsReadable entries → lines ≡ map line_of entries
    → before ≡ fold taken first entries)
    → ((entry : Entry) → IsReadable entry → line ≡ line_of entry → after ≡ taken before entry)
    → (entries : List Entry) → All IsReadable entries → lines ++ line ∷ [] ≡ map line_of entries
    → after ≡ fold taken first entries
one_line_more first before after lines line so_far next entries fit same =
    let last = last_parted lines line entries fit same in
    next last.entry last.fits last.is
    ∙ ap (λ report. taken report last.entry) (so_far last.front last.fit last.before)
    ∙ sym (fold_push taken first last.front last.entry)
    ∙ ap (λ es. fold taken first es) (sym last.parted)
