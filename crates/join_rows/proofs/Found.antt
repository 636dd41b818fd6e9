-- A file, looked for by its name.
use Rattle.std.proofs.Common.{◌≡◌, ◌≤◌, ◌<◌, ◌+◌, ◌∙◌, ℕ, suc, Bool, true, false, List, [], ◌∷◌, ◌++◌, zero, length}
use Rattle.std.proofs.Common.{get_or, set, take, drop, Option, None, Some, refl, sym, ap, arith, add-one, if◌then◌else◌}
use Rattle.std.proofs.Common.{IfSome, option_map}
use Rattle.std.proofs.Math.Seq.{drop-cons}
use Rattle.std.proofs.lemmas.List.{drop_all}
use Rattle.std.proofs.lemmas.Option.{slice_get_read}
use Rattle.std.proofs.lemmas.Slice.Eq.{bytes_eq-Decides}
use Rattle.std.specs.List.{slice_get}
use Rattle.std.specs.Str.{bytes_eq}
use Rattle.join_rows.specs.InMemory.{file_under, named_spot, spot_in}
use Rattle.join_rows.specs.declared.named_file.NamedFile.{NamedFile}
use Rattle.join_rows.specs.declared.named_file.Place.{Place}

at-file : (files : List NamedFile) (i : ℕ) (f : NamedFile) → i < length files → f ≡ get_or files i f
    → drop i files ≡ f ∷ drop (suc i) files
at-file files i f h e = drop-cons files i f h ∙ ap (λ x. x ∷ drop (suc i) files) (sym e)

-- a file of another name is passed over
pub file-passed : (files : List NamedFile) (name : List ℕ) (i : ℕ) (f : NamedFile) → i < length files
    → f ≡ get_or files i f → bytes_eq f.name name ≡ false
    → file_under (drop (i + 1) files) name ≡ file_under (drop i files) name
file-passed files name i f h e other =
    let q : file_under (f ∷ drop (suc i) files) name ≡ file_under (drop (suc i) files) name = rw other refl in
    rw add-one (sym (ap (λ (x : List NamedFile). file_under x name) (at-file files i f h e) ∙ q))

-- among the files passed over, none has the name
pub front-more : (files : List NamedFile) (name : List ℕ) (i : ℕ) (f : NamedFile) → i < length files
    → f ≡ get_or files i f → bytes_eq f.name name ≡ false
    → file_under (take i files) name ≡ None → file_under (take (i + 1) files) name ≡ None
front-more files name i f h e other none = rw add-one (go files i h e none)
  where
    go : (files : List NamedFile) (i : ℕ) → i < length files → f ≡ get_or files i f
        → file_under (take i files) name ≡ None → file_under (take (suc i) files) name ≡ None
    go [] i h e none = refl
    go (x ∷ files) zero h e none = let q : bytes_eq x.name name ≡ false = rw e at other in rw q refl
    go (x ∷ files) (suc i) h e none = by (bytes_eq x.name name) refl none (go files i (omega (arith, h)) e)
      where
        by : (b : Bool) → bytes_eq x.name name ≡ b → (if bytes_eq x.name name then Some x.bytes
            else file_under (take i files) name) ≡ None
            → (file_under (take i files) name ≡ None → file_under (take (suc i) files) name ≡ None)
            → (if bytes_eq x.name name then Some x.bytes else file_under (take (suc i) files) name) ≡ None
        by true q n more = cc (rw q at n)
        by false q n more = rw q (more (rw q at n))

-- a file of the name is found
pub file-found : (files : List NamedFile) (name : List ℕ) (i : ℕ) (f : NamedFile) → i < length files
    → f ≡ get_or files i f → bytes_eq f.name name ≡ true
    → file_under (drop i files) name ≡ file_under files name → file_under (take i files) name ≡ None
    → (x : NamedFile) × (slice_get files i ≡ Some x) × (x.name ≡ name) × (file_under files name ≡ Some x.bytes)
    × (file_under (take i files) name ≡ None) × (i < length files)
file-found files name i f h e this kept none =
    let q : file_under (f ∷ drop (suc i) files) name ≡ Some f.bytes = rw this refl in (
      f,
      slice_get_read files (length files) i f refl h e,
      (bytes_eq-Decides f.name name).0 this,
      sym kept ∙ ap (λ (x : List NamedFile). file_under x name) (at-file files i f h e) ∙ q,
      none,
      h,
    )

-- none is left
pub file-none : (files : List NamedFile) (name : List ℕ) (i : ℕ) → length files ≤ i
    → file_under (drop i files) name ≡ file_under files name → file_under files name ≡ None
file-none files name i h kept = sym kept ∙ ap (λ (x : List NamedFile). file_under x name) (drop_all i files h)

-- no file has the name, so the first has not
none-head : (x : NamedFile) (files : List NamedFile) (name : List ℕ) → file_under (x ∷ files) name ≡ None
    → (bytes_eq x.name name ≡ false) × (file_under files name ≡ None)
none-head x files name h = by (bytes_eq x.name name) refl h
  where
    by : (b : Bool) → bytes_eq x.name name ≡ b → (if bytes_eq x.name name then Some x.bytes else file_under files name)
        ≡ None
        → (bytes_eq x.name name ≡ false) × (file_under files name ≡ None)
    by true q k = cc (rw q at k)
    by false q k = (q, rw q at k)

-- two names that differ are looked up in either order
either-first : (x name n bytes others : List ℕ) (r s : Option (List ℕ)) → bytes_eq x name ≡ false
    → r ≡ (if bytes_eq name n then Some bytes else s)
    → (if bytes_eq x n then Some others else r) ≡ (if bytes_eq name n then Some bytes
    else (if bytes_eq x n then Some others else s))
either-first x name n bytes others r s apart e = by (bytes_eq x n) (bytes_eq name n) refl refl e
  where
    by : (a b : Bool) → bytes_eq x n ≡ a → bytes_eq name n ≡ b → r ≡ (if bytes_eq name n then Some bytes else s)
        → (if bytes_eq x n then Some others else r) ≡ (if bytes_eq name n then Some bytes
        else (if bytes_eq x n then Some others else s))
    by true true qa qb e =
        let same : x ≡ name = (bytes_eq-Decides x n).0 qa ∙ sym ((bytes_eq-Decides name n).0 qb) in
        let yes : bytes_eq x name ≡ true = (bytes_eq-Decides x name).1 same in
        let no : false ≡ true = sym apart ∙ yes in cc no
    by true false qa qb e = rw (qa, qb) refl
    by false true qa qb e = rw (qa, qb) (rw qb at e)
    by false false qa qb e = rw (qa, qb) (rw qb at e)

-- other bytes under the name of a file that is the first of its name
pub file-set : (files : List NamedFile) (name bytes : List ℕ) (i : ℕ) (f new : NamedFile) → slice_get files i ≡ Some f
    → f.name ≡ name → file_under (take i files) name ≡ None
    → new.name ≡ name → new.bytes ≡ bytes → (n : List ℕ) → file_under (set files i new) n
    ≡ (if bytes_eq name n then Some bytes else file_under files n)
file-set [] name bytes i f new h e none en eb n = cc h
file-set (x ∷ files) name bytes zero f new h e none en eb n =
    let same : x ≡ f = cc h in
    rw (en, eb, same, e) (by (bytes_eq name n) refl)
  where
    by : (b : Bool) → bytes_eq name n ≡ b → (if bytes_eq name n then Some bytes else file_under files n)
        ≡ (if bytes_eq name n then Some bytes else (if bytes_eq name n then Some f.bytes else file_under files n))
    by true q = rw q refl
    by false q = rw q refl
file-set (x ∷ files) name bytes (suc i) f new h e none en eb n =
    let head = none-head x (take i files) name none in
    either-first x.name name n bytes x.bytes (file_under (set files i new) n) (file_under files n) head.0
    (file-set files name bytes i f new h e head.1 en eb n)

-- a file behind the others
pub file-push : (files : List NamedFile) (name bytes : List ℕ) (new : NamedFile) → file_under files name ≡ None
    → new.name ≡ name → new.bytes ≡ bytes
    → (n : List ℕ) → file_under (files ++ (new ∷ [])) n ≡ (if bytes_eq name n then Some bytes else file_under files n)
file-push [] name bytes new none en eb n = rw (en, eb) refl
file-push (x ∷ files) name bytes new none en eb n =
    let head = none-head x files name none in
    either-first x.name name n bytes x.bytes (file_under (files ++ (new ∷ [])) n) (file_under files n) head.0
    (file-push files name bytes new head.1 en eb n)

-- another file in the place of one of the same name leaves the picked name
pub named_spot-set : (files : List NamedFile) (i : ℕ) (f new : NamedFile) (p : Option Place)
    → slice_get files i ≡ Some f → new.name ≡ f.name
    → named_spot (set files i new) p ≡ named_spot files p
named_spot-set files i f new None h e = refl
named_spot-set files i f new (Some p) h e = go files i p.file h
  where
    go : (files : List NamedFile) (i j : ℕ) → slice_get files i ≡ Some f
        → option_map (spot_in p.at) (slice_get (set files i new) j) ≡ option_map (spot_in p.at) (slice_get files j)
    go [] i j h = cc h
    go (x ∷ files) zero zero h = let same : x ≡ f = cc h in rw (e, same) refl
    go (x ∷ files) zero (suc j) h = refl
    go (x ∷ files) (suc i) zero h = refl
    go (x ∷ files) (suc i) (suc j) h = go files i j h

-- and so does another file behind the others
pub named_spot-push : (files : List NamedFile) (new : NamedFile) (p : Option Place)
    → IfSome p (λ place. place.file < length files)
    → named_spot (files ++ (new ∷ [])) p ≡ named_spot files p
named_spot-push files new None h = refl
named_spot-push files new (Some p) h = ap (λ (f : Option NamedFile). option_map (spot_in p.at) f) (go files p.file h)
  where
    go : (files : List NamedFile) (j : ℕ) → j < length files → slice_get (files ++ (new ∷ [])) j ≡ slice_get files j
    go [] j h = absurd (omega (arith, h))
    go (x ∷ files) zero h = refl
    go (x ∷ files) (suc j) h = go files j (omega (arith, h))
