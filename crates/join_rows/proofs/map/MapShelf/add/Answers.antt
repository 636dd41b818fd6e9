use Rattle.std.proofs.Common.{◌∙◌, ap, List, refl}
use Rattle.std.proofs.lemmas.Option.{get_or_from_slice_get}
use Rattle.join_rows.specs.InMemory.{file_under}
use Rattle.join_rows.specs.declared.named_file.NamedFile.{NamedFile}
use Rattle.join_rows.proofs.Found.{file-push, file-set, named_spot-push, named_spot-set}
use Rattle.join_rows.proofs.map.MapShelf.add.Goals as goal

pub returns-in-Some-clause-ok : goal.returns-in-Some-clause-ok
returns-in-Some-clause-ok c n =
    let found = rw (c.as_slice.ensures.value, c.as_bytes.ensures.value) at c.in-Some.ensures in
    let same = c.index_mut.ensures.value ∙ get_or_from_slice_get c.self.inside.files.items c.in-Some.place found.0
    c.index_mut.result.now found.1 in
    let new : NamedFile = record { name = c.index_mut.result.now.name; bytes = c.in_ok-bytes.bytes } in
    rw (← c.self.view_is, c.replace.ensures) (file-set c.self.inside.files.items c.args.name.now c.args.bytes.now
    c.in-Some.place found.0 new found.1 found.2 found.4 (ap (λ (x : NamedFile). x.name) same ∙ found.2)
    c.in_ok-bytes.ensures n)

pub returns-in-Some-clause-keeps : goal.returns-in-Some-clause-keeps
returns-in-Some-clause-keeps c =
    let found = rw (c.as_slice.ensures.value, c.as_bytes.ensures.value) at c.in-Some.ensures in
    let same = c.index_mut.ensures.value ∙ get_or_from_slice_get c.self.inside.files.items c.in-Some.place found.0
    c.index_mut.result.now found.1 in
    let new : NamedFile = record { name = c.index_mut.result.now.name; bytes = c.in_ok-bytes.bytes } in
    rw (
      ← c.self.view_is,
      c.replace.ensures,
      named_spot-set c.self.inside.files.items c.in-Some.place found.0 new c.self.inside.picked found.1
          (ap (λ (x : NamedFile). x.name) same),
    ) refl

pub returns-in_ok-push-in-None-clause-ok : goal.returns-in_ok-push-in-None-clause-ok
returns-in_ok-push-in-None-clause-ok c n =
    let none = rw (c.as_slice.ensures.value, c.as_bytes.ensures.value) at c.in-None.ensures in
    let new : NamedFile = record { name = c.in_ok-name-in-None.name; bytes = c.in_ok-bytes.bytes } in
    rw (← c.self.view_is) (ap (λ (x : List NamedFile). file_under x n) c.in_ok-push-in-None.ensures.items
    ∙ file-push c.self.inside.files.items c.args.name.now c.args.bytes.now new none
    (c.in_ok-name-in-None.ensures ∙ c.as_bytes-in-None.ensures.value) c.in_ok-bytes.ensures n)

pub returns-in_ok-push-in-None-clause-keeps : goal.returns-in_ok-push-in-None-clause-keeps
returns-in_ok-push-in-None-clause-keeps c =
    let new : NamedFile = record { name = c.in_ok-name-in-None.name; bytes = c.in_ok-bytes.bytes } in
    rw (
      ← c.self.view_is,
      c.in_ok-push-in-None.ensures.items,
      named_spot-push c.self.inside.files.items new c.self.inside.picked c.self.invariant,
    ) refl
