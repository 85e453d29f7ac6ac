use Rattle.std.proofs.Common.{List, Some, refl, sym, ap, ◌∙◌}
use Rattle.file_store.specs.declared.files.MemFile.{MemFile}
use Rattle.file_store.specs.Shelves.{file_at}
use Rattle.file_store.specs.MemFiles.{files_in}
use Rattle.file_store.proofs.FileLemmas.{push_here, push_other, at_its_path, not_at_other, new_front}
use Rattle.file_store.proofs.shelf.put_whole.Goals as goal

pub returns-in-None-clause-here : goal.returns-in-None-clause-here
returns-in-None-clause-here c =
    let old = c.args.files.now.items in
    let path = c.args.path.items in
    let g : MemFile = record { path = c.args.path; bytes = c.args.bytes } in
    let none = rw (c.as_slice.ensures.value, c.as_slice-2.ensures) at c.in-None.ensures.none in
    ap (λ (fs : List MemFile). file_at (files_in fs) path) c.push_reserved.ensures.items ∙ push_here old path g (at_its_path path g refl) none
    ∙ ap Some (sym (new_front c.args.bytes.items (file_at (files_in old) path) none))

pub returns-in-None-clause-elsewhere : goal.returns-in-None-clause-elsewhere
returns-in-None-clause-elsewhere c = λ q apart.
    let g : MemFile = record { path = c.args.path; bytes = c.args.bytes } in
    ap (λ (fs : List MemFile). file_at (files_in fs) q) c.push_reserved.ensures.items ∙ push_other c.args.files.now.items q g (not_at_other c.args.path.items q g refl apart)
