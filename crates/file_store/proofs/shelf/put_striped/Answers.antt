use Rattle.std.proofs.Common.{◌≡◌, ◌≤◌, ℕ, [], List, length, Option, Some, refl}
use Rattle.file_store.proofs.FileLemmas.{first_at, written_here, written_elsewhere, where_told}
use Rattle.std.specs.Option.{unwrap_or}
use Rattle.file_store.specs.MemFiles.{files_in}
use Rattle.file_store.specs.Shelves.{file_at}
use Rattle.file_store.proofs.shelf.put_striped.Goals as goal

fits : (need : ℕ) (t : Option (List ℕ)) (bytes : List ℕ) → t ≡ Some bytes → need ≤ length (unwrap_or t []) → need ≤ length bytes
fits need t bytes is enough = rw is at enough

pub put_pages-requires-clause-file : goal.put_pages-requires-clause-file
put_pages-requires-clause-file c =
    fits _ (file_at (files_in c.args.files.now) c.args.path.now) _ (first_at c.args.path.now c.args.files.now c.in-Some.at c.in-Some.ensures.some c.index-files-at.result) c.requires.file

pub returns-in-Some-clause-here : goal.returns-in-Some-clause-here
returns-in-Some-clause-here c =
    let i = c.in-Some.ensures.some in
    where_told _ _ _ _ _ (first_at c.args.path.now c.args.files.now c.in-Some.at i c.index-files-at.result) (written_here c.args.path.now c.args.files.now c.in-Some.at i c.index-files-at.result _ refl) (c.put_pages.ensures c.args.path.now)

pub returns-in-Some-clause-elsewhere : goal.returns-in-Some-clause-elsewhere
returns-in-Some-clause-elsewhere c = written_elsewhere c.args.path.now c.args.files.now c.in-Some.at c.in-Some.ensures.some c.index-files-at.result _ refl
