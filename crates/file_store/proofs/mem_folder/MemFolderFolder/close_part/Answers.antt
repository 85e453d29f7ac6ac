use Rattle.std.proofs.Common.{◌≤◌, [], not, length}
use Rattle.std.specs.Option.{unwrap_or}
use Rattle.file_store.specs.Shelves.{file_at, without}
use Rattle.file_store.specs.MemFiles.{files_in}
use Rattle.file_store.specs.InsideMemFolders.{out_in}
use Rattle.std.proofs.lemmas.List.Elements.{All-filter}
use Rattle.file_store.specs.Parts.{PartName}
use Rattle.file_store.specs.Shelves.{same_part}
use Rattle.file_store.specs.InsideMemFolders.{needs}
use Rattle.file_store.specs.InsideMemSeen.{mem_seen}
use Rattle.file_store.proofs.FileLemmas.{fit_kept, part_grows, room_left}
use Rattle.file_store.proofs.mem_folder.MemFolderFolder.close_part.Goals as goal

pub invariant_of-self-clause-fit : goal.invariant_of-self-clause-fit
invariant_of-self-clause-fit c =
    let s = c.args.self.now in
    let x = mem_seen c.args.part in
    rw (c.take_out.ensures.names, c.as_slice.ensures)
    (fit_kept (files_in s.files.items) (files_in c.put_back.new.files.items) (without x.name (out_in s.out.items))
    (All-filter (λ y. not (same_part y x.name)) (λ (y : PartName). needs y.extent ≤ length (unwrap_or (file_at (files_in s.files.items) y.path) [])) (out_in s.out.items) s.fit)
    (part_grows x.made x.name c.args.part.bytes.items x.count (files_in s.files.items) (files_in c.put_back.new.files.items) c.args.part.sized c.put_back.ensures.back))

pub invariant_of-self-clause-room : goal.invariant_of-self-clause-room
invariant_of-self-clause-room c =
    let s = c.args.self.now in
    room_left (length s.files.items) _ _ _ s.out.items c.take_out.new.outs.items (mem_seen c.args.part).name (rw c.as_slice.ensures at c.take_out.ensures.names) c.requires.out s.room c.put_back.ensures.room
