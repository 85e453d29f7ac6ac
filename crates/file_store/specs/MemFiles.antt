-- The files that a folder in memory is made of.
use Rattle.std.specs.Prelude.{List, [], map, Option, Some}
use Rattle.std.specs.Option.{option_map}
use Rattle.file_store.specs.Shelves.{File, FolderSeen}
use Rattle.file_store.specs.declared.files.MemFile.{MemFile}

abbrev pub file_of : MemFile → File
file_of f = record { path = f.path.items; bytes = f.bytes.items }

abbrev pub files_in : List MemFile → List File
files_in files = map file_of files

-- a folder that was just made of these files: no part is out, and no call has failed
abbrev pub made_of : List File → FolderSeen
made_of files = record { told = Some (record { files = files; out = [] }); count = 0 }

-- the files that a folder tells
abbrev pub told_files : FolderSeen → Option (List File)
told_files folder = option_map (λ s. s.files) folder.told
