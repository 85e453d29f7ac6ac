-- What contracts see of a folder in memory.
use Rattle.std.specs.Prelude.{Some}
use Rattle.file_store.specs.Shelves.{FolderSeen}
use Rattle.file_store.specs.MemFiles.{files_in}
use Rattle.file_store.specs.InsideMemFolders.{out_in}
use Rattle.file_store.specs.declared.mem_folder.MemFolder.{MemFolder}

abbrev pub mem_folder_seen : MemFolder → FolderSeen
mem_folder_seen s = record { told = Some (record { files = files_in s.files.items; out = out_in s.out.items }); count = s.faults }
