-- What the program can run so far.
use Rattle.std.specs.Prelude.{Bool, true, false, List}
use Rattle.std.specs.List.{list_all}
use Rattle.page_base.specs.Backings.{in_memory, in_file, in_files}
use Rattle.workload_text.specs.Line.{Line, map_line, script_line, load_line, store_line, flush_line, unmap_line}

-- a region in memory or in one file, a script, and every command but a prefetch
abbrev pub is_built_line : Line → Bool
is_built_line (map_line name in_memory size writable) = true
is_built_line (map_line name (in_file path) size writable) = true
is_built_line (script_line name) = true
is_built_line (load_line r off len) = true
is_built_line (store_line r off bytes) = true
is_built_line flush_line = true
is_built_line (unmap_line r) = true
is_built_line l = false

abbrev pub is_built : List Line → Bool
is_built lines = list_all is_built_line lines

-- no region lies in files
abbrev pub is_memory_line : Line → Bool
is_memory_line (map_line name (in_file path) size writable) = false
is_memory_line (map_line name (in_files path file) size writable) = false
is_memory_line l = true

abbrev pub is_in_memory : List Line → Bool
is_in_memory lines = list_all is_memory_line lines
