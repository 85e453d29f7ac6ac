-- The lines of a workload as the program holds it. Every statement about workloads goes through
-- `lines_of`, so that nesting and reserved room stay out of it.
use Rattle.std.specs.Prelude.{List, ◌∷◌, ◌++◌, map}
use Rattle.std.specs.List.{flat_map}
use Rattle.page_base.specs.Backings.{Backing, in_memory, in_file, in_files}
use Rattle.workload_text.specs.Line.{Line, map_line, script_line, load_line, store_line, prefetch_line, flush_line, unmap_line}
use Rattle.workload_text.specs.Grammar.{Region}
use Rattle.workload_text.specs.declared.workload.StoreKind.{StoreKind}
use Rattle.workload_text.specs.declared.workload.StoreKind.TheVariants.{Memory, File, Sparse}
use Rattle.workload_text.specs.declared.workload.MapLine.{MapLine}
use Rattle.workload_text.specs.declared.workload.Command.{Command}
use Rattle.workload_text.specs.declared.workload.Command.TheVariants.{Load, Store, Prefetch, Flush, Unmap}
use Rattle.workload_text.specs.declared.workload.Script.{Script}
use Rattle.workload_text.specs.declared.workload.Workload.{Workload}

abbrev pub backing_of : StoreKind → Backing
backing_of Memory = in_memory
backing_of (File path) = in_file path.items
backing_of (Sparse path file) = in_files path.items file

abbrev pub region_line : MapLine → Line
region_line m = map_line m.name.items (backing_of m.kind) m.length m.writable

-- a region, as the lines after its own know it
abbrev pub region : MapLine → Region
region m = record { name = m.name.items; size = m.length; writable = m.writable }

abbrev pub command_line : Command → Line
command_line (Load region off len) = load_line region off len
command_line (Store region off bytes) = store_line region off bytes.items
command_line (Prefetch region off len) = prefetch_line region off len
command_line Flush = flush_line
command_line (Unmap region) = unmap_line region

abbrev pub script_lines : Script → List Line
script_lines s = script_line s.name.items ∷ map command_line s.commands.items

-- the `map` lines, then each script with its commands
abbrev pub lines_of : Workload → List Line
lines_of w = map region_line w.maps.items ++ flat_map script_lines w.scripts.items
