-- The rules on regions, tested on the `map` lines in order: each region behind those before it.
use Rattle.std.specs.Prelude.{ℕ, List, [], ◌∷◌, ◌++◌, map, Option, Some, None}
use Rattle.region_table.specs.Regions.{NamedRegion}
use Rattle.region_table.specs.Rules.{region_fault}
use Rattle.region_table.specs.declared.spec.RegionFault.{RegionFault}
use Rattle.region_table.specs.declared.spec.RegionFault.TheVariants as fault
use Rattle.workload_text.specs.View.{backing_of}
use Rattle.workload_text.specs.declared.workload.MapLine.{MapLine}
use Rattle.script_run.specs.declared.regions.RegionKind.{RegionKind}
use Rattle.script_run.specs.declared.regions.RegionKind.TheVariants as kind
use Rattle.script_run.specs.declared.regions.RegionRefusal.{RegionRefusal}
use Rattle.script_run.specs.declared.regions.TableFault.{TableFault}
use Rattle.script_run.specs.declared.regions.TableFault.TheVariants.{Refused, OutOfMemory}

-- a region of a workload, as the table of regions sees it
abbrev pub named_region : MapLine → NamedRegion
named_region m = record { name = m.name.items; backing = backing_of m.kind; size = m.length; writable = m.writable }

-- the rule that a fault of the table of regions is; want of memory is none
abbrev pub rule : Option RegionFault → Option RegionKind
rule None = None
rule (Some fault.SameName) = Some kind.SameName
rule (Some fault.SameStore) = Some kind.SameStore
rule (Some fault.BadLength) = Some kind.BadLength
rule (Some (fault.TooManyPages pages)) = Some kind.TooManyPages
rule (Some fault.OutOfMemory) = None

-- the region of line n, where it breaks a rule, else what comes behind it
abbrev pub or_rule : ℕ → Option RegionKind → Option RegionRefusal → Option RegionRefusal
or_rule n (Some k) behind = Some (record { line = n; kind = k })
or_rule n None behind = behind

-- the first of these regions that breaks a rule behind those before it; each stands on the line of its number
abbrev pub region_refusal : (page_size : ℕ) (before regions : List NamedRegion) (numbers : List ℕ) → Option RegionRefusal
region_refusal page_size before (r ∷ rs) (n ∷ ns) =
    or_rule n (rule (region_fault (record { page_size = page_size; regions = before }) r)) (region_refusal page_size (before ++ r ∷ []) rs ns)
region_refusal page_size before rs ns = None

-- the first of the regions of these `map` lines that does
abbrev pub maps_refusal : (page_size : ℕ) → List MapLine → (numbers : List ℕ) → Option RegionRefusal
maps_refusal page_size maps numbers = region_refusal page_size [] (map named_region maps) numbers

-- what holds of a refusal, where the fault is one; want of memory is none
abbrev pub IfRegionRefused : TableFault → (RegionRefusal → Type 0) → Type 0
IfRegionRefused (Refused r) P = P r
IfRegionRefused OutOfMemory P = Unit {0}
