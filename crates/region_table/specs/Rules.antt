-- Which region may stand behind which others.
use Rattle.std.specs.Prelude.{ℕ, ◌+◌, ◌/◌, ◌%◌, Bool, true, false, not, ◌&&◌, ◌||◌, ◌==◌, nat_lt, nat_le, if◌then◌else◌, List, [], ◌∷◌, ◌++◌, codes, nat_eq, Option, Some, None, is_none, unwrap_or}
use Rattle.std.specs.List.{list_any, starts_with}
use Rattle.std.specs.Str.{bytes_eq}
use Rattle.page_base.specs.declared.limits.TheConstants.{MOST_PAGES}
use Rattle.region_table.specs.declared.region.TheConstants.{MOST_FILES}
use Rattle.region_table.specs.declared.spec.RegionFault.{RegionFault}
use Rattle.region_table.specs.declared.spec.RegionFault.TheVariants.{SameName, SameStore, BadLength, TooManyPages, OutOfMemory}
use Rattle.page_base.specs.Backings.{Backing, in_memory, in_file, in_files}
use Rattle.region_table.specs.Regions.{NamedRegion, TableSeen, page_count}

abbrev pub path_of : Backing → Option (List ℕ)
path_of in_memory = None
path_of (in_file path) = Some path
path_of (in_files path file) = Some path

-- the path leads into the store's folder: it begins with the folder's path and a `/`
abbrev pub leads_into : Backing → List ℕ → Bool
leads_into (in_files folder file) path = starts_with nat_eq path (folder ++ codes "/")
leads_into backing path = false

abbrev pub shares_path : Backing → Backing → Option (List ℕ) → Option (List ℕ) → Bool
shares_path a b (Some p) (Some q) = bytes_eq p q || (leads_into a q || leads_into b p)
shares_path a b p q = false

-- the two stores have one path, or one lies in the folder of the other
unfoldable pub shares_store : Backing → Backing → Bool
shares_store a b = shares_path a b (path_of a) (path_of b)

-- whole pages, at least one
abbrev pub is_whole : (page_size size : ℕ) → Bool
is_whole page_size size = nat_lt 0 size && (size % page_size == 0)

-- a store in files has whole files of whole pages, at most `MOST_FILES` of them
abbrev pub has_whole_files : (page_size size : ℕ) → Backing → Bool
has_whole_files page_size size (in_files path file) = is_whole page_size file && (size % file == 0 && nat_le (size / file) MOST_FILES)
has_whole_files page_size size backing = true

unfoldable pub has_good_length : ℕ → NamedRegion → Bool
has_good_length page_size r = is_whole page_size r.size && has_whole_files page_size r.size r.backing

-- the first rule that a region breaks behind those that are there, if it breaks one
abbrev pub region_fault : TableSeen → NamedRegion → Option RegionFault
region_fault t r =
    if list_any (λ (s : NamedRegion). bytes_eq s.name r.name) t.regions then Some SameName else
    (if list_any (λ (s : NamedRegion). shares_store s.backing r.backing) t.regions then Some SameStore else
    (if not (has_good_length t.page_size r) then Some BadLength else
    (if nat_lt MOST_PAGES (page_count t + r.size / t.page_size) then Some (TooManyPages (page_count t + r.size / t.page_size)) else None)))

-- why a region wasn't added: the first rule that it breaks, and want of memory where it breaks none
abbrev pub refusal_to_add : TableSeen → NamedRegion → RegionFault
refusal_to_add t r = unwrap_or (region_fault t r) OutOfMemory

-- none of these regions breaks a rule behind those before it
abbrev pub keeps_rules : (page_size : ℕ) (before regions : List NamedRegion) → Bool
keeps_rules page_size before [] = true
keeps_rules page_size before (r ∷ rs) = is_none (region_fault (record { page_size = page_size; regions = before }) r) && keeps_rules page_size (before ++ r ∷ []) rs
