-- By what a stripe's private functions say which pages may leave.
use Rattle.std.specs.Prelude.{Bool, not, ◌&&◌, ◌||◌, List, map}
use Rattle.page_base.specs.declared.keys.Key.{Key}
use Rattle.page_model.specs.declared.seen.Pick.{Pick}
use Rattle.page_model.specs.Core.{Core, Resident, is_dirty, is_home, is_writing}

-- the resident pages' keys, in order of filling
abbrev pub keys_of : Core → List Key
keys_of c = map (λ (r : Resident). r.key) c.pages

-- a resident page that may leave: it isn't being written, and is clean or has its lane home
abbrev pub leaves : Core → Key → Bool
leaves c k = not (is_writing c k) && (not (is_dirty c k) || is_home c k.region)

-- the page with its dirty bit
abbrev pub pick_at : Core → Key → Pick
pick_at c k = record { key = k; dirty = is_dirty c k }
