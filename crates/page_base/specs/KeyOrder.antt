-- The order of keys: by region, and in one region by page.
use Rattle.std.specs.Prelude.{Bool, true, ◌&&◌, ◌||◌, ◌==◌, nat_lt, if◌then◌else◌, List, [], ◌∷◌, Option, Some, None}
use Rattle.page_base.specs.declared.keys.Key.{Key}

-- the first key comes before the second
abbrev pub is_below : Key → Key → Bool
is_below a b = nat_lt a.region b.region || ((a.region == b.region) && nat_lt a.page b.page)

-- the key comes after the one that is given; all keys do where none is
abbrev pub is_past : Option Key → Key → Bool
is_past None key = true
is_past (Some after) key = is_below after key

-- the key, or the other where there is one that comes before it
abbrev pub lesser : Key → Option Key → Key
lesser key None = key
lesser key (Some other) = if is_below other key then other else key

-- the first of these keys in their order, none where there are none
abbrev pub least : List Key → Option Key
least [] = None
least (key ∷ keys) = Some (lesser key (least keys))
