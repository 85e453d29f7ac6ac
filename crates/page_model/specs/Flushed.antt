-- Flushed: what a flush promises of the stores that its caller had seen.
use Rattle.std.specs.Prelude.{Bool, true, not, ◌&&◌, ◌||◌, [], ◌∷◌, length, ◌≡◌}
use Rattle.histories.specs.Histories.{History}
use Rattle.page_base.specs.declared.keys.Key.{Key}
use Rattle.page_base.specs.Pages.{same}
use Rattle.page_model.specs.declared.entry.Entry.{Entry}
use Rattle.page_model.specs.declared.entry.Entry.TheVariants.{Save}
use Rattle.page_model.specs.Bits.{written_since}

-- each Save in `seen` stands below the start of a write of its page that has finished in h
abbrev pub is_covered : (h seen : History Entry) → Bool
is_covered h [] = true
is_covered h ((o, Save k place bytes) ∷ before) = written_since h k (length before) && is_covered h before
is_covered h (e ∷ before) = is_covered h before

-- `seen` is a part that h goes on from
abbrev pub IsFlushed : (h seen : History Entry) → Type 0
IsFlushed h seen = is_covered h seen ≡ true

-- the same for the Saves of page k alone
abbrev pub is_page_covered : (h : History Entry) → Key → (seen : History Entry) → Bool
is_page_covered h k [] = true
is_page_covered h k ((o, Save j place bytes) ∷ before) = (not (same j k) || written_since h k (length before)) && is_page_covered h k before
is_page_covered h k (e ∷ before) = is_page_covered h k before
