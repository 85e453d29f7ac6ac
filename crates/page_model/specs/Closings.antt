-- Closing and unmapping a region.
use Rattle.std.specs.Prelude.{ℕ, Bool, false, not, ◌&&◌, ◌||◌, ◌==◌, List, [], ◌∷◌}
use Rattle.std.specs.List.{list_any}
use Rattle.histories.specs.Histories.{History}
use Rattle.page_base.specs.declared.keys.Key.{Key}
use Rattle.page_base.specs.declared.keys.Raise.{Raise}
use Rattle.page_model.specs.declared.entry.Entry.{Entry}
use Rattle.page_model.specs.declared.entry.Entry.TheVariants.{Closing, Unmapped}
use Rattle.page_model.specs.InFlight.{is_home}
use Rattle.page_model.specs.Residents.{residents}
use Rattle.page_model.specs.Faults.{pending}

abbrev pub is_closing : History Entry → ℕ → Bool
is_closing [] r = false
is_closing ((o, Closing q) ∷ h) r = q == r || is_closing h r
is_closing (e ∷ h) r = is_closing h r

abbrev pub is_unmapped : History Entry → ℕ → Bool
is_unmapped [] r = false
is_unmapped ((o, Unmapped q) ∷ h) r = q == r || is_unmapped h r
is_unmapped (e ∷ h) r = is_unmapped h r

-- no page of the region is among these residents, or has one of these faults
abbrev pub is_clear : List Key → List Raise → ℕ → Bool
is_clear ks ps r = not (list_any (λ k. k.region == r) ks) && not (list_any (λ p. p.key.region == r) ps)

-- no page of the region is resident, pending, being read or being written
abbrev pub is_quiet : History Entry → ℕ → Bool
is_quiet h r = is_clear (residents h) (pending h) r && is_home h r
