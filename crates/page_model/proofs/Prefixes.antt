-- Parts of a legal history.
use Rattle.std.proofs.Common.{None, Option, Some, [], length, refl, slice_get, subst, true, ◌++◌, ◌<◌, ◌∷◌, ◌≡◌}
use Rattle.std.proofs.lemmas.Option.{slice_get_within}
use Rattle.histories.specs.Histories.{History}
use Rattle.page_base.specs.declared.keys.Key.{Key}
use Rattle.page_base.specs.declared.keys.RegionShape.{RegionShape}
use Rattle.page_model.specs.declared.entry.Entry.{Entry}
use Rattle.page_model.specs.declared.entry.Entry.TheVariants.{Load}
use Rattle.page_model.specs.Laws.{LoadsAreFlat, LoadsWereFlat, PrefixIsLegal}
use Rattle.page_model.specs.Legal.{IsLegal}
use Rattle.page_model.specs.Setups.{Setup, has_page, is_page_of, regions}

pub legal_below : (s : Setup) (later g : History Entry) → IsLegal s (later ++ g) → IsLegal s g
legal_below s [] g l = l
legal_below s (e ∷ later) g l = legal_below s later g l.0

pub prefix_legal : PrefixIsLegal
prefix_legal s g h c l = let P : History Entry → Type 0 = λ w. IsLegal s w in legal_below s c.0 g (subst P c.1 l)

pub loads_flat : LoadsAreFlat
loads_flat s later g o place k bytes l = (legal_below s later ((o, Load k place bytes) ∷ g) l).2.1

pub loads_were_flat : LoadsWereFlat
loads_were_flat g h o place k bytes c goes st = (prefix_legal c.setup ((o, Load k place bytes) ∷ g) h goes st.legal).2.1

-- a page of the stripe is of one of its regions
pub page_region : (s : Setup) (k : Key) → has_page s k ≡ true → k.region < regions s
page_region s k e = go (slice_get s.shapes k.region) refl e
  where
    go : (o : Option RegionShape) → slice_get s.shapes k.region ≡ o → is_page_of s o k ≡ true → k.region < length s.shapes
    go None is f = absurd cc
    go (Some shape) is f = slice_get_within s.shapes k.region shape is
