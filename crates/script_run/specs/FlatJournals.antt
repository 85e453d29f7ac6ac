-- What the histories of a serial run say of what its lines load, and of what they leave.
use Rattle.std.specs.Prelude.{◌≡◌, ℕ, ◌<◌, List, [], ◌∷◌, ◌++◌, filter, length, take}
use Rattle.histories.specs.Histories.{by}
use Rattle.page_model.specs.declared.entry.Entry.{Entry}
use Rattle.page_model.specs.Entries.{is_access}
use Rattle.page_model.specs.Legal.{IsLegal}
use Rattle.workload_text.specs.Line.{Line, load_line, store_line}
use Rattle.flat_lines.specs.FlatRegions.{stored_parts}
use Rattle.flat_lines.specs.Worlds.{World, IsWorld, AllHold}
use Rattle.flat_lines.specs.Lines.{AllInside}
use Rattle.flat_lines.specs.Flat.{AreFlat, PagesHold}
use Rattle.script_run.specs.Replies.{Reply, loaded, ok, unmapped, fault}
use Rattle.script_run.specs.LineEntries.{AllMake}

-- the part of its bytes that a line did, by its reply: all of them, those before the piece that ended it, or none
abbrev pub IsPartOf : Line → Reply → (part : List ℕ) → Type 0
IsPartOf (load_line r off len) (loaded bytes) part = (part ≡ bytes) × (length bytes ≡ len)
IsPartOf (load_line r off len) (unmapped done) part = length part ≡ done
IsPartOf (load_line r off len) (fault k count done) part = length part ≡ done
IsPartOf (store_line r off bytes) ok part = part ≡ bytes
IsPartOf (store_line r off bytes) (unmapped done) part = part ≡ take done bytes
IsPartOf (store_line r off bytes) (fault k count done) part = part ≡ take done bytes
IsPartOf l reply part = part ≡ []

abbrev pub ArePartsOf : List Line → List Reply → (parts : List (List ℕ)) → Type 0
ArePartsOf [] [] [] = Unit {0}
ArePartsOf (l ∷ ls) (a ∷ more) (part ∷ parts) = IsPartOf l a part × ArePartsOf ls more parts
ArePartsOf ls replies parts = ⊥

-- By parts that their replies tell, the lines loaded what flat memory has, and the stripes hold what they stored.
pub record AreLinesFlat (w : World) (lines : List Line) (replies : List Reply) (made : ℕ → List Entry) (regions : List (List ℕ)) : Type 0 where
  pub parts : List (List ℕ)
  pub parts_are : ArePartsOf lines replies parts
  pub flat : AreFlat w regions lines parts
  pub hold : PagesHold w (λ s. by 0 (made s)) (λ s k. 0) (λ s. 0 ∷ []) (stored_parts regions lines parts)

-- So it is wherever the lines made what their replies say, with no access behind them, and the histories are legal.
abbrev pub JournalsAreFlat : Type 0
JournalsAreFlat =
    (w : World) (lines : List Line) (replies : List Reply) (by_lines last : ℕ → List Entry) (regions : List (List ℕ))
    → IsWorld w → AllInside w (length regions) lines
    → AllMake w.spread lines replies (λ s. []) by_lines → ((s : ℕ) → filter is_access (last s) ≡ [])
    → ((s : ℕ) → s < w.spread.stripes → IsLegal (w.setups s) (by 0 (last s ++ by_lines s)))
    → AllHold w (λ s. []) regions
    → AreLinesFlat w lines replies (λ s. last s ++ by_lines s) regions
