-- What an input is refused for, from what was read of it.
use Rattle.std.proofs.Common.{◌≡◌, ℕ, ◌<◌, true, false, List, [], length, map, Option, Some, None, Result, Ok, Err, refl, sym, ap, ◌∙◌}
use Rattle.std.proofs.lemmas.Bool.{lt-leb}
use Rattle.workload_text.specs.Line.{Line, TextLine}
use Rattle.workload_text.specs.Grammar.{IsText, Spells, lines_in}
use Rattle.workload_text.specs.Refusals.{RefusedAt, refusal, read_text}
use Rattle.workload_text.specs.Answers.{AreMapNumbers, IfRefused, map_numbers}
use Rattle.workload_text.specs.Built.{is_built}
use Rattle.workload_text.specs.View.{lines_of}
use Rattle.workload_text.specs.declared.workload.MapLine.{MapLine}
use Rattle.workload_text.specs.declared.workload.Workload.{Workload}
use Rattle.workload_text.specs.declared.refusal.TextKind.TheVariants as kind
use Rattle.workload_text.specs.declared.refusal.TextFault.{TextFault}
use Rattle.workload_text.specs.declared.refusal.TextFault.TheVariants as text
use Rattle.region_table.specs.Regions.{NamedRegion, TableSeen}
use Rattle.script_run.specs.FitsLaws.{RegionsAreMaps}
use Rattle.script_run.specs.Tables.{regions_seen, table_of}
use Rattle.script_run.specs.RegionRules.{named_region, region_refusal, IfRegionRefused}
use Rattle.umapsh.specs.Inputs.{refusal_of, refused_behind, refused_text}
use Rattle.umapsh.specs.InsideTop.{AcceptStop, text_status, region_status}
use Rattle.script_run.specs.declared.regions.RegionRefusal.{RegionRefusal}
use Rattle.script_run.specs.declared.regions.TableFault.{TableFault}
use Rattle.script_run.specs.declared.regions.TableFault.TheVariants as table
use Rattle.umapsh.specs.declared.refusal.Refusal.TheVariants as why

-- the laws of the crates below that these rest on
pub record Laws : Type 0 where
  pub read : (bytes : List ℕ) (texts : List TextLine) → IsText bytes texts → read_text bytes ≡ Ok texts
  pub one_way : (bytes : List ℕ) (some other : List TextLine) → IsText bytes some → IsText bytes other → some ≡ other
  pub refused : (bytes : List ℕ) (r : RefusedAt) → refusal bytes ≡ Some r → read_text bytes ≡ Err r
  pub maps : RegionsAreMaps

-- ---- the text is refused

pub text_refused : Laws → (z : ℕ) (bytes : List ℕ) (r : RefusedAt) → refusal bytes ≡ Some r → refusal_of z bytes ≡ Some (record { line = r.line; kind = why.Text r.kind })
unfolding refusal_of
text_refused laws z bytes r h = ap (refused_text z) (laws.refused bytes r h)

pub text_stops : Laws → (W : Type 0) (z : ℕ) (fault : TextFault) (bytes : List ℕ) → IfRefused {W = W} (Err fault) (λ n k. refusal bytes ≡ Some (record { line = n; kind = k })) → AcceptStop z (text_status fault) bytes
text_stops laws W z (text.Refused n k) bytes h = text_refused laws z bytes (record { line = n; kind = k }) h
text_stops laws W z text.OutOfMemory bytes h = tt

-- a long input is refused for its length, however long it is
pub long_refused : (z : ℕ) (bytes : List ℕ) → 16777216 < length bytes → refusal_of z bytes ≡ Some (record { line = 0; kind = why.Text kind.Long })
unfolding refusal_of read_text
long_refused z bytes long = rw (lt-leb (length bytes) 16777216 long) refl

-- what the regions of a workload are refused for, by the call that was made
pub same_call : (z page_size : ℕ) (ms slice : List MapLine) (ns lines : List ℕ) → z ≡ page_size → slice ≡ ms → lines ≡ ns → region_refusal page_size [] (map named_region ms) ns ≡ region_refusal z [] (map named_region slice) lines
same_call z page_size ms slice ns lines e f g =
    sym (ap (λ (k : ℕ). region_refusal k [] (map named_region slice) lines) e
    ∙ ap (λ (xs : List MapLine). region_refusal page_size [] (map named_region xs) lines) f
    ∙ ap (λ (xs : List ℕ). region_refusal page_size [] (map named_region ms) xs) g)

-- the table of all `map` lines is that of the workload's lines
pub table_is : RegionsAreMaps → (z page_size : ℕ) (slice : List MapLine) (w : Workload) (t : TableSeen) → t ≡ record { page_size = z; regions = map named_region slice } → z ≡ page_size → slice ≡ w.maps.items → t ≡ table_of page_size (lines_of w)
table_is maps z page_size slice w t made sized same =
    made
    ∙ ap (λ (n : ℕ). let y : TableSeen = record { page_size = n; regions = map named_region slice } in y) sized
    ∙ ap (λ (ms : List MapLine). let y : TableSeen = record { page_size = page_size; regions = map named_region ms } in y) same
    ∙ ap (λ (rs : List NamedRegion). let y : TableSeen = record { page_size = page_size; regions = rs } in y) (sym (maps.seen w))

-- ---- the text is accepted

module _ (laws : Laws) (z : ℕ) (bytes : List ℕ) (w : Workload) (numbers : List ℕ) (spelt : Spells bytes (lines_of w)) (numbered : AreMapNumbers bytes numbers) where
  same_texts : numbered.texts ≡ spelt.texts
  same_texts = laws.one_way bytes numbered.texts spelt.texts numbered.text spelt.text

  numbers_are : map_numbers 1 spelt.texts ≡ numbers
  numbers_are = ap (map_numbers 1) (sym same_texts) ∙ sym numbered.numbers_are

  regions_are : regions_seen (lines_in spelt.texts) ≡ map named_region w.maps.items
  regions_are = ap regions_seen spelt.lines_are ∙ laws.maps.seen w

  -- each region has its line
  pub as_many : length numbers ≡ length (map named_region w.maps.items)
  as_many = ap length (sym numbers_are) ∙ laws.maps.numbered 1 spelt.texts ∙ ap length regions_are

  pub refusal_is : refusal_of z bytes ≡ refused_behind (region_refusal z [] (map named_region w.maps.items) numbers) (is_built (lines_of w))
  unfolding refusal_of
  refusal_is =
      ap (refused_text z) (laws.read bytes spelt.texts spelt.text)
      ∙ ap (λ (rs : List NamedRegion). refused_behind (region_refusal z [] rs (map_numbers 1 spelt.texts)) (is_built (lines_in spelt.texts))) regions_are
      ∙ ap (λ (ns : List ℕ). refused_behind (region_refusal z [] (map named_region w.maps.items) ns) (is_built (lines_in spelt.texts))) numbers_are
      ∙ ap (λ (ls : List Line). refused_behind (region_refusal z [] (map named_region w.maps.items) numbers) (is_built ls)) spelt.lines_are

  -- a region breaks a rule
  region_refused : (r : RegionRefusal) → region_refusal z [] (map named_region w.maps.items) numbers ≡ Some r → refusal_of z bytes ≡ Some (record { line = r.line; kind = why.Region r.kind })
  region_refused r h = refusal_is ∙ ap (λ (o : Option RegionRefusal). refused_behind o (is_built (lines_of w))) h

  pub region_stops : (fault : TableFault) (o : Option RegionRefusal) → region_refusal z [] (map named_region w.maps.items) numbers ≡ o → IfRegionRefused fault (λ r. o ≡ Some r) → AcceptStop z (region_status fault) bytes
  region_stops (table.Refused r) o same h = region_refused r (same ∙ h)
  region_stops table.OutOfMemory o same h = tt

  -- none does, and the workload isn't built
  pub unbuilt_refused : region_refusal z [] (map named_region w.maps.items) numbers ≡ None → is_built (lines_of w) ≡ false → refusal_of z bytes ≡ Some (record { line = 0; kind = why.Unbuilt })
  unbuilt_refused h b = refusal_is ∙ ap (λ (o : Option RegionRefusal). refused_behind o (is_built (lines_of w))) h ∙ ap (λ (x : _). refused_behind None x) b

  -- or it is
  pub unrefused : region_refusal z [] (map named_region w.maps.items) numbers ≡ None → is_built (lines_of w) ≡ true → refusal_of z bytes ≡ None
  unrefused h b = refusal_is ∙ ap (λ (o : Option RegionRefusal). refused_behind o (is_built (lines_of w))) h ∙ ap (λ (x : _). refused_behind None x) b
