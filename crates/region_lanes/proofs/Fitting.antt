-- Lanes of a workload's regions fit its lines.
use Rattle.std.proofs.Common.{◌≡◌, ℕ, zero, suc, ◌+◌, ◌*◌, ◌/◌, ◌%◌, ◌<◌, ◌≤◌, ◌==◌, true, List, [], ◌∷◌, map, length, get_or, slice_get, slice_index_or, Some, refl, sym, ap, subst, ◌∙◌, arith}
use Rattle.std.specs.List.{enumerate_from}
use Rattle.std.proofs.lemmas.Bool.{and_from, eq-eqb}
use Rattle.std.proofs.lemmas.List.{get_or-map}
use Rattle.std.proofs.lemmas.Nat.{div-add-mod'}
use Rattle.page_base.specs.Lanes.{Origin, LaneSeen}
use Rattle.page_base.specs.declared.layout.Layout.{Layout}
use Rattle.store_trait.specs.Memory.{memory_origin}
use Rattle.region_table.specs.Regions.{NamedRegion}
use Rattle.workload_text.specs.Line.{Line, map_line, script_line, load_line, store_line, prefetch_line, flush_line, unmap_line}
use Rattle.workload_text.specs.Grammar.{Region}
use Rattle.workload_text.specs.Accepted.{regions_of}
use Rattle.script_run.specs.Contents.{no_lane}
use Rattle.script_run.specs.Fits.{FitLanes, has_whole_pages, page_counts, share_of, shares_of, row_shares}
use Rattle.script_run.specs.FitsSerial.{lane_at}
use Rattle.script_run.specs.Tables.{regions_seen}
use Rattle.region_lanes.specs.Regions.{region_origin, AreLanes}
use Rattle.region_lanes.specs.InsideOpened.{HasGoodSize}

-- a region as the lines after its own know it
abbrev plain : NamedRegion → Region
plain g = record { name = g.name; size = g.size; writable = g.writable }

plain_regions : (ls : List Line) → regions_of ls ≡ map plain (regions_seen ls)
plain_regions [] = refl
plain_regions (map_line name backing size writable ∷ ls) = ap (λ (gs : List Region). record { name = name; size = size; writable = writable } ∷ gs) (plain_regions ls)
plain_regions (script_line name ∷ ls) = plain_regions ls
plain_regions (load_line r off len ∷ ls) = plain_regions ls
plain_regions (store_line r off bytes ∷ ls) = plain_regions ls
plain_regions (prefetch_line r off len ∷ ls) = plain_regions ls
plain_regions (flush_line ∷ ls) = plain_regions ls
plain_regions (unmap_line r ∷ ls) = plain_regions ls

whole_all : (z : ℕ) (gs : List NamedRegion) → ((r : ℕ) (g : NamedRegion) → slice_get gs r ≡ Some g → HasGoodSize z g) → has_whole_pages z (map plain gs) ≡ true
whole_all z [] good = refl
whole_all z (g ∷ gs) good = and_from _ _ (eq-eqb (g.size % z) 0 (whole_mod g.size z (good 0 g refl).whole)) (whole_all z gs (λ r h e. good (suc r) h e))
  where
    whole_mod : (size z : ℕ) → size ≡ size / z * z → size % z ≡ 0
    whole_mod size z e = omega (arith, e, div-add-mod' size z)

row_fits : (z n s k : ℕ) (gs : List NamedRegion) (row : List LaneSeen) → length row ≡ length gs → ((r : ℕ) (g : NamedRegion) → slice_get gs r ≡ Some g → (slice_index_or row r no_lane).origin ≡ region_origin z n s (k + r) g) → map (λ (l : LaneSeen). share_of l.origin) row ≡ map (λ (e : ℕ × ℕ). memory_origin e.0 e.1 z n s) (enumerate_from k (page_counts z (map plain gs)))
row_fits z n s k [] [] long each = refl
row_fits z n s k [] (l ∷ row) long each = absurd (omega (arith, long))
row_fits z n s k (g ∷ gs) [] long each = absurd (omega (arith, long))
row_fits z n s k (g ∷ gs) (l ∷ row) long each =
    let first : share_of l.origin ≡ memory_origin k (g.size / z) z n s = ap share_of (each 0 g refl) ∙ ap (λ (m : ℕ). memory_origin m (g.size / z) z n s) (omega arith) in
    ap (λ (o : Origin). o ∷ map (λ (m : LaneSeen). share_of m.origin) row) first
    ∙ ap (λ (os : List Origin). memory_origin k (g.size / z) z n s ∷ os) (row_fits z n s (k + 1) gs row (omega (arith, long)) (λ r h e. each (suc r) h e ∙ ap (λ (m : ℕ). region_origin z n s m h) (omega arith)))

pub lanes_fit : (layout : Layout) (lines : List Line) (rows : List (List LaneSeen)) → AreLanes layout.page_size layout.stripes (regions_seen lines) rows → ((r : ℕ) (g : NamedRegion) → slice_get (regions_seen lines) r ≡ Some g → HasGoodSize layout.page_size g) → FitLanes layout (regions_of lines) rows
lanes_fit layout lines rows lanes good =
    let z : ℕ = layout.page_size in
    let n : ℕ = layout.stripes in
    let gs : List NamedRegion = regions_seen lines in
    record {
      stripes = lanes.count;
      whole = ap (has_whole_pages z) (plain_regions lines) ∙ whole_all z gs good;
      lanes = λ s below.
          let in_rows : s < n = omega (arith, below, lanes.count) in
          get_or-map (λ (row : List LaneSeen). map (λ (l : LaneSeen). share_of l.origin) row) rows s [] [] below
          ∙ row_fits z n s 0 gs (slice_index_or rows s []) (lanes.width s in_rows) (λ r g known. lanes.origin s r g in_rows known ∙ ap (λ (m : ℕ). region_origin z n s m g) (omega arith))
          ∙ ap (λ (m : ℕ). row_shares z m s (page_counts z (map plain gs))) (sym lanes.count)
          ∙ ap (λ (rs : List Region). row_shares z (length rows) s (page_counts z rs)) (sym (plain_regions lines));
    }
