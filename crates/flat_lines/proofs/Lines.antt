-- Lines of loads and stores by flat memory.
use Rattle.std.proofs.Common.{◌≡◌, inl, inr, ℕ, ◌<◌, true, List, [], ◌∷◌, length, refl, sym, ap, subst, ◌∙◌, arith}
use Rattle.std.specs.List.{list_all}
use Rattle.std.proofs.lemmas.Bool.{cases_eq}
use Rattle.std.proofs.lemmas.List.{length-take-le, length-set, get_or-set_same, get_or-set_other}
use Rattle.page_base.specs.ListSeen.{spliced}
use Rattle.page_base.specs.Laws.{SameIsEqual}
use Rattle.page_model.specs.declared.entry.Entry.{Entry}
use Rattle.page_model.specs.Owned.{LoadsFollow}
use Rattle.page_model.specs.Pieces.{bytes_in, loads, saves}
use Rattle.page_model.specs.Setups.{Setup}
use Rattle.region_table.specs.Covers.{PiecesCover}
use Rattle.workload_text.specs.Line.{Line, map_line, script_line, load_line, store_line, prefetch_line, flush_line, unmap_line}
use Rattle.flat_lines.specs.Worlds.{World, IsWorld, HoldsBytes, AllHold}
use Rattle.flat_lines.specs.FlatRegions.{bytes_at, stored, stored_part, stored_parts}
use Rattle.flat_lines.specs.Lines.{LineDid, more_made, AllDid, IsInside, AllInside}
use Rattle.flat_lines.specs.Flat.{IsFlat, AreFlat, LinesAreFlat}
use Rattle.flat_lines.proofs.Bytes.{Follows, follow_behind, spares, holds_same}
use Rattle.flat_lines.proofs.Ranges.{range_loaded, range_stored, holds_spared, loads_spare, others_spare, saves_spare, front_of}

part_length : (regions : List (List ℕ)) (l : Line) (part : List ℕ) → length (stored_part regions l part) ≡ length regions
part_length regions (store_line r off bytes) part = length-set regions r (spliced (bytes_at regions r) off part)
part_length regions l part = refl

module _ (same_is : SameIsEqual) (cover : PiecesCover) (w : World) (fine : IsWorld w) where
  all_spared : (es : List Entry) (behind : ℕ → List Entry) (regions : List (List ℕ)) → ((r : ℕ) → list_all (spares r) es ≡ true) → AllHold w behind regions → AllHold w (more_made w.spread es behind) regions
  all_spared es behind regions all h r below its = holds_spared w fine same_is r es behind (bytes_at regions r) (all r) (h r below its)

  one : (l : Line) (part : List ℕ) (es : List Entry) (behind : ℕ → List Entry) (regions : List (List ℕ)) → IsInside w (length regions) l → LineDid w.spread.page_size l part es → Follows w (more_made w.spread es behind) → AllHold w behind regions
      → IsFlat w regions l part × AllHold w (more_made w.spread es behind) (stored_part regions l part)
  one (load_line r off len) part es behind regions inside did follow h =
      let front = front_of cover w.spread.page_size r off len did.0 fine.some_byte did.1 in
      let is : es ≡ loads did.0 part = did.3 in (
        (λ its.
            let held = h r inside.0 its in
            range_loaded w fine same_is r off did.0 part behind (bytes_at regions r) front.joined (omega (arith, front.few, inside.1, held.whole)) did.2
            (subst (λ xs. Follows w (more_made w.spread xs behind)) is follow) held),
        all_spared es behind regions (λ q. ap (list_all (spares q)) is ∙ loads_spare q did.0 part) h,
      )
  one (store_line r off bytes) part es behind regions inside did follow h =
      let front = front_of cover w.spread.page_size r off (length bytes) did.0 fine.some_byte did.1 in
      let is : es ≡ saves did.0 part = did.3 in
      let long : length part ≡ bytes_in did.0 = ap length did.2 ∙ length-take-le (bytes_in did.0) bytes front.few in
      let new : List ℕ = spliced (bytes_at regions r) off part in (
        tt,
        λ q below its. elim (cases_eq q r) [
          | inl e ↦
              let held = h r inside.0 (ap w.claimed (sym e) ∙ its) in
              subst (λ n. HoldsBytes w (more_made w.spread es behind) n (bytes_at (stored regions (store_line r off part)) n)) (sym e)
              (subst (HoldsBytes w (more_made w.spread es behind) r) (sym (get_or-set_same regions r new [] inside.0))
              (subst (λ xs. HoldsBytes w (more_made w.spread xs behind) r new) (sym is)
              (range_stored w fine same_is r off did.0 part behind (bytes_at regions r) front.joined (omega (arith, front.few, inside.1, held.whole)) long held)))
          | inr other ↦
              let under : q < length regions = omega (arith, below, length-set regions r new) in
              subst (HoldsBytes w (more_made w.spread es behind) q) (sym (get_or-set_other regions r q new [] other))
              (holds_spared w fine same_is q es behind (bytes_at regions q) (ap (list_all (spares q)) is ∙ saves_spare w.spread.page_size q r off did.0 part other front.joined) (h q under its))
        ],
      )
  one (map_line name backing size writable) part es behind regions inside did follow h = (tt, all_spared es behind regions (λ q. others_spare q es did) h)
  one (script_line name) part es behind regions inside did follow h = (tt, all_spared es behind regions (λ q. others_spare q es did) h)
  one (prefetch_line r off len) part es behind regions inside did follow h = (tt, all_spared es behind regions (λ q. others_spare q es did) h)
  one flush_line part es behind regions inside did follow h = (tt, all_spared es behind regions (λ q. others_spare q es did) h)
  one (unmap_line r) part es behind regions inside did follow h = (tt, all_spared es behind regions (λ q. others_spare q es did) h)

  did_tail : (lines : List Line) (parts : List (List ℕ)) (behind all : ℕ → List Entry) (u : Setup) (s : ℕ) → AllDid w.spread lines parts behind all → LoadsFollow u (all s) → LoadsFollow u (behind s)
  did_tail [] [] behind all u s d f = subst (LoadsFollow u) (d s) f
  did_tail [] (p ∷ ps) behind all u s d f = absurd d
  did_tail (l ∷ ls) [] behind all u s d f = absurd d
  did_tail (l ∷ ls) (p ∷ ps) behind all u s d f = follow_behind w.spread u d.0 behind s (did_tail ls ps (more_made w.spread d.0 behind) all u s d.2 f)

  all_flat : (lines : List Line) (parts : List (List ℕ)) (behind all : ℕ → List Entry) (regions : List (List ℕ)) → AllInside w (length regions) lines → AllDid w.spread lines parts behind all → Follows w all → AllHold w behind regions
      → AreFlat w regions lines parts × AllHold w all (stored_parts regions lines parts)
  all_flat [] [] behind all regions inside d follow h = (tt, λ r below its. holds_same w fine same_is behind all r (bytes_at regions r) d (h r below its))
  all_flat [] (p ∷ ps) behind all regions inside d follow h = absurd d
  all_flat (l ∷ ls) [] behind all regions inside d follow h = absurd d
  all_flat (l ∷ ls) (p ∷ ps) behind all regions inside d follow h =
      let mid = more_made w.spread d.0 behind in
      let first = one l p d.0 behind regions inside.0 d.1 (λ s lt. did_tail ls ps mid all (w.setups s) s d.2 (follow s lt)) h in
      let rest = all_flat ls ps mid all (stored_part regions l p) (subst (λ n. AllInside w n ls) (sym (part_length regions l p)) inside.1) d.2 follow first.1 in
      ((first.0, rest.0), rest.1)

pub lines_are_flat : SameIsEqual → PiecesCover → LinesAreFlat
lines_are_flat same_is cover w lines parts behind all regions fine inside did follow h = all_flat same_is cover w fine lines parts behind all regions inside did follow h
