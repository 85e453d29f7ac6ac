-- Bytes of regions by their pages.
use Rattle.std.proofs.Common.{◌≡◌, ℕ, ◌+◌, ◌*◌, ◌/◌, ◌%◌, ◌<◌, ◌≤◌, true, List, [], length, Option, Some, unwrap_or, take, drop, get_or, slice_range, sym, ap, subst, ◌∙◌, arith, length-drop}
use Rattle.std.proofs.lemmas.Nat.{div-mul-add, mod-mul-add, div-add-mod', mod_below, div_below}
use Rattle.std.proofs.lemmas.List.{places, ext_get_or, length-take-le, get_or-take, get_or-drop}
use Rattle.histories.specs.Histories.{by}
use Rattle.page_base.specs.declared.keys.Key.{Key}
use Rattle.page_model.specs.declared.entry.Entry.{Entry}
use Rattle.page_model.specs.Memory.{byte, flat}
use Rattle.page_model.specs.Setups.{Setup, base_of}
use Rattle.store_trait.specs.Laws.{PagesLieApart}
use Rattle.store_trait.specs.Memory.{page_bytes}
use Rattle.workload_text.specs.Line.{load_line}
use Rattle.flat_lines.specs.Spreads.{stripe_in, range_key, piece_key}
use Rattle.flat_lines.specs.Worlds.{World, IsWorld, was_told, flat_page, HoldsBytes}
use Rattle.flat_lines.specs.FlatRegions.{bytes_at}
use Rattle.flat_lines.specs.Flat.{IsFlat, WereTold, BytesByPages}
use Rattle.flat_lines.proofs.Bytes.{slice_at, flat_length, flat_at}

-- byte m of a page
abbrev byte_of : World → (es : ℕ → List Entry) → Key → ℕ → ℕ
byte_of w es k m = byte (w.setups (stripe_in w.spread k)) (by 0 (es (stripe_in w.spread k))) k m

slice_length : (xs : List ℕ) (from n : ℕ) → from + n ≤ length xs → length (slice_range xs from (from + n)) ≡ n
slice_length xs from n fits = grind (arith, places)

module _ (apart : PagesLieApart) (w : World) (fine : IsWorld w) where
  abbrev z : ℕ
  z = w.spread.page_size

  flat_page_at : (es : ℕ → List Entry) (k : Key) (j : ℕ) → j < w.spread.page_size → get_or (flat_page w es k) j 0 ≡ byte_of w es k j
  flat_page_at es k j lt = flat_at (w.setups (stripe_in w.spread k)) (by 0 (es (stripe_in w.spread k))) k j (subst (λ m. j < m) (sym (fine.sized (stripe_in w.spread k))) lt)

  page_held : (es : ℕ → List Entry) (r page : ℕ) (bytes : List ℕ) → HoldsBytes w es r bytes → page < w.pages r → was_told w (range_key r page) ≡ true
      → flat_page w es (range_key r page) ≡ page_bytes w.spread.page_size bytes page
  page_held es r page bytes h below told =
      let k : Key = range_key r page in
      let fits : page * z + z ≤ length bytes = omega (arith, apart page (w.pages r) z below, h.whole) in
      let sized : length (flat_page w es k) ≡ z = flat_length (w.setups (stripe_in w.spread k)) (by 0 (es (stripe_in w.spread k))) k ∙ fine.sized (stripe_in w.spread k) in
      ext_get_or 0 _ _ (sized ∙ sym (slice_length bytes (page * z) z fits)) (λ j lt.
      let small : j < z = omega (arith, lt, sized) in
      let i : ℕ = page * z + j in
      let key : piece_key z r i ≡ k = ap (λ n. range_key r n) (div-mul-add page z j small) in
      flat_page_at es k j small
      ∙ ap (λ m. byte_of w es k m) (sym (mod-mul-add page z j small))
      ∙ ap (λ q. byte_of w es q (i % z)) (sym key)
      ∙ h.each i (omega (arith, fits, small)) (ap (λ q. was_told w q) key ∙ told)
      ∙ sym (slice_at bytes (page * z) z j fits small))

  region_held : (es : ℕ → List Entry) (r : ℕ) (bytes : List ℕ) → length bytes ≡ w.pages r * w.spread.page_size
      → ((page : ℕ) → page < w.pages r → was_told w (range_key r page) ≡ true → flat_page w es (range_key r page) ≡ page_bytes w.spread.page_size bytes page)
      → HoldsBytes w es r bytes
  region_held es r bytes whole pages = record {
    whole = whole;
    each = λ i lt told.
        let page : ℕ = i / z in
        let some : 0 < z = omega (arith, fine.some_byte) in
        let below : page < w.pages r = div_below i z (w.pages r) some (omega (arith, lt, whole)) in
        let small : i % z < z = mod_below i z some in
        let is : page * z + i % z ≡ i = div-add-mod' i z in
        sym (flat_page_at es (piece_key z r i) (i % z) small)
        ∙ ap (λ xs. get_or xs (i % z) 0) (pages page below told)
        ∙ slice_at bytes (page * z) z (i % z) (omega (arith, apart page (w.pages r) z below, whole)) small
        ∙ ap (λ n. get_or bytes n 0) is;
  }

  whole_load : (regions : List (List ℕ)) (r off len : ℕ) (part : List ℕ) → IsFlat w regions (load_line r off len) part → w.claimed r ≡ true → WereTold w r
      → off + length part ≤ w.pages r * w.spread.page_size → off + length part ≤ length (bytes_at regions r)
      → part ≡ take (length part) (drop off (bytes_at regions r))
  whole_load regions r off len part flat its told near inside =
      let b : List ℕ = bytes_at regions r in
      ext_get_or 0 _ _ (sym (length-take-le (length part) (drop off b) (omega (arith, length-drop off b, inside)))) (λ i lt.
      flat its i lt (told ((off + i) / z) (div_below (off + i) z (w.pages r) (omega (arith, fine.some_byte)) (omega (arith, near, lt))))
      ∙ sym (get_or-take (length part) (drop off b) i 0 lt ∙ get_or-drop off b i 0))

flat_start : (s : Setup) (k : Key) (b : List ℕ) → base_of s k ≡ Some b → length b ≡ s.page_size → flat s [] k ≡ b
flat_start s k b is long =
    ext_get_or 0 _ _ (flat_length s [] k ∙ sym long) (λ i lt.
    let small : i < s.page_size = subst (λ n. i < n) (flat_length s [] k) lt in
    flat_at s [] k i small ∙ ap (λ (o : Option (List ℕ)). get_or (unwrap_or o []) i 0) is)

start_held : PagesLieApart → (w : World) (r : ℕ) (bytes : List ℕ) → IsWorld w → length bytes ≡ w.pages r * w.spread.page_size
    → ((page : ℕ) → page < w.pages r → was_told w (range_key r page) ≡ true → base_of (w.setups (stripe_in w.spread (range_key r page))) (range_key r page) ≡ Some (page_bytes w.spread.page_size bytes page))
    → HoldsBytes w (λ s. []) r bytes
start_held apart w r bytes fine whole base =
    region_held apart w fine (λ s. []) r bytes whole (λ page below told.
    let n : ℕ = stripe_in w.spread (range_key r page) in
    let fits : page * w.spread.page_size + w.spread.page_size ≤ length bytes = omega (arith, apart page (w.pages r) w.spread.page_size below, whole) in
    flat_start (w.setups n) (range_key r page) (page_bytes w.spread.page_size bytes page) (base page below told)
    (slice_length bytes (page * w.spread.page_size) w.spread.page_size fits ∙ sym (fine.sized n)))

pub bytes_by_pages : PagesLieApart → BytesByPages
bytes_by_pages apart = record {
  page = λ w es r page bytes fine h below told. page_held apart w fine es r page bytes h below told;
  region = λ w es r bytes fine whole pages. region_held apart w fine es r bytes whole pages;
  start = λ w r bytes fine whole base. start_held apart w r bytes fine whole base;
  load = λ w regions r off len part fine flat its told near inside. whole_load apart w fine regions r off len part flat its told near inside;
}
