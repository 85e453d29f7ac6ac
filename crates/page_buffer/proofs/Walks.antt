-- A walk along the order, from the oldest page on.
use Rattle.std.proofs.Common.{◌≡◌, ◌∙◌, ◌⊎◌, inl, inr, ℕ, ◌<◌, ◌≤◌, true, ◌==◌, List, length, Some, None, sym, ap, arith}
use Rattle.std.specs.Prelude.{slice_index_or}
use Rattle.std.specs.List.{slice_get}
use Rattle.std.specs.Option.{option_map}
use Rattle.std.proofs.lemmas.Bool.{eq-eqb, cases_lt}
use Rattle.std.proofs.lemmas.Option.{slice_get_within, slice_get_past, get_or_from_slice_get, slice_get-map, slice_get-get_or}
use Rattle.page_base.specs.declared.keys.Key.{Key}
use Rattle.page_buffer.specs.Frames.{FrameSeen, Free, is_resident}
use Rattle.page_buffer.specs.Insides.{key_in, residents_seen, IsOrdered}
use Rattle.page_buffer.proofs.Counts.{count_by-has}
use Rattle.page_buffer.proofs.Sound.{placed_in}
use Rattle.page_buffer.proofs.Residents.{resident_there}

-- the frame at a place of the order
pub record IsAt (frames : List FrameSeen) (order : List ℕ) (place frame : ℕ) : Type 0 where
  pub resident : is_resident (slice_index_or frames frame Free) ≡ true
  pub within : frame < length frames
  pub page : slice_get (residents_seen frames order) place ≡ Some (key_in frames frame)

pub at_place : (frames : List FrameSeen) (order : List ℕ) (place frame : ℕ) → IsOrdered frames order → slice_get order place ≡ Some frame → IsAt frames order place frame
at_place frames order place frame s here =
    let within : place < length order = slice_get_within order place frame here in
    let is : slice_index_or order place frame ≡ frame = get_or_from_slice_get order place frame frame here in
    let there : 1 ≤ placed_in frame order = count_by-has (λ other. other == frame) order place frame within (eq-eqb _ _ is) in
    let r = resident_there frames order frame s there in
    record { resident = r.0; within = r.1; page = slice_get-map (key_in frames) order place ∙ ap (option_map (key_in frames)) here }

-- past the end there is no page
pub past_end : (frames : List FrameSeen) (order : List ℕ) (place : ℕ) → slice_get order place ≡ None → slice_get (residents_seen frames order) place ≡ None
past_end frames order place here = slice_get-map (key_in frames) order place ∙ ap (option_map (key_in frames)) here

-- and so, behind a place with none
pub none_behind : (order : List ℕ) (place later : ℕ) → place ≤ later → slice_get order place ≡ None → slice_get order later ≡ None
none_behind order place later behind here = by_place (cases_lt place (length order))
  where
    by_place : (place < length order) ⊎ (length order ≤ place) → slice_get order later ≡ None
    by_place (inl within) = let some = slice_get-get_or order place 0 within in absurd (cc (some, here))
    by_place (inr past) = slice_get_past order later (omega arith)

-- the page that was read there
pub key_at : (frames : List FrameSeen) (order : List ℕ) (place frame : ℕ) (key : Key) → IsOrdered frames order → slice_get order place ≡ Some frame → key ≡ key_in frames frame → slice_get (residents_seen frames order) place ≡ Some key
key_at frames order place frame key s here page = (at_place frames order place frame s here).page ∙ ap (λ (k : Key). Some k) (sym page)
