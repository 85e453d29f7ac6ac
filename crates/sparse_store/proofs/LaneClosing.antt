-- The parts of one lane, when they are closed.
use Rattle.std.proofs.Common.{◌≡◌, inl, inr, ℕ, ◌<◌, Bool, true, List, [], ◌∷◌, sym, ap, ◌∙◌, arith}
use Rattle.std.specs.Prelude.{◌||◌, sum_by}
use Rattle.std.proofs.lemmas.Bool.{cases_lt, cases_order, lt-ltb, le-ltb}
use Rattle.std.proofs.lemmas.List.Sums.{sum_by-cons}
use Rattle.page_base.specs.declared.layout.Layout.{Layout}
use Rattle.file_store.specs.Parts.{PartName, PartSeen}
use Rattle.sparse_store.specs.Closings.{any_fault}
use Rattle.sparse_store.specs.Files.{IsShape, file_count}
use Rattle.sparse_store.specs.InsideLaneFiles.{AreLaneFiles, file_number}
use Rattle.sparse_store.specs.InsideStores.{AreApart}
use Rattle.sparse_store.specs.SparseLanes.{count_of_all}
use Rattle.sparse_store.specs.declared.meta.Meta.{Meta}
use Rattle.sparse_store.proofs.FilePaths.{one_number}
use Rattle.sparse_store.proofs.LaneFiles.{rows_apart}
use Rattle.sparse_store.proofs.PartLists.{inside_of}

-- no two of a lane's parts are of one file
pub lane_apart : (dir : List ℕ) (m : Meta) (layout : Layout) (region stripe : ℕ) (parts : List PartSeen) → IsShape m → AreLaneFiles dir m layout region stripe parts → AreApart parts
lane_apart dir m layout region stripe parts shape are j k p q at_j at_k e =
    let n = layout.stripes in
    let number : ℕ → ℕ = file_number n region stripe in
    let below_j : number j < file_count m = are.below j (inside_of parts j p at_j) in
    let below_k : number k < file_count m = are.below k (inside_of parts k q at_k) in
    let same : number j ≡ number k = one_number dir (number j) (number k) (omega (arith, below_j, shape.few_files)) (omega (arith, below_k, shape.few_files))
    (sym (ap (λ (name : PartName). name.path) (are.names j p at_j)) ∙ e ∙ ap (λ (name : PartName). name.path) (are.names k q at_k)) in
    elim (cases_order j k) [
      | inl it ↦ it
      | inr (inl lt) ↦ absurd (omega (arith, same, rows_apart j k n lt, are.stripe_below))
      | inr (inr gt) ↦ absurd (omega (arith, same, rows_apart k j n gt, are.stripe_below))
    ]

-- a count above 0 is that of some part
pub some_fault : (parts : List PartSeen) → 0 < count_of_all parts → any_fault parts ≡ true
some_fault parts above = go parts (omega (arith, above))
  where
    go : (parts : List PartSeen) → 0 < sum_by (λ (p : PartSeen). p.count) parts → any_fault parts ≡ true
    go [] above = absurd (omega (arith, above))
    go (p ∷ ps) above = elim (cases_lt 0 p.count) [
      | inl more ↦ ap (λ (b : Bool). b || any_fault ps) (lt-ltb 0 p.count more)
      | inr none ↦ ap (λ (b : Bool). b || any_fault ps) (le-ltb 0 p.count none) ∙ go ps (omega (arith, above, none, sum_by-cons (λ (q : PartSeen). q.count) p ps))
    ]
