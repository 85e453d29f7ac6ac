use Rattle.std.proofs.Common.{◌≡◌, List, [], ◌∷◌, length, get_or, map, refl, sym, ap, ◌∙◌, arith}
use Rattle.std.proofs.lemmas.List.{length-map}
use Rattle.page_base.specs.Lanes.{Origin, LaneSeen}
use Rattle.page_base.specs.declared.layout.Layout.{Layout}
use Rattle.workload_text.specs.Grammar.{Region}
use Rattle.workload_text.specs.Accepted.{regions_of}
use Rattle.workload_text.specs.View.{lines_of}
use Rattle.script_run.specs.Contents.{origins_of}
use Rattle.script_run.specs.Fits.{FitLanes, share_of, shares_of, row_shares, page_counts}
use Rattle.worked_cases.proofs.serial.failing_run.Goals as goal

-- shares are told by the origins
row_shared : (row : List LaneSeen) → map share_of (map (λ (l : LaneSeen). l.origin) row) ≡ map (λ (l : LaneSeen). share_of l.origin) row
row_shared [] = refl
row_shared (l ∷ row) = ap (λ (os : List Origin). share_of l.origin ∷ os) (row_shared row)

shared : (rows : List (List LaneSeen)) → map (map share_of) (origins_of rows) ≡ shares_of rows
shared [] = refl
shared (row ∷ rows) = ap (λ (os : List Origin). os ∷ map (map share_of) (origins_of rows)) (row_shared row) ∙ ap (λ (os : List (List Origin)). map (λ (l : LaneSeen). share_of l.origin) row ∷ os) (shared rows)

shares_are : (rows wrapped : List (List LaneSeen)) → origins_of wrapped ≡ origins_of rows → shares_of wrapped ≡ shares_of rows
shares_are rows wrapped e = sym (shared wrapped) ∙ ap (map (map share_of)) e ∙ shared rows

-- lanes fit by their origins alone
fit_same : (layout : Layout) (gs : List Region) (rows wrapped : List (List LaneSeen)) → FitLanes layout gs rows → origins_of wrapped ≡ origins_of rows → FitLanes layout gs wrapped
fit_same layout gs rows wrapped fit e =
    let len : length wrapped ≡ length rows = sym (length-map wrapped (λ (row : List LaneSeen). map (λ (l : LaneSeen). l.origin) row)) ∙ ap length e ∙ length-map rows (λ (row : List LaneSeen). map (λ (l : LaneSeen). l.origin) row) in
    record {
      stripes = len ∙ fit.stripes;
      whole = fit.whole;
      lanes = λ s below. ap (λ (os : List (List Origin)). get_or os s []) (shares_are rows wrapped e) ∙ fit.lanes s (omega (arith, below, len)) ∙ ap (λ n. row_shares layout.page_size n s (page_counts layout.page_size gs)) (sym len);
    }

pub serial-ran-requires-clause-lanes : goal.serial-ran-requires-clause-lanes
serial-ran-requires-clause-lanes g c = fit_same c.args.layout (regions_of (lines_of c.in_ok-accepted.accepted.workload)) _ _ c.in_ok-memory.ensures.fit c.in_ok-lanes.ensures
