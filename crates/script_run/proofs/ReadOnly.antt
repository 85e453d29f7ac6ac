-- A region that may only be read is left alone.
use Rattle.std.proofs.Common.{◌≡◌, ℕ, true, false, List, [], ◌∷◌, take, refl, sym, ap, ◌∙◌}
use Rattle.std.proofs.lemmas.List.{get_or-set_other}
use Rattle.page_base.specs.ListSeen.{spliced}
use Rattle.workload_text.specs.Line.{Line, store_line, unmap_line}
use Rattle.workload_text.specs.Grammar.{Region, writable_at}
use Rattle.workload_text.specs.Accepted.{AllFit}
use Rattle.flat_lines.specs.FlatRegions.{bytes_at, stored}
use Rattle.flat_lines.specs.Spreads.{Spread}
use Rattle.script_run.specs.Replies.{Reply, ok, unmapped, fault}
use Rattle.script_run.specs.FitsSerial.{RunState, left, left_by}

module _ (gs : List Region) (r : ℕ) (closed : writable_at gs r ≡ false) where
  apart : (n off : ℕ) (bytes : List ℕ) → writable_at gs n ≡ true → (regions : List (List ℕ)) → bytes_at (stored regions (store_line n off bytes)) r ≡ bytes_at regions r
  apart n off bytes open_ regions = get_or-set_other regions n r (spliced (bytes_at regions n) off bytes) [] (λ e. let no : true ≡ false = sym open_ ∙ ap (writable_at gs) (sym e) ∙ closed in cc)

  left_alone : (t : Spread) (x : RunState) (l : Line) (a : Reply) → AllFit gs (l ∷ []) → bytes_at (left t x l a).regions r ≡ bytes_at x.regions r
  left_alone t x (store_line n off bytes) ok fit = apart n off bytes fit.0.writable x.regions
  left_alone t x (store_line n off bytes) (unmapped done) fit = apart n off (take done bytes) fit.0.writable x.regions
  left_alone t x (store_line n off bytes) (fault k count done) fit = apart n off (take done bytes) fit.0.writable x.regions
  left_alone t x (unmap_line n) ok fit = refl
  left_alone t x (unmap_line n) (fault k count done) fit = refl
  left_alone t x l a fit = refl

  pub left_by_alone : (t : Spread) (x : RunState) (lines : List Line) (replies : List Reply) → AllFit gs lines → bytes_at (left_by t x lines replies).regions r ≡ bytes_at x.regions r
  left_by_alone t x [] replies fit = refl
  left_by_alone t x (l ∷ ls) [] fit = refl
  left_by_alone t x (l ∷ ls) (a ∷ more) fit = left_by_alone t (left t x l a) ls more fit.1 ∙ left_alone t x l a (fit.0, tt)
