-- In a run that is flagged the count of some lane rose.
use Rattle.std.proofs.Common.{◌≡◌, inl, inr, ℕ, ◌+◌, ◌/◌, ◌<◌, Bool, true, false, ◌||◌, List, [], ◌∷◌, ◌++◌, length, refl, sym, ap, ◌∙◌, arith}
use Rattle.std.specs.List.{list_any}
use Rattle.std.proofs.lemmas.Bool.{cases_Bool}
use Rattle.std.proofs.lemmas.Nat.{mod_below}
use Rattle.page_base.specs.Lanes.{Rose}
use Rattle.workload_text.specs.Grammar.{Region}
use Rattle.workload_text.specs.Accepted.{regions_of}
use Rattle.script_run.specs.Contents.{contents_of}
use Rattle.script_run.specs.Replies.{Reply, fault, is_fault_reply}
use Rattle.flat_lines.specs.Spreads.{Spread, stripe_in}
use Rattle.script_run.specs.FitsSerial.{all_open, lane_at, region_is_told, counts_named, Rising, CountsFit, last_count}
use Rattle.script_run.specs.Tellings.{FlagIsCounted}
use Rattle.script_run.proofs.InMemory.{AllKnown, all_known, names_one}

-- a lane for which a count is named
pub record IsNamed (gs : List Region) (t : Spread) (replies : List Reply) : Type 0 where
  pub s : ℕ
  pub r : ℕ
  pub stripe : s < t.stripes
  pub region : r < length gs
  pub count : ℕ
  pub more : List ℕ
  pub named : counts_named t s r replies ≡ count ∷ more

pub first_named : (gs : List Region) (t : Spread) (replies : List Reply) → 0 < t.stripes → AllKnown gs replies → list_any is_fault_reply replies ≡ true → IsNamed gs t replies
first_named gs t [] some known faulted = absurd (cc)
first_named gs t (fault k count done ∷ rest) some known faulted = record {
  s = stripe_in t k;
  r = k.region;
  stripe = mod_below (k.region + k.page / t.group_of k.region) t.stripes some;
  region = known.0;
  count = count;
  more = counts_named t (stripe_in t k) k.region rest;
  named = ap (λ ns. ns ++ counts_named t (stripe_in t k) k.region rest) (names_one t k count done);
}
first_named gs t (a ∷ rest) some known faulted = let x = first_named gs t rest some known faulted in record { s = x.s; r = x.r; stripe = x.stripe; region = x.region; count = x.count; more = x.more; named = x.named }

-- a count that rose once has risen
rose_by : (first n : ℕ) (ns : List ℕ) → Rose first n → Rising n ns → Rose first (last_count n ns)
rose_by first n [] rose rising = rose
rose_by first n (m ∷ ms) rose rising = rose_by first m ms (omega (arith, rose, rising.0)) rising.1

pub rose_named : (first count last : ℕ) (more named : List ℕ) → named ≡ count ∷ more → CountsFit first named last → Rose first last
rose_named first count last more [] e fit = absurd (cc)
rose_named first count last more (n ∷ ns) e fit = omega (arith, rose_by first n ns fit.rising.0 fit.rising.1, fit.within)

-- the last count that is named has risen, or is the first one
rose_last : (first last : ℕ) (named : List ℕ) → CountsFit first named last → Rose (last_count first named) last → Rose first last
rose_last first last [] fit rose = rose
rose_last first last (n ∷ ns) fit rose = omega (arith, rose_by first n ns fit.rising.0 fit.rising.1, fit.within)

pub faults_are_counted : FlagIsCounted
faults_are_counted t lines rows ends e some fit f faulted =
    elim (cases_Bool f.failed) [
      | inl failed ↦
          let x = f.rose failed in
          (x.0, x.1, x.2, x.3, rose_last (lane_at rows x.0 x.1).count (lane_at ends x.0 x.1).count (counts_named t x.0 x.1 f.replies) (f.counts x.0 x.1 x.2 x.3) x.4)
      | inr fine ↦
          let gs : List Region = regions_of lines in
          let known : AllKnown gs f.replies = all_known gs t (region_is_told rows) [] (all_open (contents_of rows)) lines f.replies fit (λ k s. absurd s) f.answered in
          let any : list_any is_fault_reply f.replies ≡ true = or_true (list_any is_fault_reply f.replies) f.failed (sym f.flag ∙ faulted) fine in
          let x = first_named gs t f.replies some known any in
          (x.s, x.r, x.stripe, x.region, rose_named (lane_at rows x.s x.r).count x.count (lane_at ends x.s x.r).count x.more (counts_named t x.s x.r f.replies) x.named (f.counts x.s x.r x.stripe x.region))
    ]
  where
    or_true : (a b : Bool) → a || b ≡ true → b ≡ false → a ≡ true
    or_true true b e calm = refl
    or_true false b e calm = sym calm ∙ e
