-- What serves a piece of a line, the line may make.
use Rattle.std.proofs.Common.{◌≡◌, ℕ, ◌+◌, ◌*◌, ◌&&◌, ◌||◌, ◌==◌, Bool, nat_lt, true, List, length, refl, ap, ◌∙◌, arith}
use Rattle.std.proofs.lemmas.Bool.{and_from, and_parts, or_left, eq-eqb, eqb-true, lt-ltb}
use Rattle.page_base.specs.declared.keys.Key.{Key}
use Rattle.page_base.specs.declared.keys.Piece.{Piece}
use Rattle.page_base.specs.declared.keys.Why.{Why}
use Rattle.page_base.specs.declared.keys.Why.TheVariants.{Read, Write, Protected, Ahead}
use Rattle.page_base.specs.Pages.{same}
use Rattle.page_model.specs.declared.entry.Cause.{Cause}
use Rattle.page_model.specs.declared.entry.Cause.TheVariants.{Pressure, Flush, Unmap}
use Rattle.page_model.specs.declared.entry.Entry.TheVariants.{Raised, StartRead, Filled, ReadFailed, Opened, Dropped, StartWrite, Evicted, Written}
use Rattle.region_table.specs.Covers.{IsNext}
use Rattle.serial_pager.specs.Accesses.{is_for_store, is_pressure, is_read}
use Rattle.workload_text.specs.Line.{Line, load_line, store_line, unmap_line}
use Rattle.script_run.specs.LineEntries.{is_in_range, makes_faults, may_drop, may_make, raises, writes_for, evicts_for, is_flush_line, is_unmap_of}
use Rattle.script_run.proofs.Makings.{ServesBy}

-- the page of the piece that is next has a byte of the range
pub in_range : (size region off len done : ℕ) (piece : Piece) → IsNext size region off len done piece → is_in_range size region off len piece.key ≡ true
in_range size region off len done piece next =
    and_from (piece.key.region == region) (nat_lt off (piece.key.page * size + size) && nat_lt (piece.key.page * size) (off + len)) (eq-eqb piece.key.region region next.at.of_region)
    (and_from (nat_lt off (piece.key.page * size + size)) (nat_lt (piece.key.page * size) (off + len))
    (lt-ltb off (piece.key.page * size + size) (omega (arith, next.at.begins, next.at.some, next.at.within)))
    (lt-ltb (piece.key.page * size) (off + len) (omega (arith, next.at.begins, next.at.some, next.short))))

pub same_key : (a b : Key) → same a b ≡ true → a ≡ b
same_key a b e =
    let parts = and_parts (a.page == b.page) (a.region == b.region) e in
    let p : a.page ≡ b.page = eqb-true a.page b.page parts.0 in
    let r : a.region ≡ b.region = eqb-true a.region b.region parts.1 in
    λ i. record { region = r i; page = p i }

-- a line that has page faults served
module _ (z : ℕ) (l : Line) (served : makes_faults l ≡ true) where
  for_room : (why : Cause) (q : ℕ) → is_pressure why ≡ true → (writes_for l why q ≡ true) × (evicts_for l why q ≡ true)
  for_room Pressure q h = (served, served)
  for_room Flush q h = absurd (cc)
  for_room Unmap q h = absurd (cc)

  drops : (l : Line) → makes_faults l ≡ true → may_drop l ≡ true
  drops (unmap_line r) h = refl
  drops l h = h

  serves_by : (k : Key) (reasons : Why → Bool) → ((why : Why) → reasons why ≡ true → raises z l k why ≡ true) → ServesBy (may_make z l) k reasons
  serves_by k reasons own (Raised j why) h =
      let parts = and_parts (same j k) (reasons why) h in
      ap (λ (i : Key). raises z l i why) (same_key j k parts.0) ∙ own why parts.1
  serves_by k reasons own (StartRead j) h = served
  serves_by k reasons own (Filled j) h = served
  serves_by k reasons own (ReadFailed j n) h = served
  serves_by k reasons own (Opened j) h = served
  serves_by k reasons own (Dropped j) h = drops l served
  serves_by k reasons own (StartWrite j why) h = (for_room why j.region h).0
  serves_by k reasons own (Evicted j why) h = (for_room why j.region h).1
  serves_by k reasons own (Written j at bytes) h = or_left (makes_faults l) (is_flush_line l || is_unmap_of l j.region) served
  serves_by k reasons own e h = absurd (cc)

pub load_serves : (z r off len : ℕ) (k : Key) → is_in_range z r off len k ≡ true → ServesBy (may_make z (load_line r off len)) k is_read
load_serves z r off len k its = serves_by z (load_line r off len) refl k is_read own
  where
    own : (why : Why) → is_read why ≡ true → raises z (load_line r off len) k why ≡ true
    own Read h = its
    own Write h = absurd (cc)
    own Protected h = absurd (cc)
    own Ahead h = absurd (cc)

pub store_serves : (z r off : ℕ) (bytes : List ℕ) (k : Key) → is_in_range z r off (length bytes) k ≡ true → ServesBy (may_make z (store_line r off bytes)) k is_for_store
store_serves z r off bytes k its = serves_by z (store_line r off bytes) refl k is_for_store own
  where
    own : (why : Why) → is_for_store why ≡ true → raises z (store_line r off bytes) k why ≡ true
    own Read h = absurd (cc)
    own Write h = its
    own Protected h = its
    own Ahead h = absurd (cc)
