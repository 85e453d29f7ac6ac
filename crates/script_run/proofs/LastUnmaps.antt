-- Regions that are unmapped in the end, as lines would that are answered to nobody.
use Rattle.std.proofs.Common.{◌≡◌, inl, inr, ℕ, suc, ◌+◌, ◌<◌, ◌||◌, Bool, true, false, List, [], ◌∷◌, ◌++◌, length, Option, Some, None, is_some, Result, Ok, Err, is_err, refl, sym, ap, subst, ◌∙◌, arith}
use Rattle.std.specs.List.{list_any}
use Rattle.std.proofs.lemmas.List.{length-map}
use Rattle.histories.specs.Histories.{History}
use Rattle.page_base.specs.Lanes.{LaneSeen}
use Rattle.page_model.specs.declared.entry.Entry.{Entry}
use Rattle.region_table.specs.Regions.{TableSeen}
use Rattle.serial_pager.specs.declared.fault.PageFault.{PageFault}
use Rattle.serial_pager.specs.declared.fault.UnmapError.TheVariants as unmap_error
use Rattle.serial_pager.specs.Pagers.{PagerSeen}
use Rattle.serial_pager.specs.UnmapsAll.{UnmapsAll, UnmapsAs, UnmapsFrom, UnmapsRegion, fault_in, first_fault, first_of}
use Rattle.workload_text.specs.Line.{Line, unmap_line}
use Rattle.workload_text.specs.Accepted.{regions_of}
use Rattle.workload_text.specs.Grammar.{Region}
use Rattle.flat_lines.specs.Spreads.{Spread}
use Rattle.script_run.specs.InsideRunning.{IsShaped, StripesAgree, DidLines, OpensOn, Ran, shape_of}
use Rattle.script_run.specs.FitsSerial.{spread_of}
use Rattle.script_run.specs.LineEntries.{unmap_lines}
use Rattle.script_run.specs.Replies.{Reply, ok, unmapped, fault, is_fault_reply}
use Rattle.script_run.specs.Tables.{table_of}
use Rattle.script_run.specs.declared.replies.Replies.{Replies}
use Rattle.script_run.specs.declared.settings.Settings.{Settings}
use Rattle.script_run.proofs.RanItems.{shaped_same}
use Rattle.script_run.proofs.RanLines.{did_none, did_more, any_append}
use Rattle.script_run.proofs.RanOne.{did_unmap, did_unmap_end, or_false}
use Rattle.script_run.proofs.Shaped.{regions_are}
use Rattle.script_run.proofs.Tabled.{as_many}

-- each of so many regions was unmapped so
pub record UnmapsLast {J : Type 0} (has_noted : J → History Entry → Type 0) (count : ℕ) (failed : Bool) (p q : PagerSeen J) : Type 0 where
  pub replies : List Reply
  pub failed_is : failed ≡ list_any is_fault_reply replies
  pub did : (t : Spread) (gs : List Region) → IsShaped t gs p → DidLines has_noted t (unmap_lines count) replies p q

-- one region more
unmap_next : (n : ℕ) → unmap_lines (n + 1) ≡ unmap_lines n ++ unmap_line n ∷ []
unmap_next n = let e : n + 1 ≡ suc n = omega arith in ap unmap_lines e

some_first : (a b : Option PageFault) → is_some (first_of a b) ≡ (is_some a || is_some b)
some_first None b = refl
some_first (Some f) b = refl

fails_in : {T : Type 0} (result : Result T PageFault) → is_some (fault_in result) ≡ is_err result
fails_in (Ok x) = refl
fails_in (Err f) = refl

or_assoc : (x y z : Bool) → ((x || y) || z) ≡ (x || (y || z))
or_assoc true y z = refl
or_assoc false y z = refl

module _ {J : Type 0} (agree : StripesAgree) (has_noted : J → History Entry → Type 0) where
  -- the reply that a line would get whose region was unmapped so
  abbrev reply_as : (p q : PagerSeen J) (r : ℕ) (how : Option PageFault) → UnmapsAs 0 has_noted r how p q → Reply
  reply_as p q r None (inl was) = unmapped 0
  reply_as p q r None (inr now) = ok
  reply_as p q r (Some f) x = fault f.key f.faults 0

  fails_as : (p q : PagerSeen J) (r : ℕ) (how : Option PageFault) (x : UnmapsAs 0 has_noted r how p q) → is_some how ≡ is_fault_reply (reply_as p q r how x)
  fails_as p q r None (inl was) = refl
  fails_as p q r None (inr now) = refl
  fails_as p q r (Some f) x = refl

  did_as : (t : Spread) (gs : List Region) (p q : PagerSeen J) → IsShaped t gs p → (r : ℕ) → r < length p.shapes → (how : Option PageFault) (x : UnmapsRegion 0 has_noted r how p q) → DidLines has_noted t (unmap_line r ∷ []) (reply_as p q r how x.made ∷ []) p q
  did_as t gs p q shaped r known how x = go how x.made
    where
      here : r < length gs
      here = subst (λ n. r < n) (regions_are t gs p shaped) known

      go : (how : Option PageFault) (m : UnmapsAs 0 has_noted r how p q) → DidLines has_noted t (unmap_line r ∷ []) (reply_as p q r how m ∷ []) p q
      go None (inl was) = did_unmap_end t gs p shaped agree has_noted q r here unmap_error.Unmapped x.same was
      go None (inr now) = did_unmap t gs p shaped agree has_noted q r here x.same now
      go (Some f) m = did_unmap_end t gs p shaped agree has_noted q r here (unmap_error.Fault f) x.same m

  -- from a pager whose regions below this one were unmapped, on
  last_from : (o p q : PagerSeen J) (r : ℕ) (failed : Bool) (hows : List (Option PageFault)) → UnmapsLast has_noted r failed o p → p.shapes ≡ o.shapes → r + length hows ≡ length o.shapes → UnmapsFrom 0 has_noted r hows p q
      → UnmapsLast has_noted (length o.shapes) (failed || is_some (first_fault hows)) o q
  last_from o p q r failed [] so same all from =
      let at : r ≡ length o.shapes = omega (arith, all) in
      subst (λ b. UnmapsLast has_noted (length o.shapes) b o q) (or_false failed)
      (subst (λ n. UnmapsLast has_noted n failed o q) at (subst (λ (z : PagerSeen J). UnmapsLast has_noted r failed o z) (sym from) so))
  last_from o p q r failed (how ∷ hows) so same all from =
      subst (λ b. UnmapsLast has_noted (length o.shapes) b o q) (or_assoc failed (is_some how) (is_some (first_fault hows)) ∙ ap (λ b. failed || b) (sym (some_first how (first_fault hows))))
      (last_from o from.0 q (r + 1) (failed || is_some how) hows more (from.1.same.shapes ∙ same) (omega (arith, all)) from.2)
    where
      reply : Reply
      reply = reply_as p from.0 r how from.1.made

      more : UnmapsLast has_noted (r + 1) (failed || is_some how) o from.0
      more = record {
        replies = so.replies ++ reply ∷ [];
        failed_is =
            ap (λ b. b || is_some how) so.failed_is
            ∙ ap (λ b. list_any is_fault_reply so.replies || b) (fails_as p from.0 r how from.1.made ∙ or_false (is_fault_reply reply))
            ∙ sym (any_append so.replies (reply ∷ []));
        did = λ t gs shaped.
            let before = so.did t gs shaped in
            subst (λ ls. DidLines has_noted t ls (so.replies ++ reply ∷ []) o from.0) (sym (unmap_next r))
            (did_more has_noted t (unmap_lines r) (unmap_line r ∷ []) so.replies (reply ∷ []) o p from.0 before
            (did_as t gs p from.0 (shaped_same t gs o p shaped before.same) r (omega (arith, all, ap length same)) how from.1));
      }

  pub last_of : {T : Type 0} (p q : PagerSeen J) (result : Result T PageFault) → UnmapsAll 0 has_noted (fault_in result) p q → UnmapsLast has_noted (length p.shapes) (is_err result) p q
  last_of p q result all =
      let every : 0 + length all.hows ≡ length p.shapes = omega (arith, all.every) in
      subst (λ b. UnmapsLast has_noted (length p.shapes) b p q) (sym (ap is_some all.first) ∙ fails_in result)
      (last_from p p q 0 false all.hows (record { replies = []; failed_is = refl; did = λ t gs shaped. did_none has_noted t p }) refl every all.made)

-- a run's pager unmapped all regions of its table
pub last_unmapped : {J T : Type 0} (has_noted : J → History Entry → Type 0) (c : Settings) (lines : List Line) (table : TableSeen) {rows : List (List LaneSeen)} {journals : List J} {r0 r1 : Replies} (p q z : PagerSeen J) → table ≡ table_of c.layout.page_size lines
    → OpensOn c (regions_of lines) rows journals p → Ran has_noted (spread_of c.layout) (regions_of lines) lines r0 r1 p q → StripesAgree → {failed : Bool} (result : Result T PageFault) → UnmapsAll 0 has_noted (fault_in result) q z → failed ≡ is_err result
    → UnmapsLast has_noted (length table.regions) failed q z
last_unmapped has_noted c lines table p q z table_is opens ran agree {failed} result all fails =
    let many : length q.shapes ≡ length table.regions =
    omega (arith, ap (λ (t : TableSeen). length t.regions) table_is, as_many lines, ap length (ran.did.same.shapes ∙ opens.shaped.shapes), length-map (regions_of lines) (shape_of c.layout.page_size)) in
    subst (λ n. UnmapsLast has_noted n failed q z) many (subst (λ b. UnmapsLast has_noted (length q.shapes) b q z) (sym fails) (last_of agree has_noted q z result all))
