use Rattle.std.proofs.Common.{◌≡◌, ◌+◌, ◌*◌, ◌%◌, ℕ, ◌++◌, length, slice_get, Some, ap, subst, ◌∙◌, arith, rules, length-append}
use Rattle.store_trait.proofs.Joins.{Shows, has_there, shows_more, all_shown, same_size, same_region, same_pages}
use Rattle.store_trait.proofs.split.joined.Goals as goal

pub page-requires : goal.page-requires
page-requires c =
    let q = c.requires in
    let lanes = c.args.lanes.now.items in
    let region : c.region-region.result ≡ q.region = c.region-region.ensures ∙ same_region lanes q 0 _ c.get-first.ensures in
    let pages : c.pages-pages.result ≡ q.pages = c.pages-pages.ensures ∙ same_pages lanes q 0 _ c.get-first.ensures in
    has_there lanes q c.loop-page.page c.get-lane.result.now (omega arith) (rw (← region, ← c.from.ensures, ← c.from-in-loop-page.ensures, ← c.len-stripes.ensures) c.get-lane.ensures)

pub loop-page-preserved : goal.loop-page-preserved
loop-page-preserved c =
    let q = c.requires in
    let i = c.loop-page.invariant in
    let lanes = c.args.lanes.now.items in
    let here = c.get-lane.result.now in
    let items : c.extend_from_slice.new.self.items ≡ c.loop-page.bytes.items ++ c.page.result.now = search rules in
    let region : c.region-region.result ≡ q.region = c.region-region.ensures ∙ same_region lanes q 0 _ c.get-first.ensures in
    let size : c.page_size.result ≡ q.page_size = c.page_size.ensures ∙ same_size lanes q 0 _ c.get-first.ensures in
    let place : slice_get lanes ((q.region + c.loop-page.page) % length lanes) ≡ Some here = rw (← region, ← c.from.ensures, ← c.from-in-loop-page.ensures, ← c.len-stripes.ensures) c.get-lane.ensures in
    let len_x : length c.page.result.now ≡ q.page_size = c.page.ensures.len ∙ same_size lanes q _ here place in
    record {
      len = ap length items ∙ length-append c.loop-page.bytes.items c.page.result.now ∙ omega arith;
      shows = rw items (shows_more lanes q c.loop-page.page c.loop-page.bytes.items c.page.result.now here place c.page.ensures.bytes len_x (i.len ∙ ap (λ (z : ℕ). c.loop-page.page * z) size) i.shows);
    }

pub returns : goal.returns
returns c =
    let q = c.requires in
    let i = c.loop-page.invariant in
    let lanes = c.args.lanes.now.items in
    let size : c.page_size.result ≡ q.page_size = c.page_size.ensures ∙ same_size lanes q 0 _ c.get-first.ensures in
    let pages : c.loop-page.page ≡ q.pages = omega (arith, c.pages-pages.ensures, same_pages lanes q 0 _ c.get-first.ensures, c.loop-page-test.false) in
    let len : length c.loop-page.bytes.items ≡ q.pages * q.page_size = i.len ∙ ap (λ (n : ℕ). n * c.page_size.result) pages ∙ ap (λ (z : ℕ). q.pages * z) size in
    rw c.from_vec.ensures.items (all_shown lanes q c.loop-page.bytes.items len (subst (λ (n : ℕ). Shows n lanes c.loop-page.bytes.items) pages i.shows))
