use Rattle.std.proofs.Common.{◌≡◌, length, Some, slice_get, refl, sym, ap, ◌∙◌, arith}
use Rattle.std.proofs.lemmas.Option.{slice_get_read}
use Rattle.serial_pager.specs.InsideSound.{Goes}
use Rattle.serial_pager.specs.Rests.{ClosesSame}
use Rattle.serial_pager.specs.Writings.{WritesAll, WritesUpTo}
use Rattle.serial_pager.proofs.Lists.{slice_set_length}
use Rattle.serial_pager.proofs.Stripes.{map_set}
use Rattle.serial_pager.proofs.Walks.{goes_all, walked_all, walked_fails, walked_more, walked_none, went_all}
use Rattle.serial_pager.proofs.pager.walks.flush_stripes.Goals as goal

pub loop-stripe-init : goal.loop-stripe-init
loop-stripe-init g c = record { walked = walked_none g.J.Journal.has_noted WritesAll ClosesSame c.args.stripes.now.items; made = refl }

pub flush-requires : goal.flush-requires
flush-requires g c =
    let i = c.loop-stripe.stripe in
    let w = c.loop-stripe.invariant.walked in
    let x = c.index_mut.result.now in
    let at : slice_get c.args.stripes.now.items i ≡ Some x = sym (w.ahead i (omega arith)) ∙ slice_get_read c.loop-stripe.stripes.items (length c.loop-stripe.stripes.items) i x refl (omega (arith, w.as_many)) c.index_mut.ensures.value in
    let may = c.requires.each i x at in
    record {
      rest = may.rest;
      few = may.few;
      scratch = c.loop-stripe.auto.scratch ∙ sym may.page_size;
    }

pub loop-stripe-preserved : goal.loop-stripe-preserved
loop-stripe-preserved g c =
    let i = c.loop-stripe.stripe in
    let w = c.loop-stripe.invariant.walked in
    let x = c.index_mut.result.now in
    let here : slice_get c.loop-stripe.stripes.items i ≡ Some x = slice_get_read c.loop-stripe.stripes.items (length c.loop-stripe.stripes.items) i x refl (omega (arith, w.as_many)) c.index_mut.ensures.value in
    let y = c.flush.new.self in
    let e = c.flush.ensures in
    let goes : Goes 64 ClosesSame x y = record { setup = ap (λ f. f.setup) e.fixed; rest = e.rest; few = e.few; closes = e.closes } in
    let did = c.in-Ok.ensures.ok in
    record {
      walked = walked_more g.J.Journal.has_noted WritesAll ClosesSame c.args.stripes.now.items c.loop-stripe.stripes.items i x y w here goes did.entries did.went did.how;
      made = map_set (λ v. g.J.Journal.made_with v.journal) c.loop-stripe.stripes.items i x y here (ap (λ f. f.journal) e.fixed) ∙ c.loop-stripe.invariant.made;
    }

pub returns-in-Err : goal.returns-in-Err
returns-in-Err g c =
    let i = c.loop-stripe.stripe in
    let w = c.loop-stripe.invariant.walked in
    let all = c.args.stripes.now.items in
    let now = c.loop-stripe.stripes.items in
    let x = c.index_mut.result.now in
    let here : slice_get c.loop-stripe.stripes.items i ≡ Some x = slice_get_read c.loop-stripe.stripes.items (length c.loop-stripe.stripes.items) i x refl (omega (arith, w.as_many)) c.index_mut.ensures.value in
    let y = c.flush.new.self in
    let e = c.flush.ensures in
    let goes : Goes 64 ClosesSame x y = record { setup = ap (λ f. f.setup) e.fixed; rest = e.rest; few = e.few; closes = e.closes } in
    let did = c.in-Err.ensures.err in
    record {
      count = slice_set_length now i y ∙ w.as_many;
      goes = goes_all g.J.Journal.has_noted WritesAll ClosesSame all now i x y w here goes did.entries did.went (λ k r. refl) (λ s z f. (c.requires.each s z f).rest);
      made = map_set (λ v. g.J.Journal.made_with v.journal) now i x y here (ap (λ f. f.journal) e.fixed) ∙ c.loop-stripe.invariant.made;
      ok = tt;
      err = walked_fails g.J.Journal.has_noted WritesAll ClosesSame all now i x y w here goes did.entries did.went (WritesUpTo c.in-Err.fault) did.how;
    }

pub returns : goal.returns
returns g c =
    let w = c.loop-stripe.invariant.walked in
    record {
      count = w.as_many;
      goes = went_all g.J.Journal.has_noted WritesAll ClosesSame c.loop-stripe.stripe c.args.stripes.now.items c.loop-stripe.stripes.items (omega (arith, w.as_many, c.loop-stripe-test.false)) w;
      made = c.loop-stripe.invariant.made;
      ok = walked_all g.J.Journal.has_noted WritesAll ClosesSame c.loop-stripe.stripe c.args.stripes.now.items c.loop-stripe.stripes.items (omega (arith, w.as_many, c.loop-stripe-test.false)) w;
      err = tt;
    }
