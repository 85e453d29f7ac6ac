use Rattle.std.proofs.Common.{◌≡◌, ◌+◌, map, sym, ap, ◌∙◌, arith, OnOk, subst}
use Rattle.serial_pager.specs.Goings.{EachDid}
use Rattle.serial_pager.specs.Rests.{ClosesSame}
use Rattle.serial_pager.specs.Writings.{WritesAll}
use Rattle.serial_pager.proofs.Results.{if_err}
use Rattle.serial_pager.proofs.Walks.{flush_fails, same_now, sound_now, within_now}
use Rattle.serial_pager.proofs.pager.SerialPager.flush.Goals as goal

pub flush_stripes-requires : goal.flush_stripes-requires
flush_stripes-requires g c = record {
  each = λ s x e.
      let part = c.self.invariant.0.each s x e in
      let spent : c.self.inside.spent ≡ c.args.self.now.spent = ap (λ p. p.spent) c.self.view_is in
      record { rest = part.rest; few = omega (arith, part.few, c.requires.few, spent); page_size = part.page_size ∙ sym (c.as_mut_slice.ensures.len ∙ c.self.invariant.2) };
}

pub invariant_of-self : goal.invariant_of-self
invariant_of-self g c =
    let ins = c.self.inside in
    let e = c.flush_stripes.ensures in
    let v = c.self.invariant in
    (sound_now ins.config ins.stripes.items c.flush_stripes.new.stripes.items ins.spent 64 c.args.self.now c.self.view_is c.self.invariant.0 ClosesSame e.count e.goes c.requires.few, e.count ∙ v.1, v.2, v.3, v.4, omega (arith, e.count, v.5), omega (arith, e.count, v.6))

pub returns : goal.returns
returns g c =
    let ins = c.self.inside in
    let e = c.flush_stripes.ensures in
    record {
      same = same_now ins.config ins.stripes.items c.flush_stripes.new.stripes.items ins.spent 64 c.args.self.now c.self.view_is c.self.invariant.0 ClosesSame e.count e.goes (λ a b closes. closes);
      made = e.made ∙ ap (λ p. map (λ z. g.J.Journal.made_with z.journal) p.stripes) c.self.view_is;
      spent = ap (λ p. p.spent + 64) c.self.view_is;
      within = within_now ins.config ins.stripes.items c.flush_stripes.new.stripes.items ins.spent 64 c.args.self.now c.self.view_is c.self.invariant.0 ClosesSame e.count e.goes c.requires.few c.model_laws.ensures.knows.within;
      ok = subst (λ p. OnOk c.flush_stripes.result (EachDid 0 g.J.Journal.has_noted WritesAll p.stripes c.flush_stripes.new.stripes.items)) c.self.view_is e.ok;
      err = if_err c.flush_stripes.result e.err (flush_fails ins.config ins.stripes.items c.flush_stripes.new.stripes.items ins.spent 64 c.args.self.now c.self.view_is c.self.invariant.0 ClosesSame e.count e.goes g.J.Journal.has_noted);
    }
