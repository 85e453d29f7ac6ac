use Rattle.std.proofs.Common.{◌≡◌, ◌+◌, map, IfErr, OnOk, refl, sym, ap, subst, ◌∙◌, arith, false}
use Rattle.serial_pager.specs.Pagers.{EndsUnmap, UnmapsEach, is_gone}
use Rattle.serial_pager.specs.Sound.{seen_of}
use Rattle.serial_pager.specs.Unmappings.{ClosesOne}
use Rattle.serial_pager.proofs.Walks.{goes_none, only_now, regions_of, sound_now, unmap_fails, unmaps_each, within_now}
use Rattle.serial_pager.proofs.pager.SerialPager.unmap.Goals as goal
use Rattle.serial_pager.proofs.pager.SerialPager.unmap.Goals.{in-Ok, in-Err}

pub all_unmapped-requires : goal.all_unmapped-requires
all_unmapped-requires g c = record { region = regions_of c.args.self.now c.self.inside.config c.self.inside.stripes.items c.self.inside.spent c.self.view_is c.self.invariant.0 c.args.region c.requires.region }

pub unmap_stripes-requires : goal.unmap_stripes-requires
unmap_stripes-requires g c = record {
  each = λ s x e.
      let part = c.self.invariant.0.each s x e in
      let spent : c.self.inside.spent ≡ c.args.self.now.spent = ap (λ p. p.spent) c.self.view_is in
      record { rest = part.rest; few = omega (arith, part.few, c.requires.few, spent); page_size = part.page_size ∙ sym (c.as_mut_slice.ensures.len ∙ c.self.invariant.2) };
  region = regions_of c.args.self.now c.self.inside.config c.self.inside.stripes.items c.self.inside.spent c.self.view_is c.self.invariant.0 c.args.region c.requires.region;
}

pub invariant_of-self : goal.invariant_of-self
invariant_of-self g c =
    let ins = c.self.inside in
    let still = goes_none ins.config ins.stripes.items ins.spent c.self.invariant.0 64 (ClosesOne c.args.region) (λ d. record { others = λ q ne. refl; stays = λ e. e; gone = λ q e. e }) in
    let v = c.self.invariant in
    (sound_now ins.config ins.stripes.items ins.stripes.items ins.spent 64 c.args.self.now c.self.view_is c.self.invariant.0 (ClosesOne c.args.region) refl still c.requires.few, v.1, v.2, v.3, v.4, v.5, v.6)

pub returns-then-all_unmapped-clause-same : goal.returns-then-all_unmapped-clause-same
returns-then-all_unmapped-clause-same g c =
    let ins = c.self.inside in
    let still = goes_none ins.config ins.stripes.items ins.spent c.self.invariant.0 64 (ClosesOne c.args.region) (λ d. record { others = λ q ne. refl; stays = λ e. e; gone = λ q e. e }) in
    only_now ins.config ins.stripes.items ins.stripes.items ins.spent 64 c.args.self.now c.self.view_is c.self.invariant.0 (ClosesOne c.args.region) refl still c.args.region (λ a b closes. closes)

pub returns-then-all_unmapped-clause-within : goal.returns-then-all_unmapped-clause-within
returns-then-all_unmapped-clause-within g c =
    let ins = c.self.inside in
    let still = goes_none ins.config ins.stripes.items ins.spent c.self.invariant.0 64 (ClosesOne c.args.region) (λ d. record { others = λ q ne. refl; stays = λ e. e; gone = λ q e. e }) in
    within_now ins.config ins.stripes.items ins.stripes.items ins.spent 64 c.args.self.now c.self.view_is c.self.invariant.0 (ClosesOne c.args.region) refl still c.requires.few c.model_laws.ensures.knows.within

pub invariant_of-self-2 : goal.invariant_of-self-2
invariant_of-self-2 g c =
    let ins = c.self.inside in
    let e = c.unmap_stripes.ensures in
    let v = c.self.invariant in
    (sound_now ins.config ins.stripes.items c.unmap_stripes.new.stripes.items ins.spent 64 c.args.self.now c.self.view_is c.self.invariant.0 (ClosesOne c.args.region) e.count e.goes c.requires.few, e.count ∙ v.1, v.2, v.3, v.4, omega (arith, e.count, v.5), omega (arith, e.count, v.6))

pub returns : goal.returns
returns g c =
    let ins = c.self.inside in
    let e = c.unmap_stripes.ensures in
    let q = seen_of ins.config c.unmap_stripes.new.stripes.items (ins.spent + 64) in
    let mapped : is_gone c.args.self.now c.args.region ≡ false = subst (λ p. is_gone p c.args.region ≡ false) c.self.view_is (sym c.all_unmapped.ensures.exact ∙ c.if-all_unmapped.false) in
    record {
      same = only_now ins.config ins.stripes.items c.unmap_stripes.new.stripes.items ins.spent 64 c.args.self.now c.self.view_is c.self.invariant.0 (ClosesOne c.args.region) e.count e.goes c.args.region (λ a b closes. closes);
      made = e.made ∙ ap (λ p. map (λ z. g.J.Journal.made_with z.journal) p.stripes) c.self.view_is;
      spent = ap (λ p. p.spent + 64) c.self.view_is;
      within = within_now ins.config ins.stripes.items c.unmap_stripes.new.stripes.items ins.spent 64 c.args.self.now c.self.view_is c.self.invariant.0 (ClosesOne c.args.region) e.count e.goes c.requires.few c.model_laws.ensures.knows.within;
      ok = elim c.match-unmap_stripes.branch [
        | in-Ok w ↦ subst (λ r. OnOk r (UnmapsEach 0 g.J.Journal.has_noted c.args.region c.args.self.now q)) (sym w.result-is) (unmaps_each ins.config ins.stripes.items c.unmap_stripes.new.stripes.items ins.spent 64 c.args.self.now c.self.view_is c.self.invariant.0 (ClosesOne c.args.region) e.count e.goes g.J.Journal.has_noted c.args.region mapped w.in-Ok.ensures.ok)
        | in-Err w ↦ subst (λ r. OnOk r (UnmapsEach 0 g.J.Journal.has_noted c.args.region c.args.self.now q)) (sym w.result-is) tt
      ];
      err = elim c.match-unmap_stripes.branch [
        | in-Ok w ↦ subst (λ r. IfErr r (EndsUnmap 0 g.J.Journal.has_noted c.args.region c.args.self.now q)) (sym w.result-is) tt
        | in-Err w ↦ subst (λ r. IfErr r (EndsUnmap 0 g.J.Journal.has_noted c.args.region c.args.self.now q)) (sym w.result-is) (unmap_fails ins.config ins.stripes.items c.unmap_stripes.new.stripes.items ins.spent 64 c.args.self.now c.self.view_is c.self.invariant.0 (ClosesOne c.args.region) e.count e.goes g.J.Journal.has_noted c.args.region w.in-Err.fault mapped w.in-Err.ensures.err)
      ];
    }
