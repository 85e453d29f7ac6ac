use Rattle.std.proofs.Common.{◌≡◌, ◌∙◌, ◌==◌, ◌&&◌, false, sym, ap}
use Rattle.std.proofs.lemmas.Bool.{eqb-true, eq-eqb, and_parts, and_from, false_from_ne_true}
use Rattle.page_base.specs.declared.keys.Key.{Key}
use Rattle.page_base.specs.Pages.{same}
use Rattle.page_buffer.specs.Insides.{frames_seen, key_in}
use Rattle.page_buffer.proofs.Keys.{same-true}
use Rattle.page_buffer.proofs.Oldest.{other_but, next_but}
use Rattle.page_buffer.proofs.buffer.PageBuffer.oldest_past.Goals as goal

pub returns-then-eq : goal.returns-then-eq
returns-then-eq c =
    let s = c.self.inside in
    let l = c.self.invariant.0.linked in
    let o = c.self.invariant.0.pages in
    let page : c.resident_in.result ≡ key_in (frames_seen s.frames.items) c.args.oldest = rw (← c.self.view_is) at c.resident_in.ensures.page in
    let both = and_parts (c.resident_in.result.region == c.args.but.region) (c.resident_in.result.page == c.args.but.page) (sym c.if-eq.ensures) in
    let r : c.resident_in.result.region ≡ c.args.but.region = eqb-true _ _ both.0 in
    let p : c.resident_in.result.page ≡ c.args.but.page = eqb-true _ _ both.1 in
    let is : c.resident_in.result ≡ c.args.but = λ i. record { region = r i; page = p i } in
    let e = rw (← c.self.view_is) at c.requires.oldest in
    record { exact = rw (← c.self.view_is) (c.first_marked_but.ensures.exact ∙ next_but (frames_seen s.frames.items) s.order l o c.args.region c.args.but c.args.oldest e (sym page ∙ is)) }

pub returns-else-eq : goal.returns-else-eq
returns-else-eq c =
    let s = c.self.inside in
    let page : c.resident_in.result ≡ key_in (frames_seen s.frames.items) c.args.oldest = rw (← c.self.view_is) at c.resident_in.ensures.page in
    let differs : same c.resident_in.result c.args.but ≡ false =
    false_from_ne_true (same c.resident_in.result c.args.but)
    (λ e.
    let is = same-true c.resident_in.result c.args.but e in
    let both = and_from (c.resident_in.result.region == c.args.but.region) (c.resident_in.result.page == c.args.but.page) (eq-eqb _ _ (ap (λ (k : Key). k.region) is)) (eq-eqb _ _ (ap (λ (k : Key). k.page) is)) in
    let not_both : (c.resident_in.result.region == c.args.but.region) && (c.resident_in.result.page == c.args.but.page) ≡ false = sym c.if-eq.ensures in
    cc (both, not_both)) in
    let e = rw (← c.self.view_is) at c.requires.oldest in
    record { exact = rw (← c.self.view_is) (other_but (frames_seen s.frames.items) s.order c.self.invariant.0.linked c.self.invariant.0.pages c.args.region c.args.but c.args.oldest e (ap (λ (k : Key). same k c.args.but) (sym page) ∙ differs)) }
