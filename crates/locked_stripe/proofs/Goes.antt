-- One hold after another.
use Rattle.std.proofs.Common.{◌≡◌, ℕ, ◌+◌, Bool, false, List, [], ◌∷◌, ◌++◌, append_assoc, arith, refl, sym, subst, ap, ◌∙◌}
use Rattle.histories.specs.Histories.{History, by, GoesOn, Grew, Alone, HasNew}
use Rattle.page_model.specs.declared.entry.Entry.{Entry}
use Rattle.turn_lock.specs.Seen.{PassSeen}
use Rattle.locked_stripe.specs.Holds.{PassGrew}
use Rattle.locked_stripe.specs.InsideHolds.{OneHold}
use Rattle.locked_stripe.specs.InsideLaws.{PagerLaws}

added : (x a b : ℕ) → (x + a) + b ≡ x + (a + b)
added x a b = omega arith

none_more : (x : ℕ) → x ≡ x + 0
none_more x = omega arith

module _ {T : Type 0} (laws : PagerLaws) where
  pub grew_once : (old new : PassSeen T Entry) (h : History Entry) (es : List Entry) → OneHold old new h es → PassGrew old new 1 es
  grew_once old new h es w =
      let seen : new.seen ≡ by old.number es ++ h = ap (λ (p : PassSeen T Entry). p.seen) w.after in
      record {
        seen = subst (λ (x : History Entry). Grew old.number old.seen x es) (sym seen) (laws.adds.after_others old.number old.seen h es w.others);
        after = w.after ∙ ap (λ (x : History Entry). record old { holds = old.holds + 1; seen = x; mine = es ++ old.mine; inside = false }) (sym seen);
      }

  pub grew_none : (p : PassSeen T Entry) → p.inside ≡ false → PassGrew p p 0 []
  grew_none p out = record {
    seen = laws.adds.none p.number p.seen;
    after = ap (λ (b : Bool). record p { inside = b }) out ∙ ap (λ (n : ℕ). record p { holds = n; inside = false }) (none_more p.holds);
  }

  pub grew_both : (old mid new : PassSeen T Entry) (a b : ℕ) (es fs : List Entry) → PassGrew old mid a es → PassGrew mid new b fs → PassGrew old new (a + b) (fs ++ es)
  grew_both old mid new a b es fs p q = record {
    seen = laws.adds.twice old.number old.seen mid.seen new.seen es fs p.seen (subst (λ (o : ℕ). Grew o mid.seen new.seen fs) (ap (λ (x : PassSeen T Entry). x.number) p.after) q.seen);
    after = q.after ∙ (ap (λ (x : PassSeen T Entry). record x { holds = x.holds + b; seen = new.seen; mine = fs ++ x.mine; inside = false }) p.after
        ∙ (ap (λ (n : ℕ). record old { holds = n; seen = new.seen; mine = fs ++ (es ++ old.mine); inside = false }) (added old.holds a b)
        ∙ ap (λ (m : List Entry). record old { holds = old.holds + (a + b); seen = new.seen; mine = m; inside = false }) (sym (append_assoc fs es old.mine))));
  }

  pub goes_past : (old new : PassSeen T Entry) (h : History Entry) (es : List Entry) → OneHold old new h es → GoesOn h new.seen
  goes_past old new h es w = (by old.number es, ap (λ (p : PassSeen T Entry). p.seen) w.after)

  pub goes_through : (old new : PassSeen T Entry) (h : History Entry) (es : List Entry) → OneHold old new h es → GoesOn old.seen new.seen
  goes_through old new h es w = laws.order.trans old.seen h new.seen (w.others.later, w.others.is) (goes_past old new h es w)

  pub goes_grown : (old new : PassSeen T Entry) (n : ℕ) (es : List Entry) → PassGrew old new n es → GoesOn old.seen new.seen
  goes_grown old new n es w = (w.seen.later, w.seen.is)

module _ (laws : PagerLaws) where
  -- where all entries of a stretch are of one owner, so are those of its two parts
  pub record Parts (o : ℕ) (f g h : History Entry) : Type 0 where
    pub first : Alone o f g
    pub second : Alone o g h

  pub alone_parts : (o : ℕ) (f g h : History Entry) → GoesOn f g → GoesOn g h → Alone o f h → Parts o f g h
  alone_parts o f g h p q a = record { first = laws.alone.first o f g h p q a; second = laws.alone.second o f g h p q a }

  -- the newest own entry is new
  pub own_is_new : (o : ℕ) (old new : History Entry) (e : Entry) (es : List Entry) → Grew o old new (e ∷ es) → HasNew (λ (x : ℕ × Entry). x ≡ (o, e)) old new
  own_is_new o old new e es w = ((o, e), laws.grown.newest o old new e es w, refl)
