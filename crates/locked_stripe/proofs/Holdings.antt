-- A service is one hold or two.
use Rattle.std.proofs.Common.{◌≡◌, ℕ, List, [], ◌∷◌, ◌++◌, sym, subst, ap, ◌∙◌}
use Rattle.histories.specs.Histories.{History, GoesOn}
use Rattle.page_base.specs.declared.keys.Key.{Key}
use Rattle.page_model.specs.declared.entry.Entry.{Entry}
use Rattle.page_model.specs.declared.entry.Entry.TheVariants as entry
use Rattle.page_model.specs.Setups.{Setup}
use Rattle.turn_lock.specs.Seen.{PassSeen}
use Rattle.locked_stripe.specs.declared.answers.Served.{Served}
use Rattle.locked_stripe.specs.declared.answers.Served.TheVariants as served
use Rattle.locked_stripe.specs.declared.answers.Back.{Back}
use Rattle.locked_stripe.specs.Answers.{served_next, served_holds, served_entries, back_leaving, back_holds, back_entries, FilledFor, Finds, FindsLeaving}
use Rattle.locked_stripe.specs.Holds.{PassGrew}
use Rattle.locked_stripe.specs.InsideHolds.{OneHold}
use Rattle.locked_stripe.specs.Serves.{ServesOne, MakesRoom}
use Rattle.locked_stripe.specs.InsideLaws.{PagerLaws}
use Rattle.locked_stripe.proofs.Goes.{grew_once, grew_both, goes_past, goes_through}

-- a service of one hold read nothing in
pub none_filled : (h : History Entry) (s : Served) → served_holds s ≡ 1 → FilledFor h s
none_filled h served.Nothing one = tt
none_filled h served.Room one = tt
none_filled h (served.Dropped k) one = tt
none_filled h (served.Opened k) one = tt
none_filled h (served.Filled k why) one = absurd cc
none_filled h (served.ReadFailed k n) one = absurd cc

module _ {T : Type 0} (laws : PagerLaws) where
  pub served_once : (u : Setup) (old new : PassSeen T Entry) (s : Served) (h : History Entry) → OneHold old new h (served_entries s) → served_holds s ≡ 1 → Finds u h (served_next s) → FilledFor new.seen s → ServesOne u old new s
  served_once u old new s h w one next why = record {
    why = why;
    first = h;
    others = w.others;
    next = next;
    onward = goes_past laws old new h (served_entries s) w;
    grew = subst (λ (n : ℕ). PassGrew old new n (served_entries s)) (sym one) (grew_once laws old new h (served_entries s) w);
  }

  pub served_twice : (u : Setup) (old mid new : PassSeen T Entry) (s : Served) (h g : History Entry) (es fs : List Entry) → OneHold old mid h es → OneHold mid new g fs → served_holds s ≡ 2 → served_entries s ≡ fs ++ es → Finds u h (served_next s) → FilledFor new.seen s → ServesOne u old new s
  served_twice u old mid new s h g es fs a b two is next why = record {
    why = why;
    first = h;
    others = a.others;
    next = next;
    onward = laws.order.trans h mid.seen new.seen (goes_past laws old mid h es a) (goes_through laws mid new g fs b);
    grew = subst (λ (n : ℕ). PassGrew old new n (served_entries s)) (sym two) (subst (λ (x : List Entry). PassGrew old new 2 x) (sym is) (grew_both laws old mid new 1 1 es fs (grew_once laws old mid h es a) (grew_once laws mid new g fs b)));
  }

  pub room_once : (u : Setup) (old new : PassSeen T Entry) (s : Back) (h : History Entry) → OneHold old new h (back_entries 0 [] s) → back_holds s ≡ 1 → FindsLeaving u h (back_leaving s) → MakesRoom u old new s
  room_once u old new s h w one leaves = record {
    first = h;
    others = w.others;
    leaves = leaves;
    onward = goes_past laws old new h (back_entries 0 [] s) w;
    at = 0;
    bytes = [];
    grew = subst (λ (n : ℕ). PassGrew old new n (back_entries 0 [] s)) (sym one) (grew_once laws old new h (back_entries 0 [] s) w);
  }

  pub room_twice : (u : Setup) (old mid new : PassSeen T Entry) (s : Back) (h g : History Entry) (es fs : List Entry) (at : ℕ) (bytes : List ℕ) → OneHold old mid h es → OneHold mid new g fs → back_holds s ≡ 2 → back_entries at bytes s ≡ fs ++ es → FindsLeaving u h (back_leaving s) → MakesRoom u old new s
  room_twice u old mid new s h g es fs at bytes a b two is leaves = record {
    first = h;
    others = a.others;
    leaves = leaves;
    onward = laws.order.trans h mid.seen new.seen (goes_past laws old mid h es a) (goes_through laws mid new g fs b);
    at = at;
    bytes = bytes;
    grew = subst (λ (n : ℕ). PassGrew old new n (back_entries at bytes s)) (sym two) (subst (λ (x : List Entry). PassGrew old new 2 x) (sym is) (grew_both laws old mid new 1 1 es fs (grew_once laws old mid h es a) (grew_once laws mid new g fs b)));
  }
