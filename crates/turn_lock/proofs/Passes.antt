-- The fields of a pass after a split and after a fold, and the terms of two passes of one lock.
use Rattle.std.proofs.Common.{◌≡◌, ℕ, ◌+◌, ◌-◌, ◌≤◌, false, [], length, Option, Some, refl, ap, sym, ◌∙◌, subst, arith, true≢false}
use Rattle.atomic_table.specs.Seated.{TableId}
use Rattle.atomic_table.specs.Table.{Me}
use Rattle.turn_lock.specs.declared.view.Terms.{Terms}
use Rattle.turn_lock.specs.declared.view.Turn.{Turn}
use Rattle.turn_lock.specs.declared.view.Turn.TheVariants.{Out, Waits, Inside}
use Rattle.turn_lock.specs.declared.view.View.{View}
use Rattle.turn_lock.specs.Seen.{LockSeen}
use Rattle.turn_lock.specs.Fields.{lock_seen}
use Rattle.turn_lock.specs.InsideFields.{waits_for_turn, IsSound}
use Rattle.turn_lock.specs.Views.{is_inside}
use Rattle.turn_lock.specs.InsideViews.{seats_of, new_view}
use Rattle.turn_lock.specs.InsidePlays.{Known}

-- a pass that is in no hold has no ticket
pub is_out : (turn : Turn) → waits_for_turn turn ≡ false → is_inside turn ≡ false → turn ≡ Out
is_out Out w i = refl
is_out (Waits n) w i = absurd (true≢false w)
is_out (Inside n) w i = absurd (true≢false i)

module _ {T : Type 0} where
  -- a lock's terms are told by what is seen of it
  abbrev terms_of : LockSeen T → Terms T
  terms_of l = record { origin = record { value = l.origin; marker = record {} }; seats = l.seats; holds = l.holds }

  pub same_terms : (a b : TableId) (s t : Terms T) → lock_seen a s ≡ lock_seen b t → s ≡ t
  same_terms a b s t e = ap terms_of e

module _ {T E : Type 0} where
  pub new_is_sound : (v : View T E) (n : Me (Option T) (View T E)) (terms : Terms T) (spare out : ℕ) → v.terms ≡ Some terms → v.spare ≡ spare → out + length v.ended + spare + 1 ≤ terms.seats → n ≡ (new_view v, []) → Known n.0
      → IsSound n terms (terms.seats - spare) 0 0 terms.holds
  new_is_sound v n terms spare out told has fits is known =
      let P : Me (Option T) (View T E) → Type 0 = λ m. Known m.0 → IsSound m terms (terms.seats - spare) 0 0 terms.holds in
      subst P (sym is) (λ (k : Known (new_view v)). record {
        live = refl;
        told = told;
        number_is = ap (λ o. seats_of o - v.spare) told ∙ ap (λ (m : ℕ). terms.seats - m) has;
        spare_is = refl;
        left_is = omega arith;
        out_is = λ z. absurd (omega arith);
        fits = omega arith;
        settled = refl;
        slots = refl;
        own = k.own;
      }) known
