-- Lists that are made item by item of the items of a list, which are popped from its reversed list.
use Rattle.std.proofs.Common.{◌≡◌, List, [], ◌∷◌, ◌++◌, length, map, reverse, refl, sym, ap, ◌∙◌, arith, append_assoc, append-nil}
use Rattle.std.proofs.lemmas.List.{map-append, reverse-append, reverse-reverse}
use Rattle.page_base.specs.Lanes.{Origin, LaneSeen}
use Rattle.page_base.specs.ListSeen.{ListSeen}
use Rattle.store_trait.specs.FailLanes.{FailSeen, fail_seen}
use Rattle.store_trait.specs.MemLanes.{lane_seen}
use Rattle.store_trait.specs.declared.mem_lane.MemLane.{MemLane}

module _ {A B O : Type 0} (o : B → O) (p : A → O) where
  pub none : (all : List A) → map o [] ++ map p (reverse (reverse all)) ≡ map p all
  none all = ap (map p) (reverse-reverse all)

  pub more : (made : List B) (y : B) (xs new : List A) (x : A) (all : List O) → xs ≡ new ++ x ∷ [] → o y ≡ p x → map o made ++ map p (reverse xs) ≡ all → map o (made ++ y ∷ []) ++ map p (reverse new) ≡ all
  more made y xs new x all is same h =
      ap (λ (os : List O). os ++ map p (reverse new)) (map-append o made (y ∷ []))
      ∙ append_assoc (map o made) (o y ∷ []) (map p (reverse new))
      ∙ ap (λ (z : O). map o made ++ z ∷ map p (reverse new)) same
      ∙ sym (ap (λ (ys : List A). map o made ++ map p (reverse ys)) is ∙ ap (λ (ys : List A). map o made ++ map p ys) (reverse-append new (x ∷ [])))
      ∙ h

  pub done : (made : List B) (xs : List A) (all : List O) → xs ≡ [] → map o made ++ map p (reverse xs) ≡ all → map o made ≡ all
  done made xs all none h = sym (append-nil (map o made)) ∙ sym (ap (λ (ys : List A). map o made ++ map p (reverse ys)) none) ∙ h

pub none_left : {A : Type 0} (xs : List A) → length xs ≡ 0 → xs ≡ []
none_left [] e = refl
none_left (x ∷ xs) e = absurd (omega (arith, e))

-- which lane it is, by what is inside
abbrev pub mem_origin : MemLane → Origin
mem_origin l = (lane_seen l).origin

abbrev pub fail_origin : FailSeen MemLane → Origin
fail_origin l = (fail_seen lane_seen l).origin

abbrev pub mem_origins : ListSeen MemLane → List Origin
mem_origins row = map (λ (l : LaneSeen). l.origin) (map lane_seen row.items)

abbrev pub fail_origins : ListSeen (FailSeen MemLane) → List Origin
fail_origins row = map (λ (l : LaneSeen). l.origin) (map (fail_seen lane_seen) row.items)
