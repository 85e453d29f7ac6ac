-- How a call shows in histories.
use Rattle.std.proofs.Common.{◌≡◌, Bool, true, List, [], ◌∷◌, Option, Some, None, refl, sym, subst, ap}
use Rattle.std.specs.List.{list_all, slice_get}
use Rattle.std.proofs.lemmas.Bool.{and_from, and_parts}
use Rattle.histories.specs.Histories.{Grew}
use Rattle.page_base.specs.declared.keys.Key.{Key}
use Rattle.page_base.specs.declared.keys.Why.{Why}
use Rattle.page_model.specs.declared.entry.Entry.{Entry}
use Rattle.page_model.specs.declared.entry.Entry.TheVariants as entry
use Rattle.turn_lock.specs.Seen.{PassSeen}
use Rattle.umap_pager.specs.Went.{PassWent, WentKnows, seen_or_none, number_or_0, is_serving, is_part, at_hand, are_tries}

part_serves : (reasons : Why → Bool) (k : Key) (e : Entry) → is_part reasons k e ≡ true → is_serving e ≡ true
part_serves reasons k (entry.Load j place bytes) a = refl
part_serves reasons k (entry.Save j place bytes) a = refl
part_serves reasons k (entry.Raised j why) a = refl
part_serves reasons k (entry.StartRead j) a = refl
part_serves reasons k (entry.Filled j) a = refl
part_serves reasons k (entry.ReadFailed j n) a = refl
part_serves reasons k (entry.Opened j) a = refl
part_serves reasons k (entry.Dropped j) a = refl
part_serves reasons k (entry.StartWrite j cause) a = a
part_serves reasons k (entry.Written j at bytes) a = refl
part_serves reasons k (entry.WriteFailed j n) a = refl
part_serves reasons k (entry.Evicted j cause) a = a
part_serves reasons k (entry.Hint j answer) a = absurd cc
part_serves reasons k (entry.Closing r) a = absurd cc
part_serves reasons k (entry.Unmapped r) a = absurd cc

all_serve : (reasons : Why → Bool) (k : Key) (own : List Entry) → are_tries reasons k own ≡ true → list_all is_serving own ≡ true
all_serve reasons k [] a = refl
all_serve reasons k (e ∷ es) a =
    let x = and_parts (is_part reasons k e) (are_tries reasons (at_hand k e) es) a in
    and_from (is_serving e) (list_all is_serving es) (part_serves reasons k e x.0) (all_serve reasons (at_hand k e) es x.1)

module _ {T : Type 0} where
  grew_at : (a b : Option (PassSeen T Entry)) (own : List Entry) → PassWent a b own → Grew (number_or_0 a) (seen_or_none a) (seen_or_none b) own
  grew_at None None own p = subst (λ (es : List Entry). Grew 0 [] [] es) (sym p) (record { later = []; is = refl; own_are = refl })
  grew_at None (Some y) own p = absurd p
  grew_at (Some x) None own p = absurd p
  grew_at (Some x) (Some y) own p = p.1.seen

  same_owner : (a b : Option (PassSeen T Entry)) (own : List Entry) → PassWent a b own → number_or_0 b ≡ number_or_0 a
  same_owner None None own p = refl
  same_owner None (Some y) own p = absurd p
  same_owner (Some x) None own p = absurd p
  same_owner (Some x) (Some y) own p = ap (λ (q : PassSeen T Entry). q.number) p.1.after

pub went_shows : (T : Type 0) → WentKnows T
went_shows T = record {
  grew = λ stripe old new accesses own w s. grew_at (slice_get old.passes s) (slice_get new.passes s) (own s) (w.each s);
  owners = λ stripe old new accesses own w s. same_owner (slice_get old.passes s) (slice_get new.passes s) (own s) (w.each s);
  serving = all_serve;
}
