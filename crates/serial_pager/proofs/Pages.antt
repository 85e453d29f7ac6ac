-- Keys that are the same, and the resident pages by their keys.
use Rattle.std.proofs.Common.{refl, true, ◌==◌, ◌≡◌, Bool, List, None, Option, Some, [], ap, arith, cond, false, find, inl, inr, length, map, not, sym, ◌++◌, ◌∙◌, ◌∷◌, ◌<◌, ◌≤◌}
use Rattle.std.proofs.lemmas.Bool.{and_from, and_parts, eq-eqb, eqb-true, cases_Bool, cond-true, cond-false}
use Rattle.page_base.specs.Pages.{same}
use Rattle.page_base.specs.declared.keys.Key.{Key}
use Rattle.std.specs.Option.{option_map}
use Rattle.page_model.specs.Core.{Resident}
use Rattle.page_model.specs.Steps.{on_page, without_page}

pub same-true : (a b : Key) → same a b ≡ true → a ≡ b
same-true a b e =
    let parts = and_parts (a.page == b.page) (a.region == b.region) e in
    let p : a.page ≡ b.page = eqb-true a.page b.page parts.0 in
    let r : a.region ≡ b.region = eqb-true a.region b.region parts.1 in
    λ i. record { region = r i; page = p i }

pub same_self : (a : Key) → same a a ≡ true
same_self a = and_from (a.page == a.page) (a.region == a.region) (eq-eqb a.page a.page refl) (eq-eqb a.region a.region refl)

-- ---- the page of a key, after a change of the resident pages

-- page_at, over the list alone
abbrev pub page_in : List Resident → Key → Option Resident
page_in rs k = find (λ (r : Resident). same r.key k) rs

-- ---- one page more

pub appended_other : (rs : List Resident) (new : Resident) (k : Key) → same new.key k ≡ false → page_in (rs ++ new ∷ []) k ≡ page_in rs k
appended_other [] new k e = cond-false (same new.key k) (Some new) None e
appended_other (r ∷ rs) new k e = ap (λ o. cond (same r.key k) (Some r) o) (appended_other rs new k e)

pub appended_here : (rs : List Resident) (new : Resident) (k : Key) → page_in rs k ≡ None → same new.key k ≡ true → page_in (rs ++ new ∷ []) k ≡ Some new
appended_here [] new k none e = cond-true (same new.key k) (Some new) None e
appended_here (r ∷ rs) new k none e = go (same r.key k) (appended_here rs new k) none
  where
    go : (b : Bool) → (page_in rs k ≡ None → same new.key k ≡ true → page_in (rs ++ new ∷ []) k ≡ Some new) → cond b (Some r) (page_in rs k) ≡ None → cond b (Some r) (page_in (rs ++ new ∷ []) k) ≡ Some new
    go true ih n = absurd cc
    go false ih n = ih n e

-- ---- one page changed

pub changed_other : (j : Key) (f : Resident → Resident) (rs : List Resident) (k : Key) → ((r : Resident) → (f r).key ≡ r.key) → (j ≡ k → ⊥) → page_in (on_page j f rs) k ≡ page_in rs k
changed_other j f [] k keeps ne = refl
changed_other j f (r ∷ rs) k keeps ne = go (same r.key j) refl (changed_other j f rs k keeps ne)
  where
    apart : (x : Resident) → x.key ≡ j → same x.key k ≡ false
    apart x e = elim (cases_Bool (same x.key k)) [
      | inl t ↦ absurd (ne (sym e ∙ same-true x.key k t))
      | inr n ↦ n
    ]

    go : (b : Bool) → same r.key j ≡ b → page_in (on_page j f rs) k ≡ page_in rs k → page_in (cond b (f r) r ∷ on_page j f rs) k ≡ page_in (r ∷ rs) k
    go true is ih =
        let at : r.key ≡ j = same-true r.key j is in
        cond-false (same (f r).key k) (Some (f r)) (page_in (on_page j f rs) k) (apart (f r) (keeps r ∙ at)) ∙ (ih ∙ sym (cond-false (same r.key k) (Some r) (page_in rs k) (apart r at)))
    go false is ih = ap (λ o. cond (same r.key k) (Some r) o) ih

pub changed_here : (k : Key) (f : Resident → Resident) (rs : List Resident) → ((r : Resident) → (f r).key ≡ r.key) → page_in (on_page k f rs) k ≡ option_map f (page_in rs k)
changed_here k f [] keeps = refl
changed_here k f (r ∷ rs) keeps = go (same r.key k) refl (changed_here k f rs keeps)
  where
    go : (b : Bool) → same r.key k ≡ b → page_in (on_page k f rs) k ≡ option_map f (page_in rs k) → page_in (cond b (f r) r ∷ on_page k f rs) k ≡ option_map f (cond b (Some r) (page_in rs k))
    go true is ih = let there : same (f r).key k ≡ true = rw (keeps r) is in cond-true (same (f r).key k) (Some (f r)) (page_in (on_page k f rs) k) there
    go false is ih = cond-false (same r.key k) (Some r) (page_in (on_page k f rs) k) is ∙ ih

-- ---- one page gone

pub removed_other : (j : Key) (rs : List Resident) (k : Key) → (j ≡ k → ⊥) → page_in (without_page j rs) k ≡ page_in rs k
removed_other j [] k ne = refl
removed_other j (r ∷ rs) k ne = go (same r.key j) refl (removed_other j rs k ne)
  where
    go : (b : Bool) → same r.key j ≡ b → page_in (without_page j rs) k ≡ page_in rs k → page_in (cond (not b) (r ∷ without_page j rs) (without_page j rs)) k ≡ page_in (r ∷ rs) k
    go true is ih = ih ∙ sym (elim (cases_Bool (same r.key k)) [
      | inl t ↦ absurd (ne (sym (same-true r.key j is) ∙ same-true r.key k t))
      | inr n ↦ cond-false (same r.key k) (Some r) (page_in rs k) n
    ])
    go false is ih = ap (λ o. cond (same r.key k) (Some r) o) ih

pub removed_here : (k : Key) (rs : List Resident) → page_in (without_page k rs) k ≡ None
removed_here k [] = refl
removed_here k (r ∷ rs) = go (same r.key k) refl (removed_here k rs)
  where
    go : (b : Bool) → same r.key k ≡ b → page_in (without_page k rs) k ≡ None → page_in (cond (not b) (r ∷ without_page k rs) (without_page k rs)) k ≡ None
    go true is ih = ih
    go false is ih = cond-false (same r.key k) (Some r) (page_in (without_page k rs) k) is ∙ ih

pub removed_most : (k : Key) (rs : List Resident) → length (without_page k rs) ≤ length rs
removed_most k [] = omega arith
removed_most k (r ∷ rs) = go (not (same r.key k)) (removed_most k rs)
  where
    go : (b : Bool) → length (without_page k rs) ≤ length rs → length (cond b (r ∷ without_page k rs) (without_page k rs)) ≤ length (r ∷ rs)
    go true ih = omega arith
    go false ih = omega arith

pub removed_fewer : (k : Key) (rs : List Resident) (x : Resident) → page_in rs k ≡ Some x → length (without_page k rs) < length rs
removed_fewer k [] x e = absurd cc
removed_fewer k (r ∷ rs) x e = go (same r.key k) (removed_most k rs) (removed_fewer k rs x) e
  where
    go : (b : Bool) → length (without_page k rs) ≤ length rs → (page_in rs k ≡ Some x → length (without_page k rs) < length rs) → cond b (Some r) (page_in rs k) ≡ Some x → length (cond (not b) (r ∷ without_page k rs) (without_page k rs)) < length (r ∷ rs)
    go true most ih f = omega arith
    go false most ih f = let less = ih f in omega arith

-- a change of one page that keeps its key keeps all keys
pub changed_keys : (k : Key) (f : Resident → Resident) (rs : List Resident) → ((r : Resident) → (f r).key ≡ r.key) → map (λ (r : Resident). r.key) (on_page k f rs) ≡ map (λ (r : Resident). r.key) rs
changed_keys k f [] keeps = refl
changed_keys k f (r ∷ rs) keeps = ap (λ x. x ∷ map (λ (y : Resident). y.key) (on_page k f rs)) (head (same r.key k)) ∙ ap (λ ks. r.key ∷ ks) (changed_keys k f rs keeps)
  where
    head : (b : Bool) → (cond b (f r) r).key ≡ r.key
    head true = keeps r
    head false = refl
