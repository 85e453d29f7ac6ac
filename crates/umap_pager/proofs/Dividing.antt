-- Passes that are split and folded, one stripe after another.
use Rattle.std.proofs.Common.{◌≡◌, ℕ, zero, suc, ◌+◌, ◌≤◌, ◌<◌, ◌==◌, ◌⊎◌, inl, inr, List, [], ◌∷◌, ◌++◌, length, length-append, map, slice_set, append_assoc, append-nil, Some, arith, refl, sym, subst, ap, ◌∙◌}
use Rattle.std.specs.List.{slice_get}
use Rattle.std.proofs.lemmas.Bool.{cases_Bool, eqb-true, eq-eqb}
use Rattle.std.specs.Option.{option_map}
use Rattle.std.proofs.lemmas.List.{length-map}
use Rattle.std.proofs.lemmas.Option.{slice_get-map, slice_get_within}
use Rattle.page_model.specs.declared.entry.Entry.{Entry}
use Rattle.turn_lock.specs.Seen.{LockSeen, PassSeen, IsPassOf, split_once, newcomer}
use Rattle.locked_stripe.specs.declared.stripe_box.StripeBox.{StripeBox}
use Rattle.umap_pager.specs.Passes.{PassesSeen, FitTo, FoldsOne, FoldsAll, split_all, newcomers}
use Rattle.umap_pager.specs.Shared.{SharedPager}
use Rattle.umap_pager.proofs.Ending.{at_seam}
use Rattle.umap_pager.proofs.Locks.{has_item, slice_set_same, slice_set_other}

some_is : {A : Type 0} {x y : A} → Some x ≡ Some y → x ≡ y
some_is e = cc

same_or_apart : (a b : ℕ) → (a ≡ b) ⊎ (a ≡ b → ⊥)
same_or_apart a b = elim (cases_Bool (a == b)) [
  | inl e ↦ inl (eqb-true a b e)
  | inr n ↦ inr (λ e. let y = eq-eqb a b e in absurd cc)
]

front_at : {A : Type 0} (xs ys : List A) (s : ℕ) (x : A) → slice_get xs s ≡ Some x → slice_get (xs ++ ys) s ≡ Some x
front_at [] ys s x e = absurd cc
front_at (z ∷ xs) ys zero x e = e
front_at (z ∷ xs) ys (suc s) x e = front_at xs ys s x e

-- a list whose items are those of another, each changed so
pub all_changed : {A B : Type 0} (f : A → B) (xs : List A) (ys : List B) → length ys ≡ length xs → ((s : ℕ) (x : A) → slice_get xs s ≡ Some x → slice_get ys s ≡ Some (f x)) → ys ≡ map f xs
all_changed f [] [] same each = refl
all_changed f [] (y ∷ ys) same each = absurd (omega (arith, same))
all_changed f (x ∷ xs) [] same each = absurd (omega (arith, same))
all_changed f (x ∷ xs) (y ∷ ys) same each = ap (λ z. z ∷ ys) (some_is (each 0 x refl)) ∙ ap (λ zs. f x ∷ zs) (all_changed f xs ys (omega (arith, same)) (λ s z e. each (suc s) z e))

module _ {T : Type 0} where
  -- the first i passes have split one off each
  pub record SplitSoFar (olds nows news : List (PassSeen T Entry)) (i : ℕ) : Type 0 where
    pub split : (s : ℕ) (old : PassSeen T Entry) → s < i → slice_get olds s ≡ Some old → slice_get nows s ≡ Some (split_once old)
    pub rest : (s : ℕ) → i ≤ s → slice_get nows s ≡ slice_get olds s
    pub off : (s : ℕ) (old : PassSeen T Entry) → s < i → slice_get olds s ≡ Some old → slice_get news s ≡ Some (newcomer old)

  pub split_none : (olds news : List (PassSeen T Entry)) → SplitSoFar olds olds news 0
  split_none olds news = record {
    split = λ s old below e. absurd (omega (arith, below));
    rest = λ s le. refl;
    off = λ s old below e. absurd (omega (arith, below));
  }

  pub split_more : (olds nows news : List (PassSeen T Entry)) (i : ℕ) (p : PassSeen T Entry) → slice_get olds i ≡ Some p → length news ≡ i → SplitSoFar olds nows news i → SplitSoFar olds (slice_set nows i (split_once p)) (news ++ newcomer p ∷ []) (i + 1)
  split_more olds nows news i p there long f = record {
    split = λ s old below e. elim (same_or_apart s i) [
      | inl same ↦
          let is : p ≡ old = some_is (sym there ∙ ap (slice_get olds) (sym same) ∙ e) in
          subst (λ (n : ℕ). slice_get (slice_set nows i (split_once p)) n ≡ Some (split_once old)) (sym same)
          (slice_set_same nows i p (split_once p) (f.rest i (omega arith) ∙ there) ∙ ap (λ q. Some (split_once q)) is)
      | inr other ↦ slice_set_other nows i s (split_once p) other ∙ f.split s old (omega (arith, below, other)) e
    ];
    rest = λ s le. slice_set_other nows i s (split_once p) (λ same. omega (arith, same, le)) ∙ f.rest s (omega (arith, le));
    off = λ s old below e. elim (same_or_apart s i) [
      | inl same ↦
          let is : p ≡ old = some_is (sym there ∙ ap (slice_get olds) (sym same) ∙ e) in
          ap (slice_get (news ++ newcomer p ∷ [])) (same ∙ sym long) ∙ at_seam news [] (newcomer p) ∙ ap (λ q. Some (newcomer q)) is
      | inr other ↦ front_at news (newcomer p ∷ []) s (newcomer old) (f.off s old (omega (arith, below, other)) e)
    ];
  }

  -- the passes behind those that are left were folded
  pub record FoldSoFar (olds others nows left : List (PassSeen T Entry)) : Type 0 where
    pub back : List (PassSeen T Entry)
    pub others_are : others ≡ left ++ back
    pub folds : (s : ℕ) (a b c : PassSeen T Entry) → length left ≤ s → slice_get olds s ≡ Some a → slice_get others s ≡ Some b → slice_get nows s ≡ Some c → FoldsOne a b c
    pub rest : (s : ℕ) → s < length left → slice_get nows s ≡ slice_get olds s

  pub fold_none : (olds others : List (PassSeen T Entry)) → length others ≡ length olds → FoldSoFar olds others olds others
  fold_none olds others many = record {
    back = [];
    others_are = sym (append-nil others);
    folds = λ s a b c past d e f. absurd (let within = slice_get_within olds s a d in omega (arith, within, past, many));
    rest = λ s below. refl;
  }

  pub fold_at : (olds others nows left fewer : List (PassSeen T Entry)) (p : PassSeen T Entry) → FoldSoFar olds others nows left → left ≡ fewer ++ p ∷ [] → slice_get others (length fewer) ≡ Some p
  fold_at olds others nows left fewer p f pop = ap (λ xs. slice_get xs (length fewer)) (f.others_are ∙ ap (λ xs. xs ++ f.back) pop ∙ append_assoc fewer (p ∷ []) f.back) ∙ at_seam fewer f.back p

  pub fold_more : (olds others nows left fewer : List (PassSeen T Entry)) (a p new : PassSeen T Entry) → FoldSoFar olds others nows left → left ≡ fewer ++ p ∷ [] → slice_get olds (length fewer) ≡ Some a → FoldsOne a p new → FoldSoFar olds others (slice_set nows (length fewer) new) fewer
  fold_more olds others nows left fewer a p new f pop there one = record {
    back = p ∷ f.back;
    others_are = f.others_are ∙ ap (λ xs. xs ++ f.back) pop ∙ append_assoc fewer (p ∷ []) f.back;
    folds = λ s x y z past d e g. elim (same_or_apart s (length fewer)) [
      | inl same ↦
          let its_a : a ≡ x = some_is (sym there ∙ ap (slice_get olds) (sym same) ∙ d) in
          let its_p : p ≡ y = some_is (sym (fold_at olds others nows left fewer p f pop) ∙ ap (slice_get others) (sym same) ∙ e) in
          let its_new : new ≡ z = some_is (sym (slice_set_same nows (length fewer) a new (f.rest (length fewer) (omega (arith, count)) ∙ there)) ∙ ap (slice_get (slice_set nows (length fewer) new)) (sym same) ∙ g) in
          subst (λ (q : PassSeen T Entry). FoldsOne q y z) its_a (subst (λ (q : PassSeen T Entry). FoldsOne a q z) its_p (subst (λ (q : PassSeen T Entry). FoldsOne a p q) its_new one))
      | inr other ↦ f.folds s x y z (omega (arith, count, past, other)) d e (sym (slice_set_other nows (length fewer) s new other) ∙ g)
    ];
    rest = λ s below. slice_set_other nows (length fewer) s new (λ same. omega (arith, same, below)) ∙ f.rest s (omega (arith, below, count));
  }
    where
      count : length left ≡ length fewer + 1
      count = ap length pop ∙ length-append fewer (p ∷ [])

module _ {S J : Type 0} where
  pub folds_all : (old other new : PassesSeen (StripeBox S J)) (left : List (PassSeen (StripeBox S J) Entry)) → FoldSoFar old.passes other.passes new.passes left → left ≡ [] → length new.passes ≡ length old.passes → new.scratch ≡ old.scratch → FoldsAll old other new
  folds_all old other new left f none many scratch = record {
    as_many = many;
    scratch = scratch;
    each = λ s a b c d e g. f.folds s a b c (let empty = ap length none in omega (arith, empty)) d e g;
  }

  pub fold_fit : (pager : SharedPager S J) (old other new : PassesSeen (StripeBox S J)) → FitTo pager old → FitTo pager other → FoldsAll old other new → FitTo pager new
  fold_fit pager old other new fit its f = record {
    as_many = f.as_many ∙ fit.as_many;
    each = λ s lock pass d e.
        let below = slice_get_within new.passes s pass e in
        let a = has_item old.passes s (omega (arith, below, f.as_many)) in
        let b = has_item other.passes s (omega (arith, below, f.as_many, fit.as_many, its.as_many)) in
        let one = f.each s a.0 b.0 pass a.1 b.1 e in
        let own = fit.each s lock a.0 d a.1 in
        (ap (λ (p : PassSeen (StripeBox S J) Entry). p.lock) one.is ∙ own.0, ap (λ (p : PassSeen (StripeBox S J) Entry). p.inside) one.is ∙ own.1);
    sized = f.scratch ∙ fit.sized;
  }

  changed_fit : (pager : SharedPager S J) (p : PassesSeen (StripeBox S J)) (f : PassSeen (StripeBox S J) Entry → PassSeen (StripeBox S J) Entry) → ((lock : LockSeen (StripeBox S J)) (pass : PassSeen (StripeBox S J) Entry) → IsPassOf lock pass → IsPassOf lock (f pass)) → FitTo pager p → FitTo pager (record p { passes = map f p.passes })
  changed_fit pager p f keeps fit = record {
    as_many = length-map p.passes f ∙ fit.as_many;
    each = λ s lock pass d e.
        let below = slice_get_within (map f p.passes) s pass e in
        let a = has_item p.passes s (omega (arith, below, length-map p.passes f)) in
        let is : f a.0 ≡ pass = some_is (sym (slice_get-map f p.passes s ∙ ap (option_map f) a.1) ∙ e) in
        subst (λ (q : PassSeen (StripeBox S J) Entry). IsPassOf lock q) is (keeps lock a.0 (fit.each s lock a.0 d a.1));
    sized = fit.sized;
  }

  pub split_fit : (pager : SharedPager S J) (p : PassesSeen (StripeBox S J)) → FitTo pager p → FitTo pager (split_all p)
  split_fit pager p fit = changed_fit pager p split_once (λ lock pass own. own) fit

  pub newcomers_fit : (pager : SharedPager S J) (p : PassesSeen (StripeBox S J)) → FitTo pager p → FitTo pager (newcomers p)
  newcomers_fit pager p fit = changed_fit pager p newcomer (λ lock pass own. (own.0, refl)) fit
