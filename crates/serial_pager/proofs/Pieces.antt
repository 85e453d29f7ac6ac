-- A piece on one stripe of a pager: what its call asks for, and what it leaves.
use Rattle.std.proofs.Common.{◌≡◌, inl, inr, ℕ, ◌+◌, ◌^◌, ◌<◌, ◌≤◌, Bool, true, List, length, get_or, Some, Result, OnOk, IfErr, slice_get, slice_set, [], ◌∷◌, cond, eqb, false, refl, sym, ap, subst, ◌∙◌, arith}
use Rattle.std.proofs.lemmas.Bool.{eq-eqb, eqb-true, false_from_ne_true}
use Rattle.std.proofs.lemmas.Option.{slice_get_read}
use Rattle.histories.specs.Histories.{History}
use Rattle.page_base.specs.declared.keys.Key.{Key}
use Rattle.page_base.specs.declared.keys.Why.{Why}
use Rattle.page_model.specs.declared.entry.Entry.{Entry}
use Rattle.page_model.specs.declared.entry.Entry.TheVariants.{ReadFailed, WriteFailed}
use Rattle.page_model.specs.Core.{is_closing}
use Rattle.page_model.specs.Events.{InPage}
use Rattle.page_model.specs.Setups as setup
use Rattle.page_model.specs.Setups.{Setup}
use Rattle.stripe_core.specs.declared.config.StripeConfig.{StripeConfig}
use Rattle.serial_pager.specs.declared.fault.PageFault.{PageFault}
use Rattle.serial_pager.specs.Seen.{StripeSeen}
use Rattle.serial_pager.specs.Rests.{ClosesSame, IsAtRest}
use Rattle.serial_pager.specs.Goings.{Went, WentTo}
use Rattle.serial_pager.specs.Accesses.{AccessFails, serves}
use Rattle.serial_pager.specs.Pagers.{PagerSeen, core_in, closes_in, closes_at, has_key, stripe_at, IsPiece, WentToIn, PieceFails, NamesFault, made_in}
use Rattle.serial_pager.specs.Sound.{seen_of}
use Rattle.serial_pager.specs.InsideSound.{Goes, GoesEach, IsStripe, IsSound}
use Rattle.serial_pager.proofs.Goes.{went_nowhere}
use Rattle.serial_pager.proofs.Results.{if_err, on_ok}
use Rattle.serial_pager.proofs.Stripes.{each_set, pages_of_stripe, stripe_of_pages}
use Rattle.serial_pager.proofs.Walks.{goes_nowhere}

-- a stripe of a pager that is seen as v
pub stripe_here : {J : Type 0} (c : StripeConfig) (was : List (StripeSeen J)) (spent : ℕ) (v : PagerSeen J) → seen_of c was spent ≡ v → (s : ℕ) (x : StripeSeen J) → s < length v.stripes → x ≡ get_or was s x → slice_get was s ≡ Some x
stripe_here {J} c was spent v view s x below is = slice_get_read was (length was) s x refl (subst (λ (p : PagerSeen J). s < length p.stripes) (sym view) below) is

-- it has page k
module _ {J : Type 0} (c : StripeConfig) (was : List (StripeSeen J)) (spent : ℕ) (v : PagerSeen J) (view : seen_of c was spent ≡ v) (sound : IsSound (seen_of c was spent)) (s : ℕ) (x : StripeSeen J) (here : slice_get was s ≡ Some x) (k : Key) (at : s ≡ stripe_at v k) (page : has_key v k ≡ true) where
  part : IsStripe (seen_of c was spent) s x.core
  part = sound.each s x here

  pub page_here : setup.has_page x.core.setup k ≡ true
  page_here = stripe_of_pages (seen_of c was spent) s x.core part k (ap (λ (p : PagerSeen J). has_key p k) view ∙ page) (ap (λ (p : PagerSeen J). stripe_at p k) view ∙ sym at)

  pub closes_here : (r : ℕ) → is_closing x.core r ≡ closes_at v (stripe_at v k) r
  closes_here r = sym (ap (λ o. closes_in (core_in o) r) here) ∙ (ap (λ (p : PagerSeen J). closes_at p s r) view ∙ ap (λ n. closes_at v n r) at)

  -- what an access of a piece asks for
  pub record MayAccess (place len : ℕ) : Type 0 where
    pub rest : IsAtRest x.core
    pub few : x.core.events + 2 ^ 16 ≤ 2 ^ 62
    pub size : x.core.setup.page_size ≡ c.layout.page_size
    pub not_closing : is_closing x.core k.region ≡ false
    pub in_page : InPage x.core.setup k place len

  pub may_access : (place len : ℕ) → IsPiece v k place len → v.spent < 2 ^ 44 → MayAccess place len
  may_access place len piece few = record {
    rest = part.rest;
    few = omega (arith, part.few, few, ap (λ (p : PagerSeen J). p.spent) view);
    size = part.page_size;
    not_closing = closes_here k.region ∙ piece.open_;
    in_page = record { page = page_here; some = piece.some; inside = subst (λ n. place + len ≤ n) (sym (part.page_size ∙ ap (λ (p : PagerSeen J). p.page_size) view)) piece.within };
  }

  -- ---- afterwards

  module _ (y : StripeSeen J) where
    abbrev new : PagerSeen J
    new = seen_of c (slice_set was s y) (spent + 1)

    pub goes_in : Goes 1 ClosesSame x y → GoesEach 1 ClosesSame was (slice_set was s y)
    goes_in goes = each_set was s x y here (λ n a b. Goes 1 ClosesSame a b) goes (λ n a other is. goes_nowhere ClosesSame (λ d r. refl) a (sound.each n a is).rest)

    module _ (noted : J → History Entry → Type 0) (reasons : Why → Bool) where
      -- what one stripe made is all that was made
      went_in : (last : Entry) → WentTo 0 noted (serves k reasons) last x y → WentToIn 0 noted (stripe_at v k) (serves k reasons) last v new
      went_in last w =
          let these : Bool → List Entry = λ b. cond b (last ∷ w.before) [] in
          subst (λ n. WentToIn 0 noted n (serves k reasons) last v new) at (subst (λ (p : PagerSeen J). WentToIn 0 noted s (serves k reasons) last p new) view (record {
            before = w.before;
            pass = w.pass;
            went = each_set was s x y here (λ n a b. Went 0 noted (made_in s (last ∷ w.before) n) a b)
                (subst (λ b. Went 0 noted (these b) x y) (sym (eq-eqb s s refl)) w.went)
                (λ n a other is. subst (λ b. Went 0 noted (these b) a a) (sym (false_from_ne_true (eqb n s) (λ e. other (eqb-true n s e)))) (went_nowhere noted a));
          }))

      pub piece_ok : {T : Type 0} (result : Result T PageFault) (last : Entry) → OnOk result (WentTo 0 noted (serves k reasons) last x y) → OnOk result (WentToIn 0 noted (stripe_at v k) (serves k reasons) last v new)
      piece_ok result last w = on_ok result w (went_in last)

      pub piece_fails : {T : Type 0} (result : Result T PageFault) → IfErr result (AccessFails 0 noted k reasons x y) → IfErr result (PieceFails 0 noted k reasons v new)
      piece_fails result w = if_err result w (λ f e. elim e [
        | inl r ↦ inl (r.key, went_in (ReadFailed f.key f.faults) r.went)
        | inr e ↦ inr (went_in (WriteFailed f.key f.faults) e)
      ])

      -- the fault is of a page of the stripe
      pub piece_names : {T : Type 0} (result : Result T PageFault) → IfErr result (AccessFails 0 noted k reasons x y) → IfErr result (NamesFault k v)
      piece_names result w = if_err result w (λ f e. elim e [
        | inl r ↦ record { page = ap (has_key v) r.key ∙ page; stripe = ap (stripe_at v) r.key }
        | inr e ↦
            let there : setup.has_page x.core.setup f.key ≡ true = subst (λ (u : Setup). setup.has_page u f.key ≡ true) e.went.setup (e.went.stands part.rest.history part.rest.stands).legal.1 in
            let found = pages_of_stripe (seen_of c was spent) s x.core part f.key there in
            record { page = sym (ap (λ (p : PagerSeen J). has_key p f.key) view) ∙ found.0; stripe = sym (ap (λ (p : PagerSeen J). stripe_at p f.key) view) ∙ (found.1 ∙ at) }
      ])
