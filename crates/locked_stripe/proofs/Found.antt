-- What a look finds.
use Rattle.std.proofs.Common.{◌≡◌, ◌≢◌, ℕ, nat_le, ◌<◌, Bool, true, false, ◌||◌, List, [], ◌∷◌, ◌++◌, length, cond, refl, sym, subst, ap, ◌∙◌, arith, ◌⊎◌, inl, inr, length-append}
use Rattle.std.proofs.lemmas.Bool.{leb-true}
use Rattle.histories.specs.Histories.{History}
use Rattle.page_base.specs.declared.keys.Key.{Key}
use Rattle.page_base.specs.declared.keys.Raise.{Raise}
use Rattle.page_base.specs.declared.keys.Why.{Why}
use Rattle.page_model.specs.declared.entry.Entry.{Entry}
use Rattle.page_model.specs.declared.entry.Entry.TheVariants as entry
use Rattle.page_model.specs.Core.{Core, is_closing, is_present, is_pending, is_reading, is_full, is_guarded}
use Rattle.page_model.specs.Faults.{is_waiting, pending, is_pending as old_pending}
use Rattle.page_model.specs.InFlight.{is_reading as old_reading}
use Rattle.page_model.specs.Readers.{PageReads}
use Rattle.page_model.specs.Setups.{Setup}
use Rattle.page_model.specs.Stands.{StandsFor}
use Rattle.locked_stripe.specs.Calls.{for_store}
use Rattle.locked_stripe.specs.InsideLooks.{fault_of, raised_by}
use Rattle.stripe_core.specs.Answers.{load_look, save_look, raise_answer}
use Rattle.stripe_core.specs.declared.answers.Look.{Look}
use Rattle.stripe_core.specs.declared.answers.Look.TheVariants as look
use Rattle.stripe_core.specs.declared.answers.Raise.{Raise as Raise_}
use Rattle.stripe_core.specs.declared.answers.Raise.TheVariants as raise

pub closed_load : (c : Core) (k : Key) → look.Closed ≡ load_look c k → is_closing c k.region ≡ true
closed_load c k e = at (is_closing c k.region) (is_present c k) e
  where
    at : (a b : Bool) → look.Closed ≡ cond a look.Closed (cond b look.Hit look.Missing) → a ≡ true
    at true b f = refl
    at false true f = absurd cc
    at false false f = absurd cc

waiting_one : (k : Key) (ps : List Raise) → is_waiting k ps ≡ true → 0 < length ps
waiting_one k [] e = absurd cc
waiting_one k (p ∷ ps) e = omega arith

-- where a fault wasn't raised and its page isn't being read, some fault waits
pub unraised_waits : (h : History Entry) (c : Core) (k : Key) → StandsFor h c → is_reading c k ≡ false → raise_answer c k ≢ raise.Raised → 0 < length (pending h)
unraised_waits h c k st idle ne = subst (λ (ps : List Raise). 0 < length ps) st.queue
    (at (is_pending c k) (is_full c) refl refl (subst (λ b. cond (is_pending c k || b) raise.Pending (cond (is_full c) raise.QueueFull raise.Raised) ≢ raise.Raised) idle ne))
  where
    at : (a b : Bool) → is_pending c k ≡ a → is_full c ≡ b → cond (a || false) raise.Pending (cond b raise.QueueFull raise.Raised) ≢ raise.Raised → 0 < length c.queue
    at true b p q f = waiting_one k c.queue p
    at false true p q f = let most = leb-true c.setup.faults (length c.queue) q in let some = st.fits.some_fault in omega (arith, most, some)
    at false false p q f = absurd (f refl)

-- what a look raises, by the answer
abbrev pub asked : Raise_ → Key → Why → List Entry
asked raise.Raised k why = entry.Raised k why ∷ []
asked raise.Pending k why = []
asked raise.QueueFull k why = []

pub raised_is : (h : History Entry) (c : Core) (k : Key) (why : Why) → StandsFor h c → PageReads h c k → asked (raise_answer c k) k why ≡ raised_by c.setup h k why
raised_is h c k why st reads =
    at (is_pending c k || is_reading c k) (is_full c)
    ∙ (ap (λ (b : Bool). cond b [] (cond (is_full c) [] (entry.Raised k why ∷ []))) (ap (λ (x : Bool). x || is_reading c k) reads.pending ∙ ap (λ (x : Bool). old_pending h k || x) reads.reading)
    ∙ ap (λ (ps : List Raise). cond (old_pending h k || old_reading h k) [] (cond (nat_le c.setup.faults (length ps)) [] (entry.Raised k why ∷ []))) st.queue)
  where
    at : (b d : Bool) → asked (cond b raise.Pending (cond d raise.QueueFull raise.Raised)) k why ≡ cond b [] (cond d [] (entry.Raised k why ∷ []))
    at true d = refl
    at false true = refl
    at false false = refl

pub asked_none : (r : Raise_) (k : Key) (why : Why) → (r ≡ raise.Pending) ⊎ (r ≡ raise.QueueFull) → [] ≡ asked r k why
asked_none r k why either = elim either [
  | inl pending ↦ ap (λ (x : Raise_). asked x k why) (sym pending)
  | inr full ↦ ap (λ (x : Raise_). asked x k why) (sym full)
]

pub not_raised : (r : Raise_) → (r ≡ raise.Pending) ⊎ (r ≡ raise.QueueFull) → r ≢ raise.Raised
not_raised r either e = elim either [
  | inl pending ↦ let no : raise.Raised ≡ raise.Pending = sym e ∙ pending in absurd cc
  | inr full ↦ let no : raise.Raised ≡ raise.QueueFull = sym e ∙ full in absurd cc
]

-- the fault that a look raised, by the history that it found
pub asks_by : (u : Setup) (h : History Entry) (c : Core) (k : Key) (why : Why) (r : Raise_) (own : List Entry)
    → StandsFor h c → PageReads h c k → c.setup ≡ u → r ≡ raise_answer c k → own ≡ asked r k why → own ≡ raised_by u h k why
asks_by u h c k why r own st reads same answer is =
    is ∙ (ap (λ (x : Raise_). asked x k why) answer ∙ (raised_is h c k why st reads ∙ ap (λ (v : Setup). raised_by v h k why) same))

pub raised_waits : (o : ℕ) (k : Key) (why : Why) (h : History Entry) → 0 < length (pending ((o, entry.Raised k why) ∷ h))
raised_waits o k why h = let n = length-append (pending h) (record { key = k; why = why } ∷ []) in omega (arith, n)

pub closed_save : (c : Core) (k : Key) → look.Closed ≡ save_look c k → is_closing c k.region ≡ true
closed_save c k e = at (is_closing c k.region) (is_present c k) (is_guarded c k) e
  where
    at : (a b d : Bool) → look.Closed ≡ cond a look.Closed (cond b (cond d look.Protected look.Hit) look.Missing) → a ≡ true
    at true b d f = refl
    at false true true f = absurd cc
    at false true false f = absurd cc
    at false false d f = absurd cc

pub not_hit : (l : Look) → (l ≡ look.Missing) ⊎ (l ≡ look.Protected) → l ≢ look.Hit
not_hit l either e = elim either [
  | inl m ↦ let no : look.Hit ≡ look.Missing = sym e ∙ m in absurd cc
  | inr p ↦ let no : look.Hit ≡ look.Protected = sym e ∙ p in absurd cc
]

pub fault_stores : (l : Look) → for_store (fault_of l) ≡ true
fault_stores look.Hit = refl
fault_stores look.Missing = refl
fault_stores look.Protected = refl
fault_stores look.Closed = refl
