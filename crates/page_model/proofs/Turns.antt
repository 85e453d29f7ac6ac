-- A page's bytes depend on the stores to it alone, so owners of different pages may take turns.
use Rattle.std.proofs.Common.{◌≡◌, inl, inr, ℕ, ◌+◌, ◌-◌, ◌==◌, ◌&&◌, ◌||◌, Bool, true, false, cond, List, [], ◌∷◌, ◌++◌, map, filter, slice_index, slice_range, length, refl, sym, ap, subst, ◌∙◌}
use mathlib.Core.Path.{fun_ext}
use Rattle.std.specs.List.{list_all, list_any, range_with_len}
use Rattle.std.specs.Bool.{OnTrue}
use Rattle.std.proofs.lemmas.Bool.{cases_Bool, and_parts, or_from, or_parts, eqb-true, cond-true, cond-false}
use Rattle.histories.specs.Histories.{History, by, calls_of}
use Rattle.page_base.specs.Pages.{same}
use Rattle.page_base.specs.declared.keys.Key.{Key}
use Rattle.page_model.specs.declared.entry.Entry.{Entry}
use Rattle.page_model.specs.declared.entry.Entry.TheVariants.{Load, Save}
use Rattle.page_model.specs.Entries.{accesses_of, is_access}
use Rattle.page_model.specs.Memory.{byte, covers, flat, LoadsLatest}
use Rattle.page_model.specs.Setups.{Setup, is_told}
use Rattle.page_model.specs.Legal.{IsLegal, MayFollow}
use Rattle.page_model.proofs.Keys.{same-true}
use Rattle.page_model.specs.Owned.{is_owners, OneOwner, LoadsFollow, OwnBytes, joined_accesses, AreApart, OwnersInTurn}

-- the entry is a store to page k
abbrev pub stores : Key → Entry → Bool
stores k (Save j place bytes) = same j k
stores k e = false

pub byte_skip : (s : Setup) (h : History Entry) (o : ℕ) (e : Entry) (k : Key) → stores k e ≡ false → (i : ℕ) → byte s ((o, e) ∷ h) k i ≡ byte s h k i
byte_skip s h o (Save j place bytes) k n i = ap (λ (b : Bool). cond (b && covers place bytes i) (slice_index bytes (i - place)) (byte s h k i)) n
byte_skip s h o e k n i = refl

pub byte_more : (s : Setup) (g h : History Entry) (o p : ℕ) (e : Entry) (k : Key) (i : ℕ) → byte s g k i ≡ byte s h k i → byte s ((o, e) ∷ g) k i ≡ byte s ((p, e) ∷ h) k i
byte_more s g h o p (Save j place bytes) k i q = ap (λ b. cond (same j k && covers place bytes i) (slice_index bytes (i - place)) b) q
byte_more s g h o p e k i q = q

pub flat_from : (s : Setup) (g h : History Entry) (k : Key) → ((i : ℕ) → byte s g k i ≡ byte s h k i) → flat s g k ≡ flat s h k
flat_from s g h k f = ap (λ (b : ℕ → ℕ). map b (range_with_len 0 s.page_size)) (fun_ext f)

-- an entry that is no access stores to nothing
no_access : (k : Key) (e : Entry) → is_access e ≡ false → stores k e ≡ false
no_access k (Save j place bytes) n = absurd cc
no_access k e n = refl

-- one more entry of an owner's
own_more : (s : Setup) (g h : History Entry) (o p : ℕ) (e : Entry) (k : Key) (i : ℕ) (es : List Entry) → g ≡ by 0 (filter is_access es) → byte s h k i ≡ byte s g k i → (b : Bool) → is_access e ≡ b → byte s ((o, e) ∷ h) k i ≡ byte s (by 0 (cond b (e ∷ filter is_access es) (filter is_access es))) k i
own_more s g h o p e k i es is q true a = byte_more s h (by 0 (filter is_access es)) o 0 e k i (q ∙ ap (λ (x : History Entry). byte s x k i) is)
own_more s g h o p e k i es is q false a = byte_skip s h o e k (no_access k e a) i ∙ q ∙ ap (λ (x : History Entry). byte s x k i) is

-- another's entry is no store to the page
not_mine : (owner_of : Key → ℕ) (o : ℕ) (e : Entry) (k : Key) → is_owners owner_of (o, e) ≡ true → (o == owner_of k) ≡ false → stores k e ≡ false
not_mine owner_of o (Save j place bytes) k mine other = elim (cases_Bool (same j k)) [
  | inl t ↦ let jk : j ≡ k = same-true j k t in let m : (o == owner_of k) ≡ true = subst (λ (x : Key). (o == owner_of x) ≡ true) jk mine in absurd cc
  | inr n ↦ n
]
not_mine owner_of o e k mine other = refl

pub own_byte : (s : Setup) (owner_of : Key → ℕ) (h : History Entry) (k : Key) → OneOwner owner_of h → (i : ℕ) → byte s h k i ≡ byte s (by 0 (accesses_of (owner_of k) h)) k i
own_byte s owner_of [] k one i = refl
own_byte s owner_of ((o, e) ∷ h) k one i =
    let both = and_parts (is_owners owner_of (o, e)) (list_all (is_owners owner_of) h) one in
    let ih = own_byte s owner_of h k both.1 i in
    elim (cases_Bool (o == owner_of k)) [
      | inl t ↦
          own_more s (by 0 (accesses_of (owner_of k) h)) h o 0 e k i (calls_of (owner_of k) h) refl ih (is_access e) refl
          ∙ ap (λ (es : List Entry). byte s (by 0 (filter is_access es)) k i) (sym (cond-true (o == owner_of k) (e ∷ calls_of (owner_of k) h) (calls_of (owner_of k) h) t))
      | inr n ↦
          byte_skip s h o e k (not_mine owner_of o e k both.0 n) i ∙ ih
          ∙ ap (λ (es : List Entry). byte s (by 0 (filter is_access es)) k i) (sym (cond-false (o == owner_of k) (e ∷ calls_of (owner_of k) h) (calls_of (owner_of k) h) n))
    ]

pub own_bytes : OwnBytes
own_bytes s owner_of h k one = flat_from s h (by 0 (accesses_of (owner_of k) h)) k (own_byte s owner_of h k one)

-- ---- accesses that leave a page alone

-- stores to a page that lie behind others of none are as none
pub byte_append : (s : Setup) (es fs : List Entry) (k : Key) (i : ℕ) → byte s (by 0 fs) k i ≡ byte s [] k i → byte s (by 0 (es ++ fs)) k i ≡ byte s (by 0 es) k i
byte_append s [] fs k i none = none
byte_append s (e ∷ es) fs k i none = byte_more s (by 0 (es ++ fs)) (by 0 es) 0 0 e k i (byte_append s es fs k i none)

-- entries of which none stores to the page
pub byte_none : (s : Setup) (es : List Entry) (h : List Entry) (k : Key) (i : ℕ) → list_any (stores k) es ≡ false → byte s (by 0 (es ++ h)) k i ≡ byte s (by 0 h) k i
byte_none s [] h k i none = refl
byte_none s (e ∷ es) h k i none =
    let both = or_parts (stores k e) (list_any (stores k) es) none in
    byte_skip s (by 0 (es ++ h)) 0 e k both.0 i ∙ byte_none s es h k i both.1

pub byte_gone : (s : Setup) (es : List Entry) (k : Key) (i : ℕ) → list_any (stores k) es ≡ false → byte s (by 0 es) k i ≡ byte s [] k i
byte_gone s [] k i none = refl
byte_gone s (e ∷ es) k i none =
    let both = or_parts (stores k e) (list_any (stores k) es) none in
    byte_skip s (by 0 es) 0 e k both.0 i ∙ byte_gone s es k i both.1

any_append : (P : Entry → Bool) (xs ys : List Entry) → list_any P xs ≡ false → list_any P ys ≡ false → list_any P (xs ++ ys) ≡ false
any_append P [] ys a b = b
any_append P (x ∷ xs) ys a b = let both = or_parts (P x) (list_any P xs) a in or_from (P x) (list_any P (xs ++ ys)) both.0 (any_append P xs ys both.1 b)

-- ---- owners in turn

another : (owner_of : Key → ℕ) (o : ℕ) (e : Entry) (k : Key) (es : List Entry) → stores k e ≡ false → list_any (stores k) (filter is_access es) ≡ false → (b : Bool) → list_any (stores k) (cond b (e ∷ filter is_access es) (filter is_access es)) ≡ false
another owner_of o e k es n rest true = or_from (stores k e) (list_any (stores k) (filter is_access es)) n rest
another owner_of o e k es n rest false = rest

-- an owner of other pages stores to this one nowhere
others_none : (owner_of : Key → ℕ) (p : ℕ) (h : History Entry) (k : Key) → OneOwner owner_of h → (p == owner_of k) ≡ false → list_any (stores k) (accesses_of p h) ≡ false
others_none owner_of p [] k one other = refl
others_none owner_of p ((o, e) ∷ h) k one other =
    let both = and_parts (is_owners owner_of (o, e)) (list_all (is_owners owner_of) h) one in
    let ih = others_none owner_of p h k both.1 other in
    elim (cases_Bool (o == p)) [
      | inl t ↦
          let op : o ≡ p = eqb-true o p t in
          let n : stores k e ≡ false = not_mine owner_of o e k both.0 (ap (λ q. q == owner_of k) op ∙ other) in
          ap (λ (es : List Entry). list_any (stores k) (filter is_access es)) (cond-true (o == p) (e ∷ calls_of p h) (calls_of p h) t)
          ∙ another owner_of o e k (calls_of p h) n ih (is_access e)
      | inr n ↦ ap (λ (es : List Entry). list_any (stores k) (filter is_access es)) (cond-false (o == p) (e ∷ calls_of p h) (calls_of p h) n) ∙ ih
    ]

pub joined_none : (owner_of : Key → ℕ) (h : History Entry) (k : Key) (owners : List ℕ) → OneOwner owner_of h → list_any (λ p. p == owner_of k) owners ≡ false → list_any (stores k) (joined_accesses h owners) ≡ false
joined_none owner_of h k [] one none = refl
joined_none owner_of h k (o ∷ os) one none =
    let both = or_parts (o == owner_of k) (list_any (λ p. p == owner_of k) os) none in
    any_append (stores k) (accesses_of o h) (joined_accesses h os) (others_none owner_of o h k one both.0) (joined_none owner_of h k os one both.1)

latest_by : (s : Setup) (g h : History Entry) (k : Key) (place : ℕ) (bytes : List ℕ) → flat s g k ≡ flat s h k → LoadsLatest s g k place bytes → LoadsLatest s h k place bytes
latest_by s g h k place bytes q l = subst (λ f. OnTrue (is_told s k) (bytes ≡ slice_range f place (place + length bytes))) q l

-- what must be known of an entry that is appended
abbrev pub FollowsOn : Setup → List Entry → Entry → Type 0
FollowsOn s es (Load k place bytes) = LoadsLatest s (by 0 es) k place bytes
FollowsOn s es e = Unit {0}

pub follow_on : (s : Setup) (es : List Entry) (e : Entry) → FollowsOn s es e → LoadsFollow s es → LoadsFollow s (e ∷ es)
follow_on s es (Load k place bytes) f l = (f, l)
follow_on s es e f l = l

follow_filtered : (s : Setup) (e : Entry) (es fs : List Entry) → FollowsOn s (es ++ fs) e → LoadsFollow s (es ++ fs) → (b : Bool) → LoadsFollow s (cond b (e ∷ es) es ++ fs)
follow_filtered s e es fs f l true = follow_on s (es ++ fs) e f l
follow_filtered s e es fs f l false = l

-- the flat bytes of an owner's page by its own accesses, with others' behind
owned : (s : Setup) (owner_of : Key → ℕ) (o : ℕ) (g : History Entry) (rest : List Entry) (k : Key) → OneOwner owner_of g → o ≡ owner_of k → list_any (stores k) rest ≡ false → (i : ℕ) → byte s g k i ≡ byte s (by 0 (accesses_of o g ++ rest)) k i
owned s owner_of o g rest k one is none i =
    own_byte s owner_of g k one i
    ∙ ap (λ q. byte s (by 0 (accesses_of q g)) k i) (sym is)
    ∙ sym (byte_append s (accesses_of o g) rest k i (byte_gone s rest k i none))

may_follow : (s : Setup) (owner_of : Key → ℕ) (o : ℕ) (e : Entry) (g : History Entry) (rest : List Entry) → OneOwner owner_of g → is_owners owner_of (o, e) ≡ true → ((k : Key) → o ≡ owner_of k → list_any (stores k) rest ≡ false) → MayFollow s g o e → FollowsOn s (accesses_of o g ++ rest) e
may_follow s owner_of o (Load k place bytes) g rest one mine none m =
    let is : o ≡ owner_of k = eqb-true o (owner_of k) mine in
    latest_by s g (by 0 (accesses_of o g ++ rest)) k place bytes (flat_from s g (by 0 (accesses_of o g ++ rest)) k (owned s owner_of o g rest k one is (none k is))) m.1
may_follow s owner_of o e g rest one mine none m = tt

own_follow : (s : Setup) (owner_of : Key → ℕ) (o : ℕ) (h : History Entry) (rest : List Entry) → IsLegal s h → OneOwner owner_of h → ((k : Key) → o ≡ owner_of k → list_any (stores k) rest ≡ false) → LoadsFollow s rest → LoadsFollow s (accesses_of o h ++ rest)
own_follow s owner_of o [] rest l one none r = r
own_follow s owner_of o ((p, e) ∷ h) rest l one none r =
    let both = and_parts (is_owners owner_of (p, e)) (list_all (is_owners owner_of) h) one in
    let ih = own_follow s owner_of o h rest l.0 both.1 none r in
    elim (cases_Bool (p == o)) [
      | inl t ↦
          let po : p ≡ o = eqb-true p o t in
          let f : FollowsOn s (accesses_of o h ++ rest) e = may_follow s owner_of o e h rest both.1 (subst (λ q. is_owners owner_of (q, e) ≡ true) po both.0) none (subst (λ q. MayFollow s h q e) po l.2) in
          subst (λ (es : List Entry). LoadsFollow s (filter is_access es ++ rest)) (sym (cond-true (p == o) (e ∷ calls_of o h) (calls_of o h) t))
          (follow_filtered s e (accesses_of o h) rest f ih (is_access e))
      | inr n ↦ subst (λ (es : List Entry). LoadsFollow s (filter is_access es ++ rest)) (sym (cond-false (p == o) (e ∷ calls_of o h) (calls_of o h) n)) ih
    ]

joined_follow : (s : Setup) (owner_of : Key → ℕ) (h : History Entry) (owners : List ℕ) → IsLegal s h → OneOwner owner_of h → AreApart owners → LoadsFollow s (joined_accesses h owners)
joined_follow s owner_of h [] l one apart = tt
joined_follow s owner_of h (o ∷ os) l one apart =
    own_follow s owner_of o h (joined_accesses h os) l one
    (λ k is. joined_none owner_of h k os one (subst (λ q. list_any (λ p. p == q) os ≡ false) is apart.0))
    (joined_follow s owner_of h os l one apart.1)

joined_byte : (s : Setup) (owner_of : Key → ℕ) (h : History Entry) (owners : List ℕ) (k : Key) → OneOwner owner_of h → AreApart owners → list_any (λ p. p == owner_of k) owners ≡ true → (i : ℕ) → byte s h k i ≡ byte s (by 0 (joined_accesses h owners)) k i
joined_byte s owner_of h [] k one apart there i = absurd cc
joined_byte s owner_of h (o ∷ os) k one apart there i = elim (cases_Bool (o == owner_of k)) [
  | inl t ↦
      let is : o ≡ owner_of k = eqb-true o (owner_of k) t in
      owned s owner_of o h (joined_accesses h os) k one is (joined_none owner_of h k os one (subst (λ q. list_any (λ p. p == q) os ≡ false) is apart.0)) i
  | inr n ↦
      let later : list_any (λ p. p == owner_of k) os ≡ true = sym (ap (λ (b : Bool). b || list_any (λ p. p == owner_of k) os) n) ∙ there in
      joined_byte s owner_of h os k one apart.1 later i
      ∙ sym (byte_none s (accesses_of o h) (joined_accesses h os) k i (others_none owner_of o h k one n))
]

pub owners_in_turn : OwnersInTurn
owners_in_turn s owner_of h owners l one apart = record {
  follow = joined_follow s owner_of h owners l one apart;
  holds = λ k there. flat_from s h (by 0 (joined_accesses h owners)) k (joined_byte s owner_of h owners k one apart there);
}
