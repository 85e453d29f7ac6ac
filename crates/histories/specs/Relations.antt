-- The laws of histories, as statements.
use Rattle.std.specs.Prelude.{ℕ, ◌≤◌, List, [], ◌∷◌, ◌++◌, length, ◌≡◌}
use Rattle.histories.specs.Histories.{History, calls_of, by, first, GoesOn, Others, Grew, Alone, IsNew}

module _ (E : Type 0) where
  -- the calls of two stretches of a history are those of the one before those of the other
  abbrev pub CallsOfBoth : Type 0
  CallsOfBoth = (o : ℕ) (later old : History E) → calls_of o (later ++ old) ≡ calls_of o later ++ calls_of o old

  -- entries made by one owner are its calls, and nobody else's
  pub record CallsOfOne : Type 0 where
    pub own : (o : ℕ) (entries : List E) → calls_of o (by o entries) ≡ entries
    pub others : (o p : ℕ) (entries : List E) → (o ≡ p → ⊥) → calls_of o (by p entries) ≡ []

  -- going on is an order
  pub record GoesOnIsOrder : Type 0 where
    pub refl_ : (h : History E) → GoesOn h h
    pub one : (x : ℕ × E) (h : History E) → GoesOn h (x ∷ h)
    pub trans : (f g h : History E) → GoesOn f g → GoesOn g h → GoesOn f h
    pub length_ : (g h : History E) → GoesOn g h → length g ≤ length h

  -- of two histories that go on to one, the shorter goes on to the longer
  abbrev pub ShorterGoesOn : Type 0
  ShorterGoesOn = (f g h : History E) → GoesOn f h → GoesOn g h → length f ≤ length g → GoesOn f g

  -- a history that went on to another is that one's prefix of its length
  abbrev pub FirstIsPrefix : Type 0
  FirstIsPrefix = (g h : History E) → GoesOn g h → first (length g) h ≡ g

  -- where an owner's calls are the same before and after, others alone made entries in between
  abbrev pub SameCallsAreOthers : Type 0
  SameCallsAreOthers = (o : ℕ) (old new : History E) → GoesOn old new → calls_of o old ≡ calls_of o new → Others o old new

  -- and the other way round; one stretch after the other is of others too
  pub record OthersKeepCalls : Type 0 where
    pub same : (o : ℕ) (old new : History E) → Others o old new → calls_of o new ≡ calls_of o old
    pub goes_on : (o : ℕ) (old new : History E) → Others o old new → GoesOn old new
    pub trans : (o : ℕ) (f g h : History E) → Others o f g → Others o g h → Others o f h

  -- a history grows by own entries, one stretch after the other
  pub record GrowingAddsUp : Type 0 where
    pub none : (o : ℕ) (h : History E) → Grew o h h []
    pub others : (o : ℕ) (old new : History E) → Others o old new → Grew o old new []
    pub after_others : (o : ℕ) (old found : History E) (own : List E)
        → Others o old found → Grew o old (by o own ++ found) own
    pub twice : (o : ℕ) (f g h : History E) (first second : List E)
        → Grew o f g first → Grew o g h second → Grew o f h (second ++ first)

  -- what a history that grew is like
  pub record GrownKnows : Type 0 where
    pub goes_on : (o : ℕ) (old new : History E) (own : List E) → Grew o old new own → GoesOn old new
    pub others : (o : ℕ) (old new : History E) → Grew o old new [] → Others o old new
    pub calls : (o : ℕ) (old new : History E) (own : List E)
        → Grew o old new own → calls_of o new ≡ own ++ calls_of o old
    pub newest : (o : ℕ) (old new : History E) (e : E) (own : List E)
        → Grew o old new (e ∷ own) → IsNew (o, e) old new

  -- what is new past a later part of a history is new past an earlier one, and stays so
  abbrev pub NewStays : Type 0
  NewStays = (x : ℕ × E) (e f g h : History E) → GoesOn e f → GoesOn g h → IsNew x f g → IsNew x e h

  -- the entries in between are told by the old and the new history
  abbrev pub OneLater : Type 0
  OneLater = (a b old : History E) → a ++ old ≡ b ++ old → a ≡ b

  -- where nobody else makes an entry, a history grows by the own ones alone
  pub record AloneIsOwn : Type 0 where
    pub own : (o : ℕ) (old new : History E) (own : List E)
        → Grew o old new own → Alone o old new → new ≡ by o own ++ old
    pub same : (o : ℕ) (old new : History E) → Others o old new → Alone o old new → new ≡ old
    pub first : (o : ℕ) (f g h : History E) → GoesOn f g → GoesOn g h → Alone o f h → Alone o f g
    pub second : (o : ℕ) (f g h : History E) → GoesOn f g → GoesOn g h → Alone o f h → Alone o g h
