-- What happened, and who did it.
-- A history is kept newest first: `(o, e) ∷ h` is `h` with the entry `e` of owner `o` appended. So a prefix of a history
-- is a tail of the list, and the place of an entry, counted from 0, is the length of what lies behind it.
use Rattle.std.specs.Prelude.{ℕ, ◌-◌, true, ◌==◌, if◌then◌else◌, List, [], ◌∷◌, ◌++◌, map, length, drop, ◌≡◌}
use Rattle.std.specs.List.{list_all}

abbrev pub History : Type 0 → Type 0
History E = List (ℕ × E)

module _ {E : Type 0} where
  -- the entries of one owner, the newest first
  abbrev pub calls_of : ℕ → History E → List E
  calls_of o [] = []
  calls_of o (x ∷ h) = if x.0 == o then x.1 ∷ calls_of o h else calls_of o h

  -- these entries, each as made by this owner
  abbrev pub by : ℕ → List E → History E
  by o entries = map (λ e. (o, e)) entries

  -- the history when it had t entries
  abbrev pub first : ℕ → History E → History E
  first t h = drop (length h - t) h

  -- `old` goes on to `new`: later entries may have been appended, and nothing else changed
  abbrev pub GoesOn : (old new : History E) → Type 0
  GoesOn old new = (later : History E) × (new ≡ later ++ old)

  -- `old` goes on to `new`, and no entry of this owner lies in between
  pub record Others (owner : ℕ) (old new : History E) : Type 0 where
    pub later : History E
    pub is : new ≡ later ++ old
    pub none : calls_of owner later ≡ []

  -- `old` goes on to `new`, and these are the entries of this owner in between, the newest first
  pub record Grew (owner : ℕ) (old new : History E) (own : List E) : Type 0 where
    pub later : History E
    pub is : new ≡ later ++ old
    pub own_are : calls_of owner later ≡ own

  -- `old` goes on to `new`, and all entries in between are of this owner
  pub record Alone (owner : ℕ) (old new : History E) : Type 0 where
    pub later : History E
    pub is : new ≡ later ++ old
    pub alone : list_all (λ (x : ℕ × E). x.0 == owner) later ≡ true

  -- this entry stands in `new`, later than all of `old`
  pub record IsNew (x : ℕ × E) (old new : History E) : Type 0 where
    pub later : History E
    pub older : History E
    pub is : new ≡ later ++ x ∷ older
    pub past : GoesOn old older

  -- an entry that stands in `new`, later than all of `old`, is so
  abbrev pub HasNew : (is_so : ℕ × E → Type 0) → (old new : History E) → Type 0
  HasNew is_so old new = (x : ℕ × E) × IsNew x old new × is_so x
