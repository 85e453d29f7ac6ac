-- A stripe and its journal that go on twice.
use Rattle.std.proofs.Common.{Bool, List, [], ap, append_assoc, arith, length-append, refl, rules, subst, sym, true, ℕ, ◌+◌, ◌++◌, ◌∙◌, ◌∷◌, ◌≡◌}
use Rattle.std.proofs.lemmas.Bool.{and_from}
use Rattle.std.proofs.lemmas.List.{map-append}
use Rattle.std.proofs.lemmas.List.Folds.{list_all-append}
use Rattle.std.specs.List.{list_all}
use Rattle.histories.specs.Histories.{History, by}
use Rattle.page_model.specs.declared.entry.Entry.{Entry}
use Rattle.page_model.specs.Core.{Core}
use Rattle.page_model.specs.Stands.{StandsFor}
use Rattle.serial_pager.specs.Seen.{StripeSeen}
use Rattle.serial_pager.specs.Goings.{Went, WentTo}
use Rattle.serial_pager.specs.InsideGoings.{WentBy}

by_both : (later old : List Entry) (h : History Entry) → by 0 later ++ (by 0 old ++ h) ≡ by 0 (later ++ old) ++ h
by_both later old h = sym (append_assoc (by 0 later) (by 0 old) h) ∙ ap (λ x. x ++ h) (sym (map-append (λ (e : Entry). (0, e)) later old))

module _ {J : Type 0} (noted : J → History Entry → Type 0) where
  pub went_nowhere : (a : StripeSeen J) → Went 0 noted [] a a
  went_nowhere a = record { setup = refl; events = search (rules, arith); stands = λ h st. st; noted = λ h n. n }

  pub went_twice : (old later : List Entry) (a b c : StripeSeen J) → Went 0 noted old a b → Went 0 noted later b c → Went 0 noted (later ++ old) a c
  went_twice old later a b c one two = record {
    setup = two.setup ∙ one.setup;
    events = omega (arith, one.events, two.events, length-append later old);
    stands = λ h st. subst (λ x. StandsFor x c.core) (by_both later old h) (two.stands (by 0 old ++ h) (one.stands h st));
    noted = λ h n. subst (λ x. noted c.journal x) (by_both later old h) (two.noted (by 0 old ++ h) (one.noted h n));
  }

  pub all_both : (p : Entry → Bool) (xs ys : List Entry) → list_all p xs ≡ true → list_all p ys ≡ true → list_all p (xs ++ ys) ≡ true
  all_both p xs ys x y = list_all-append p xs ys ∙ and_from (list_all p xs) (list_all p ys) x y

  pub by_none : (p : Entry → Bool) (a : StripeSeen J) → WentBy 0 noted p a a
  by_none p a = record { entries = []; pass = refl; went = went_nowhere a }

  pub by_these : (p : Entry → Bool) (es : List Entry) (a b : StripeSeen J) → Went 0 noted es a b → list_all p es ≡ true → WentBy 0 noted p a b
  by_these p es a b w e = record { entries = es; pass = e; went = w }

  pub by_twice : (p : Entry → Bool) (a b c : StripeSeen J) → WentBy 0 noted p a b → WentBy 0 noted p b c → WentBy 0 noted p a c
  by_twice p a b c one two = record {
    entries = two.entries ++ one.entries;
    pass = all_both p two.entries one.entries two.pass one.pass;
    went = went_twice one.entries two.entries a b c one.went two.went;
  }

  pub to_after : (p : Entry → Bool) (last : Entry) (a b c : StripeSeen J) → WentBy 0 noted p a b → WentTo 0 noted p last b c → WentTo 0 noted p last a c
  to_after p last a b c one two = record {
    before = two.before ++ one.entries;
    pass = all_both p two.before one.entries two.pass one.pass;
    went = went_twice one.entries (last ∷ two.before) a b c one.went two.went;
  }

  pub to_these : (p : Entry → Bool) (last : Entry) (es : List Entry) (a b : StripeSeen J) → Went 0 noted (last ∷ es) a b → list_all p es ≡ true → WentTo 0 noted p last a b
  to_these p last es a b w e = record { before = es; pass = e; went = w }

  abbrev pub seen : Core → J → StripeSeen J
  seen c j = record { core = c; journal = j }

  -- one event of the stripe, noted
  pub went_once : (e : Entry) (c d : Core) (i j : J) (old : StripeSeen J) → seen c i ≡ old → d.setup ≡ c.setup → d.events ≡ c.events + 1
      → ((h : History Entry) (o : ℕ) → StandsFor h c → StandsFor ((o, e) ∷ h) d)
      → ((h : History Entry) → noted i h → noted j ((0, e) ∷ h))
      → Went 0 noted (e ∷ []) old (seen d j)
  went_once e c d i j old is setup events stands note =
      subst (λ v. Went 0 noted (e ∷ []) v (seen d j)) is (record { setup = setup; events = events; stands = λ h st. stands h 0 st; noted = note })

  -- a lane's trip: its start, and its end by the history of the start
  pub went_trip : (start end : Entry) (c m d : Core) (i j l : J) (old : StripeSeen J) → seen c i ≡ old → d.setup ≡ c.setup → m.events ≡ c.events + 1 → d.events ≡ m.events + 1
      → ((h : History Entry) → StandsFor h c → StandsFor ((0, end) ∷ (0, start) ∷ h) d)
      → ((h : History Entry) → noted i h → noted j ((0, start) ∷ h))
      → ((h : History Entry) → noted j h → noted l ((0, end) ∷ h))
      → Went 0 noted (end ∷ start ∷ []) old (seen d l)
  went_trip start end c m d i j l old is setup one two stands first second =
      subst (λ v. Went 0 noted (end ∷ start ∷ []) v (seen d l)) is (record { setup = setup; events = omega (arith, one, two); stands = stands; noted = λ h n. second ((0, start) ∷ h) (first h n) })
