-- A path begins with a folder and a `/` where it begins with the folder and a `/` follows.
use Rattle.std.proofs.Common.{◌≡◌, ℕ, ◌-◌, Bool, true, false, ◌&&◌, List, [], ◌∷◌, ◌++◌, length, take, drop, nat_eq, refl, ap, ◌∙◌, sym}
use Rattle.std.proofs.lemmas.List.{take_rest}
use Rattle.std.specs.List.{starts_with}

joined : (a b c : Bool) → (a && b) && c ≡ a && (b && c)
joined true b c = refl
joined false b c = refl

pub starts_with-append : (path folder rest : List ℕ) → starts_with nat_eq path folder && starts_with nat_eq (drop (length folder) path) rest ≡ starts_with nat_eq path (folder ++ rest)
starts_with-append path [] rest = refl
starts_with-append [] (x ∷ folder) rest = refl
starts_with-append (y ∷ path) (x ∷ folder) rest =
    joined (nat_eq x y) (starts_with nat_eq path folder) (starts_with nat_eq (drop (length folder) path) rest)
    ∙ ap (λ b. nat_eq x y && b) (starts_with-append path folder rest)

-- a path that doesn't begin with the folder doesn't lead into it
pub below_where_other : (path folder rest : List ℕ) (begins : Bool) → begins ≡ starts_with nat_eq path folder → begins ≡ false → begins ≡ starts_with nat_eq path (folder ++ rest)
below_where_other path folder rest begins is other =
    other ∙ ap (λ b. b && starts_with nat_eq (drop (length folder) path) rest) (sym other ∙ is) ∙ starts_with-append path folder rest

-- what follows the folder decides for a path that begins with it
pub below_where_begun : (path folder rest : List ℕ) (begins goes_on : Bool) → begins ≡ starts_with nat_eq path folder → begins ≡ true → goes_on ≡ starts_with nat_eq (take (length path - length folder) (drop (length folder) path)) rest → goes_on ≡ starts_with nat_eq path (folder ++ rest)
below_where_begun path folder rest begins goes_on is begun goes_on_is =
    goes_on_is
    ∙ ap (λ behind. starts_with nat_eq behind rest) (take_rest path (length folder))
    ∙ ap (λ b. b && starts_with nat_eq (drop (length folder) path) rest) (sym begun ∙ is)
    ∙ starts_with-append path folder rest
