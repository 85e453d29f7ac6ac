-- The metadata text is a label, a number, a label, a number and a line feed.
use Rattle.std.proofs.Common.{◌≡◌, inl, inr, ℕ, ◌+◌, ◌<◌, ◌≤◌, List, [], ◌∷◌, ◌++◌, length, get_or, ◌∙◌, ap, sym, subst, refl, arith, codes}
use Rattle.std.specs.Fmt.{decimal}
use Rattle.std.proofs.lemmas.Fmt.{length-decimal-le}
use Rattle.std.proofs.lemmas.List.{append-nil, length-append}
use Rattle.sparse_store.specs.declared.meta.Meta.{Meta}
use Rattle.sparse_store.specs.Metas.{meta_text, IsMeta, IsBadMeta}
use Rattle.sparse_store.specs.InsideMetas.{StopsAt, LabelledNumber, NoLabelledNumber}
use Rattle.sparse_store.proofs.Spellings.{StandsBehind}
use Rattle.sparse_store.proofs.Refusing.{Refuses, Behind, NumberThen, IsEnd, stops, passes, not_ended, no_number, number_passes}

-- a line of which the number stands behind the label
abbrev pub Line : List ℕ → (ℕ → List ℕ → Type 0) → List ℕ → Type 0
Line label K = Behind label (NumberThen K)

abbrev pub LastFeed : ℕ → List ℕ → Type 0
LastFeed v = Behind (codes "\n") IsEnd

abbrev pub FileLine : ℕ → List ℕ → Type 0
FileLine v = Line (codes "\nfile ") LastFeed

abbrev pub MetaLines : List ℕ → Type 0
MetaLines = Line (codes "umap-sparse 1\nsize ") FileLine

-- ---- a line

pub no_line : {K : ℕ → List ℕ → Type 0} (label bytes : List ℕ) (n : ℕ) (u : List ℕ) → K 1 u → NoLabelledNumber bytes label n → Refuses (Line label K) bytes n
no_line label bytes n u k (inl s) = stops label bytes n (decimal 1 ++ u) (1, u, omega arith, omega arith, k, refl) s
no_line {K} label bytes n u k (inr s) =
    let whole = passes label s.0 0 (no_number s.0 u k s.2) in
    subst (λ t. Refuses (Line label K) t n) (sym s.1) (subst (Refuses (Line label K) (label ++ s.0)) (omega (arith, s.3)) whole)

pub line_passes : {K : ℕ → List ℕ → Type 0} (label bytes : List ℕ) (v : ℕ) (rest : List ℕ) (n : ℕ) → ((w : ℕ) (u : List ℕ) → K w u → StandsBehind u) → LabelledNumber bytes label v rest → Refuses (K v) rest n → Refuses (Line label K) bytes (length label + (length (decimal v) + n))
line_passes {K} label bytes v rest n behind l r =
    let d = l.2 in
    let inner = subst (λ t. Refuses (NumberThen K) t (length (decimal v) + n)) (sym d.spelt) (number_passes v rest n behind d.least d.most d.ends r) in
    subst (λ t. Refuses (Line label K) t (length label + (length (decimal v) + n))) (sym l.1) (passes label l.0 (length (decimal v) + n) inner)

-- behind a number stands a line feed
feed_behind : {K : List ℕ → Type 0} (label : List ℕ) → (u : List ℕ) → Behind (10 ∷ label) K u → StandsBehind u
feed_behind label u p =
    (omega (arith, ap length p.2), λ range. omega (arith, range.0, ap (λ l. get_or l 0 0) p.2))

pub file_behind : (w : ℕ) (u : List ℕ) → FileLine w u → StandsBehind u
file_behind w u p = feed_behind (codes "file ") u p

pub last_behind : (w : ℕ) (u : List ℕ) → LastFeed w u → StandsBehind u
last_behind w u p = feed_behind [] u p

-- ---- the whole

pub a_last : LastFeed 1 (codes "\n")
a_last = ([], refl, refl)

pub a_file : FileLine 1 (codes "\nfile " ++ (decimal 1 ++ codes "\n"))
a_file = (decimal 1 ++ codes "\n", (1, codes "\n", omega arith, omega arith, a_last, refl), refl)

to_lines : (m : Meta) → IsMeta m → MetaLines (meta_text m)
to_lines m is =
    let last : LastFeed m.file (codes "\n") = ([], refl, refl) in
    let file : FileLine m.size (codes "\nfile " ++ (decimal m.file ++ codes "\n")) = (_, (m.file, codes "\n", is.some_file, is.most_file, last, refl), refl) in
    (_, (m.size, _, is.some_size, is.most_size, file, refl), refl)

pub from_lines : (t : List ℕ) → MetaLines t → (m : Meta) × IsMeta m × (t ≡ meta_text m)
from_lines t p =
    let size = p.1 in
    let file = size.4 in
    let number = file.1 in
    let last = number.4 in
    let end : number.1 ≡ codes "\n" = last.2 ∙ ap (λ l. codes "\n" ++ l) last.1 ∙ append-nil (codes "\n") in
    let m : Meta = record { size = size.0; file = number.0 } in
    let is : IsMeta m = record { some_size = size.2; most_size = size.3; some_file = number.2; most_file = number.3 } in
    (m, is, p.2 ∙ ap (λ l. codes "umap-sparse 1\nsize " ++ l) (size.5 ∙ ap (λ l. decimal size.0 ++ l) (file.2 ∙ ap (λ l. codes "\nfile " ++ l) (number.5 ∙ ap (λ l. decimal number.0 ++ l) end))))

pub bad_meta : (bytes : List ℕ) (n : ℕ) → Refuses MetaLines bytes n → IsBadMeta bytes n
bad_meta bytes n r = record {
  none = λ m is e. r.none (subst MetaLines (sym e) (to_lines m is));
  within = r.within;
  begins = let b = from_lines _ r.begins.1 in (b.0, r.begins.0, b.1, b.2);
  longest = λ k low high b. r.longest k b.1 low high (subst MetaLines (sym b.3) (to_lines b.0 b.2));
}

-- ---- where a text goes wrong

pub wrong_size : (bytes : List ℕ) (n : ℕ) → NoLabelledNumber bytes (codes "umap-sparse 1\nsize ") n → IsBadMeta bytes n
wrong_size bytes n none = bad_meta bytes n (no_line {K = FileLine} (codes "umap-sparse 1\nsize ") bytes n _ a_file none)

module _ (bytes : List ℕ) (size : ℕ) (behind_size : List ℕ) (sized : LabelledNumber bytes (codes "umap-sparse 1\nsize ") size behind_size) where
  in_size : (n : ℕ) → Refuses (FileLine size) behind_size n → IsBadMeta bytes (19 + (length (decimal size) + n))
  in_size n r = bad_meta bytes _ (line_passes {K = FileLine} (codes "umap-sparse 1\nsize ") bytes size behind_size n file_behind sized r)

  pub wrong_file : (n : ℕ) → NoLabelledNumber behind_size (codes "\nfile ") n → IsBadMeta bytes (19 + (length (decimal size) + n))
  wrong_file n none = in_size n (no_line {K = LastFeed} (codes "\nfile ") behind_size n _ a_last none)

  module _ (file : ℕ) (behind_file : List ℕ) (filed : LabelledNumber behind_size (codes "\nfile ") file behind_file) where
    in_file : (n : ℕ) → Refuses (LastFeed file) behind_file n → IsBadMeta bytes (19 + (length (decimal size) + (6 + (length (decimal file) + n))))
    in_file n r = in_size _ (line_passes {K = LastFeed} (codes "\nfile ") behind_size file behind_file n last_behind filed r)

    pub wrong_end : (n : ℕ) → StopsAt behind_file (codes "\n") n → IsBadMeta bytes (19 + (length (decimal size) + (6 + (length (decimal file) + n))))
    wrong_end n s = in_file n (stops (codes "\n") behind_file n [] refl s)

    pub too_long : (rest : List ℕ) → behind_file ≡ codes "\n" ++ rest → 0 < length rest → IsBadMeta bytes (19 + (length (decimal size) + (6 + (length (decimal file) + 1))))
    too_long rest e some = in_file 1 (subst (λ t. Refuses (LastFeed file) t 1) (sym e) (passes (codes "\n") rest 0 (not_ended rest some)))

pub line_length : (bytes label : List ℕ) (v : ℕ) (rest : List ℕ) → LabelledNumber bytes label v rest → length bytes ≡ length label + (length (decimal v) + length rest)
line_length bytes label v rest l = omega (arith, ap length l.1, length-append label l.0, ap length l.2.spelt, length-append (decimal v) rest)

pub few_digits : (bytes label : List ℕ) (v : ℕ) (rest : List ℕ) → LabelledNumber bytes label v rest → length (decimal v) ≤ 13
few_digits bytes label v rest l = let most = l.2.most in length-decimal-le 13 v (omega arith) (omega (arith, most)) (omega (arith, most))
