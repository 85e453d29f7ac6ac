-- A block is cut into frames from its front.
use Rattle.std.proofs.Common.{◌≡◌, ℕ, zero, suc, ◌+◌, ◌-◌, ◌*◌, ◌<◌, ◌≤◌, List, [], ◌∷◌, ◌++◌, length, Option, Some, refl, sym, ap, ◌∙◌, subst, arith, take, drop, replicate, All, IfSome, length-append}
use Rattle.std.proofs.lemmas.List.{take-replicate, drop-replicate, length-replicate}
use Rattle.std.proofs.lemmas.List.Elements.{All-push, All-nil}
use denote.RawPtr.{Ptr, block_ptr, block_of, count_of, ◌+ₚ◌}
use Rattle.frame_arena.specs.InsideOwnership.{Span, IsPlaced}
use Rattle.frame_arena.specs.Frames.{ArenaFrame}
use Rattle.frame_arena.specs.InsideArenas.{id_of}
use Rattle.frame_arena.specs.InsideArenas.{IsFull}
use Rattle.frame_arena.proofs.Shelved.{full_push}

abbrev pub AreZeros : ℕ → Option ArenaFrame → Type 0
AreZeros size slot = IfSome slot (λ f. f.bytes ≡ replicate size 0)

-- k frames are cut off
pub record IsCut (whole : Span) (names : List ℕ) (now ptr : Ptr) (rest : List ℕ) (torn : ℕ) (cut : List (Option ArenaFrame)) (frames size k : ℕ) : Type 0 where
  pub placed : IsPlaced whole.start
  pub at : now ≡ block_ptr (block_of whole.start) (count_of whole.start + k * size)
  pub run : ptr ≡ now
  pub left : rest ≡ replicate ((frames - k) * size) 0
  pub next : torn ≡ k
  pub named : length names ≡ frames
  pub many : length cut ≡ k
  pub mine : IsFull (id_of whole size names) 0 cut
  pub zeros : All (AreZeros size) cut

pub cut_first : (whole : Span) (names : List ℕ) (now ptr : Ptr) (rest : List ℕ) (torn : ℕ) (cut : List (Option ArenaFrame)) (frames size : ℕ)
    → IsPlaced whole.start → now ≡ whole.start → ptr ≡ whole.start → rest ≡ replicate (frames * size) 0 → torn ≡ 0 → length names ≡ frames → cut ≡ []
    → IsCut whole names now ptr rest torn cut frames size 0
cut_first whole names now ptr rest torn cut frames size placed at run zeros next named none = record {
  placed = placed;
  at = let same : count_of whole.start ≡ count_of whole.start + 0 * size = omega arith in at ∙ placed ∙ ap (λ k. block_ptr (block_of whole.start) k) same;
  run = run ∙ sym at;
  left = let same : frames ≡ frames - 0 = omega arith in zeros ∙ ap (λ k. replicate (k * size) 0) same;
  next = next;
  named = named;
  many = ap length none;
  mine = subst (λ (l : List (Option ArenaFrame)). IsFull (id_of whole size names) 0 l) (sym none) tt;
  zeros = subst (λ (l : List (Option ArenaFrame)). All (AreZeros size) l) (sym none) (All-nil (AreZeros size));
}

some_left : (n size : ℕ) → 0 < n → size ≤ n * size
some_left zero size h = absurd (omega arith)
some_left (suc n) size h = omega arith

step : (m size : ℕ) → suc m * size - size ≡ m * size
step m size = omega arith

one_less : (frames k size : ℕ) → k < frames → (frames - k) * size - size ≡ (frames - (k + 1)) * size
one_less frames k size h =
    let m = frames - (k + 1) in
    let same : frames - k ≡ suc m = omega arith in
    ap (λ n. n * size - size) same ∙ step m size

module _ (whole : Span) (names : List ℕ) (now ptr : Ptr) (rest : List ℕ) (torn : ℕ) (cut : List (Option ArenaFrame)) (frames size k : ℕ) (c : IsCut whole names now ptr rest torn cut frames size k) (more : k < frames) where
  pub left_enough : size ≤ length rest
  left_enough = let few : 0 < frames - k = omega arith in subst (λ (n : ℕ). size ≤ n) (sym (ap length c.left ∙ length-replicate ((frames - k) * size) 0)) (some_left (frames - k) size few)

  pub in_front : k * size ≤ count_of now
  in_front = subst (λ (p : Ptr). k * size ≤ count_of p) (sym c.at) (omega arith)

  pub now_placed : IsPlaced now
  now_placed = subst IsPlaced (sym c.at) refl

  pub cut_step : (f : ArenaFrame) (names' : List ℕ) (now' ptr' : Ptr) (rest' : List ℕ) (torn' : ℕ) (cut' : List (Option ArenaFrame))
      → f.arena ≡ record { block = block_of now; start = count_of now - k * size; page_size = size; names = names } → f.bytes ≡ take size rest
      → names' ≡ names → now' ≡ now +ₚ size → ptr' ≡ now +ₚ size → rest' ≡ drop size rest → torn' ≡ k + 1 → cut' ≡ cut ++ Some f ∷ [] → f.number ≡ k
      → IsCut whole names' now' ptr' rest' torn' cut' frames size (k + 1)
  cut_step f names' now' ptr' rest' torn' cut' arena bytes same_names at_now at_ptr dropped next pushed numbered = record {
    placed = c.placed;
    at = let same : count_of whole.start + k * size + size ≡ count_of whole.start + (k + 1) * size = omega arith in at_now ∙ ap (λ p. p +ₚ size) c.at ∙ ap (λ n. block_ptr (block_of whole.start) n) same;
    run = at_ptr ∙ sym at_now;
    left = dropped ∙ ap (drop size) c.left ∙ drop-replicate size ((frames - k) * size) 0 ∙ ap (λ n. replicate n 0) (one_less frames k size more);
    next = next;
    named = ap length same_names ∙ c.named;
    many = ap length pushed ∙ length-append cut (Some f ∷ []) ∙ ap (λ n. n + 1) c.many;
    mine =
        let back : count_of whole.start + k * size - k * size ≡ count_of whole.start = omega arith in
        let is : f.arena ≡ id_of whole size names = arena ∙ ap (λ p. record { block = block_of p; start = count_of p - k * size; page_size = size; names = names }) c.at ∙ ap (λ n. record { block = block_of whole.start; start = n; page_size = size; names = names }) back in
        let there : f.number ≡ 0 + length cut = let n = c.many in omega (arith, n, numbered) in
        let full = full_push (id_of whole size names) 0 cut f c.mine (there, is) in
        subst (λ (l : List (Option ArenaFrame)). IsFull (id_of whole size names') 0 l) (sym pushed)
        (subst (λ (ns : List ℕ). IsFull (id_of whole size ns) 0 (cut ++ Some f ∷ [])) (sym same_names) full);
    zeros =
        let few : 0 < frames - k = omega arith in
        subst (λ (l : List (Option ArenaFrame)). All (AreZeros size) l) (sym pushed)
        (All-push (AreZeros size) cut (Some f) c.zeros (bytes ∙ ap (take size) c.left ∙ take-replicate size ((frames - k) * size) 0 (some_left (frames - k) size few)));
  }
