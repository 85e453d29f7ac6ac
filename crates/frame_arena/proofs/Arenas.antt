-- What holds of an arena's fields holds when a frame has come or gone.
use Rattle.std.proofs.Common.{◌≡◌, ℕ, ◌+◌, List, length, Option, Some, None, sym, ap, subst, ◌∙◌, arith, slice_set, length-set}
use Rattle.frame_arena.specs.InsideOwnership.{Span}
use Rattle.frame_arena.specs.Frames.{ArenaFrame}
use Rattle.frame_arena.specs.InsideArenas.{IsArena, IsShelf, id_of}
use Rattle.frame_arena.proofs.Shelved.{shelf_set, shelf_unset}

module _ (whole : Span) (names : List ℕ) (slots now : List (Option ArenaFrame)) (frames size : ℕ) where
  pub arena_put : (f : ArenaFrame) → IsArena whole names slots frames size → f.arena ≡ id_of whole size names → now ≡ slice_set slots f.number (Some f) → IsArena whole names now frames size
  arena_put f a mine set =
      let id = id_of whole size names in
      let there : f.number ≡ 0 + f.number = omega arith in
      record {
        placed = a.placed;
        size = a.size;
        some_frames = a.some_frames;
        some_bytes = a.some_bytes;
        small = a.small;
        named = a.named;
        many = ap length set ∙ length-set slots f.number (Some f) ∙ a.many;
        shelf = subst (λ (l : List (Option ArenaFrame)). IsShelf id 0 l) (sym set) (shelf_set id 0 slots f.number f a.shelf (there, mine));
      }

  pub arena_take : (n : ℕ) → IsArena whole names slots frames size → now ≡ slice_set slots n None → IsArena whole names now frames size
  arena_take n a set =
      let id = id_of whole size names in
      record {
        placed = a.placed;
        size = a.size;
        some_frames = a.some_frames;
        some_bytes = a.some_bytes;
        small = a.small;
        named = a.named;
        many = ap length set ∙ length-set slots n None ∙ a.many;
        shelf = subst (λ (l : List (Option ArenaFrame)). IsShelf id 0 l) (sym set) (shelf_unset id 0 slots n a.shelf);
      }
