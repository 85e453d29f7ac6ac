-- The next dirty page, by the table and by the core.
use Rattle.std.proofs.Common.{Option, Some, None, ◌≡◌, ◌∙◌, refl, sym}
use Rattle.std.specs.Option.{IfSome, IfNone}
use Rattle.page_base.specs.declared.keys.Key.{Key}
use Rattle.soft_mmu.specs.declared.entry.PageEntry.{PageEntry}
use Rattle.soft_mmu.specs.declared.entry.PageEntry.TheVariants.{Absent, Present}
use Rattle.soft_mmu.specs.Entries as entry
use Rattle.soft_mmu.specs.Entries.{table_entry, bits_of, IsNextDirty, NoneDirty}
use Rattle.page_buffer.specs.Buffers.{BufferSeen}
use Rattle.page_model.specs.Core.{Core, is_dirty, next_dirty}
use Rattle.page_model.specs.Readers.{FlushKnows}
use Rattle.stripe_core.specs.Parts.{Table, pages_seen}
use Rattle.stripe_core.specs.InsideTied.{Tied}
use Rattle.stripe_core.proofs.Looks.{at_now, dirty_bit}

bit_is : (e : PageEntry) → entry.is_dirty e ≡ (bits_of e).dirty
bit_is Absent = refl
bit_is (Present protected dirty frame) = refl

module _ (knows : FlushKnows) (c : Core) (t : Table) (b : BufferSeen) (agree : (k : Key) → entry.is_dirty (table_entry t k) ≡ is_dirty c k) where
  pub next_dirty_is : (after found : Option Key) → IfSome found (IsNextDirty t after) → IfNone found (NoneDirty t after) → found ≡ next_dirty c after
  next_dirty_is after (Some k) next none =
      sym (knows.only c after k (sym (agree k) ∙ next.dirty) next.past (λ j d p. next.least j (agree j ∙ d) p))
  next_dirty_is after None next none = sym (knows.empty c after (λ k p. sym (agree k) ∙ none k p))

pub bits_agree : (c : Core) (t : Table) (b : BufferSeen) (outs : _) → Tied t b outs → pages_seen t b ≡ c.pages → (k : Key) → entry.is_dirty (table_entry t k) ≡ is_dirty c k
bits_agree c t b outs tied pages k = bit_is (table_entry t k) ∙ dirty_bit c b k (table_entry t k) (at_now c t b outs k tied pages)
