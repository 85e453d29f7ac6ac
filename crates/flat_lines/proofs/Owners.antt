-- Lines of owners that made their accesses in whatever order.
use Rattle.std.proofs.Common.{ℕ, ◌+◌, ◌/◌, ◌<◌, List, [], ◌∙◌}
use Rattle.std.proofs.lemmas.Nat.{mod_below}
use Rattle.page_base.specs.declared.keys.Key.{Key}
use Rattle.page_model.specs.declared.entry.Entry.{Entry}
use Rattle.page_model.specs.Owned.{joined_accesses, InTurn, OwnersInTurn}
use Rattle.flat_lines.specs.Spreads.{stripe_in, range_key}
use Rattle.flat_lines.specs.FlatRegions.{bytes_at, stored_parts}
use Rattle.flat_lines.specs.Flat.{LinesAreFlat, OwnersAreFlat, BytesByPages}

pub owners_are_flat : OwnersInTurn → LinesAreFlat → BytesByPages → OwnersAreFlat
owners_are_flat in_turn law pages w h owner_of owners lines parts regions fine inside shared did start =
    let all : ℕ → List Entry = λ s. joined_accesses (h s) (owners s) in
    let turn : (s : ℕ) → s < w.spread.stripes → InTurn (w.setups s) (owner_of s) (h s) (owners s) = λ s lt. let x = shared s lt in in_turn (w.setups s) (owner_of s) (h s) (owners s) x.legal x.one x.apart in
    let flat_ = law w lines parts (λ s. []) all regions fine inside did (λ s lt. (turn s lt).follow) start in (
      flat_.0,
      λ r page known its below told mine.
          let k : Key = range_key r page in
          let s : ℕ = stripe_in w.spread k in
          (turn s (mod_below (r + page / w.spread.group_of r) w.spread.stripes fine.some_stripe)).holds k mine
          ∙ pages.page w all r page (bytes_at (stored_parts regions lines parts) r) fine (flat_.1 r known its) below told,
    )
