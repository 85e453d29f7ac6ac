use Rattle.std.proofs.Common.{◌≡◌, ◌∙◌, ℕ, ◌<◌, List, ◌++◌, map, Option, Some, None, IfSome, slice_get, length, refl, subst, sym, ap, arith}
use Rattle.std.specs.List.{Contains, range_with_len}
use Rattle.std.specs.Option.{option_map}
use Rattle.std.proofs.lemmas.Option.{slice_get_read}
use Rattle.std.proofs.lemmas.List.Elements.{Contains-append_right}
use Rattle.page_base.specs.Lanes.{Origin, LaneSeen}
use Rattle.store_trait.specs.Lanes.{IsPlace}
use Rattle.file_store.specs.FileLanes.{origin_of, backing_path}
use Rattle.file_store.specs.Folders.{stripe_name, stripe_names, stripe_origin, opened}
use Rattle.file_store.specs.Parts.{PartName, PartSeen, striped}
use Rattle.file_store.specs.Shelves.{Shelf}
use Rattle.file_store.specs.declared.folder.Cut.{Cut}
use Rattle.worked_cases.proofs.folders.write_second_page.Goals as goal

pub new-lane-requires-clause-striped : goal.new-lane-requires-clause-striped
new-lane-requires-clause-striped g c =
    let seen = g.F.Part.Part.seen in
    let part = c.remove.result in
    let many : 2 ≡ length c.in-Ok.parts.items = sym (c.in-Ok.ensures.count ∙ c.requires.stripes) in
    let got : slice_get c.in-Ok.parts.items 1 ≡ Some part = slice_get_read c.in-Ok.parts.items 2 1 part many (omega arith) (rw (sym c.into_vec-parts.ensures) c.remove.ensures.value) in
    let named : (seen part).name ≡ stripe_name c.args.path.now.items c.args.cut.now 1 = (c.in-Ok.ensures.parts 1 part got).name_is in
    rw named refl

placed : (o : Origin) → o.page_size ≡ 64 → o.pages ≡ 3 → o.region ≡ 0 → o.group ≡ 1 → o.stripes ≡ 2 → o.stripe ≡ 1 → IsPlace o 64 64
placed o size pages region group stripes stripe = record {
  some = rw size (omega arith);
  one_page = sym size;
  whole = rw size refl;
  of_lane = rw (size, pages, region, group, stripes, stripe) refl;
}

pub write_to_store-requires : goal.write_to_store-requires
write_to_store-requires g c =
    let seen = g.F.Part.Part.seen in
    let part = c.remove.result in
    let cut = c.args.cut.now in
    let many : 2 ≡ length c.in-Ok.parts.items = sym (c.in-Ok.ensures.count ∙ c.requires.stripes) in
    let got : slice_get c.in-Ok.parts.items 1 ≡ Some part = slice_get_read c.in-Ok.parts.items 2 1 part many (omega arith) (rw (sym c.into_vec-parts.ensures) c.remove.ensures.value) in
    let named : (seen part).name ≡ stripe_name c.args.path.now.items cut 1 = (c.in-Ok.ensures.parts 1 part got).name_is in
    let origin : origin_of (seen c.new-lane.result.part).name.extent ≡ stripe_origin c.args.path.now.items cut 1 = ap (λ (l : LaneSeen). l.origin) c.new-lane.ensures.seen ∙ ap (λ (n : PartName). origin_of n.extent) named in
    record { place = subst (λ (o : Origin). IsPlace o 64 64) (sym origin) (placed (stripe_origin c.args.path.now.items cut 1) c.requires.page_size c.requires.pages.1 c.requires.pages.0 refl c.requires.stripes refl) }

-- which part a lane of a file is over
abbrev name_by : Origin → PartName
name_by o = record { path = backing_path o.backing; extent = striped o }

-- the second of two parts is out, where files are told
second_out : (path : List ℕ) (cut : Cut) → cut.layout.stripes ≡ 2 → (old new : Option Shelf) → new ≡ option_map (opened (stripe_names path cut)) old → (name : PartName) → name ≡ stripe_name path cut 1 → IfSome new (λ s. Contains s.out name)
second_out path cut two None new e name is = rw e tt
second_out path cut two (Some s) new e name is =
    subst (λ (t : Option Shelf). IfSome t (λ s. Contains s.out name)) (sym e)
    (Contains-append_right s.out (stripe_names path cut) name
    (subst (Contains (stripe_names path cut)) (sym is)
    (subst (λ (n : ℕ). Contains (map (stripe_name path cut) (range_with_len 0 n)) (stripe_name path cut 1)) (sym two) (1, omega arith, refl))))

pub close_part-requires : goal.close_part-requires
close_part-requires g c =
    let seen = g.F.Part.Part.seen in
    let part = c.remove.result in
    let path = c.args.path.now.items in
    let cut = c.args.cut.now in
    let many : 2 ≡ length c.in-Ok.parts.items = sym (c.in-Ok.ensures.count ∙ c.requires.stripes) in
    let got : slice_get c.in-Ok.parts.items 1 ≡ Some part = slice_get_read c.in-Ok.parts.items 2 1 part many (omega arith) (rw (sym c.into_vec-parts.ensures) c.remove.ensures.value) in
    let named : (seen part).name ≡ stripe_name path cut 1 = (c.in-Ok.ensures.parts 1 part got).name_is in
    let kept : origin_of (seen c.write_to_store.new.self.part).name.extent ≡ stripe_origin path cut 1 = c.write_to_store.ensures.origin ∙ ap (λ (l : LaneSeen). l.origin) c.new-lane.ensures.seen ∙ ap (λ (n : PartName). origin_of n.extent) named in
    let name : (seen c.into_part.result).name ≡ stripe_name path cut 1 = ap (λ (p : PartSeen). p.name) c.into_part.ensures.part ∙ ap name_by kept in
    record { out = second_out path cut c.requires.stripes (g.F.Folder.seen c.args.folder.now).told (g.F.Folder.seen c.open_striped.new.self).told c.in-Ok.ensures.out (seen c.into_part.result).name name }
