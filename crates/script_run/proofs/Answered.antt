-- What lines did by flat memory, as answers to them.
use Rattle.std.proofs.Common.{◌≡◌, inl, inr, ℕ, ◌+◌, ◌*◌, ◌<◌, ◌≤◌, true, List, [], ◌∷◌, ◌++◌, length, take, drop, refl, sym, ap, subst, ◌∙◌, arith, length-take}
use Rattle.std.proofs.lemmas.Bool.{cases_eq}
use Rattle.std.proofs.lemmas.List.{get_or-set_same, get_or-set_other, length-set}
use Rattle.page_base.specs.ListSeen.{spliced}
use Rattle.workload_text.specs.Line.{Line, map_line, script_line, load_line, store_line, flush_line, unmap_line}
use Rattle.flat_lines.specs.Flat.{AreFlat, IsFlat, WereTold, BytesByPages}
use Rattle.flat_lines.specs.FlatRegions.{bytes_at, stored, stored_part, stored_parts}
use Rattle.flat_lines.specs.Lines.{IsInside, AllInside}
use Rattle.flat_lines.specs.Worlds.{World, IsWorld}
use Rattle.histories.specs.Histories.{by}
use Rattle.page_base.specs.declared.keys.Key.{Key}
use Rattle.page_model.specs.declared.entry.Entry.{Entry}
use Rattle.page_model.specs.Laws.{UnmappedIsEmptied}
use Rattle.page_model.specs.Legal.{IsLegal}
use Rattle.script_run.specs.FitsSerial.{RunState, AreOpen, EndsAt, EndsShut, EndsFaulted, Names, MayAnswer, AllAnswer, left, left_by}
use Rattle.script_run.specs.FlatJournals.{IsPartOf, ArePartsOf}
use Rattle.script_run.specs.LineEntries.{IsOpenAll, FindsClosing, FaultsInOpen, Makes, AllMake}
use Rattle.script_run.specs.Replies.{Reply, nothing, begun, loaded, ok, unmapped, fault}
use Rattle.script_run.proofs.Pieces.{length-spliced}
use Rattle.script_run.proofs.Raised.{EndsWell, AllEndWell, make_tail}
use Rattle.script_run.proofs.States.{IsState, opens_as, shuts_as, state_after}

module _ (law : BytesByPages) (w : World) (fine : IsWorld w) (whole : (r : ℕ) → w.claimed r ≡ true → WereTold w r) (count : ℕ) where
  -- each claimed region has as many bytes as its pages
  pub record AreSized (regions : List (List ℕ)) : Type 0 where
    pub many : length regions ≡ count
    pub each : (r : ℕ) → r < count → w.claimed r ≡ true → length (bytes_at regions r) ≡ w.pages r * w.spread.page_size

  stored_sized : (regions : List (List ℕ)) (r off : ℕ) (bytes : List ℕ) → r < count → off + length bytes ≤ w.pages r * w.spread.page_size → AreSized regions → AreSized (stored regions (store_line r off bytes))
  stored_sized regions r off bytes known inside h = record {
    many = length-set regions r (spliced (bytes_at regions r) off bytes) ∙ h.many;
    each = λ q below claimed. elim (cases_eq q r) [
      | inl here ↦
          let its = h.each q below claimed in
          ap (λ n. length (bytes_at (stored regions (store_line r off bytes)) n)) here
          ∙ ap length (get_or-set_same regions r (spliced (bytes_at regions r) off bytes) [] (omega (arith, known, h.many)))
          ∙ length-spliced (bytes_at regions r) bytes off (omega (arith, inside, ap (λ n. length (bytes_at regions n)) here, its, ap (λ n. w.pages n * w.spread.page_size) here))
          ∙ ap (λ n. length (bytes_at regions n)) (sym here)
          ∙ its
      | inr other ↦ ap length (get_or-set_other regions r q (spliced (bytes_at regions r) off bytes) [] other) ∙ h.each q below claimed
    ];
  }

  module _ (law_gone : UnmappedIsEmptied) where
    -- what one line's answer says
    record AnswersOne (before : List Line) (x : RunState) (l : Line) (a : Reply) (part : List ℕ) : Type 0 where
      may : MayAnswer w.spread w.claimed (l ∷ before) x l a
      left_is : stored_part x.regions l part ≡ (left w.spread x l a).regions
      sized : AreSized (left w.spread x l a).regions

    module _ (before : List Line) (x : RunState) (part : List ℕ) (behind made : ℕ → List Entry) (sized : AreSized x.regions) (state : IsState w.spread x behind) where
      opens : (r off n : ℕ) → IsOpenAll w.spread behind r off n → AreOpen w.spread x r off n
      opens r off n h = opens_as w.spread fine.some_stripe x behind r off n state h

      shut_at : (r off len done : ℕ) → EndsAt w.spread.page_size off len done → FindsClosing w.spread behind r off done → EndsShut w.spread x r off len done
      shut_at r off len done at f = record { at = at; before = opens r off done f.before; shut = shuts_as w.spread fine.some_stripe x behind r (off + done) true state f.closes }

      faulted_at : (lines : List Line) (r off len done : ℕ) (k : Key) → EndsAt w.spread.page_size off len done × Names w.spread lines r (off + done) k → FaultsInOpen w.spread behind r off done k → EndsFaulted w.spread x lines r off len done k
      faulted_at lines r off len done k ends f = record { at = ends.0; open_ = opens r off (done + 1) f.stays; names = ends.1 }

      stored_some : (r off : ℕ) (bytes its : List ℕ) → r < count → off + length bytes ≤ w.pages r * w.spread.page_size → length its ≤ length bytes → AreSized (stored x.regions (store_line r off its))
      stored_some r off bytes its known inside few = stored_sized x.regions r off its known (omega (arith, inside, few)) sized

      answers_one : (l : Line) (a : Reply) → IsInside w count l → Makes w.spread l a behind made → IsPartOf l a part → IsFlat w x.regions l part → EndsWell w.spread (l ∷ before) l a → AnswersOne before x l a part
      answers_one (map_line name backing size writable) nothing inside m is flat ends = record { may = tt; left_is = refl; sized = sized }
      answers_one (script_line name) (begun said) inside m is flat ends = record { may = m.goes; left_is = refl; sized = sized }
      answers_one (load_line r off len) (loaded bytes) inside m is flat ends =
          let long : length part ≡ len = ap length is.0 ∙ is.1 in
          record {
            may = (opens r off len m.goes, is.1, λ told. sym is.0 ∙ law.load w x.regions r off len part fine flat told (whole r told) (omega (arith, inside.1, long)) (omega (arith, inside.1, long, sized.each r inside.0 told)) ∙ ap (λ n. take n (drop off (bytes_at x.regions r))) long);
            left_is = refl;
            sized = sized;
          }
      answers_one (load_line r off len) (unmapped done) inside m is flat ends = record { may = shut_at r off len done ends m.goes; left_is = refl; sized = sized }
      answers_one (load_line r off len) (fault k count_ done) inside m is flat ends = record { may = faulted_at (load_line r off len ∷ before) r off len done k ends m.goes; left_is = refl; sized = sized }
      answers_one (store_line r off bytes) ok inside m is flat ends = record {
        may = opens r off (length bytes) m.goes;
        left_is = ap (λ xs. stored x.regions (store_line r off xs)) is;
        sized = stored_some r off bytes bytes inside.0 inside.1 (omega arith);
      }
      answers_one (store_line r off bytes) (unmapped done) inside m is flat ends = record {
        may = shut_at r off (length bytes) done ends m.goes;
        left_is = ap (λ xs. stored x.regions (store_line r off xs)) is;
        sized = stored_some r off bytes (take done bytes) inside.0 inside.1 (omega (arith, length-take done bytes));
      }
      answers_one (store_line r off bytes) (fault k count_ done) inside m is flat ends = record {
        may = faulted_at (store_line r off bytes ∷ before) r off (length bytes) done k ends m.goes;
        left_is = ap (λ xs. stored x.regions (store_line r off xs)) is;
        sized = stored_some r off bytes (take done bytes) inside.0 inside.1 (omega (arith, length-take done bytes));
      }
      answers_one flush_line ok inside m is flat ends = record { may = tt; left_is = refl; sized = sized }
      answers_one flush_line (fault k count_ done) inside m is flat ends = record { may = ends; left_is = refl; sized = sized }
      answers_one (unmap_line r) ok inside m is flat ends = record { may = sym (state.gone r) ∙ m.goes.0; left_is = refl; sized = sized }
      answers_one (unmap_line r) (unmapped done) inside m is flat ends = record { may = sym (state.gone r) ∙ m.goes.0; left_is = refl; sized = sized }
      answers_one (unmap_line r) (fault k count_ done) inside m is flat ends = record { may = (sym (state.gone r) ∙ m.goes.mapped, m.goes.region, ends); left_is = refl; sized = sized }
      answers_one l a inside m is flat ends = absurd m.goes

    -- what all answers say
    pub record AnswersAll (before : List Line) (x : RunState) (lines : List Line) (replies : List Reply) (parts : List (List ℕ)) (all : ℕ → List Entry) : Type 0 where
      pub answered : AllAnswer w.spread w.claimed before x lines replies
      pub left_is : stored_parts x.regions lines parts ≡ (left_by w.spread x lines replies).regions
      pub sized : AreSized (left_by w.spread x lines replies).regions
      pub state : IsState w.spread (left_by w.spread x lines replies) all

    pub answers_all : (before : List Line) (x : RunState) (lines : List Line) (replies : List Reply) (parts : List (List ℕ)) (behind all : ℕ → List Entry) → AllInside w count lines → AreSized x.regions → IsState w.spread x behind → AllMake w.spread lines replies behind all
        → ((s : ℕ) → s < w.spread.stripes → IsLegal (w.setups s) (by 0 (all s))) → ArePartsOf lines replies parts → AreFlat w x.regions lines parts → AllEndWell w.spread before lines replies → AnswersAll before x lines replies parts all
    answers_all before x [] [] [] behind all inside sized state m legal are flat ends = record { answered = tt; left_is = refl; sized = sized; state = subst (IsState w.spread x) (λ i s. sym (m s) i) state }
    answers_all before x (l ∷ ls) (a ∷ more) (part ∷ parts) behind all inside sized state m legal are flat ends =
        let one = answers_one before x part behind m.0 sized state l a inside.0 m.1 are.0 flat.0 ends.0 in
        let next = state_after w.spread fine.some_stripe law_gone w.setups x behind m.0 state (λ s below. make_tail w.spread s (w.setups s) ls more (λ n. m.0 n ++ behind n) all m.2 (legal s below)) l a m.1 in
        let rest = answers_all (l ∷ before) (left w.spread x l a) ls more parts (λ s. m.0 s ++ behind s) all inside.1 one.sized next m.2 legal are.1 (subst (λ y. AreFlat w y ls parts) one.left_is flat.1) ends.1 in
        record {
          answered = (one.may, rest.answered);
          left_is = ap (λ y. stored_parts y ls parts) one.left_is ∙ rest.left_is;
          sized = rest.sized;
          state = rest.state;
        }
    answers_all before x [] (a ∷ more) parts behind all inside sized state m legal are flat ends = absurd m
    answers_all before x (l ∷ ls) [] parts behind all inside sized state m legal are flat ends = absurd m
    answers_all before x [] [] (part ∷ parts) behind all inside sized state m legal are flat ends = absurd are
    answers_all before x (l ∷ ls) (a ∷ more) [] behind all inside sized state m legal are flat ends = absurd are
