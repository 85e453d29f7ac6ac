-- `of_pass` makes a value of no bytes, whose ghost fields are what the pass shows.
use Rattle.std.proofs.Common.{List, [], ◌∷◌, ◌++◌, refl, sym, subst}
use seplogic.Ra.Ura.{Ura}
use mir.Syntax.{Fn, Args, a_type}
use mir.Val.{Val, vptr, vstruct, vcons, vnil}
use mir.MapTy.{inst_fn}
use base.Logic.{SProp, ent, via, fst∗, snd∗}
use base.Fml.{Fml}
use prog.Memory.{Memory}
use prog.Routine.{Routine}
use prog.Wp.{Calls, Loops, WpFn, Tables}
use contract.Monad.{Fun, fact_use}
use contract.Running.{tables, tables_of}
use sound.WpLaws.{WpFn-mono}
use types.Logic.{Logic, sem}
use types.Kit.{‵, raw, ◌⊛◌, ◌$◌, ◌∵◌, !, qed, move, keep, split, join, fjoin, use0, suffices, done}
use types.Run.{enter, returns, and_then, no_more}
use types.Part.{agg}
use types.ByLocal.{alloc_all, pass_all, free_all, look_at, get, sets}
use denote.Exit.{yes}
use denote.RattleType.{RattleType, owns}
use denote.Builtin.{RefOf}
use denote.Laws.{Are, Ises, owns_show, showss}
use denote.Param.{param, layouts}
use denote.Shadow.{makes_shadow}
use denote.Signature.{types_at, type_at, plain}
use denote.Steps.{nothing}
use denote.Triple.Clauses.{Clauses, Ended, closing}
use denote.Triple.Entry.{on_entry, alive}
use denote.Triple.Spec.{Meets, triple_of}
use denote.Triple.Table.{entered}
use denote.Triple.Walked.{says, Stays, stay_dropped, walk_of, ends_at, walk_Meets, Goes-dropped}
use Rattle.turn_lock.specs.contracts.pass.Seated as pass
use Rattle.turn_lock.specs.contracts.closed.Closed.of_pass as F
use Rattle.turn_lock.specs.contracts.closed.Closed.of_pass.Key.{name as #self}
use Rattle.turn_lock.proofs.closed.Closed.of_pass.Statement as stated
use Rattle.turn_lock.proofs.closed.Closed.of_pass.Code as code

module _ (E T : RattleType) where
  abbrev args : Args
  args = layouts (a_type ∷ a_type ∷ []) (E, (T, tt))

  abbrev shown : RattleType
  shown = pass.the_row (param 1 T) (param 0 E)

  abbrev function : Fn
  function = inst_fn args code.function

  abbrev ended : Ended
  ended = F.ended E T

  abbrev stayed : Stays ended.signature.params ended.kept
  stayed = (stay_dropped (RefOf (0 ∷ []) tt (plain (λ _. shown)) (λ _. tt)) yes, tt)

  module _ {M : Type 1} {𝓤 : Ura M} (𝓛 : Logic 𝓤) (at_mem : Memory → SProp 𝓤) (run : Routine → Fun 𝓤) where
    open 𝓛 use {H}

    abbrev held : Clauses 𝓤 ended
    held = F.clauses E T 𝓛 at_mem run

    module _ (C : Calls 𝓤 H) (Λ : Loops 𝓤 H) (z : (walk_of 𝓛 ended stayed held).Ghost) where
      -- the reference that was passed
      abbrev at : Val
      at = vptr z.0.3.0.ref_ptr.0 z.0.3.0.ref_ptr.1

      abbrev with_args : List Val → (walk_of 𝓛 ended stayed held).Ghost
      with_args us = ((z.0.0, z.0.1, z.0.2, z.0.3, (us, tt)), z.1)

      abbrev Goes : List Val → Type 1
      Goes us = ent 𝓤 ((walk_of 𝓛 ended stayed held).pre (with_args us)) (WpFn 𝓤 H C Λ function (us ++ []) ((walk_of 𝓛 ended stayed held).post (with_args us)))

      walks : Goes (at ∷ [])
      walks =
          let v : Val = vstruct (vcons (vstruct vnil) vnil) in
          let made : denote.Triple.Entry.Res ended.signature z.0.0 = record { of = record {}; history = z.0.3.0.now.seen; ended = z.0.3.0.now.ended; holds = z.0.3.0.now.holds } in
          let O : Fml = (type_at ended.signature.result z.0.0).own_val made (v ∷ []) in
          qed 𝓛 ((raw (alive 𝓛 ended.signature z.0.0 z.0.1) ⊛ ‵ (owns (types_at ended.signature.params z.0.0) z.0.3 (at ∷ [], tt))) ∷ raw ((held z.0.0 z.0.3).requires z.1) ∷ []) ∵
          split ! $ keep ! (0 ∷ []) $
          enter ! C Λ function (at ∷ []) _ $ alloc_all ! (λ l. pass_all ! refl ((tt, tt), tt) $
          sets ! (agg ! (no_more !)) refl (tt, tt) $ sets ! (agg ! (and_then ! (get ! refl) (no_more !))) refl (tt, (tt, tt)) $
          returns ! (look_at ! 0 refl) $ free_all ! refl $
          use0 𝓛 (‵ O) (makes_shadow 𝓛 O ((λ vss. (tt, ((λ uss. (tt, tt)), tt))), tt) (((vstruct vnil ∷ [], tt), (refl, ((tt, (refl, tt)), tt))), tt)) $
          suffices ! _ (ends_at 𝓛 ended stayed held (with_args (at ∷ [])) v made (tt, tt) (tt, tt)) $ says ! (refl, refl, refl) $
          nothing ! $ nothing ! $ fjoin ! $ join ! $ move ! (1 ∷ 0 ∷ []) $ join ! $ done !)

    meets : (𝓣 : Tables 𝓤 H) → Meets 𝓛 ended.signature (WpFn 𝓤 H 𝓣.C 𝓣.Λ function) (closing 𝓛 ended held)
    meets 𝓣 =
        walk_Meets 𝓛 ended stayed (Goes-dropped 𝓛 3 (RefOf (0 ∷ []) tt (plain (λ _. shown)) (λ _. tt)) yes (λ κs x f. refl), tt) held
        (WpFn 𝓤 H 𝓣.C 𝓣.Λ function) (WpFn-mono 𝓤 H 𝓛.laws 𝓣 function)
        (λ z. let a = z.0.3 in let vss = z.0.4 in let Rs : List RattleType = types_at ended.signature.params z.0.0 in
        fact_use 𝓤 (Are Rs (Ises Rs) a vss) (via 𝓤 (sem 𝓛 (owns Rs a vss)) (via 𝓤 (on_entry 𝓛 ended.signature z.0.0 z.0.1 a vss) (fst∗ 𝓤 (on_entry 𝓛 ended.signature z.0.0 z.0.1 a vss) ((held z.0.0 a).requires z.1)) (snd∗ 𝓤 (alive 𝓛 ended.signature z.0.0 z.0.1) (sem 𝓛 (owns Rs a vss)))) (owns_show 𝓛 Rs (Ises Rs) (showss 𝓛 Rs) a vss)) (λ are.
        subst (Goes 𝓣.C 𝓣.Λ z) (sym are.0.0) (walks 𝓣.C 𝓣.Λ z)))

pub of_pass_spec : {M : Type 1} → stated.statement M
unfolding tables_of
of_pass_spec 𝓤 𝓛 𝓜 𝓡 wired E T LE LT =
    let 𝓣 : Tables 𝓤 𝓛.H = tables_of 𝓤 𝓛.H 𝓜 (tables 𝓤 𝓛.H 𝓜 𝓡 𝓡.env) in
    entered 𝓤 𝓛.H (triple_of 𝓛 (ended E T).signature (closing 𝓛 (ended E T) (held E T 𝓛 𝓜.mem 𝓡.returns))) 𝓣.C 𝓣.Λ (#self (args E T)) (function E T)
    (code.unfolded 𝓤 𝓛.H 𝓜 𝓡 wired (E, (T, tt))) (meets E T 𝓛 𝓜.mem 𝓡.returns 𝓣)
