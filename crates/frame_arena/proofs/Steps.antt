-- What the walks by hand share: the names they cite, structs taken apart and made, how each begins and ends, and what a call is handed. Assumes `Logic`.
pub use Rattle.std.proofs.Common.{◌≡◌, ℕ, zero, suc, ◌+◌, ◌-◌, ◌*◌, ◌^◌, ◌<◌, ◌≤◌, List, [], ◌∷◌, ◌++◌, length, take, true, refl, sym, ap, ◌∙◌, subst, arith, w64, Vec}
pub use Rattle.std.proofs.alloc.Calls.{Goes-blank}
pub use denote.Triple.Table.{framed}
pub use lib.ListN.{drop as drop_first}
pub use mir.Val.{Val, vint, vptr, vstruct, of_list, WT, has_ty}
pub use base.Fraction.{full_share}
pub use base.Logic.{SProp, ent, sep, id⊢, emp, never}
pub use base.Fml.{Fml, ftrue, fsep, feq, flft}
pub use prog.Wp.{WpFn}
pub use contract.Monad.{fact, fact_i}
pub use contract.Running.{tables}
pub use types.Logic.{Logic, sem}
pub use types.Kit.{‵, raw, ◌⊛◌, some, given, later, prop, at_ret, by, ◌$◌, ◌∵◌, !, qed, done, move, keep, drop, use0, use1, use2, split, split3, join, fsplit, fjoin, fjoin3, fpick, fpack, feq_i, feq_l, flt_i, flt_l, pick, learn, await, rewrite, regoal, suffices}
pub use types.Part.{agg, sub, whole}
pub use types.Run.{enter, of_opd, no_more, and_then, fld, stop, first, blocks, exec, returns}
pub use types.ByLocal.{alloc_all, pass_all, free_all, look_at, get, get_in, sets, lands_as, lands_last, env}
pub use denote.Builtin.{u8, usize, RawPtr}
pub use denote.Exit.{yes, no}
pub use denote.RattleType.{RattleType, owns}
pub use denote.RawPtr.{Ptr, block_ptr, ptr_val, in_a_block, ◌+ₚ◌}
pub use denote.Signature.{plain, types_at}
pub use denote.Steps.{nothing, heard, only}
pub use denote.Triple.Call.{calls_at, calls_at_last}
pub use denote.Triple.Entry.{alive}
pub use denote.Triple.Spec.{triple_of}
pub use denote.Triple.Walked.{Stays, walk_of, says, stay_dropped, ends_at}
use seplogic.Ra.Ura.{Ura}
use lib.Dec.{T}
use mir.Syntax.{Fn, Callee, given as entry}
use prog.Model.{Model}
use prog.Wp.{Closed}
use contract.Running.{Running}
use contract.BorrowLft.{◌⊑◌, ⊑_refl}
use types.Kit.{Goal, Seq, Sq, Step, step, Item}
use denote.RattleType.{Denots, Valss, flat}
use denote.Param.{layout}
use denote.Param.Laws.{Laws, of_field}
use denote.Param.Shared.{copy_shared}
use denote.Signature.{type_at}
use denote.Struct.Field.{u8-field}
use denote.Struct.Laws.{u8-laws, u8-copy}
use denote.Struct.Struct.{Shape, Struct, within}
use denote.Triple.Clauses.{Ended, Clauses, Lasts, at_exit, closing}
use denote.Triple.Entry.{Res}
use denote.Triple.Spec.{Meets}
use denote.Triple.Walked.{AllGo, Fit, has_of}
use Rattle.std.proofs.alloc.Calls.{handle_tells}
use Rattle.std.proofs.raw_atomic.Walks.{proved_at, leaves}

abbrev pub byte-laws : Laws u8
byte-laws = of_field u8-field u8-laws refl (copy_shared u8-field u8-copy)

-- a machine value that may be stored where the type is wanted
abbrev pub Fitting : RattleType → Val → Type 0
Fitting R v = T (has_ty (layout R) v) × WT v

-- a struct by its fields: what it owns is the same under each name
abbrev fields_of : List RattleType → Shape
fields_of Rs = record { name = []; args = []; types = []; fields = Rs }

abbrev pub word : (Rs : List RattleType) → Valss Rs → Val
word Rs vss = vstruct (of_list (flat Rs vss))

-- the word of a struct whose fields are all ghost
abbrev pub no_word : Val
no_word = word [] tt

module _ {M : Type 1} {𝓤 : Ura M} {𝓛 : Logic 𝓤} {K : Type 0} {Γ : List (Item 𝓤)} {G : Goal 𝓤 𝓛.H} where
  pub made : K → (Rs : List RattleType) (xs : Denots Rs) (vss : Valss Rs)
      → Step K 𝓛 (‵ ((Struct (fields_of Rs)).own_val xs (word Rs vss ∷ [])) ∷ Γ) G (‵ (owns Rs xs vss) ∷ Γ) G
  made t Rs xs vss = step (λ s.
      feq_i t (List Val) (word Rs vss ∷ []) (word Rs vss ∷ []) refl $ fjoin t $ fpack t (Valss Rs) (within (fields_of Rs) xs (word Rs vss ∷ [])) vss $ s)

  pub apart : K → (Rs : List RattleType) (xs : Denots Rs) (vs : List Val)
      → ((vss : Valss Rs) → vs ≡ word Rs vss ∷ [] → Seq K 𝓛 (‵ (owns Rs xs vss) ∷ Γ) G) → Seq K 𝓛 (‵ ((Struct (fields_of Rs)).own_val xs vs) ∷ Γ) G
  apart t Rs xs vs k = fpick t (λ vss. fsplit t $ feq_l t (λ is. k vss is))

module _ {M : Type 1} {𝓤 : Ura M} {𝓛 : Logic 𝓤} {K : Type 0} {Γ : List (Item 𝓤)} {G : Goal 𝓤 𝓛.H} where
  -- a ghost struct, over what it owns
  pub ghostly : K → {F : Fml} → Step K 𝓛 (‵ (fsep ((Struct (fields_of [])).own_val tt (no_word ∷ [])) F) ∷ Γ) G (‵ F ∷ Γ) G
  ghostly t = step (λ s. nothing t $ made t [] tt tt $ fjoin t $ s)

  -- what it owns
  pub opened : K → {F : Fml} (vs : List Val) → (vs ≡ no_word ∷ [] → Seq K 𝓛 (‵ F ∷ Γ) G) → Seq K 𝓛 (‵ (fsep ((Struct (fields_of [])).own_val tt vs) F) ∷ Γ) G
  opened t vs k = fsplit t $ apart t [] tt vs (λ _ is. drop t $ k is)

  pub paired : K → (R S : RattleType) (x : R.Denot) (y : S.Denot) (u v : Val)
      → Step K 𝓛 (‵ ((Struct (fields_of (R ∷ S ∷ []))).own_val (x, (y, tt)) (word (R ∷ S ∷ []) (u ∷ [], (v ∷ [], tt)) ∷ [])) ∷ Γ) G (‵ (R.own_val x (u ∷ [])) ∷ ‵ (S.own_val y (v ∷ [])) ∷ Γ) G
  paired t R S x y u v = step (λ s.
      nothing t $ move t (2 ∷ 0 ∷ []) $ fjoin t $ move t (1 ∷ 0 ∷ []) $ fjoin t $ made t (R ∷ S ∷ []) (x, (y, tt)) (u ∷ [], (v ∷ [], tt)) $ s)

  -- one machine value is what owns it, and it fits its type
  pub in_a_word : K → (R : RattleType) → Laws R → (x : R.Denot) (vs : List Val)
      → ((v : Val) → vs ≡ v ∷ [] → Fitting R v → Seq K 𝓛 (‵ (R.own_val x (v ∷ [])) ∷ Γ) G) → Seq K 𝓛 (‵ (R.own_val x vs) ∷ Γ) G
  in_a_word t R L x vs k = handle_tells (record { row = R; laws = L; g = record { dealloc_token = λ _ _ _. ftrue }; d = entry 0; drops = entry 0 }) t x vs k

-- what is left of parameters that are used up
abbrev pub used_up : ℕ → Fml
used_up zero = ftrue
used_up (suc n) = fsep ftrue (used_up n)

pub nothing_left : {M : Type 1} {𝓤 : Ura M} (𝓛 : Logic 𝓤) (n : ℕ) → ent 𝓤 (emp 𝓤) (sem 𝓛 (used_up n))
nothing_left 𝓛 zero = qed 𝓛 [] ∵ nothing ! $ done !
nothing_left 𝓛 (suc n) = qed 𝓛 [] ∵ use0 𝓛 (‵ (used_up n)) (nothing_left 𝓛 n) $ nothing ! $ fjoin ! $ done !

-- a walk of a function T from what its parameters own to its result
module _ {M : Type 1} {𝓤 : Ura M} (𝓛 : Logic 𝓤) (T : Ended) (hs : Stays T.signature.params T.kept) (c : Clauses 𝓤 T) where
  open 𝓛 use {H}

  abbrev W : denote.Triple.Statement.Contract 𝓤
  W = walk_of 𝓛 T hs c

  pub walked : (𝓜 : Model 𝓤 H) (𝓡 : Running 𝓤 H 𝓜) → AllGo 𝓛 T.signature.lifetimes T.signature.params T.kept hs → (k : Callee) (e : Fn)
      → Closed 𝓤 H (tables 𝓤 H 𝓜 𝓡 𝓡.env).C (tables 𝓤 H 𝓜 𝓡 𝓡.env).Λ k e → (Asked : W.Ghost → Type 0) → ((z : W.Ghost) → ent 𝓤 ((c z.0.0 z.0.3).requires z.1) (fact 𝓤 (Asked z)))
      → ((z : W.Ghost) → Asked z → Sq 𝓛 (‵ (owns (types_at T.signature.params z.0.0) z.0.3 z.0.4) ∷ raw (alive 𝓛 T.signature z.0.0 z.0.1) ∷ []) (prop (WpFn 𝓤 H (tables 𝓤 H 𝓜 𝓡 𝓡.env).C (tables 𝓤 H 𝓜 𝓡 𝓡.env).Λ e (W.args z) (W.post z))))
      → Meets 𝓛 T.signature ((tables 𝓤 H 𝓜 𝓡 𝓡.env).C k) (closing 𝓛 T c)
  walked 𝓜 𝓡 go k e closed Asked asks walk = proved_at 𝓛 T hs c 𝓜 𝓡 go k e closed (λ z are.
      qed 𝓛 ((raw (alive 𝓛 T.signature z.0.0 z.0.1) ⊛ ‵ (owns (types_at T.signature.params z.0.0) z.0.3 z.0.4)) ∷ raw ((c z.0.0 z.0.3).requires z.1) ∷ []) ∵
      split ! $ move ! (2 ∷ 1 ∷ 0 ∷ []) $ use1 𝓛 (raw (fact 𝓤 (Asked z))) (asks z) $ heard ! (Asked z) (λ asked. walk z asked))

  -- at the end it owns the result; the parameters are used up
  pub ended : (z : W.Ghost) (v : Val) (r : Res T.signature z.0.0) (ws : Lasts T z.0.0 z.0.3) → Fit T hs z.0.0 z.0.3 ws
      → ent 𝓤 (emp 𝓤) (sem 𝓛 (has_of z.0.0 T.signature.params T.kept hs z.0.3 ws z.0.4)) → ent 𝓤 (emp 𝓤) ((c z.0.0 z.0.3).ensures z.1 r (at_exit T z.0.0 z.0.3 ws))
      → ent 𝓤 (sep 𝓤 (sem 𝓛 ((type_at T.signature.result z.0.0).own_val r (v ∷ []))) (alive 𝓛 T.signature z.0.0 z.0.1)) (W.post z v)
  ended z v r ws fit left said =
      qed 𝓛 (‵ ((type_at T.signature.result z.0.0).own_val r (v ∷ [])) ∷ raw (alive 𝓛 T.signature z.0.0 z.0.1) ∷ []) ∵
      use0 𝓛 (raw ((c z.0.0 z.0.3).ensures z.1 r (at_exit T z.0.0 z.0.3 ws))) said $ use0 𝓛 (‵ (has_of z.0.0 T.signature.params T.kept hs z.0.3 ws z.0.4)) left $
      move ! (3 ∷ 0 ∷ 2 ∷ 1 ∷ []) $ by ! (leaves 𝓛 T hs c z v r ws fit)

-- what a call of a function without lifetimes of its own asks for, over what its arguments own and what it requires
module _ {M : Type 1} {𝓤 : Ura M} (𝓛 : Logic 𝓤) (arguments : Fml) where
  abbrev free_of_lifetimes : SProp 𝓤
  free_of_lifetimes = fact 𝓤 ([] ⊑ [])

  abbrev given_over : SProp 𝓤
  given_over = sep 𝓤 (sep 𝓤 (sem 𝓛 (flft [] full_share)) (sem 𝓛 ftrue)) (sem 𝓛 arguments)

  pub handed : (required : SProp 𝓤) → ent 𝓤 (sep 𝓤 (sem 𝓛 arguments) required) (sep 𝓤 given_over (sep 𝓤 free_of_lifetimes required))
  handed required =
      qed 𝓛 (‵ arguments ∷ raw required ∷ []) ∵ nothing ! $ use0 𝓛 (‵ (flft [] full_share)) (𝓛.lfts.lft-nil full_share) $ join ! $ join ! $ move ! (1 ∷ []) $
      use0 𝓛 (raw free_of_lifetimes) (fact_i 𝓤 ([] ⊑ []) (emp 𝓤) (⊑_refl [])) $ join ! $ move ! (1 ∷ 0 ∷ []) $ join ! $ done !
