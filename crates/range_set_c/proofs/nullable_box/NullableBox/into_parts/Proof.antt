-- `into_parts` tests whether the pointer is null. If it is not, two fields are moved, and what they
-- own moves with them.
use mathlib.Core.Path.{◌≡◌, refl, sym, subst, ◌∙◌}
use mathlib.Core.List.{List, [], ◌∷◌, ◌++◌}
use lib.Dec.{lit<}
use seplogic.Ra.Ura.{Ura}
use mir.MapTy.{inst_fn}
use mir.Raw.{raw as bare}
use mir.Syntax.{Dict, Fn}
use mir.Val.{Val, vnull, vstruct, vcons, vnil, of_list}
use base.Logic.{SProp, ent, id⊢, guard_i}
use base.Fml.{ftrue, fsep, flft}
use contract.BorrowLft.{◌⊑◌}
use contract.Monad.{fact, fact_use}
use contract.Running.{Running, tables}
use prog.Model.{Model}
use prog.Wp.{WpFn}
use types.Logic.{Logic, sem}
use types.Kit.{Item, ‵, raw, given, at_ret, ⋆, ◌⊛◌, ◌$◌, ◌∵◌, !, qed, by, move, keep, drop, use0, use1, learn, join, split, fsplit, fjoin, fpick, feq_l, suffices, done}
use types.Part.{whole, sub, agg}
use types.Match.{live}
use types.Run.{stop, fld, lit, bin, no_more, and_then, of_opd, first, branches, skips, exec, returns, returns_within, enter}
use types.ByLocal.{alloc_all, pass_all, free_all, look_at, get, get_in, sets, env}
use denote.Exit.{no}
use denote.Param.Laws.{Laws}
use denote.RattleType.{RattleType}
use denote.RawPtr.{Ptr, block_ptr, null_ptr, ptr_val, Testable, tests_null}
use denote.Signature.{plain, type_at}
use denote.Steps.{nothing}
use denote.Triple.Clauses.{Clauses, Ended}
use denote.Triple.Walked.{says, Stays, stay_dropped, walk_of, ends_at}
use Rattle.std.specs.declared.option.Option.TheVariants.{None, Some}
use Rattle.std.proofs.alloc.Calls.{token, handle_tells, Fits, Goes-blank}
use Rattle.std.proofs.alloc.Shapes.{after}
use Rattle.std.proofs.option.Made.{Some-of, none_of}
use Rattle.std.proofs.BoxSteps.Form.{Bx, D, R, τ, word, handle, box_typed}
use Rattle.std.proofs.BoxSteps.Steps.{box_in}
use Rattle.std.proofs.GlobalToken.{dealloc_token-Testable}
use Rattle.std.proofs.ResultValues.{and_tt}
use Rattle.std.proofs.raw_atomic.Walks.{proved_at}
use Rattle.range_set_c.proofs.lemmas.NullableBoxForm.{E as form, Row, Parts, both, type_args}
use Rattle.range_set_c.specs.NullableBox.{nullable_owns}
use Rattle.range_set_c.specs.declared.nullable_box.Empty.{Ghosts}
use Rattle.range_set_c.specs.contracts.nullable_box.NullableBox.into_parts as F
use Rattle.range_set_c.specs.contracts.nullable_box.NullableBox.into_parts.Key.{name as #self}
use Rattle.range_set_c.proofs.nullable_box.NullableBox.into_parts.Statement.{statement}
use Rattle.range_set_c.proofs.nullable_box.NullableBox.into_parts.Code as code

module _ (X : RattleType) (LX : Laws X) (empty : Ghosts X.Denot) (d dd : Dict) where
  abbrev E : Bx
  E = form X LX

  abbrev P : RattleType
  P = Parts X LX

  abbrev ended : Ended
  ended = F.ended X empty d dd

  abbrev stayed : Stays ended.signature.params ended.kept
  stayed = (stay_dropped (plain (λ _. Row X LX empty)) no, tt)

  abbrev fn : Fn
  fn = inst_fn (type_args X d dd) code.function

  module _ {M : Type 1} {𝓤 : Ura M} (𝓛 : Logic 𝓤) (𝓜 : Model 𝓤 𝓛.H) (𝓡 : Running 𝓤 𝓛.H 𝓜) where
    abbrev c : Clauses 𝓤 ended
    c = F.clauses X empty d dd 𝓛 𝓜.mem 𝓡.returns

    module _ (z : (walk_of 𝓛 ended stayed c).Ghost) (hv : Val) (fa : Fits E.al hv) where
      abbrev Post : Val → SProp 𝓤
      Post = (walk_of 𝓛 ended stayed c).post z

      abbrev Run : List Val → SProp 𝓤
      Run ws =
          WpFn 𝓤 𝓛.H (tables 𝓤 𝓛.H 𝓜 𝓡 𝓡.env).C (tables 𝓤 𝓛.H 𝓜 𝓡 𝓡.env).Λ fn ws Post

      abbrev tokens : Item 𝓤
      tokens = ‵ (flft z.0.0.0 z.0.1.0) ⊛ ‵ ftrue

      walk : (p : Ptr) → ent 𝓤
          (⋆ 𝓛 (‵ (nullable_owns (R E) empty.empty z.0.3.0.alloc p z.0.3.0.value)
          ∷ ‵ (handle E z.0.3.0.alloc hv) ∷ tokens ∷ []))
          (Run (both (ptr_val p) hv ∷ []))
      walk null_ptr =
          let a = z.0.3.0.alloc in let x = z.0.3.0.value in let 𝓣 = tables 𝓤 𝓛.H 𝓜 𝓡 𝓡.env in
          qed 𝓛 (‵ (nullable_owns (R E) empty.empty a null_ptr x) ∷ ‵ (handle E a hv)
          ∷ tokens ∷ []) ∵ feq_l ! (λ e. drop ! $
          enter ! 𝓣.C 𝓣.Λ fn (both vnull hv ∷ []) Post $
          alloc_all ! (λ l. pass_all ! refl
          ((and_tt _ fa.0, (record { fits = lit< tt }, (fa.1, tt))), tt) $
          sets ! (of_opd ! (get_in ! (fld ! refl (stop !)) (sub ! 0 refl (whole !)))) refl
          (tt, record { fits = lit< tt }) $
          sets ! (of_opd ! (get_in ! (fld ! refl (stop !)) (sub ! 1 refl (whole !)))) refl fa $
          sets ! (bin ! (get ! refl) (lit ! tt) tt) refl (tt, tt) $ first ! $
          branches ! (get ! refl)
          (λ _. sets ! (agg ! (and_then ! (lit ! tt) (no_more !))) refl
          (tt, (record { fits = lit< tt }, tt)) $
          returns_within ! Post refl (look_at ! 0 refl) $ free_all ! refl $
          suffices ! _ (ends_at 𝓛 ended stayed c z (live 0 vnil) None (tt, tt) (tt, tt)) $
          says ! e $
          use0 𝓛 (‵ ((type_at ended.signature.result z.0.0).own_val None (live 0 vnil ∷ [])))
          (none_of 𝓛 P) $
          nothing ! $ nothing ! $ fjoin ! $ join ! $ move ! (1 ∷ 0 ∷ []) $ join ! $ done !)
          (λ wrong. absurd wrong)))
      walk (block_ptr b o) =
          let a = z.0.3.0.alloc in let x = z.0.3.0.value in let 𝓣 = tables 𝓤 𝓛.H 𝓜 𝓡 𝓡.env in
          let v : D E = record { ptr = block_ptr b o; alloc = a; value = x } in
          let parts : P.Denot = record { at = block_ptr b o; alloc = a; value = x } in
          let w : Val = word E hv b o in
          let out : Val = live 1 (vcons w vnil) in
          let typed = box_typed E hv b o fa in
          let free = token E.al a (bare (τ E)) (block_ptr b o) in
          qed 𝓛 (‵ (nullable_owns (R E) empty.empty a (block_ptr b o) x) ∷ ‵ (handle E a hv)
          ∷ tokens ∷ []) ∵ fsplit ! $ move ! (1 ∷ []) $
          use1 𝓛 (given (Testable (block_ptr b o)) (‵ free))
          (fact_use 𝓤 _ (dealloc_token-Testable 𝓛 a (bare (τ E)) (block_ptr b o))
          (guard_i 𝓤 (Testable (block_ptr b o)) (sem 𝓛 free))) $ learn ! (λ t.
          move ! (1 ∷ 0 ∷ 2 ∷ []) $ box_in E ! v b o x refl refl $
          use1 𝓛 (‵ (P.own_val parts (w ∷ []))) (id⊢ 𝓤 _) $
          enter ! 𝓣.C 𝓣.Λ fn (w ∷ []) Post $ alloc_all ! (λ l. pass_all ! refl (typed, tt) $
          sets ! (of_opd ! (get_in ! (fld ! refl (stop !)) (sub ! 0 refl (whole !)))) refl
          (tt, tt) $
          sets ! (of_opd ! (get_in ! (fld ! refl (stop !)) (sub ! 1 refl (whole !)))) refl fa $
          sets ! (bin ! (get ! refl) (lit ! tt) (tests_null (block_ptr b o) t)) refl (tt, tt) $
          first ! $ branches ! (get ! refl) (λ wrong. absurd wrong)
          (λ _. skips ! $ exec ! 𝓣.C 𝓣.Λ (env fn.locals l) (after 4 fn.body) (at_ret _ Post) $
          sets ! (agg ! (and_then ! (get ! refl) (and_then ! (get ! refl) (no_more !)))) refl
          typed $
          sets ! (agg ! (and_then ! (lit ! tt) (and_then ! (get ! refl) (no_more !)))) refl
          (and_tt _ typed.0, (record { fits = lit< tt }, (typed.1, tt))) $
          returns ! (look_at ! 0 refl) $ free_all ! refl $
          suffices ! _ (ends_at 𝓛 ended stayed c z out (Some parts) (tt, tt) (tt, tt)) $
          says ! refl $
          use1 𝓛 (‵ ((type_at ended.signature.result z.0.0).own_val (Some parts) (out ∷ [])))
          (Some-of 𝓛 P parts w) $
          nothing ! $ nothing ! $ fjoin ! $ join ! $ move ! (1 ∷ 0 ∷ []) $ join ! $ done !)))

pub into_parts_spec : {M : Type 1} → statement M
into_parts_spec 𝓤 𝓛 𝓜 𝓡 wired X LX empty d dd made glue =
    proved_at 𝓛 (ended X LX empty d dd) (stayed X LX empty d dd) (c X LX empty d dd 𝓛 𝓜 𝓡) 𝓜 𝓡
    (Goes-blank 𝓛 1 (plain (λ _. Row X LX empty)) no (λ κs x f. tt), tt)
    (#self (type_args X d dd)) (fn X LX empty d dd)
    (code.unfolded 𝓤 𝓛.H 𝓜 𝓡 wired (X, tt) d dd) (λ z are.
    let v = z.0.3.0 in let a = v.alloc in
    let E = form X LX in
    let alive : Item 𝓤 = raw (fact 𝓤 (z.0.0.0 ⊑ X.lives)) ⊛ ‵ ftrue in
    let tokens : Item 𝓤 = ‵ (flft z.0.0.0 z.0.1.0) ⊛ ‵ ftrue in
    let held = nullable_owns (R E) empty.empty a in
    qed 𝓛 ((tokens ⊛ ‵ (fsep ((Row X LX empty).own_val v z.0.4.0) ftrue)) ∷ alive ∷ []) ∵
    split ! $ move ! (1 ∷ []) $ fsplit ! $ fsplit ! $
    fpick ! (λ vss. fsplit ! $
    feq_l ! (λ ev. fsplit ! $
    feq_l ! (λ ep. fsplit ! $
    handle_tells E.al ! a vss.1.0 (λ hv ea fa. move ! (1 ∷ []) $ drop ! $
    move ! (1 ∷ 0 ∷ 3 ∷ []) $
    use1 𝓛 (‵ (held v.at v.value)) (id⊢ 𝓤 _) $ keep ! (0 ∷ 1 ∷ 2 ∷ []) $
    let is : z.0.4.0 ≡ both (ptr_val v.at) hv ∷ [] =
    ev ∙ (λ j. vstruct (of_list (ep j ++ (ea j ++ []))) ∷ []) in
    by ! (subst (λ (us : List Val). ent 𝓤
    (⋆ 𝓛 (‵ (held v.at v.value) ∷ ‵ (handle E a hv) ∷ tokens ∷ []))
    (Run X LX empty d dd 𝓛 𝓜 𝓡 z hv fa (us ++ []))) (sym is)
    (walk X LX empty d dd 𝓛 𝓜 𝓡 z hv fa v.at)))))))
