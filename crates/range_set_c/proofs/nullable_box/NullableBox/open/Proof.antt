-- `open` tests whether the pointer is null. If it is not, the boxed value is borrowed, and the
-- nullable box ends with the last value behind the borrow.
use mathlib.Core.Path.{◌≡◌, refl, sym, ap, ◌∙◌}
use mathlib.Core.List.{List, [], ◌∷◌, ◌++◌}
use Prim.Native.Nat.{ℕ}
use seplogic.Ra.Ura.{Ura}
use lib.Dec.{lit<}
use mir.MapTy.{inst_fn}
use mir.Raw.{raw as bare}
use mir.Syntax.{Dict, Fn, named}
use mir.Val.{Val, vptr, vstruct, vcons, vnil, of_list}
use base.Fraction.{full_share}
use base.Logic.{SProp, ent, sep, id⊢, guard_i}
use base.Fml.{Fml, GName, ftrue, fsep, flft, fres}
use contract.BorrowLft.{◌⊑◌}
use contract.Monad.{fact, fact_use}
use contract.Running.{Running, tables}
use prog.Model.{Model}
use prog.Wp.{WpFn}
use types.Logic.{Logic, sem}
use types.Kit.{Item, ‵, raw, given, some, later, at_ret, ⋆, ◌⊛◌, ◌$◌, ◌∵◌, !, qed, by, move, keep, drop, use0, use1, learn, join, split, split3, fsplit, fsplit3, fjoin, fpick, fpack, feq_l, feq_i, pick, await, rewrite, group, suffices, frame, done}
use types.Part.{whole, sub, agg, look_in}
use types.Match.{live}
use types.Run.{stop, fld, load, addr, lit, bin, no_more, and_then, of_opd, first, blocks, branches, skips, exec, returns, returns_within, enter}
use types.ByLocal.{alloc_all, pass_all, free_all, look_at, get, through, sets, sets_last, is, env}
use denote.Exit.{no}
use denote.Param.Laws.{Laws}
use denote.RattleType.{RattleType, Valss}
use denote.RawPtr.{Ptr, block_ptr, null_ptr, ptr_val, Testable, tests_null}
use denote.Ref.{MutRef, MutBor, mut_vals, mut_Tells}
use denote.Signature.{plain, mut_ref_to}
use denote.Memory.{mem, cell_at, part_at, part_of}
use denote.Steps.{nothing, opens, closes}
use denote.Follow.{follows, follows_by, lends_Part}
use denote.Struct.Struct.{within}
use denote.Struct.Owning.{Owning, shape, to}
use denote.Triple.Clauses.{Clauses, Ended}
use denote.Triple.Walked.{says, Stays, stay_dropped, walk_of, ends_at, Goes-spent_ref}
use Rattle.std.specs.contracts.option.Option as OP
use Rattle.std.specs.declared.option.Option.TheVariants.{None, Some}
use Rattle.std.proofs.alloc.Calls.{token, handle_tells}
use Rattle.std.proofs.alloc.Shapes.{after}
use Rattle.std.proofs.option.Made.{Some-of, none_of}
use Rattle.std.proofs.BoxSteps.Form.{Bx, τ, handle, R as Param}
use Rattle.std.proofs.GlobalToken.{dealloc_token-Testable}
use Rattle.std.proofs.raw_atomic.Walks.{proved}
use Rattle.range_set_c.proofs.lemmas.NullableBoxForm.{E as form, Row, both, the_type, type_args}
use Rattle.range_set_c.specs.NullableBox.{nullable_owns}
use Rattle.range_set_c.specs.declared.nullable_box.Empty.{Ghosts}
use Rattle.range_set_c.specs.contracts.nullable_box.NullableBox.open as F
use Rattle.range_set_c.proofs.nullable_box.NullableBox.open.Statement.{statement}
use Rattle.range_set_c.proofs.nullable_box.NullableBox.open.Code as code

module _ (X : RattleType) (LX : Laws X) (empty : Ghosts X.Denot) (d dd : Dict) where
  abbrev E : Bx
  E = form X LX

  abbrev R : RattleType
  R = Row X LX empty

  abbrev T : RattleType
  T = Param E

  abbrev S : Owning
  S = the_type X LX empty

  abbrev ended : Ended
  ended = F.ended X empty d dd

  abbrev stayed : Stays ended.signature.params ended.kept
  stayed = (stay_dropped (mut_ref_to (0 ∷ []) tt (plain (λ _. R))) no, tt)

  abbrev fn : Fn
  fn = inst_fn (type_args X d dd) code.function

  -- The nullable box with another value.
  abbrev with_value : R.Denot → T.Denot → R.Denot
  with_value boxed value = record boxed { value = value }

  module _ {M : Type 1} {𝓤 : Ura M} (𝓛 : Logic 𝓤) (𝓜 : Model 𝓤 𝓛.H) (𝓡 : Running 𝓤 𝓛.H 𝓜) where
    abbrev c : Clauses 𝓤 ended
    c = F.clauses X empty d dd 𝓛 𝓜.mem 𝓡.returns

    module _ (z : (walk_of 𝓛 ended stayed c).Ghost) where
      abbrev Post : Val → SProp 𝓤
      Post = (walk_of 𝓛 ended stayed c).post z

      abbrev h : R.Denot
      h = z.0.3.0.now

      abbrev b : ℕ
      b = z.0.3.0.ref_ptr.0

      abbrev o : ℕ
      o = z.0.3.0.ref_ptr.1

      abbrev Lent : RattleType
      Lent = MutRef (named 0) z.0.0.0 T

      abbrev Run : List Val → SProp 𝓤
      Run ws =
          WpFn 𝓤 𝓛.H (tables 𝓤 𝓛.H 𝓜 𝓡 𝓡.env).C (tables 𝓤 𝓛.H 𝓜 𝓡 𝓡.env).Λ fn ws Post

      abbrev owns : Ptr → T.Denot → Fml
      owns p x = nullable_owns T empty.empty h.alloc p x

      -- What is passed: the reference; the token of its lifetime; that of the type's.
      abbrev passed : List (Item 𝓤)
      passed = ‵ ((MutRef (named 0) z.0.0.0 R).own_val z.0.3.0 (vptr b o ∷ []))
          ∷ ‵ (flft z.0.0.0 z.0.1.0) ∷ (‵ (flft z.0.0.1.0 z.0.1.1.0) ⊛ ‵ ftrue) ∷ []

      module _ (b' o' : ℕ) (hv : Val) where
        -- All of the nullable box except the value.
        abbrev Rest : Fml
        Rest =
            fsep (fsep (token E.al h.alloc (bare (τ E)) (block_ptr b' o')) (handle E h.alloc hv))
            (cell_at full_share R.mir (both (ptr_val h.at) hv ∷ []) b o)

        back : h.at ≡ block_ptr b' o' → (x : T.Denot) →
            ent 𝓤 (sep 𝓤 (sem 𝓛 ((mem T).own_at x b' o')) (sem 𝓛 Rest))
            (sem 𝓛 ((mem R).own_at (with_value h x) b o))
        unfolding part_of
        back e x =
            let w : Val = both (ptr_val h.at) hv in
            qed 𝓛 (‵ (part_at T full_share x b' o') ∷ ‵ Rest ∷ []) ∵ move ! (1 ∷ []) $
            fsplit ! $ fsplit ! $ move ! (3 ∷ 0 ∷ []) $ fjoin ! $
            rewrite ! 0 (λ (p : Ptr). ‵ (owns p x)) (sym e) refl $
            nothing ! $ move ! (2 ∷ 0 ∷ []) $ fjoin ! $
            feq_i ! (List Val) (ptr_val h.at ∷ []) (ptr_val h.at ∷ []) refl $ fjoin ! $
            feq_i ! (List Val) (w ∷ []) (w ∷ []) refl $ fjoin ! $
            fpack ! (Valss (shape S).fields) (within (shape S) (to S (with_value h x)) (w ∷ []))
            (ptr_val h.at ∷ [], (hv ∷ [], tt)) $ fjoin ! $
            move ! (1 ∷ 0 ∷ []) $ fjoin ! $
            fpack ! (List Val) (λ us. fsep (cell_at full_share R.mir us b o)
            (R.own_val (with_value h x) us)) (w ∷ []) $ done !

      walk : (p : Ptr) → h.at ≡ p → ent 𝓤 (⋆ 𝓛 passed) (Run (vptr b o ∷ []))
      unfolding follows_by
      walk null_ptr e =
          let 𝓣 = tables 𝓤 𝓛.H 𝓜 𝓡 𝓡.env in
          let γ = z.0.3.0.ghost_name in
          qed 𝓛 passed ∵
          enter ! _ _ _ _ _ $ alloc_all ! (λ l. pass_all ! refl ((tt, tt), tt) $
          fsplit3 ! $ move ! (1 ∷ 2 ∷ 3 ∷ []) $ opens ! tt R b o (λ us. move ! (1 ∷ []) $ fsplit ! $
          fpick ! (λ vss. fsplit ! $
          feq_l ! (λ ev. fsplit ! $
          feq_l ! (λ ep. fsplit ! $ handle_tells E.al ! h.alloc vss.1.0 (λ hv ea fa.
          let w : Val = both (ptr_val h.at) hv in
          let is_w : us ≡ w ∷ [] = ev ∙ (λ j. vstruct (of_list (ep j ++ (ea j ++ []))) ∷ []) in
          move ! (1 ∷ []) $ drop ! $ move ! (1 ∷ []) $
          use1 𝓛 (‵ (owns h.at h.value)) (id⊢ 𝓤 _) $
          rewrite ! 0 (λ (p : Ptr). ‵ (owns p h.value)) e refl $ feq_l ! (λ none.
          rewrite ! 1 (λ (ws : List Val). ‵ (cell_at full_share R.mir ws b o)) is_w refl $
          -- The context is: the allocator; the cell; the open borrow, in three entries.
          sets ! (is ! (of_opd ! (load ! (through ! refl (fld ! refl (stop !)))
          (look_in ! 1 (sub ! 0 refl (whole !))))) (ap ptr_val e)) refl (
            tt,
            record {
              fits =
                  lit< tt;
            },
          ) $
          sets ! (bin ! (get ! refl) (lit ! tt) tt) refl (tt, tt) $ first ! $
          branches ! (get ! refl)
          (λ _. sets ! (agg ! (and_then ! (lit ! tt) (no_more !))) refl
          (tt, (record { fits = lit< tt }, tt)) $
          feq_i ! X.Denot h.value empty.empty none $
          rewrite ! 0 (λ (p : Ptr). ‵ (owns p h.value)) (sym e) refl $
          nothing ! $ move ! (2 ∷ 0 ∷ []) $ fjoin ! $
          feq_i ! (List Val) (ptr_val h.at ∷ []) (ptr_val h.at ∷ []) refl $ fjoin ! $
          feq_i ! (List Val) (w ∷ []) (w ∷ []) refl $ fjoin ! $
          fpack ! (Valss (shape S).fields) (within (shape S) (to S h) (w ∷ []))
          (ptr_val h.at ∷ [], (hv ∷ [], tt)) $ fjoin ! $
          move ! (1 ∷ 0 ∷ []) $ closes ! tt R h (w ∷ []) b o $
          use1 𝓛 (‵ (fres γ (R.coded.code h))) (𝓛.names.obs-res γ (R.coded.code h)) $
          move ! (1 ∷ []) $ drop ! $
          use0 𝓛 (‵ ((OP.the_row Lent).own_val None (live 0 vnil ∷ []))) (none_of 𝓛 Lent) $
          -- The context is: the result; the last value; the token; that of the type.
          returns_within ! Post refl (look_at ! 0 refl) $ free_all ! refl $
          keep ! (0 ∷ 2 ∷ 1 ∷ 4 ∷ []) $
          suffices ! _ (ends_at 𝓛 ended stayed c z (live 0 vnil) None (tt, tt) (tt, tt)) $
          nothing ! $ nothing ! $ fjoin ! $ join ! $ move ! (1 ∷ 3 ∷ []) $ join ! $ join ! $
          frame ! $ says ! none $ done !)
          (λ wrong. absurd wrong))))))))
      walk (block_ptr b' o') e =
          let 𝓣 = tables 𝓤 𝓛.H 𝓜 𝓡 𝓡.env in
          let p : Ptr = block_ptr b' o' in
          let κ = z.0.0.0 in
          let q = z.0.1.0 in
          let γ = z.0.3.0.ghost_name in
          let free = token E.al h.alloc (bare (τ E)) p in
          qed 𝓛 passed ∵
          enter ! _ _ _ _ _ $ alloc_all ! (λ l. pass_all ! refl ((tt, tt), tt) $
          fsplit3 ! $ move ! (1 ∷ 2 ∷ 3 ∷ []) $ opens ! tt R b o (λ us. move ! (1 ∷ []) $ fsplit ! $
          fpick ! (λ vss. fsplit ! $
          feq_l ! (λ ev. fsplit ! $
          feq_l ! (λ ep. fsplit ! $ handle_tells E.al ! h.alloc vss.1.0 (λ hv ea fa.
          let w : Val = both (ptr_val h.at) hv in
          let is_w : us ≡ w ∷ [] = ev ∙ (λ j. vstruct (of_list (ep j ++ (ea j ++ []))) ∷ []) in
          move ! (1 ∷ []) $ drop ! $ move ! (1 ∷ []) $
          use1 𝓛 (‵ (owns h.at h.value)) (id⊢ 𝓤 _) $
          rewrite ! 0 (λ (r : Ptr). ‵ (owns r h.value)) e refl $ fsplit ! $
          move ! (1 ∷ []) $
          use1 𝓛 (given (Testable p) (‵ free))
          (fact_use 𝓤 _ (dealloc_token-Testable 𝓛 h.alloc (bare (τ E)) p)
          (guard_i 𝓤 (Testable p) (sem 𝓛 free))) $ learn ! (λ test.
          rewrite ! 3 (λ (ws : List Val). ‵ (cell_at full_share R.mir ws b o)) is_w refl $
          -- The context is: the right to free; the value; the allocator; the cell; the open
          -- borrow, in three entries.
          sets ! (is ! (of_opd ! (load ! (through ! refl (fld ! refl (stop !)))
          (look_in ! 3 (sub ! 0 refl (whole !))))) (ap ptr_val e)) refl (tt, tt) $
          sets ! (bin ! (get ! refl) (lit ! tt) (tests_null p test)) refl (tt, tt) $ first ! $
          branches ! (get ! refl) (λ wrong. absurd wrong)
          (λ _. skips ! $ exec ! 𝓣.C 𝓣.Λ (env fn.locals l) (after 3 fn.body)
          (at_ret (env fn.locals l) Post) $
          first ! $ blocks ! $
          sets ! (addr ! (through ! refl (stop !))) refl (tt, tt) $
          sets_last ! (agg ! (and_then ! (lit ! tt) (and_then ! (get ! refl) (no_more !)))) refl
          (tt, (record { fits = lit< tt }, (tt, tt))) $
          exec ! 𝓣.C 𝓣.Λ (env fn.locals l) (after 4 fn.body) (at_ret (env fn.locals l) Post) $
          sets ! (of_opd ! (get ! refl)) refl (tt, (record { fits = lit< tt }, (tt, tt))) $
          move ! (0 ∷ 2 ∷ []) $ fjoin ! $ move ! (0 ∷ 2 ∷ []) $ fjoin ! $
          -- The context is: all except the value; the value; the open borrow, in three entries.
          move ! (2 ∷ 3 ∷ 4 ∷ 1 ∷ 0 ∷ []) $ group ! 5 $
          use1 𝓛 (later (some (λ (γ' : GName).
          ‵ (Lent.own_val (record { ref_ptr = (b', o'); ghost_name = γ'; now = h.value })
          (vptr b' o' ∷ [])) ⊛ ‵ (flft κ q) ⊛ ‵ (follows R T γ γ' (with_value h)))))
          (lends_Part 𝓛 R T (with_value h) (named 0) κ q b o b' o' γ (sem 𝓛 (Rest b' o' hv))
          (back b' o' hv e) (R.coded.code h) (R.coded.code h) h.value) $ await ! tt $ pick ! (λ γ'.
          let r : MutBor T.Denot =
          record { ref_ptr = (b', o'); ghost_name = γ'; now = h.value } in
          split3 ! $ use1 𝓛 (‵ ((OP.the_row Lent).own_val (Some r)
          (live 1 (vcons (vptr b' o') vnil) ∷ []))) (Some-of 𝓛 Lent r (vptr b' o')) $
          returns ! (look_at ! 0 refl) $ free_all ! refl $ keep ! (0 ∷ 1 ∷ 2 ∷ 4 ∷ []) $
          suffices ! _ (ends_at 𝓛 ended stayed c z
          (live 1 (vcons (vptr b' o') vnil)) (Some r) (tt, tt) (tt, tt)) $
          nothing ! $ nothing ! $ fjoin ! $ join ! $ move ! (1 ∷ 3 ∷ []) $ join ! $ join ! $
          frame ! $ says ! refl $ done !)))))))))

pub open_spec : {M : Type 1} → statement M
open_spec 𝓤 𝓛 𝓜 𝓡 wired X LX empty d dd made glue =
    proved 𝓛 (ended X LX empty d dd) (stayed X LX empty d dd) (c X LX empty d dd 𝓛 𝓜 𝓡) 𝓜 𝓡
    (Goes-spent_ref 𝓛 2 (0 ∷ []) tt (plain (λ _. Row X LX empty)), tt)
    (F.Key.name (type_args X d dd)) (fn X LX empty d dd)
    (code.unfolded 𝓤 𝓛.H 𝓜 𝓡 wired (X, tt) d dd)
    (λ κs. (mut_vals, tt)) (λ κs. (mut_Tells (named 0) κs.0 (Row X LX empty), tt))
    (λ κs qs bounds a g are.
    let vs = mut_vals a.0 in
    let R = Row X LX empty in
    let tokens : Item 𝓤 = ‵ (flft κs.0 qs.0) ⊛ ‵ (flft κs.1.0 qs.1.0) ⊛ ‵ ftrue in
    let alive : Item 𝓤 = raw (fact 𝓤 (κs.1.0 ⊑ X.lives)) ⊛ ‵ ftrue in
    qed 𝓛 ((tokens ⊛ ‵ ((MutRef (named 0) κs.0 R).own_val a.0 vs) ⊛ ‵ ftrue) ∷ alive ∷ []) ∵
    split ! $ split ! $ move ! (2 ∷ []) $ split ! $ keep ! (0 ∷ 2 ∷ 3 ∷ []) $
    by ! (walk X LX empty d dd 𝓛 𝓜 𝓡 ((κs, qs, bounds, a, (vs, tt)), g) a.0.now.at refl))
