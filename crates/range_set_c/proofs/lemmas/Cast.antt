-- A function that casts a `&mut` to one to another struct, which has the same layout and owns the
-- same memory.
use mathlib.Core.Path.{◌≡◌, refl}
use mathlib.Core.List.{List, [], ◌∷◌}
use Prim.Native.Nat.{ℕ}
use seplogic.Ra.Ura.{Ura}
use mir.Syntax.{Callee, Fn, Ty, named, erased, mut, ty_ref, ty_ptr, local, value_local, place, deref, addr_of, rv_opd, copy, assign, block, seq, return}
use mir.Val.{Val, vptr}
use base.Fraction.{full_share}
use base.Logic.{SProp, ent, sep, emp}
use base.Fml.{GName, ftrue, fsep, flft}
use contract.Monad.{fact}
use contract.Running.{Running, tables}
use prog.Model.{Model}
use prog.Wp.{Closed, WpFn}
use types.Logic.{Logic, sem}
use types.Kit.{‵, later, some, at_ret, ⋆, ◌⊛◌, ◌$◌, ◌∵◌, !, qed, by, move, keep, use1, join, split, split3, fsplit3, fjoin, fpack, pick, await, group, suffices, frame, done}
use types.Run.{stop, of_opd, addr, first, blocks, exec, returns, enter}
use types.ByLocal.{alloc_all, pass_all, free_all, look_at, get, through, sets, sets_last, env}
use denote.Builtin.{One, RefMutOf}
use denote.Exit.{no}
use denote.Follow.{follows, lends_Part}
use denote.Memory.{mem, cell_at, part_of}
use denote.RattleType.{RattleType}
use denote.Ref.{MutRef, MutBor, mut_vals, mut_Tells}
use denote.Signature.{plain, mut_ref_to}
use denote.Steps.{nothing, opens}
use denote.Triple.Clauses.{Clauses, Ended, closing}
use denote.Triple.Spec.{Meets}
use denote.Triple.Walked.{says, Stays, stay_dropped, walk_of, ends_at, Goes-spent_ref}
use Rattle.std.proofs.alloc.Shapes.{after}
use Rattle.std.proofs.raw_atomic.Walks.{proved}

-- The code. The types of the two structs are written by name in a local, and in full in a place.
abbrev pub function : Ty → Ty → Ty → Ty → Fn
function source target full_source full_target = record {
  lifetimes = 1;
  outlives = [];
  ty_params = [];
  givens = 0;
  params = 1;
  locals =
      local (ty_ref (named 0) mut target) value_local
      ∷ local (ty_ref (named 0) mut source) value_local
      ∷ local (ty_ref erased mut target) value_local
      ∷ local ty_ptr value_local
      ∷ [];
  body =
      seq
      (block
      (seq
      (assign (place 3 []) (addr_of (place 1 (deref full_source ∷ []))))
      (assign (place 2 []) (addr_of (place 3 (deref full_target ∷ []))))))
      (seq (assign (place 0 []) (rv_opd (copy (place 2 [])))) return);
}

-- The row of the struct, that of the other one, and what both say of the memory.
module _ (R T : RattleType) (R-one : One R.mir) (T-one : One T.mir) (V : Type 0)
    (kept : R.Denot → V) (value : T.Denot → V)
    (source_of : T.Denot → R.Denot) (target_of : R.Denot → T.Denot)
    (same : (h : R.Denot) → value (target_of h) ≡ kept h) where
  abbrev pub ended : Ended
  ended = record {
    signature =
        record {
          lifetimes = 1;
          outlives = [];
          params = RefMutOf (0 ∷ []) tt (plain (λ _. R)) (λ _. R-one) ∷ [];
          result = RefMutOf (0 ∷ []) tt (plain (λ _. T)) (λ _. T-one);
        };
    kept = (no, tt);
  }

  abbrev stayed : Stays ended.signature.params ended.kept
  stayed = (stay_dropped (mut_ref_to (0 ∷ []) tt (plain (λ _. R))) no, tt)

  module _ {M : Type 1} {𝓤 : Ura M} (𝓛 : Logic 𝓤) where
    abbrev pub clauses : Clauses 𝓤 ended
    clauses κs a = record {
      ghost = Unit {0};
      requires = λ _. emp 𝓤;
      ensures = λ _ r _.
          sep
          𝓤
          (sem 𝓛 (follows R T a.0.ghost_name r.ghost_name source_of))
          (fact 𝓤 (value r.now ≡ kept a.0.now));
    }

    module _ (forth : (h : R.Denot) (b o : ℕ) → ent 𝓤
        (sem 𝓛 ((mem R).own_at h b o)) (sem 𝓛 ((mem T).own_at (target_of h) b o)))
        (back : (t : T.Denot) (b o : ℕ) → ent 𝓤
        (sem 𝓛 ((mem T).own_at t b o)) (sem 𝓛 ((mem R).own_at (source_of t) b o)))
        (𝓜 : Model 𝓤 𝓛.H) (𝓡 : Running 𝓤 𝓛.H 𝓜) (source target full_source full_target : Ty) where
      abbrev fn : Fn
      fn = function source target full_source full_target

      module _ (z : (walk_of 𝓛 ended stayed clauses).Ghost) where
        abbrev Post : Val → SProp 𝓤
        Post = (walk_of 𝓛 ended stayed clauses).post z

        abbrev h : R.Denot
        h = z.0.3.0.now

        abbrev b : ℕ
        b = z.0.3.0.ref_ptr.0

        abbrev o : ℕ
        o = z.0.3.0.ref_ptr.1

        abbrev Lent : RattleType
        Lent = MutRef (named 0) z.0.0.0 T

        returned : (t : T.Denot) → ent 𝓤
            (sep 𝓤 (sem 𝓛 ((mem T).own_at t b o)) (sem 𝓛 ftrue))
            (sem 𝓛 ((mem R).own_at (source_of t) b o))
        returned t =
            qed 𝓛 (‵ ((mem T).own_at t b o) ∷ ‵ ftrue ∷ []) ∵ keep ! (0 ∷ []) $ by ! (back t b o)

        walk : ent 𝓤
            (⋆ 𝓛 (‵ ((MutRef (named 0) z.0.0.0 R).own_val z.0.3.0 (vptr b o ∷ []))
            ∷ ‵ (flft z.0.0.0 z.0.1.0) ∷ []))
            (WpFn 𝓤 𝓛.H (tables 𝓤 𝓛.H 𝓜 𝓡 𝓡.env).C (tables 𝓤 𝓛.H 𝓜 𝓡 𝓡.env).Λ fn
            (vptr b o ∷ []) Post)
        unfolding part_of
        walk =
            let 𝓣 = tables 𝓤 𝓛.H 𝓜 𝓡 𝓡.env in
            let κ = z.0.0.0 in
            let q = z.0.1.0 in
            let γ = z.0.3.0.ghost_name in
            qed 𝓛 (‵ ((MutRef (named 0) κ R).own_val z.0.3.0 (vptr b o ∷ []))
            ∷ ‵ (flft κ q) ∷ []) ∵
            enter ! _ _ _ _ _ $ alloc_all ! (λ l. pass_all ! refl ((tt, tt), tt) $
            fsplit3 ! $ move ! (1 ∷ 2 ∷ 3 ∷ []) $ opens ! tt R b o (λ us.
            first ! $ blocks ! $
            sets ! (addr ! (through ! refl (stop !))) refl (tt, tt) $
            sets_last ! (addr ! (through ! refl (stop !))) refl (tt, tt) $
            exec ! 𝓣.C 𝓣.Λ (env fn.locals l) (after 1 fn.body) (at_ret (env fn.locals l) Post) $
            sets ! (of_opd ! (get ! refl)) refl (tt, tt) $ fjoin ! $
            fpack ! (List Val) (λ ws. fsep (cell_at full_share R.mir ws b o) (R.own_val h ws)) us $
            use1 𝓛 (‵ ((mem T).own_at (target_of h) b o)) (forth h b o) $
            nothing ! $ move ! (2 ∷ 3 ∷ 4 ∷ 1 ∷ 0 ∷ []) $ group ! 5 $
            use1 𝓛 (later (some (λ (γ' : GName).
            ‵ (Lent.own_val (record { ref_ptr = (b, o); ghost_name = γ'; now = target_of h })
            (vptr b o ∷ [])) ⊛ ‵ (flft κ q) ⊛ ‵ (follows R T γ γ' source_of))))
            (lends_Part 𝓛 R T source_of (named 0) κ q b o b o γ (sem 𝓛 ftrue) returned
            (R.coded.code h) (R.coded.code h) (target_of h)) $ await ! tt $ pick ! (λ γ'.
            let r : MutBor T.Denot =
            record { ref_ptr = (b, o); ghost_name = γ'; now = target_of h } in
            split3 ! $ returns ! (look_at ! 0 refl) $ free_all ! refl $ keep ! (0 ∷ 1 ∷ 2 ∷ []) $
            suffices ! _ (ends_at 𝓛 ended stayed clauses z (vptr b o) r (tt, tt) (tt, tt)) $
            nothing ! $ nothing ! $ fjoin ! $ join ! $ nothing ! $ move ! (2 ∷ 0 ∷ []) $ join ! $
            join ! $ frame ! $ says ! (same h) $ done !)))

      pub casts : (k : Callee) → Closed 𝓤 𝓛.H (tables 𝓤 𝓛.H 𝓜 𝓡 𝓡.env).C
          (tables 𝓤 𝓛.H 𝓜 𝓡 𝓡.env).Λ k fn →
          Meets 𝓛 ended.signature ((tables 𝓤 𝓛.H 𝓜 𝓡 𝓡.env).C k) (closing 𝓛 ended clauses)
      casts k closed =
          proved 𝓛 ended stayed clauses 𝓜 𝓡
          (Goes-spent_ref 𝓛 1 (0 ∷ []) tt (plain (λ _. R)), tt) k fn closed
          (λ κs. (mut_vals, tt)) (λ κs. (mut_Tells (named 0) κs.0 R, tt)) (λ κs qs bounds a g are.
          let vs = mut_vals a.0 in
          qed 𝓛 (((‵ (flft κs.0 qs.0) ⊛ ‵ ftrue) ⊛ ‵ ((MutRef (named 0) κs.0 R).own_val a.0 vs)
          ⊛ ‵ ftrue) ∷ ‵ ftrue ∷ []) ∵
          split ! $ split ! $ move ! (2 ∷ []) $ split ! $ keep ! (0 ∷ 2 ∷ []) $
          by ! (walk ((κs, qs, bounds, a, (vs, tt)), g)))
