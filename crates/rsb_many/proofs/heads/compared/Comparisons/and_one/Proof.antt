-- `and_one` makes a value without bytes. The proof states its count: one more than before.
use mathlib.Core.Path.{refl}
use mathlib.Core.List.{[], ◌∷◌}
use Prim.Native.Nat.{◌+◌}
use seplogic.Ra.Ura.{Ura}
use mir.Syntax.{named}
use mir.Val.{Val, vptr, vstruct, vnil}
use base.Logic.{SProp, ent, emp, via, fst∗}
use base.Fml.{Fml}
use prog.Memory.{Memory}
use prog.Routine.{Routine}
use prog.Wp.{Calls, Loops, WpFn, Tables}
use types.Logic.{Logic}
use contract.Lifetimes.{Lfts, Shares}
use contract.Monad.{Fun}
use contract.Running.{tables, tables_of}
use sound.WpLaws.{WpFn-mono}
use types.Kit.{‵, raw, ◌$◌, ◌∵◌, !, qed, move, suffices, done}
use types.Run.{no_more, returns, enter}
use types.Part.{agg}
use types.ByLocal.{alloc_all, pass_all, free_all, look_at, sets}
use denote.Exit.{yes}
use denote.RattleType.{owns}
use denote.Ref.{shr_vals, shr_Tells}
use denote.Shadow.{pure_i}
use denote.Signature.{plain, types_at}
use denote.Triple.Entry.{on_entry, alive, Args}
use denote.Triple.Spec.{Meets, triple_of}
use denote.Triple.Table.{entered}
use denote.Triple.Walked.{says, stay_none_ref, Stays, walk_of, Walks, ends_at, walked, Goes-none_ref, walk_Meets}
use Rattle.rsb_many.specs.contracts.heads.compared.Comparisons as comparisons
use Rattle.rsb_many.specs.contracts.heads.compared.Comparisons.and_one as call
use Rattle.rsb_many.specs.contracts.heads.compared.Comparisons.and_one.Key.{name as key}
use Rattle.rsb_many.proofs.heads.compared.Comparisons.and_one.Statement as stated
use Rattle.rsb_many.proofs.heads.compared.Comparisons.and_one.Code as code

-- `self` is a reference, and nothing is written through it.
abbrev stayed : Stays (call.ended).signature.params (call.ended).kept
stayed = (stay_none_ref (0 ∷ []) tt (plain (λ _. comparisons.the_row)) yes, tt)

module _ {M : Type 1} {𝓤 : Ura M} (𝓛 : Logic 𝓤) (memory : Memory → SProp 𝓤)
    (run : Routine → Fun 𝓤) (C : Calls 𝓤 𝓛.H) (Λ : Loops 𝓤 𝓛.H) where
  open 𝓛 use {H}

  module _ (κs : Lfts 1) (qs : Shares 1) (a : Args call.signature κs) where
    -- Where `self` points.
    abbrev pointer : Val
    pointer = vptr a.0.ref_ptr.0 a.0.ref_ptr.1

    -- The ghosts of the call.
    abbrev bound : (walk_of 𝓛 call.ended stayed (call.clauses 𝓛 memory run)).Ghost
    bound = ((κs, qs, tt, a, (pointer ∷ [], tt)), tt)

    -- What is passed to the call.
    abbrev passed : Fml
    passed = owns (types_at call.signature.params κs) a (pointer ∷ [], tt)

    -- The result: one comparison more.
    abbrev result : comparisons.the_row.Denot
    result = record { made = a.0.now.made + 1 }

    -- The body, statement by statement.
    walk : ent 𝓤 (on_entry 𝓛 call.signature κs qs a (pointer ∷ [], tt))
        (WpFn 𝓤 H C Λ code.function (pointer ∷ [])
        ((walk_of 𝓛 call.ended stayed (call.clauses 𝓛 memory run)).post bound))
    walk =
        qed 𝓛 (raw (alive 𝓛 call.signature κs qs) ∷ ‵ passed ∷ []) ∵
        enter ! C Λ code.function (pointer ∷ []) _ $
        alloc_all ! (λ l. pass_all ! refl ((tt, tt), tt) $
        sets ! (agg ! (no_more !)) refl (tt, tt) $
        returns ! (look_at ! 0 refl) $ free_all ! refl $
        suffices ! _ (ends_at 𝓛 call.ended stayed (call.clauses 𝓛 memory run) bound (vstruct vnil)
        result (tt, tt) (tt, tt)) $ says ! refl $
        pure_i ! (comparisons.the_row.own_val result (vstruct vnil ∷ [])) ((λ vss. (tt, tt)), tt)
        ((tt, (refl, tt)), tt) $
        move ! (1 ∷ 2 ∷ 0 ∷ []) $ done !)

  -- The body satisfies its clauses.
  walks : Walks 𝓛 call.ended stayed (WpFn 𝓤 H C Λ code.function) (call.clauses 𝓛 memory run)
  walks =
      walked 𝓛 call.ended stayed (call.clauses 𝓛 memory run) (WpFn 𝓤 H C Λ code.function)
      (λ κs. (shr_vals, tt))
      (λ κs. (shr_Tells (named 0) κs.0 comparisons.the_row, tt))
      (λ κs qs bounds a g are. via 𝓤 _ (fst∗ 𝓤 _ (emp 𝓤)) (walk κs qs a))

-- So a call satisfies them.
meets : {M : Type 1} {𝓤 : Ura M} (𝓛 : Logic 𝓤) (memory : Memory → SProp 𝓤) (run : Routine → Fun 𝓤)
    (𝓣 : Tables 𝓤 𝓛.H)
    → Meets 𝓛 call.signature (WpFn 𝓤 𝓛.H 𝓣.C 𝓣.Λ code.function) (call.spec 𝓛 memory run)
meets {𝓤 = 𝓤} 𝓛 memory run 𝓣 =
    walk_Meets 𝓛 call.ended stayed
    (Goes-none_ref 𝓛 1 (0 ∷ []) tt (plain (λ _. comparisons.the_row)) yes, tt)
    (call.clauses 𝓛 memory run) (WpFn 𝓤 𝓛.H 𝓣.C 𝓣.Λ code.function)
    (WpFn-mono 𝓤 𝓛.H 𝓛.laws 𝓣 code.function) (walks 𝓛 memory run 𝓣.C 𝓣.Λ)

pub and_one_spec : {M : Type 1} → stated.statement M
unfolding tables_of
and_one_spec 𝓤 𝓛 𝓜 𝓡 wired =
    let all = tables 𝓤 𝓛.H 𝓜 𝓡 𝓡.env in
    entered 𝓤 𝓛.H (triple_of 𝓛 call.signature (call.spec 𝓛 𝓜.mem 𝓡.returns)) all.C all.Λ key
    code.function (code.unfolded 𝓤 𝓛.H 𝓜 𝓡 wired)
    (meets 𝓛 𝓜.mem 𝓡.returns (tables_of 𝓤 𝓛.H 𝓜 all))
