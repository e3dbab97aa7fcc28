-- `of` gets what the box owns from `into_raw_with_allocator`, and the parts own it from then on.
use mathlib.Core.Path.{◌≡◌, refl, sym, subst, ap, ◌∙◌}
use mathlib.Core.List.{List, [], ◌∷◌, ◌++◌}
use mir.Syntax.{Args, a_type, dcons, dnil}
use mir.MapTy.{inst_fn}
use mir.Raw.{raw as bare}
use mir.Val.{Val, vstruct, of_list}
use base.Logic.{SProp, ent, id⊢, never, fst∗}
use base.Fml.{ftrue, fsep, flft}
use contract.BorrowLft.{◌⊑◌}
use prog.Wp.{WpFn}
use types.Logic.{sem}
use types.Kit.{Item, ‵, raw, ◌⊛◌, some, later, ◌$◌, ◌∵◌, !, qed, move, drop, use1, join, split, split3, pick, rewrite, fsplit, fjoin, fpick, feq_l, suffices, await, done}
use types.Part.{whole, sub, agg}
use types.Run.{stop, fld, no_more, and_then, of_opd, returns, enter}
use types.ByLocal.{alloc_all, pass_all, free_all, look_at, get, get_in, sets, lands_as}
use contract.Monad.{fact}
use contract.Running.{tables}
use denote.Exit.{no}
use denote.Param.{bounded}
use denote.RawPtr.{Ptr, RawPtr, block_ptr, null_ptr, ptr_val, in_a_block}
use denote.Signature.{plain}
use denote.Steps.{heard, nothing, only}
use denote.Struct.Tuple.{Tuple}
use denote.Triple.Call.{calls_at}
use denote.Triple.Spec.{triple_of}
use denote.Triple.Table.{framed}
use denote.Triple.Walked.{says, Stays, stay_dropped, walk_of, ends_at}
use Rattle.std.proofs.alloc.Calls.{token, handle_tells, Goes-blank}
use Rattle.std.proofs.raw_atomic.Walks.{proved_at}
use Rattle.std.specs.Box.Ownership.{box_owns}
use Rattle.std.proofs.BoxSteps.Form.{Bx, D, τ, R, P, B, word, box_typed}
use Rattle.std.proofs.BoxSteps.Steps.{box_out, box_in}
use Rattle.std.specs.contracts.boxed.Box.into_raw_with_allocator as callee
use Rattle.std.proofs.boxed.Box.into_raw_with_allocator.Met as callee_met
use Rattle.range_set_c.proofs.lemmas.UnboxedForm.{Row, parts_of}
use Rattle.range_set_c.specs.contracts.unboxed.Unboxed.of as F
use Rattle.range_set_c.specs.contracts.unboxed.Unboxed.of.Key.{name as #self}
use Rattle.range_set_c.proofs.unboxed.Unboxed.of.Statement.{statement}
use Rattle.range_set_c.proofs.unboxed.Unboxed.of.Code as code

pub of_spec : {M : Type 1} → statement M
of_spec 𝓤 𝓛 𝓜 𝓡 wired X Z LX LZ g d dd dx allocator drops glue =
    let E : Bx = record {
      row = X;
      laws = LX;
      al =
          record { row = Z; laws = LZ; g = g; d = d; drops = dd };
    } in
    let types : Args = bounded (a_type ∷ a_type ∷ []) (X, (Z, tt))
    (dcons d (dcons dd (dcons dx dnil))) in
    let H = 𝓛.H in let 𝓣 = tables 𝓤 H 𝓜 𝓡 𝓡.env in let fn = inst_fn types code.function in
    let ended = F.ended X Z g d dd dx in let c = F.clauses X Z g d dd dx 𝓛 𝓜.mem 𝓡.returns in
    let stayed : Stays ended.signature.params ended.kept =
    (stay_dropped (plain (λ _. B E)) no, tt) in
    let Parted = triple_of 𝓛 (callee.signature X Z g d dd dx)
    (callee.spec X Z g d dd dx 𝓛 𝓜.mem 𝓡.returns) in
    let known = callee_met.met 𝓤 𝓛 𝓜 𝓡
    (code.calls-std_alloc::boxed::Box::into_raw_with_allocator 𝓡.env wired) X Z LX LZ g d dd dx
    allocator drops glue in
    proved_at 𝓛 ended stayed c 𝓜 𝓡 (Goes-blank 𝓛 2 (plain (λ _. B E)) no (λ κs x f. tt), tt)
    (#self types) fn (code.unfolded 𝓤 H 𝓜 𝓡 wired (X, (Z, tt)) d dd dx) (λ z are.
    let κs = z.0.0 in
    let qs = z.0.1 in
    let boxed : D E = z.0.3.0 in
    let a = boxed.alloc in
    let x = boxed.value in
    let Post : Val → SProp 𝓤 = (walk_of 𝓛 ended stayed c).post z in
    let Run : List Val → SProp 𝓤 = λ ws. WpFn 𝓤 H 𝓣.C 𝓣.Λ fn ws Post in
    let tokens : Item 𝓤 = ‵ (flft κs.0 qs.0) ⊛ ‵ (flft κs.1.0 qs.1.0) ⊛ ‵ ftrue in
    let alive : Item 𝓤 = raw (fact 𝓤 (κs.0 ⊑ X.lives)) ⊛ raw (fact 𝓤 (κs.1.0 ⊑ Z.lives)) ⊛
    ‵ ftrue in
    qed 𝓛 ((tokens ⊛ ‵ (fsep ((B E).own_val boxed z.0.4.0) ftrue)) ∷ alive ∷ []) ∵ split ! $
    move ! (1 ∷ []) $ fsplit ! $
    box_out E ! boxed z.0.4.0
    (λ b o hv is_block are_words fits. box_in E ! boxed b o x is_block refl $
    let w = word E hv b o in let typed = box_typed E hv b o fits in
    let asked : Parted.Ghost = ((κs, qs, tt, (boxed, tt), (w ∷ [], tt)), tt) in
    suffices ! (Run (w ∷ []))
    (subst (λ (us : List Val). ent 𝓤 (Run (w ∷ [])) (Run us)) (sym (λ i. are_words i ++ []))
    (id⊢ 𝓤 (Run (w ∷ [])))) $
    -- The context is: the box; true; the tokens; what is alive.
    enter ! 𝓣.C 𝓣.Λ fn (w ∷ []) Post $
    alloc_all ! (λ l. pass_all ! refl (typed, tt) $ sets ! (of_opd ! (get ! refl)) refl typed $
    fjoin ! $ move ! (1 ∷ 0 ∷ []) $ join ! $ join ! $ use1 𝓛 (raw (Parted.pre asked)) (id⊢ 𝓤 _) $
    calls_at ! (framed 𝓤 H 𝓜 𝓣) Parted known asked (and_then ! (get ! refl) (no_more !)) (λ u.
    use1 𝓛 (later (some (λ (pair : Ptr × Z.Denot).
    (tokens ⊛ ‵ ((Tuple (RawPtr ∷ P E ∷ [])).own_val pair (u ∷ []))) ⊛
    some (λ (_ : (Unit {0} × (Unit {0} × Unit {0})) × Unit {0}).
    ‵ (fsep (fsep ftrue (fsep ftrue ftrue)) ftrue) ⊛
    (raw (fact 𝓤 (pair.1 ≡ a)) ⊛ ‵ (box_owns (token E.al a) (R E) pair.0 x)))))) (id⊢ 𝓤 _) $
    await ! tt $ pick ! (λ pair. split ! $ move ! (1 ∷ []) $
    pick ! (λ _. split3 ! $ drop ! $ heard ! (pair.1 ≡ a) (λ same.
    in_a_block ! pair.0 (λ p. box_owns (token E.al a) (R E) p x)
    (fst∗ 𝓤 (never 𝓤) (sem 𝓛 (token E.al a (bare (τ E)) null_ptr))) (λ b' o' at_block.
    move ! (1 ∷ []) $ split ! $ move ! (1 ∷ []) $
    fpick ! (λ vss. fsplit ! $ feq_l ! (λ are_both. fsplit ! $ feq_l ! (λ is_pointer. fsplit ! $
    rewrite ! 0 (λ (s : Z.Denot). ‵ (Z.own_val s vss.1.0)) same refl $
    handle_tells E.al ! a vss.1.0 (λ hv' is_handle fits'.
    let again : D E = record { ptr = block_ptr b' o'; alloc = a; value = x } in
    let w' = word E hv' b' o' in
    let typed' = box_typed E hv' b' o' fits' in
    lands_as ! (ap only (are_both ∙
    (λ j. vstruct (of_list
    ((is_pointer ∙ ap (λ (p : Ptr). ptr_val p ∷ []) at_block) j ++ (is_handle j ++ []))) ∷ [])))
    refl typed' $
    sets ! (of_opd ! (get_in ! (fld ! refl (stop !)) (sub ! 0 refl (whole !)))) refl (tt, tt) $
    sets ! (of_opd ! (get_in ! (fld ! refl (stop !)) (sub ! 1 refl (whole !)))) refl fits' $
    sets ! (of_opd ! (get ! refl)) refl fits' $
    sets ! (agg ! (and_then ! (get ! refl) (and_then ! (get ! refl) (no_more !)))) refl typed' $
    returns ! (look_at ! 0 refl) $ free_all ! refl $
    -- The context is: the allocator; true; the tokens; the box's memory.
    move ! (3 ∷ []) $ fsplit ! $ box_in E ! again b' o' x refl refl $
    use1 𝓛 (‵ ((Row E).own_val (parts_of E again) (w' ∷ []))) (id⊢ 𝓤 _) $ move ! (1 ∷ []) $ drop ! $
    suffices ! _ (ends_at 𝓛 ended stayed c z w' (parts_of E again) ((tt, (tt, tt)), tt) (tt, tt)) $
    says ! refl $
    nothing ! $ nothing ! $ fjoin ! $ join ! $ move ! (1 ∷ 0 ∷ []) $ join ! $ done !))))))))))))
