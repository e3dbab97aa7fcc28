-- `empty` makes a null pointer, which owns nothing.
use mathlib.Core.Path.{refl, sym, subst}
use mathlib.Core.List.{List, [], ◌∷◌, ◌++◌}
use lib.Dec.{lit<}
use mir.MapTy.{inst_fn}
use mir.Val.{Val, vnull}
use base.Logic.{SProp, ent, id⊢}
use base.Fml.{ftrue, fsep, flft}
use contract.BorrowLft.{◌⊑◌}
use contract.Monad.{fact}
use contract.Running.{tables}
use prog.Wp.{WpFn}
use types.Kit.{Item, ‵, raw, ◌⊛◌, ◌$◌, ◌∵◌, !, qed, move, keep, join, split, fsplit, fjoin, feq_i, fpack, suffices, done}
use types.Part.{agg}
use types.Run.{lit, no_more, and_then, returns, enter}
use types.ByLocal.{alloc_all, pass_all, free_all, look_at, get, sets}
use denote.Exit.{yes}
use denote.RattleType.{Valss}
use denote.RawPtr.{null_ptr}
use denote.Signature.{Slot, plain}
use denote.Steps.{nothing}
use denote.Struct.Struct.{within}
use denote.Struct.Owning.{shape, to}
use denote.Triple.Walked.{says, Stays, stay_dropped, walk_of, ends_at, Goes-dropped}
use Rattle.std.proofs.alloc.Calls.{handle_tells}
use Rattle.std.proofs.ResultValues.{and_tt}
use Rattle.std.proofs.raw_atomic.Walks.{proved_at}
use Rattle.std.specs.contracts.alloc.Global as Heap
use Rattle.range_set_c.proofs.lemmas.NullableBoxForm.{E as form, Row, both, the_type, type_args}
use Rattle.range_set_c.specs.contracts.nullable_box.NullableBox.empty as F
use Rattle.range_set_c.specs.contracts.nullable_box.NullableBox.empty.Key.{name as #self}
use Rattle.range_set_c.proofs.nullable_box.NullableBox.empty.Statement.{statement}
use Rattle.range_set_c.proofs.nullable_box.NullableBox.empty.Code as code

abbrev From : Slot 1
From = plain (λ _. Heap.the_row)

pub empty_spec : {M : Type 1} → statement M
empty_spec 𝓤 𝓛 𝓜 𝓡 wired X LX empty d dd made glue =
    let E = form X LX in
    let H = 𝓛.H in let 𝓣 = tables 𝓤 H 𝓜 𝓡 𝓡.env in
    let fn = inst_fn (type_args X d dd) code.function in
    let ended = F.ended X empty d dd in let c = F.clauses X empty d dd 𝓛 𝓜.mem 𝓡.returns in
    let stayed : Stays ended.signature.params ended.kept = (stay_dropped From yes, tt) in
    proved_at 𝓛 ended stayed c 𝓜 𝓡 (Goes-dropped 𝓛 1 From yes (λ κs x f. refl), tt)
    (#self (type_args X d dd)) fn (code.unfolded 𝓤 H 𝓜 𝓡 wired (X, tt) d dd) (λ z are.
    let κs = z.0.0 in
    let qs = z.0.1 in
    let a = z.0.3.0 in
    let vs = z.0.4.0 in
    let Post : Val → SProp 𝓤 = (walk_of 𝓛 ended stayed c).post z in
    let Run : List Val → SProp 𝓤 = λ ws. WpFn 𝓤 H 𝓣.C 𝓣.Λ fn ws Post in
    let tokens : Item 𝓤 = ‵ (flft κs.0 qs.0) ⊛ ‵ ftrue in
    let alive : Item 𝓤 = raw (fact 𝓤 (κs.0 ⊑ X.lives)) ⊛ ‵ ftrue in
    qed 𝓛 ((tokens ⊛ ‵ (fsep (Heap.the_row.own_val a vs) ftrue)) ∷ alive ∷ []) ∵ split ! $
    move ! (1 ∷ []) $ fsplit ! $
    handle_tells E.al ! a vs (λ hv eh fa. keep ! (0 ∷ 2 ∷ []) $
    let w : Val = both vnull hv in
    let none : (Row X LX empty).Denot = record { at = null_ptr; alloc = a; value = empty.empty } in
    suffices ! (Run (hv ∷ []))
    (subst (λ (us : List Val). ent 𝓤 (Run (hv ∷ [])) (Run us)) (sym (λ i. eh i ++ []))
    (id⊢ 𝓤 (Run (hv ∷ [])))) $
    -- The context is: the allocator; the tokens.
    enter ! 𝓣.C 𝓣.Λ fn (hv ∷ []) Post $ alloc_all ! (λ l. pass_all ! refl (fa, tt) $
    sets ! (agg ! (and_then ! (lit ! tt) (and_then ! (get ! refl) (no_more !)))) refl
    (and_tt _ fa.0, (record { fits = lit< tt }, (fa.1, tt))) $
    returns ! (look_at ! 0 refl) $ free_all ! refl $
    feq_i ! X.Denot empty.empty empty.empty refl $ nothing ! $ move ! (2 ∷ 0 ∷ []) $ fjoin ! $
    feq_i ! (List Val) (vnull ∷ []) (vnull ∷ []) refl $ fjoin ! $
    feq_i ! (List Val) (w ∷ []) (w ∷ []) refl $ fjoin ! $
    fpack ! (Valss (shape (the_type X LX empty)).fields)
    (within (shape (the_type X LX empty)) (to (the_type X LX empty) none) (w ∷ []))
    (vnull ∷ [], (hv ∷ [], tt)) $
    fjoin ! $
    suffices ! _ (ends_at 𝓛 ended stayed c z w none (tt, tt) (tt, tt)) $ says ! refl $
    nothing ! $ nothing ! $ fjoin ! $ join ! $ move ! (1 ∷ 0 ∷ []) $ join ! $ done !)))
