-- `of_parts` moves two fields, and what they own moves with them.
use mathlib.Core.Path.{refl, sym, subst}
use mathlib.Core.List.{List, [], ◌∷◌, ◌++◌}
use mir.MapTy.{inst_fn}
use mir.Val.{Val}
use base.Logic.{SProp, ent, id⊢}
use base.Fml.{ftrue, fsep, flft}
use contract.BorrowLft.{◌⊑◌}
use contract.Monad.{fact}
use contract.Running.{tables}
use prog.Wp.{WpFn}
use types.Kit.{Item, ‵, raw, ◌⊛◌, ◌$◌, ◌∵◌, !, qed, move, keep, use1, join, split, fsplit, fjoin, suffices, done}
use types.Part.{whole, sub, agg}
use types.Run.{stop, fld, no_more, and_then, of_opd, returns, enter}
use types.ByLocal.{alloc_all, pass_all, free_all, look_at, get, get_in, sets}
use denote.Exit.{no}
use denote.RawPtr.{block_ptr}
use denote.Signature.{plain}
use denote.Steps.{nothing}
use denote.Triple.Walked.{says, Stays, stay_dropped, walk_of, ends_at}
use Rattle.std.proofs.alloc.Calls.{Goes-blank}
use Rattle.std.proofs.BoxSteps.Form.{D, B, word, box_typed}
use Rattle.std.proofs.BoxSteps.Steps.{box_out, box_in}
use Rattle.std.proofs.raw_atomic.Walks.{proved_at}
use Rattle.range_set_c.proofs.lemmas.NullableBoxForm.{E as form, Row, Parts, type_args}
use Rattle.range_set_c.specs.contracts.nullable_box.NullableBox.of_parts as F
use Rattle.range_set_c.specs.contracts.nullable_box.NullableBox.of_parts.Key.{name as #self}
use Rattle.range_set_c.proofs.nullable_box.NullableBox.of_parts.Statement.{statement}
use Rattle.range_set_c.proofs.nullable_box.NullableBox.of_parts.Code as code

pub of_parts_spec : {M : Type 1} → statement M
of_parts_spec 𝓤 𝓛 𝓜 𝓡 wired X LX empty d dd made glue =
    let E = form X LX in
    let H = 𝓛.H in let 𝓣 = tables 𝓤 H 𝓜 𝓡 𝓡.env in
    let fn = inst_fn (type_args X d dd) code.function in
    let ended = F.ended X empty d dd in let c = F.clauses X empty d dd 𝓛 𝓜.mem 𝓡.returns in
    let stayed : Stays ended.signature.params ended.kept =
    (stay_dropped (plain (λ _. Parts X LX)) no, tt) in
    proved_at 𝓛 ended stayed c 𝓜 𝓡 (Goes-blank 𝓛 1 (plain (λ _. Parts X LX)) no (λ κs x f. tt), tt)
    (#self (type_args X d dd)) fn (code.unfolded 𝓤 H 𝓜 𝓡 wired (X, tt) d dd) (λ z are.
    let κs = z.0.0 in
    let qs = z.0.1 in
    let v : D E = record { ptr = z.0.3.0.at; alloc = z.0.3.0.alloc; value = z.0.3.0.value } in
    let Post : Val → SProp 𝓤 = (walk_of 𝓛 ended stayed c).post z in
    let Run : List Val → SProp 𝓤 = λ ws. WpFn 𝓤 H 𝓣.C 𝓣.Λ fn ws Post in
    let tokens : Item 𝓤 = ‵ (flft κs.0 qs.0) ⊛ ‵ ftrue in
    let alive : Item 𝓤 = raw (fact 𝓤 (κs.0 ⊑ X.lives)) ⊛ ‵ ftrue in
    qed 𝓛 ((tokens ⊛ ‵ (fsep ((B E).own_val v z.0.4.0) ftrue)) ∷ alive ∷ []) ∵ split ! $
    move ! (1 ∷ []) $ fsplit ! $
    box_out E ! v z.0.4.0 (λ b o hv is_block are_words fits.
    let v' : D E = record { ptr = block_ptr b o; alloc = v.alloc; value = v.value } in
    let made' : (Row X LX empty).Denot =
    record { at = block_ptr b o; alloc = v.alloc; value = v.value } in
    box_in E ! v' b o v.value refl refl $
    let w = word E hv b o in let typed = box_typed E hv b o fits in
    use1 𝓛 (‵ ((Row X LX empty).own_val made' (w ∷ []))) (id⊢ 𝓤 _) $
    suffices ! (Run (w ∷ []))
    (subst (λ (us : List Val). ent 𝓤 (Run (w ∷ [])) (Run us)) (sym (λ i. are_words i ++ []))
    (id⊢ 𝓤 (Run (w ∷ [])))) $
    -- The context is: the nullable box; true; the tokens; what is alive.
    enter ! 𝓣.C 𝓣.Λ fn (w ∷ []) Post $ alloc_all ! (λ l. pass_all ! refl (typed, tt) $
    sets ! (of_opd ! (get_in ! (fld ! refl (stop !)) (sub ! 0 refl (whole !)))) refl (tt, tt) $
    sets ! (of_opd ! (get_in ! (fld ! refl (stop !)) (sub ! 1 refl (whole !)))) refl fits $
    sets ! (agg ! (and_then ! (get ! refl) (and_then ! (get ! refl) (no_more !)))) refl typed $
    returns ! (look_at ! 0 refl) $ free_all ! refl $ keep ! (0 ∷ 2 ∷ []) $
    suffices ! _ (ends_at 𝓛 ended stayed c z w made' (tt, tt) (tt, tt)) $ says ! refl $
    nothing ! $ nothing ! $ fjoin ! $ join ! $ move ! (1 ∷ 0 ∷ []) $ join ! $ done !)))
