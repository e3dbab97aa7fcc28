-- `is_refused` and `note_free` at a call: what each is passed, and what its caller gets back.
use Rattle.std.proofs.Common.{◌≡◌, ℕ, ◌^◌, ◌<◌, Bool, List, [], ◌∷◌, refl, ap, w64}
use seplogic.Ra.Ura.{Ura}
use mir.Val.{Val, vunit, vptr, vint, vbool}
use base.Logic.{SProp, ent, sep, ex, guard, id⊢}
use base.Fml.{Lft, Share, ftrue, fsep, flft}
use prog.Memory.{Memory}
use prog.Routine.{Routine}
use types.Logic.{Logic, sem}
use contract.Monad.{Fun}
use types.Kit.{‵, raw, ◌⊛◌, some, later, ◌$◌, ◌∵◌, !, qed, move, keep, use1, split, join, pick, fjoin, feq_i, feq_l, flt_i, check, show, await, updating, now as at_once, done}
use denote.Memory.{hidden_shr}
use denote.Builtin.{bool, unit}
use denote.Steps.{nothing, only}
use denote.Triple.Statement.{Contract}
use denote.Triple.Spec.{triple_of}
use Rattle.test_support.specs.contracts.counting.Counts as CO
use Rattle.test_support.specs.contracts.counting.is_refused as RE
use Rattle.test_support.specs.contracts.counting.note_free as FR

module _ {M : Type 1} {𝓤 : Ura M} (𝓛 : Logic 𝓤) (at_mem : Memory → SProp 𝓤) (run : Routine → Fun 𝓤) where
  abbrev pub Refuses : Contract 𝓤
  Refuses = triple_of 𝓛 RE.signature (RE.spec 𝓛 at_mem run)

  abbrev pub Frees : Contract 𝓤
  Frees = triple_of 𝓛 FR.signature (FR.spec 𝓛 at_mem run)

  module _ (κ : Lft) (q : Share) (c : ℕ × ℕ) (s : (CO.the_row).Denot) (n : ℕ) where
    abbrev pub at_refuses : Refuses.Ghost
    at_refuses = (((κ, tt), (q, tt), tt, (record { ref_ptr = c; now = s }, (n, tt)), (vptr c.0 c.1 ∷ [], (vint w64 n ∷ [], tt))), tt)

    abbrev pub at_frees : Frees.Ghost
    at_frees = (((κ, tt), (q, tt), tt, (record { ref_ptr = c; now = s }, (n, tt)), (vptr c.0 c.1 ∷ [], (vint w64 n ∷ [], tt))), tt)

module _ {M : Type 1} {𝓤 : Ura M} (𝓛 : Logic 𝓤) (at_mem : Memory → SProp 𝓤) (run : Routine → Fun 𝓤) (κ : Lft) (q : Share) (c : ℕ × ℕ)
    (s : (CO.the_row).Denot) (n : ℕ) where
  open 𝓛 use {H, A}

  pub Refuses-goes : n < 2 ^ 64 → ent 𝓤 (sep 𝓤 (sem 𝓛 (hidden_shr CO.the_row κ s c.0 c.1)) (A.lft κ q))
      ((Refuses 𝓛 at_mem run).pre (at_refuses 𝓛 at_mem run κ q c s n))
  Refuses-goes fits =
      qed 𝓛 (‵ (hidden_shr CO.the_row κ s c.0 c.1) ∷ ‵ (flft κ q) ∷ []) ∵ nothing ! $ flt_i ! n (2 ^ 64) fits $
      feq_i ! (List Val) (vint w64 n ∷ []) (vint w64 n ∷ []) refl $ fjoin ! $ fjoin ! $
      move ! (1 ∷ []) $ feq_i ! (List Val) (vptr c.0 c.1 ∷ []) (vptr c.0 c.1 ∷ []) refl $ fjoin ! $ fjoin ! $
      nothing ! $ move ! (2 ∷ []) $ join ! $ join ! $ nothing ! $ move ! (1 ∷ []) $ done !

  pub Frees-goes : n < 2 ^ 64 → ent 𝓤 (sep 𝓤 (sem 𝓛 (hidden_shr CO.the_row κ s c.0 c.1)) (A.lft κ q))
      ((Frees 𝓛 at_mem run).pre (at_frees 𝓛 at_mem run κ q c s n))
  Frees-goes fits =
      qed 𝓛 (‵ (hidden_shr CO.the_row κ s c.0 c.1) ∷ ‵ (flft κ q) ∷ []) ∵ nothing ! $ flt_i ! n (2 ^ 64) fits $
      feq_i ! (List Val) (vint w64 n ∷ []) (vint w64 n ∷ []) refl $ fjoin ! $ fjoin ! $
      move ! (1 ∷ []) $ feq_i ! (List Val) (vptr c.0 c.1 ∷ []) (vptr c.0 c.1 ∷ []) refl $ fjoin ! $ fjoin ! $
      nothing ! $ move ! (2 ∷ []) $ join ! $ join ! $ nothing ! $ move ! (1 ∷ []) $ done !

  pub Refuses-gives : (v : Val) → ent 𝓤 ((Refuses 𝓛 at_mem run).post (at_refuses 𝓛 at_mem run κ q c s n) v)
      (H.⇛ (ex 𝓤 (λ (y : Bool). guard 𝓤 (v ≡ vbool y) (A.lft κ q))))
  Refuses-gives v =
      qed 𝓛 (raw ((Refuses 𝓛 at_mem run).post (at_refuses 𝓛 at_mem run κ q c s n) v) ∷ []) ∵ updating ! $
      use1 𝓛 (later (some (λ (y : Bool). ((‵ (flft κ q) ⊛ ‵ ftrue) ⊛ ‵ (bool.own_val y (v ∷ [])))
      ⊛ some (λ (ws : Unit {0} × (Unit {0} × Unit {0})). ‵ (fsep ftrue (fsep ftrue ftrue)) ⊛ ‵ ftrue)))) (id⊢ 𝓤 _) $ await ! tt $ pick ! (λ y.
      split ! $ split ! $ move ! (1 ∷ []) $ feq_l ! (λ e. split ! $ at_once ! $
      show ! (λ (y : Bool). guard 𝓤 (v ≡ vbool y) (A.lft κ q)) y $ check ! (ap only e) $ keep ! (0 ∷ []) $ done !))

  pub Frees-gives : (v : Val) → ent 𝓤 ((Frees 𝓛 at_mem run).post (at_frees 𝓛 at_mem run κ q c s n) v) (H.⇛ (guard 𝓤 (v ≡ vunit) (A.lft κ q)))
  Frees-gives v =
      qed 𝓛 (raw ((Frees 𝓛 at_mem run).post (at_frees 𝓛 at_mem run κ q c s n) v) ∷ []) ∵ updating ! $
      use1 𝓛 (later (some (λ (r : Unit {0}). ((‵ (flft κ q) ⊛ ‵ ftrue) ⊛ ‵ (unit.own_val r (v ∷ [])))
      ⊛ some (λ (ws : Unit {0} × (Unit {0} × Unit {0})). ‵ (fsep ftrue (fsep ftrue ftrue)) ⊛ ‵ ftrue)))) (id⊢ 𝓤 _) $ await ! tt $ pick ! (λ r.
      split ! $ split ! $ move ! (1 ∷ []) $ feq_l ! (λ e. split ! $ at_once ! $ check ! (ap only e) $ keep ! (0 ∷ []) $ done !))
