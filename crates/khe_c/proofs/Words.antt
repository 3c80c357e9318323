-- The machine values of a handle. Assumes `Logic`.
use Rattle.std.proofs.Common.{◌≡◌, Bool, List, [], ◌∷◌, ◌++◌, refl, ◌∙◌}
use Rattle.std.specs.Prelude.{Option}
use seplogic.Ra.Ura.{Ura}
use mir.Val.{Val, vbool, vstruct, vcons, vnil, of_list}
use types.Logic.{Logic}
use types.Kit.{Item, Goal, Seq, Step, step, ‵, ◌$◌, drop, fsplit, fjoin, fpick, fpack, feq_i, feq_l}
use denote.RattleType.{Valss}
use denote.Builtin.{RawPtr, bool}
use denote.RawPtr.{Ptr, ptr_val}
use denote.Steps.{nothing}
use denote.Struct.Struct.{within}
use denote.Struct.Owning.{shape}
use Rattle.khe_c.specs.Kept.{Kept}
use Rattle.khe_c.specs.Holding.{holds}
use Rattle.khe_c.specs.declared.handles.SessionHandle.{SessionHandle}
use Rattle.khe_c.specs.contracts.handles.SessionHandle as handle

abbrev pub word : Ptr → Bool → Val
word p t = vstruct (vcons (ptr_val p) (vcons (vbool t) vnil))

abbrev pub made : Ptr → Bool → Option Kept → SessionHandle
made p t v = record { at = p; is_open = t; value = v }

module _ {M : Type 1} {𝓤 : Ura M} {𝓛 : Logic 𝓤} {K : Type 0} {Γ : List (Item 𝓤)} {G : Goal 𝓤 𝓛.H} where
  pub handle_in : K → (p : Ptr) (t : Bool) (v : Option Kept)
      → Step K 𝓛 (‵ (handle.the_row.own_val (made p t v) (word p t ∷ [])) ∷ Γ) G (‵ (holds t p v) ∷ Γ) G
  handle_in k p t v = step (λ s.
      nothing k $ feq_i k (List Val) (vbool t ∷ []) (vbool t ∷ []) refl $ fjoin k $ feq_i k (List Val) (ptr_val p ∷ [])
      (ptr_val p ∷ []) refl $ fjoin k $
      feq_i k (List Val) (word p t ∷ []) (word p t ∷ []) refl $ fjoin k $
      fpack k (Valss (RawPtr ∷ bool ∷ [])) (within (shape handle.the_type) (p, (t, tt)) (word p t ∷ []))
      (ptr_val p ∷ [], (vbool t ∷ [], tt)) $ fjoin k $ s)

  pub handle_out : K → (d : SessionHandle) (vs : List Val)
      → (vs ≡ word d.at d.is_open ∷ [] → Seq K 𝓛 (‵ (holds d.is_open d.at d.value) ∷ Γ) G)
      → Seq K 𝓛 (‵ (handle.the_row.own_val d vs) ∷ Γ) G
  handle_out k d vs s =
      fsplit k $ fpick k (λ vss. fsplit k $ feq_l k (λ ev. fsplit k $ feq_l k (λ ep. fsplit k $ feq_l k (λ eb. drop k $
      s (ev ∙ (λ i. vstruct (of_list (ep i ++ (eb i ++ []))) ∷ []))))))
