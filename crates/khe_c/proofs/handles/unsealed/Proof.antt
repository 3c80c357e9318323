-- An open handle gives its box back; a closed one has none.
use Rattle.std.proofs.Common.{◌≡◌, ℕ, Bool, true, false, List, [], ◌∷◌, ◌++◌, refl, sym, subst, lit<}
use Rattle.std.specs.Prelude.{Option, Some, None}
use seplogic.Ra.Ura.{Ura}
use mir.Syntax.{impl, tnil, dnil}
use mir.Raw.{raw as bare}
use mir.Val.{Val, vptr, vcons, vnil}
use base.Logic.{SProp, ent, sep, emp, via, id⊢, fst∗, never, never_e}
use base.Fml.{ftrue}
use prog.Model.{Model}
use prog.Wp.{WpFn}
use types.Logic.{Logic, sem}
use types.Kit.{‵, raw, ◌⊛◌, at_ret, ◌$◌, ◌∵◌, !, qed, by, move, keep, split, fsplit, fjoin, suffices, use0, use1}
use types.Match.{live}
use types.Run.{stop, fld, lit, of_opd, no_more, and_then, first, branches, skips, exec, returns, returns_within, enter}
use types.ByLocal.{alloc_all, pass_all, free_all, look_at, get, get_in, sets, env}
use types.Part.{agg, sub, whole}
use contract.Monad.{fact, fact_i}
use contract.Running.{Running, tables}
use denote.Exit.{yes}
use denote.RattleType.{RattleType, owns}
use denote.Signature.{types_at, type_at, plain}
use denote.Memory.{lone}
use denote.Param.{layout}
use denote.RawPtr.{Ptr, block_ptr, null_ptr}
use denote.Steps.{nothing}
use denote.Triple.Walked.{Stays, stay_dropped, walk_of, Goes-dropped}
use Rattle.std.proofs.alloc.Calls.{Al, handle_tells}
use Rattle.std.proofs.alloc.Shapes.{after}
use Rattle.std.proofs.cell.Inside.{Good}
use Rattle.std.proofs.option.Made.{Some-of, none_of}
use Rattle.std.proofs.ResultValues.{and_tt}
use Rattle.std.proofs.raw_atomic.Walks.{proved_at, leaves}
use Rattle.std.specs.declared.alloc.Global.{Global}
use Rattle.std.specs.contracts.alloc.Global as heap
use Rattle.std.proofs.alloc.Global.TheLaws as heap_laws
use Rattle.std.specs.contracts.impls.GlobalAllocator.TheImpl.{ghosts}
use Rattle.std.specs.Box.Ownership.{box_owns}
use Rattle.khe_c.specs.Kept.{Kept}
use Rattle.khe_c.specs.contracts.held.Held as state
use Rattle.loose.proofs.Values.{both, Loose, loose_good, loose_in}
use Rattle.khe_c.specs.Holding.{holds, token}
use Rattle.khe_c.specs.contracts.handles.SessionHandle as handle
use Rattle.khe_c.proofs.Words.{word, made, handle_out}
use Rattle.khe_c.specs.contracts.handles.unsealed.{ended, clauses}
use Rattle.khe_c.specs.contracts.handles.unsealed.Key.{name as #self}
use Rattle.khe_c.proofs.handles.unsealed.Statement.{statement}
use Rattle.khe_c.proofs.handles.unsealed.Code as code

abbrev R : RattleType
R = state.the_row

abbrev Z : RattleType
Z = heap.the_row

abbrev Lr : RattleType
Lr = Loose R Z heap_laws.the_row_laws ghosts

abbrev al : Al
al = record { row = Z; laws = heap_laws.the_row_laws; g = ghosts; d = impl [] tnil dnil; drops = impl [] tnil dnil }

abbrev Out : RattleType
Out = type_at ended.signature.result tt

abbrev hs : Stays ended.signature.params ended.kept
hs = (stay_dropped (plain (λ _. handle.the_row)) yes, (stay_dropped (plain (λ _. Z)) yes, tt))

module _ {M : Type 1} {𝓤 : Ura M} (𝓛 : Logic 𝓤) (𝓜 : Model 𝓤 𝓛.H) (𝓡 : Running 𝓤 𝓛.H 𝓜) (a : Global) (h : Val)
    (fits : Good (layout Z) h) (vs us : List Val) where
  open 𝓛 use {H}

  abbrev y : Ptr → Bool → Option Kept → (walk_of 𝓛 ended hs (clauses 𝓛 𝓜.mem 𝓡.returns)).Ghost
  y p t v = ((tt, tt, tt, (made p t v, (a, tt)), (vs, (us, tt))), tt)

  abbrev Post : Ptr → Bool → Option Kept → Val → SProp 𝓤
  Post p t v = (walk_of 𝓛 ended hs (clauses 𝓛 𝓜.mem 𝓡.returns)).post (y p t v)

  abbrev Run : Ptr → Bool → Option Kept → List Val → SProp 𝓤
  Run p t v ws = WpFn 𝓤 H (tables 𝓤 H 𝓜 𝓡 𝓡.env).C (tables 𝓤 H 𝓜 𝓡 𝓡.env).Λ code.function ws (Post p t v)

  abbrev Had : Ptr → Bool → Option Kept → SProp 𝓤
  Had p t v = sep 𝓤 (sem 𝓛 (holds t p v)) (sem 𝓛 (Z.own_val a (h ∷ [])))

  none : (p : Ptr) (v : Option Kept) (w : Good (layout handle.the_row) (word p false))
      → Good (layout denote.Builtin.RawPtr) (denote.RawPtr.ptr_val p)
      → ent 𝓤 (Had p false v) (Run p false v (word p false ∷ h ∷ []))
  none p v typed at = let 𝓣 = tables 𝓤 H 𝓜 𝓡 𝓡.env in let fn = code.function in let K = Post p false v in
      qed 𝓛 (‵ (holds false p v) ∷ ‵ (Z.own_val a (h ∷ [])) ∷ []) ∵ keep ! (0 ∷ []) $
      enter ! 𝓣.C 𝓣.Λ fn (word p false ∷ h ∷ []) K $ alloc_all !
      (λ l. pass_all ! refl (typed, (fits, tt)) $ let Ev = env fn.locals l in
      sets ! (of_opd ! (get_in ! (fld ! refl (stop !)) (sub ! 0 refl (whole !)))) refl at $
      sets ! (of_opd ! (get_in ! (fld ! refl (stop !)) (sub ! 1 refl (whole !)))) refl (tt, tt) $
      sets ! (of_opd ! (get ! refl)) refl (tt, tt) $
      first ! $ branches ! (get ! refl) (λ wrong. absurd wrong)
      (λ _. skips ! $ exec ! 𝓣.C 𝓣.Λ Ev (after 4 fn.body) (at_ret Ev K) $
      sets ! (agg ! (and_then ! (lit ! tt) (no_more !))) refl (tt, (record { fits = lit< tt }, tt)) $
      use0 𝓛 (‵ (Out.own_val None (live 0 vnil ∷ []))) (none_of 𝓛 Lr) $
      use0 𝓛 (raw (fact 𝓤 (false ≡ false))) (fact_i 𝓤 (false ≡ false) (emp 𝓤) refl) $
      nothing ! $ nothing ! $ fjoin ! $ nothing ! $ fjoin ! $ nothing ! $
      returns ! (look_at ! 0 refl) $ free_all ! refl $ keep ! (0 ∷ 1 ∷ 3 ∷ 2 ∷ []) $ by !
      (leaves 𝓛 ended hs (clauses 𝓛 𝓜.mem 𝓡.returns) (y p false v) (live 0 vnil) None (tt, (tt, tt))
      (tt, (tt, tt)))))

  some : (b o : ℕ) (x : Kept) → ent 𝓤 (Had (block_ptr b o) true (Some x))
      (Run (block_ptr b o) true (Some x) (word (block_ptr b o) true ∷ h ∷ []))
  some b o x = let p = block_ptr b o in let 𝓣 = tables 𝓤 H 𝓜 𝓡 𝓡.env in let fn = code.function in let K =
      Post p true (Some x) in
      let m : Val = both (vptr b o) h in let typed = loose_good R Z heap_laws.the_row_laws ghosts b o h fits in
      let w : Val = live 1 (vcons m vnil) in
      let d : Lr.Denot = record { at = p; alloc = a; value = x } in
      let good : Good (layout Out) w = (and_tt _ typed.0, (record { fits = lit< tt }, (typed.1, tt))) in
      qed 𝓛 (‵ (holds true p (Some x)) ∷ ‵ (Z.own_val a (h ∷ [])) ∷ []) ∵
      enter ! 𝓣.C 𝓣.Λ fn (word p true ∷ h ∷ []) K $ alloc_all !
      (λ l. pass_all ! refl ((tt, (tt, (tt, tt))), (fits, tt)) $
      sets ! (of_opd ! (get_in ! (fld ! refl (stop !)) (sub ! 0 refl (whole !)))) refl (tt, tt) $
      sets ! (of_opd ! (get_in ! (fld ! refl (stop !)) (sub ! 1 refl (whole !)))) refl (tt, tt) $
      sets ! (of_opd ! (get ! refl)) refl (tt, tt) $
      first ! $ branches ! (get ! refl) (λ _.
      sets ! (of_opd ! (get ! refl)) refl (tt, tt) $
      sets ! (agg ! (and_then ! (get ! refl) (and_then ! (get ! refl) (no_more !)))) refl typed $
      sets ! (agg ! (and_then ! (lit ! tt) (and_then ! (get ! refl) (no_more !)))) refl good $
      use1 𝓛 (‵ (box_owns (ghosts.dealloc_token a) R p x)) (id⊢ 𝓤 _) $ loose_in R Z heap_laws.the_row_laws ghosts ! b o
      h a x $
      use1 𝓛 (‵ (Out.own_val (Some d) (w ∷ []))) (Some-of 𝓛 Lr d m) $
      let F = (true ≡ true) × (Some x ≡ Some d.value) in use0 𝓛 (raw (fact 𝓤 F)) (fact_i 𝓤 F (emp 𝓤) (refl, refl)) $
      nothing ! $ nothing ! $ fjoin ! $ nothing ! $ fjoin ! $ nothing ! $
      returns_within ! K refl (look_at ! 0 refl) $ free_all ! refl $ keep ! (0 ∷ 1 ∷ 3 ∷ 2 ∷ []) $ by !
      (leaves 𝓛 ended hs (clauses 𝓛 𝓜.mem 𝓡.returns) (y p true (Some x)) w (Some d) (tt, (tt, tt)) (tt, (tt, tt))))
      (λ wrong. absurd wrong))

  each : (p : Ptr) (t : Bool) (v : Option Kept) → ent 𝓤 (Had p t v) (Run p t v (word p t ∷ h ∷ []))
  each null_ptr false v = none null_ptr v (tt, (record { fits = lit< tt }, (tt, tt))) (tt, record { fits = lit< tt })
  each (block_ptr b o) false v = none (block_ptr b o) v (tt, (tt, (tt, tt))) (tt, tt)
  each p true None = via 𝓤 (never 𝓤) (fst∗ 𝓤 (never 𝓤) (sem 𝓛 (Z.own_val a (h ∷ [])))) (never_e 𝓤 _)
  each null_ptr true (Some x) = via 𝓤 (never 𝓤)
      (via 𝓤 (sem 𝓛 (holds true null_ptr (Some x)))
      (fst∗ 𝓤 (sem 𝓛 (holds true null_ptr (Some x))) (sem 𝓛 (Z.own_val a (h ∷ []))))
      (fst∗ 𝓤 (never 𝓤) (sem 𝓛 (token (bare (lone R.mir)) null_ptr)))) (never_e 𝓤 _)
  each (block_ptr b o) true (Some x) = some b o x

pub unsealed_spec : {M : Type 1} → statement M
unsealed_spec 𝓤 𝓛 𝓜 𝓡 wired =
    let H = 𝓛.H in let c = clauses 𝓛 𝓜.mem 𝓡.returns in let fn = code.function in
    proved_at 𝓛 ended hs c 𝓜 𝓡 (
      Goes-dropped 𝓛 0 (plain (λ _. handle.the_row)) yes (λ κs x f. refl),
      (Goes-dropped 𝓛 0 (plain (λ _. Z)) yes (λ κs x f. refl), tt),
    ) #self fn (code.unfolded 𝓤 H 𝓜 𝓡 wired) (λ z are.
    let d = z.0.3.0 in let a = z.0.3.1.0 in let vs = z.0.4.0 in let us = z.0.4.1.0 in
    qed 𝓛 ((‵ ftrue ⊛ ‵ (owns (types_at ended.signature.params z.0.0) z.0.3 z.0.4)) ∷ raw
    ((c z.0.0 z.0.3).requires z.1) ∷ []) ∵ split ! $ move ! (1 ∷ []) $ fsplit ! $ move ! (1 ∷ []) $ fsplit ! $
    handle_tells al ! a us (λ h ea fits. move ! (2 ∷ []) $ handle_out ! d vs (λ ed. keep ! (0 ∷ 1 ∷ []) $
    suffices ! (Run 𝓛 𝓜 𝓡 a h fits vs us d.at d.is_open d.value (word d.at d.is_open ∷ h ∷ []))
    (subst (λ (ws : List Val × List Val). ent 𝓤 (Run 𝓛 𝓜 𝓡 a h fits vs us d.at d.is_open d.value
    (word d.at d.is_open ∷ h ∷ [])) (Run 𝓛 𝓜 𝓡 a h fits vs us d.at d.is_open d.value (ws.0 ++ (ws.1 ++ []))))
    (λ j. (sym ed j, sym ea j)) (id⊢ 𝓤 _)) $
    by ! (each 𝓛 𝓜 𝓡 a h fits vs us d.at d.is_open d.value))))
