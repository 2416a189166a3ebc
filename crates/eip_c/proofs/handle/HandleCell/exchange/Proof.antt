-- `exchange` writes and reads the cell as a box: a cell with a device owns what the box of that device owns.
use Rattle.std.proofs.Common.{◌≡◌, ℕ, List, [], ◌∷◌, ◌++◌, Option, refl, sym, ap, subst, lit<}
use mathlib.Core.Path.{◌∙◌}
use native.Mathlib.Nat.{suc-ne-zero}
use seplogic.Ra.Ura.{Ura}
use mir.Val.{Val, vptr, vcons, vnil, of_list}
use base.Fraction.{full_share}
use base.Logic.{SProp, ent, sep, emp, via, emp∗, id⊢}
use base.Fml.{Lft, GName, Share, ftrue, flft, fobs, fbor}
use prog.Model.{Model}
use prog.Wp.{WpFn}
use types.Logic.{Logic, sem}
use types.SemTy.{Body as Borrowed}
use types.Kit.{‵, raw, ◌⊛◌, at_ret, ◌$◌, ◌∵◌, !, qed, done, by, move, keep, drop, use0, use1, split, join, fsplit, fsplit3, fjoin, fjoin3, fpick, feq_i, feq_l, rewrite, suffices, frame}
use types.Run.{enter, of_opd, addr, load, stop, fld, lit, no_more, and_then, look_raw, store_raw, assigns, first, exec, returns}
use types.Part.{agg, whole}
use types.Match.{live, vrt, in_variant, by_variants}
use types.ByLocal.{alloc_all, pass_all, free_all, look_at, get, get_in, get_tag, through, sets, sets_last, env}
use contract.Monad.{fact}
use contract.Running.{Running, MachineTables, tables}
use denote.Exit.{yes, Last}
use denote.Laws.{shows, Typed}
use denote.Memory.{cell_at, mem}
use denote.Param.{layout}
use denote.RattleType.{RattleType, owns}
use denote.Signature.{types_at, plain}
use denote.Steps.{nothing, opens, closes, peeks, heard}
use denote.Triple.Statement.{Contract}
use denote.Triple.Walked.{Goes, Stays, walk_of, says, stay_ref, stay_dropped, Goes-ref, ends_at}
use Rattle.core.proofs.alloc.Shapes.{after}
use Rattle.core.proofs.cell.Inside.{one}
use Rattle.core.specs.contracts.option.Option as option
use Rattle.core.specs.declared.option.Option.TheVariants.{None, Some}
use Rattle.std.proofs.raw_atomic.Walks.{proved_at}
use Rattle.std.specs.contracts.alloc.Global as heap
use Rattle.std.proofs.alloc.Global.TheLaws as heap_laws
use Rattle.std.specs.contracts.impls.GlobalAllocator.TheImpl.{ghosts}
use Rattle.std_alloc.specs.contracts.boxed.Box as boxed
use Rattle.std_alloc.proofs.boxed.Box.TheLaws as box_laws
use Rattle.std_alloc.proofs.RcSteps.{some_Good, Some-of, none_of}
use Rattle.eip_c.specs.declared.answered_device.AnsweredDevice.{AnsweredDevice}
use Rattle.eip_c.specs.contracts.answered_device.AnsweredDevice as device
use Rattle.eip_c.proofs.answered_device.AnsweredDevice.TheLaws as device_laws
use Rattle.eip_c.specs.declared.handle.HandleCell.{HandleCell}
use Rattle.eip_c.specs.contracts.handle.HandleCell.{the_row as R}
use Rattle.eip_c.proofs.handle.HandleCell.TheLaws.{lowers, the_row_laws}
use Rattle.eip_c.specs.contracts.handle.HandleCell.TheFields.{the_row as Fields}
use Rattle.eip_c.proofs.handle.HandleCell.TheFields.TheLaws.{the_row_copy, of_owner}
use Rattle.eip_c.specs.Exchange.{Exchanges}
use Rattle.eip_c.specs.contracts.handle.HandleCell.exchange as f
use Rattle.eip_c.proofs.handle.HandleCell.exchange.Statement.{statement}
use Rattle.eip_c.proofs.handle.HandleCell.exchange.Code as code

abbrev Boxed : RattleType
Boxed = boxed.the_row device.the_row heap.the_row ghosts

abbrev Maybe : RattleType
Maybe = option.the_row Boxed

abbrev stayed : Stays f.ended.signature.params f.ended.kept
stayed = (stay_ref (0 ∷ []) tt (plain (λ _. R)), (stay_dropped (plain (λ _. Maybe)) yes, tt))

-- nothing is left of the box that was passed
spent : {M : Type 1} {𝓤 : Ura M} (𝓛 : Logic 𝓤) → Goes 𝓛 1 (plain (λ _. Maybe)) yes (stay_dropped (plain (λ _. Maybe)) yes)
spent {𝓤 = 𝓤} 𝓛 κs None w vs fit = 𝓛.laws.⇛_intro (emp 𝓤)
spent {𝓤 = 𝓤} 𝓛 κs (Some b) w vs fit = via 𝓤 (sep 𝓤 (emp 𝓤) (emp 𝓤)) (emp∗ 𝓤 (emp 𝓤)) (𝓛.laws.⇛_intro (sep 𝓤 (emp 𝓤) (emp 𝓤)))

module _ {M : Type 1} {𝓤 : Ura M} (𝓛 : Logic 𝓤) (𝓜 : Model 𝓤 𝓛.H) (𝓡 : Running 𝓤 𝓛.H 𝓜) (κ : Lft) (q : Share) (rb ro : ℕ) (γ : GName) (h : HandleCell) (rs : List Val) (at : rs ≡ vptr rb ro ∷ []) where
  open 𝓛 use {H}

  abbrev 𝓣 : MachineTables 𝓤 H 𝓜
  𝓣 = tables 𝓤 H 𝓜 𝓡 𝓡.env

  abbrev W : Contract 𝓤
  W = walk_of 𝓛 f.ended stayed (f.clauses 𝓛 𝓜.mem 𝓡.returns)

  abbrev z : Maybe.Denot → List Val → W.Ghost
  z put vs = (((κ, tt), (q, tt), tt, (record { ref_ptr = (rb, ro); ghost_name = γ; now = h }, (put, tt)), (rs, (vs, tt))), tt)

  abbrev Runs : Maybe.Denot → List Val → List Val → SProp 𝓤
  Runs put vs ws = WpFn 𝓤 H 𝓣.C 𝓣.Λ code.function ws (W.post (z put vs))

  -- the parameters' machine values are written out
  at_word : (put : Maybe.Denot) (vs : List Val) (w : Val) → vs ≡ w ∷ [] → ent 𝓤 (Runs put vs (vptr rb ro ∷ w ∷ [])) (Runs put vs (rs ++ (vs ++ [])))
  at_word put vs w is = subst (λ (ws : List Val). ent 𝓤 (Runs put vs (vptr rb ro ∷ w ∷ [])) (Runs put vs ws)) (λ i. sym at i ++ (sym is i ++ [])) (id⊢ 𝓤 _)

  exits : (put : Maybe.Denot) (vs : List Val) (v : Val) (r : Maybe.Denot) (h' : HandleCell) → Last (Maybe.exit yes) put → Exchanges h put h' r
      → ent 𝓤 (sep 𝓤 (𝓛.A.obs γ (R.coded.code h')) (sep 𝓤 (𝓛.A.bor κ (Borrowed (mem R) rb ro γ)) (sep 𝓤 (𝓛.A.lft κ q) (sem 𝓛 (Maybe.own_val r (v ∷ [])))))) (W.post (z put vs) v)
  exits put vs v r h' out said =
      qed 𝓛 (‵ (fobs γ (R.coded.code h')) ∷ ‵ (fbor κ (Borrowed (mem R) rb ro γ)) ∷ ‵ (flft κ q) ∷ ‵ (Maybe.own_val r (v ∷ [])) ∷ []) ∵
      suffices ! _ (ends_at 𝓛 f.ended stayed (f.clauses 𝓛 𝓜.mem 𝓡.returns) (z put vs) v r (h', (out, tt)) (tt, (tt, tt))) $ says ! said $
      nothing ! $ move ! (3 ∷ 0 ∷ []) $ join ! $ frame ! $ feq_i ! (List Val) rs (vptr rb ro ∷ []) at $ fjoin3 ! $ nothing ! $ nothing ! $ fjoin ! $ move ! (1 ∷ 0 ∷ []) $ fjoin ! $ done !

  goes : (put : Maybe.Denot) (vs : List Val) → ent 𝓤 (W.pre (z put vs)) (Runs put vs (rs ++ (vs ++ [])))
  goes (Some b) vs =
      let y = z (Some b) vs in let h' : HandleCell = record { at = b.ptr; alloc = b.alloc; value = Some b.value; last = b.value } in
      qed 𝓛 (((‵ (flft κ q) ⊛ ‵ ftrue) ⊛ ‵ (owns (types_at f.ended.signature.params y.0.0) y.0.3 y.0.4)) ∷ raw (fact 𝓤 (Unit {0})) ∷ []) ∵
      split ! $ split ! $ move ! (2 ∷ []) $ fsplit ! $ fsplit3 ! $ move ! (3 ∷ []) $ fsplit ! $ fpick ! (λ us. fsplit ! $ feq_l ! (λ e. fpick ! (λ vss. fsplit ! $ feq_l ! (λ e'. fsplit ! $
      peeks ! Boxed _ (shows 𝓛 Boxed) b vss.0 (λ is_boxed.
      let word = one (layout Boxed) vss.0 (((box_laws.the_field_loose device.the_row heap.the_row ghosts device_laws.the_row_laws heap_laws.the_row_laws).lawful 𝓛).typed b vss.0 is_boxed) in let w = word.0 in let typed = word.2 in
      rewrite ! 0 (λ (ws : List Val). ‵ (Boxed.own_val b ws)) word.1 refl $
      -- [the box; nothing; nothing; the cell's address; its borrow, in two entries; the token]
      keep ! (4 ∷ 5 ∷ 6 ∷ 0 ∷ []) $
      suffices ! _ (at_word (Some b) vs (live 1 (vcons w vnil)) (e ∙ ap (λ (ws : List Val). live 1 (of_list ws) ∷ []) (e' ∙ ap (λ (ws : List Val). ws ++ []) word.1))) $
      enter ! 𝓣.C 𝓣.Λ code.function (vptr rb ro ∷ live 1 (vcons w vnil) ∷ []) (W.post y) $ alloc_all ! (λ l. pass_all ! refl ((tt, tt), (some_Good (layout Boxed) w typed, tt)) $
      opens ! tt R rb ro (λ hs. move ! (1 ∷ []) $ peeks ! R _ (shows 𝓛 R) h hs (λ is. drop ! $ rewrite ! 0 (λ (ws : List Val). ‵ (cell_at full_share R.mir ws rb ro)) (lowers.val_is h hs is) refl $
      -- [the cell; its borrow, in three entries; the box]
      sets ! (addr ! (through ! refl (stop !))) refl (tt, tt) $ sets ! (of_opd ! (get ! refl)) refl (tt, tt) $
      first ! $ by_variants ! 17 (whole !) (get_tag ! (vrt ! refl (fld ! refl (stop !))) (whole !)) tt (
        (λ _. sets ! (of_opd ! (get_in ! (vrt ! refl (fld ! refl (stop !))) (in_variant ! 1 0 refl refl (whole !)))) refl typed $ sets ! (of_opd ! (get ! refl)) refl typed $
            assigns ! (of_opd ! (get ! refl)) (through ! refl (stop !)) (store_raw ! 0 refl typed) $ move ! (0 ∷ 4 ∷ 1 ∷ 2 ∷ 3 ∷ []) $ closes ! tt R h' (w ∷ []) rb ro $
            sets_last ! (agg ! (and_then ! (lit ! tt) (no_more !))) refl (tt, (record { fits = lit< tt }, tt)) $
            exec ! 𝓣.C 𝓣.Λ (env code.function.locals l) (after 3 code.function.body) (at_ret (env code.function.locals l) (W.post y)) $ sets ! (of_opd ! (get ! refl)) refl (tt, (record { fits = lit< tt }, tt)) $
            returns ! (look_at ! 0 refl) $ free_all ! refl $
            use0 𝓛 (‵ (Maybe.own_val None (live 0 vnil ∷ []))) (none_of 𝓛 Boxed) $ move ! (1 ∷ 2 ∷ 3 ∷ 0 ∷ []) $ by ! (exits (Some b) vs (live 0 vnil) None h' (tt, tt) (refl, refl))),
        ((λ e. absurd (suc-ne-zero 0 e)), tt),
      )))))))))
  goes None vs =
      let y = z None vs in let h' : HandleCell = record h { value = None } in let b : Boxed.Denot = record { ptr = h.at; alloc = h.alloc; value = h.last } in
      qed 𝓛 (((‵ (flft κ q) ⊛ ‵ ftrue) ⊛ ‵ (owns (types_at f.ended.signature.params y.0.0) y.0.3 y.0.4)) ∷ raw (fact 𝓤 (h.value ≡ Some h.last)) ∷ []) ∵ move ! (1 ∷ []) $ heard ! _ (λ full.
      split ! $ split ! $ move ! (2 ∷ []) $ fsplit ! $ fsplit3 ! $ move ! (3 ∷ []) $ fsplit ! $ fpick ! (λ us. fsplit ! $ feq_l ! (λ e. fpick ! (λ vss. fsplit ! $ feq_l ! (λ e'.
      -- [nothing; nothing; the cell's address; its borrow, in two entries; the token]
      keep ! (3 ∷ 4 ∷ 5 ∷ []) $ suffices ! _ (at_word None vs (live 0 vnil) (e ∙ ap (λ (ws : List Val). live 0 (of_list ws) ∷ []) e')) $
      enter ! 𝓣.C 𝓣.Λ code.function (vptr rb ro ∷ live 0 vnil ∷ []) (W.post y) $ alloc_all ! (λ l. pass_all ! refl ((tt, tt), ((tt, (record { fits = lit< tt }, tt)), tt)) $
      opens ! tt R rb ro (λ hs. move ! (1 ∷ []) $ peeks ! R _ (shows 𝓛 R) h hs (λ is.
      let w = lowers.lowered h in let word = lowers.val_is h hs is in let typed = (subst (Typed R.mir) word ((the_row_laws.lawful 𝓛).typed h hs is)).0 in let some = some_Good (layout Boxed) w typed in
      rewrite ! 0 (λ (ws : List Val). ‵ (R.own_val h ws)) word refl $ rewrite ! 0 (λ (o : Option AnsweredDevice). ‵ (R.own_val (record h { value = o }) (w ∷ []))) full refl $
      fsplit ! $ use1 𝓛 (‵ (Fields.own_val (of_owner h) (w ∷ [])) ⊛ ‵ (Fields.own_val (of_owner h) (w ∷ []))) ((the_row_copy.copies M 𝓤 𝓛).twice (of_owner h) (w ∷ [])) $ split ! $
      move ! (0 ∷ 2 ∷ []) $ fjoin ! $ nothing ! $ move ! (2 ∷ 0 ∷ []) $ fjoin ! $ move ! (2 ∷ []) $ rewrite ! 0 (λ (ws : List Val). ‵ (cell_at full_share R.mir ws rb ro)) word refl $
      -- [the cell; what it owns without the device; the box; the cell's borrow, in three entries]
      sets ! (addr ! (through ! refl (stop !))) refl (tt, tt) $ sets ! (of_opd ! (get ! refl)) refl (tt, tt) $
      first ! $ by_variants ! 18 (whole !) (get_tag ! (vrt ! refl (fld ! refl (stop !))) (whole !)) tt (
        (λ e. absurd (suc-ne-zero 0 (sym e))),
        (
          (λ _. sets ! (of_opd ! (load ! (through ! refl (stop !)) (look_raw ! 0 refl))) refl typed $ move ! (0 ∷ 1 ∷ 3 ∷ 4 ∷ 5 ∷ []) $ closes ! tt R h' (w ∷ []) rb ro $
              sets_last ! (agg ! (and_then ! (lit ! tt) (and_then ! (get ! refl) (no_more !)))) refl some $
              exec ! 𝓣.C 𝓣.Λ (env code.function.locals l) (after 3 code.function.body) (at_ret (env code.function.locals l) (W.post y)) $ sets ! (of_opd ! (get ! refl)) refl some $
              returns ! (look_at ! 0 refl) $ free_all ! refl $
              move ! (3 ∷ []) $ use1 𝓛 (‵ (Maybe.own_val (Some b) (live 1 (vcons w vnil) ∷ []))) (Some-of 𝓛 Boxed b w) $ move ! (1 ∷ 2 ∷ 3 ∷ 0 ∷ []) $ by ! (exits None vs (live 1 (vcons w vnil)) (Some b) h' tt refl)),
          tt,
        ),
      )))))))))

pub exchange_spec : {M : Type 1} → statement M
exchange_spec 𝓤 𝓛 𝓜 𝓡 wired =
    proved_at 𝓛 f.ended stayed (f.clauses 𝓛 𝓜.mem 𝓡.returns) 𝓜 𝓡 (Goes-ref 𝓛 1 0 tt (plain (λ _. R)), (spent 𝓛, tt)) f.Key.name code.function (code.unfolded 𝓤 𝓛.H 𝓜 𝓡 wired)
    (λ y are. let r = y.0.3.0 in goes 𝓛 𝓜 𝓡 y.0.0.0 y.0.1.0 r.ref_ptr.0 r.ref_ptr.1 r.ghost_name r.now y.0.4.0 are.0.0 y.0.3.1.0 y.0.4.1.0)
