-- The range is looked up, and that part of the slice is reborrowed, or the slice is unchanged.
use Rattle.std.proofs.Common.{◌≡◌, ℕ, ◌-◌, ◌^◌, ◌<◌, ◌≤◌, List, [], ◌∷◌, ◌++◌, refl, ap, ◌∙◌, lit<, w64, arith, length, take, ◌+◌, MutBor}
use Rattle.std.proofs.VecSteps.Element.{Some-of, none_of}
use Rattle.std.proofs.VecSteps.Shapes.{after}
use Rattle.std.proofs.raw_atomic.Walks.{proved}
use Rattle.std.specs.Prelude.{Some, None, Option, OnSome}
use Rattle.std.specs.contracts.option.Option as OP
use Rattle.netlink_bytes.specs.Lending.{starts_at, length_part, mid, lends_part}
use Rattle.netlink_bytes.specs.Storage.{put_at}
use Rattle.netlink_attributes.proofs.Values.{no_value, some_value, value_held, value_written}
use Rattle.netlink_attributes.specs.Places.{IsRange, IsWritten}
use base.Fml.{ftrue, flft, fobs, fres, fex, GName}
use base.Logic.{SProp, id⊢, sep, via, assoc∗}
use base.Stored.{coded_list}
use borrow.Table.Elements.{at}
use lib.Dec.{ltb→lt, nltb→le}
use mathlib.Core.Option as maybe
use mir.Syntax.{named}
use mir.Val.{Val, vint, vstruct, of_list}
use contract.Monad.{fact}
use seplogic.Ra.Ura.{Ura}
use types.Logic.{Logic}
use contract.Running.{tables}
use types.Kit.{Item, Step, step, prop, ‵, raw, ◌⊛◌, some, later, at_ret, ◌$◌, ◌∵◌, !, qed, done, move, keep, drop, use0, use1, use2, split, split3, join, fsplit, fsplit3, fjoin, fpick, fpack, feq_l, pick, await, rewrite, suffices, frame}
use types.Match.{live}
use types.Run.{enter, of_opd, lit, bin, addr, and_then, no_more, stop, fld, hop, from, first, branches, skips, exec, returns, returns_within}
use types.Part.{whole, sub, agg}
use types.ByLocal.{alloc_all, pass_all, free_all, look_at, look_in_at, get, get_in, through, sets, lands_as, env}
use denote.Builtin.{u8, usize, SliceRefMutOf}
use denote.Exit.{no, yes}
use denote.Laws.{shows}
use denote.Plain.{uint_vals, uint_Tells}
use denote.Memory.{mem}
use denote.RattleType.{RattleType, Valss}
use denote.Signature.{plain}
use denote.Slice.{MutSlice, slice_val, mut_slice_vals, mut_slice_Tells}
use denote.Steps.{nothing, heard, peeks, facts, only}
use denote.Struct.Declared.{shape}
use denote.Struct.Struct.{within}
use denote.Struct.Tuple.{Tuple, tuple_type}
use denote.Follow.{follows, follows_by, such_by}
use denote.FollowSlice.{heres_id}
use denote.Array.{Array}
use denote.Triple.Call.{calls_at}
use denote.Triple.Clauses.{lasts}
use denote.Triple.Spec.{triple_of}
use denote.Triple.Table.{framed}
use denote.Triple.Walked.{Stays, walk_of, says, stay_dropped, Goes-spent_slice, Goes-dropped, ends_at}
use Rattle.netlink_attributes.specs.contracts.place.nlas_value_mut as f
use Rattle.netlink_attributes.proofs.place.nlas_value_mut.Statement.{statement}
use Rattle.netlink_attributes.proofs.place.nlas_value_mut.Code as code
use Rattle.netlink_attributes.specs.contracts.place.ranged as g
use Rattle.netlink_attributes.proofs.place.ranged.Met.{met}

abbrev stayed : Stays f.ended.signature.params f.ended.kept
stayed = (stay_dropped (SliceRefMutOf (0 ∷ []) tt (plain (λ κs. u8)) (λ κs. tt)) no, (stay_dropped (plain (λ _. usize)) yes, tt))

-- what the clause states about the block's last value, given the result and the last bytes written
-- through it
abbrev Follows : List ℕ → ℕ → Option (MutBor (List ℕ)) → List ℕ → List ℕ → Type 0
Follows bytes index r value new = OnSome r (IsWritten bytes index value new)

-- the function, the block's last value for `None`, and why they satisfy the clause
abbrev Such : List ℕ → ℕ → Option (MutBor (List ℕ)) → Type 0
Such bytes index r = (s : (List ℕ → List ℕ) × List ℕ) × ((value : List ℕ) → Follows bytes index r value (s.0 value)) × (s.1 ≡ bytes)

-- the machine value of a triple
abbrev triple : List Val → List Val → List Val → List Val
triple us vs ws = vstruct (of_list (us ++ (vs ++ (ws ++ [])))) ∷ []

-- a goal P ∗ (⌜φ⌝ ∗ ⌜ψ⌝): both facts are shown, and P is left
says_both : {M : Type 1} {𝓤 : Ura M} {𝓛 : Logic 𝓤} {K : Type 0} {Γ : List (Item 𝓤)} → K → {φ ψ : Type 0} {P : SProp 𝓤} → φ → ψ
    → Step K 𝓛 Γ (prop P) Γ (prop (sep 𝓤 P (sep 𝓤 (fact 𝓤 φ) (fact 𝓤 ψ))))
says_both {𝓤 = 𝓤} t {φ} {ψ} {P} x y =
    step (λ s. record {
      prf = via 𝓤 (sep 𝓤 (sep 𝓤 P (fact 𝓤 φ)) (fact 𝓤 ψ)) (says t y $ says t x $ s).prf (assoc∗ 𝓤 P (fact 𝓤 φ) (fact 𝓤 ψ));
    })

pub nlas_value_mut_spec : {M : Type 1} → statement M
unfolding follows_by such_by
nlas_value_mut_spec 𝓤 𝓛 𝓜 𝓡 wired =
    let c = f.clauses 𝓛 𝓜.mem 𝓡.returns in let W = walk_of 𝓛 f.ended stayed c in let 𝓣 = tables 𝓤 𝓛.H 𝓜 𝓡 𝓡.env in
    proved 𝓛 f.ended stayed c 𝓜 𝓡
    (Goes-spent_slice 𝓛 1 (0 ∷ []) tt (plain (λ κs. u8)), (Goes-dropped 𝓛 1 (plain (λ _. usize)) yes (λ κs x f. refl), tt))
    f.Key.name code.function (code.unfolded 𝓤 𝓛.H 𝓜 𝓡 wired)
    (λ κs. (mut_slice_vals, (uint_vals w64, tt))) (λ κs. (mut_slice_Tells (named 0) κs.0 u8, (uint_Tells w64, tt)))
    (λ κs qs bounds a g₀ are.
    let κ = κs.0 in let q = qs.0 in
    let x = a.0 in let γ = x.ghost_name in let index : ℕ = a.1.0 in
    let Sl = MutSlice (named 0) κ u8 in
    let Fs : List RattleType = usize ∷ usize ∷ Sl ∷ [] in
    let G = triple_of 𝓛 g.signature (g.spec 𝓛 𝓜.mem 𝓡.returns) in
    let z : G.Ghost = ((κs, qs, bounds, a, (mut_slice_vals x, (uint_vals w64 index, tt))), tt) in
    let Y : W.Ghost = ((κs, qs, bounds, a, (mut_slice_vals x, (uint_vals w64 index, tt))), g₀) in
    qed 𝓛 (raw (G.pre z) ∷ []) ∵
    enter ! _ _ _ _ _ $ alloc_all !
    (λ l. pass_all ! refl ((tt, (tt, (record { fits = are.0.0.1.0 }, tt))), ((tt, record { fits = are.1.0.1 }), tt)) $
    -- the slice is passed to `ranged`, which returns it with its range
    sets ! (addr ! (from ! (fld ! refl (hop ! (look_in_at ! 1 (sub ! 0 refl (whole !))) (stop !))))) refl (tt, tt) $
    sets ! (agg ! (and_then ! (get ! refl) (and_then ! (get_in ! (fld ! refl (stop !)) (sub ! 1 refl (whole !))) (no_more !)))) refl
    (tt, (tt, (record { fits = are.0.0.1.0 }, tt))) $
    calls_at ! (framed 𝓤 𝓛.H 𝓜 𝓣) G (met 𝓤 𝓛 𝓜 𝓡 (code.calls-netlink_attributes::place::ranged 𝓡.env wired)) z
    (and_then ! (get ! refl) (and_then ! (get ! refl) (no_more !))) (λ v.
    use1 𝓛 (later (some (λ (r : ℕ × ℕ × MutBor (List ℕ)). ((‵ (flft κ q) ⊛ ‵ ftrue) ⊛ ‵ ((Tuple Fs).own_val r (v ∷ []))) ⊛
    some (λ (ws : Unit {0} × (Unit {0} × Unit {0})).
    ‵ (lasts g.ended κs a ws) ⊛ raw (fact 𝓤 (r.2.ghost_name ≡ γ)) ⊛ raw (fact 𝓤 (r.2.now ≡ x.now)) ⊛ raw
    (fact 𝓤 (IsRange x.now index r.0 r.1)) ⊛ raw (fact 𝓤 (r.1 ≤ length x.now)))))) (id⊢ 𝓤 _) $
    await ! tt $ pick ! (λ r. split ! $ split ! $ move ! (2 ∷ []) $ pick ! (λ ws. split ! $ drop ! $
    split ! $ heard ! _ (λ name. split ! $ heard ! _ (λ same. split ! $ heard ! _ (λ range. heard ! _ (λ inside.
    let start = r.0 in let end = r.1 in let b = r.2.ref_ptr.0 in let o = r.2.ref_ptr.1 in
    split ! $ move ! (2 ∷ []) $
    use1 𝓛 (‵ (fex (Valss Fs) (within (shape (tuple_type Fs)) (r.0, (r.1, (r.2, tt))) (v ∷ [])))) (id⊢ 𝓤 _) $ fpick !
    (λ vss. fsplit ! $ feq_l ! (λ ev.
    fsplit ! $ facts ! usize _ (shows 𝓛 usize) start vss.0
    (λ is₀. fsplit ! $ facts ! usize _ (shows 𝓛 usize) end vss.1.0 (λ is₁. fsplit ! $ peeks ! Sl _ (shows 𝓛 Sl) r.2 vss.1.1.0 (λ is₂.
    rewrite ! 0 (λ (us : List Val). ‵ (Sl.own_val r.2 us)) is₂.0.0 refl $
    rewrite ! 0 (λ (γ' : GName). ‵ (Sl.own_val (record { ref_ptr = r.2.ref_ptr; ghost_name = γ'; now = r.2.now }) (mut_slice_vals r.2)))
    name refl $
    rewrite ! 0 (λ (ys : List ℕ). ‵ (Sl.own_val (record { ref_ptr = r.2.ref_ptr; ghost_name = γ; now = ys }) (mut_slice_vals r.2))) same
    refl $
    -- [what the slice owns; nothing; the token; nothing; the locals]
    lands_as ! (ap only (ev
    ∙ (ap (λ us. triple us vss.1.0 vss.1.1.0) is₀.0
    ∙ (ap (λ us. triple (vint w64 start ∷ []) us vss.1.1.0) is₁.0
    ∙ ap (λ us. triple (vint w64 start ∷ []) (vint w64 end ∷ []) us) is₂.0.0)))) refl
    (tt, (record { fits = is₀.1 }, (record { fits = is₁.1 }, ((tt, (record { fits = is₂.0.1.0 }, tt)), tt)))) $
    sets ! (of_opd ! (get_in ! (fld ! refl (stop !)) (sub ! 0 refl (whole !)))) refl (tt, record { fits = is₀.1 }) $
    sets ! (of_opd ! (get_in ! (fld ! refl (stop !)) (sub ! 1 refl (whole !)))) refl (tt, record { fits = is₁.1 }) $
    sets ! (of_opd ! (get_in ! (fld ! refl (stop !)) (sub ! 2 refl (whole !)))) refl (tt, (tt, (record { fits = is₂.0.1.0 }, tt))) $
    sets ! (bin ! (get ! refl) (get ! refl) tt) refl (tt, tt) $
    first ! $ branches ! (get ! refl)
    (λ t. sets ! (agg ! (and_then ! (lit ! tt) (no_more !))) refl (tt, (record { fits = lit< tt }, tt)) $
    let falls : end < start = ltb→lt end start t in
    fsplit3 ! $ drop ! $ rewrite ! 0 (λ (ys : List ℕ). ‵ (fobs γ ((coded_list u8.coded).code ys))) (heres_id u8 x.now) refl $
    use1 𝓛 (‵ (fres γ ((Array u8 0).coded.code x.now))) (𝓛.names.obs-res γ ((Array u8 0).coded.code x.now)) $
    returns_within ! (W.post Y) refl (look_at ! 0 refl) $ free_all ! refl $ keep ! (0 ∷ 3 ∷ 4 ∷ []) $
    fpack ! (Such x.now index None)
    (λ s. follows_by (List ℕ) (List ℕ) (Array u8 0).coded.code (Array u8 0).coded.code γ maybe.none s.0.0 s.0.1)
    (((λ w. w), x.now), (λ w. tt), refl) $
    use0 𝓛 (‵ ((OP.the_row Sl).own_val None (live 0 (of_list []) ∷ []))) (none_of 𝓛 Sl) $
    suffices ! _ (ends_at 𝓛 f.ended stayed c Y (live 0 (of_list [])) None (tt, (tt, tt)) (tt, (tt, tt))) $
    nothing ! $ nothing ! $ fjoin ! $ nothing ! $ fjoin ! $ join ! $ move ! (2 ∷ 3 ∷ []) $ join ! $ join ! $ frame ! $ says_both !
    (no_value x.now index start end range falls) tt $ done !)
    (λ t. skips ! $ exec ! 𝓣.C 𝓣.Λ (env code.Mir.locals l) (after 8 (code.function).body) (at_ret _ (W.post Y)) $
    let order : start ≤ end = nltb→le end start t in
    let far : end < 2 ^ 64 = is₁.1 in
    let small : end - start < 2 ^ 64 = omega arith in
    let p : ℕ = start + o in
    let on : at o (mem u8).size (length (take start x.now)) ≡ p =
    starts_at start o x.now (let k : start ≤ length x.now = omega arith in k) in
    let part : List ℕ = mid 𝓛 (named 0) κ q b o γ u8 x.now start (end - start) p on in
    let long : length part ≡ end - start = length_part start end x.now order inside in
    let lent : GName → MutBor (List ℕ) = λ δ. record { ref_ptr = (b, p); ghost_name = δ; now = part } in
    let rm = are.0.0.1 in
    sets ! (bin ! (get_in ! (fld ! refl (stop !)) (sub ! 0 refl (whole !))) (get ! refl) tt) refl (tt, tt) $
    sets ! (bin ! (get ! refl) (get ! refl) order) refl (tt, record { fits = small }) $
    sets ! (addr ! (through ! refl (stop !))) refl (tt, tt) $
    sets ! (agg ! (and_then ! (get ! refl) (and_then ! (get ! refl) (no_more !)))) refl (tt, (tt, (record { fits = small }, tt))) $
    sets ! (agg ! (and_then ! (lit ! tt) (and_then ! (get ! refl) (no_more !)))) refl
    (tt, (record { fits = lit< tt }, ((tt, (record { fits = small }, tt)), tt))) $
    move ! (0 ∷ 2 ∷ []) $
    use2 𝓛 (later (some (λ (δ : GName).
    ‵ (Sl.own_val (lent δ) (slice_val (b, p) (length part) ∷ [])) ⊛ ‵ (flft κ q) ⊛ ‵
    (follows (Array u8 0) (Array u8 0) γ δ (put_at x.now start)))))
    (lends_part 𝓛 (named 0) κ q b o γ u8 x.now start (end - start) p on (omega arith, omega arith) (mut_slice_vals r.2)) $ await ! tt $ pick
    ! (λ δ. split3 ! $
    rewrite ! 0 (λ (j : ℕ). ‵ (Sl.own_val (lent δ) (slice_val (b, p) j ∷ []))) long refl $
    use1 𝓛 (‵ ((OP.the_row Sl).own_val (Some (lent δ)) (live 1 (of_list (slice_val (b, p) (end - start) ∷ [])) ∷ [])))
    (Some-of 𝓛 Sl (lent δ) (slice_val (b, p) (end - start))) $
    returns ! (look_at ! 0 refl) $ free_all ! refl $ keep ! (2 ∷ 0 ∷ 1 ∷ 4 ∷ []) $
    fpack ! (Such x.now index (Some (lent δ)))
    (λ s. follows_by (List ℕ) (List ℕ) (Array u8 0).coded.code (Array u8 0).coded.code γ (maybe.some δ) s.0.0 s.0.1)
    ((put_at x.now start, x.now), value_written x.now index start end range order, refl) $
    move ! (1 ∷ 2 ∷ 0 ∷ []) $
    suffices ! _ (ends_at 𝓛 f.ended stayed c Y (live 1 (of_list (slice_val (b, p) (end - start) ∷ []))) (Some (lent δ)) (tt, (tt, tt))
    (tt, (tt, tt))) $
    nothing ! $ nothing ! $ fjoin ! $ nothing ! $ fjoin ! $ join ! $ move ! (1 ∷ 3 ∷ []) $ join ! $ join ! $ frame ! $ says_both !
    (some_value x.now index start end (lent δ) range order) (value_held x.now index start end range order) $ done !))))))))))))))))
