-- The inner reference is reborrowed: what is left in it is what the outer one holds.
use Rattle.std.proofs.Common.{◌*◌, ◌^◌, List, [], ◌∷◌, refl, ap, w8, length}
use Rattle.std.proofs.raw_atomic.Walks.{proved}
use base.Fraction.{full_share}
use base.Logic.{emp}
use base.Fml.{ftrue, fat, flft, GName}
use mir.Syntax.{ty_int, ty_ref, mut, erased, named}
use mir.Val.{Val}
use contract.Running.{tables}
use types.Kit.{‵, raw, ◌⊛◌, some, later, ◌$◌, ◌∵◌, !, qed, done, move, keep, drop, use1, use2, use3, split, split3, join, fsplit, fsplit3, fjoin, fjoin3, feq_i, feq_l, flt_l, flt_i, pick, await, rewrite, suffices, frame}
use types.Run.{enter, of_opd, load, addr, and_then, no_more, stop, fld, hop, returns}
use types.Part.{whole, sub, look_in, agg}
use types.ByLocal.{alloc_all, pass_all, free_all, look_at, get, through, sets}
use types.Mut.{open_ref, close_ref}
use denote.Builtin.{u8, RefMutOf, SliceRefMutOf}
use denote.Exit.{no}
use denote.Memory.{mem, part_at}
use denote.RattleType.{owns}
use denote.Ref.{MutRef, at_last, mut_vals, mut_Tells}
use denote.Signature.{plain}
use denote.Slice.{MutSlice, slice_val, slice_ty, mut_slice_vals}
use denote.Steps.{nothing, only}
use denote.Through.{lends_inner_slice, renamed}
use denote.Follow.{follows}
use denote.Array.{Array}
use denote.Triple.Walked.{Stays, walk_of, says, stay_dropped, Goes-spent_ref, ends_at}
use borrow.Table.OneValue.{part_out_at, part_in_at}
use Rattle.netlink_bytes.specs.contracts.storage.RefMutSliceU8StorageMut.bytes_mut as f
use Rattle.netlink_bytes.proofs.storage.RefMutSliceU8StorageMut.bytes_mut.Statement.{statement}
use Rattle.netlink_bytes.proofs.storage.RefMutSliceU8StorageMut.bytes_mut.Code as code

abbrev stayed : Stays f.ended.signature.params f.ended.kept
stayed = (stay_dropped (RefMutOf (0 ∷ []) tt (SliceRefMutOf (1 ∷ []) tt (plain (λ κs. u8)) (λ κs. tt)) (λ κs. tt)) no, tt)

pub bytes_mut_spec : {M : Type 1} → statement M
bytes_mut_spec 𝓤 𝓛 𝓜 𝓡 wired =
    let c = f.clauses 𝓛 𝓜.mem 𝓡.returns in let W = walk_of 𝓛 f.ended stayed c in let 𝓣 = tables 𝓤 𝓛.H 𝓜 𝓡 𝓡.env in
    proved 𝓛 f.ended stayed c 𝓜 𝓡 (Goes-spent_ref 𝓛 2 (0 ∷ []) tt (SliceRefMutOf (1 ∷ []) tt (plain (λ κs. u8)) (λ κs. tt)), tt)
    f.Key.name code.function (code.unfolded 𝓤 𝓛.H 𝓜 𝓡 wired)
    (λ κs. (mut_vals, tt)) (λ κs. (mut_Tells (named 0) κs.0 (MutSlice (named 1) κs.1.0 u8), tt)) (λ κs qs bounds a g are.
    let κ = κs.0 in let κ' = κs.1.0 in let q = qs.0 in
    let x = a.0 in let y = x.now in let b = x.ref_ptr.0 in let o = x.ref_ptr.1 in let n = length y.now in
    let Sl = MutSlice (named 1) κ' u8 in
    let τ = ty_ref erased mut (ty_int w8) in
    let Y : W.Ghost = ((κs, qs, bounds, a, (mut_vals x, tt)), g) in
    qed 𝓛 (((‵ (flft κ q) ⊛ ‵ (flft κ' qs.1.0) ⊛ ‵ ftrue) ⊛ ‵ (owns (MutRef (named 0) κ Sl ∷ []) (x, tt) (mut_vals x, tt))) ∷ raw (emp 𝓤)
    ∷ []) ∵ split ! $
    enter ! _ _ _ _ _ $ alloc_all ! (λ l. pass_all ! refl ((tt, tt), tt) $
    split ! $ move ! (2 ∷ []) $ fsplit ! $ move ! (0 ∷ 2 ∷ []) $
    fsplit3 ! $ drop ! $
    open_ref ! tt (mem Sl) {b = b} {o = o} $
    use1 𝓛 (some (λ (v : Val). ‵ (fat full_share (slice_ty τ) b o v) ⊛ ‵ (Sl.own_val y (v ∷ []))))
    (part_out_at 𝓛 Sl refl full_share y b o (slice_ty τ) refl) $ pick !
    (λ v. split ! $ move ! (1 ∷ []) $ fsplit3 ! $ fsplit3 ! $ feq_l ! (λ ev. flt_l ! (λ fits. flt_l ! (λ small.
    rewrite ! 2 (λ (cv : Val). ‵ (fat full_share (slice_ty τ) b o cv)) (ap only ev) refl $
    -- [the inner reference's name and borrow; its cell; the outer borrow, open; its two halves; the
    -- tokens; the locals]
    sets ! (of_opd ! (load ! (through ! refl (fld ! refl (stop !))) (look_in ! 2 (sub ! 1 refl (whole !))))) refl
    (tt, record { fits = fits }) $
    sets ! (addr ! (through ! refl (fld ! refl (hop ! (look_in ! 2 (sub ! 0 refl (whole !))) (stop !))))) refl (tt, tt) $
    sets ! (agg ! (and_then ! (get ! refl) (and_then ! (get ! refl) (no_more !)))) refl (tt, (tt, (record { fits = fits }, tt))) $
    flt_i ! (n * (mem u8).size) (2 ^ 63) small $ flt_i ! n (2 ^ 64) fits $ feq_i ! (List Val) (mut_slice_vals y) (mut_slice_vals y) refl $
    fjoin3 ! $ fjoin3 ! $
    move ! (1 ∷ 0 ∷ []) $ use2 𝓛 (‵ (part_at Sl full_share y b o))
    (part_in_at 𝓛 Sl refl full_share y b o (slice_ty τ) refl (slice_val y.ref_ptr n)) $
    close_ref ! tt (mem Sl) y {b = b} {o = o} $
    use3 𝓛 (later (some (λ (γ' : GName).
    ‵ ((MutSlice (named 0) κ u8).own_val (renamed y γ') (mut_slice_vals y)) ⊛ ‵ (flft κ q) ⊛ ‵
    (follows Sl (Array u8 0) x.ghost_name γ' (at_last y)))))
    (lends_inner_slice 𝓛 u8 (named 0) (named 1) κ κ' x bounds.0 (fits, small) q) $ await ! tt $ pick ! (λ γ'.
    returns ! (look_at ! 0 refl) $ free_all ! refl $ keep ! (0 ∷ 2 ∷ []) $ split3 ! $
    suffices ! _ (ends_at 𝓛 f.ended stayed c Y (slice_val y.ref_ptr n) (record { ref_ptr = y.ref_ptr; ghost_name = γ'; now = y.now })
    (tt, tt) (tt, tt)) $
    nothing ! $ nothing ! $ fjoin ! $ join ! $ move ! (1 ∷ 3 ∷ []) $ join ! $ join ! $ frame ! $ says ! refl $ done !)))))))
