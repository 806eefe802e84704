-- It makes a struct without bytes, and sets the list that it owns to the history with the events that it is given.
use Rattle.std.proofs.Common.{[], ◌∷◌, refl, length, w64}
use Rattle.std.proofs.raw_atomic.Walks.{proved}
use mir.Syntax.{named}
use mir.Val.{vint, vptr, vstruct, vnil}
use contract.Running.{tables}
use types.Kit.{‵, raw, ◌⊛◌, ◌$◌, ◌∵◌, !, qed, move, keep, split, suffices, done}
use types.Run.{no_more, returns, enter}
use types.Part.{agg}
use types.ByLocal.{alloc_all, pass_all, free_all, look_at, sets}
use denote.Builtin.{u64}
use denote.Exit.{yes}
use denote.Plain.{uint_vals, uint_Tells}
use denote.RattleType.{owns}
use denote.Ref.{shr_vals, shr_Tells}
use denote.Shadow.{pure_i}
use denote.Signature.{plain, types_at}
use denote.Slice.{slice_val, shr_slice_vals, shr_slice_Tells}
use denote.Triple.Entry.{alive}
use denote.Triple.Walked.{says, Stays, walk_of, ends_at, stay_none, stay_none_ref, stay_none_slice, Goes-none, Goes-none_ref, Goes-none_slice}
use Rattle.ws_model.specs.contracts.event.What as what
use Rattle.ws_port.specs.Calls.{committed}
use Rattle.ws_past.specs.contracts.past.Past.with as f
use Rattle.ws_past.specs.contracts.past.Past as past
use Rattle.ws_past.proofs.past.Past.with.Statement.{statement}
use Rattle.ws_past.proofs.past.Past.with.Code as code

abbrev stayed : Stays f.ended.signature.params f.ended.kept
stayed = (stay_none_ref (0 ∷ []) tt (plain (λ _. past.the_row)) yes, (stay_none (λ _. u64) yes, (stay_none_slice (1 ∷ []) tt (plain (λ _. what.the_row)) yes, tt)))

pub with_spec : {M : Type 1} → statement M
with_spec 𝓤 𝓛 𝓜 𝓡 wired =
    let c = f.clauses 𝓛 𝓜.mem 𝓡.returns in let W = walk_of 𝓛 f.ended stayed c in
    proved 𝓛 f.ended stayed c 𝓜 𝓡
    (Goes-none_ref 𝓛 2 (0 ∷ []) tt (plain (λ _. past.the_row)) yes, (Goes-none 𝓛 2 (λ _. u64) yes (λ κs x w. refl), (Goes-none_slice 𝓛 2 (1 ∷ []) tt (plain (λ _. what.the_row)) yes, tt)))
    f.Key.name code.function (code.unfolded 𝓤 𝓛.H 𝓜 𝓡 wired)
    (λ κs. (shr_vals, (uint_vals w64, (shr_slice_vals, tt))))
    (λ κs. (shr_Tells (named 0) κs.0 past.the_row, (uint_Tells w64, (shr_slice_Tells (named 1) κs.1.0 what.the_row, tt)))) (λ κs qs bounds a g are.
    let before = a.0 in let t = a.1.0 in let whats = a.1.1.0 in
    let y : W.Ghost = ((κs, qs, bounds, a, (shr_vals before, (uint_vals w64 t, (shr_slice_vals whats, tt)))), g) in
    let made : (past.the_row).Denot = record { events = committed t whats.now before.now.events } in
    qed 𝓛 ((raw (alive 𝓛 f.signature κs qs) ⊛ ‵ (owns (types_at f.signature.params κs) a y.0.4)) ∷ raw ((c κs a).requires g) ∷ []) ∵ keep ! (0 ∷ []) $ split ! $
    enter ! _ _ _ (vptr before.ref_ptr.0 before.ref_ptr.1 ∷ vint w64 t ∷ slice_val whats.ref_ptr (length whats.now) ∷ []) _ $
    alloc_all ! (λ l. pass_all ! refl ((tt, tt), ((tt, record { fits = are.1.0.1 }), ((tt, (tt, (record { fits = are.1.1.0.0.1.0 }, tt))), tt))) $
    sets ! (agg ! (no_more !)) refl (tt, tt) $
    returns ! (look_at ! 0 refl) $ free_all ! refl $
    suffices ! _ (ends_at 𝓛 f.ended stayed c y (vstruct vnil) made (tt, (tt, (tt, tt))) (tt, (tt, (tt, tt)))) $ says ! refl $
    pure_i ! (past.the_row.own_val made (vstruct vnil ∷ [])) ((λ vss. (tt, tt)), tt) ((tt, (refl, tt)), tt) $ move ! (1 ∷ 2 ∷ 0 ∷ []) $ done !))
