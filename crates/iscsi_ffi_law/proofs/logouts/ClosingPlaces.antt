-- Each connection that a Logout closes has its place in the outbox, and the steps touch it.
use Rattle.std.proofs.Common.{◌≡◌, ℕ, ◌==◌, ◌&&◌, not, cond, Bool, true, false, List, [], ◌∷◌, ◌++◌, length, Option, Some, None, inl, inr, refl, ap, sym, subst, ◌∙◌, ⊎_elim}
use Rattle.std.specs.List.{flat_map, list_any}
use Rattle.std.proofs.lemmas.List.{append-nil}
use Rattle.iscsi_wire.specs.declared.reply.Reply.{Reply}
use Rattle.iscsi_wire.specs.Fields.{connection_of}
use Rattle.iscsi_rules.specs.declared.effect.Effect.{Effect}
use Rattle.iscsi_rules.specs.declared.effect.Effect.TheVariants.{Send}
use Rattle.iscsi_rules.specs.rules.Settings.{are_distinct}
use Rattle.iscsi_rules.specs.rules.Trace.{Arrival, Command as RulesCommand}
use Rattle.iscsi_rules.proofs.general.ElementLemmas.{In, in-append}
use Rattle.iscsi_rules.proofs.items.Forms.{Start}
use Rattle.iscsi_outbox_rules.specs.rules.Boxes.{Link}
use Rattle.iscsi_outbox_rules.specs.rules.Items.{newly_closed}
use Rattle.iscsi_outbox_law.specs.private.Pairs.{EachOf, PairsOf}
use Rattle.iscsi_outbox_law.proofs.general.PairLemmas.{each-filter, each-weaken}
use Rattle.iscsi_outbox_law.proofs.general.PlaceLemmas.{IsPlace}
use Rattle.iscsi_outbox_steps.specs.State.{State as OutboxState, place_of}
use Rattle.iscsi_outbox_steps.specs.Steps.{as_list, counted_from}
use Rattle.iscsi_ffi_rules.specs.rules.Calls.{Interface}
use Rattle.iscsi_ffi_rules.specs.rules.Sides.{Side}
use Rattle.iscsi_ffi_steps.specs.State.{State}
use Rattle.iscsi_ffi_law.specs.Names.{Name, Note}
use Rattle.iscsi_ffi_law.proofs.items.Between.{IsBetween}
use Rattle.iscsi_ffi_law.proofs.completions.DoneShape.{enables}
use Rattle.iscsi_ffi_law.proofs.logouts.DroppingEach.{counted_as}
use Rattle.iscsi_ffi_law.proofs.items.Framing.{in_first, in_second, touched_in}
use Rattle.iscsi_ffi_law.proofs.aborts.Leaving.{leave_effects}
use Rattle.iscsi_ffi_law.proofs.logouts.Parting.{as_conns, close_effects, conns_parted, parted_effects}
use Rattle.iscsi_ffi_law.proofs.logouts.PartingOut.{closed_conns, closed_places}
use Rattle.iscsi_ffi_law.proofs.items.Plain.{start_effect}
use Rattle.iscsi_ffi_law.proofs.items.TakingOut.{empty_effects}
use Rattle.iscsi_ffi_law.proofs.items.Waited.{IsCid, cid_in, cids_named}

-- each has a place among these
abbrev pub HasPlace : List Link → List ℕ → ℕ → Type 0
HasPlace links ps c = (p : ℕ) × (IsPlace links c p × In p ps)

paired : (i : Interface) (conns ps : List ℕ) → PairsOf (IsCid i) conns ps → EachOf (λ c. (p : ℕ) × (IsCid i c p × In p ps)) conns
paired i [] ps pairs = tt
paired i (c ∷ conns) [] pairs = absurd pairs
paired i (c ∷ conns) (p ∷ ps) pairs =
    ((p, (pairs.0, inl refl)), each-weaken (λ d. (q : ℕ) × (IsCid i d q × In q ps)) (λ d. (q : ℕ) × (IsCid i d q × In q (p ∷ ps))) conns (λ d at. (at.0, (at.1.0, inr at.1.1))) (paired i conns ps pairs.1))

module _ (i : Interface) (names : List Name) (notes : List Note) (s : State) (r : Side) (own : Option ℕ) (xs : List (Option ℕ)) (k : IsBetween i names notes s r own xs) (distinct : are_distinct i.outbox.session.conns ≡ true) (closing : Option ℕ) (ends : Bool) (ps : List ℕ) (pairs : PairsOf (IsCid i) (closed_conns i closing ends) ps) where
  pub closes_placed : EachOf (HasPlace r.both.box.links ps) (newly_closed r.both.box (conns_parted r.both.box.links closing ends))
  closes_placed =
      each-filter (HasPlace r.both.box.links ps) (λ conn. not (list_any (λ (l : Link). l.conn == conn && l.closed) r.both.box.links)) (conns_parted r.both.box.links closing ends)
      (subst (EachOf (HasPlace r.both.box.links ps)) (ap (λ cs. as_conns closing ++ cond ends cs []) (sym (cids_named i names notes s r own xs k distinct)))
      (each-weaken (λ c. (p : ℕ) × (IsCid i c p × In p ps)) (HasPlace r.both.box.links ps) (closed_conns i closing ends) (λ c at. (at.0, (cid_in i names notes s r own xs k distinct c at.0 at.1.0, at.1.1))) (paired i (closed_conns i closing ends) ps pairs)))

-- ---- what the steps touch

module _ (o : OutboxState) where
  reached : (es fs : List Effect) (q : ℕ) → In q (flat_map (touched_in o) fs) → In q (flat_map (touched_in o) (es ++ fs))
  reached [] fs q there = there
  reached (e ∷ es) fs q there = in_second (touched_in o e) (flat_map (touched_in o) (es ++ fs)) q (reached es fs q there)

  reached_first : (es fs : List Effect) (q : ℕ) → In q (flat_map (touched_in o) es) → In q (flat_map (touched_in o) (es ++ fs))
  reached_first [] fs q there = absurd there
  reached_first (e ∷ es) fs q there =
      ⊎_elim (λ here. in_first (touched_in o e) (flat_map (touched_in o) (es ++ fs)) q here) (λ later. in_second (touched_in o e) (flat_map (touched_in o) (es ++ fs)) q (reached_first es fs q later))
      (in-append (touched_in o e) (flat_map (touched_in o) es) q there)

  closes_touched : (conns : List ℕ) → length o.links ≡ length conns → (closing : Option ℕ) (ends : Bool) → flat_map (touched_in o) (close_effects closing ends) ≡ closed_places o conns closing ends
  closes_touched conns many (Some c) true = ap (λ ps. as_list (place_of o c) ++ ps) (append-nil (counted_from 0 o.links) ∙ counted_as 0 o.links conns many)
  closes_touched conns many (Some c) false = refl
  closes_touched conns many None true = append-nil (counted_from 0 o.links) ∙ counted_as 0 o.links conns many
  closes_touched conns many None false = refl

  pub parted_touched : (conns : List ℕ) → length o.links ≡ length conns → (sn : ℕ) (start : Start) (a : Arrival) (cs : List RulesCommand) (bs : List Arrival) (reply : Reply) (closing : Option ℕ) (ends : Bool) (ns : List RulesCommand) (q : ℕ)
      → In q (closed_places o conns closing ends) → In q (flat_map (touched_in o) (parted_effects sn start a cs bs reply closing ends ns))
  parted_touched conns many sn start a cs bs reply closing ends ns q there =
      let last : List Effect = close_effects closing ends ++ enables ns in
      let sends : List Effect = Send (connection_of a.request) sn reply ∷ last in
      reached (start_effect start a.request ∷ []) (leave_effects cs ++ (empty_effects bs ++ sends)) q
      (reached (leave_effects cs) (empty_effects bs ++ sends) q
      (reached (empty_effects bs) sends q
      (reached (Send (connection_of a.request) sn reply ∷ []) last q
      (reached_first (close_effects closing ends) (enables ns) q (subst (In q) (sym (closes_touched conns many closing ends)) there)))))
