-- What stands as a Logout closes, before it is answered: what it takes out is held no more, and no function waits on what is closed.
use Rattle.std.proofs.Common.{◌≡◌, ℕ, ◌<◌, ◌==◌, cond, Bool, true, false, List, [], ◌∷◌, ◌++◌, length, Option, Some, None, refl, ap, sym, subst, ◌∙◌, arith, append_assoc}
use Rattle.std.proofs.lemmas.List.{append-nil}
use Rattle.iscsi_wire.specs.declared.reply.Reply.{Reply}
use Rattle.iscsi_wire.specs.Fields.{cmd_sn, connection_of}
use Rattle.iscsi_wire.specs.Serial.{wire}
use Rattle.iscsi_rules.specs.declared.effect.Effect.{Effect}
use Rattle.iscsi_rules.specs.declared.effect.Effect.TheVariants.{CloseSession}
use Rattle.iscsi_rules.specs.rules.Settings.{are_distinct, is_known}
use Rattle.iscsi_rules.specs.rules.Trace.{Arrival, Command as RulesCommand, Trace, held, waiting}
use Rattle.iscsi_rules.proofs.items.Forms.{Start}
use Rattle.iscsi_outbox_rules.specs.rules.Words.{contains}
use Rattle.iscsi_outbox_law.specs.private.Pairs.{EachOf, InOrder, PairsOf}
use Rattle.iscsi_outbox_law.proofs.general.PairLemmas.{each-weaken}
use Rattle.iscsi_outbox_steps.specs.State.{State as OutboxState, place_of}
use Rattle.iscsi_outbox_steps.specs.Steps.{as_list}
use Rattle.iscsi_requests.specs.Functions.{WaitingFunctions}
use Rattle.iscsi_ffi_rules.specs.declared.action.Action.{Action}
use Rattle.iscsi_ffi_rules.specs.declared.action.StopReason.{StopReason}
use Rattle.iscsi_ffi_rules.specs.rules.Calls.{Interface}
use Rattle.iscsi_ffi_rules.specs.rules.Run.{cids}
use Rattle.iscsi_ffi_rules.specs.rules.Sides.{Side}
use Rattle.iscsi_ffi_steps.specs.State.{State}
use Rattle.iscsi_ffi_steps.specs.Walk.{Doing, Walk, drop_each_function, on_effects, walking}
use Rattle.iscsi_ffi_law.specs.Names.{Name, Note}
use Rattle.iscsi_ffi_law.proofs.items.Between.{IsBetween}
use Rattle.iscsi_ffi_law.proofs.logouts.ClosingTrace.{closes_each}
use Rattle.iscsi_ffi_law.proofs.requests.Core.{Core, all_core, all_released_core}
use Rattle.iscsi_ffi_law.proofs.logouts.DroppingEach.{all_cids, counted_as, each_dropped, each_out, functions_both, functions_off, long_off, marks_drop, places_both, places_from, places_off}
use Rattle.iscsi_ffi_law.proofs.logouts.DroppingFunctions.{put_functions}
use Rattle.iscsi_ffi_law.proofs.logouts.Parting.{admitted_parted, as_conns, close_effects, held_parted, parted_item, waits_parted}
use Rattle.iscsi_ffi_law.proofs.items.Plain.{plain_item}
use Rattle.iscsi_ffi_law.proofs.sending.Queued.{each-first, each-second}
use Rattle.iscsi_ffi_law.proofs.items.TakingOut.{AreOut, IsOut, all_out, emptied_by, out_as}
use Rattle.iscsi_ffi_law.proofs.items.Waited.{IsCid, cid_known}
use Rattle.iscsi_requests.specs.Numbers.{HeldNumbers}
use Rattle.iscsi_ffi_law.proofs.items.Walking.{walk_in}

-- ---- the walk

core_both : (room : ℕ) (xs ys : List (Option ℕ)) (k : Core) → all_core room (xs ++ ys) k ≡ all_core room ys (all_core room xs k)
core_both room [] ys k = refl
core_both room (x ∷ xs) ys k = core_both room xs ys _

-- the functions that wait on these connections are dropped as they are closed; `e`: an effect by which they are
walk_off : (o : OutboxState) (s : State) (acts : List Action) (ys : List (Option ℕ)) (current : Option ℕ) (by : Option StopReason) (sent : ℕ) (ps : List ℕ) → EachOf (λ p. p < length s.functions.waiting) ps
    → walking (drop_each_function ps) (walk_in o s acts ys current None by sent) ≡ walk_in o (record s { functions = functions_off ps s.functions }) acts (ys ++ places_off ps s.functions) current None by sent
walk_off o s acts ys current by sent ps within =
    ap (λ (d : Doing). record { doing = d; current = current; own = None; by = by; sent = sent })
    (each_dropped ps w.doing within ∙ all_released_core (places_off ps s.functions) (put_functions (functions_off ps s.functions) w.doing))
    ∙ ap (λ (c : Core). record {
      doing = record { state = record s { outbox = o; functions = functions_off ps s.functions; cookies = c.cookies; commands = c.commands }; actions = acts; forgets = c.forgets };
      current = current;
      own = None;
      by = by;
      sent = sent;
    }) (sym (core_both s.room ys (places_off ps s.functions) (record { cookies = s.cookies; commands = s.commands; forgets = [] })))
  where
    w : Walk
    w = walk_in o s acts ys current None by sent

-- the places of those that are closed
abbrev pub closed_places : OutboxState → List ℕ → Option ℕ → Bool → List ℕ
closed_places o conns closing ends = elim closing [ Some conn ↦ as_list (place_of o conn) | None ↦ [] ] ++ cond ends (places_from 0 conns) []

-- .. as a connection is closed, or the session, or both
pub close_walk : (o : OutboxState) (conns : List ℕ) → length o.links ≡ length conns → (s : State) (acts : List Action) (ys : List (Option ℕ)) (current : Option ℕ) (by : Option StopReason) (sent : ℕ) (closing : Option ℕ) (ends : Bool)
    → EachOf (λ p. p < length s.functions.waiting) (closed_places o conns closing ends) → (rest : List Effect)
    → on_effects false (close_effects closing ends ++ rest) (walk_in o s acts ys current None by sent)
    ≡ on_effects false rest (walk_in o (record s { functions = functions_off (closed_places o conns closing ends) s.functions }) acts (ys ++ places_off (closed_places o conns closing ends) s.functions) current None by sent)
close_walk o conns many s acts ys current by sent closing ends within rest = by_closing closing within
  where
    -- the session
    session : (s' : State) (ys' : List (Option ℕ)) (e : Bool) → EachOf (λ p. p < length s'.functions.waiting) (cond e (places_from 0 conns) [])
        → on_effects false (cond e (CloseSession ∷ []) [] ++ rest) (walk_in o s' acts ys' current None by sent)
        ≡ on_effects false rest (walk_in o (record s' { functions = functions_off (cond e (places_from 0 conns) []) s'.functions }) acts (ys' ++ places_off (cond e (places_from 0 conns) []) s'.functions) current None by sent)
    session s' ys' true short =
        ap (λ ps. on_effects false rest (walking (drop_each_function ps) (walk_in o s' acts ys' current None by sent))) (counted_as 0 o.links conns many)
        ∙ ap (on_effects false rest) (walk_off o s' acts ys' current by sent (places_from 0 conns) short)
    session s' ys' false short = ap (λ zs. on_effects false rest (walk_in o s' acts zs current None by sent)) (sym (append-nil ys'))

    by_closing : (c : Option ℕ) → EachOf (λ p. p < length s.functions.waiting) (closed_places o conns c ends)
        → on_effects false (close_effects c ends ++ rest) (walk_in o s acts ys current None by sent)
        ≡ on_effects false rest (walk_in o (record s { functions = functions_off (closed_places o conns c ends) s.functions }) acts (ys ++ places_off (closed_places o conns c ends) s.functions) current None by sent)
    by_closing None short = session s ys ends short
    by_closing (Some conn) short =
        let ps : List ℕ = as_list (place_of o conn) in
        let qs : List ℕ = cond ends (places_from 0 conns) [] in
        let v : WaitingFunctions = functions_off ps s.functions in
        let long = long_off ps s.functions in
        ap (λ w. on_effects false (cond ends (CloseSession ∷ []) [] ++ rest) w) (walk_off o s acts ys current by sent ps (each-first (λ p. p < length s.functions.waiting) ps qs short))
        ∙ session (record s { functions = v }) (ys ++ places_off ps s.functions) ends
        (each-weaken (λ p. p < length s.functions.waiting) (λ p. p < length v.waiting) qs (λ p lt. omega (arith, lt, long)) (each-second (λ p. p < length s.functions.waiting) ps qs short))
        ∙ ap (λ zs. on_effects false rest (walk_in o (record s { functions = functions_off qs v }) acts zs current None by sent)) (append_assoc ys (places_off ps s.functions) (places_off qs v) ∙ ap (λ zs. ys ++ zs) (sym (places_both ps qs s.functions)))
        ∙ ap (λ (x : WaitingFunctions). on_effects false rest (walk_in o (record s { functions = x }) acts (ys ++ places_off (ps ++ qs) s.functions) current None by sent)) (sym (functions_both ps qs s.functions))

-- ---- what is kept

-- those that are closed
abbrev pub closed_conns : Interface → Option ℕ → Bool → List ℕ
closed_conns i closing ends = as_conns closing ++ cond ends (cids i) []

module _ (i : Interface) (names : List Name) (notes : List Note) (s : State) (r : Side) (own : Option ℕ) (xs : List (Option ℕ)) (k : IsBetween i names notes s r own xs) (start : Start) (a : Arrival) (place : Option ℕ) (v0 : HeldNumbers) (fs0 : WaitingFunctions) (begun : IsOut i names notes s r own xs (plain_item start a None None None ∷ r.both.trace) place xs v0 fs0)
    (cs : List RulesCommand) (bs : List Arrival) (reply : Reply) (closing : Option ℕ) (ends : Bool) (there : EachOf (λ (b : Arrival). held (plain_item start a None None None ∷ r.both.trace) b.number ≡ Some b) bs) (apart : InOrder (λ (b c : Arrival). (b.number == c.number) ≡ false) bs)
    (wired : EachOf (λ (b : Arrival). wire b.number ≡ cmd_sn b.request) bs) (known : EachOf (λ (b : Arrival). contains (cids i) (connection_of b.request) ≡ true) (waiting (plain_item start a None None None ∷ r.both.trace))) (ps : List ℕ) (pairs : PairsOf (IsCid i) (closed_conns i closing ends) ps) where
  abbrev t1 : Trace
  t1 = plain_item start a None None None ∷ r.both.trace

  pub emptied : AreOut i names notes s r own xs k (plain_item start a None None None ∷ r.both.trace) place xs v0 fs0 bs
  emptied = all_out i names notes s r own xs k bs t1 place xs v0 fs0 begun there apart wired

  -- the uses that end by it, but for those of the commands that leave
  abbrev pub out_places : List (Option ℕ)
  out_places = emptied.places ++ places_off ps fs0

  pub parted_out : IsOut i names notes s r own xs (parted_item start a cs bs reply closing ends ∷ r.both.trace) place (xs ++ out_places) emptied.held_then (functions_off ps fs0)
  parted_out =
      let conns : List ℕ = closed_conns i closing ends in
      out_as i names notes s r own xs k (closes_each conns (emptied_by bs t1)) (parted_item start a cs bs reply closing ends ∷ r.both.trace) place (xs ++ out_places) emptied.held_then (functions_off ps fs0)
      (held_parted start a cs bs reply closing ends r.both.trace conns) (admitted_parted start a cs bs reply closing ends r.both.trace conns) (waits_parted start a cs bs reply closing ends r.both.trace conns (marks_drop (cids i) closing ends (waiting t1) known))
      (subst (λ (ys : List (Option ℕ)). IsOut i names notes s r own xs (closes_each conns (emptied_by bs t1)) place ys emptied.held_then (functions_off ps fs0)) (append_assoc xs emptied.places (places_off ps fs0))
      (each_out i names notes s r own xs k conns ps pairs (emptied_by bs t1) place (xs ++ emptied.places) emptied.held_then fs0 emptied.out))

-- each of those that are closed has its place
module _ (i : Interface) (names : List Name) (notes : List Note) (s : State) (r : Side) (own : Option ℕ) (xs : List (Option ℕ)) (k : IsBetween i names notes s r own xs) (distinct : are_distinct i.outbox.session.conns ≡ true) where
  pub closed_pairs : (closing : Option ℕ) (ends : Bool) → ((conn : ℕ) → closing ≡ Some conn → is_known conn i.outbox.session.conns ≡ true) → PairsOf (IsCid i) (closed_conns i closing ends) (closed_places s.outbox (cids i) closing ends)
  closed_pairs closing ends known = by_closing closing known
    where
      session : (e : Bool) → PairsOf (IsCid i) (cond e (cids i) []) (cond e (places_from 0 (cids i)) [])
      session true = all_cids i names notes s r own xs k distinct
      session false = tt

      by_closing : (c : Option ℕ) → ((conn : ℕ) → c ≡ Some conn → is_known conn i.outbox.session.conns ≡ true) → PairsOf (IsCid i) (closed_conns i c ends) (closed_places s.outbox (cids i) c ends)
      by_closing None there = session ends
      by_closing (Some conn) there =
          let at = cid_known i names notes s r own xs k distinct conn (there conn refl) in
          subst (λ (x : Option ℕ). PairsOf (IsCid i) (conn ∷ cond ends (cids i) []) (as_list x ++ cond ends (places_from 0 (cids i)) [])) (sym at.1.0) (at.1.1, session ends)

pub pairs_within : (i : Interface) (conns ps : List ℕ) → PairsOf (IsCid i) conns ps → EachOf (λ p. p < length (cids i)) ps
pairs_within i [] [] pairs = tt
pairs_within i [] (p ∷ ps) pairs = absurd pairs
pairs_within i (conn ∷ conns) [] pairs = absurd pairs
pairs_within i (conn ∷ conns) (p ∷ ps) pairs = (pairs.0.within, pairs_within i conns ps pairs.1)
