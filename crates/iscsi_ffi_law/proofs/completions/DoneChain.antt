-- The commands that are withheld complete one after the other, by the steps as by the rules.
use Rattle.std.proofs.Common.{◌≡◌, ℕ, zero, suc, ◌<◌, ◌≤◌, ◌==◌, ◌&&◌, inl, not, cond, true, List, [], ◌∷◌, ◌++◌, length, map, filter, Option, Some, None, refl, ap, sym, subst, ◌∙◌, arith, ne_eqb}
use Rattle.std.proofs.lemmas.Bool.{and_from, eq-eqb, eqb-true, not-true}
use Rattle.iscsi_rules.specs.declared.event.Event.TheVariants.{Done}
use Rattle.iscsi_rules.specs.rules.Agenda.{command_of}
use Rattle.iscsi_rules.specs.rules.Settings.{are_distinct}
use Rattle.iscsi_rules.specs.rules.Trace.{Command as RulesCommand, are_apart, entered, first_of, has, leaves_ticket, live, was_free}
use Rattle.iscsi_rules.proofs.general.BoolLemmas.{and_parts}
use Rattle.iscsi_rules.proofs.general.ElementLemmas.{In, filter-in, in-filter}
use Rattle.iscsi_outbox_rules.specs.rules.Words.{contains}
use Rattle.iscsi_outbox_law.specs.private.Pairs.{InOrder}
use Rattle.iscsi_ffi_commands.specs.declared.command.Command.{Command}
use Rattle.iscsi_ffi_commands.specs.Commands.{has_ticket, is_marked}
use Rattle.iscsi_ffi_rules.specs.declared.action.Action.{Action}
use Rattle.iscsi_ffi_rules.specs.rules.Calls.{Interface}
use Rattle.iscsi_ffi_rules.specs.rules.Clearing.{BUSY, TASK_ABORTED, next_withheld, status_of as status_there}
use Rattle.iscsi_ffi_rules.specs.rules.Happening.{Told, happening as happening_there, start as start_there, withholding as withholding_there}
use Rattle.iscsi_ffi_rules.specs.rules.Sides.{Side}
use Rattle.iscsi_ffi_steps.specs.State.{State}
use Rattle.iscsi_ffi_steps.specs.Steps.{Going, changed, happening, status_of, withholding}
use Rattle.iscsi_ffi_law.specs.Done.{AreDoneFit, IsDoneFit}
use Rattle.iscsi_ffi_law.specs.Names.{Name, Note}
use Rattle.iscsi_ffi_law.specs.Stands.{AreFlags}
use Rattle.iscsi_ffi_law.proofs.general.Ascending.{order_filter}
use Rattle.iscsi_ffi_law.proofs.commands.Commands.{one_command}
use Rattle.iscsi_ffi_law.proofs.completions.Doing.{idle}
use Rattle.iscsi_ffi_law.proofs.completions.DoneBox.{IsFound}
use Rattle.iscsi_ffi_law.proofs.completions.DoneHeld.{held_of}
use Rattle.iscsi_ffi_law.proofs.completions.DoneAfter.{happens_after, kept_one, starts_after, withheld_on}
use Rattle.iscsi_ffi_law.proofs.completions.DoneMid.{IsMid, acts_then, fewer_live, going_rel, k, mid_ends, mid_then, requests_held, state_then}
use Rattle.iscsi_ffi_law.proofs.completions.DoneRequests.{done_side}
use Rattle.iscsi_ffi_law.proofs.completions.DoneRules.{rules_are, side_after}
use Rattle.iscsi_ffi_law.proofs.completions.DoneShape.{news, tickets_of}
use Rattle.iscsi_ffi_law.proofs.calls.Ends.{EndsAlike}
use Rattle.iscsi_ffi_law.proofs.calls.EndsWith.{all_released_held}
use Rattle.iscsi_ffi_law.proofs.requests.Releases.{endings, releases}
use Rattle.iscsi_ffi_law.proofs.commands.StartsAfter.{find_one_left, keeps_all, rel_is}
use Rattle.iscsi_ffi_steps.specs.Walk.{Doing, in_state}
use Rattle.iscsi_ffi_law.proofs.requests.Kept.{filter_all}
use Rattle.iscsi_ffi_law.proofs.general.Members.{each_in}
use Rattle.iscsi_ffi_law.proofs.resets.Resetting.{calm}
use Rattle.iscsi_ffi_law.proofs.commands.Staging.{Both, both_of}
use Rattle.iscsi_ffi_law.proofs.commands.Starting.{starting_of}

-- ---- the first of those that are withheld

pub none_first : {A : Type 0} (xs : List A) → first_of xs ≡ None → xs ≡ []
none_first [] none = refl
none_first (x ∷ xs) none = absurd cc

in_long : {A : Type 0} (xs : List A) (x : A) → In x xs → 1 ≤ length xs
in_long [] x there = absurd there
in_long (y ∷ xs) x there = omega arith

-- it is the command with its ticket that is enabled
found_by : (r : Side) (c : RulesCommand) → are_apart (entered r.both.trace) ≡ true → In c (live r.both.trace) → was_free c r.both.trace ≡ true → command_of r.both.trace c.ticket ≡ Some c
found_by r c apart there free = by_first (filter (λ (x : RulesCommand). x.ticket == c.ticket && was_free x r.both.trace) (live r.both.trace)) refl
    (filter-in (λ (x : RulesCommand). x.ticket == c.ticket && was_free x r.both.trace) (live r.both.trace) c there (and_from (c.ticket == c.ticket) (was_free c r.both.trace) (eq-eqb c.ticket c.ticket refl) free))
  where
    entered_one : (x : RulesCommand) → In x (live r.both.trace) → In x (entered r.both.trace)
    entered_one x at = (in-filter (λ (y : RulesCommand). not (has (leaves_ticket y.ticket) r.both.trace)) (entered r.both.trace) x at).0

    by_first : (xs : List RulesCommand) → filter (λ (x : RulesCommand). x.ticket == c.ticket && was_free x r.both.trace) (live r.both.trace) ≡ xs → In c xs → first_of xs ≡ Some c
    by_first [] is at = absurd at
    by_first (x ∷ xs) is at =
        let first : In x (filter (λ (y : RulesCommand). y.ticket == c.ticket && was_free y r.both.trace) (live r.both.trace)) = subst (In x) (sym is) (inl refl) in
        let parts = in-filter (λ (y : RulesCommand). y.ticket == c.ticket && was_free y r.both.trace) (live r.both.trace) x first in
        let same : x.ticket ≡ c.ticket = eqb-true x.ticket c.ticket (and_parts (x.ticket == c.ticket) (was_free x r.both.trace) parts.1).0 in
        ap (λ (y : RulesCommand). Some y) (one_command (entered r.both.trace) x c apart (entered_one x parts.0) (entered_one c there) same)

-- .. also where these uses have ended before
module _ (i : Interface) (names : List Name) (notes : List Note) (distinct : are_distinct i.outbox.session.conns ≡ true) (xs : List (Option ℕ)) where
  abbrev told_at : Side → List Action → Told
  told_at r acts = record { side = r; actions = acts }

  -- from any state in which so many complete at the most
  abbrev pub ChainsFrom : ℕ → Type 0
  ChainsFrom n = (m : ℕ) (s : State) (r : Side) (acts : List Action) → IsMid i names notes s r acts (endings xs) → length xs ≤ s.room → length (live r.both.trace) ≤ n → length (live r.both.trace) ≤ m → AreDoneFit i n (record { side = r; actions = acts })
      → EndsAlike i (withholding i m (going_rel xs s r acts)) (withholding_there i n (record { side = r; actions = acts })).side (withholding_there i n (record { side = r; actions = acts })).actions

  -- none is withheld
  none_chains : (n m : ℕ) (s : State) (r : Side) (acts : List Action) → IsMid i names notes s r acts (endings xs) → length xs ≤ s.room → held_of r ≡ []
      → EndsAlike i (withholding i m (going_rel xs s r acts)) (withholding_there i n (record { side = r; actions = acts })).side (withholding_there i n (record { side = r; actions = acts })).actions
  none_chains n m s r acts mid room_xs none =
      subst (λ (w : Told). EndsAlike i (withholding i m (going_rel xs s r acts)) w.side w.actions) (sym (calm i n (record { side = r; actions = acts }) (ap first_of none)))
      (subst (λ (g : Going). EndsAlike i g r acts) (sym (idle i m (going_rel xs s r acts) (all_released_held xs (record { state = s; actions = acts; forgets = [] }) ∙ mid.held ∙ ap tickets_of none))) (mid_ends i names notes xs s r acts mid room_xs distinct none))

  -- one completes
  module _ (n m : ℕ) (later : ChainsFrom n) (s : State) (r : Side) (acts : List Action) (mid : IsMid i names notes s r acts (endings xs)) (room_xs : length xs ≤ s.room) (few : length (live r.both.trace) ≤ suc n) (enough : length (live r.both.trace) ≤ suc m)
      (fits : AreDoneFit i (suc n) (record { side = r; actions = acts })) (c : RulesCommand) (cs : List RulesCommand) (is : held_of r ≡ c ∷ cs) where
    first_is : next_withheld r ≡ Some c
    first_is = ap first_of is

    parts : In c (live r.both.trace) × ((was_free c r.both.trace && not (contains r.told c.ticket)) ≡ true)
    parts = in-filter (λ (x : RulesCommand). was_free x r.both.trace && not (contains r.told x.ticket)) (live r.both.trace) c (subst (In c) (sym is) (inl refl))

    there : In c (entered r.both.trace) × (not (has (leaves_ticket c.ticket) r.both.trace) ≡ true)
    there = in-filter (λ (x : RulesCommand). not (has (leaves_ticket x.ticket) r.both.trace)) (entered r.both.trace) c parts.0

    both_fits : IsDoneFit i r c.ticket (status_there r c) × (let h = happening_there i r (Done c.ticket (status_there r c)) in AreDoneFit i n (record { side = h.side; actions = acts ++ h.actions }))
    both_fits = subst (λ (x : Option RulesCommand). elim x as (λ (y : Option RulesCommand). Type 0) [
      | Some e ↦ IsDoneFit i r e.ticket (status_there r e) × (let h = happening_there i r (Done e.ticket (status_there r e)) in AreDoneFit i n (record { side = h.side; actions = acts ++ h.actions }))
      | None ↦ Unit {0}
    ]) first_is fits

    abbrev s0 : State
    s0 = record s { withheld = tickets_of cs }

    abbrev f : IsFound i names notes s0 r c (status_there r c)
    f = record {
      pending = endings xs;
      gone = mid.gone;
      requests = requests_held names notes (endings xs) mid.gone s r (tickets_of cs) mid.requests;
      outbox = mid.outbox;
      sizes = record { room = mid.sizes.room; functions = mid.sizes.functions; replies = mid.sizes.replies; noted = mid.sizes.noted; unwritten = mid.sizes.unwritten; noted_room = mid.sizes.noted_room; unwritten_room = mid.sizes.unwritten_room; replies_room = mid.sizes.replies_room; slots = mid.sizes.slots; few = mid.sizes.few };
      counts = record { units = mid.counts.units; last = mid.counts.last; tracked = mid.counts.tracked };
      command = found_by r c mid.requests.tickets parts.0 (and_parts (was_free c r.both.trace) (not (contains r.told c.ticket)) parts.1).0;
      fit = both_fits.0;
    }

    flags : AreFlags i s0 r
    flags = record { awake = mid.flags.awake; over = mid.flags.over }

    -- the others have other tickets
    others : filter (λ (x : RulesCommand). not (x.ticket == c.ticket)) (held_of r) ≡ cs
    others =
        ap (filter (λ (x : RulesCommand). not (x.ticket == c.ticket))) is
        ∙ ap (λ v. cond (not v) (c ∷ filter (λ (x : RulesCommand). not (x.ticket == c.ticket)) cs) (filter (λ (x : RulesCommand). not (x.ticket == c.ticket)) cs)) (eq-eqb c.ticket c.ticket refl)
        ∙ filter_all (λ (x : RulesCommand). not (x.ticket == c.ticket)) cs (λ x at. let lt : c.ticket < x.ticket = each_in (λ (y : RulesCommand). c.ticket < y.ticket) cs x at order.0 in ap not (ne_eqb x.ticket c.ticket (λ same. omega (arith, lt, same))))
      where
        order : InOrder (λ (x y : RulesCommand). x.ticket < y.ticket) (c ∷ cs)
        order = subst (InOrder (λ (x y : RulesCommand). x.ticket < y.ticket)) is
            (order_filter (λ (x y : RulesCommand). x.ticket < y.ticket) (λ (x : RulesCommand). was_free x r.both.trace && not (contains r.told x.ticket)) (live r.both.trace)
            (order_filter (λ (x y : RulesCommand). x.ticket < y.ticket) (λ (x : RulesCommand). not (has (leaves_ticket x.ticket) r.both.trace)) (entered r.both.trace) mid.regular.ascending))

    held : s0.withheld ≡ tickets_of (filter (λ (x : RulesCommand). not (x.ticket == c.ticket)) (held_of r))
    held = ap tickets_of (sym others)

    -- both say the same status
    status_is : status_of s c.ticket ≡ status_there r c
    status_is =
        let two : Both names r s.commands.items c = both_of names r s.commands.items mid.requests.commands mid.requests.numbered mid.requests.live_named c there.0 (not-true (has (leaves_ticket c.ticket) r.both.trace) there.1) in
        ap (λ (x : Option Command). elim x as (λ (y : Option Command). ℕ) [ Some e ↦ cond (is_marked e) TASK_ABORTED BUSY | None ↦ BUSY ]) (two.found s.commands refl)
        ∙ ap (λ v. cond v TASK_ABORTED BUSY) (two.is.marked ∙ ap (λ v. v && contains r.marked c.ticket) two.lives)

    abbrev s2 : State
    s2 = state_then i names notes s0 r c (status_there r c) f flags mid.regular acts held mid.room

    abbrev r2 : Side
    r2 = side_after i names notes s0 r c (status_there r c) f

    abbrev acts2 : List Action
    acts2 = acts_then i names notes s0 r c (status_there r c) f flags mid.regular acts held mid.room

    -- .. also where those uses have ended
    status_left : status_of (releases xs (record { state = s; actions = acts; forgets = [] })).state c.ticket ≡ status_of s c.ticket
    status_left =
        let two : Both names r s.commands.items c = both_of names r s.commands.items mid.requests.commands mid.requests.numbered mid.requests.live_named c there.0 (not-true (has (leaves_ticket c.ticket) r.both.trace) there.1) in
        ap (λ (e : Doing). status_of e.state c.ticket) (rel_is s acts xs)
        ∙ ap (λ (x : Option Command). elim x as (λ (y : Option Command). ℕ) [ Some e ↦ cond (is_marked e) TASK_ABORTED BUSY | None ↦ BUSY ])
        (find_one_left (has_ticket c.ticket) (λ (x : Command). keeps_all xs s.cookies x.request) s.commands.items two.c (mid.requests.numbered c.ticket) (two.found s.commands refl)
        ∙ ap (λ v. cond v (Some (two.c)) None) (kept_one i names notes s0 r c (status_there r c) f acts xs room_xs mid.requests.uses (λ place. refl) two.c two.there two.lives)
        ∙ sym (two.found s.commands refl))

    happens_now : happening i None (Done c.ticket (status_there r c)) (going_rel xs s0 r acts) ≡ going_rel xs s2 r2 acts2
    happens_now =
        happens_after i names notes s0 r c (status_there r c) f acts xs room_xs mid.requests.uses (λ place. refl) (releases xs (record { state = s2; actions = acts2; forgets = [] }))
        (starts_after i names notes s0 r c (status_there r c) f acts xs room_xs mid.requests.uses (λ place. refl) (record { state = s2; actions = acts2; forgets = [] }) (k i names notes s0 r c (status_there r c) f flags mid.regular acts held mid.room).is refl refl refl)

    steps_are : withholding i (suc m) (going_rel xs s r acts) ≡ withholding i m (going_rel xs s2 r2 acts2)
    steps_are =
        ap (λ (ts : List ℕ). elim ts as (λ (us : List ℕ). Going) [
          | [] ↦ going_rel xs s r acts
          | ticket ∷ tickets ↦ withholding i m (happening i None (Done ticket (status_of (releases xs (record { state = s; actions = acts; forgets = [] })).state ticket)) (changed (in_state (λ t. record t { withheld = tickets })) (going_rel xs s r acts)))
        ]) (all_released_held xs (record { state = s; actions = acts; forgets = [] }) ∙ mid.held ∙ ap tickets_of is)
        ∙ ap (λ n. withholding i m (happening i None (Done c.ticket n) (changed (in_state (λ t. record t { withheld = tickets_of cs })) (going_rel xs s r acts)))) (status_left ∙ status_is)
        ∙ ap (λ (e : Doing). withholding i m (happening i None (Done c.ticket (status_there r c)) (record { event = r.both.event; trace = r.both.trace; doing = e }))) (withheld_on xs (tickets_of cs) (record { state = s; actions = acts; forgets = [] }))
        ∙ ap (withholding i m) happens_now

    told_is : happening_there i r (Done c.ticket (status_there r c)) ≡ record { side = r2; actions = map (start_there (done_side i names notes s0 r c (status_there r c) f)) (starting_of (done_side i names notes s0 r c (status_there r c) f) (news i.outbox.session r.both.trace c (status_there r c))) }
    told_is = rules_are i names notes s0 r c (status_there r c) f

    rules_step : withholding_there i (suc n) (record { side = r; actions = acts }) ≡ withholding_there i n (record { side = r2; actions = acts2 })
    rules_step =
        ap (λ (x : Option RulesCommand). elim x as (λ (y : Option RulesCommand). Told) [
          | Some e ↦ let h = happening_there i r (Done e.ticket (status_there r e)) in withholding_there i n (record { side = h.side; actions = acts ++ h.actions })
          | None ↦ record { side = r; actions = acts }
        ]) first_is
        ∙ ap (λ (h : Told). withholding_there i n (record { side = h.side; actions = acts ++ h.actions })) told_is

    one_chains : EndsAlike i (withholding i (suc m) (going_rel xs s r acts)) (withholding_there i (suc n) (record { side = r; actions = acts })).side (withholding_there i (suc n) (record { side = r; actions = acts })).actions
    one_chains =
        let less = fewer_live i names notes s0 r c (status_there r c) f flags mid.regular acts held mid.room in
        subst (λ (w : Told). EndsAlike i (withholding i (suc m) (going_rel xs s r acts)) w.side w.actions) (sym rules_step)
        (subst (λ (g : Going). EndsAlike i g (withholding_there i n (record { side = r2; actions = acts2 })).side (withholding_there i n (record { side = r2; actions = acts2 })).actions) (sym steps_are)
        (later m s2 r2 acts2 (mid_then i names notes s0 r c (status_there r c) f flags mid.regular acts held mid.room mid.slots mid.functions) room_xs (omega (arith, less, few)) (omega (arith, less, enough))
        (subst (λ (h : Told). AreDoneFit i n (record { side = h.side; actions = acts ++ h.actions })) told_is both_fits.1)))

  chain_more : (n : ℕ) → ChainsFrom n → ChainsFrom (suc n)
  chain_more n later m s r acts mid room_xs few enough fits = by_held (held_of r) refl
    where
      with_fuel : (j : ℕ) → length (live r.both.trace) ≤ j → (c : RulesCommand) (cs : List RulesCommand) → held_of r ≡ c ∷ cs
          → EndsAlike i (withholding i j (going_rel xs s r acts)) (withholding_there i (suc n) (record { side = r; actions = acts })).side (withholding_there i (suc n) (record { side = r; actions = acts })).actions
      with_fuel zero room c cs is =
          let at = (in-filter (λ (x : RulesCommand). was_free x r.both.trace && not (contains r.told x.ticket)) (live r.both.trace) c (subst (In c) (sym is) (inl refl))).0 in
          absurd (let some = in_long (live r.both.trace) c at in let none : ⊥ = omega (arith, some, room) in none)
      with_fuel (suc j) room c cs is = one_chains n j later s r acts mid room_xs few room fits c cs is

      by_held : (ys : List RulesCommand) → held_of r ≡ ys → EndsAlike i (withholding i m (going_rel xs s r acts)) (withholding_there i (suc n) (record { side = r; actions = acts })).side (withholding_there i (suc n) (record { side = r; actions = acts })).actions
      by_held [] none = none_chains (suc n) m s r acts mid room_xs none
      by_held (c ∷ cs) is = with_fuel m enough c cs is

  pub chain : (n : ℕ) → ChainsFrom n
  chain zero m s r acts mid room_xs few enough fits = none_chains 0 m s r acts mid room_xs (ap (filter (λ (c : RulesCommand). was_free c r.both.trace && not (contains r.told c.ticket))) (empty (live r.both.trace) few))
    where
      empty : (xs : List RulesCommand) → length xs ≤ 0 → xs ≡ []
      empty [] few' = refl
      empty (x ∷ xs) few' = absurd (let none : ⊥ = omega (arith, few') in none)
  chain (suc n) m s r acts mid room_xs few enough fits = chain_more n (chain n) m s r acts mid room_xs few enough fits
