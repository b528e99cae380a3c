-- The walk over commands that leave by a request: each stops that was told to start, and the request of any other one has a use less.
use Rattle.std.proofs.Common.{◌≡◌, ℕ, ◌+◌, ◌<◌, ◌≤◌, ◌==◌, ◌&&◌, ◌||◌, inl, inr, not, cond, Bool, true, false, List, [], ◌∷◌, ◌++◌, length, map, suc, count_by, filter, find, Option, Some, None, refl, ap, sym, subst, ◌∙◌, arith, lt-ltb, ne_eqb, length-append, ⊎_elim}
use Rattle.std.proofs.lemmas.Bool.{and_from, eq-eqb, eqb-true, false≢true}
use Rattle.std.proofs.lemmas.List.{append-nil, append_assoc}
use Rattle.iscsi_rules.specs.declared.effect.Effect.{Effect}
use Rattle.iscsi_rules.specs.declared.effect.Effect.TheVariants.{Leave}
use Rattle.iscsi_rules.specs.rules.Trace.{Command as RulesCommand, is_among}
use Rattle.iscsi_rules.proofs.general.BoolLemmas.{and_parts}
use Rattle.iscsi_rules.proofs.general.CountLemmas.{one, count-cons, count-weaker}
use Rattle.iscsi_rules.proofs.general.ElementLemmas.{In}
use Rattle.iscsi_outbox_rules.specs.rules.Words.{contains}
use Rattle.iscsi_outbox_steps.specs.State.{State as OutboxState}
use Rattle.iscsi_requests.specs.Cookies.{cookie_at, uses_at}
use Rattle.iscsi_ffi_commands.specs.declared.command.Command.{Command}
use Rattle.iscsi_ffi_commands.specs.declared.command.Stage.TheVariants.{Over}
use Rattle.iscsi_ffi_commands.specs.Commands.{find_ticket, has_ticket, in_stage, is_going, is_live, is_marked, staged}
use Rattle.iscsi_ffi_rules.specs.declared.action.Action.{Action}
use Rattle.iscsi_ffi_rules.specs.declared.action.Action.TheVariants.{Stop}
use Rattle.iscsi_ffi_rules.specs.declared.action.StopReason.{StopReason}
use Rattle.iscsi_ffi_rules.specs.rules.Happening.{is_started, stop as stop_there}
use Rattle.iscsi_ffi_rules.specs.rules.Sides.{Side, cookie_of}
use Rattle.iscsi_ffi_steps.specs.State.{State}
use Rattle.iscsi_ffi_steps.specs.Walk.{Doing, Walk, in_state, leave_as, on_effect, on_effects, release, take_out, tell, told_to_stop, with_stage}
use Rattle.iscsi_ffi_law.specs.Names.{Name, place_named}
use Rattle.iscsi_ffi_law.specs.Parts.{AreCounted}
use Rattle.iscsi_ffi_law.proofs.requests.Core.{Core, core_more, endings_more, one_released}
use Rattle.iscsi_ffi_law.proofs.calls.Fitting.{count_map}
use Rattle.iscsi_ffi_law.proofs.requests.Kept.{count_members, count_nothing}
use Rattle.iscsi_ffi_law.proofs.aborts.Leaving.{leave_effects}
use Rattle.iscsi_ffi_law.proofs.aborts.LeavingCommands.{AreOnce, IsLeaver, ended_by, gone_by, once_apart, once_later}
use Rattle.iscsi_ffi_law.proofs.aborts.LeavingUses.{IsKept, all_kept}
use Rattle.iscsi_ffi_law.proofs.general.Members.{find_in, in_any, in_counted, in_find, two_counted}
use Rattle.iscsi_ffi_law.proofs.requests.Releases.{endings}
use Rattle.iscsi_ffi_law.proofs.requests.Releasing.{ending}
use Rattle.iscsi_ffi_law.proofs.commands.Staging.{restaged, restaged_request, restaged_ticket}
use Rattle.iscsi_ffi_law.proofs.commands.StartsAfter.{cookies_all, core_is, filter_restaged, find_one_left, forgets_all, keeps_all}
use Rattle.iscsi_ffi_law.proofs.commands.Stopping.{count_sum}
use Rattle.iscsi_ffi_law.proofs.items.Walking.{core_at, walk_in}

in_map : {A B : Type 0} (f : A → B) (xs : List A) (x : A) → In x xs → In (f x) (map f xs)
in_map f [] x there = absurd there
in_map f (y ∷ xs) x there = ⊎_elim (λ here. inl (ap f here)) (λ later. inr (in_map f xs x later)) there

-- ---- commands, as one is over

module _ (names : List Name) (r : Side) (items : List Command) (numbered : (ticket : ℕ) → count_by (has_ticket ticket) items ≤ 1) (d : RulesCommand) (l : IsLeaver names r items d) where
  abbrev over_items : List Command
  over_items = map (restaged Over d.ticket) items

  has_it : has_ticket d.ticket l.c ≡ true
  has_it = eq-eqb l.c.ticket d.ticket l.ticket

  itself : (c : Command) → In c items → has_ticket d.ticket c ≡ true → c ≡ l.c
  itself c there has = two_counted (has_ticket d.ticket) items c l.c (numbered d.ticket) there l.there has has_it

  pub found : find (has_ticket d.ticket) items ≡ Some (l.c)
  found =
      let y = in_find (has_ticket d.ticket) items l.c l.there has_it in
      let at = find_in (has_ticket d.ticket) items y.0 y.1 in
      y.1 ∙ ap (λ (x : Command). Some x) (itself y.0 at.0 at.1)

  pub numbered_over : (ticket : ℕ) → count_by (has_ticket ticket) (map (restaged Over d.ticket) items) ≤ 1
  numbered_over ticket =
      let same = count_map (restaged Over d.ticket) (has_ticket ticket) items in
      let alike = count_members (λ (c : Command). has_ticket ticket (restaged Over d.ticket c)) (has_ticket ticket) items (λ c at. ap (λ n. n == ticket) (restaged_ticket Over d.ticket c)) in
      let few = numbered ticket in
      omega (arith, same, alike, few)

  -- just it passes no more
  module _ (p : Command → Bool) (after : (c : Command) → p (in_stage Over c) ≡ false) where
    one_less : count_by p (map (restaged Over d.ticket) items) + one (p l.c) ≡ count_by p items
    one_less =
        let mapped = count_map (restaged Over d.ticket) p items in
        let split = count_sum p (λ (c : Command). p (restaged Over d.ticket c)) (λ (c : Command). has_ticket d.ticket c && p c) items (λ c at. each c (has_ticket d.ticket c) refl) in
        omega (arith, mapped, split, only)
      where
        each : (c : Command) (v : Bool) → has_ticket d.ticket c ≡ v → one (p c) ≡ one (p (restaged Over d.ticket c)) + one (has_ticket d.ticket c && p c)
        each c true is =
            let x : one (p (restaged Over d.ticket c)) ≡ 0 = ap (λ v. one (p (cond v (in_stage Over c) c))) is ∙ ap one (after c) in
            let y : one (has_ticket d.ticket c && p c) ≡ one (p c) = ap (λ v. one (v && p c)) is in
            omega (arith, x, y)
        each c false is =
            let x : one (p (restaged Over d.ticket c)) ≡ one (p c) = ap (λ v. one (p (cond v (in_stage Over c) c))) is in
            let y : one (has_ticket d.ticket c && p c) ≡ 0 = ap (λ v. one (v && p c)) is in
            omega (arith, x, y)

        only : count_by (λ (c : Command). has_ticket d.ticket c && p c) items ≡ one (p l.c)
        only = by_test (p l.c) refl
          where
            by_test : (v : Bool) → p l.c ≡ v → count_by (λ (c : Command). has_ticket d.ticket c && p c) items ≡ one v
            by_test true is =
                let some : 1 ≤ count_by (λ (c : Command). has_ticket d.ticket c && p c) items = in_counted (λ (c : Command). has_ticket d.ticket c && p c) items l.c l.there (and_from (has_ticket d.ticket l.c) (p l.c) has_it is) in
                let few : count_by (λ (c : Command). has_ticket d.ticket c && p c) items ≤ count_by (has_ticket d.ticket) items = count-weaker (λ (c : Command). has_ticket d.ticket c && p c) (has_ticket d.ticket) items (λ c both. (and_parts (has_ticket d.ticket c) (p c) both).0) in
                let most = numbered d.ticket in
                omega (arith, some, few, most)
            by_test false is = count_nothing (λ (c : Command). has_ticket d.ticket c && p c) items (λ c at. other c at (has_ticket d.ticket c) refl)
              where
                other : (c : Command) → In c items → (v : Bool) → has_ticket d.ticket c ≡ v → (has_ticket d.ticket c && p c) ≡ false
                other c at false has = ap (λ v. v && p c) has
                other c at true has = ap (λ v. v && p c) has ∙ ap p (itself c at has) ∙ is

  pub live_less : count_by is_live (map (restaged Over d.ticket) items) + 1 ≡ count_by is_live items
  live_less = let all = one_less is_live (λ c. refl) in let here : one (is_live l.c) ≡ 1 = ap one l.lives in omega (arith, all, here)

  pub going_less : count_by is_going (map (restaged Over d.ticket) items) + one (contains r.told d.ticket) ≡ count_by is_going items
  going_less = let all = one_less is_going (λ c. refl) in let here : one (is_going l.c) ≡ one (contains r.told d.ticket) = ap one l.going in omega (arith, all, here)

  pub live_at_less : (p : ℕ) → count_by (λ (c : Command). c.request == p && is_live c) (map (restaged Over d.ticket) items) + one (l.c.request == p) ≡ count_by (λ (c : Command). c.request == p && is_live c) items
  live_at_less p =
      let all = one_less (λ (c : Command). c.request == p && is_live c) (λ c. none (c.request == p)) in
      let here : one (l.c.request == p && is_live l.c) ≡ one (l.c.request == p) = ap (λ v. one (l.c.request == p && v)) l.lives ∙ ap one (whole (l.c.request == p)) in
      omega (arith, all, here)
    where
      none : (v : Bool) → (v && false) ≡ false
      none true = refl
      none false = refl

      whole : (v : Bool) → (v && true) ≡ v
      whole true = refl
      whole false = refl

  -- another one that leaves does so still
  pub leaver_on : (e : RulesCommand) → (e.ticket == d.ticket) ≡ false → IsLeaver names r items e → IsLeaver names r (map (restaged Over d.ticket) items) e
  leaver_on e other k =
      let isnt : has_ticket d.ticket k.c ≡ false = ap (λ n. n == d.ticket) k.ticket ∙ other in
      let same : restaged Over d.ticket k.c ≡ k.c = ap (λ v. cond v (in_stage Over k.c) k.c) isnt in
      record {
        c = k.c;
        there = subst (λ (c : Command). In c (map (restaged Over d.ticket) items)) same (in_map (restaged Over d.ticket) items k.c k.there);
        ticket = k.ticket;
        lives = k.lives;
        going = k.going;
        marked = k.marked;
        named = k.named;
      }

other_ticket : (d e : RulesCommand) (ds : List RulesCommand) → AreOnce (d ∷ ds) → In e ds → (e.ticket == d.ticket) ≡ false
other_ticket d e ds once there = by_test (e.ticket == d.ticket) refl
  where
    by_test : (v : Bool) → (e.ticket == d.ticket) ≡ v → v ≡ false
    by_test false is = refl
    by_test true is = absurd (false≢true (sym (once_apart d ds once) ∙ in_any (λ (x : RulesCommand). x.ticket == d.ticket) ds e there is))

-- one after the other
over_both : (d : RulesCommand) (ds : List RulesCommand) (items : List Command) → map (gone_by ds) (map (restaged Over d.ticket) items) ≡ map (gone_by (d ∷ ds)) items
over_both d ds [] = refl
over_both d ds (c ∷ items) = ap (λ x. x ∷ map (gone_by ds) (map (restaged Over d.ticket) items)) (one_of (has_ticket d.ticket c) refl (is_among c.ticket ds)) ∙ ap (λ xs. gone_by (d ∷ ds) c ∷ xs) (over_both d ds items)
  where
    one_of : (v : Bool) → has_ticket d.ticket c ≡ v → (w : Bool) → gone_by ds (restaged Over d.ticket c) ≡ gone_by (d ∷ ds) c
    one_of true is w =
        ap (λ u. gone_by ds (cond u (in_stage Over c) c)) is
        ∙ by_among (is_among c.ticket ds)
        ∙ sym (ap (λ u. cond (u || is_among c.ticket ds) (in_stage Over c) c) (eq-eqb d.ticket c.ticket (sym (eqb-true c.ticket d.ticket is))))
      where
        by_among : (u : Bool) → cond u (in_stage Over (in_stage Over c)) (in_stage Over c) ≡ in_stage Over c
        by_among true = refl
        by_among false = refl
    one_of false is w =
        ap (λ u. gone_by ds (cond u (in_stage Over c) c)) is
        ∙ sym (ap (λ u. cond (u || is_among c.ticket ds) (in_stage Over c) c) (ne_eqb d.ticket c.ticket (λ same. false≢true (sym is ∙ eq-eqb c.ticket d.ticket (sym same)))))

-- ---- the walk

abbrev pub stops_of : Side → StopReason → List RulesCommand → List Action
stops_of r why ds = map (stop_there r why) (filter (is_started r) ds)

-- what is known as the walk comes to those that leave
pub record MayLeave (names : List Name) (r : Side) (why : StopReason) (s : State) (acts : List Action) (xs : List (Option ℕ)) (ds : List RulesCommand) : Type 0 where
  pub counted : AreCounted s.cookies
  pub numbered : (ticket : ℕ) → count_by (has_ticket ticket) s.commands.items ≤ 1
  pub leavers : (d : RulesCommand) → In d ds → IsLeaver names r s.commands.items d
  pub once : AreOnce ds
  pub words : (event place : ℕ) → place_named names event ≡ Some place → cookie_of r.asked event ≡ cookie_at place s.cookies
  -- a request of one that is live has more uses than have ended
  pub uses : (p : ℕ) → endings xs p + count_by (λ (c : Command). c.request == p && is_live c) s.commands.items ≤ uses_at p s.cookies
  pub room : length acts + length (stops_of r why ds) ≤ s.room

module _ (names : List Name) (r : Side) (why : StopReason) (o : OutboxState) (current own : Option ℕ) (sent : ℕ) where
  abbrev over_in : RulesCommand → State → State
  over_in d s = record s { commands = record s.commands { items = map (restaged Over d.ticket) s.commands.items } }

  abbrev acts_then : RulesCommand → List Action → List Action
  acts_then d acts = cond (is_started r d) (acts ++ stop_there r why d ∷ []) acts

  abbrev ended_then : RulesCommand → List (Option ℕ) → List (Option ℕ)
  ended_then d xs = cond (contains r.told d.ticket) xs (xs ++ place_named names d.arrival.event ∷ [])

  module _ (s : State) (acts : List Action) (xs : List (Option ℕ)) (d : RulesCommand) (ds : List RulesCommand) (m : MayLeave names r why s acts xs (d ∷ ds)) where
    l : IsLeaver names r s.commands.items d
    l = m.leavers d (inl refl)

    abbrev K : Core
    K = core_at s xs

    used_more : endings xs l.c.request < uses_at l.c.request s.cookies
    used_more =
        let some : 1 ≤ count_by (λ (c : Command). c.request == l.c.request && is_live c) s.commands.items
        = in_counted (λ (c : Command). c.request == l.c.request && is_live c) s.commands.items l.c l.there (and_from (l.c.request == l.c.request) (is_live l.c) (eq-eqb l.c.request l.c.request refl) l.lives) in
        let all = m.uses l.c.request in
        omega (arith, some, all)

    kept : IsKept (keeps_all xs s.cookies l.c.request) s.cookies (cookies_all xs s.cookies) (endings xs l.c.request) l.c.request
    kept = all_kept xs s.cookies m.counted l.c.request used_more

    found_now : find_ticket d.ticket K.commands ≡ Some (l.c)
    found_now =
        ap (λ (k : Core). find_ticket d.ticket k.commands) (core_is s.room xs (record { cookies = s.cookies; commands = s.commands; forgets = [] }))
        ∙ find_one_left (has_ticket d.ticket) (λ (c : Command). keeps_all xs s.cookies c.request) s.commands.items l.c (m.numbered d.ticket) (found names r s.commands.items m.numbered d l)
        ∙ ap (λ v. cond v (Some (l.c)) None) kept.keeps_it

    word_now : cookie_at l.c.request K.cookies ≡ cookie_of r.asked d.arrival.event
    word_now = ap (λ (k : Core). cookie_at l.c.request k.cookies) (core_is s.room xs (record { cookies = s.cookies; commands = s.commands; forgets = [] })) ∙ kept.word ∙ sym (m.words d.arrival.event l.c.request l.named)

    abbrev with_staged : Core → Core
    with_staged k = record { cookies = k.cookies; commands = staged Over d.ticket k.commands; forgets = k.forgets }

    staged_core : with_staged (core_at s xs) ≡ core_at (over_in d s) xs
    staged_core =
        ap with_staged (core_is s.room xs (record { cookies = s.cookies; commands = s.commands; forgets = [] }))
        ∙ ap (λ (items : List Command). record { cookies = cookies_all xs s.cookies; commands = record s.commands { items = items }; forgets = forgets_all s.room xs s.cookies [] })
        (filter_restaged (keeps_all xs s.cookies) (restaged Over d.ticket) s.commands.items (restaged_request Over d.ticket))
        ∙ sym (core_is s.room xs (record { cookies = s.cookies; commands = record s.commands { items = map (restaged Over d.ticket) s.commands.items }; forgets = [] }))

    abbrev walk_with : List Action → Core → Walk
    walk_with as' k = record {
      doing = record { state = record s { outbox = o; cookies = k.cookies; commands = k.commands }; actions = as'; forgets = k.forgets };
      current = current;
      own = own;
      by = Some why;
      sent = sent;
    }

    abbrev doing_with : List Action → Core → Doing
    doing_with as' k = record { state = record s { outbox = o; cookies = k.cookies; commands = k.commands }; actions = as'; forgets = k.forgets }

    -- it is told to stop, if it was told to start
    stops_it : told_to_stop (l.c) why (doing_with acts (core_at s xs)) ≡ doing_with (acts_then d acts) (core_at s xs)
    stops_it =
        ap (λ v. cond (v && not (is_marked l.c)) telling before) l.going
        ∙ ap (λ v. cond (contains r.told d.ticket && not v) telling before) l.marked
        ∙ by_test (is_started r d) refl
      where
        before : Doing
        before = doing_with acts (core_at s xs)

        telling : Doing
        telling = tell (Stop l.c.ticket (cookie_at l.c.request K.cookies) why) (doing_with acts (core_at s xs))

        by_test : (v : Bool) → is_started r d ≡ v → cond v telling before ≡ doing_with (cond v (acts ++ stop_there r why d ∷ []) acts) (core_at s xs)
        by_test false is = refl
        by_test true is =
            let more : length acts < s.room = (let room = m.room in let first : length (stops_of r why (d ∷ ds)) ≡ suc (length (stops_of r why ds)) = ap (λ v. length (map (stop_there r why) (cond v (d ∷ filter (is_started r) ds) (filter (is_started r) ds)))) is in omega (arith, room, first)) in
            ap (λ v. doing_with (cond v (acts ++ Stop l.c.ticket (cookie_at l.c.request K.cookies) why ∷ []) acts) (core_at s xs)) (lt-ltb (length acts) s.room more)
            ∙ ap (λ n. doing_with (acts ++ Stop n (cookie_at l.c.request K.cookies) why ∷ []) (core_at s xs)) l.ticket
            ∙ ap (λ n. doing_with (acts ++ Stop d.ticket n why ∷ []) (core_at s xs)) word_now

    -- .. and it is over
    over_now : in_state (with_stage Over l.c.ticket) (told_to_stop (l.c) why (doing_with acts (core_at s xs))) ≡ doing_with (acts_then d acts) (core_at (over_in d s) xs)
    over_now =
        ap (in_state (with_stage Over l.c.ticket)) stops_it
        ∙ ap (λ n. in_state (with_stage Over n) (doing_with (acts_then d acts) (core_at s xs))) l.ticket
        ∙ ap (doing_with (acts_then d acts)) staged_core

    taken_out : take_out (l.c) why (doing_with acts (core_at s xs)) ≡ doing_with (acts_then d acts) (core_at (over_in d s) (ended_then d xs))
    taken_out =
        ap (λ (e : Doing). cond (is_going l.c) e (release l.c.request e)) over_now
        ∙ ap (λ v. cond v (doing_with (acts_then d acts) (core_at (over_in d s) xs)) (release l.c.request (doing_with (acts_then d acts) (core_at (over_in d s) xs)))) l.going
        ∙ by_told (contains r.told d.ticket)
      where
        by_told : (v : Bool) → cond v (doing_with (acts_then d acts) (core_at (over_in d s) xs)) (release l.c.request (doing_with (acts_then d acts) (core_at (over_in d s) xs)))
            ≡ doing_with (acts_then d acts) (core_at (over_in d s) (cond v xs (xs ++ place_named names d.arrival.event ∷ [])))
        by_told true = refl
        by_told false =
            one_released (Some (l.c.request)) (doing_with (acts_then d acts) (core_at (over_in d s) xs))
            ∙ ap (doing_with (acts_then d acts)) (sym (core_more s.room xs (Some (l.c.request)) (record { cookies = s.cookies; commands = record s.commands { items = map (restaged Over d.ticket) s.commands.items }; forgets = [] })))
            ∙ ap (λ x. doing_with (acts_then d acts) (core_at (over_in d s) (xs ++ x ∷ []))) (sym l.named)

    leave_step : (unit : ℕ) → on_effect false (Leave d.ticket unit) (walk_in o s acts xs current own (Some why) sent) ≡ walk_in o (over_in d s) (acts_then d acts) (ended_then d xs) current own (Some why) sent
    leave_step unit =
        ap (λ (x : Option Command). elim x as (λ (y : Option Command). Walk) [ Some c ↦ leave_as (Some why) c (walk_in o s acts xs current own (Some why) sent) | None ↦ walk_in o s acts xs current own (Some why) sent ]) found_now
        ∙ ap (λ (e : Doing). record { doing = e; current = current; own = own; by = Some why; sent = sent }) taken_out

    later_may : MayLeave names r why (over_in d s) (acts_then d acts) (ended_then d xs) ds
    later_may = record {
      counted = m.counted;
      numbered = numbered_over names r s.commands.items m.numbered d l;
      leavers = λ e there. leaver_on names r s.commands.items m.numbered d l e (other_ticket d e ds m.once there) (m.leavers e (inr there));
      once = once_later d ds m.once;
      words = m.words;
      uses = λ p.
          let less = live_at_less names r s.commands.items m.numbered d l p in
          let all = m.uses p in
          let ended = ended_more p (contains r.told d.ticket) in
          omega (arith, less, all, ended);
      room = (let room = m.room in by_started (is_started r d) refl room);
    }
      where
        ended_more : (p : ℕ) (v : Bool) → endings (cond v xs (xs ++ place_named names d.arrival.event ∷ [])) p ≤ endings xs p + one (l.c.request == p)
        ended_more p true = omega arith
        ended_more p false =
            let all = endings_more xs (place_named names d.arrival.event) p in
            let here : ending (place_named names d.arrival.event) p ≡ one (l.c.request == p) = ap (λ x. ending x p) l.named in
            omega (arith, all, here)

        by_started : (v : Bool) → is_started r d ≡ v → length acts + length (stops_of r why (d ∷ ds)) ≤ s.room → length (cond (is_started r d) (acts ++ stop_there r why d ∷ []) acts) + length (stops_of r why ds) ≤ s.room
        by_started true is room =
            let first : length (stops_of r why (d ∷ ds)) ≡ suc (length (stops_of r why ds)) = ap (λ v. length (map (stop_there r why) (cond v (d ∷ filter (is_started r) ds) (filter (is_started r) ds)))) is in
            let long : length (cond (is_started r d) (acts ++ stop_there r why d ∷ []) acts) ≡ length acts + 1 = ap (λ v. length (cond v (acts ++ stop_there r why d ∷ []) acts)) is ∙ length-append acts (stop_there r why d ∷ []) in
            omega (arith, room, first, long)
        by_started false is room =
            let first : length (stops_of r why (d ∷ ds)) ≡ length (stops_of r why ds) = ap (λ v. length (map (stop_there r why) (cond v (d ∷ filter (is_started r) ds) (filter (is_started r) ds)))) is in
            let long : length (cond (is_started r d) (acts ++ stop_there r why d ∷ []) acts) ≡ length acts = ap (λ v. length (cond v (acts ++ stop_there r why d ∷ []) acts)) is in
            omega (arith, room, first, long)

  acts_more : (d : RulesCommand) (ds : List RulesCommand) (acts : List Action) → acts_then d acts ++ stops_of r why ds ≡ acts ++ stops_of r why (d ∷ ds)
  acts_more d ds acts = by_started (is_started r d)
    where
      by_started : (v : Bool) → cond v (acts ++ stop_there r why d ∷ []) acts ++ map (stop_there r why) (filter (is_started r) ds) ≡ acts ++ map (stop_there r why) (cond v (d ∷ filter (is_started r) ds) (filter (is_started r) ds))
      by_started true = append_assoc acts (stop_there r why d ∷ []) (stops_of r why ds)
      by_started false = refl

  ended_more_by : (d : RulesCommand) (ds : List RulesCommand) (xs : List (Option ℕ)) → ended_then d xs ++ ended_by names r ds ≡ xs ++ ended_by names r (d ∷ ds)
  ended_more_by d ds xs = by_told (contains r.told d.ticket)
    where
      by_told : (v : Bool) → cond v xs (xs ++ place_named names d.arrival.event ∷ []) ++ ended_by names r ds
          ≡ xs ++ map (λ (e : RulesCommand). place_named names e.arrival.event) (cond (not v) (d ∷ filter (λ (e : RulesCommand). not (contains r.told e.ticket)) ds) (filter (λ (e : RulesCommand). not (contains r.told e.ticket)) ds))
      by_told true = refl
      by_told false = append_assoc xs (place_named names d.arrival.event ∷ []) (ended_by names r ds)

  pub leaves_walk : (ds : List RulesCommand) (s : State) (acts : List Action) (xs : List (Option ℕ)) → MayLeave names r why s acts xs ds → (rest : List Effect)
      → on_effects false (leave_effects ds ++ rest) (walk_in o s acts xs current own (Some why) sent)
      ≡ on_effects false rest (walk_in o (record s { commands = record s.commands { items = map (gone_by ds) s.commands.items } }) (acts ++ stops_of r why ds) (xs ++ ended_by names r ds) current own (Some why) sent)
  leaves_walk [] s acts xs m rest =
      ap (λ (items : List Command). on_effects false rest (walk_in o (record s { commands = record s.commands { items = items } }) acts xs current own (Some why) sent)) (sym (none_gone s.commands.items))
      ∙ ap (λ as'. on_effects false rest (walk_in o (record s { commands = record s.commands { items = map (gone_by []) s.commands.items } }) as' xs current own (Some why) sent)) (sym (append-nil acts))
      ∙ ap (λ ys. on_effects false rest (walk_in o (record s { commands = record s.commands { items = map (gone_by []) s.commands.items } }) (acts ++ []) ys current own (Some why) sent)) (sym (append-nil xs))
    where
      none_gone : (items : List Command) → map (gone_by []) items ≡ items
      none_gone [] = refl
      none_gone (c ∷ items) = ap (λ ys. c ∷ ys) (none_gone items)
  leaves_walk (d ∷ ds) s acts xs m rest =
      ap (on_effects false (leave_effects ds ++ rest)) (leave_step s acts xs d ds m d.unit)
      ∙ leaves_walk ds (over_in d s) (acts_then d acts) (ended_then d xs) (later_may s acts xs d ds m) rest
      ∙ ap (λ (items : List Command). on_effects false rest (walk_in o (record s { commands = record s.commands { items = items } }) (acts_then d acts ++ stops_of r why ds) (ended_then d xs ++ ended_by names r ds) current own (Some why) sent)) (over_both d ds s.commands.items)
      ∙ ap (λ as'. on_effects false rest (walk_in o (record s { commands = record s.commands { items = map (gone_by (d ∷ ds)) s.commands.items } }) as' (ended_then d xs ++ ended_by names r ds) current own (Some why) sent)) (acts_more d ds acts)
      ∙ ap (λ ys. on_effects false rest (walk_in o (record s { commands = record s.commands { items = map (gone_by (d ∷ ds)) s.commands.items } }) (acts ++ stops_of r why (d ∷ ds)) ys current own (Some why) sent)) (ended_more_by d ds xs)

-- ---- how many

-- what ends and what stops was live, and was told to start
pub few_leave : (names : List Name) (r : Side) (ds : List RulesCommand) (items : List Command) → ((ticket : ℕ) → count_by (has_ticket ticket) items ≤ 1) → ((d : RulesCommand) → In d ds → IsLeaver names r items d) → AreOnce ds
    → (length (ended_by names r ds) + count_by is_live (map (gone_by ds) items) ≤ count_by is_live items) × (length (filter (is_started r) ds) + count_by is_going (map (gone_by ds) items) ≤ count_by is_going items)
few_leave names r [] items numbered leavers once = (let a = same is_live items in omega (arith, a), let b = same is_going items in omega (arith, b))
  where
    same : (p : Command → Bool) (cs : List Command) → count_by p (map (gone_by []) cs) ≤ count_by p cs
    same p [] = omega arith
    same p (c ∷ cs) = omega (arith, same p cs, count-cons p c (map (gone_by []) cs), count-cons p c cs)
few_leave names r (d ∷ ds) items numbered leavers once =
    let l : IsLeaver names r items d = leavers d (inl refl) in
    let rest = few_leave names r ds (map (restaged Over d.ticket) items) (numbered_over names r items numbered d l) (λ e there. leaver_on names r items numbered d l e (other_ticket d e ds once there) (leavers e (inr there))) (once_later d ds once) in
    let both = over_both d ds items in
    let live_same = ap (count_by is_live) both in
    let going_same = ap (count_by is_going) both in
    let live = live_less names r items numbered d l in
    let going = going_less names r items numbered d l in
    let ended = by_told (contains r.told d.ticket) in
    let started = by_started (contains r.told d.ticket) (contains r.marked d.ticket) in
    let a = rest.0 in
    let b = rest.1 in
    (omega (arith, a, live_same, live, ended), omega (arith, b, going_same, going, started))
  where
    by_told : (v : Bool) → length (map (λ (e : RulesCommand). place_named names e.arrival.event) (cond (not v) (d ∷ filter (λ (e : RulesCommand). not (contains r.told e.ticket)) ds) (filter (λ (e : RulesCommand). not (contains r.told e.ticket)) ds))) ≤ length (ended_by names r ds) + 1
    by_told true = omega arith
    by_told false = omega arith

    by_started : (v w : Bool) → length (cond (v && not w) (d ∷ filter (is_started r) ds) (filter (is_started r) ds)) ≤ length (filter (is_started r) ds) + one v
    by_started true true = omega arith
    by_started true false = omega arith
    by_started false w = omega arith
