-- The state after the next PDU was asked for.
use Rattle.std.proofs.Common.{◌≡◌, ℕ, ◌+◌, ◌<◌, ◌≤◌, ◌==◌, ◌&&◌, ◌||◌, cond, Bool, true, false, List, [], ◌∷◌, ◌++◌, length, map, filter, count_by, get_or, set, Option, Some, None, refl, ap, sym, subst, ◌∙◌, arith}
use Rattle.std.specs.List.{find}
use Rattle.std.proofs.lemmas.Bool.{eqb-false, eqb-true, eq-eqb, ne_eqb, or_right, false≢true}
use Rattle.std.proofs.lemmas.List.{get_or-map, length-map, length-set, map-set, set-get_or}
use Rattle.std.proofs.lemmas.List.Sums.{sum_by-cons}
use Rattle.iscsi_slots.specs.Slots.{times}
use Rattle.iscsi_lists.specs.Lists.{without}
use Rattle.iscsi_arrivals.specs.declared.stamp.Stamp.{Stamp}
use Rattle.iscsi_arrivals.specs.Counts.{Counts}
use Rattle.iscsi_arrivals.specs.Stamps.{handed_out as handed_out_on, stamp_at}
use Rattle.iscsi_arrivals.specs.Standing.{StandsFor}
use Rattle.iscsi_outbox_rules.specs.rules.Calls.{Opening}
use Rattle.iscsi_outbox_rules.specs.rules.Boxes.{Phase, Dormant, Fresh, Started, Completed, Running, Gone, Task, Handed, Answer, Link, Box}
use Rattle.iscsi_outbox_rules.specs.rules.Words.{is_left_phase, is_live_phase, is_of, is_open, is_running_phase}
use Rattle.iscsi_outbox_rules.specs.rules.Run.{new_link}
use Rattle.iscsi_outbox_state.specs.declared.lane.Undue.{Undue}
use Rattle.iscsi_outbox_state.specs.declared.lane.Standing.{Standing}
use Rattle.iscsi_outbox_state.specs.declared.lane.Standing.TheVariants.{Left as IsLeft}
use Rattle.iscsi_outbox_steps.specs.declared.sent.Sent.{Sent}
use Rattle.iscsi_outbox_steps.specs.State.{State, link_at}
use Rattle.iscsi_outbox_steps.specs.Steps.{is_live}
use Rattle.iscsi_tracked.specs.declared.command.Command.{Command}
use Rattle.iscsi_tracked.specs.Tracked.{Tracked, conn_at, find_place, handed_out, is_at, trail_at, with_command, with_out}
use Rattle.iscsi_outbox_law.specs.private.Pairs.{PairsOf, EachOf, InOrder}
use Rattle.iscsi_outbox_law.specs.private.Links.{AreQueues, IsQueue, live_place}
use Rattle.iscsi_outbox_law.specs.private.Commands.{AreCommands, ArePlaced, AreTrails, IsCommand, IsLastOut, IsOut, is_kept, is_under_way, link_in, of_ticket, out_place}
use Rattle.iscsi_outbox_law.specs.private.Lanes.{AreLeft, IsInScope, is_gone, left_at, left_of}
use Rattle.iscsi_outbox_law.specs.private.Fences.{IsFence}
use Rattle.iscsi_outbox_law.specs.private.Stands.{Stands}
use Rattle.iscsi_outbox_law.proofs.general.PairLemmas.{each-map, pairs-set, pairs-at}
use Rattle.iscsi_outbox_law.proofs.general.Members.{In, find_in, in_filter, in_find, order-weaken, pair_of}
use Rattle.iscsi_outbox_law.proofs.general.PlaceLemmas.{conns_of}
use Rattle.iscsi_outbox_law.proofs.connections.Standing.{counts_at}
use Rattle.iscsi_outbox_law.proofs.commands.LeftOut.{found_there}
use Rattle.iscsi_outbox_law.proofs.connections.LinkChanges.{up_within}
use Rattle.iscsi_outbox_law.proofs.commands.TrackedLemmas.{at_place, found_changed, out_of, ticket_changed}
use Rattle.iscsi_outbox_law.proofs.commands.TrackedChanges.{OnTrail, keeps_out, on_trail, placed_handed, trails_handed}
use Rattle.iscsi_outbox_law.proofs.sending.HandedLemmas.{answers_weaken, kept_same, out_kept, out_new, pairs_keep, pairs_turn, queues_weaken}

-- ---- a command of which a PDU is handed out: its ticket, its place and how far it has come stay

module _ (stamp : Stamp) (v : Tracked) (place : ℕ) where
  pub live_turned : (c : Command) → is_live (at_place (with_out (Some stamp)) place c) ≡ is_live c
  live_turned c = elim (is_at place c) as (λ w. is_live (cond w (with_out (Some stamp) c) c) ≡ is_live c) [ true ↦ refl | false ↦ refl ]

  pub place_turned : (k : ℕ) → live_place (handed_out place stamp v) k ≡ live_place v k
  place_turned k = ap told (ticket_changed (with_out (Some stamp)) (keeps_out (Some stamp)) place k v.commands) ∙ by_found (find (λ (c : Command). c.ticket == k) v.commands)
    where
      told : Option Command → Option ℕ
      told x = elim x as (λ (y : Option Command). Option ℕ) [ Some c ↦ cond (is_live c) (Some c.place) None | None ↦ None ]

      by_found : (x : Option Command)
          → (elim (elim x as (λ (y : Option Command). Option Command) [ Some c ↦ Some (at_place (with_out (Some stamp)) place c) | None ↦ None ]) as (λ (y : Option Command). Option ℕ) [ Some c ↦ cond (is_live c) (Some c.place) None | None ↦ None ])
          ≡ (elim x as (λ (y : Option Command). Option ℕ) [ Some c ↦ cond (is_live c) (Some c.place) None | None ↦ None ])
      by_found None = refl
      by_found (Some c) = elim (is_at place c) as (λ w. cond (is_live (cond w (with_out (Some stamp) c) c)) (Some (cond w (with_out (Some stamp) c) c).place) None ≡ cond (is_live c) (Some c.place) None) [ true ↦ refl | false ↦ refl ]

  -- where the command in that place is live
  pub left_turned : ((c : Command) → find_place place v ≡ Some c → is_live c ≡ true) → (items : List Standing) → AreLeft v items → AreLeft (handed_out place stamp v) items
  left_turned alive items h = record {
    each = λ n. h.each n ∙ sym (ap left_at (found_changed (with_out (Some stamp)) (keeps_out (Some stamp)) place n v.commands) ∙ by_found n (find (is_at n) v.commands) refl);
    counted = h.counted ∙ sym (counted_turned v.commands);
  }
    where
      by_found : (n : ℕ) (x : Option Command) → find (is_at n) v.commands ≡ x
          → left_at (elim x as (λ (y : Option Command). Option Command) [ Some c ↦ Some (at_place (with_out (Some stamp)) place c) | None ↦ None ]) ≡ left_at x
      by_found n None is = refl
      by_found n (Some c) is =
          elim (is_at place c) as (λ w. is_at place c ≡ w → left_at (Some (cond w (with_out (Some stamp) c) c)) ≡ left_at (Some c)) [
            | true ↦ λ here.
                let same : c.place ≡ n = eqb-true c.place n (find_in (is_at n) v.commands c is).1 in
                let live : is_live c ≡ true = alive c (ap (λ k. find_place k v) (sym (eqb-true c.place place here) ∙ same) ∙ is) in
                let first : left_at (Some (with_out (Some stamp) c)) ≡ [] = ap (λ (u : Bool). cond u [] (IsLeft (left_of (with_out (Some stamp) c)) ∷ [])) live in
                let second : left_at (Some c) ≡ [] = ap (λ (u : Bool). cond u [] (IsLeft (left_of c) ∷ [])) live in
                first ∙ sym second
            | false ↦ λ there. refl
          ] refl

      counted_turned : (cs : List Command) → count_by is_gone (with_command (with_out (Some stamp)) place cs) ≡ count_by is_gone cs
      counted_turned [] = refl
      counted_turned (c ∷ cs) =
          sum_by-cons (λ (d : Command). cond (is_gone d) 1 0) (at_place (with_out (Some stamp)) place c) (with_command (with_out (Some stamp)) place cs)
          ∙ ap (λ (u : Bool). cond (cond u false true) 1 0 + count_by is_gone (with_command (with_out (Some stamp)) place cs)) (live_turned c)
          ∙ ap (λ n. cond (is_gone c) 1 0 + n) (counted_turned cs) ∙ sym (sum_by-cons (λ (d : Command). cond (is_gone d) 1 0) c cs)

  pub scope_turned : (before : List Standing) (a : Undue) (answer : Answer) → EachOf (IsInScope before a answer) v.commands → EachOf (IsInScope before a answer) (handed_out place stamp v).commands
  scope_turned before a answer h = each-map (IsInScope before a answer) (IsInScope before a answer) (at_place (with_out (Some stamp)) place) v.commands turned h
    where
      turned : (c : Command) → IsInScope before a answer c → IsInScope before a answer (at_place (with_out (Some stamp)) place c)
      turned c k = elim (is_at place c) as (λ w. IsInScope before a answer (cond w (with_out (Some stamp) c) c)) [ true ↦ k | false ↦ k ]

by_out : (under : ℕ → Bool) (ticket : ℕ) (l : Link) (x : Option Stamp) → (elim x as (λ (y : Option Stamp). Bool) [ Some z ↦ true | None ↦ false ]) ≡ true → IsOut under ticket l x
    → (elim x as (λ (y : Option Stamp). ℕ) [ Some z ↦ z.place | None ↦ 0 ]) < length l.handed
by_out under ticket l None is k = absurd (false≢true is)
by_out under ticket l (Some stamp) is k =
    let j : IsLastOut ticket l stamp = k.1 in
    let lt : j.place < length l.handed = up_within (of_ticket ticket) l.handed j.place j.last in
    let e : stamp.place ≡ j.place = ap (λ (x : Stamp). x.place) j.stamp in omega (arith, lt, e)

conns_set : (links : List Link) (p : ℕ) (m : Link) → p < length links → m.conn ≡ (link_in links p).conn → conns_of (set links p m) ≡ conns_of links
conns_set links p m within same =
    map-set (λ (x : Link). x.conn) links p m ∙ ap (set (conns_of links) p) (same ∙ sym (get_or-map (λ (x : Link). x.conn) links p (new_link 0) 0 within)) ∙ set-get_or (conns_of links) p 0

-- ---- what stands after it

module _ (o : Opening) (s : State) (b : Box) (st : Stands o s b) (p : ℕ) (h : Handed) (within : p < length b.links) (opens : is_open (link_in b.links p) ≡ true) (c' : Counts) (counts : StandsFor c' (handed_out_on h (link_in b.links p))) where
  abbrev l : Link
  l = link_in b.links p

  was : StandsFor (link_at s p) (link_in b.links p)
  was = counts_at (is_under_way o b.links) o s b st p within

  arrived_few : (link_in b.links p).arrived ≤ length (link_in b.links p).handed
  arrived_few = was.within

  written_few : (link_in b.links p).written ≤ length (link_in b.links p).handed
  written_few = was.few_written

  abbrev pub links_after : List Link
  links_after = set b.links p (handed_out_on h (link_in b.links p))

  abbrev pub state_after : Tracked → Option Sent → ℕ → State
  state_after v f n = record s { links = set s.links p c'; tracked = v; fence = f; shown = n; reached = n }

  abbrev pub box_after : ℕ → Box
  box_after n = record b { links = set b.links p (handed_out_on h (link_in b.links p)); shown = n; reached = n }

  whole : (v : Tracked) (f : Option Sent) (n : ℕ) → v.room ≡ s.tracked.room → length v.trails ≡ length s.tracked.trails
      → AreQueues v s.waits.queues b.links → AreCommands (is_under_way o links_after) s.limits.cids links_after b.tasks v → ArePlaced v → AreTrails v → AreLeft v s.lane.items
      → ((before : List Standing) (a : Undue) (answer : Answer) → EachOf (IsInScope before a answer) s.tracked.commands → EachOf (IsInScope before a answer) v.commands)
      → IsFence s.limits.looks links_after f → Stands o (state_after v f n) (box_after n)
  whole v f n room trails queues commands placed on left scopes fence = record {
    sizes = record { limits = st.sizes.limits; waits = st.sizes.waits; answers = st.sizes.answers; commands = room ∙ st.sizes.commands; trails = trails ∙ st.sizes.trails };
    numbers = record { time = st.numbers.time; exp = st.numbers.exp; max = st.numbers.max; shown = refl; reached = refl; sent = st.numbers.sent };
    links = record { conns = conns_set b.links p (handed_out_on h (link_in b.links p)) within refl ∙ st.links.conns; each = pairs-set StandsFor s.links b.links p c' (handed_out_on h (link_in b.links p)) counts st.links.each };
    queues = subst (λ qs. AreQueues v qs links_after) (set-get_or s.waits.queues p [])
        (pairs-set (IsQueue v) s.waits.queues b.links p (get_or s.waits.queues p []) (handed_out_on h (link_in b.links p)) (pairs-at (IsQueue v) s.waits.queues b.links p [] (new_link 0) within queues) queues);
    commands = commands;
    placed = placed;
    trails = on;
    left = left;
    answers = answers_weaken s.limits.cids s.tracked v scopes [] s.lane.items b.undue st.answers;
    fence = fence;
  }

  kept_alive : (phase : Phase) (u : Bool) → (is_live_phase phase || (is_running_phase phase || (is_left_phase phase && u))) ≡ true → (is_live_phase phase || is_left_phase phase) ≡ true
  kept_alive Dormant u k = refl
  kept_alive Fresh u k = refl
  kept_alive Started u k = refl
  kept_alive Completed u k = absurd (false≢true k)
  kept_alive Running u k = refl
  kept_alive Gone u k = refl

  abbrev pub named : ℕ → Bool
  named ticket = is_of (λ k. k == ticket) h.out

  -- it is of no command that is kept
  module _ (none : (t : Task) → In t b.tasks → (is_live_phase t.phase || is_left_phase t.phase) ≡ true → named t.ticket ≡ false) where
    same_kept : filter (is_kept (is_under_way o links_after)) b.tasks ≡ filter (is_kept (is_under_way o b.links)) b.tasks
    same_kept = kept_same o b.links p h within opens arrived_few written_few b.tasks (λ t at left. none t at (or_right (is_live_phase t.phase) (is_left_phase t.phase) left))

    pub commands_plain : AreCommands (is_under_way o links_after) s.limits.cids links_after b.tasks s.tracked
    commands_plain =
        subst (PairsOf (IsCommand (is_under_way o links_after) s.limits.cids links_after) s.tracked.commands) (sym same_kept)
        (pairs_keep (IsCommand (is_under_way o b.links) s.limits.cids b.links) (IsCommand (is_under_way o links_after) s.limits.cids links_after) s.tracked.commands (filter (is_kept (is_under_way o b.links)) b.tasks)
        (λ c t at for k.
        let f = in_filter (is_kept (is_under_way o b.links)) b.tasks t for in
        let isnt : named c.ticket ≡ false = ap (λ n. is_of (λ m. m == n) h.out) k.ticket ∙ none t f.0 (kept_alive t.phase (is_under_way o b.links t.ticket) f.1) in
        record {
          ticket = k.ticket;
          conn = k.conn;
          unit = k.unit;
          tag = k.tag;
          numbered = k.numbered;
          phase = k.phase;
          out = out_kept o b.links p h within opens arrived_few written_few c.ticket c.conn c.last_out isnt k.out;
        }) st.commands)

    pub hand_plain : (f : Option Sent) (n : ℕ) → IsFence s.limits.looks links_after f → Stands o (state_after s.tracked f n) (box_after n)
    hand_plain f n fence = whole s.tracked f n refl refl st.queues commands_plain st.placed st.trails st.left (λ before a answer k. k) fence

  -- it is of this command
  module _ (c : Command) (kept : In c s.tracked.commands) (live : is_live c ≡ true) (conn : c.conn ≡ p) (of : h.out.ticket ≡ Some c.ticket) (stamp : Stamp)
      (stamp_here : stamp ≡ stamp_at (link_in b.links p) (length (link_in b.links p).handed))
      (none : (t : Task) → In t b.tasks → is_left_phase t.phase ≡ true → named t.ticket ≡ false) where
    names_is : (k : ℕ) → named k ≡ (c.ticket == k)
    names_is k = ap (λ (x : Option ℕ). elim x as (λ (y : Option ℕ). Bool) [ Some n ↦ n == k | None ↦ false ]) of

    same_by_place : (d : Command) → In d s.tracked.commands → d.place ≡ c.place → d ≡ c
    same_by_place d at same =
        let e : find_place c.place s.tracked ≡ Some d = ap (λ n. find_place n s.tracked) (sym same) ∙ found_there s.tracked d st.placed at in
        let f : find_place c.place s.tracked ≡ Some c = found_there s.tracked c st.placed kept in cc

    same_by_ticket : (d : Command) → In d s.tracked.commands → d.ticket ≡ c.ticket → d ≡ c
    same_by_ticket d at same =
        let apart : InOrder (λ (x y : Command). (x.ticket == c.ticket) ≡ true → (y.ticket == c.ticket) ≡ true → ⊥) s.tracked.commands =
        order-weaken (λ (x y : Command). x.ticket < y.ticket) (λ (x y : Command). (x.ticket == c.ticket) ≡ true → (y.ticket == c.ticket) ≡ true → ⊥) s.tracked.commands
        (λ x y lt here there. (let i = eqb-true x.ticket c.ticket here in let j = eqb-true y.ticket c.ticket there in omega (arith, lt, i, j))) st.placed.ascending in
        let e : find (λ (x : Command). x.ticket == c.ticket) s.tracked.commands ≡ Some d = in_find (λ (x : Command). x.ticket == c.ticket) s.tracked.commands d at (eq-eqb d.ticket c.ticket same) apart in
        let f : find (λ (x : Command). x.ticket == c.ticket) s.tracked.commands ≡ Some c = in_find (λ (x : Command). x.ticket == c.ticket) s.tracked.commands c kept (eq-eqb c.ticket c.ticket refl) apart in cc

    commands_of : AreCommands (is_under_way o links_after) s.limits.cids links_after b.tasks (handed_out c.place stamp s.tracked)
    commands_of =
        subst (PairsOf (IsCommand (is_under_way o links_after) s.limits.cids links_after) (handed_out c.place stamp s.tracked).commands) (sym (kept_same o b.links p h within opens arrived_few written_few b.tasks none))
        (pairs_turn (IsCommand (is_under_way o b.links) s.limits.cids b.links) (IsCommand (is_under_way o links_after) s.limits.cids links_after) (at_place (with_out (Some stamp)) c.place) s.tracked.commands (filter (is_kept (is_under_way o b.links)) b.tasks)
        turned st.commands)
      where
        turned : (d : Command) (t : Task) → In d s.tracked.commands → In t (filter (is_kept (is_under_way o b.links)) b.tasks) → IsCommand (is_under_way o b.links) s.limits.cids b.links d t
            → IsCommand (is_under_way o links_after) s.limits.cids links_after (at_place (with_out (Some stamp)) c.place d) t
        turned d t at for k = elim (is_at c.place d) as (λ w. is_at c.place d ≡ w → IsCommand (is_under_way o links_after) s.limits.cids links_after (cond w (with_out (Some stamp) d) d) t) [
          | true ↦ λ here.
              let same : d ≡ c = same_by_place d at (eqb-true d.place c.place here) in
              let it : named d.ticket ≡ true = names_is d.ticket ∙ eq-eqb c.ticket d.ticket (sym (ap (λ (x : Command). x.ticket) same)) in
              record {
                ticket = k.ticket;
                conn = k.conn;
                unit = k.unit;
                tag = k.tag;
                numbered = k.numbered;
                phase = k.phase;
                out = subst (λ n. IsOut (is_under_way o links_after) d.ticket (link_in links_after n) (Some stamp)) (sym (ap (λ (x : Command). x.conn) same ∙ conn))
                    (out_new o b.links p h within opens arrived_few written_few d.ticket stamp it stamp_here);
              }
          | false ↦ λ there.
              let isnt : named d.ticket ≡ false = names_is d.ticket ∙ ne_eqb c.ticket d.ticket (λ same. eqb-false d.place c.place there (ap (λ (x : Command). x.place) (same_by_ticket d at (sym same)))) in
              record {
                ticket = k.ticket;
                conn = k.conn;
                unit = k.unit;
                tag = k.tag;
                numbered = k.numbered;
                phase = k.phase;
                out = out_kept o b.links p h within opens arrived_few written_few d.ticket d.conn d.last_out isnt k.out;
              }
        ] refl

    -- what went out before it
    earlier : (q : ℕ) → 1 ≤ times q (trail_at s.tracked c.conn) → out_place s.tracked q < stamp.place
    earlier q on =
        let r : OnTrail s.tracked c.conn q = on_trail s.tracked c.conn q st.trails on in
        let d : Command = r.command in
        let k = pair_of (IsCommand (is_under_way o b.links) s.limits.cids b.links) s.tracked.commands (filter (is_kept (is_under_way o b.links)) b.tasks) r.command r.kept st.commands in
        let found : find_place q s.tracked ≡ Some r.command = ap (λ n. find_place n s.tracked) (sym r.place) ∙ found_there s.tracked r.command st.placed r.kept in
        let lt = by_out (is_under_way o b.links) r.command.ticket (link_in b.links p) (r.command.last_out) r.out (subst (λ n. IsOut (is_under_way o b.links) r.command.ticket (link_in b.links n) r.command.last_out) (r.conn_is ∙ conn) k.2.out) in
        let e : out_place s.tracked q ≡ out_of (Some r.command) = ap out_of found in
        let f : stamp.place ≡ length (link_in b.links p).handed = ap (λ (x : Stamp). x.place) stamp_here in
        omega (arith, lt, e, f)

    pub hand_command : (f : Option Sent) (n : ℕ) → IsFence s.limits.looks links_after f → Stands o (state_after (handed_out c.place stamp s.tracked) f n) (box_after n)
    hand_command f n fence =
        whole (handed_out c.place stamp s.tracked) f n refl
        (length-set (map (without c.place) s.tracked.trails) (conn_at c.place s.tracked) (get_or (map (without c.place) s.tracked.trails) (conn_at c.place s.tracked) [] ++ c.place ∷ []) ∙ length-map s.tracked.trails (without c.place))
        (queues_weaken s.tracked (handed_out c.place stamp s.tracked) (place_turned stamp s.tracked c.place) s.waits.queues b.links st.queues)
        commands_of (placed_handed c.place stamp s.tracked st.placed) (trails_handed stamp s.tracked st.trails st.placed c kept earlier)
        (left_turned stamp s.tracked c.place (λ d found. ap is_live (let e : find_place c.place s.tracked ≡ Some c = found_there s.tracked c st.placed kept in let same : d ≡ c = cc in same) ∙ live) s.lane.items st.left)
        (scope_turned stamp s.tracked c.place) fence
