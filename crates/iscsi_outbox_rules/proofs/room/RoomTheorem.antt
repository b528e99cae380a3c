-- No more replies wait than there are places for, where requests are read while there is room.
use Rattle.std.proofs.Common.{◌≡◌, ℕ, ◌+◌, ◌≤◌, ◌<◌, ◌==◌, ◌&&◌, ◌||◌, not, cond, Bool, true, false, List, [], ◌∷◌, ◌++◌, map, drop, filter_map, count_by, Some, None, refl, ap, sym, ◌∙◌, arith, nat_lt, eq-eqb}
use Rattle.std.specs.List.{list_any}
use Rattle.std.proofs.lemmas.Bool.{cond_both, false≢true, eqb-true}
use Rattle.std.proofs.lemmas.Bool.Decides.{nat_tests}
use Rattle.std.proofs.lemmas.List.Sums.{sum_by-cons}
use Rattle.iscsi_wire.specs.Fields.{connection_of, is_immediate, opcode, request_of}
use Rattle.iscsi_rules.specs.declared.effect.Effect.{Effect}
use Rattle.iscsi_rules.specs.declared.entry.Entry.{Entry}
use Rattle.iscsi_rules.specs.declared.event.Event.{Event}
use Rattle.iscsi_rules.specs.declared.event.Event.TheVariants.{Arrive, Done}
use Rattle.iscsi_rules.specs.rules.Settings.{is_known, are_distinct}
use Rattle.iscsi_rules.specs.rules.Trace.{first_of}
use Rattle.iscsi_rules.specs.rules.Agenda.{arrival_of, belongs, items_of}
use Rattle.iscsi_rules.specs.rules.Run.{entry_of}
use Rattle.iscsi_rules.specs.promises.Order.{in_parts}
use Rattle.iscsi_rules.proofs.general.BoolLemmas.{and_parts, or_none, not_true}
use Rattle.iscsi_rules.proofs.general.CountLemmas.{one, count-cons}
use Rattle.iscsi_rules.proofs.items.Forms.{HaveForms}
use Rattle.iscsi_rules.proofs.items.FormRuns.{event_going}
use Rattle.iscsi_outbox_rules.specs.rules.Calls.{Opening, Call, Takes, Puts, Stops, Nexts, Writes, Hears, Joins, Loses, Clears}
use Rattle.iscsi_outbox_rules.specs.rules.Boxes.{Outgoing, Answer, Link, Box}
use Rattle.iscsi_outbox_rules.specs.rules.Words.{is_reply, replies_waiting, room, owing, may_take}
use Rattle.iscsi_outbox_rules.specs.rules.Queues.{at_link, append}
use Rattle.iscsi_outbox_rules.specs.rules.Items.{reply_sent}
use Rattle.iscsi_outbox_rules.specs.rules.Own.{own_outgoing}
use Rattle.iscsi_outbox_rules.specs.rules.Handing.{is_from_queue, taken_from, handed_as}
use Rattle.iscsi_outbox_rules.specs.rules.Run.{new_link, after_call, answered, waits_for_clear, cleared}
use Rattle.iscsi_outbox_rules.specs.promises.Deeds.{items_in}
use Rattle.iscsi_outbox_rules.specs.promises.Room.{Step, Happens, Other, Both, is_other, after_step, after_steps, begun, is_parting, is_read_with_room, all_are, places, RepliesFit}
use Rattle.iscsi_outbox_rules.proofs.general.EachLemmas.{EachOf}
use Rattle.iscsi_outbox_rules.proofs.general.Walks.{event_keeps}
use Rattle.iscsi_outbox_rules.proofs.general.Boxwise.{Boxwise, box_keeps}
use Rattle.iscsi_outbox_rules.proofs.closes.ClosedParts.{effects_each, Parts, event_parts}
use Rattle.iscsi_outbox_rules.proofs.aborts.ScopeConns.{KnownIn, event_known}
use Rattle.iscsi_outbox_rules.proofs.room.RoomReplies.{replies_in, replies_on, replies_undue, AreOne, one_at, fewer_at, entered_one, Quiet, sends, Few, few_walk}
use Rattle.iscsi_outbox_rules.proofs.room.RoomSends.{sending, Formed, Going, done_going, parting_going}
use Rattle.iscsi_outbox_rules.proofs.room.RoomSends.{event_going as event_sends}
use Rattle.iscsi_outbox_rules.proofs.room.RoomStored.{at_once}
use Rattle.iscsi_outbox_rules.proofs.room.RoomBound.{few_at_once}
use Rattle.iscsi_outbox_rules.proofs.room.RoomTurns.{Within, event_limits, none_limits}

-- ---- any call

abbrev never : ℕ → Bool
never c = false

all_quiet : (o : Opening) (k : ℕ) (links : List Link) → EachOf (Quiet o k never) links
all_quiet o k [] = tt
all_quiet o k (l ∷ links) = ((λ is. absurd (false≢true is)), all_quiet o k links)

clears-same : (unit : ℕ) (answers : List Answer) → replies_undue (cleared unit answers) ≡ replies_undue answers
clears-same unit [] = refl
clears-same unit (a ∷ answers) =
    let p : Answer → Bool = λ x. is_reply x.out.pdu in
    cond_both (waits_for_clear unit a) (record a { uncleared = false } ∷ answers) (a ∷ cleared unit answers) (λ xs. replies_undue xs ≡ replies_undue (a ∷ answers))
    (λ is. omega (arith, count-cons p (record a { uncleared = false }) answers, count-cons p a answers))
    (λ is. omega (arith, count-cons p a (cleared unit answers), count-cons p a answers, clears-same unit answers))

few_boxes : (o : Opening) (k : ℕ) → Boxwise o (λ ds b. Unit {0}) (Few o k never)
few_boxes o k = record {
  walk = few_walk o k never;
  numbers = λ items b exp max h. record { alone = h.alone; quiet_are = h.quiet_are; few = h.few };
  puts = λ items b conn p h.
      let out : Outgoing = record (own_outgoing p) { time = b.time } in
      record {
        alone = one_at conn (append out) (λ l. cond_both _ (record l { queue = l.queue ++ out ∷ [] }) l (λ (m : Link). m.conn ≡ l.conn) (λ is. refl) (λ is. refl)) b.links h.alone;
        quiet_are = all_quiet o k _;
        few = omega (arith, h.few, entered_one conn out b.links h.alone);
      };
  marks = λ items b conn change alike h. record {
    alone = one_at conn change (λ l. (alike l).conn) b.links h.alone;
    quiet_are = all_quiet o k _;
    few = omega (arith, h.few, fewer_at conn change (λ l. omega (arith, ap (count_by (λ (out : Outgoing). is_reply out.pdu)) (alike l).queue)) b.links);
  };
  reaches = λ items b n h. record { alone = h.alone; quiet_are = h.quiet_are; few = h.few };
  clears = λ items b unit h. record { alone = h.alone; quiet_are = h.quiet_are; few = omega (arith, h.few, clears-same unit b.undue) };
  hands = λ ds b conn g n from j h.
      let l : Link = n.link in
      let out : Outgoing = n.out in
      let gone : List Link = at_link l.conn (taken_from out) b.links in
      let push : Link → Link = λ m. record m { handed = m.handed ++ handed_as o b l out ∷ [] } in
      record {
        alone = one_at l.conn push (λ m. refl) gone (one_at l.conn (taken_from out) (λ m. cond_both (is_from_queue out) (record m { queue = drop 1 m.queue }) m (λ (x : Link). x.conn ≡ m.conn) (λ is. refl) (λ is. refl)) b.links h.alone);
        quiet_are = all_quiet o k _;
        few = omega (
          arith,
          h.few,
          fewer_at l.conn push (λ m. omega arith) gone,
          fewer_at l.conn (taken_from out) (λ m. cond_both (is_from_queue out) (record m { queue = drop 1 m.queue }) m (λ (x : Link). replies_in x ≤ replies_in m) (λ is. fewer-drop m.queue) (λ is. omega arith)) b.links,
        );
      };
}
  where
    fewer-drop : (queue : List Outgoing) → count_by (λ (out : Outgoing). is_reply out.pdu) (drop 1 queue) ≤ count_by (λ (out : Outgoing). is_reply out.pdu) queue
    fewer-drop [] = omega arith
    fewer-drop (x ∷ queue) = omega (arith, count-cons (λ (out : Outgoing). is_reply out.pdu) x queue)

-- no more replies wait after a call that takes none
record NoMore (b b' : Box) : Type 0 where
  alone : AreOne b'.links
  few : replies_waiting b' ≤ replies_waiting b

call_keeps : (o : Opening) (b : Box) (c : Call) → is_other c ≡ true → AreOne b.links → NoMore b (after_call o b c)
call_keeps o b c other alone = by_call c other (box_keeps o (λ ds b. Unit {0}) (Few o (replies_waiting b) never) (few_boxes o (replies_waiting b)) [] b c tt (record { alone = alone; quiet_are = all_quiet o (replies_waiting b) b.links; few = omega arith }))
  where
    few_of : (b' : Box) → Few o (replies_waiting b) never [] b' → NoMore b b'
    few_of b' h = record { alone = h.alone; few = omega (arith, h.few) }

    by_call : (c : Call) → is_other c ≡ true → Few o (replies_waiting b) never (items_in ((c, answered o b c) ∷ [])) (after_call o b c) → NoMore b (after_call o b c)
    by_call (Takes effects numbers) other h = absurd (false≢true other)
    by_call (Puts p) other h = few_of _ h
    by_call (Stops ticket) other h = few_of _ h
    by_call (Nexts conn) other h = few_of _ h
    by_call (Writes conn) other h = few_of _ h
    by_call (Hears conn exp_stat_sn tag) other h = few_of _ h
    by_call (Joins conn stat_sn) other h = few_of _ h
    by_call (Loses conn) other h = few_of _ h
    by_call (Clears unit) other h = few_of _ h

-- ---- an event

module _ (o : Opening) where
  -- a session and its outbox, and what stands of them
  pub record Stands (s : Both) : Type 0 where
    pub within : Within o.session s.trace
    pub forms : HaveForms o.session s.event s.trace
    pub known : KnownIn o.session s.trace
    pub alone : AreOne s.box.links
    pub few : replies_waiting s.box + at_once s.trace ≤ places o

  -- an event comes with so many more at the most, and replies to these connections don't wait
  pub record Comes (s : Both) (e : Event) : Type 0 where
    pub more : ℕ
    pub quiet : ℕ → Bool
    pub mine : belongs o.session e ≡ true
    pub quiet_are : EachOf (Quiet o (replies_waiting s.box) quiet) s.box.links
    pub going : Going o.session quiet more s.trace (items_of o.session s.event s.trace e)
    pub fits : replies_waiting s.box + at_once s.trace + more ≤ places o

  -- what its parts send is what its items send
  pub sent_by_parts : (s : Both) (e : Event) (c : Comes s e) → sends o (replies_waiting s.box) c.quiet (in_parts (entry_of o.session s.event s.trace e).effects) ≡ sending o.session c.quiet (effects_each o.session s.trace (items_of o.session s.event s.trace e))
  sent_by_parts s e c = by_lead parts.lead (in_parts (entry_of o.session s.event s.trace e).effects) parts.are
    where
      parts : Parts o.session s.trace (items_of o.session s.event s.trace e)
      parts = event_parts o.session (Formed o.session c.quiet) (λ t item x. x) s.event s.trace e c.going.each

      by_lead : (v : Bool) (ps : List (List Effect)) → ps ≡ cond v ([] ∷ effects_each o.session s.trace (items_of o.session s.event s.trace e)) (effects_each o.session s.trace (items_of o.session s.event s.trace e))
          → sends o (replies_waiting s.box) c.quiet ps ≡ sending o.session c.quiet (effects_each o.session s.trace (items_of o.session s.event s.trace e))
      by_lead true ps is = ap (sends o (replies_waiting s.box) c.quiet) is ∙ first (effects_each o.session s.trace (items_of o.session s.event s.trace e))
        where
          first : (rest : List (List Effect)) → sends o (replies_waiting s.box) c.quiet ([] ∷ rest) ≡ sending o.session c.quiet rest
          first rest = omega (arith, count-cons (λ (es : List Effect). elim (first_of (filter_map reply_sent es)) [ Some sent ↦ not (c.quiet sent.0) | None ↦ false ]) [] rest)
      by_lead false ps is = ap (sends o (replies_waiting s.box) c.quiet) is

  -- what is taken of an event leaves no more than so many more
  taken : (s : Both) (e : Event) → Comes s e → Stands s → Stands (after_step o s (Happens e))
  taken s e c h =
      let w : ℕ = replies_waiting s.box in
      let entry : Entry = entry_of o.session s.event s.trace e in
      let f : Few o w c.quiet (in_parts entry.effects) (after_call o s.box (Takes entry.effects entry.numbers))
      = event_keeps o (Few o w c.quiet) (few_walk o w c.quiet) (λ items b exp max h. record { alone = h.alone; quiet_are = h.quiet_are; few = h.few }) [] s.box entry.effects entry.numbers (record { alone = h.alone; quiet_are = c.quiet_are; few = omega arith }) in
      record {
        within = event_limits o.session s.event s.trace e h.within;
        forms = event_going o.session s.event s.trace e h.forms;
        known = event_known o.session s.event s.trace e c.mine h.known;
        alone = f.alone;
        few = omega (arith, f.few, c.going.less, c.fits, sent_by_parts s e c);
      }

  -- where all connections with a CID are lost
  lost_quiet : (k : ℕ) (conn : ℕ) (links : List Link) → count_by (λ (l : Link). l.conn == conn) links ≤ 1 → list_any (λ (l : Link). l.conn == conn && l.lost) links ≡ true → EachOf (Quiet o k (λ c. c == conn)) links
  lost_quiet k conn [] few some = tt
  lost_quiet k conn (l ∷ links) few some =
      elim (l.conn == conn) as (λ v. (l.conn == conn) ≡ v → ((v && l.lost) || list_any (λ (m : Link). m.conn == conn && m.lost) links) ≡ true → (v ≡ true → l.lost ≡ true) × EachOf (Quiet o k (λ c. c == conn)) links) [
        | true ↦ λ is here.
            let none : count_by (λ (m : Link). m.conn == conn) links ≤ 0 = omega (arith, few, count-cons (λ (m : Link). m.conn == conn) l links, ap one is) in
            ((λ same. by_lost l.lost (none_any links none) here), no_other links none)
        | false ↦ λ is later. ((λ same. absurd (false≢true same)), lost_quiet k conn links (omega (arith, few, count-cons (λ (m : Link). m.conn == conn) l links)) later)
      ] refl some
    where
      none_any : (ms : List Link) → count_by (λ (m : Link). m.conn == conn) ms ≤ 0 → list_any (λ (m : Link). m.conn == conn && m.lost) ms ≡ false
      none_any [] h = refl
      none_any (m ∷ ms) h =
          let all : count_by (λ (x : Link). x.conn == conn) (m ∷ ms) ≡ one (m.conn == conn) + count_by (λ (x : Link). x.conn == conn) ms = count-cons (λ (x : Link). x.conn == conn) m ms in
          elim (m.conn == conn) as (λ v. one (m.conn == conn) ≡ one v → ((v && m.lost) || list_any (λ (x : Link). x.conn == conn && x.lost) ms) ≡ false) [
            | true ↦ λ is. absurd (omega (arith, all, is, h))
            | false ↦ λ is. none_any ms (omega (arith, all, h))
          ] refl

      no_other : (ms : List Link) → count_by (λ (m : Link). m.conn == conn) ms ≤ 0 → EachOf (Quiet o k (λ c. c == conn)) ms
      no_other [] h = tt
      no_other (m ∷ ms) h =
          let all : count_by (λ (x : Link). x.conn == conn) (m ∷ ms) ≡ one (m.conn == conn) + count_by (λ (x : Link). x.conn == conn) ms = count-cons (λ (x : Link). x.conn == conn) m ms in
          ((λ same. absurd (omega (arith, all, ap one same, h))), no_other ms (omega (arith, all, h)))

      by_lost : (v : Bool) → list_any (λ (m : Link). m.conn == conn && m.lost) links ≡ false → (v || list_any (λ (m : Link). m.conn == conn && m.lost) links) ≡ true → v ≡ true
      by_lost true none here = refl
      by_lost false none here = absurd (false≢true (sym none ∙ here))

  arrives : (s : Both) (conn : ℕ) (header : List ℕ) → is_read_with_room o s (Happens (Arrive conn header)) ≡ true → Stands s → Comes s (Arrive conn header)
  arrives s conn header read h =
      let parts = and_parts (is_known conn o.session.conns) (may_take o s.box || is_parting s (request_of conn header)) read in
      by_room (may_take o s.box) refl parts.0 parts.1
    where
      by_room : (v : Bool) → may_take o s.box ≡ v → is_known conn o.session.conns ≡ true → (v || is_parting s (request_of conn header)) ≡ true → Comes s (Arrive conn header)
      by_room true is mine any =
          let fits = and_parts (nat_lt (replies_waiting s.box) (room o)) (nat_lt (owing o s.box) (room o)) is in
          let below : nat_lt (replies_waiting s.box) (room o) ≡ true = fits.0 in
          let less : replies_waiting s.box < room o = grind (arith, nat_tests) in
          record {
            more = 1;
            quiet = never;
            mine = mine;
            quiet_are = all_quiet o (replies_waiting s.box) s.box.links;
            going = event_sends o.session never s.event s.trace (Arrive conn header);
            fits = omega (arith, less, few_at_once o.session s.trace s.event h.forms h.within h.known);
          }
      by_room false is mine parted =
          let r = request_of conn header in
          let first = and_parts (is_immediate r && opcode r == 0x06) (list_any (λ (l : Link). l.conn == connection_of r && l.lost) s.box.links) parted in
          let second = and_parts (is_immediate r) (opcode r == 0x06) first.0 in
          record {
            more = 0;
            quiet = λ c. c == conn;
            mine = mine;
            quiet_are = lost_quiet (replies_waiting s.box) conn s.box.links (h.alone conn) first.1;
            going = parting_going o.session (λ c. c == conn) s.trace (arrival_of o.session s.event s.trace r) second.0 (eqb-true (opcode r) 6 second.1) (eq-eqb conn conn refl);
            fits = omega (arith, h.few);
          }

  pub comes : (s : Both) (e : Event) → is_read_with_room o s (Happens e) ≡ true → Stands s → Comes s e
  comes s (Arrive conn header) read h = arrives s conn header read h
  comes s (Done ticket status) read h = record {
    more = 0;
    quiet = never;
    mine = refl;
    quiet_are = all_quiet o (replies_waiting s.box) s.box.links;
    going = done_going o.session never s.event s.trace ticket status;
    fits = omega (arith, h.few);
  }

  pub step_stands : (s : Both) (step : Step) → is_read_with_room o s step ≡ true → Stands s → Stands (after_step o s step)
  step_stands s (Happens e) read h = taken s e (comes s e read h) h
  step_stands s (Other c) read h =
      let n : NoMore s.box (after_call o s.box c) = call_keeps o s.box c read h.alone in
      record { within = h.within; forms = h.forms; known = h.known; alone = n.alone; few = omega (arith, n.few, h.few) }

  steps_stand : (s : Both) (steps : List Step) → all_are (is_read_with_room o) o s steps ≡ true → Stands s → Stands (after_steps o s steps)
  steps_stand s [] all h = h
  steps_stand s (step ∷ steps) all h =
      let parts = and_parts (is_read_with_room o s step) (all_are (is_read_with_room o) o (after_step o s step) steps) all in
      steps_stand (after_step o s step) steps parts.1 (step_stands s step parts.0 h)

  -- ---- before any step

  none_known : (x : ℕ) (cs : List (ℕ × ℕ)) → is_known x cs ≡ false → count_by (λ (l : Link). l.conn == x) (map (λ (c : ℕ × ℕ). new_link c.0) cs) ≤ 0
  none_known x [] h = omega arith
  none_known x (c ∷ cs) h =
      let parts = or_none (c.0 == x) (is_known x cs) h in
      omega (arith, count-cons (λ (l : Link). l.conn == x) (new_link c.0) (map (λ (d : ℕ × ℕ). new_link d.0) cs), ap one parts.0, none_known x cs parts.1)

  pub all_alone : (cs : List (ℕ × ℕ)) → are_distinct cs ≡ true → AreOne (map (λ (c : ℕ × ℕ). new_link c.0) cs)
  all_alone [] h x = omega arith
  all_alone (c ∷ cs) h x =
      let parts = and_parts (not (is_known c.0 cs)) (are_distinct cs) h in
      let all : count_by (λ (l : Link). l.conn == x) (new_link c.0 ∷ map (λ (d : ℕ × ℕ). new_link d.0) cs) ≡ one (c.0 == x) + count_by (λ (l : Link). l.conn == x) (map (λ (d : ℕ × ℕ). new_link d.0) cs)
      = count-cons (λ (l : Link). l.conn == x) (new_link c.0) (map (λ (d : ℕ × ℕ). new_link d.0) cs) in
      elim (c.0 == x) as (λ v. (c.0 == x) ≡ v → one (c.0 == x) ≡ one v → count_by (λ (l : Link). l.conn == x) (new_link c.0 ∷ map (λ (d : ℕ × ℕ). new_link d.0) cs) ≤ 1) [
        | true ↦ λ is same. omega (arith, all, same, none_known x cs (ap (λ n. is_known n cs) (sym (eqb-true c.0 x is)) ∙ not_true (is_known c.0 cs) parts.0))
        | false ↦ λ is same. omega (arith, all, same, all_alone cs parts.1 x)
      ] refl refl

  none_waits : (cs : List (ℕ × ℕ)) → replies_on (map (λ (c : ℕ × ℕ). new_link c.0) cs) ≤ 0
  none_waits [] = omega arith
  none_waits (c ∷ cs) = omega (arith, sum_by-cons replies_in (new_link c.0) (map (λ (d : ℕ × ℕ). new_link d.0) cs), none_waits cs)

  pub begun_stands : are_distinct o.session.conns ≡ true → Stands (begun o)
  begun_stands distinct = record {
    within = none_limits o.session;
    forms = tt;
    known = tt;
    alone = all_alone o.session.conns distinct;
    few = omega (arith, none_waits o.session.conns);
  }

  pub replies_fit : (steps : List Step) → RepliesFit o steps
  replies_fit steps distinct read =
      let h : Stands (after_steps o (begun o) steps) = steps_stand (begun o) steps read (begun_stands distinct) in
      omega (arith, h.few)
