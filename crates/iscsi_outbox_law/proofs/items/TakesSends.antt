-- A reply enters a queue, or waits in the lane until it is due.
use Rattle.std.proofs.Common.{◌≡◌, ℕ, ◌+◌, ◌*◌, ◌%◌, ◌^◌, ◌<◌, ◌==◌, ◌&&◌, ◌||◌, not, nat_lt, cond, Bool, true, false, List, [], ◌∷◌, ◌++◌, length, map, filter, count_by, set, inl, inr, refl, ap, sym, subst, ◌∙◌, arith, eq-eqb, append-nil, lt-ltb}
use Rattle.std.specs.List.{list_any}
use Rattle.std.proofs.lemmas.Bool.{and_from, and_parts, eqb-true, false≢true, true≢false}
use Rattle.std.proofs.lemmas.List.{length-map, set-get_or}
use Rattle.std.proofs.lemmas.List.Elements.{filter-append}
use Rattle.iscsi_arrivals.proofs.CountLemmas.{count-cons}
use Rattle.iscsi_arrivals.proofs.SinceLemmas.{takes_more_is}
use Rattle.iscsi_outbox_rules.specs.rules.Calls.{Opening}
use Rattle.iscsi_outbox_rules.specs.rules.Boxes.{Aim as RulesAim, Phase, Dormant, Fresh, Started, Completed, Running, Gone, Task, Outgoing, Answer, Box}
use Rattle.iscsi_outbox_rules.specs.rules.Words.{contains, is_left_phase, is_live_phase, is_reply, is_running_phase}
use Rattle.iscsi_outbox_rules.specs.rules.Queues.{append, enter as enter_box, takes_more}
use Rattle.iscsi_outbox_rules.specs.rules.Items.{await as await_box, is_aimed_at as is_aimed_at_task, scope_of}
use Rattle.iscsi_outbox_rules.specs.rules.Run.{new_link}
use Rattle.iscsi_outbox_rules.specs.promises.Room.{places as places_of}
use Rattle.iscsi_outbox_state.specs.declared.lane.Aim.{Aim}
use Rattle.iscsi_outbox_state.specs.declared.lane.Undue.{Undue}
use Rattle.iscsi_outbox_state.specs.declared.lane.Standing.{Standing}
use Rattle.iscsi_outbox_state.specs.declared.lane.Standing.TheVariants.{Left as IsLeft, Undue as IsUndue}
use Rattle.iscsi_outbox_state.specs.declared.waiting.Waiting.{Waiting}
use Rattle.iscsi_outbox_state.specs.Lane.{aims_at, awaited, is_command, is_left}
use Rattle.iscsi_outbox_state.specs.Waits.{entered}
use Rattle.iscsi_outbox_steps.specs.State.{State, link_at, places}
use Rattle.iscsi_outbox_steps.specs.Steps.{await, counted, enter, has_room, has_time, is_live, later}
use Rattle.iscsi_tracked.specs.declared.command.Command.{Command}
use Rattle.iscsi_outbox_law.specs.private.Pairs.{EachOf, InOrder}
use Rattle.iscsi_outbox_law.specs.private.Commands.{IsCommand, is_kept, is_under_way, link_in}
use Rattle.iscsi_outbox_law.specs.private.Lanes.{IsAnswer, is_aimed_at, left_at, left_of}
use Rattle.iscsi_outbox_law.specs.private.Stands.{Stands}
use Rattle.iscsi_outbox_law.proofs.general.Members.{In, any_found, any_from, in_filter, pair_of, same_tests}
use Rattle.iscsi_outbox_law.proofs.general.PlaceLemmas.{AreApart, IsPlace, any_at, at_place, conns_of}
use Rattle.iscsi_outbox_law.proofs.connections.Standing.{counts_at}
use Rattle.iscsi_outbox_law.proofs.queues.Waiting.{answers_counted, live_as}
use Rattle.iscsi_outbox_law.proofs.commands.Homes.{one_task}
use Rattle.iscsi_outbox_law.proofs.commands.LeftOut.{found_there}
use Rattle.iscsi_outbox_law.proofs.queues.Entering.{IsSame, enter_stands, stands_later}
use Rattle.iscsi_outbox_law.proofs.queues.Settling.{all_replies, answers_append}

-- a word that is counted on is that of the next number
next_word : (n : ℕ) → (n % 2 ^ 64 + 1) % 2 ^ 64 ≡ (n + 1) % 2 ^ 64
next_word n = omega arith

-- one reply more is counted in both
pub stands_sent : (o : Opening) (s : State) (b : Box) → Stands o s b → Stands o (counted s) (record b { sent = b.sent + 1 })
stands_sent o s b h = record {
  sizes = record { limits = h.sizes.limits; waits = h.sizes.waits; answers = h.sizes.answers; commands = h.sizes.commands; trails = h.sizes.trails };
  numbers = record {
    time = h.numbers.time;
    exp = h.numbers.exp;
    max = h.numbers.max;
    shown = h.numbers.shown;
    reached = h.numbers.reached;
    sent = ap (λ n. (n + 1) % 2 ^ 64) h.numbers.sent ∙ next_word b.sent;
  };
  links = h.links;
  queues = h.queues;
  commands = h.commands;
  placed = h.placed;
  trails = h.trails;
  left = h.left;
  answers = h.answers;
  fence = h.fence;
}

-- ---- a queue

module _ (o : Opening) (s : State) (b : Box) (h : Stands o s b) (apart : AreApart (conns_of b.links)) (cid p : ℕ) (at : IsPlace b.links cid p) where
  -- room is needed only where it is taken
  pub reply_enters : (item : Waiting) (out : Outgoing) → IsSame s.tracked cid item out → has_time s.waits ≡ true → (takes_more (link_in b.links p) ≡ true → has_room s.waits ≡ true) → Stands o (enter p item s) (enter_box cid out b)
  reply_enters item out same timed roomy = by_test (takes_more (link_in b.links p)) refl
    where
      by_test : (v : Bool) → takes_more (link_in b.links p) ≡ v → Stands o (enter p item s) (enter_box cid out b)
      by_test true is = enter_stands o s b h apart cid p at item out same timed (roomy is)
      by_test false is =
          subst (λ ls. Stands o (enter p item s) (record b { time = b.time + 1; links = ls })) (sym unchanged)
          (subst (λ v. Stands o (record s { waits = cond (v && has_room s.waits) (entered p item s.waits) (later s.waits) }) (record b { time = b.time + 1 })) (sym (takes_more_is (link_at s p) (link_in b.links p) (counts_at (is_under_way o b.links) o s b h p at.within) ∙ is))
          (subst (λ v. Stands o (record s { waits = cond v (record s.waits { time = s.waits.time + 1 }) s.waits }) (record b { time = b.time + 1 })) (sym timed) (stands_later (is_under_way o b.links) o s b h)))
        where
          unchanged : (enter_box cid out b).links ≡ b.links
          unchanged =
              at_place (append (record out { time = b.time })) b.links cid p apart at.within at.is
              ∙ ap (λ (v : Bool). set b.links p (cond v (record (link_in b.links p) { queue = (link_in b.links p).queue ++ record out { time = b.time } ∷ [] }) (link_in b.links p))) is
              ∙ set-get_or b.links p (new_link 0)

-- ---- the lane

answer_quiet : (place : ℕ) (items : List Standing) (a : Undue) → filter (is_command place) (items ++ IsUndue a ∷ []) ≡ filter (is_command place) items
answer_quiet place items a = filter-append (is_command place) items (IsUndue a ∷ []) ∙ append-nil (filter (is_command place) items)

answer_counted : (items : List Standing) (a : Undue) → count_by is_left (items ++ IsUndue a ∷ []) ≡ count_by is_left items
answer_counted [] a = count-cons is_left (IsUndue a) []
answer_counted (x ∷ items) a = count-cons is_left x (items ++ IsUndue a ∷ []) ∙ ap (λ n. cond (is_left x) 1 0 + n) (answer_counted items a) ∙ sym (count-cons is_left x items)

module _ (o : Opening) (s : State) (b : Box) (h : Stands o s b) (apart : AreApart (conns_of b.links)) (p : ℕ) (a : Undue) (answer : Answer) (at : IsPlace b.links answer.conn p) (is : IsAnswer s.limits.cids s.tracked s.lane.items a answer) where
  waited_stands : Stands o (record s { lane = awaited a s.lane }) (record b { undue = b.undue ++ answer ∷ [] })
  waited_stands = record {
    sizes = record { limits = h.sizes.limits; waits = h.sizes.waits; answers = h.sizes.answers; commands = h.sizes.commands; trails = h.sizes.trails };
    numbers = record { time = h.numbers.time; exp = h.numbers.exp; max = h.numbers.max; shown = h.numbers.shown; reached = h.numbers.reached; sent = h.numbers.sent };
    links = h.links;
    queues = h.queues;
    commands = h.commands;
    placed = h.placed;
    trails = h.trails;
    left = record { each = λ place. answer_quiet place s.lane.items a ∙ h.left.each place; counted = answer_counted s.lane.items a ∙ h.left.counted };
    answers = answers_append s.limits.cids s.tracked [] s.lane.items (IsUndue a ∷ []) b.undue (answer ∷ []) h.answers (is, tt);
    fence = h.fence;
  }

  pub await_stands : (takes_more (link_in b.links p) ≡ true → length b.undue < places_of o) → Stands o (await p a s) (await_box answer b)
  await_stands roomy =
      subst (λ v. Stands o (await p a s) (cond v (record b { undue = b.undue ++ answer ∷ [] }) b)) (sym (any_at takes_more b.links answer.conn p apart at.within at.is))
      (subst (λ v. Stands o (cond (v && nat_lt waiting s.lane.answers) (record s { lane = awaited a s.lane }) s) (cond (takes_more (link_in b.links p)) (record b { undue = b.undue ++ answer ∷ [] }) b))
      (sym (takes_more_is (link_at s p) (link_in b.links p) (counts_at (is_under_way o b.links) o s b h p at.within))) (by_test (takes_more (link_in b.links p)) refl))
    where
      waiting : ℕ
      waiting = count_by (λ x. not (is_left x)) s.lane.items

      counted : waiting ≡ length b.undue
      counted =
          answers_counted s.limits.cids s.tracked (λ x. not (is_left x)) (λ (x : Answer). is_reply x.out.pdu) (λ c. refl) (λ before x y k. sym (ap is_reply k.pdu)) [] s.lane.items b.undue h.answers
          ∙ all_replies s.limits.cids s.tracked [] s.lane.items b.undue h.answers

      room_is : s.lane.answers ≡ places_of o
      room_is = h.sizes.answers ∙ ap places h.sizes.limits ∙ many
        where
          many : places (record s.limits { cids = map (λ (c : ℕ × ℕ). c.0) o.session.conns; window = o.session.window }) ≡ places_of o
          many = ap (λ n. 3 * (o.session.window + 12 * n)) (length-map o.session.conns (λ (c : ℕ × ℕ). c.0))

      by_test : (v : Bool) → takes_more (link_in b.links p) ≡ v → Stands o (cond (v && nat_lt waiting s.lane.answers) (record s { lane = awaited a s.lane }) s) (cond v (record b { undue = b.undue ++ answer ∷ [] }) b)
      by_test false it = h
      by_test true it =
          subst (λ v. Stands o (cond v (record s { lane = awaited a s.lane }) s) (record b { undue = b.undue ++ answer ∷ [] }))
          (sym (lt-ltb waiting s.lane.answers (let few = roomy it in let e = counted in let f = room_is in omega (arith, few, e, f)))) waited_stands

-- ---- the scope

scope_any : (n : ℕ) (test : Task → Bool) (ts : List Task) → contains (map (λ (t : Task). t.ticket) (filter test ts)) n ≡ list_any (λ (t : Task). test t && t.ticket == n) ts
scope_any n test [] = refl
scope_any n test (t ∷ ts) =
    let rest = scope_any n test ts in
    elim (test t) as (λ v. contains (map (λ (u : Task). u.ticket) (cond v (t ∷ filter test ts) (filter test ts))) n ≡ ((v && t.ticket == n) || list_any (λ (u : Task). test u && u.ticket == n) ts)) [
      | true ↦ ap (λ (w : Bool). (t.ticket == n) || w) rest
      | false ↦ rest
    ]

scope_one : (ts : List Task) (t : Task) (test : Task → Bool) → InOrder (λ (x y : Task). x.ticket < y.ticket) ts → In t ts → contains (map (λ (u : Task). u.ticket) (filter test ts)) t.ticket ≡ test t
scope_one ts t test order at =
    scope_any t.ticket test ts
    ∙ same_tests (list_any (λ (u : Task). test u && u.ticket == t.ticket) ts) (test t)
    (λ some.
    let k : (u : Task) × In u ts × ((test u && u.ticket == t.ticket) ≡ true) = any_found (λ (u : Task). test u && u.ticket == t.ticket) ts some in
    let parts = and_parts (test k.0) (k.0.ticket == t.ticket) k.2 in
    sym (ap test (one_task ts k.0 t order k.1 at (eqb-true k.0.ticket t.ticket parts.1))) ∙ parts.0)
    (λ is. any_from (λ (u : Task). test u && u.ticket == t.ticket) ts t at (and_from (test t) (t.ticket == t.ticket) is (eq-eqb t.ticket t.ticket refl)))

aimed_among : (aim : Aim) (place : ℕ) (items : List Standing) → list_any (is_aimed_at aim place) items ≡ list_any (is_aimed_at aim place) (filter (is_command place) items)
aimed_among aim place [] = refl
aimed_among aim place (IsUndue a ∷ items) = aimed_among aim place items
aimed_among aim place (IsLeft d ∷ items) =
    let rest = aimed_among aim place items in
    elim (d.command == place) as (λ w. (d.command == place) ≡ w → ((w && aims_at aim d) || list_any (is_aimed_at aim place) items) ≡ list_any (is_aimed_at aim place) (cond w (IsLeft d ∷ filter (is_command place) items) (filter (is_command place) items))) [
      | true ↦ λ here. ap (λ (w : Bool). aims_at aim d || w) rest ∙ sym (ap (λ (w : Bool). (w && aims_at aim d) || list_any (is_aimed_at aim place) (filter (is_command place) items)) here)
      | false ↦ λ there. rest
    ] refl

gone_left : (p : Phase) (u : Bool) → (is_live_phase p || (is_running_phase p || (is_left_phase p && u))) ≡ true → is_live_phase p ≡ false → is_left_phase p ≡ true
gone_left Dormant u kept dead = absurd (true≢false dead)
gone_left Fresh u kept dead = absurd (true≢false dead)
gone_left Started u kept dead = absurd (true≢false dead)
gone_left Completed u kept dead = absurd (false≢true kept)
gone_left Running u kept dead = refl
gone_left Gone u kept dead = refl

module _ (o : Opening) (s : State) (b : Box) (h : Stands o s b) (ascending : InOrder (λ (t u : Task). t.ticket < u.ticket) b.tasks) (aim : Aim) (other : RulesAim) (conns : List ℕ)
    (alike : (d : Command) (t : Task) → IsCommand (is_under_way o b.links) s.limits.cids b.links d t → aims_at aim (left_of d) ≡ is_aimed_at_task other conns t) where
  -- what stands in the lane, and is aimed at, is the scope of a new answer
  pub scope_is : EachOf (λ (d : Command). is_live d ≡ false → contains (scope_of b other conns) d.ticket ≡ list_any (is_aimed_at aim d.place) s.lane.items) s.tracked.commands
  scope_is = all_in s.tracked.commands (λ d at. at)
    where
      one : (d : Command) → In d s.tracked.commands → is_live d ≡ false → contains (scope_of b other conns) d.ticket ≡ list_any (is_aimed_at aim d.place) s.lane.items
      one d at dead =
          let k : (t : Task) × In t (filter (is_kept (is_under_way o b.links)) b.tasks) × IsCommand (is_under_way o b.links) s.limits.cids b.links d t =
          pair_of (IsCommand (is_under_way o b.links) s.limits.cids b.links) s.tracked.commands (filter (is_kept (is_under_way o b.links)) b.tasks) d at h.commands in
          let f = in_filter (is_kept (is_under_way o b.links)) b.tasks k.0 k.1 in
          let left : is_left_phase k.0.phase ≡ true = gone_left k.0.phase (is_under_way o b.links k.0.ticket) f.1 (sym (live_as d k.0 k.2.phase) ∙ dead) in
          ap (contains (scope_of b other conns)) k.2.ticket ∙ scope_one b.tasks k.0 (λ (t : Task). is_left_phase t.phase && is_aimed_at_task other conns t) ascending f.0
          ∙ ap (λ (w : Bool). w && is_aimed_at_task other conns k.0) left ∙ sym (alike d k.0 k.2)
          ∙ sym (aimed_among aim d.place s.lane.items ∙ ap (list_any (is_aimed_at aim d.place)) (h.left.each d.place ∙ ap left_at (found_there s.tracked d h.placed at) ∙ ap (λ (w : Bool). cond w [] (IsLeft (left_of d) ∷ [])) dead)
          ∙ ap (λ (w : Bool). (w && aims_at aim (left_of d)) || false) (eq-eqb d.place d.place refl) ∙ or_no (aims_at aim (left_of d)))
        where
          or_no : (w : Bool) → (w || false) ≡ w
          or_no true = refl
          or_no false = refl

      all_in : (ds : List Command) → ((d : Command) → In d ds → In d s.tracked.commands) → EachOf (λ (d : Command). is_live d ≡ false → contains (scope_of b other conns) d.ticket ≡ list_any (is_aimed_at aim d.place) s.lane.items) ds
      all_in [] among = tt
      all_in (d ∷ ds) among = (one d (among d (inl refl)), all_in ds (λ e at. among e (inr at)))
