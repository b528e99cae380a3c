-- A PDU enters the queue of a connection in both.
use Rattle.std.proofs.Common.{◌≡◌, ℕ, ◌+◌, ◌==◌, ◌&&◌, cond, Bool, true, false, List, [], ◌∷◌, ◌++◌, set, refl, ap, sym, subst, ◌∙◌}
use Rattle.std.proofs.lemmas.List.{set-get_or}
use Rattle.iscsi_arrivals.specs.Counts.{new_counts, takes_more_by}
use Rattle.iscsi_arrivals.proofs.SinceLemmas.{takes_more_is}
use Rattle.iscsi_outbox_rules.specs.rules.Calls.{Opening}
use Rattle.iscsi_outbox_rules.specs.rules.Boxes.{Outgoing, Link, Box}
use Rattle.iscsi_outbox_rules.specs.rules.Words.{contains, has_under_way}
use Rattle.iscsi_outbox_rules.specs.rules.Queues.{append, enter as enter_box, takes_more}
use Rattle.iscsi_outbox_rules.specs.rules.Run.{new_link}
use Rattle.iscsi_outbox_state.specs.declared.waiting.Waiting.{Waiting}
use Rattle.iscsi_outbox_state.specs.Waits.{Entry, entered, entry, queue_at}
use Rattle.iscsi_outbox_steps.specs.State.{State, link_at}
use Rattle.iscsi_outbox_steps.specs.Steps.{enter, has_room, has_time, later}
use Rattle.iscsi_tracked.specs.Tracked.{Tracked}
use Rattle.iscsi_outbox_law.specs.private.Links.{IsEntry, IsQueue, pdu_of, place_of_command, sent_of, word_of}
use Rattle.iscsi_outbox_law.specs.private.Commands.{is_under_way, link_in}
use Rattle.iscsi_outbox_law.specs.private.Stands.{Stands, StandsWith}
use Rattle.iscsi_outbox_law.proofs.general.PairLemmas.{any-set, pairs-append, pairs-at}
use Rattle.iscsi_outbox_law.proofs.general.PlaceLemmas.{AreApart, IsPlace, at_place, conns_of}
use Rattle.iscsi_outbox_law.proofs.connections.Standing.{counts_at}
use Rattle.iscsi_outbox_law.proofs.connections.LinkChanges.{Moves, stands_set, stands_under}
use Rattle.iscsi_outbox_law.proofs.connections.CountChanges.{stands_queue}

-- time passes
pub stands_later : (under : ℕ → Bool) (o : Opening) (s : State) (b : Box) → StandsWith under o s b → StandsWith under o (record s { waits = record s.waits { time = s.waits.time + 1 } }) (record b { time = b.time + 1 })
stands_later under o s b h = record {
  sizes = record { limits = h.sizes.limits; waits = h.sizes.waits; answers = h.sizes.answers; commands = h.sizes.commands; trails = h.sizes.trails };
  numbers = record { time = ap (λ n. n + 1) h.numbers.time; exp = h.numbers.exp; max = h.numbers.max; shown = h.numbers.shown; reached = h.numbers.reached; sent = h.numbers.sent };
  links = h.links;
  queues = h.queues;
  commands = h.commands;
  placed = h.placed;
  trails = h.trails;
  left = h.left;
  answers = h.answers;
  fence = h.fence;
}

-- a PDU that is to enter, in both
pub record IsSame (v : Tracked) (cid : ℕ) (item : Waiting) (out : Outgoing) : Type 0 where
  pub pdu : pdu_of item.content ≡ out.pdu
  pub sent : sent_of item.content ≡ word_of out.sent
  pub takes : item.takes ≡ out.takes
  pub fenced : item.fenced ≡ out.fenced
  pub numbered : item.numbered ≡ out.numbered
  pub ends : item.ends ≡ contains out.closes cid
  pub command : item.command ≡ place_of_command v out.ticket

module _ (o : Opening) (s : State) (b : Box) (h : Stands o s b) (apart : AreApart (conns_of b.links)) (cid p : ℕ) (at : IsPlace b.links cid p) (item : Waiting) (out : Outgoing) (same : IsSame s.tracked cid item out)
    (timed : has_time s.waits ≡ true) (roomy : has_room s.waits ≡ true) where
  abbrev l : Link
  l = link_in b.links p

  abbrev out' : Outgoing
  out' = record out { time = b.time }

  abbrev steps_after : Bool → State
  steps_after v = record s { waits = cond v (entered p item s.waits) (record s.waits { time = s.waits.time + 1 }) }

  abbrev box_at : Bool → Box
  box_at v = record b { time = b.time + 1; links = set b.links p (cond v (record l { queue = l.queue ++ out' ∷ [] }) l) }

  moves : (queue : List Outgoing) → Moves l (record l { queue = queue })
  moves queue = record { conn = refl; handed = refl; stamps = λ place lt. refl; fence = λ none. none }

  new_entry : IsEntry s.tracked l.conn (entry s.waits.time item) out'
  new_entry = record {
    time = h.numbers.time;
    pdu = same.pdu;
    sent = same.sent;
    takes = same.takes;
    fenced = same.fenced;
    numbered = same.numbered;
    ends = same.ends ∙ ap (contains out.closes) (sym at.is);
    command = same.command;
  }

  entered_stands : Stands o (steps_after true) (box_at true)
  entered_stands =
      let m : Link = record l { queue = l.queue ++ out' ∷ [] } in
      let q : List Entry = queue_at s.waits p ++ entry s.waits.time item ∷ [] in
      let s0 : State = record s { waits = record s.waits { queues = set s.waits.queues p (queue_at s.waits p ++ entry s.waits.time item ∷ []) } } in
      let b0 : Box = record b { links = set b.links p (record l { queue = l.queue ++ out' ∷ [] }) } in
      stands_under (is_under_way o b.links) (is_under_way o (set b.links p (record l { queue = l.queue ++ out' ∷ [] }))) o (steps_after true) (box_at true)
      (λ t. sym (any-set (has_under_way o (λ k. k == t)) b.links p (record l { queue = l.queue ++ out' ∷ [] }) (new_link 0) refl))
      (stands_later (is_under_way o b.links) o s0 b0
      (subst (λ cs. StandsWith (is_under_way o b.links) o (record s { links = cs; waits = record s.waits { queues = set s.waits.queues p (queue_at s.waits p ++ entry s.waits.time item ∷ []) } }) b0) (set-get_or s.links p new_counts)
      (stands_set (is_under_way o b.links) o s b p (link_at s p) q m h at.within (moves (l.queue ++ out' ∷ []))
      (pairs-append (IsEntry s.tracked l.conn) (queue_at s.waits p) (entry s.waits.time item ∷ []) l.queue (out' ∷ []) (pairs-at (IsQueue s.tracked) s.waits.queues b.links p [] (new_link 0) at.within h.queues) (new_entry, tt))
      (stands_queue (link_at s p) l (counts_at (is_under_way o b.links) o s b h p at.within) (l.queue ++ out' ∷ [])))))

  passed_stands : Stands o (steps_after false) (box_at false)
  passed_stands =
      subst (λ ls. Stands o (steps_after false) (record b { time = b.time + 1; links = ls })) (sym (set-get_or b.links p (new_link 0))) (stands_later (is_under_way o b.links) o s b h)

  pub enter_stands : Stands o (enter p item s) (enter_box cid out b)
  enter_stands =
      subst (λ ls. Stands o (enter p item s) (record b { time = b.time + 1; links = ls })) (sym (at_place (append (record out { time = b.time })) b.links cid p apart at.within at.is))
      (subst (λ v. Stands o (record s { waits = cond (takes_more_by (link_at s p) && v) (entered p item s.waits) (later s.waits) }) (box_at (takes_more l))) (sym roomy)
      (subst (λ v. Stands o (record s { waits = cond (takes_more_by (link_at s p) && true) (entered p item s.waits) (cond v (record s.waits { time = s.waits.time + 1 }) s.waits) }) (box_at (takes_more l))) (sym timed)
      (subst (λ v. Stands o (record s { waits = cond (v && true) (entered p item s.waits) (record s.waits { time = s.waits.time + 1 }) }) (box_at (takes_more l))) (sym (takes_more_is (link_at s p) l (counts_at (is_under_way o b.links) o s b h p at.within)))
      (by_test (takes_more l)))))
    where
      by_test : (v : Bool) → Stands o (record s { waits = cond (v && true) (entered p item s.waits) (record s.waits { time = s.waits.time + 1 }) }) (box_at v)
      by_test true = entered_stands
      by_test false = passed_stands
