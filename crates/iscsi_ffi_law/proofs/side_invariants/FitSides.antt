-- What holds of a session and its outbox behind so many calls, each call keeps.
use Rattle.std.proofs.Common.{◌≡◌, ℕ, ◌+◌, ◌≤◌, cond, Bool, true, false, List, [], ◌∷◌, map, length, filter_map, Option, Some, None, refl, ap, ◌∙◌, arith, nat_lt, max, length-append}
use Rattle.std.proofs.lemmas.Bool.{cond_both, false≢true}
use Rattle.iscsi_wire.specs.declared.reply.Reply.{Reply}
use Rattle.iscsi_rules.specs.declared.effect.Effect.{Effect}
use Rattle.iscsi_rules.specs.declared.event.Event.{Event}
use Rattle.iscsi_rules.specs.promises.Order.{in_parts}
use Rattle.iscsi_rules.specs.rules.Agenda.{items_of}
use Rattle.iscsi_rules.specs.rules.Run.{entry_of}
use Rattle.iscsi_rules.specs.rules.Trace.{Trace, after_items, first_of}
use Rattle.iscsi_rules.proofs.general.CountLemmas.{count-cons, one}
use Rattle.iscsi_outbox_rules.specs.rules.Boxes.{Link}
use Rattle.iscsi_outbox_rules.specs.rules.Calls.{Call, Clears, Hears, Joins, Loses, Nexts, Opening, Puts, Stops, Takes, Writes}
use Rattle.iscsi_outbox_rules.specs.rules.Items.{reply_sent}
use Rattle.iscsi_outbox_rules.specs.rules.Run.{after_call, arrived_by_ping, arrived_by_stat_sn, new_link}
use Rattle.iscsi_outbox_rules.specs.rules.Words.{is_open}
use Rattle.iscsi_outbox_rules.specs.promises.Room.{Both, Happens, Other, after_step, begun, is_other, is_read_with_room}
use Rattle.iscsi_outbox_rules.proofs.closes.ClosedParts.{Parts, effects_each, event_parts}
use Rattle.iscsi_outbox_rules.proofs.room.RoomSends.{Formed, Going, event_going, sending}
use Rattle.iscsi_outbox_rules.proofs.room.RoomStored.{at_once}
use Rattle.iscsi_outbox_law.specs.private.Pairs.{EachOf}
use Rattle.iscsi_outbox_law.proofs.general.PairLemmas.{each-new, each-weaken}
use Rattle.iscsi_outbox_law.proofs.general.PlaceLemmas.{conns_of}
use Rattle.iscsi_outbox_law.proofs.invariants.SoundCalls.{TakesNone}
use Rattle.iscsi_ffi_law.proofs.outbox_invariants.FitFollows.{each_call}
use Rattle.iscsi_ffi_law.proofs.outbox_invariants.FitLinks.{IsCallRule, IsCloseRule, IsPlain, IsQueueRule, moved_call, moved_each, moved_event, moved_next, moved_view}
use Rattle.iscsi_ffi_law.proofs.outbox_invariants.FitNumbers.{all_sends, call_sent, call_spent, event_sent, event_spent, one_sent, spent}
use Rattle.iscsi_ffi_law.proofs.outbox_invariants.FitReached.{Reached, reached_begun, reached_step}

-- ---- what the session has at once

-- what an event sends, with what there is at once then, is one more at the most
module _ (o : Opening) where
  abbrev never : ℕ → Bool
  never c = false

  all_sent : (items : List (List Effect)) → sending o.session never items ≡ all_sends items
  all_sent [] = refl
  all_sent (item ∷ items) =
      let first = count-cons (λ (es : List Effect). elim (first_of (filter_map reply_sent es)) [ Some sent ↦ true | None ↦ false ]) item items in
      omega (arith, first, by_first (first_of (filter_map reply_sent item)), all_sent items)
    where
      by_first : (x : Option (ℕ × Reply)) → one (elim x [ Some sent ↦ true | None ↦ false ]) ≡ one_sent x
      by_first (Some sent) = refl
      by_first None = refl

  pub each_sends : (now : ℕ) (t : Trace) (e : Event) → all_sends (effects_each o.session t (items_of o.session now t e)) + at_once (after_items (items_of o.session now t e) t) ≤ at_once t + 1
  each_sends now t e = omega (arith, all_sent (effects_each o.session t (items_of o.session now t e)), less)
    where
      less : at_once (after_items (items_of o.session now t e) t) + sending o.session never (effects_each o.session t (items_of o.session now t e)) ≤ at_once t + 1
      less = (event_going o.session never now t e).less

  pub event_sends : (now : ℕ) (t : Trace) (e : Event) → all_sends (in_parts (entry_of o.session now t e).effects) + at_once (after_items (items_of o.session now t e) t) ≤ at_once t + 1
  event_sends now t e = omega (arith, by_lead parts.lead (in_parts (entry_of o.session now t e).effects) parts.are, each_sends now t e)
    where
      going : Going o.session never 1 t (items_of o.session now t e)
      going = event_going o.session never now t e

      parts : Parts o.session t (items_of o.session now t e)
      parts = event_parts o.session (Formed o.session never) (λ u item x. x) now t e going.each

      by_lead : (v : Bool) (ps : List (List Effect)) → ps ≡ cond v ([] ∷ effects_each o.session t (items_of o.session now t e)) (effects_each o.session t (items_of o.session now t e)) → all_sends ps ≡ all_sends (effects_each o.session t (items_of o.session now t e))
      by_lead true ps is = let e = ap all_sends is in omega (arith, e)
      by_lead false ps is = ap all_sends is

-- ---- behind so many calls

pub record IsGood (o : Opening) (n : ℕ) (b : Both) : Type 0 where
  pub reached : Reached o b
  pub spent_is : spent b.box ≤ b.box.sent + n
  pub sent_is : b.box.sent + at_once b.trace ≤ b.event
  pub few : EachOf (λ (l : Link). length l.handed ≤ n) b.box.links
  pub conns : conns_of b.box.links ≡ map (λ (c : ℕ × ℕ). c.0) o.session.conns
  pub emptied : EachOf (λ (l : Link). l.cut ≡ true → l.queue ≡ []) b.box.links

-- its CID, and what was handed out, stay
abbrev pub Stays : Link → Link → Type 0
Stays l m = (m.conn ≡ l.conn) × (m.handed ≡ l.handed)

stays_queue : IsQueueRule Stays
stays_queue = record { same = λ l. (refl, refl); queued = λ l queue may. (refl, refl); then = λ l m n f g. (g.0 ∙ f.0, g.1 ∙ f.1) }

pub stays_close : IsCloseRule Stays
stays_close = record { queue = stays_queue; closed = λ l. (refl, refl); cut = λ l. (refl, refl) }

pub stays_call : IsCallRule Stays
stays_call = record {
  kept = record {
    queue = stays_queue;
    written = λ l. cond_both (nat_lt l.written (length l.handed)) (record l { written = l.written + 1 }) l (Stays l) (λ may. (refl, refl)) (λ may. (refl, refl));
    heard = λ exp_stat_sn tag l. cond_both (is_open l) (record l { arrived = max l.arrived (max (arrived_by_stat_sn l exp_stat_sn) (arrived_by_ping l tag)) }) l (Stays l) (λ may. (refl, refl)) (λ may. (refl, refl));
    joined = λ stat_sn l. (refl, refl);
  };
  lost = λ l. (refl, refl);
}

-- what is cut has nothing that waits, if it had none
abbrev StaysEmptied : Link → Link → Type 0
StaysEmptied l m = (l.cut ≡ true → l.queue ≡ []) → m.cut ≡ true → m.queue ≡ []

emptied_queue : IsQueueRule StaysEmptied
emptied_queue = record { same = λ l h. h; queued = λ l queue may h cut. may cut (h cut); then = λ l m n f g h. g (f h) }

emptied_close : IsCloseRule StaysEmptied
emptied_close = record { queue = emptied_queue; closed = λ l h. h; cut = λ l h cut. refl }

emptied_call : IsCallRule StaysEmptied
emptied_call = record {
  kept = record {
    queue = emptied_queue;
    written = λ l. cond_both (nat_lt l.written (length l.handed)) (record l { written = l.written + 1 }) l (StaysEmptied l) (λ may h. h) (λ may h. h);
    heard = λ exp_stat_sn tag l. cond_both (is_open l) (record l { arrived = max l.arrived (max (arrived_by_stat_sn l exp_stat_sn) (arrived_by_ping l tag)) }) l (StaysEmptied l) (λ may h. h) (λ may h. h);
    joined = λ stat_sn l h. h;
  };
  lost = λ l h. h;
}

-- .. or one more was handed out
abbrev OneMore : Link → Link → Type 0
OneMore l m = (m.conn ≡ l.conn) × (length m.handed ≤ length l.handed + 1)

module _ (o : Opening) where
  pub good_begun : IsGood o 0 (begun o)
  good_begun = record {
    reached = reached_begun o;
    spent_is = omega arith;
    sent_is = omega arith;
    few = each-new (λ (l : Link). length l.handed ≤ 0) (λ (c : ℕ × ℕ). new_link c.0) o.session.conns (λ c. omega arith);
    conns = new_conns o.session.conns;
    emptied = each-new (λ (l : Link). l.cut ≡ true → l.queue ≡ []) (λ (c : ℕ × ℕ). new_link c.0) o.session.conns (λ c is. refl);
  }
    where
      new_conns : (cs : List (ℕ × ℕ)) → conns_of (map (λ (c : ℕ × ℕ). new_link c.0) cs) ≡ map (λ (c : ℕ × ℕ). c.0) cs
      new_conns [] = refl
      new_conns (c ∷ cs) = ap (λ xs. c.0 ∷ xs) (new_conns cs)

  pub good_event : (n : ℕ) (b : Both) (e : Event) → is_read_with_room o b (Happens e) ≡ true → IsGood o n b → IsGood o n (after_step o b (Happens e))
  good_event n b e read g =
      let entry = entry_of o.session b.event b.trace e in
      let way = moved_event o Stays stays_close b.box entry.effects entry.numbers in
      let goes = event_spent o b.box entry.effects entry.numbers in
      let more = event_sent o b.box entry.effects entry.numbers in
      let sends = event_sends o b.event b.trace e in
      record {
        reached = reached_step o b (Happens e) read g.reached;
        spent_is = (let s = g.spent_is in omega (arith, goes, more, s));
        sent_is = (let s = g.sent_is in omega (arith, more, sends, s));
        few = moved_each Stays (λ (l : Link). length l.handed ≤ n) (λ (l : Link). length l.handed ≤ n) b.box.links (after_step o b (Happens e)).box.links way (λ l m s le. (let same = ap length s.1 in omega (arith, same, le))) g.few;
        conns = moved_view Stays (λ (l : Link). l.conn) b.box.links (after_step o b (Happens e)).box.links way (λ l m s. s.0) ∙ g.conns;
        emptied = moved_each StaysEmptied (λ (l : Link). l.cut ≡ true → l.queue ≡ []) (λ (l : Link). l.cut ≡ true → l.queue ≡ []) b.box.links (after_step o b (Happens e)).box.links (moved_event o StaysEmptied emptied_close b.box entry.effects entry.numbers) (λ l m f k. f k) g.emptied;
      }

  plain_few : (n : ℕ) (b : Both) (c : Call) → IsPlain c → IsGood o n b
      → EachOf (λ (l : Link). length l.handed ≤ n + 1) (after_call o b.box c).links × (conns_of (after_call o b.box c).links ≡ map (λ (d : ℕ × ℕ). d.0) o.session.conns)
  plain_few n b c plain g =
      let way = moved_call o Stays stays_call b.box c plain in (
        moved_each Stays (λ (l : Link). length l.handed ≤ n) (λ (l : Link). length l.handed ≤ n + 1) b.box.links (after_call o b.box c).links way (λ l m s le. (let same = ap length s.1 in omega (arith, same, le))) g.few,
        moved_view Stays (λ (l : Link). l.conn) b.box.links (after_call o b.box c).links way (λ l m s. s.0) ∙ g.conns,
      )

  call_few : (n : ℕ) (b : Both) (c : Call) → is_other c ≡ true → IsGood o n b
      → EachOf (λ (l : Link). length l.handed ≤ n + 1) (after_call o b.box c).links × (conns_of (after_call o b.box c).links ≡ map (λ (d : ℕ × ℕ). d.0) o.session.conns)
  call_few n b (Takes effects numbers) other g = absurd (false≢true other)
  call_few n b (Puts p) other g = plain_few n b (Puts p) tt g
  call_few n b (Stops ticket) other g = plain_few n b (Stops ticket) tt g
  call_few n b (Nexts conn) other g =
      let way = moved_next o Stays OneMore stays_queue (λ l m h s. (s.0, (let same = ap length s.1 in omega (arith, same, length-append m.handed (h ∷ []))))) (λ l m s. (s.0, (let same = ap length s.1 in omega (arith, same)))) b.box conn in (
        moved_each OneMore (λ (l : Link). length l.handed ≤ n) (λ (l : Link). length l.handed ≤ n + 1) b.box.links (after_call o b.box (Nexts conn)).links way (λ l m s le. (let less = s.1 in omega (arith, less, le))) g.few,
        moved_view OneMore (λ (l : Link). l.conn) b.box.links (after_call o b.box (Nexts conn)).links way (λ l m s. s.0) ∙ g.conns,
      )
  call_few n b (Writes conn) other g = plain_few n b (Writes conn) tt g
  call_few n b (Hears conn exp_stat_sn tag) other g = plain_few n b (Hears conn exp_stat_sn tag) tt g
  call_few n b (Joins conn stat_sn) other g = plain_few n b (Joins conn stat_sn) tt g
  call_few n b (Loses conn) other g = plain_few n b (Loses conn) tt g
  call_few n b (Clears unit) other g = plain_few n b (Clears unit) tt g

  pub none_taken : (c : Call) → is_other c ≡ true → TakesNone c
  none_taken (Takes effects numbers) other = absurd (false≢true other)
  none_taken (Puts p) other = tt
  none_taken (Stops ticket) other = tt
  none_taken (Nexts conn) other = tt
  none_taken (Writes conn) other = tt
  none_taken (Hears conn exp_stat_sn tag) other = tt
  none_taken (Joins conn stat_sn) other = tt
  none_taken (Loses conn) other = tt
  none_taken (Clears unit) other = tt

  pub good_other : (n : ℕ) (b : Both) (c : Call) → is_other c ≡ true → IsGood o n b → IsGood o (n + 1) (after_step o b (Other c))
  good_other n b c other g =
      let kept = call_few n b c other g in
      let goes = call_spent o b.box c (none_taken c other) in
      let same = call_sent o b.box c (none_taken c other) in
      record {
        reached = reached_step o b (Other c) other g.reached;
        spent_is = (let s = g.spent_is in omega (arith, goes, same, s));
        sent_is = (let s = g.sent_is in omega (arith, same, s));
        few = kept.0;
        conns = kept.1;
        emptied = each_call o StaysEmptied emptied_call (λ (l : Link). l.cut ≡ true → l.queue ≡ []) (λ (l : Link). l.cut ≡ true → l.queue ≡ []) (λ l m f k. f k) (λ l m x f k. f k) b.box c (none_taken c other) g.emptied;
      }

  pub good_more : (n m : ℕ) (b : Both) → n ≤ m → IsGood o n b → IsGood o m b
  good_more n m b le g = record {
    reached = g.reached;
    spent_is = (let s = g.spent_is in omega (arith, s, le));
    sent_is = g.sent_is;
    few = each-weaken (λ (l : Link). length l.handed ≤ n) (λ (l : Link). length l.handed ≤ m) b.box.links (λ l few. omega (arith, few, le)) g.few;
    conns = g.conns;
    emptied = g.emptied;
  }
