-- What a connection is given: the same in both.
use Rattle.std.proofs.Common.{◌≡◌, ℕ, ◌<◌, ◌==◌, ◌&&◌, ◌||◌, ◌^◌, not, cond, nat_lt, nat_le, Bool, true, false, List, [], ◌∷◌, length, drop, set, Option, Some, None, refl, ap, sym, subst, ◌∙◌, lt-ltb}
use Rattle.std.specs.List.{list_all, list_any}
use Rattle.std.proofs.lemmas.List.{set-get_or}
use Rattle.iscsi_wire.specs.Serial.{wire}
use Rattle.iscsi_rules.specs.rules.Settings.{are_distinct}
use Rattle.iscsi_arrivals.specs.Counts.{is_open_by, new_counts, tag_of_ping}
use Rattle.iscsi_arrivals.specs.Standing.{StandsFor}
use Rattle.iscsi_arrivals.proofs.StandingLemmas.{open_is}
use Rattle.iscsi_outbox_rules.specs.rules.Calls.{Opening}
use Rattle.iscsi_outbox_rules.specs.rules.Boxes.{Pdu as RulesPdu, Replies, Owns, Pings, Notices, Handed as RulesHanded, Outgoing, Answer, Link, Box}
use Rattle.iscsi_outbox_rules.specs.rules.Words.{has_under_way, is_open, unwritten}
use Rattle.iscsi_outbox_rules.specs.rules.Queues.{at_link}
use Rattle.iscsi_outbox_rules.specs.rules.Handing.{chosen as chosen_by_rules, count_pings, first_waiting, given as given_by_rules, given_on as given_on_by_rules, handed_as, is_from_queue, is_over, link_of, next_stat_sn, nop_in, passes_fence, ping, taken_from, wants_notice, wants_ping, without_chosen, Given as RulesGiven, Hands as RulesHands, Nothing as RulesNothing, IsOver as RulesIsOver}
use Rattle.iscsi_outbox_rules.specs.rules.Run.{new_link}
use Rattle.iscsi_outbox_state.specs.declared.waiting.Content.{Content}
use Rattle.iscsi_outbox_state.specs.declared.waiting.Content.TheVariants.{Reply as IsReply, Own as IsOwn}
use Rattle.iscsi_outbox_state.specs.declared.waiting.Waiting.{Waiting}
use Rattle.iscsi_outbox_state.specs.Waits.{Entry, queue_at}
use Rattle.iscsi_outbox_state.specs.Lane.{goes_out_on}
use Rattle.iscsi_outbox_steps.specs.declared.given.Given.{Given}
use Rattle.iscsi_outbox_steps.specs.declared.given.Given.TheVariants.{Hands, Nothing, IsOver}
use Rattle.iscsi_outbox_steps.specs.declared.given.Handed.{Handed}
use Rattle.iscsi_outbox_steps.specs.declared.given.Pdu.{Pdu}
use Rattle.iscsi_outbox_steps.specs.State.{State, is_over as is_over_steps, link_at, max_shown as max_shown_steps, passes, place_of, wants_notice as wants_notice_steps, wants_ping as wants_ping_steps}
use Rattle.iscsi_outbox_steps.specs.Steps.{Out, Waited, Pinged, Noticed, chosen, from_queue, given, given_on, numbered, pdu_of as pdu_of_out, without}
use Rattle.iscsi_outbox_law.specs.private.Pairs.{EachOf, PairsOf}
use Rattle.iscsi_outbox_law.specs.rules.Said.{given_said, handed_said, pdu_said}
use Rattle.iscsi_outbox_law.specs.private.Links.{IsEntry, IsQueue, pdu_of, sent_of, word_of}
use Rattle.iscsi_outbox_law.specs.private.Commands.{is_under_way, link_in}
use Rattle.iscsi_outbox_law.specs.private.Sound.{IsSound}
use Rattle.iscsi_outbox_law.specs.private.Stands.{Stands, StandsWith}
use Rattle.iscsi_outbox_law.proofs.general.PairLemmas.{any-set, each-at, pairs-at, pairs-drop}
use Rattle.iscsi_outbox_law.proofs.general.PlaceLemmas.{IsPlace, at_place, found_at, found_nowhere}
use Rattle.iscsi_outbox_law.proofs.connections.Standing.{counts_at, stands_nowhere, stands_there}
use Rattle.iscsi_outbox_law.proofs.connections.LinkChanges.{Moves, stands_set, stands_under}
use Rattle.iscsi_outbox_law.proofs.connections.CountChanges.{stands_queue}
use Rattle.iscsi_outbox_law.proofs.queues.Waiting.{max_shown_is}
use Rattle.iscsi_outbox_law.proofs.sending.Fencing.{apart, passes_is}
use Rattle.iscsi_outbox_law.proofs.sending.Asking.{notice_is, over_is, ping_is}

-- ---- places

-- a PDU of the rules, whose place is this
abbrev pdu_placed : RulesPdu → Option ℕ → Pdu
pdu_placed (Replies reply) (Some place) = Rattle.iscsi_outbox_steps.specs.declared.given.Pdu.TheVariants.Reply (record { reply = reply; place = place })
pdu_placed pdu sent = pdu_said pdu sent

placed_said : (pdu : RulesPdu) (sent : Option ℕ) → pdu_placed pdu (word_of sent) ≡ pdu_said pdu sent
placed_said (Replies reply) (Some place) = refl
placed_said (Replies reply) None = refl
placed_said (Owns own) sent = refl
placed_said (Pings tag) sent = refl
placed_said Notices sent = refl

-- ---- what is chosen

-- what waits first in both
pub record WaitsFirst (o : Opening) (s : State) (b : Box) (l : Link) (p : ℕ) (item : Waiting) (out : Outgoing) : Type 0 where
  pub entry : Entry
  pub entries : List Entry
  pub rest : List Outgoing
  pub first : queue_at s.waits p ≡ entry ∷ entries
  pub out_first : l.queue ≡ out ∷ rest
  pub is : IsEntry s.tracked l.conn entry out
  pub item_is : entry.item ≡ item
  pub passes : passes_fence o b l out ≡ true

abbrev pub SameOut : Opening → State → Box → Link → ℕ → Out → Outgoing → Type 0
SameOut o s b l p (Waited item) out = WaitsFirst o s b l p item out
SameOut o s b l p (Pinged tag) out = (tag ≡ tag_of_ping (count_pings l)) × (ping b l ≡ out) × (wants_ping o b l ≡ true)
SameOut o s b l p Noticed out = nop_in b Notices ≡ out

abbrev pub SameChosen : Opening → State → Box → Link → ℕ → Option Out → Option Outgoing → Type 0
SameChosen o s b l p None None = Unit {0}
SameChosen o s b l p (Some x) (Some out) = SameOut o s b l p x out
SameChosen o s b l p None (Some out) = ⊥
SameChosen o s b l p (Some x) None = ⊥

module _ (o : Opening) (s : State) (b : Box) (h : Stands o s b) (sound : IsSound o b) (distinct : are_distinct o.session.conns ≡ true) (p : ℕ) (within : p < length b.links) where
  abbrev l : Link
  l = link_in b.links p

  st : StandsFor (link_at s p) (link_in b.links p)
  st = counts_at (is_under_way o b.links) o s b h p within

  from_queues : is_open l ≡ true → (queue : List Entry) (outs : List Outgoing) → queue_at s.waits p ≡ queue → l.queue ≡ outs → PairsOf (IsEntry s.tracked l.conn) queue outs
      → SameChosen o s b l p
      (elim queue as (λ (q : List Entry). Option Out) [
        | [] ↦ cond (wants_notice_steps p s) (Some Noticed) None
        | e ∷ es ↦ cond (passes p (record { time = e.time; takes = e.item.takes; fenced = e.item.fenced }) s) (Some (Waited e.item)) None
      ])
      (first_waiting o b l outs)
  from_queues opens [] [] is are k =
      subst (λ v. SameChosen o s b l p (cond v (Some Noticed) None) (cond (wants_notice o b l) (Some (nop_in b Notices)) None)) (sym (notice_is o s b h sound distinct p within opens)) (by_test (wants_notice o b l))
    where
      by_test : (v : Bool) → SameChosen o s b (link_in b.links p) p (cond v (Some Noticed) None) (cond v (Some (nop_in b Notices)) None)
      by_test true = refl
      by_test false = tt
  from_queues opens (e ∷ es) (out ∷ outs) is are k =
      subst (λ v. SameChosen o s b l p (cond v (Some (Waited e.item)) None) (cond (passes_fence o b l out) (Some out) None)) (sym (passes_is o s b h sound distinct p within opens e out outs are k.0)) (by_test (passes_fence o b l out) refl)
    where
      by_test : (v : Bool) → passes_fence o b (link_in b.links p) out ≡ v → SameChosen o s b (link_in b.links p) p (cond v (Some (Waited e.item)) None) (cond v (Some out) None)
      by_test true it = record { entry = e; entries = es; rest = outs; first = is; out_first = are; is = k.0; item_is = refl; passes = it }
      by_test false it = tt
  from_queues opens [] (out ∷ outs) is are k = absurd k
  from_queues opens (e ∷ es) [] is are k = absurd k

  chosen_open : is_open l ≡ true → SameChosen o s b l p (cond (wants_ping_steps p s) (Some (Pinged (tag_of_ping (link_at s p).pings))) (from_queue p s)) (cond (wants_ping o b l) (Some (ping b l)) (first_waiting o b l l.queue))
  chosen_open opens =
      subst (λ v. SameChosen o s b l p (cond v (Some (Pinged (tag_of_ping (link_at s p).pings))) (from_queue p s)) (cond (wants_ping o b l) (Some (ping b l)) (first_waiting o b l l.queue))) (sym (ping_is o s b h sound distinct p within opens)) (by_test (wants_ping o b l) refl)
    where
      by_test : (v : Bool) → wants_ping o b (link_in b.links p) ≡ v → SameChosen o s b (link_in b.links p) p (cond v (Some (Pinged (tag_of_ping (link_at s p).pings))) (from_queue p s)) (cond v (Some (ping b (link_in b.links p))) (first_waiting o b (link_in b.links p) (link_in b.links p).queue))
      by_test true it = (ap tag_of_ping st.pings, refl, it)
      by_test false it = from_queues opens (queue_at s.waits p) (link_in b.links p).queue refl refl (pairs-at (IsQueue s.tracked) s.waits.queues b.links p [] (new_link 0) within h.queues)

  pub chosen_is : length l.handed < 2 ^ 63 → SameChosen o s b l p (chosen p s) (chosen_by_rules o b l)
  chosen_is few =
      subst (λ v. SameChosen o s b l p (cond v (cond (wants_ping_steps p s) (Some (Pinged (tag_of_ping (link_at s p).pings))) (from_queue p s)) None) (chosen_by_rules o b l))
      (sym (ap (λ (v : Bool). is_open_by (link_at s p) && v) (ap (λ n. nat_lt n (2 ^ 63)) st.handed ∙ lt-ltb (length l.handed) (2 ^ 63) few) ∙ and_yes (is_open_by (link_at s p)) ∙ open_is (link_at s p) l st))
      (by_open (is_open l) refl)
    where
      and_yes : (v : Bool) → (v && true) ≡ v
      and_yes true = refl
      and_yes false = refl

      by_open : (v : Bool) → is_open (link_in b.links p) ≡ v
          → SameChosen o s b (link_in b.links p) p (cond v (cond (wants_ping_steps p s) (Some (Pinged (tag_of_ping (link_at s p).pings))) (from_queue p s)) None)
          (cond v (cond (wants_ping o b (link_in b.links p)) (Some (ping b (link_in b.links p))) (first_waiting o b (link_in b.links p) (link_in b.links p).queue)) None)
      by_open true is = chosen_open is
      by_open false is = tt

  -- ---- what is left without it

  pub queued_pdu : (c : Content) (out : Outgoing) → pdu_of c ≡ out.pdu → is_from_queue out ≡ true
  queued_pdu (IsReply reply) out is = ap (λ (x : RulesPdu). elim x as (λ (y : RulesPdu). Bool) [ Replies r ↦ true | Owns q ↦ true | Pings tag ↦ false | Notices ↦ false ]) (sym is)
  queued_pdu (IsOwn own) out is = ap (λ (x : RulesPdu). elim x as (λ (y : RulesPdu). Bool) [ Replies r ↦ true | Owns q ↦ true | Pings tag ↦ false | Notices ↦ false ]) (sym is)

  moves : (queue : List Outgoing) → Moves l (record l { queue = queue })
  moves queue = record { conn = refl; handed = refl; stamps = λ place lt. refl; fence = λ none. none }

  pub popped_stands : Stands o (record s { waits = record s.waits { queues = set s.waits.queues p (drop 1 (queue_at s.waits p)) } }) (record b { links = set b.links p (record l { queue = drop 1 l.queue }) })
  popped_stands =
      let m : Link = record l { queue = drop 1 l.queue } in
      stands_under (is_under_way o b.links) (is_under_way o (set b.links p m)) o _ _ (λ t. sym (any-set (has_under_way o (λ k. k == t)) b.links p m (new_link 0) refl))
      (subst (λ cs. StandsWith (is_under_way o b.links) o (record s { links = cs; waits = record s.waits { queues = set s.waits.queues p (drop 1 (queue_at s.waits p)) } }) (record b { links = set b.links p m })) (set-get_or s.links p new_counts)
      (stands_set (is_under_way o b.links) o s b p (link_at s p) (drop 1 (queue_at s.waits p)) m h within (moves (drop 1 l.queue))
      (pairs-drop (IsEntry s.tracked l.conn) (queue_at s.waits p) l.queue (pairs-at (IsQueue s.tracked) s.waits.queues b.links p [] (new_link 0) within h.queues))
      (stands_queue (link_at s p) l st (drop 1 l.queue))))

  pub taken_at : (out : Outgoing) → at_link l.conn (taken_from out) b.links ≡ set b.links p (taken_from out l)
  taken_at out = at_place (taken_from out) b.links l.conn p (apart o s b h sound distinct) within refl

  without_none : (out : Outgoing) → is_from_queue out ≡ false → Stands o s (without_chosen b l out)
  without_none out isnt =
      subst (λ ls. Stands o s (record b { links = ls })) (sym (taken_at out ∙ ap (λ (v : Bool). set b.links p (cond v (record l { queue = drop 1 l.queue }) l)) isnt ∙ set-get_or b.links p (new_link 0))) h

  pub without_stands : (x : Out) (out : Outgoing) → SameOut o s b l p x out → Stands o (without p x s) (without_chosen b l out)
  without_stands (Waited item) out w =
      subst (λ ls. Stands o (without p (Waited item) s) (record b { links = ls }))
      (sym (taken_at out ∙ ap (λ (v : Bool). set b.links p (cond v (record l { queue = drop 1 l.queue }) l)) (queued_pdu (w.entry.item.content) out w.is.pdu))) popped_stands
  without_stands (Pinged tag) out k = subst (λ x. Stands o s (without_chosen b l x)) k.1 (without_none (ping b l) refl)
  without_stands Noticed out k = subst (λ x. Stands o s (without_chosen b l x)) k (without_none (nop_in b Notices) refl)

  -- ---- what is given

  content_said : (c : Content) (item : Waiting) → item.content ≡ c → pdu_of_out (Waited item) ≡ pdu_placed (pdu_of c) (sent_of c)
  content_said (IsReply reply) item is = ap (λ (x : Content). elim x as (λ (y : Content). Pdu) [ IsReply r ↦ Rattle.iscsi_outbox_steps.specs.declared.given.Pdu.TheVariants.Reply r | IsOwn own ↦ Rattle.iscsi_outbox_steps.specs.declared.given.Pdu.TheVariants.Own own ]) is
  content_said (IsOwn own) item is = ap (λ (x : Content). elim x as (λ (y : Content). Pdu) [ IsReply r ↦ Rattle.iscsi_outbox_steps.specs.declared.given.Pdu.TheVariants.Reply r | IsOwn q ↦ Rattle.iscsi_outbox_steps.specs.declared.given.Pdu.TheVariants.Own q ]) is

  same_pdu : (x : Out) (out : Outgoing) → SameOut o s b l p x out → pdu_of_out x ≡ pdu_said out.pdu out.sent
  same_pdu (Waited item) out w =
      content_said (item.content) item refl ∙ ap (λ (i : Waiting). pdu_placed (pdu_of i.content) (sent_of i.content)) (sym w.item_is)
      ∙ ap (λ pdu. pdu_placed pdu (sent_of w.entry.item.content)) w.is.pdu ∙ ap (pdu_placed out.pdu) w.is.sent ∙ placed_said out.pdu out.sent
  same_pdu (Pinged tag) out k = ap (λ n. pdu_said (Pings n) None) k.0 ∙ ap (λ (y : Outgoing). pdu_said y.pdu y.sent) k.1
  same_pdu Noticed out k = ap (λ (y : Outgoing). pdu_said y.pdu y.sent) k

  made : Pdu → ℕ → ℕ → ℕ → Handed
  made pdu stat_sn exp max = record { pdu = pdu; stat_sn = stat_sn; exp = exp; max = max }

  pub handed_is : (x : Out) (out : Outgoing) → SameOut o s b l p x out → numbered p x s ≡ handed_said (handed_as o b l out)
  unfolding made
  handed_is x out k =
      ap (λ (pdu : Pdu). made pdu (wire (link_at s p).next) s.exp (wire (max_shown_steps (without p x s)))) (same_pdu x out k)
      ∙ ap (λ n. made (pdu_said out.pdu out.sent) (wire n) s.exp (wire (max_shown_steps (without p x s)))) st.next
      ∙ ap (λ n. made (pdu_said out.pdu out.sent) (wire (next_stat_sn l)) n (wire (max_shown_steps (without p x s)))) h.numbers.exp
      ∙ ap (λ n. made (pdu_said out.pdu out.sent) (wire (next_stat_sn l)) b.exp (wire n)) (max_shown_is o (without p x s) (without_chosen b l out) (without_stands x out k))

  over_anyway : is_over_steps p s ≡ is_over b l
  over_anyway = by_open (is_open l) refl
    where
      by_open : (v : Bool) → is_open (link_in b.links p) ≡ v → is_over_steps p s ≡ is_over b (link_in b.links p)
      by_open true is = over_is o s b h sound distinct p within is
      by_open false is =
          ap (λ (v : Bool). (((v && (link_at s p).closed) && elim (queue_at s.waits p) as (λ (q : List Entry). Bool) [ [] ↦ true | e ∷ es ↦ false ]) && not (list_any (goes_out_on p) s.lane.items)) && ((link_at s p).cut || nat_le (link_at s p).handed (link_at s p).written))
          (open_is (link_at s p) (link_in b.links p) st ∙ is)
          ∙ sym (ap (λ (v : Bool). (((v && (link_in b.links p).closed) && list_all (λ (out : Outgoing). false) (link_in b.links p).queue) && not (list_any (λ (a : Answer). a.conn == (link_in b.links p).conn) b.undue)) && ((link_in b.links p).cut || list_all (λ (x : RulesHanded). false) (unwritten (link_in b.links p)))) is)

  given_on_is : length l.handed < 2 ^ 63 → given_on p s ≡ given_said (given_on_by_rules o b l)
  given_on_is few = by_chosen (chosen p s) (chosen_by_rules o b l) (chosen_is few)
    where
      by_over : (v : Bool) → cond v IsOver Nothing ≡ given_said (cond v RulesIsOver RulesNothing)
      by_over true = refl
      by_over false = refl

      by_chosen : (x : Option Out) (y : Option Outgoing) → SameChosen o s b (link_in b.links p) p x y
          → (elim x as (λ (z : Option Out). Given) [ Some out ↦ Hands (numbered p out s) | None ↦ cond (is_over_steps p s) IsOver Nothing ])
          ≡ given_said (elim y as (λ (z : Option Outgoing). RulesGiven) [ Some out ↦ RulesHands (handed_as o b (link_in b.links p) out) | None ↦ cond (is_over b (link_in b.links p)) RulesIsOver RulesNothing ])
      by_chosen None None k = ap (λ (v : Bool). cond v IsOver Nothing) over_anyway ∙ by_over (is_over b (link_in b.links p))
      by_chosen (Some x) (Some out) k = ap Hands (handed_is x out k)
      by_chosen None (Some out) k = absurd k
      by_chosen (Some x) None k = absurd k

-- ---- by its CID

module _ (o : Opening) (s : State) (b : Box) (h : Stands o s b) (sound : IsSound o b) (distinct : are_distinct o.session.conns ≡ true) (few : EachOf (λ (l : Link). length l.handed < 2 ^ 63) b.links) (cid : ℕ) where
  pub link_there : (p : ℕ) → place_of s cid ≡ Some p → link_of b cid ≡ Some (link_in b.links p)
  link_there p found =
      let at : IsPlace b.links cid p = stands_there (is_under_way o b.links) o s b h cid p found in
      found_at b.links cid p (apart o s b h sound distinct) at.within at.is

  pub link_nowhere : place_of s cid ≡ None → link_of b cid ≡ None
  link_nowhere none = found_nowhere b.links cid (stands_nowhere (is_under_way o b.links) o s b h cid none)

  pub gives_answered : given cid s ≡ given_said (given_by_rules o b cid)
  gives_answered = by_place (place_of s cid) refl
    where
      by_place : (x : Option ℕ) → place_of s cid ≡ x → (elim x as (λ (y : Option ℕ). Given) [ Some p ↦ given_on p s | None ↦ Nothing ]) ≡ given_said (given_by_rules o b cid)
      by_place (Some p) found =
          let at : IsPlace b.links cid p = stands_there (is_under_way o b.links) o s b h cid p found in
          given_on_is o s b h sound distinct p at.within (each-at (λ (l : Link). length l.handed < 2 ^ 63) b.links p (new_link 0) at.within few)
          ∙ sym (ap (λ (x : Option Link). given_said (elim x as (λ (y : Option Link). RulesGiven) [ Some l ↦ given_on_by_rules o b l | None ↦ RulesNothing ])) (link_there p found))
      by_place None none = sym (ap (λ (x : Option Link). given_said (elim x as (λ (y : Option Link). RulesGiven) [ Some l ↦ given_on_by_rules o b l | None ↦ RulesNothing ])) (link_nowhere none))
