-- What is due enters, in both: the rules take it in one pass, the steps take the first one again and again.
use Rattle.std.proofs.Common.{◌≡◌, ℕ, zero, suc, ◌+◌, ◌-◌, ◌<◌, ◌≤◌, ◌==◌, ◌||◌, ◌^◌, not, cond, Bool, true, false, List, [], ◌∷◌, ◌++◌, length, count_by, Option, Some, None, refl, ap, sym, subst, ◌∙◌, arith, append_assoc, append-nil, lt-ltb}
use Rattle.std.specs.List.{list_any}
use Rattle.std.proofs.lemmas.Bool.{cond_both, eqb-true}
use Rattle.std.proofs.lemmas.List.{length_push}
use Rattle.std.proofs.lemmas.List.Elements.{filter-append}
use Rattle.std.proofs.lemmas.List.Folds.{list_any-append}
use Rattle.std.proofs.lemmas.List.Sums.{sum_by-cons}
use Rattle.iscsi_arrivals.proofs.CountLemmas.{count-append, count-cons}
use Rattle.iscsi_outbox_rules.specs.rules.Calls.{Opening}
use Rattle.iscsi_outbox_rules.specs.rules.Boxes.{Replies, Outgoing, Handed, Answer, Link, Box}
use Rattle.iscsi_outbox_rules.specs.rules.Words.{contains, is_left, is_reply}
use Rattle.iscsi_outbox_rules.specs.rules.Queues.{append, at_link, enter as enter_box, takes_more}
use Rattle.iscsi_outbox_rules.specs.rules.Due.{is_due as is_due_box, settle as settle_box, settle_from}
use Rattle.iscsi_outbox_rules.specs.rules.Own.{is_own}
use Rattle.iscsi_outbox_rules.specs.promises.Room.{places}
use Rattle.iscsi_outbox_state.specs.declared.lane.Aim.{Aim}
use Rattle.iscsi_outbox_state.specs.declared.lane.Undue.{Undue}
use Rattle.iscsi_outbox_state.specs.declared.lane.Standing.{Standing}
use Rattle.iscsi_outbox_state.specs.declared.lane.Standing.TheVariants.{Left as IsLeft, Undue as IsUndue}
use Rattle.iscsi_outbox_state.specs.Lane.{due_behind, first_due, is_command, is_due, is_left as is_left_standing, others_behind, with_items, without_due}
use Rattle.iscsi_outbox_steps.specs.State.{State}
use Rattle.iscsi_outbox_steps.specs.Steps.{answer_item, enter, has_time, settle, settled}
use Rattle.iscsi_tracked.specs.Tracked.{Tracked}
use Rattle.iscsi_outbox_law.specs.private.Pairs.{EachOf}
use Rattle.iscsi_outbox_law.specs.private.Links.{place_of_command}
use Rattle.iscsi_outbox_law.specs.private.Commands.{is_under_way}
use Rattle.iscsi_outbox_law.specs.private.Lanes.{AreAnswers, AreLeft, is_aimed_at}
use Rattle.iscsi_outbox_law.specs.private.Sound.{HasHome, HaveHomes}
use Rattle.iscsi_outbox_law.specs.private.Stands.{Stands}
use Rattle.iscsi_outbox_law.proofs.general.PairLemmas.{each-map}
use Rattle.iscsi_outbox_law.proofs.general.PlaceLemmas.{AreApart, at_none, conns_of, none_behind, place_found}
use Rattle.iscsi_outbox_law.proofs.queues.Waiting.{answers_counted}
use Rattle.iscsi_outbox_law.proofs.queues.Entering.{IsSame, enter_stands}
use Rattle.iscsi_outbox_law.proofs.queues.Rooms.{own_bound, own_on, replies_queued, room_is}
use Rattle.iscsi_outbox_law.proofs.queues.Dues.{due_is}

-- ---- lists of answers

module _ (cids : List ℕ) (v : Tracked) where
  -- answers don't count among what stands before
  pub answers_front : (before front items : List Standing) (answers : List Answer) → ((aim : Aim) (place : ℕ) → list_any (is_aimed_at aim place) before ≡ list_any (is_aimed_at aim place) front)
      → AreAnswers cids v before items answers → AreAnswers cids v front items answers
  answers_front before front [] [] same h = tt
  answers_front before front [] (answer ∷ answers) same h = absurd h
  answers_front before front (IsLeft c ∷ items) answers same h =
      answers_front (before ++ IsLeft c ∷ []) (front ++ IsLeft c ∷ []) items answers
      (λ aim place. list_any-append (is_aimed_at aim place) before (IsLeft c ∷ []) ∙ ap (λ (w : Bool). w || list_any (is_aimed_at aim place) (IsLeft c ∷ [])) (same aim place) ∙ sym (list_any-append (is_aimed_at aim place) front (IsLeft c ∷ []))) h
  answers_front before front (IsUndue a ∷ items) [] same h = absurd h
  answers_front before front (IsUndue a ∷ items) (answer ∷ answers) same h = (
    record {
      pdu = h.0.pdu;
      sent = h.0.sent;
      conn = h.0.conn;
      aim = h.0.aim;
      takes = h.0.takes;
      fenced = h.0.fenced;
      numbered = h.0.numbered;
      ends = h.0.ends;
      ticket = h.0.ticket;
      uncleared = h.0.uncleared;
      scope = subst (λ (f : Aim → ℕ → Bool). EachOf (λ c. Rattle.iscsi_outbox_steps.specs.Steps.is_live c ≡ false → contains answer.out.scope c.ticket ≡ f a.aim c.place) v.commands) (λ i aim place. same aim place i) h.0.scope;
    },
    answers_front (before ++ IsUndue a ∷ []) (front ++ IsUndue a ∷ []) items answers
        (λ aim place. list_any-append (is_aimed_at aim place) before (IsUndue a ∷ []) ∙ ap (λ (w : Bool). w || list_any (is_aimed_at aim place) (IsUndue a ∷ [])) (same aim place) ∙ sym (list_any-append (is_aimed_at aim place) front (IsUndue a ∷ []))) h.1,
  )

  pub answers_append : (front pre suf : List Standing) (first rest : List Answer) → AreAnswers cids v front pre first → AreAnswers cids v (front ++ pre) suf rest → AreAnswers cids v front (pre ++ suf) (first ++ rest)
  answers_append front [] suf [] rest h k = subst (λ xs. AreAnswers cids v xs suf rest) (append-nil front) k
  answers_append front [] suf (answer ∷ first) rest h k = absurd h
  answers_append front (IsLeft c ∷ pre) suf first rest h k =
      answers_append (front ++ IsLeft c ∷ []) pre suf first rest h (subst (λ xs. AreAnswers cids v xs suf rest) (sym (append_assoc front (IsLeft c ∷ []) pre)) k)
  answers_append front (IsUndue a ∷ pre) suf [] rest h k = absurd h
  answers_append front (IsUndue a ∷ pre) suf (answer ∷ first) rest h k =
      (h.0, answers_append (front ++ IsUndue a ∷ []) pre suf first rest h.1 (subst (λ xs. AreAnswers cids v xs suf rest) (sym (append_assoc front (IsUndue a ∷ []) pre)) k))

  -- all of them are replies
  pub all_replies : (before items : List Standing) (answers : List Answer) → AreAnswers cids v before items answers → count_by (λ (x : Answer). is_reply x.out.pdu) answers ≡ length answers
  all_replies before [] [] h = refl
  all_replies before [] (answer ∷ answers) h = absurd h
  all_replies before (IsLeft c ∷ items) answers h = all_replies (before ++ IsLeft c ∷ []) items answers h
  all_replies before (IsUndue a ∷ items) [] h = absurd h
  all_replies before (IsUndue a ∷ items) (answer ∷ answers) h =
      count-cons (λ (x : Answer). is_reply x.out.pdu) answer answers ∙ ap (λ (w : Bool). cond w 1 0 + count_by (λ (x : Answer). is_reply x.out.pdu) answers) (ap is_reply h.0.pdu)
      ∙ (let rest = all_replies (before ++ IsUndue a ∷ []) items answers h.1 in let z : 1 + count_by (λ (x : Answer). is_reply x.out.pdu) answers ≡ suc (length answers) = omega (arith, rest) in z)

pub left_without : (v : Tracked) (pre suf : List Standing) (a : Undue) → AreLeft v (pre ++ IsUndue a ∷ suf) → AreLeft v (pre ++ suf)
left_without v pre suf a h = record {
  each = λ place. filter-append (is_command place) pre suf ∙ sym (filter-append (is_command place) pre (IsUndue a ∷ suf)) ∙ h.each place;
  counted = count-append is_left_standing pre suf
      ∙ (let e = count-append is_left_standing pre (IsUndue a ∷ suf) in let f = count-cons is_left_standing (IsUndue a) suf in
      let z : count_by is_left_standing pre + count_by is_left_standing suf ≡ count_by is_left_standing (pre ++ IsUndue a ∷ suf) = omega (arith, e, f) in z) ∙ h.counted;
}

-- ---- none of what stands in front is due

pub record NoneDue (pre : List Standing) : Type 0 where
  pub due : (suf : List Standing) → due_behind [] (pre ++ suf) ≡ due_behind pre suf
  pub others : (suf : List Standing) → others_behind [] (pre ++ suf) ≡ others_behind pre suf

none_due_first : NoneDue []
none_due_first = record { due = λ suf. refl; others = λ suf. refl }

none_due_left : (pre : List Standing) (c : _) → NoneDue pre → NoneDue (pre ++ IsLeft c ∷ [])
none_due_left pre c h = record {
  due = λ suf. ap (due_behind []) (append_assoc pre (IsLeft c ∷ []) suf) ∙ h.due (IsLeft c ∷ suf);
  others = λ suf. ap (others_behind []) (append_assoc pre (IsLeft c ∷ []) suf) ∙ h.others (IsLeft c ∷ suf);
}

none_due_answer : (pre : List Standing) (a : Undue) → is_due pre a ≡ false → NoneDue pre → NoneDue (pre ++ IsUndue a ∷ [])
none_due_answer pre a isnt h = record {
  due = λ suf. ap (due_behind []) (append_assoc pre (IsUndue a ∷ []) suf) ∙ h.due (IsUndue a ∷ suf) ∙ ap (λ (w : Bool). cond w (Some a) (due_behind (pre ++ IsUndue a ∷ []) suf)) isnt;
  others = λ suf. ap (others_behind []) (append_assoc pre (IsUndue a ∷ []) suf) ∙ h.others (IsUndue a ∷ suf) ∙ ap (λ (w : Bool). cond w (pre ++ suf) (others_behind (pre ++ IsUndue a ∷ []) suf)) isnt;
}

-- ---- time and room

pub settle_time : (o : Opening) (before rest : List Answer) (b : Box) → b.time ≤ (settle_from o before rest b).time
settle_time o before [] b = omega arith
settle_time o before (a ∷ rest) b =
    cond_both (is_due_box o b before a) (settle_from o before rest (enter_box a.conn a.out b)) (settle_from o (before ++ a ∷ []) rest b) (λ (x : Box). b.time ≤ x.time)
    (λ is. (let e = settle_time o before rest (enter_box a.conn a.out b) in omega (arith, e))) (λ isnt. settle_time o (before ++ a ∷ []) rest b)

-- what a box keeps while it settles
pub record IsCalm (o : Opening) (b : Box) (rest : List Answer) : Type 0 where
  pub homes : HaveHomes b
  pub apart : AreApart (conns_of b.links)
  pub own : EachOf (λ (l : Link). own_on l ≤ o.own) b.links
  pub scopes : EachOf (λ (a : Answer). (k : ℕ) → contains a.out.scope k ≡ true → is_left b k ≡ true) rest

conns_enter : (cid : ℕ) (out : Outgoing) (links : List Link) → conns_of (at_link cid (append out) links) ≡ conns_of links
conns_enter cid out [] = refl
conns_enter cid out (l ∷ links) =
    ap (λ c. c ∷ conns_of (at_link cid (append out) links)) (elim (l.conn == cid) as (λ v. (cond v (append out l) l).conn ≡ l.conn) [ true ↦ elim (takes_more l) as (λ w. (cond w (record l { queue = l.queue ++ out ∷ [] }) l).conn ≡ l.conn) [ true ↦ refl | false ↦ refl ] | false ↦ refl ])
    ∙ ap (λ cs. l.conn ∷ cs) (conns_enter cid out links)

-- a reply more at the most
replies_on : Link → ℕ
replies_on l = count_by (λ (x : Outgoing). is_reply x.pdu) l.queue

one_more : (out : Outgoing) (l : Link) → replies_on (append out l) ≤ replies_on l + 1
unfolding replies_on
one_more out l =
    elim (takes_more l) as (λ w. count_by (λ (x : Outgoing). is_reply x.pdu) (cond w (record l { queue = l.queue ++ out ∷ [] }) l).queue ≤ count_by (λ (x : Outgoing). is_reply x.pdu) l.queue + 1) [
      | true ↦ (let e = count-append (λ (x : Outgoing). is_reply x.pdu) l.queue (out ∷ []) in
          let f = count-cons (λ (x : Outgoing). is_reply x.pdu) out [] in
          let g : cond (is_reply out.pdu) 1 0 ≤ 1 = elim (is_reply out.pdu) as (λ u. cond u 1 0 ≤ 1) [ true ↦ omega arith | false ↦ omega arith ] in omega (arith, e, f, g))
      | false ↦ omega arith
    ]

pub replies_enter : (cid : ℕ) (out : Outgoing) (links : List Link) → AreApart (conns_of links) → replies_queued (at_link cid (append out) links) ≤ replies_queued links + 1
unfolding replies_on
replies_enter cid out [] apart = omega arith
replies_enter cid out (l ∷ links) apart =
    let rest = replies_enter cid out links apart.1 in
    let before = sum_by-cons (λ (x : Link). count_by (λ (y : Outgoing). is_reply y.pdu) x.queue) l links in
    elim (l.conn == cid) as (λ v. (l.conn == cid) ≡ v → replies_queued (cond v (append out l) l ∷ at_link cid (append out) links) ≤ replies_queued (l ∷ links) + 1) [
      | true ↦ λ is.
          let same : at_link cid (append out) links ≡ links = at_none (append out) links cid (none_behind l links cid apart (eqb-true l.conn cid is)) in
          let e = sum_by-cons (λ (x : Link). count_by (λ (y : Outgoing). is_reply y.pdu) x.queue) (append out l) (at_link cid (append out) links) in
          let f = ap replies_queued same in
          let g = one_more out l in omega (arith, before, e, f, g)
      | false ↦ λ is.
          let e = sum_by-cons (λ (x : Link). count_by (λ (y : Outgoing). is_reply y.pdu) x.queue) l (at_link cid (append out) links) in omega (arith, before, e, rest)
    ] refl

pub calm_enter : (o : Opening) (b : Box) (rest : List Answer) (cid : ℕ) (out : Outgoing) → is_own out.pdu ≡ false → IsCalm o b rest → IsCalm o (enter_box cid out b) rest
calm_enter o b rest cid out isnt h = record {
  homes = record {
    ascending = h.homes.ascending;
    handed = each-map (λ (l : Link). EachOf (λ (g : Handed). HasHome b.tasks l.conn g.out) l.handed) (λ (l : Link). EachOf (λ (g : Handed). HasHome b.tasks l.conn g.out) l.handed) (λ (l : Link). cond (l.conn == cid) (append (record out { time = b.time }) l) l) b.links
        (λ l k. elim (l.conn == cid) as (λ v. EachOf (λ (g : Handed). HasHome b.tasks (cond v (append (record out { time = b.time }) l) l).conn g.out) (cond v (append (record out { time = b.time }) l) l).handed) [
          | true ↦ elim (takes_more l) as (λ w. EachOf (λ (g : Handed). HasHome b.tasks (cond w (record l { queue = l.queue ++ record out { time = b.time } ∷ [] }) l).conn g.out) (cond w (record l { queue = l.queue ++ record out { time = b.time } ∷ [] }) l).handed) [ true ↦ k | false ↦ k ]
          | false ↦ k
        ]) h.homes.handed;
  };
  apart = subst AreApart (sym (conns_enter cid (record out { time = b.time }) b.links)) h.apart;
  own = each-map (λ (l : Link). own_on l ≤ o.own) (λ (l : Link). own_on l ≤ o.own) (λ (l : Link). cond (l.conn == cid) (append (record out { time = b.time }) l) l) b.links
      (λ l k. elim (l.conn == cid) as (λ v. own_on (cond v (append (record out { time = b.time }) l) l) ≤ o.own) [
        | true ↦ elim (takes_more l) as (λ w. own_on (cond w (record l { queue = l.queue ++ record out { time = b.time } ∷ [] }) l) ≤ o.own) [
          | true ↦ (let e = count-append (λ (x : Outgoing). is_own x.pdu) l.queue (record out { time = b.time } ∷ []) in
              let f = count-cons (λ (x : Outgoing). is_own x.pdu) (record out { time = b.time }) [] in
              let g = ap {B = ℕ} (λ (w : Bool). cond w 1 0) isnt in omega (arith, e, f, g, k))
          | false ↦ k
        ]
        | false ↦ k
      ]) h.own;
  scopes = h.scopes;
}

-- ---- the pass

reply_unowned : (answer : Answer) (a : Undue) → answer.out.pdu ≡ Replies a.reply.reply → is_own answer.out.pdu ≡ false
reply_unowned answer a is = ap is_own is

module _ (o : Opening) where
  -- an answer that is due goes from the lane
  taken_out : (s : State) (b : Box) (pre suf : List Standing) (before rest : List Answer) (a : Undue) (answer : Answer) → Stands o s (record b { undue = before ++ answer ∷ rest }) → s.lane.items ≡ pre ++ IsUndue a ∷ suf
      → AreAnswers s.limits.cids s.tracked [] pre before → AreAnswers s.limits.cids s.tracked pre (IsUndue a ∷ suf) (answer ∷ rest)
      → Stands o (record s { lane = with_items s.lane (pre ++ suf) }) (record b { undue = before ++ rest })
  taken_out s b pre suf before rest a answer h whole first behind = record {
    sizes = record { limits = h.sizes.limits; waits = h.sizes.waits; answers = h.sizes.answers; commands = h.sizes.commands; trails = h.sizes.trails };
    numbers = record { time = h.numbers.time; exp = h.numbers.exp; max = h.numbers.max; shown = h.numbers.shown; reached = h.numbers.reached; sent = h.numbers.sent };
    links = h.links;
    queues = h.queues;
    commands = h.commands;
    placed = h.placed;
    trails = h.trails;
    left = left_without s.tracked pre suf a (subst (AreLeft s.tracked) whole h.left);
    answers = answers_append s.limits.cids s.tracked [] pre suf before rest first
        (answers_front s.limits.cids s.tracked (pre ++ IsUndue a ∷ []) pre suf rest
        (λ aim place. list_any-append (is_aimed_at aim place) pre (IsUndue a ∷ []) ∙ or_no (list_any (is_aimed_at aim place) pre)) behind.1);
    fence = h.fence;
  }
    where
      or_no : (w : Bool) → (w || false) ≡ w
      or_no true = refl
      or_no false = refl

  settled_none : (n : ℕ) (s : State) → first_due s.lane ≡ None → settled n s ≡ s
  settled_none zero s none = refl
  settled_none (suc n) s none = ap (λ (x : Option Undue). elim x as (λ (y : Option Undue). State) [ Some a ↦ settled n (enter a.conn (answer_item a) (record s { lane = without_due s.lane })) | None ↦ s ]) none

  -- the first that is due enters
  module _ (s : State) (b : Box) (pre suf : List Standing) (before rest : List Answer) (a : Undue) (answer : Answer) (h : Stands o s (record b { undue = before ++ answer ∷ rest })) (whole : s.lane.items ≡ pre ++ IsUndue a ∷ suf)
      (first : AreAnswers s.limits.cids s.tracked [] pre before) (behind : AreAnswers s.limits.cids s.tracked pre (IsUndue a ∷ suf) (answer ∷ rest)) (none : NoneDue pre) (calm : IsCalm o b (answer ∷ rest)) where
    abbrev s1 : State
    s1 = record s { lane = with_items s.lane (pre ++ suf) }

    abbrev b1 : Box
    b1 = record b { undue = before ++ rest }

    abbrev s2 : State
    s2 = enter a.conn (answer_item a) s1

    abbrev b2 : Box
    b2 = enter_box answer.conn answer.out b

    due_as : is_due pre a ≡ is_due_box o b before answer
    due_as =
        due_is o s (record b { undue = before ++ answer ∷ rest }) h (record { ascending = calm.homes.ascending; handed = calm.homes.handed }) calm.apart pre (IsUndue a ∷ suf) whole before first a answer behind.0 (calm.scopes.0)

    steps_due : (n : ℕ) → is_due pre a ≡ true → settled (suc n) s ≡ settled n s2
    steps_due n due =
        ap (λ (x : Option Undue). elim x as (λ (y : Option Undue). State) [ Some c ↦ settled n (enter c.conn (answer_item c) (record s { lane = without_due s.lane })) | None ↦ s ])
        (ap (due_behind []) whole ∙ none.due (IsUndue a ∷ suf) ∙ ap (λ (w : Bool). cond w (Some a) (due_behind (pre ++ IsUndue a ∷ []) suf)) due)
        ∙ ap (λ (items : List Standing). settled n (enter a.conn (answer_item a) (record s { lane = with_items s.lane items })))
        (ap (others_behind []) whole ∙ none.others (IsUndue a ∷ suf) ∙ ap (λ (w : Bool). cond w (pre ++ suf) (others_behind (pre ++ IsUndue a ∷ []) suf)) due)

    h1 : Stands o s1 b1
    h1 = taken_out s b pre suf before rest a answer h whole first behind

    same : IsSame s1.tracked answer.conn (answer_item a) answer.out
    same = record {
      pdu = sym behind.0.pdu;
      sent = sym behind.0.sent;
      takes = sym behind.0.takes;
      fenced = sym behind.0.fenced;
      numbered = behind.0.numbered;
      ends = behind.0.ends;
      command = sym (ap (place_of_command s.tracked) behind.0.ticket);
    }

    module _ (room : length before + suc (length rest) + replies_queued b.links ≤ places o) (timed : (settle_from o before rest b2).time < 2 ^ 64 - 1) where
      has_time_now : has_time s1.waits ≡ true
      has_time_now = lt-ltb s.waits.time (2 ^ 64 - 1) (let e = settle_time o before rest b2 in let f = h.numbers.time in omega (arith, e, f, timed))

      pub h2 : Stands o s2 (record b2 { undue = before ++ rest })
      h2 =
          enter_stands o s1 b1 h1 calm.apart answer.conn a.conn (place_found s.limits.cids b.links answer.conn a.conn h.links.conns behind.0.conn) (answer_item a) answer.out same has_time_now
          (room_is (is_under_way o b.links) o s1 b1 h1 (let e = own_bound o.own b.links calm.own in omega (arith, e, room)) has_time_now)

    pub calm2 : IsCalm o b2 rest
    calm2 = calm_enter o b rest answer.conn answer.out (reply_unowned answer a behind.0.pdu) (record { homes = calm.homes; apart = calm.apart; own = calm.own; scopes = calm.scopes.1 })

    pub behind2 : AreAnswers s.limits.cids s.tracked pre suf rest
    behind2 =
        answers_front s.limits.cids s.tracked (pre ++ IsUndue a ∷ []) pre suf rest
        (λ aim place. list_any-append (is_aimed_at aim place) pre (IsUndue a ∷ []) ∙ or_no (list_any (is_aimed_at aim place) pre)) behind.1
      where
        or_no : (w : Bool) → (w || false) ≡ w
        or_no true = refl
        or_no false = refl

    pub room2 : length before + suc (length rest) + replies_queued b.links ≤ places o → length before + length rest + replies_queued b2.links ≤ places o
    room2 room = let e = replies_enter answer.conn (record answer.out { time = b.time }) b.links calm.apart in omega (arith, e, room)

    pub first_more : AreAnswers s.limits.cids s.tracked [] (pre ++ IsUndue a ∷ []) (before ++ answer ∷ [])
    first_more = answers_append s.limits.cids s.tracked [] pre (IsUndue a ∷ []) before (answer ∷ []) first (behind.0, tt)

  pub settle_all : (n : ℕ) (suf pre : List Standing) (before rest : List Answer) (s : State) (b : Box) → Stands o s (record b { undue = before ++ rest }) → s.lane.items ≡ pre ++ suf
      → AreAnswers s.limits.cids s.tracked [] pre before → AreAnswers s.limits.cids s.tracked pre suf rest → NoneDue pre → IsCalm o b rest
      → length rest ≤ n → length before + length rest + replies_queued b.links ≤ places o → (settle_from o before rest b).time < 2 ^ 64 - 1
      → Stands o (settled n s) (settle_from o before rest b)
  settle_all n [] pre before [] s b h whole first behind none calm many room timed =
      subst (λ x. Stands o x (record b { undue = before })) (sym (settled_none n s (ap (due_behind []) whole ∙ none.due [])))
      (subst (λ (answers : List Answer). Stands o s (record b { undue = answers })) (append-nil before) h)
  settle_all n [] pre before (answer ∷ rest) s b h whole first behind none calm many room timed = absurd behind
  settle_all n (IsLeft c ∷ suf) pre before rest s b h whole first behind none calm many room timed =
      settle_all n suf (pre ++ IsLeft c ∷ []) before rest s b h (whole ∙ sym (append_assoc pre (IsLeft c ∷ []) suf))
      (subst (AreAnswers s.limits.cids s.tracked [] (pre ++ IsLeft c ∷ [])) (append-nil before) (answers_append s.limits.cids s.tracked [] pre (IsLeft c ∷ []) before [] first tt))
      behind (none_due_left pre c none) calm many room timed
  settle_all n (IsUndue a ∷ suf) pre before [] s b h whole first behind none calm many room timed = absurd behind
  settle_all zero (IsUndue a ∷ suf) pre before (answer ∷ rest) s b h whole first behind none calm many room timed = absurd (omega (arith, many))
  settle_all (suc n) (IsUndue a ∷ suf) pre before (answer ∷ rest) s b h whole first behind none calm many room timed =
      let same_due : is_due pre a ≡ is_due_box o b before answer = due_as s b pre suf before rest a answer h whole first behind none calm in
      let b' : Box = enter_box answer.conn answer.out b in
      let goes : is_due pre a ≡ true → (settle_from o before rest (enter_box answer.conn answer.out b)).time < 2 ^ 64 - 1 → Stands o (settled (suc n) s) (settle_from o before rest (enter_box answer.conn answer.out b)) =
      λ due later. subst (λ x. Stands o x (settle_from o before rest (enter_box answer.conn answer.out b))) (sym (steps_due s b pre suf before rest a answer h whole first behind none calm n due))
      (settle_all n suf pre before rest (enter a.conn (answer_item a) (record s { lane = with_items s.lane (pre ++ suf) })) (enter_box answer.conn answer.out b)
      (h2 s b pre suf before rest a answer h whole first behind none calm room later) refl first (behind2 s b pre suf before rest a answer h whole first behind none calm) none
      (calm2 s b pre suf before rest a answer h whole first behind none calm) (omega (arith, many)) (room2 s b pre suf before rest a answer h whole first behind none calm room) later) in
      let stays : is_due pre a ≡ false → (settle_from o (before ++ answer ∷ []) rest b).time < 2 ^ 64 - 1 → Stands o (settled (suc n) s) (settle_from o (before ++ answer ∷ []) rest b) =
      λ held later. settle_all (suc n) suf (pre ++ IsUndue a ∷ []) (before ++ answer ∷ []) rest s b
      (subst (λ (answers : List Answer). Stands o s (record b { undue = answers })) (sym (append_assoc before (answer ∷ []) rest)) h) (whole ∙ sym (append_assoc pre (IsUndue a ∷ []) suf))
      (first_more s b pre suf before rest a answer h whole first behind none calm) behind.1 (none_due_answer pre a held none)
      (record { homes = calm.homes; apart = calm.apart; own = calm.own; scopes = calm.scopes.1 }) (omega (arith, many)) (omega (arith, room, length_push before answer)) later in
      elim (is_due_box o b before answer) as (λ v. is_due pre a ≡ v → (cond v (settle_from o before rest (enter_box answer.conn answer.out b)) (settle_from o (before ++ answer ∷ []) rest b)).time < 2 ^ 64 - 1
      → Stands o (settled (suc n) s) (cond v (settle_from o before rest (enter_box answer.conn answer.out b)) (settle_from o (before ++ answer ∷ []) rest b))) [
        | true ↦ goes
        | false ↦ stays
      ] same_due timed

  pub settle_stands : (s : State) (b : Box) → Stands o s b → IsCalm o b b.undue → length b.undue + replies_queued b.links ≤ places o → (settle_box o b).time < 2 ^ 64 - 1 → Stands o (settle s) (settle_box o b)
  settle_stands s b h calm room timed =
      settle_all (count_by (λ x. not (is_left_standing x)) s.lane.items) s.lane.items [] [] b.undue s b h refl tt h.answers none_due_first calm
      (let e : count_by (λ x. not (is_left_standing x)) s.lane.items ≡ count_by (λ (x : Answer). is_reply x.out.pdu) b.undue =
      answers_counted s.limits.cids s.tracked (λ x. not (is_left_standing x)) (λ (x : Answer). is_reply x.out.pdu) (λ c. refl) (λ before a answer k. sym (ap is_reply k.pdu)) [] s.lane.items b.undue h.answers in
      let f = all_replies s.limits.cids s.tracked [] s.lane.items b.undue h.answers in omega (arith, e, f))
      (omega (arith, room)) timed
