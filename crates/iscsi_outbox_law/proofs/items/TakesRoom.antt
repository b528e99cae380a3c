-- Nothing that waits is lost as a box settles, and as many commands are kept: the room after an item was there before.
use Rattle.std.proofs.Common.{◌≡◌, ℕ, ◌+◌, ◌≤◌, ◌==◌, ◌&&◌, ◌||◌, cond, Bool, true, false, List, [], ◌∷◌, ◌++◌, count_by, refl, ap, ◌∙◌, arith}
use Rattle.std.specs.List.{list_any}
use Rattle.std.proofs.lemmas.Bool.{false≢true}
use Rattle.std.proofs.lemmas.List.Sums.{sum_by-cons}
use Rattle.iscsi_arrivals.proofs.CountLemmas.{count-cons}
use Rattle.iscsi_outbox_rules.specs.rules.Calls.{Opening}
use Rattle.iscsi_outbox_rules.specs.rules.Boxes.{Outgoing, Answer, Link, Box}
use Rattle.iscsi_outbox_rules.specs.rules.Words.{has_under_way, is_reply, replies_waiting}
use Rattle.iscsi_outbox_rules.specs.rules.Queues.{append, at_link, enter, takes_more}
use Rattle.iscsi_outbox_rules.specs.rules.Due.{is_due, settle, settle_from}
use Rattle.iscsi_outbox_law.specs.private.Commands.{is_under_way}
use Rattle.iscsi_outbox_law.proofs.general.PairLemmas.{each-weaken}
use Rattle.iscsi_outbox_law.proofs.commands.TrackedLemmas.{any_map}
use Rattle.iscsi_outbox_law.proofs.queues.Rooms.{replies_queued}
use Rattle.iscsi_outbox_law.proofs.items.TakesLeaves.{AreTaken}

pub count_push : {A : Type 0} (p : A → Bool) (xs : List A) (x : A) → count_by p (xs ++ x ∷ []) ≡ count_by p xs + cond (p x) 1 0
count_push p [] x = count-cons p x [] ∙ zero_first (cond (p x) 1 0)
  where
    zero_first : (n : ℕ) → n + 0 ≡ 0 + n
    zero_first n = omega arith
count_push p (y ∷ xs) x =
    let rest = count_push p xs x in
    let e = count-cons p y (xs ++ x ∷ []) in
    let f = count-cons p y xs in
    omega (arith, e, f, rest)

abbrev pub answers_waiting : List Answer → ℕ
answers_waiting answers = count_by (λ (a : Answer). is_reply a.out.pdu) answers

abbrev replies_on : Link → ℕ
replies_on l = count_by (λ (out : Outgoing). is_reply out.pdu) l.queue

-- ---- a PDU enters a queue

module _ (cid : ℕ) (out : Outgoing) where
  abbrev changed : Link → Link
  changed l = cond (l.conn == cid) (append out l) l

  more_on : (l : Link) (v w : Bool) → (l.conn == cid) ≡ v → takes_more l ≡ w → replies_on (changed l) ≡ replies_on l + cond (v && w) (cond (is_reply out.pdu) 1 0) 0
  more_on l false w is takes = ap (λ (u : Bool). replies_on (cond u (append out l) l)) is ∙ (let z : replies_on l ≡ replies_on l + 0 = omega arith in z)
  more_on l true false is takes =
      ap (λ (u : Bool). replies_on (cond u (append out l) l)) is ∙ ap (λ (u : Bool). replies_on (cond u (record l { queue = l.queue ++ out ∷ [] }) l)) takes ∙ (let z : replies_on l ≡ replies_on l + 0 = omega arith in z)
  more_on l true true is takes =
      ap (λ (u : Bool). replies_on (cond u (append out l) l)) is ∙ ap (λ (u : Bool). replies_on (cond u (record l { queue = l.queue ++ out ∷ [] }) l)) takes ∙ count_push (λ (x : Outgoing). is_reply x.pdu) l.queue out

  none_fewer : (links : List Link) → replies_queued links ≤ replies_queued (at_link cid (append out) links)
  none_fewer [] = omega arith
  none_fewer (l ∷ links) =
      let rest = none_fewer links in
      let e = sum_by-cons (λ (m : Link). count_by (λ (x : Outgoing). is_reply x.pdu) m.queue) l links in
      let f = sum_by-cons (λ (m : Link). count_by (λ (x : Outgoing). is_reply x.pdu) m.queue) (changed l) (at_link cid (append out) links) in
      let g = more_on l (l.conn == cid) (takes_more l) refl refl in
      omega (arith, rest, e, f, g)

  pub one_more : (links : List Link) → list_any (λ (l : Link). l.conn == cid && takes_more l) links ≡ true → replies_queued links + cond (is_reply out.pdu) 1 0 ≤ replies_queued (at_link cid (append out) links)
  one_more [] some = absurd (false≢true some)
  one_more (l ∷ links) some = by_first (l.conn == cid && takes_more l) refl some (one_more links)
    where
      by_first : (w : Bool) → (l.conn == cid && takes_more l) ≡ w → (w || list_any (λ (m : Link). m.conn == cid && takes_more m) links) ≡ true
          → (list_any (λ (m : Link). m.conn == cid && takes_more m) links ≡ true → replies_queued links + cond (is_reply out.pdu) 1 0 ≤ replies_queued (at_link cid (append out) links))
          → replies_queued (l ∷ links) + cond (is_reply out.pdu) 1 0 ≤ replies_queued (at_link cid (append out) (l ∷ links))
      by_first true is any rest =
          let few = none_fewer links in
          let e = sum_by-cons (λ (m : Link). count_by (λ (x : Outgoing). is_reply x.pdu) m.queue) l links in
          let f = sum_by-cons (λ (m : Link). count_by (λ (x : Outgoing). is_reply x.pdu) m.queue) (changed l) (at_link cid (append out) links) in
          let g = more_on l (l.conn == cid) (takes_more l) refl refl ∙ ap (λ (u : Bool). replies_on l + cond u (cond (is_reply out.pdu) 1 0) 0) is in
          omega (arith, few, e, f, g)
      by_first false is any rest =
          let more = rest any in
          let e = sum_by-cons (λ (m : Link). count_by (λ (x : Outgoing). is_reply x.pdu) m.queue) l links in
          let f = sum_by-cons (λ (m : Link). count_by (λ (x : Outgoing). is_reply x.pdu) m.queue) (changed l) (at_link cid (append out) links) in
          let g = more_on l (l.conn == cid) (takes_more l) refl refl in
          omega (arith, more, e, f, g)

  taken_same : (conn : ℕ) (links : List Link) → list_any (λ (l : Link). l.conn == conn && takes_more l) (at_link cid (append out) links) ≡ list_any (λ (l : Link). l.conn == conn && takes_more l) links
  taken_same conn links = any_map (λ (l : Link). l.conn == conn && takes_more l) (λ (l : Link). cond (l.conn == cid) (append out l) l) links one
    where
      one : (l : Link) → ((changed l).conn == conn && takes_more (changed l)) ≡ (l.conn == conn && takes_more l)
      one l = elim (l.conn == cid) as (λ v. ((cond v (append out l) l).conn == conn && takes_more (cond v (append out l) l)) ≡ (l.conn == conn && takes_more l)) [
        | true ↦ elim (takes_more l) as (λ w. ((cond w (record l { queue = l.queue ++ out ∷ [] }) l).conn == conn && takes_more (cond w (record l { queue = l.queue ++ out ∷ [] }) l)) ≡ (l.conn == conn && takes_more l)) [ true ↦ refl | false ↦ refl ]
        | false ↦ refl
      ]

  pub under_entered : (o : Opening) (links : List Link) (t : ℕ) → is_under_way o (at_link cid (append out) links) t ≡ is_under_way o links t
  under_entered o links t = any_map (has_under_way o (λ k. k == t)) (λ (l : Link). cond (l.conn == cid) (append out l) l) links one
    where
      one : (l : Link) → has_under_way o (λ k. k == t) (cond (l.conn == cid) (append out l) l) ≡ has_under_way o (λ k. k == t) l
      one l = elim (l.conn == cid) as (λ v. has_under_way o (λ k. k == t) (cond v (append out l) l) ≡ has_under_way o (λ k. k == t) l) [
        | true ↦ elim (takes_more l) as (λ w. has_under_way o (λ k. k == t) (cond w (record l { queue = l.queue ++ out ∷ [] }) l) ≡ has_under_way o (λ k. k == t) l) [ true ↦ refl | false ↦ refl ]
        | false ↦ refl
      ]

-- ---- a box settles

module _ (o : Opening) where
  waits_still : (before rest : List Answer) (b : Box) → AreTaken b.links rest → answers_waiting before + answers_waiting rest + replies_queued b.links ≤ replies_waiting (settle_from o before rest b)
  waits_still before [] b taken = omega arith
  waits_still before (a ∷ rest) b taken =
      let first = count-cons (λ (x : Answer). is_reply x.out.pdu) a rest in
      let goes = waits_still before rest (enter a.conn a.out b) (each-weaken (λ (x : Answer). list_any (λ (l : Link). l.conn == x.conn && takes_more l) b.links ≡ true) (λ (x : Answer). list_any (λ (l : Link). l.conn == x.conn && takes_more l) (enter a.conn a.out b).links ≡ true) rest
      (λ x is. taken_same a.conn (record a.out { time = b.time }) x.conn b.links ∙ is) taken.1) in
      let more = one_more a.conn (record a.out { time = b.time }) b.links taken.0 in
      let stays = waits_still (before ++ a ∷ []) rest b taken.1 in
      let pushed = count_push (λ (x : Answer). is_reply x.out.pdu) before a in
      elim (is_due o b before a) as (λ v. answers_waiting before + answers_waiting (a ∷ rest) + replies_queued b.links ≤ replies_waiting (cond v (settle_from o before rest (enter a.conn a.out b)) (settle_from o (before ++ a ∷ []) rest b))) [
        | true ↦ omega (arith, first, goes, more)
        | false ↦ omega (arith, first, stays, pushed)
      ]

  pub waits_settled : (b : Box) → AreTaken b.links b.undue → replies_waiting b ≤ replies_waiting (settle o b)
  waits_settled b taken = let e = waits_still [] b.undue b taken in omega (arith, e)

  settled_tasks : (before rest : List Answer) (b : Box) → (settle_from o before rest b).tasks ≡ b.tasks
  settled_tasks before [] b = refl
  settled_tasks before (a ∷ rest) b =
      let goes = settled_tasks before rest (enter a.conn a.out b) in
      let stays = settled_tasks (before ++ a ∷ []) rest b in
      elim (is_due o b before a) as (λ v. (cond v (settle_from o before rest (enter a.conn a.out b)) (settle_from o (before ++ a ∷ []) rest b)).tasks ≡ b.tasks) [ true ↦ goes | false ↦ stays ]

  settled_under : (before rest : List Answer) (b : Box) (t : ℕ) → is_under_way o (settle_from o before rest b).links t ≡ is_under_way o b.links t
  settled_under before [] b t = refl
  settled_under before (a ∷ rest) b t =
      let goes = settled_under before rest (enter a.conn a.out b) t ∙ under_entered a.conn (record a.out { time = b.time }) o b.links t in
      let stays = settled_under (before ++ a ∷ []) rest b t in
      elim (is_due o b before a) as (λ v. is_under_way o (cond v (settle_from o before rest (enter a.conn a.out b)) (settle_from o (before ++ a ∷ []) rest b)).links t ≡ is_under_way o b.links t) [ true ↦ goes | false ↦ stays ]

  pub tasks_settled : (b : Box) → (settle o b).tasks ≡ b.tasks
  tasks_settled b = settled_tasks [] b.undue b

  pub under_settled : (b : Box) (t : ℕ) → is_under_way o (settle o b).links t ≡ is_under_way o b.links t
  under_settled b t = settled_under [] b.undue b t
