-- How many wait, and how many commands owe: the same in both.
use Rattle.std.proofs.Common.{◌≡◌, ℕ, ◌+◌, ◌-◌, ◌*◌, ◌&&◌, ◌||◌, not, cond, nat_lt, min, max, Bool, true, false, List, [], ◌∷◌, ◌++◌, length, filter, count_by, sum_by, refl, ap, sym, ◌∙◌, arith}
use Rattle.std.specs.List.{list_any}
use Rattle.std.proofs.lemmas.List.{length-map}
use Rattle.std.proofs.lemmas.List.Sums.{sum_by-cons}
use Rattle.iscsi_outbox_rules.specs.rules.Calls.{Opening}
use Rattle.iscsi_outbox_rules.specs.rules.Boxes.{Dormant, Fresh, Started, Completed, Running, Gone, Phase, Task, Outgoing, Answer, Link, Box}
use Rattle.iscsi_outbox_rules.specs.rules.Words.{credit_of, is_left_phase, is_live_phase, is_reply, is_running_phase, max_shown, may_take, numbered_waiting, owes, owing, replies_waiting}
use Rattle.iscsi_outbox_state.specs.declared.lane.Left.{Left}
use Rattle.iscsi_outbox_state.specs.declared.lane.Undue.{Undue}
use Rattle.iscsi_outbox_state.specs.declared.lane.Standing.{Standing}
use Rattle.iscsi_outbox_state.specs.declared.lane.Standing.TheVariants.{Left as IsLeft, Undue as IsUndue}
use Rattle.iscsi_outbox_state.specs.declared.waiting.Content.{Content}
use Rattle.iscsi_outbox_state.specs.declared.waiting.Content.TheVariants.{Reply, Own}
use Rattle.iscsi_outbox_state.specs.Waits.{Entry, count_in as count_waits, is_numbered as is_numbered_entry, is_reply as is_reply_entry}
use Rattle.iscsi_outbox_state.specs.Lane.{is_left, is_numbered as is_numbered_answer}
use Rattle.iscsi_tracked.specs.declared.command.Command.{Command}
use Rattle.iscsi_tracked.specs.declared.command.Phase.{Phase as KeptPhase}
use Rattle.iscsi_tracked.specs.declared.command.Phase.TheVariants.{Dormant as KeptDormant, Fresh as KeptFresh, Started as KeptStarted, Running as KeptRunning, Gone as KeptGone}
use Rattle.iscsi_tracked.specs.Tracked.{Tracked}
use Rattle.iscsi_outbox_steps.specs.State.{State, Limits, credit_of as credit_of_steps, max_shown as max_shown_steps, may_take as may_take_steps, numbered_waiting as numbered_waiting_steps, owing as owing_steps, replies_waiting as replies_waiting_steps}
use Rattle.iscsi_outbox_steps.specs.Steps.{is_live}
use Rattle.iscsi_outbox_law.specs.private.Links.{AreQueues, IsEntry, IsQueue, pdu_of}
use Rattle.iscsi_outbox_law.specs.private.Commands.{IsCommand, is_kept, is_under_way, phase_of}
use Rattle.iscsi_outbox_law.specs.private.Lanes.{AreAnswers, IsAnswer, is_gone}
use Rattle.iscsi_outbox_law.specs.private.Stands.{Stands}
use Rattle.iscsi_outbox_law.proofs.general.PairLemmas.{pairs-any, pairs-count}

-- ---- what waits in queues

module _ (v : Tracked) (p : Entry → Bool) (q : Outgoing → Bool) (alike : (cid : ℕ) (e : Entry) (out : Outgoing) → IsEntry v cid e out → p e ≡ q out) where
  pub queue_counted : (queue : List Entry) (l : Link) → IsQueue v queue l → count_by p queue ≡ count_by q l.queue
  queue_counted queue l h = pairs-count (IsEntry v l.conn) p q queue l.queue (alike l.conn) h

  pub queue_any : (queue : List Entry) (l : Link) → IsQueue v queue l → list_any p queue ≡ list_any q l.queue
  queue_any queue l h = pairs-any (IsEntry v l.conn) p q queue l.queue (alike l.conn) h

  pub queues_counted : (queues : List (List Entry)) (links : List Link) → AreQueues v queues links → sum_by (λ (es : List Entry). count_by p es) queues ≡ sum_by (λ (l : Link). count_by q l.queue) links
  queues_counted [] [] h = refl
  queues_counted (es ∷ queues) (l ∷ links) h =
      sum_by-cons (λ (xs : List Entry). count_by p xs) es queues ∙ ap (λ n. n + sum_by (λ (xs : List Entry). count_by p xs) queues) (queue_counted es l h.0)
      ∙ ap (λ n. count_by q l.queue + n) (queues_counted queues links h.1) ∙ sym (sum_by-cons (λ (m : Link). count_by q m.queue) l links)
  queues_counted [] (l ∷ links) h = absurd h
  queues_counted (es ∷ queues) [] h = absurd h

  pub queues_any : (queues : List (List Entry)) (links : List Link) → AreQueues v queues links → list_any (λ (es : List Entry). list_any p es) queues ≡ list_any (λ (l : Link). list_any q l.queue) links
  queues_any queues links h = pairs-any (IsQueue v) (λ (es : List Entry). list_any p es) (λ (l : Link). list_any q l.queue) queues links queue_any h

-- ---- what waits in the lane

module _ (cids : List ℕ) (v : Tracked) (p : Standing → Bool) (q : Answer → Bool) (none : (c : Left) → p (IsLeft c) ≡ false)
    (alike : (before : List Standing) (a : Undue) (answer : Answer) → IsAnswer cids v before a answer → p (IsUndue a) ≡ q answer) where
  pub answers_counted : (before items : List Standing) (answers : List Answer) → AreAnswers cids v before items answers → count_by p items ≡ count_by q answers
  answers_counted before [] [] h = refl
  answers_counted before [] (answer ∷ answers) h = absurd h
  answers_counted before (IsLeft c ∷ items) answers h =
      let rest = answers_counted (before ++ IsLeft c ∷ []) items answers h in
      sum_by-cons (λ (x : Standing). cond (p x) 1 0) (IsLeft c) items ∙ (let z : cond (p (IsLeft c)) 1 0 + count_by p items ≡ count_by q answers = omega (arith, ap {B = ℕ} (λ (u : Bool). cond u 1 0) (none c), rest) in z)
  answers_counted before (IsUndue a ∷ items) [] h = absurd h
  answers_counted before (IsUndue a ∷ items) (answer ∷ answers) h =
      sum_by-cons (λ (x : Standing). cond (p x) 1 0) (IsUndue a) items ∙ ap (λ (u : Bool). cond u 1 0 + count_by p items) (alike before a answer h.0)
      ∙ ap (λ n. cond (q answer) 1 0 + n) (answers_counted (before ++ IsUndue a ∷ []) items answers h.1) ∙ sym (sum_by-cons (λ (x : Answer). cond (q x) 1 0) answer answers)

  pub answers_any : (before items : List Standing) (answers : List Answer) → AreAnswers cids v before items answers → list_any p items ≡ list_any q answers
  answers_any before [] [] h = refl
  answers_any before [] (answer ∷ answers) h = absurd h
  answers_any before (IsLeft c ∷ items) answers h = ap (λ (u : Bool). u || list_any p items) (none c) ∙ answers_any (before ++ IsLeft c ∷ []) items answers h
  answers_any before (IsUndue a ∷ items) [] h = absurd h
  answers_any before (IsUndue a ∷ items) (answer ∷ answers) h =
      ap (λ (u : Bool). u || list_any p items) (alike before a answer h.0) ∙ ap (λ (u : Bool). q answer || u) (answers_any (before ++ IsUndue a ∷ []) items answers h.1)

-- ---- commands

pub live_as : (c : Command) (t : Task) → phase_of c.phase ≡ t.phase → is_live c ≡ is_live_phase t.phase
live_as c t same = by_phase (c.phase) ∙ ap is_live_phase same
  where
    by_phase : (p : KeptPhase) → elim p [ KeptDormant ↦ true | KeptFresh ↦ true | KeptStarted ↦ true | KeptRunning ↦ false | KeptGone ↦ false ] ≡ is_live_phase (phase_of p)
    by_phase KeptDormant = refl
    by_phase KeptFresh = refl
    by_phase KeptStarted = refl
    by_phase KeptRunning = refl
    by_phase KeptGone = refl

not_of : (v : Bool) → cond v false true ≡ not v
not_of true = refl
not_of false = refl

filter_counted : {A : Type 0} (p q r : A → Bool) (xs : List A) → ((x : A) → (p x && q x) ≡ r x) → count_by q (filter p xs) ≡ count_by r xs
filter_counted p q r [] same = refl
filter_counted p q r (x ∷ xs) same =
    let rest = filter_counted p q r xs same in
    elim (p x) as (λ v. (v && q x) ≡ r x → count_by q (cond v (x ∷ filter p xs) (filter p xs)) ≡ count_by r (x ∷ xs)) [
      | true ↦ λ is. sum_by-cons (λ y. cond (q y) 1 0) x (filter p xs) ∙ ap (λ (u : Bool). cond u 1 0 + count_by q (filter p xs)) is ∙ ap (λ n. cond (r x) 1 0 + n) rest ∙ sym (sum_by-cons (λ y. cond (r y) 1 0) x xs)
      | false ↦ λ is. rest ∙ (let z : count_by r xs ≡ cond (r x) 1 0 + count_by r xs = omega (arith, ap {B = ℕ} (λ (u : Bool). cond u 1 0) is) in z) ∙ sym (sum_by-cons (λ y. cond (r y) 1 0) x xs)
    ] (same x)

-- those that are kept and aren't live owe
owing_one : (p : Phase) (u : Bool) → ((is_live_phase p || (is_running_phase p || (is_left_phase p && u))) && not (is_live_phase p)) ≡ (is_running_phase p || (is_left_phase p && u))
owing_one Dormant u = refl
owing_one Fresh u = refl
owing_one Started u = refl
owing_one Completed u = refl
owing_one Running u = refl
owing_one Gone true = refl
owing_one Gone false = refl

reply_as : (c : Content) → elim c [ Reply reply ↦ true | Own own ↦ false ] ≡ is_reply (pdu_of c)
reply_as (Reply reply) = refl
reply_as (Own own) = refl

credit : ℕ → ℕ → ℕ → ℕ → ℕ
credit window room n k = min window (room - max n k)

module _ (o : Opening) (s : State) (b : Box) (h : Stands o s b) where
  pub owing_is : owing_steps s ≡ owing o b
  owing_is =
      h.left.counted
      ∙ pairs-count (IsCommand (is_under_way o b.links) s.limits.cids b.links) is_gone (λ (t : Task). not (is_live_phase t.phase)) s.tracked.commands (filter (is_kept (is_under_way o b.links)) b.tasks)
      (λ c t k. not_of (is_live c) ∙ ap not (live_as c t k.phase)) h.commands
      ∙ filter_counted (is_kept (is_under_way o b.links)) (λ (t : Task). not (is_live_phase t.phase)) (owes o b) b.tasks (λ t. owing_one t.phase (is_under_way o b.links t.ticket))

  pub numbered_is : numbered_waiting_steps s ≡ numbered_waiting b
  numbered_is =
      let queued : count_waits is_numbered_entry s.waits ≡ sum_by (λ (l : Link). count_by (λ (out : Outgoing). out.numbered) l.queue) b.links =
      queues_counted s.tracked is_numbered_entry (λ (out : Outgoing). out.numbered) (λ cid e out k. k.numbered) s.waits.queues b.links h.queues in
      let standing : count_by is_numbered_answer s.lane.items ≡ count_by (λ (a : Answer). a.out.numbered) b.undue =
      answers_counted s.limits.cids s.tracked is_numbered_answer (λ (a : Answer). a.out.numbered) (λ c. refl) (λ before a answer k. k.numbered) [] s.lane.items b.undue h.answers in
      omega (arith, queued, standing)

  pub replies_are : replies_waiting_steps s ≡ replies_waiting b
  replies_are =
      let queued : count_waits is_reply_entry s.waits ≡ sum_by (λ (l : Link). count_by (λ (out : Outgoing). is_reply out.pdu) l.queue) b.links =
      queues_counted s.tracked is_reply_entry (λ (out : Outgoing). is_reply out.pdu) (λ cid e out k. reply_as (e.item.content) ∙ ap is_reply k.pdu) s.waits.queues b.links h.queues in
      let standing : count_by (λ x. not (is_left x)) s.lane.items ≡ count_by (λ (a : Answer). is_reply a.out.pdu) b.undue =
      answers_counted s.limits.cids s.tracked (λ x. not (is_left x)) (λ (a : Answer). is_reply a.out.pdu) (λ c. refl) (λ before a answer k. sym (ap is_reply k.pdu)) [] s.lane.items b.undue h.answers in
      omega (arith, queued, standing)

  window_is : s.limits.window ≡ o.session.window
  window_is = ap (λ (l : Limits). l.window) h.sizes.limits

  as_many_cids : length s.limits.cids ≡ length o.session.conns
  as_many_cids = ap (λ (l : Limits). length l.cids) h.sizes.limits ∙ length-map o.session.conns (λ (c : ℕ × ℕ). c.0)

  credit_is : credit_of_steps s ≡ credit_of o b
  unfolding credit
  credit_is =
      let first : credit_of_steps s ≡ credit s.limits.window (2 * s.limits.window + 12 * length s.limits.cids) (numbered_waiting_steps s) (owing_steps s) = refl in
      first ∙ ap (λ n. credit s.limits.window (2 * s.limits.window + 12 * length s.limits.cids) n (owing_steps s)) numbered_is
      ∙ ap (λ n. credit s.limits.window (2 * s.limits.window + 12 * length s.limits.cids) (numbered_waiting b) n) owing_is
      ∙ ap (λ n. credit s.limits.window (2 * s.limits.window + 12 * n) (numbered_waiting b) (owing o b)) as_many_cids
      ∙ ap (λ n. credit n (2 * n + 12 * length o.session.conns) (numbered_waiting b) (owing o b)) window_is

  pub max_shown_is : max_shown_steps s ≡ max_shown o b
  max_shown_is =
      ap (λ n. max n (s.max - (s.limits.window - credit_of_steps s))) h.numbers.shown
      ∙ ap (λ n. max b.shown (n - (s.limits.window - credit_of_steps s))) h.numbers.max
      ∙ ap (λ n. max b.shown (b.max - (n - credit_of_steps s))) window_is
      ∙ ap (λ n. max b.shown (b.max - (o.session.window - n))) credit_is

  -- whether a request more may be taken
  pub may_take_is : may_take_steps s ≡ may_take o b
  may_take_is =
      ap (λ n. nat_lt n (2 * (s.limits.window + 12 * length s.limits.cids)) && nat_lt (owing_steps s) (2 * (s.limits.window + 12 * length s.limits.cids))) replies_are
      ∙ ap (λ n. nat_lt (replies_waiting b) (2 * (s.limits.window + 12 * length s.limits.cids)) && nat_lt n (2 * (s.limits.window + 12 * length s.limits.cids))) owing_is
      ∙ ap (λ n. nat_lt (replies_waiting b) (2 * (s.limits.window + 12 * n)) && nat_lt (owing o b) (2 * (s.limits.window + 12 * n))) as_many_cids
      ∙ ap (λ n. nat_lt (replies_waiting b) (2 * (n + 12 * length o.session.conns)) && nat_lt (owing o b) (2 * (n + 12 * length o.session.conns))) window_is
