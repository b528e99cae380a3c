-- What the items show of a command that completed: the item of its completion, and the reply that this sends, in its place of the log.
use Rattle.std.proofs.Common.{◌≡◌, ℕ, zero, suc, ◌==◌, ◌+◌, ◌<◌, ◌≤◌, ◌&&◌, ◌||◌, Bool, true, false, List, [], ◌∷◌, ◌++◌, length, filter_map, Option, Some, None, refl, ap, sym, subst, ◌∙◌, arith}
use Rattle.std.specs.List.{list_any, flat_map, cons_option}
use Rattle.std.proofs.lemmas.Bool.{false≢true, eqb-true}
use Rattle.std.proofs.lemmas.List.{append_assoc, length-append}
use Rattle.iscsi_wire.specs.declared.reply.Reply.{Reply}
use Rattle.iscsi_wire.specs.declared.request.Request.{Request}
use Rattle.iscsi_rules.specs.declared.effect.Effect.{Effect}
use Rattle.iscsi_rules.specs.declared.entry.Entry.{Entry}
use Rattle.iscsi_rules.specs.declared.event.Event.{Event}
use Rattle.iscsi_rules.specs.rules.Settings.{Setting}
use Rattle.iscsi_rules.specs.rules.Trace.{Mark, Trace, first_of}
use Rattle.iscsi_rules.specs.rules.Run.{newly_enabled, effects_of_item, trace_of, run_of}
use Rattle.iscsi_rules.specs.promises.Order.{in_parts}
use Rattle.iscsi_rules.proofs.items.Forms.{AtTurn, AtArrival, AfterWaiting, Form, Ignored, Rejected, Received, Postponed, Completed, Executed, marks_of_form, HasForm, HaveForms}
use Rattle.iscsi_rules.proofs.items.FormRuns.{trace_has_forms}
use Rattle.iscsi_outbox_rules.specs.rules.Calls.{Opening, Call}
use Rattle.iscsi_outbox_rules.specs.rules.Boxes.{Aim, Handed}
use Rattle.iscsi_outbox_rules.specs.rules.Items.{executing, tickets_left, reply_sent, aim}
use Rattle.iscsi_outbox_rules.specs.rules.Run.{opened}
use Rattle.iscsi_outbox_rules.specs.promises.Deeds.{Deed, deeds_of, items_in, FollowsSession}
use Rattle.iscsi_outbox_rules.specs.promises.Scope.{Sent, Entered, entered_in, nth, sent_by, sent_as, aim_of_sent, completed_in, is_completed_in, covers_completed, is_about, is_past_by}
use Rattle.iscsi_outbox_rules.specs.promises.Fence.{is_fenced}
use Rattle.iscsi_outbox_rules.proofs.general.EachLemmas.{EachOf, each-second}
use Rattle.iscsi_outbox_rules.proofs.general.DeedLemmas.{items_in-append}
use Rattle.iscsi_outbox_rules.proofs.general.FirstLemmas.{sent_as_first, firsts_from, firsts, firsts-none, firsts-some, firsts-append, length-push}
use Rattle.iscsi_outbox_rules.proofs.order.SentLemmas.{items_logged, one_reply_before, sent_by-firsts}
use Rattle.iscsi_outbox_rules.proofs.order.LineRuns.{sent_now}
use Rattle.iscsi_outbox_rules.proofs.commands.LeaveLemmas.{leaving, leavings}
use Rattle.iscsi_outbox_rules.proofs.commands.ResponseHomes.{none_leaves, none_executes, each_at}
use Rattle.iscsi_outbox_rules.proofs.closes.ClosedParts.{EachItem, walk_log}
use Rattle.iscsi_outbox_rules.proofs.aborts.SilentItems.{sent_split, completed_leaves}

some_sent : (s r : Sent) → Some s ≡ Some r → s ≡ r
some_sent s r h = cc

-- ---- a completion sends a reply

module _ (k : ℕ) where
  abbrev pub Answers : List Effect → Type 0
  Answers item = completed_in item ≡ Some k → (x : ℕ × Reply) × (first_of (filter_map reply_sent item) ≡ Some x)

  answers_idle : (es : List Effect) → executing es ≡ None → tickets_left es ≡ [] → Answers es
  answers_idle es none unleft is =
      let shown : completed_in es ≡ None = ap (λ x. elim x [ Some r ↦ None | None ↦ first_of (tickets_left es) ]) none ∙ ap first_of unleft in
      absurd (let no : None ≡ Some k = sym shown ∙ is in cc)

  answers_request : (es : List Effect) (r : Request) → executing es ≡ Some r → Answers es
  answers_request es r some is =
      let shown : completed_in es ≡ None = ap (λ x. elim x [ Some r ↦ None | None ↦ first_of (tickets_left es) ]) some in
      absurd (let no : None ≡ Some k = sym shown ∙ is in cc)

  answers_form : (o : Setting) (t : Trace) (form : Form) → Answers (effects_of_item o t (marks_of_form form))
  answers_form o t (Ignored why) = answers_idle (effects_of_item o t (marks_of_form (Ignored why))) refl (none_leaves (newly_enabled o t (marks_of_form (Ignored why))))
  answers_form o t (Rejected a) = answers_idle (effects_of_item o t (marks_of_form (Rejected a))) refl (none_leaves (newly_enabled o t (marks_of_form (Rejected a))))
  answers_form o t (Received a) = answers_idle (effects_of_item o t (marks_of_form (Received a))) (none_executes (newly_enabled o t (marks_of_form (Received a)))) (none_leaves (newly_enabled o t (marks_of_form (Received a))))
  answers_form o t (Postponed a) = answers_idle (effects_of_item o t (marks_of_form (Postponed a))) refl (none_leaves (newly_enabled o t (marks_of_form (Postponed a))))
  answers_form o t (Completed d status) = λ is. (_, refl)
  answers_form o t (Executed AtTurn a d) = answers_request (effects_of_item o t (marks_of_form (Executed AtTurn a d))) a.request refl
  answers_form o t (Executed AtArrival a d) = answers_request (effects_of_item o t (marks_of_form (Executed AtArrival a d))) a.request refl
  answers_form o t (Executed AfterWaiting a d) = answers_request (effects_of_item o t (marks_of_form (Executed AfterWaiting a d))) a.request refl

  abbrev Formed : Setting → Trace → List Mark → Type 0
  Formed o t item = ((now : ℕ) × HasForm o now t item) × Answers (effects_of_item o t item)

  answer_all : (o : Setting) (t : Trace) (next : ℕ) → HaveForms o next t → EachItem (Formed o) t
  answer_all o [] next x = tt
  answer_all o (item ∷ t) next x =
      let f : HasForm o x.0 t item = x.1.1.0 in
      (((x.0, f), subst (λ i. Answers (effects_of_item o t i)) (sym f.is) (answers_form o t f.form)), answer_all o t _ x.1.1.1)

  answers_nothing : Answers []
  answers_nothing is = absurd (let no : None ≡ Some k = is in cc)

  pub answered_each : (o : Opening) (cs : List Call) → FollowsSession o cs → EachOf Answers (items_in (deeds_of o cs))
  answered_each o cs follows =
      let h : List Event = follows.0 in
      let same : items_in (deeds_of o cs) ≡ flat_map (λ (e : Entry). in_parts e.effects) (run_of o.session h) = items_logged o (opened o) cs ∙ ap (flat_map (λ (e : Entry). in_parts e.effects)) follows.1 in
      subst (EachOf Answers) (sym same)
      (each_at Answers [] (flat_map (λ (e : Entry). in_parts e.effects) (run_of o.session h))
      (walk_log o.session (Formed o.session) (λ t item x. x.0) (λ parts t. Unit {0}) (λ parts part. Answers part)
      (record { none = λ parts t i. (answers_nothing, tt); one = λ parts t item x i. (x.1, tt) }) h (answer_all o.session (trace_of o.session h) (length h) (trace_has_forms o.session h)) tt))

-- ---- places

-- before a reply so many were sent as its place says
pub place_counts : (pre xs : List (List Effect)) (n : ℕ) (s : Sent) → nth n (firsts_from pre xs) ≡ Some s → length (firsts s.before) ≡ length (firsts pre) + n
place_counts pre [] n s h = absurd cc
place_counts pre (x ∷ xs) n s h = by_first (first_of (filter_map reply_sent x)) refl (λ m. place_counts (pre ++ x ∷ []) xs m s) n h
  where
    by_first : (y : Option (ℕ × Reply)) → first_of (filter_map reply_sent x) ≡ y → ((m : ℕ) → nth m (firsts_from (pre ++ x ∷ []) xs) ≡ Some s → length (firsts s.before) ≡ length (firsts (pre ++ x ∷ [])) + m)
        → (m : ℕ) → nth m (cons_option (sent_as_first pre x y) (firsts_from (pre ++ x ∷ []) xs)) ≡ Some s → length (firsts s.before) ≡ length (firsts pre) + m
    by_first None is later m k = later m k ∙ ap (λ ss. length ss + m) (firsts-none pre x is)
    by_first (Some (conn, reply)) is later zero k =
        let here : Sent = record { before = pre; item = x; conn = conn; reply = reply } in
        let z : length (firsts pre) ≡ length (firsts pre) + 0 = omega arith in
        ap (λ (r : Sent). length (firsts r.before)) (sym (some_sent here s k)) ∙ z
    by_first (Some (conn, reply)) is later (suc m) k =
        let here : Sent = record { before = pre; item = x; conn = conn; reply = reply } in
        let rest : length (firsts s.before) ≡ length (firsts (pre ++ x ∷ [])) + m = later m k in
        let one : length (firsts (pre ++ x ∷ [])) ≡ length (firsts pre) + 1 = ap length (firsts-some pre x conn reply is) ∙ length-push (firsts pre) here in
        omega (arith, rest, one)

module _ (t : ℕ) where
  -- the reply of a completion stands in one place
  later_leaves : (pre xs : List (List Effect)) (n : ℕ) (s : Sent) → nth n (firsts_from pre xs) ≡ Some s → completed_in s.item ≡ Some t → 1 ≤ leavings t xs
  later_leaves pre [] n s h completed = absurd cc
  later_leaves pre (x ∷ xs) n s h completed = by_first (first_of (filter_map reply_sent x)) (λ m. later_leaves (pre ++ x ∷ []) xs m s) n h
    where
      by_first : (y : Option (ℕ × Reply)) → ((m : ℕ) → nth m (firsts_from (pre ++ x ∷ []) xs) ≡ Some s → completed_in s.item ≡ Some t → 1 ≤ leavings t xs)
          → (m : ℕ) → nth m (cons_option (sent_as_first pre x y) (firsts_from (pre ++ x ∷ []) xs)) ≡ Some s → 1 ≤ leaving t x + leavings t xs
      by_first None later m k = let z : 1 ≤ leavings t xs = later m k completed in omega (arith, z)
      by_first (Some (conn, reply)) later zero k =
          let here : Sent = record { before = pre; item = x; conn = conn; reply = reply } in
          let z : 1 ≤ leaving t x = completed_leaves t x (ap (λ (r : Sent). completed_in r.item) (some_sent here s k) ∙ completed) in
          omega (arith, z)
      by_first (Some (conn, reply)) later (suc m) k = let z : 1 ≤ leavings t xs = later m k completed in omega (arith, z)

  pub one_place : (pre xs : List (List Effect)) (p q : ℕ) (s r : Sent) → nth p (firsts_from pre xs) ≡ Some s → nth q (firsts_from pre xs) ≡ Some r → completed_in s.item ≡ Some t → completed_in r.item ≡ Some t
      → leavings t xs ≤ 1 → p ≡ q
  one_place pre [] p q s r h k first second once = absurd cc
  one_place pre (x ∷ xs) p q s r h k first second once = by_first (first_of (filter_map reply_sent x)) (λ m n. one_place (pre ++ x ∷ []) xs m n s r) p q h k
    where
      more : List (List Effect)
      more = pre ++ x ∷ []

      not_both : (m : ℕ) (u v : Sent) (conn : ℕ) (reply : Reply) → Some (record { before = pre; item = x; conn = conn; reply = reply }) ≡ Some u → nth m (firsts_from more xs) ≡ Some v
          → completed_in u.item ≡ Some t → completed_in v.item ≡ Some t → ⊥
      not_both m u v conn reply here there is its =
          let z : 1 ≤ leaving t x = completed_leaves t x (ap (λ (w : Sent). completed_in w.item) (some_sent (record { before = pre; item = x; conn = conn; reply = reply }) u here) ∙ is) in
          let y : 1 ≤ leavings t xs = later_leaves more xs m v there its in
          omega (arith, z, y, once)

      Later : Type 0
      Later = (m n : ℕ) → nth m (firsts_from more xs) ≡ Some s → nth n (firsts_from more xs) ≡ Some r → completed_in s.item ≡ Some t → completed_in r.item ≡ Some t → leavings t xs ≤ 1 → m ≡ n

      by_first : (y : Option (ℕ × Reply)) → Later → (m n : ℕ) → nth m (cons_option (sent_as_first pre x y) (firsts_from more xs)) ≡ Some s → nth n (cons_option (sent_as_first pre x y) (firsts_from more xs)) ≡ Some r → m ≡ n
      by_first None later m n u v = later m n u v first second (omega (arith, once))
      by_first (Some (conn, reply)) later zero zero u v = refl
      by_first (Some (conn, reply)) later zero (suc n) u v = absurd (not_both n s r conn reply u v first second)
      by_first (Some (conn, reply)) later (suc m) zero u v = absurd (not_both m r s conn reply v u second first)
      by_first (Some (conn, reply)) later (suc m) (suc n) u v = ap suc (later m n u v first second (omega (arith, once)))

  -- ---- the completion

  pub record Done (items : List (List Effect)) : Type 0 where
    pub before : List (List Effect)
    pub item : List Effect
    pub rest : List (List Effect)
    pub whole : before ++ item ∷ rest ≡ items
    pub completed : completed_in item ≡ Some t

  pub done_in : (items : List (List Effect)) → list_any (is_completed_in t) items ≡ true → Done items
  done_in [] h = absurd (false≢true h)
  done_in (item ∷ items) h =
      elim (is_completed_in t item) as (λ v. is_completed_in t item ≡ v → (v || list_any (is_completed_in t) items) ≡ true → Done (item ∷ items)) [
        | true ↦ λ is here. record { before = []; item = item; rest = items; whole = refl; completed = by_ticket (completed_in item) is }
        | false ↦ λ is later. let d : Done items = done_in items later in record { before = item ∷ d.before; item = d.item; rest = d.rest; whole = ap (λ its. item ∷ its) d.whole; completed = d.completed }
      ] refl h
    where
      by_ticket : (x : Option ℕ) → elim x [ Some k ↦ k == t | None ↦ false ] ≡ true → x ≡ Some t
      by_ticket None e = absurd (false≢true e)
      by_ticket (Some k) e = ap (λ n. Some n) (eqb-true k t e)

-- ---- the answer by which it is over

parts_of : (v w : Bool) → (v && w) ≡ true → (v ≡ true) × (w ≡ true)
parts_of true w k = (refl, k)
parts_of false w k = absurd (false≢true k)

module _ (o : Opening) (calls : List Call) (follows : FollowsSession o calls) (t : ℕ) (before after : List Deed) (answer : Deed) (h : Handed) (whole : before ++ answer ∷ after ≡ deeds_of o calls)
    (s : Sent) (is_sent : sent_as (items_in before) h.out ≡ Some s) (past : is_past_by o s t ≡ true) where
  abbrev items : List (List Effect)
  items = items_in before

  abbrev tests : Option Aim → Bool
  tests x = elim x [ Some about ↦ covers_completed about s.reply && list_any (λ (e : Entered). e.ticket == t && is_about about s.item e) (flat_map entered_in s.before) | None ↦ false ]

  both : (list_any (is_completed_in t) s.before ≡ true) × (tests (aim_of_sent o s) ≡ true)
  both = parts_of (list_any (is_completed_in t) s.before) (tests (aim_of_sent o s)) past

  pub past_fenced : is_fenced o items h ≡ true
  past_fenced =
      ap (λ x. elim x [ Some r ↦ elim (aim_of_sent o r) [ Some about ↦ covers_completed about r.reply | None ↦ false ] | None ↦ false ]) is_sent ∙ by_aim (aim_of_sent o s) both.1
    where
      by_aim : (x : Option Aim) → tests x ≡ true → elim x [ Some about ↦ covers_completed about s.reply | None ↦ false ] ≡ true
      by_aim None k = k
      by_aim (Some about) k = (parts_of (covers_completed about s.reply) _ k).0

  -- the reply of its completion, in its place, before that of the answer
  pub record Response : Type 0 where
    pub place : ℕ
    pub reply : Sent
    pub completed : completed_in reply.item ≡ Some t
    pub found : first_of (filter_map reply_sent reply.item) ≡ Some (reply.conn, reply.reply)
    pub rest : List (List Effect)
    pub split : reply.before ++ reply.item ∷ rest ≡ items
    pub place_is : place ≡ length (firsts reply.before)
    pub nth_is : nth place (firsts items) ≡ Some reply
    pub at_once : aim_of_sent o reply ≡ None
    pub behind : ℕ
    pub behind_is : h.out.sent ≡ Some behind
    pub less : place < behind

  pub response : Response
  response = record {
    place = p;
    reply = r;
    completed = d.completed;
    found = x.1;
    rest = d.rest ++ s.item ∷ k.0;
    split = split;
    place_is = refl;
    nth_is = sent_now o items d.before (d.rest ++ s.item ∷ k.0) d.item x.0.0 p x.0.1 split x.1 refl;
    at_once = by_request (executing d.item) d.completed;
    behind = placed.0;
    behind_is = placed.1.0;
    less = less;
  }
    where
      d : Done t s.before
      d = done_in t s.before both.0

      k : (rest : List (List Effect)) × (s.before ++ s.item ∷ rest ≡ items)
      k = sent_split items h.out s is_sent

      split : d.before ++ d.item ∷ (d.rest ++ s.item ∷ k.0) ≡ items
      split = sym (append_assoc d.before (d.item ∷ d.rest) (s.item ∷ k.0)) ∙ ap (λ its. its ++ s.item ∷ k.0) d.whole ∙ k.1

      all : d.before ++ d.item ∷ ((d.rest ++ s.item ∷ k.0) ++ items_in (answer ∷ after)) ≡ items_in (deeds_of o calls)
      all = sym (append_assoc d.before (d.item ∷ (d.rest ++ s.item ∷ k.0)) (items_in (answer ∷ after))) ∙ ap (λ its. its ++ items_in (answer ∷ after)) split ∙ sym (items_in-append before (answer ∷ after)) ∙ ap items_in whole

      x : (x : ℕ × Reply) × (first_of (filter_map reply_sent d.item) ≡ Some x)
      x = (each-second (Answers t) d.before (d.item ∷ ((d.rest ++ s.item ∷ k.0) ++ items_in (answer ∷ after))) (subst (EachOf (Answers t)) (sym all) (answered_each t o calls follows))).0 d.completed

      r : Sent
      r = record { before = d.before; item = d.item; conn = x.0.0; reply = x.0.1 }

      p : ℕ
      p = length (firsts d.before)

      by_request : (y : Option Request) → elim y [ Some q ↦ None | None ↦ first_of (tickets_left d.item) ] ≡ Some t → aim o y x.0.1 ≡ None
      by_request None e = refl
      by_request (Some q) e = absurd cc

      placed : (q : ℕ) × ((h.out.sent ≡ Some q) × (nth q (sent_by items) ≡ Some s))
      placed = by_place (h.out.sent) refl is_sent
        where
          by_place : (y : Option ℕ) → h.out.sent ≡ y → elim y [ Some q ↦ nth q (sent_by items) | None ↦ None ] ≡ Some s → (q : ℕ) × ((h.out.sent ≡ Some q) × (nth q (sent_by items) ≡ Some s))
          by_place None e n = absurd cc
          by_place (Some q) e n = (q, (e, n))

      less : p < placed.0
      less =
          let more = firsts-append (d.before ++ d.item ∷ []) d.rest in
          let counted : length (firsts s.before) ≡ 0 + placed.0 = place_counts [] items placed.0 s (ap (nth placed.0) (sym (sent_by-firsts items (one_reply_before o calls before (answer ∷ after) whole follows))) ∙ placed.1.1) in
          let same : length (firsts s.before) ≡ length (firsts (d.before ++ d.item ∷ [])) + length more.0 =
          ap (λ its. length (firsts its)) (sym d.whole ∙ sym (append_assoc d.before (d.item ∷ []) d.rest)) ∙ ap length more.1 ∙ length-append (firsts (d.before ++ d.item ∷ [])) more.0 in
          let one : length (firsts (d.before ++ d.item ∷ [])) ≡ p + 1 = ap length (firsts-some d.before d.item x.0.0 x.0.1 x.1) ∙ length-push (firsts d.before) r in
          omega (arith, counted, same, one)
