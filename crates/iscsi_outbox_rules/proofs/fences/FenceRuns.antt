-- The answer to a function of several tasks, or to an ABORT TASK that found none, is fenced, and takes a StatSN, wherever it waits.
use Rattle.std.proofs.Common.{◌≡◌, ℕ, ◌==◌, ◌+◌, ◌&&◌, not, Bool, true, false, List, [], ◌∷◌, ◌++◌, map, drop, length, filter_map, Option, Some, None, refl, ap, sym, subst, ◌∙◌}
use Rattle.std.specs.List.{list_any}
use Rattle.std.proofs.lemmas.Bool.{cond_both, false≢true}
use Rattle.std.proofs.lemmas.List.{append_assoc}
use Rattle.iscsi_wire.specs.declared.reply.Reply.{Reply}
use Rattle.iscsi_wire.specs.declared.reply.Reply.TheVariants.{Task as TaskReply}
use Rattle.iscsi_wire.specs.declared.request.Request.{Request}
use Rattle.iscsi_rules.specs.declared.effect.Effect.{Effect}
use Rattle.iscsi_rules.specs.rules.Trace.{first_of}
use Rattle.iscsi_outbox_rules.specs.rules.Calls.{Opening, Call}
use Rattle.iscsi_outbox_rules.specs.rules.Boxes.{Replies, Outgoing, Handed, Aim, AtTag, AtUnit, AtConns, Answer, Link, Box}
use Rattle.iscsi_outbox_rules.specs.rules.Queues.{at_link, takes_more, append, enter, without, emptied}
use Rattle.iscsi_outbox_rules.specs.rules.Items.{executing, tickets_left, reply_sent, outgoing, finds_none, is_fence, answer, send_as, aim, send}
use Rattle.iscsi_outbox_rules.specs.rules.Own.{own_outgoing}
use Rattle.iscsi_outbox_rules.specs.rules.Handing.{is_from_queue, taken_from, handed_as}
use Rattle.iscsi_outbox_rules.specs.rules.Run.{new_link, opened, after_call, answered, waits_for_clear, cleared}
use Rattle.iscsi_outbox_rules.specs.promises.Deeds.{Deed, items_in}
use Rattle.iscsi_outbox_rules.specs.promises.Scope.{Sent, nth, aim_of_sent, says_no_task, covers_completed}
use Rattle.iscsi_outbox_rules.proofs.general.EachLemmas.{EachOf, each-append, each-first, each-second, each-map, each-filter, each-at_link, each-drop_one}
use Rattle.iscsi_outbox_rules.proofs.general.FirstLemmas.{firsts, firsts-none, firsts-some, length-push}
use Rattle.iscsi_outbox_rules.proofs.general.Walks.{Walk}
use Rattle.iscsi_outbox_rules.proofs.order.LineRuns.{sent_now}
use Rattle.iscsi_outbox_rules.proofs.general.Boxwise.{Boxwise, box_keeps}

-- the reply answers a function of several tasks, or an ABORT TASK that found none
abbrev pub is_for_set : Opening → Sent → Bool
is_for_set o s = elim (aim_of_sent o s) [ Some about ↦ covers_completed about s.reply | None ↦ false ]

some_same : (x y : Sent) → Some x ≡ Some y → x ≡ y
some_same x y h = cc

some_number : (m n : ℕ) → Some m ≡ Some n → m ≡ n
some_number m n h = cc

none_is : (reply : Reply) → says_no_task reply ≡ true → finds_none (Replies reply) ≡ true
none_is (TaskReply tag response) is = is
none_is _ is = absurd (false≢true is)

set_is : (about : Aim) (reply : Reply) → covers_completed about reply ≡ true → is_fence about (Replies reply) ≡ true
set_is (AtTag tag unit) reply is = none_is reply is
set_is (AtUnit unit) reply is = refl
set_is AtConns reply is = absurd (false≢true is)

module _ (o : Opening) (all : List (List Effect)) where
  abbrev pub Fenced : Outgoing → Type 0
  Fenced x = (p : ℕ) (s : Sent) → x.sent ≡ Some p → nth p (firsts all) ≡ Some s → is_for_set o s ≡ true → (x.fenced ≡ true) × (x.takes ≡ true)

  abbrev LinkFenced : Link → Type 0
  LinkFenced l = EachOf Fenced l.queue

  abbrev AnswerFenced : Answer → Type 0
  AnswerFenced a = Fenced a.out

  pub record FencesStand (items : List (List Effect)) (b : Box) : Type 0 where
    pub counted : b.sent ≡ length (firsts items)
    pub links : EachOf LinkFenced b.links
    pub undue : EachOf AnswerFenced b.undue

  -- while what is taken is the beginning of all
  abbrev pub Fences : List (List Effect) → Box → Type 0
  Fences items b = (rest : List (List Effect)) → items ++ rest ≡ all → FencesStand items b

  unsent : (x : Outgoing) → x.sent ≡ None → Fenced x
  unsent x none p s place nth_is is = let no : None ≡ Some p = sym none ∙ place in absurd cc

  entered : (conn : ℕ) (out : Outgoing) (links : List Link) → Fenced out → EachOf LinkFenced links → EachOf LinkFenced (at_link conn (append out) links)
  entered conn out links new h =
      each-at_link LinkFenced LinkFenced conn (append out) links
      (λ l is k. cond_both (takes_more l) (record l { queue = l.queue ++ out ∷ [] }) l LinkFenced (λ more. each-append Fenced l.queue (out ∷ []) k (new, tt)) (λ no. k)) (λ l is k. k) h

  -- ---- what an item sends

  sends_one : (items rest : List (List Effect)) (b : Box) (item : List Effect) (conns closes : List ℕ) (x : Option (ℕ × Reply)) → first_of (filter_map reply_sent item) ≡ x → items ++ item ∷ rest ≡ all
      → FencesStand items b → FencesStand (items ++ item ∷ []) (send o (executing item) (tickets_left item) conns closes x b)
  sends_one items rest b item conns closes None none whole h = record { counted = h.counted ∙ ap length (sym (firsts-none items item none)); links = h.links; undue = h.undue }
  sends_one items rest b item conns closes (Some s) found whole h = by_request (executing item) refl
    where
      its : List (List Effect)
      its = items ++ item ∷ []

      sent : Sent
      sent = record { before = items; item = item; conn = s.0; reply = s.1 }

      counted : b.sent + 1 ≡ length (firsts its)
      counted = ap (λ k. k + 1) h.counted ∙ sym (length-push (firsts items) sent) ∙ ap length (sym (firsts-some items item s.0 s.1 found))

      -- it is the reply in its place
      is_sent : (p : ℕ) (r : Sent) → Some b.sent ≡ Some p → nth p (firsts all) ≡ Some r → sent ≡ r
      is_sent p r place nth_is = some_same sent r (sym (sent_now o all items rest item s.0 b.sent s.1 whole found h.counted) ∙ ap (λ n. nth n (firsts all)) (some_number b.sent p place) ∙ nth_is)

      -- one that doesn't have to wait answers no such function
      at_once : (r : Option Request) → executing item ≡ r → aim o r s.1 ≡ None → Fenced (outgoing b r (tickets_left item) s.1)
      at_once r is none p t place nth_is for =
          absurd (false≢true (sym (ap (λ (x : Sent). is_for_set o x) (sym (is_sent p t place nth_is)) ∙ ap (λ x. elim x [ Some about ↦ covers_completed about s.1 | None ↦ false ]) (ap (λ q. aim o q s.1) is ∙ none)) ∙ for))

      enters_now : (r : Option Request) → executing item ≡ r → aim o r s.1 ≡ None → FencesStand its (let b' = enter s.0 (outgoing b r (tickets_left item) s.1) b in record b' { sent = b'.sent + 1 })
      enters_now r is none = record { counted = counted; links = entered s.0 (record (outgoing b r (tickets_left item) s.1) { time = b.time }) b.links (at_once r is none) h.links; undue = h.undue }

      by_aim : (r : Request) → executing item ≡ Some r → (x : Option Aim) → aim o (Some r) s.1 ≡ x → FencesStand its (let b' = send_as o (Some r) x conns closes s.0 (outgoing b (Some r) (tickets_left item) s.1) b in record b' { sent = b'.sent + 1 })
      by_aim r is None none = enters_now (Some r) is none
      by_aim r is (Some about) some =
          let a : Answer = answer o b r conns closes s.0 (outgoing b (Some r) (tickets_left item) s.1) about in
          let fenced : Fenced a.out = λ p t place nth_is for. (
            set_is about s.1
                (sym (ap (λ x. elim x [ Some why ↦ covers_completed why s.1 | None ↦ false ]) (ap (λ q. aim o q s.1) is ∙ some)) ∙ ap (λ (x : Sent). is_for_set o x) (is_sent p t place nth_is) ∙ for),
            refl,
          ) in
          cond_both (list_any (λ (l : Link). (l.conn == a.conn) && takes_more l) b.links) (record b { undue = b.undue ++ a ∷ [] }) b (λ (b' : Box). FencesStand its (record b' { sent = b'.sent + 1 }))
          (λ may. record { counted = counted; links = h.links; undue = each-append AnswerFenced b.undue (a ∷ []) h.undue (fenced, tt) }) (λ may. record { counted = counted; links = h.links; undue = h.undue })

      by_request : (r : Option Request) → executing item ≡ r → FencesStand its (send o r (tickets_left item) conns closes (Some s) b)
      by_request (Some r) is = by_aim r is (aim o (Some r) s.1) refl
      by_request None is = enters_now None is refl

  fence_walk : Walk o Fences
  fence_walk = record {
    tasks = λ items b ts h rest whole. let k = h rest whole in record { counted = k.counted; links = k.links; undue = k.undue };
    drops = λ items b these h rest whole. let k = h rest whole in record { counted = k.counted; links = each-map LinkFenced LinkFenced (without these) b.links (λ l e. each-filter Fenced _ l.queue e) k.links; undue = k.undue };
    closes = λ items b conn h rest whole.
        let k = h rest whole in record { counted = k.counted; links = each-at_link LinkFenced LinkFenced conn (λ l. record l { closed = true }) b.links (λ l is e. e) (λ l is e. e) k.links; undue = k.undue };
    cuts = λ items b conn h rest whole.
        let k = h rest whole in record { counted = k.counted; links = each-at_link LinkFenced LinkFenced conn (λ l. record l { closed = true; cut = true }) b.links (λ l is e. e) (λ l is e. e) k.links; undue = k.undue };
    drops_on = λ items b conn over h rest whole. let k = h rest whole in record {
      counted = k.counted;
      links = each-at_link LinkFenced LinkFenced conn emptied b.links (λ l is e. tt) (λ l is e. e) k.links;
      undue = each-filter AnswerFenced (λ (a : Answer). not (a.conn == conn)) b.undue k.undue;
    };
    moves = λ items b before rest a due h more whole.
        let k = h more whole in
        let later = each-second AnswerFenced before (a ∷ rest) k.undue in
        record {
          counted = k.counted;
          links = entered a.conn (record (a.out) { time = b.time }) b.links later.0 k.links;
          undue = each-append AnswerFenced before rest (each-first AnswerFenced before (a ∷ rest) k.undue) later.1;
        };
    sends = λ items b item conns closes h rest whole.
        let whole' : items ++ item ∷ rest ≡ all = sym (append_assoc items (item ∷ []) rest) ∙ whole in
        sends_one items rest b item conns closes (first_of (filter_map reply_sent item)) refl whole' (h (item ∷ rest) whole');
  }

  -- ---- call by call

  clears : (unit : ℕ) (answers : List Answer) → EachOf AnswerFenced answers → EachOf AnswerFenced (cleared unit answers)
  clears unit [] h = tt
  clears unit (a ∷ answers) h =
      cond_both (waits_for_clear unit a) (record a { uncleared = false } ∷ answers) (a ∷ cleared unit answers) (EachOf AnswerFenced) (λ is. (h.0, h.1)) (λ is. (h.0, clears unit answers h.1))

  taken : (out : Outgoing) (l : Link) → LinkFenced l → LinkFenced (taken_from out l)
  taken out l e = cond_both (is_from_queue out) (record l { queue = drop 1 l.queue }) l LinkFenced (λ is. each-drop_one Fenced l.queue e) (λ is. e)

  pub fence_boxes : Boxwise o (λ (ds : List Deed) (b : Box). Unit {0}) Fences
  fence_boxes = record {
    walk = fence_walk;
    numbers = λ items b exp max h rest whole. let k = h rest whole in record { counted = k.counted; links = k.links; undue = k.undue };
    puts = λ items b conn p h rest whole.
        let k = h rest whole in record { counted = k.counted; links = entered conn (record (own_outgoing p) { time = b.time }) b.links (unsent (record (own_outgoing p) { time = b.time }) refl) k.links; undue = k.undue };
    marks = λ items b conn change alike h rest whole. let k = h rest whole in record {
      counted = k.counted;
      links = each-at_link LinkFenced LinkFenced conn change b.links (λ l is e. subst (EachOf Fenced) (sym (alike l).queue) e) (λ l is e. e) k.links;
      undue = k.undue;
    };
    reaches = λ items b n h rest whole. let k = h rest whole in record { counted = k.counted; links = k.links; undue = k.undue };
    clears = λ items b unit h rest whole. let k = h rest whole in record { counted = k.counted; links = k.links; undue = clears unit b.undue k.undue };
    hands = λ ds b conn h n from j stands rest whole.
        let k = stands rest whole in
        let g : Handed = handed_as o b n.link n.out in
        record {
          counted = k.counted;
          links = each-at_link LinkFenced LinkFenced n.link.conn (λ m. record m { handed = m.handed ++ g ∷ [] }) (at_link n.link.conn (taken_from n.out) b.links) (λ m is e. e) (λ m is e. e)
              (each-at_link LinkFenced LinkFenced n.link.conn (taken_from n.out) b.links (λ m is e. taken n.out m e) (λ m is e. e) k.links);
          undue = k.undue;
        };
  }

  pub fences_kept : (ds : List Deed) (b : Box) (c : Call) → Fences (items_in ds) b → Fences (items_in (ds ++ (c, answered o b c) ∷ [])) (after_call o b c)
  fences_kept ds b c h = box_keeps o (λ (es : List Deed) (x : Box). Unit {0}) Fences fence_boxes ds b c tt h

  pub fence_start : Fences [] (opened o)
  fence_start rest whole = record { counted = refl; links = starts o.session.conns; undue = tt }
    where
      starts : (xs : List (ℕ × ℕ)) → EachOf LinkFenced (map (λ (x : ℕ × ℕ). new_link x.0) xs)
      starts [] = tt
      starts (x ∷ xs) = (tt, starts xs)
