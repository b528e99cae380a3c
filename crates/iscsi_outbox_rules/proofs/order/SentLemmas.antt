-- Under a session each item sends one reply at the most, so that what enters is what was sent.
use Rattle.std.proofs.Common.{◌≡◌, ℕ, ◌+◌, ◌≤◌, cond, List, [], ◌∷◌, ◌++◌, length, map, filter_map, count_by, refl, ap, sym, subst, ◌∙◌, arith}
use Rattle.std.specs.List.{flat_map, cons_option}
use Rattle.std.proofs.lemmas.List.Sums.{sum_by-cons}
use Rattle.iscsi_wire.specs.declared.reply.Reply.{Reply}
use Rattle.iscsi_rules.specs.declared.effect.Effect.{Effect}
use Rattle.iscsi_rules.specs.declared.effect.Effect.TheVariants.{Deliver, Immediate, Wait, Void, Empty, Enter, Enable, Leave, Send, CloseConn, CloseSession, Ignore}
use Rattle.iscsi_rules.specs.declared.entry.Entry.{Entry}
use Rattle.iscsi_rules.specs.rules.Trace.{first_of}
use Rattle.iscsi_rules.specs.rules.Run.{run_of}
use Rattle.iscsi_rules.specs.promises.Order.{is_reply, in_parts, AreInOrder}
use Rattle.iscsi_rules.proofs.promises.OrderRuns.{keeps_order}
use Rattle.iscsi_outbox_rules.specs.rules.Calls.{Opening, Call, Takes, Puts, Stops, Nexts, Writes, Hears, Joins, Loses, Clears}
use Rattle.iscsi_outbox_rules.specs.rules.Boxes.{Box}
use Rattle.iscsi_outbox_rules.specs.rules.Items.{reply_sent}
use Rattle.iscsi_outbox_rules.specs.rules.Run.{opened, after_call}
use Rattle.iscsi_outbox_rules.specs.promises.Deeds.{Deed, deeds_from, deeds_of, items_in, entry_taken, FollowsSession}
use Rattle.iscsi_outbox_rules.specs.promises.Scope.{sent_from, sent_by}
use Rattle.iscsi_outbox_rules.proofs.general.EachLemmas.{EachOf, each-first}
use Rattle.iscsi_outbox_rules.proofs.general.DeedLemmas.{items_in-append}
use Rattle.iscsi_outbox_rules.proofs.general.FirstLemmas.{sent_as_first, first_sent, firsts_from, firsts, cons_append}

-- ---- the items that were taken are those of the log

pub items_logged : (o : Opening) (b : Box) (cs : List Call) → items_in (deeds_from o b cs) ≡ flat_map (λ (e : Entry). in_parts e.effects) (flat_map entry_taken cs)
items_logged o b [] = refl
items_logged o b (Takes effects numbers ∷ cs) = ap (λ its. in_parts effects ++ its) (items_logged o (after_call o b (Takes effects numbers)) cs)
items_logged o b (Puts p ∷ cs) = items_logged o (after_call o b (Puts p)) cs
items_logged o b (Stops ticket ∷ cs) = items_logged o (after_call o b (Stops ticket)) cs
items_logged o b (Nexts conn ∷ cs) = items_logged o (after_call o b (Nexts conn)) cs
items_logged o b (Writes conn ∷ cs) = items_logged o (after_call o b (Writes conn)) cs
items_logged o b (Hears conn exp_stat_sn tag ∷ cs) = items_logged o (after_call o b (Hears conn exp_stat_sn tag)) cs
items_logged o b (Joins conn stat_sn ∷ cs) = items_logged o (after_call o b (Joins conn stat_sn)) cs
items_logged o b (Loses conn ∷ cs) = items_logged o (after_call o b (Loses conn)) cs
items_logged o b (Clears unit ∷ cs) = items_logged o (after_call o b (Clears unit)) cs

abbrev pub OneReply : List Effect → Type 0
OneReply item = count_by is_reply item ≤ 1

each_one : (items : List (List Effect)) → AreInOrder items → EachOf OneReply items
each_one [] h = tt
each_one (item ∷ items) h = (h.0.one_reply, each_one items h.1)

pub one_reply_each : (o : Opening) (cs : List Call) → FollowsSession o cs → EachOf OneReply (items_in (deeds_of o cs))
one_reply_each o cs follows =
    let same : items_in (deeds_of o cs) ≡ flat_map (λ (e : Entry). in_parts e.effects) (run_of o.session follows.0) =
    items_logged o (opened o) cs ∙ ap (flat_map (λ (e : Entry). in_parts e.effects)) follows.1 in
    each_one (items_in (deeds_of o cs)) (subst AreInOrder (sym same) (keeps_order o.session follows.0))

-- so it is before any deed
pub one_reply_before : (o : Opening) (cs : List Call) (before : List Deed) (after : List Deed) → before ++ after ≡ deeds_of o cs → FollowsSession o cs → EachOf OneReply (items_in before)
one_reply_before o cs before after whole follows =
    each-first OneReply (items_in before) (items_in after)
    (subst (EachOf OneReply) (ap items_in (sym whole) ∙ items_in-append before after) (one_reply_each o cs follows))

-- ---- so what was sent are the first replies of items

replies_counted : (item : List Effect) → length (filter_map reply_sent item) ≡ count_by is_reply item
replies_counted [] = refl
replies_counted (e ∷ item) = by_effect e (replies_counted item) ∙ sym (sum_by-cons (λ (x : Effect). cond (is_reply x) 1 0) e item)
  where
    by_effect : (x : Effect) → length (filter_map reply_sent item) ≡ count_by is_reply item → length (cons_option (reply_sent x) (filter_map reply_sent item)) ≡ cond (is_reply x) 1 0 + count_by is_reply item
    by_effect (Deliver r) h = omega (arith, h)
    by_effect (Immediate r) h = omega (arith, h)
    by_effect (Wait r) h = omega (arith, h)
    by_effect (Void n) h = omega (arith, h)
    by_effect (Empty n) h = omega (arith, h)
    by_effect (Enter ticket unit attr) h = omega (arith, h)
    by_effect (Enable ticket unit) h = omega (arith, h)
    by_effect (Leave ticket unit) h = omega (arith, h)
    by_effect (Send conn stat_sn reply) h = omega (arith, h)
    by_effect (CloseConn conn) h = omega (arith, h)
    by_effect CloseSession h = omega (arith, h)
    by_effect (Ignore why) h = omega (arith, h)

sent_once : (before : List (List Effect)) (item : List Effect) (xs : List (ℕ × Reply)) → length xs ≤ 1
    → map (λ (s : ℕ × Reply). record { before = before; item = item; conn = s.0; reply = s.1 }) xs ≡ cons_option (sent_as_first before item (first_of xs)) []
sent_once before item [] h = refl
sent_once before item (x ∷ []) h = refl
sent_once before item (x ∷ y ∷ xs) h = absurd (omega (arith, h))

sent_firsts : (before items : List (List Effect)) → EachOf OneReply items → sent_from before items ≡ firsts_from before items
sent_firsts before [] h = refl
sent_firsts before (item ∷ items) h =
    let few : length (filter_map reply_sent item) ≤ 1 = omega (arith, replies_counted item, h.0) in
    ap (λ ss. ss ++ sent_from (before ++ item ∷ []) items) (sent_once before item (filter_map reply_sent item) few)
    ∙ ap (λ ss. cons_option (first_sent before item) [] ++ ss) (sent_firsts (before ++ item ∷ []) items h.1)
    ∙ sym (cons_append (first_sent before item) [] (firsts_from (before ++ item ∷ []) items))

pub sent_by-firsts : (items : List (List Effect)) → EachOf OneReply items → sent_by items ≡ firsts items
sent_by-firsts items h = sent_firsts [] items h
