-- The effects of an item stand in order.
use Rattle.std.proofs.Common.{◌≡◌, ℕ, ◌≤◌, ◌||◌, cond, Bool, true, false, List, [], ◌∷◌, ◌++◌, map, count_by, Option, Some, None, refl, ap, sym, subst, ◌∙◌, arith, nat_le}
use Rattle.std.proofs.lemmas.Grind.{common_steps}
use Rattle.std.specs.List.{list_any, list_all, flat_map}
use Rattle.std.proofs.lemmas.List.Sums.{sum_by-cons}
use Rattle.iscsi_wire.specs.declared.reply.Reply.{Reply}
use Rattle.iscsi_wire.specs.Fields.{connection_of}
use Rattle.iscsi_rules.specs.declared.effect.Effect.{Effect}
use Rattle.iscsi_rules.specs.declared.effect.Effect.TheVariants.{Deliver, Immediate, Wait, Void, Empty, Enter, Enable, Leave, Send, CloseConn, CloseSession}
use Rattle.iscsi_rules.specs.rules.Settings.{Setting}
use Rattle.iscsi_rules.specs.rules.Trace.{Arrival, Command, Mark, Voids, Empties, Leaves, Enters, Sends, ClosesConn, ClosesSession, Trace}
use Rattle.iscsi_rules.specs.rules.Run.{effects_of_mark, newly_enabled, effects_of_item}
use Rattle.iscsi_rules.specs.promises.Closes.{is_ignored}
use Rattle.iscsi_rules.specs.promises.Order.{is_request, is_reply, rank, never_falls, IsInOrder}
use Rattle.iscsi_rules.proofs.general.BoolLemmas.{and_both}
use Rattle.iscsi_rules.proofs.traces.NewlyLemmas.{newly-untouched}
use Rattle.iscsi_rules.proofs.items.Forms.{AtTurn, Deeds, if_some, marks_done, Form, Ignored, Rejected, Received, Postponed, Completed, Executed, marks_of_form, HasForm}

-- ---- effects of rising ranks

-- ranks never fall, and are k or more; replies are few, and nothing is ignored
record Rises (k : ℕ) (es : List Effect) : Type 0 where
  sorted : never_falls (map rank es) ≡ true
  from : list_all (λ e. nat_le k (rank e)) es ≡ true
  unignored : list_any is_ignored es ≡ false
  replies : count_by is_reply es ≤ cond (nat_le k 5) 1 0
  requests : count_by is_request es ≤ cond (nat_le k 0) 1 0

-- effects that a rank alone allows to begin with
le_first : (k : ℕ) (es : List Effect) (n : ℕ) → list_all (λ e. nat_le k (rank e)) es ≡ true → never_falls (map rank es) ≡ true → n ≤ k → never_falls (n ∷ map rank es) ≡ true
le_first k [] n from sorted low = refl
le_first k (e ∷ es) n from sorted low = grind arith

weaker_from : (j k : ℕ) (es : List Effect) → j ≤ k → list_all (λ e. nat_le k (rank e)) es ≡ true → list_all (λ e. nat_le j (rank e)) es ≡ true
weaker_from j k [] low from = refl
weaker_from j k (e ∷ es) low from = grind (arith, weaker_from j k es)

rises-on : (j k : ℕ) (es : List Effect) → j ≤ k → Rises k es → Rises j es
rises-on j k es low r = grind (arith, weaker_from)

rises-none : (k : ℕ) → Rises k []
rises-none k = record { sorted = refl; from = refl; unignored = refl; replies = (let z : 0 ≤ cond (nat_le k 5) 1 0 = omega arith in z); requests = (let z : 0 ≤ cond (nat_le k 0) 1 0 = omega arith in z) }

-- an effect that may come several times
rises-again : (k : ℕ) (e : Effect) (es : List Effect) → rank e ≡ k → is_ignored e ≡ false → is_reply e ≡ false → is_request e ≡ false → Rises k es → Rises k (e ∷ es)
rises-again k e es here heard silent later r = grind (arith, le_first)

-- the effects of a part of the marks, and what follows
module _ (o : Setting) (t : Trace) where
  rises_leaves : (cs : List Command) (ms : List Mark) (rest : List Effect) → Rises 2 (flat_map (effects_of_mark o t) ms ++ rest) → Rises 2 (flat_map (effects_of_mark o t) (map Leaves cs ++ ms) ++ rest)
  rises_leaves [] ms rest r = r
  rises_leaves (c ∷ cs) ms rest r = rises-again 2 (Leave c.ticket c.unit) _ refl refl refl refl (rises_leaves cs ms rest r)

  rises_empties : (as' : List Arrival) (ms : List Mark) (rest : List Effect) → Rises 3 (flat_map (effects_of_mark o t) ms ++ rest) → Rises 3 (flat_map (effects_of_mark o t) (map Empties as' ++ ms) ++ rest)
  rises_empties [] ms rest r = r
  rises_empties (a ∷ as') ms rest r = rises-again 3 (Empty _) _ refl refl refl refl (rises_empties as' ms rest r)

  rises_voids : (x : Option ℕ) (ms : List Mark) (rest : List Effect) → Rises 2 (flat_map (effects_of_mark o t) ms ++ rest) → Rises 1 (flat_map (effects_of_mark o t) (if_some Voids x ++ ms) ++ rest)
  rises_voids None ms rest r = rises-on 1 2 _ (omega arith) r
  rises_voids (Some n) ms rest r = rises-again 1 (Void _) _ refl refl refl refl (rises-on 1 2 _ (omega arith) r)

  rises_enters : (x : Option Command) (ms : List Mark) (rest : List Effect) → Rises 5 (flat_map (effects_of_mark o t) ms ++ rest) → Rises 4 (flat_map (effects_of_mark o t) (if_some Enters x ++ ms) ++ rest)
  rises_enters None ms rest r = rises-on 4 5 _ (omega arith) r
  rises_enters (Some c) ms rest r = rises-again 4 (Enter c.ticket c.unit c.attr) _ refl refl refl refl (rises-on 4 5 _ (omega arith) r)

  rises_closes : (x : Option ℕ) (ms : List Mark) (rest : List Effect) → Rises 7 (flat_map (effects_of_mark o t) ms ++ rest) → Rises 6 (flat_map (effects_of_mark o t) (if_some ClosesConn x ++ ms) ++ rest)
  rises_closes None ms rest r = rises-on 6 7 _ (omega arith) r
  rises_closes (Some conn) ms rest r = rises-again 6 (CloseConn conn) _ refl refl refl refl (rises-on 6 7 _ (omega arith) r)

  rises_end : (b : Bool) (rest : List Effect) → Rises 8 rest → Rises 7 (flat_map (effects_of_mark o t) (cond b (ClosesSession ∷ []) []) ++ rest)
  rises_end true rest r = rises-again 7 CloseSession _ refl refl refl refl (rises-on 7 8 _ (omega arith) r)
  rises_end false rest r = rises-on 7 8 _ (omega arith) r

rises_enables : (cs : List Command) → Rises 8 (map (λ (c : Command). Enable c.ticket c.unit) cs)
rises_enables [] = rises-none 8
rises_enables (c ∷ cs) = rises-again 8 (Enable c.ticket c.unit) _ refl refl refl refl (rises_enables cs)

-- a reply, and after it no other
rises_reply : (conn sn : ℕ) (reply : Reply) (es : List Effect) → Rises 6 es → Rises 5 (Send conn sn reply ∷ es)
rises_reply conn sn reply es r = grind (arith, common_steps, le_first, weaker_from)

-- a request, and after it no other
rises_request : (e : Effect) (es : List Effect) → rank e ≡ 0 → is_ignored e ≡ false → is_reply e ≡ false → Rises 1 es → Rises 0 (e ∷ es)
rises_request e es here heard silent r = record {
  sorted = le_first 1 es (rank e) r.from r.sorted (omega (arith, here));
  from = all_from (e ∷ es);
  unignored = ap (λ b. b || list_any is_ignored es) heard ∙ r.unignored;
  replies = omega (arith, r.replies, sum_by-cons (λ x. cond (is_reply x) 1 0) e es, ap {B = ℕ} (λ b. cond b 1 0) silent);
  requests = (let one : cond (is_request e) 1 0 ≤ 1 = at_most (is_request e) in let z : count_by is_request (e ∷ es) ≤ 1 = omega (arith, r.requests, sum_by-cons (λ x. cond (is_request x) 1 0) e es, one) in z);
}
  where
    at_most : (b : Bool) → cond b 1 0 ≤ 1
    at_most b = grind arith

    all_from : (xs : List Effect) → list_all (λ x. nat_le 0 (rank x)) xs ≡ true
    all_from [] = refl
    all_from (x ∷ xs) = and_both (nat_le 0 (rank x)) (list_all (λ y. nat_le 0 (rank y)) xs) (let z : nat_le 0 (rank x) ≡ true = grind arith in z) (all_from xs)

rises_reply_of : (o : Setting) (t : Trace) (conn : ℕ) (x : Option Reply) (ms : List Mark) (rest : List Effect) → Rises 6 (flat_map (effects_of_mark o t) ms ++ rest) → Rises 5 (flat_map (effects_of_mark o t) (if_some (Sends conn) x ++ ms) ++ rest)
rises_reply_of o t conn None ms rest r = rises-on 5 6 _ (omega arith) r
rises_reply_of o t conn (Some reply) ms rest r = rises_reply conn _ reply _ r

-- ---- items

in_order : (k : ℕ) (es : List Effect) → Rises k es → IsInOrder es
in_order k es r = grind arith

rises_done : (o : Setting) (t : Trace) (a : Arrival) (d : Deeds) (rest : List Effect) → Rises 8 rest → Rises 1 (flat_map (effects_of_mark o t) (marks_done a d) ++ rest)
rises_done o t a d rest r =
    rises_voids o t d.void _ rest (rises_leaves o t d.leaving _ rest (rises-on 2 3 _ (omega arith) (rises_empties o t d.emptied _ rest (rises-on 3 4 _ (omega arith) (rises_enters o t d.entering _ rest
    (rises_reply_of o t (connection_of a.request) d.reply _ rest (rises_closes o t d.closing _ rest (rises_end o t d.ending rest r))))))))

form_in_order : (o : Setting) (t : Trace) (form : Form) → IsInOrder (effects_of_item o t (marks_of_form form))
form_in_order o t (Ignored why) = grind (arith, newly-untouched)
form_in_order o t (Rejected a) = in_order 5 _ (rises_reply _ _ _ _ (rises-on 6 8 _ (omega arith) (rises_enables (newly_enabled o t (marks_of_form (Rejected a))))))
form_in_order o t (Received a) = in_order 8 _ (rises_enables (newly_enabled o t (marks_of_form (Received a))))
form_in_order o t (Postponed a) = in_order 0 _ (rises_request (Wait a.request) _ refl refl refl (rises-on 1 8 _ (omega arith) (rises_enables (newly_enabled o t (marks_of_form (Postponed a))))))
form_in_order o t (Completed c status) =
    in_order 2 _ (rises-again 2 (Leave c.ticket c.unit) _ refl refl refl refl (rises-on 2 5 _ (omega arith) (rises_reply _ _ _ _ (rises-on 6 8 _ (omega arith) (rises_enables (newly_enabled o t (marks_of_form (Completed c status))))))))
form_in_order o t (Executed AtTurn a d) = in_order 0 _ (rises_request (Deliver a.request) _ refl refl refl (rises_done o t a d _ (rises_enables (newly_enabled o t (marks_of_form (Executed AtTurn a d))))))
form_in_order o t (Executed start a d) = in_order 0 _ (rises_request (Immediate a.request) _ refl refl refl (rises_done o t a d _ (rises_enables (newly_enabled o t (marks_of_form (Executed start a d))))))

-- the effects of each item stand in order
pub item_in_order : (o : Setting) (now : ℕ) (t : Trace) (item : List Mark) → HasForm o now t item → IsInOrder (effects_of_item o t item)
item_in_order o now t item f = subst (λ ms. IsInOrder (effects_of_item o t ms)) (sym f.is) (form_in_order o t f.form)
