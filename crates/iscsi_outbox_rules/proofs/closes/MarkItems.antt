-- What an item makes of the marks of connections.
use Rattle.std.proofs.Common.{◌≡◌, ℕ, ◌==◌, ◌||◌, ◌&&◌, not, cond, Bool, true, false, List, [], ◌∷◌, ◌++◌, filter, filter_map, Option, Some, None, refl, ap, sym, subst, ◌∙◌}
use Rattle.std.specs.List.{list_any, flat_map}
use Rattle.std.proofs.lemmas.Bool.{false≢true, eqb-true}
use Rattle.std.proofs.lemmas.List.{append_assoc, append-nil}
use Rattle.std.proofs.lemmas.List.Folds.{list_any-append}
use Rattle.iscsi_wire.specs.Fields.{connection_of}
use Rattle.iscsi_wire.specs.declared.request.Request.{Request}
use Rattle.iscsi_rules.specs.declared.effect.Effect.{Effect}
use Rattle.iscsi_rules.specs.declared.effect.Effect.TheVariants.{Deliver, Immediate, Wait, Void, Empty, Enter, Enable, Leave, Send, CloseConn, CloseSession, Ignore}
use Rattle.iscsi_rules.specs.rules.Trace.{first_of}
use Rattle.iscsi_rules.proofs.general.BoolLemmas.{or_false, and_false}
use Rattle.iscsi_outbox_rules.specs.rules.Calls.{Opening}
use Rattle.iscsi_outbox_rules.specs.rules.Boxes.{Link, Box}
use Rattle.iscsi_outbox_rules.specs.rules.Words.{contains}
use Rattle.iscsi_outbox_rules.specs.rules.Items.{executing, tickets_left, reply_sent, ticket_enabled, conns_closed, closed_in, newly_closed, phase_enabled, in_phase, leave, enter_tasks, close, send, after_item, after_items}
use Rattle.iscsi_outbox_rules.specs.promises.Scope.{is_closed_by, closes_in}
use Rattle.iscsi_outbox_rules.proofs.general.EachLemmas.{EachOf}
use Rattle.iscsi_outbox_rules.proofs.general.ConnLemmas.{conns_of, HaveConns, have_conns, conn_walk}
use Rattle.iscsi_outbox_rules.proofs.general.Walks.{items_keep}
use Rattle.iscsi_outbox_rules.proofs.closes.MarkRuns.{closes_as, by_another, closed_by, cut_by, closed_by-more, cut_by-more, Marked, marks_settle, marks_leave, marks_entered, marks_send, marks_as, marks_close_all}

-- ---- which connections an item closes

closed_effect : (links : List Link) (c : ℕ) → list_any (λ k. k == c) (conns_of links) ≡ true → (e : Effect) → contains (conns_closed links e) c ≡ is_closed_by c e
closed_effect links c known (Deliver r) = refl
closed_effect links c known (Immediate r) = refl
closed_effect links c known (Wait r) = refl
closed_effect links c known (Void n) = refl
closed_effect links c known (Empty n) = refl
closed_effect links c known (Enter ticket unit attr) = refl
closed_effect links c known (Enable ticket unit) = refl
closed_effect links c known (Leave ticket unit) = refl
closed_effect links c known (Send conn stat_sn reply) = refl
closed_effect links c known (CloseConn conn) = or_false (conn == c)
closed_effect links c known CloseSession = known
closed_effect links c known (Ignore why) = refl

closed_effects : (links : List Link) (c : ℕ) → list_any (λ k. k == c) (conns_of links) ≡ true → (item : List Effect) → contains (flat_map (conns_closed links) item) c ≡ closes_in c item
closed_effects links c known [] = refl
closed_effects links c known (e ∷ item) =
    list_any-append (λ k. k == c) (conns_closed links e) (flat_map (conns_closed links) item)
    ∙ ap (λ v. v || contains (flat_map (conns_closed links) item) c) (closed_effect links c known e)
    ∙ ap (λ v. is_closed_by c e || v) (closed_effects links c known item)

in_both : (x y q : Bool) → (x ≡ true → q ≡ true) → (x || (y && q)) ≡ ((x || y) && q)
in_both true y true h = refl
in_both true y false h = absurd (false≢true (h refl))
in_both false y q h = refl

in_rest : (x y q : Bool) → (x ≡ true → q ≡ false) → (y && q) ≡ ((x || y) && q)
in_rest true y true h = absurd (false≢true (sym (h refl)))
in_rest true y false h = and_false y
in_rest false y q h = refl

in_filter : (p : ℕ → Bool) (c : ℕ) (ns : List ℕ) → contains (filter p ns) c ≡ (contains ns c && p c)
in_filter p c [] = refl
in_filter p c (n ∷ ns) =
    elim (p n) as (λ v. p n ≡ v → contains (cond v (n ∷ filter p ns) (filter p ns)) c ≡ (((n == c) || contains ns c) && p c)) [
      | true ↦ λ is. ap (λ v. (n == c) || v) (in_filter p c ns) ∙ in_both (n == c) (contains ns c) (p c) (λ same. ap p (sym (eqb-true n c same)) ∙ is)
      | false ↦ λ isnt. in_filter p c ns ∙ in_rest (n == c) (contains ns c) (p c) (λ same. ap p (sym (eqb-true n c same)) ∙ isnt)
    ] refl

in_either : (x y k q : Bool) → (x ≡ true → k ≡ q) → ((x && k) || (y && q)) ≡ ((x || y) && q)
in_either true y true true h = refl
in_either true y false true h = absurd (false≢true (h refl))
in_either true y true false h = absurd (false≢true (sym (h refl)))
in_either true y false false h = and_false y
in_either false y k q h = refl

pub any_closed : (cs : List ℕ) (f g : ℕ → Bool) (c : ℕ) (links : List Link) → EachOf (Marked cs f g) links → list_any (λ (l : Link). (l.conn == c) && l.closed) links ≡ (contains (conns_of links) c && f c)
any_closed cs f g c [] h = refl
any_closed cs f g c (l ∷ links) h =
    ap (λ v. ((l.conn == c) && l.closed) || v) (any_closed cs f g c links h.1)
    ∙ in_either (l.conn == c) (contains (conns_of links) c) l.closed (f c) (λ same. h.0.closed ∙ ap f (eqb-true l.conn c same))

pub newly : (cs : List ℕ) (f g : ℕ → Bool) (b : Box) (item : List Effect) (c : ℕ) → EachOf (Marked cs f g) b.links → list_any (λ k. k == c) (conns_of b.links) ≡ true
    → contains (newly_closed b (closed_in b item)) c ≡ (closes_in c item && not (f c))
newly cs f g b item c h known =
    in_filter (λ conn. not (list_any (λ (l : Link). (l.conn == conn) && l.closed) b.links)) c (closed_in b item)
    ∙ ap (λ v. v && not (list_any (λ (l : Link). (l.conn == c) && l.closed) b.links)) (closed_effects b.links c known item)
    ∙ ap (λ v. closes_in c item && not v) (any_closed cs f g c b.links h ∙ ap (λ v. v && f c) known)

-- ---- an item

pub record MarksStand (cs : List ℕ) (items : List (List Effect)) (b : Box) : Type 0 where
  pub conns : conns_of b.links ≡ cs
  pub marks : EachOf (Marked cs (closed_by items) (cut_by items)) b.links

or_new : (x y : Bool) → (x || (y && not x)) ≡ (x || y)
or_new true true = refl
or_new true false = refl
or_new false true = refl
or_new false false = refl

none_new : (x n : Bool) → x ≡ (x || ((false && n) && false))
none_new true n = refl
none_new false n = refl

pub item_marks : (o : Opening) (cs : List ℕ) (items : List (List Effect)) (b : Box) (item : List Effect) → MarksStand cs items b → MarksStand cs (items ++ item ∷ []) (after_item o b item)
item_marks o cs items b item h = record {
  conns = items_keep o (λ its (x : Box). HaveConns cs x.links) (conn_walk (HaveConns cs) (have_conns cs) o) items b (item ∷ []) h.conns;
  marks =
      marks_settle cs (closed_by its) (cut_by its) o [] _ (in_phase phase_enabled (filter_map ticket_enabled item) (send o (executing item) (tickets_left item) (closed_in b item) closes (first_of (filter_map reply_sent item)) (close (executing item) closes entered)))
      (marks_send cs (closed_by its) (cut_by its) o (close (executing item) closes entered) (executing item) (tickets_left item) (closed_in b item) closes (first_of (filter_map reply_sent item)) (closed (executing item) refl));
}
  where
    its : List (List Effect)
    its = items ++ item ∷ []

    f : ℕ → Bool
    f = closed_by items

    g : ℕ → Bool
    g = cut_by items

    closes : List ℕ
    closes = newly_closed b (closed_in b item)

    entered : Box
    entered = enter_tasks (executing item) item (leave (executing item) (tickets_left item) b)

    marked : EachOf (Marked cs f g) entered.links
    marked = marks_entered cs f g (executing item) item (leave (executing item) (tickets_left item) b) (marks_leave cs f g (executing item) (tickets_left item) b h.marks)

    new : (c : ℕ) → list_any (λ k. k == c) cs ≡ true → contains closes c ≡ (closes_in c item && not (f c))
    new c known = newly cs f g b item c h.marks (ap (list_any (λ k. k == c)) h.conns ∙ known)

    closed : (r : Option Request) → executing item ≡ r → EachOf (Marked cs (closed_by its) (cut_by its)) (close r closes entered).links
    closed (Some r) is =
        marks_as cs (λ c. f c || contains closes c) (λ c. g c || (contains closes c && not (c == connection_of r))) (closed_by its) (cut_by its) (close (Some r) closes entered).links
        (λ c known. ap (λ v. f c || v) (new c known) ∙ or_new (f c) (closes_in c item) ∙ ap (λ x. f c || closes_as c x item) (sym is) ∙ sym (closed_by-more items item c))
        (λ c known. ap (λ v. g c || (v && not (c == connection_of r))) (new c known) ∙ ap (λ x. g c || ((closes_as c x item && not (f c)) && by_another c x)) (sym is) ∙ sym (cut_by-more items item c))
        (marks_close_all cs f g (connection_of r) closes entered marked)
    closed None is =
        marks_as cs f g (closed_by its) (cut_by its) entered.links
        (λ c known. sym (or_false (f c)) ∙ ap (λ x. f c || closes_as c x item) (sym is) ∙ sym (closed_by-more items item c))
        (λ c known. none_new (g c) (not (f c)) ∙ ap (λ x. g c || ((closes_as c x item && not (f c)) && by_another c x)) (sym is) ∙ sym (cut_by-more items item c))
        marked

pub items_marks : (o : Opening) (cs : List ℕ) (items more : List (List Effect)) (b : Box) → MarksStand cs items b → MarksStand cs (items ++ more) (after_items o b more)
items_marks o cs items [] b h = subst (λ its. MarksStand cs its b) (sym (append-nil items)) h
items_marks o cs items (item ∷ more) b h =
    subst (λ its. MarksStand cs its (after_items o (after_item o b item) more)) (append_assoc items (item ∷ []) more)
    (items_marks o cs (items ++ item ∷ []) more (after_item o b item) (item_marks o cs items b item h))
