-- Which connections of a box are closed: those that the session has closed; and one that is cut is closed.
use Rattle.std.proofs.Common.{◌≡◌, ℕ, ◌==◌, ◌&&◌, ◌||◌, not, cond, Bool, true, false, List, [], ◌∷◌, ◌++◌, map, Some, None, refl, ap, sym, subst, ◌∙◌, eq-eqb}
use Rattle.std.specs.List.{flat_map, list_any}
use Rattle.std.proofs.lemmas.Bool.{cond_both, eqb-true, false≢true, ne_eqb}
use Rattle.iscsi_wire.specs.declared.request.Request.{Request}
use Rattle.iscsi_wire.specs.Fields.{connection_of}
use Rattle.iscsi_rules.specs.declared.effect.Effect.{Effect}
use Rattle.iscsi_rules.specs.declared.effect.Effect.TheVariants.{CloseConn, CloseSession, Deliver, Empty, Enable, Enter, Ignore, Immediate, Leave, Send, Void, Wait}
use Rattle.iscsi_rules.specs.rules.Run.{effects_of_item, effects_of_mark, newly_enabled}
use Rattle.iscsi_rules.specs.rules.Settings.{Setting}
use Rattle.iscsi_rules.specs.rules.Trace.{Admits, ClosesConn, ClosesSession, Command, Delivers, Empties, Enters, Executes, Ignores, Leaves, Mark, Sends, Trace, Voids, Waits, closes_conn, closes_session, has, is_closed, is_ended}
use Rattle.iscsi_rules.proofs.items.Forms.{AfterWaiting, AtArrival, AtTurn, Completed, Executed, Form, HasForm, Ignored, Postponed, Received, Rejected, marks_of_form}
use Rattle.iscsi_rules.proofs.general.ListLemmas.{any_flat_map, filtered_among}
use Rattle.iscsi_outbox_rules.specs.rules.Boxes.{Box, Link}
use Rattle.iscsi_outbox_rules.specs.rules.Calls.{Opening}
use Rattle.iscsi_outbox_rules.specs.rules.Items.{after_item, close, close_all, close_one, closed_in, conns_closed, executing, newly_closed}
use Rattle.iscsi_outbox_rules.specs.rules.Queues.{at_link, drop_on}
use Rattle.iscsi_outbox_rules.specs.rules.Words.{contains}
use Rattle.iscsi_outbox_law.specs.private.Pairs.{EachOf}
use Rattle.iscsi_outbox_law.proofs.general.PairLemmas.{each-both}
use Rattle.iscsi_outbox_law.proofs.general.PlaceLemmas.{conns_of}
use Rattle.iscsi_ffi_law.proofs.outbox_invariants.FitLinks.{IsQueueRule, Moves, before_close, behind_close, moved_before, moved_behind, moved_by, moved_dropped, moved_each, moved_none, moved_then, moved_weaken}

-- ---- what closes in an item

-- closed as before
abbrev pub SameClosed : Link → Link → Type 0
SameClosed l m = (m.conn ≡ l.conn) × (m.closed ≡ l.closed)

pub same_closed : IsQueueRule SameClosed
same_closed = record { same = λ l. (refl, refl); queued = λ l queue may. (refl, refl); then = λ l m n f g. (g.0 ∙ f.0, g.1 ∙ f.1) }

-- these are closed, too
abbrev Closing : List ℕ → Link → Link → Type 0
Closing conns l m = (m.conn ≡ l.conn) × (m.closed ≡ (l.closed || contains conns l.conn))

or_same : (v : Bool) → v ≡ (v || false)
or_same true = refl
or_same false = refl

or_more : (u v w : Bool) → ((u || (v || false)) || w) ≡ (u || (v || w))
or_more true v w = refl
or_more false true w = refl
or_more false false w = refl

or_true : (v : Bool) → true ≡ (v || true)
or_true true = refl
or_true false = refl

module _ (o : Opening) where
  closed_one : (by conn : ℕ) (b : Box) → Moves (Closing (conn ∷ [])) b.links (close_one by conn b).links
  closed_one by conn b =
      let cut : Box = record b { links = at_link conn (λ l. record l { closed = true; cut = true }) b.links } in
      cond_both (conn == by) (record b { links = at_link conn (λ l. record l { closed = true }) b.links }) (drop_on conn cut) (λ (x : Box). Moves (Closing (conn ∷ [])) b.links x.links)
      (λ own. record { by = λ l. cond (l.conn == conn) (record l { closed = true }) l; is = refl; each = λ l. here l (record l { closed = true }) refl refl (l.conn == conn) refl })
      (λ other. moved_then (Closing (conn ∷ [])) SameClosed (Closing (conn ∷ [])) b.links cut.links (drop_on conn cut).links (λ l m n f g. (g.0 ∙ f.0, g.1 ∙ f.1))
      (record { by = λ l. cond (l.conn == conn) (record l { closed = true; cut = true }) l; is = refl; each = λ l. here l (record l { closed = true; cut = true }) refl refl (l.conn == conn) refl })
      (moved_dropped o SameClosed same_closed conn cut))
    where
      here : (l m : Link) → m.conn ≡ l.conn → m.closed ≡ true → (v : Bool) → (l.conn == conn) ≡ v → Closing (conn ∷ []) l (cond v m l)
      here l m same closed true is = (same, closed ∙ or_true l.closed ∙ ap (λ v. l.closed || (v || false)) (sym (eq-eqb conn l.conn (sym (eqb-true l.conn conn is)))))
      here l m same closed false is =
          (refl, or_same l.closed ∙ ap (λ v. l.closed || (v || false)) (sym (ne_eqb conn l.conn (λ e. false≢true (sym is ∙ eq-eqb l.conn conn (sym e))))))

  closed_all : (by : ℕ) (conns : List ℕ) (b : Box) → Moves (Closing conns) b.links (close_all by conns b).links
  closed_all by [] b = moved_weaken SameClosed (Closing []) b.links b.links (λ l m v. (v.0, v.1 ∙ or_same l.closed)) (moved_none o SameClosed same_closed b.links)
  closed_all by (conn ∷ conns) b =
      moved_then (Closing (conn ∷ [])) (Closing conns) (Closing (conn ∷ conns)) b.links (close_one by conn b).links (close_all by conns (close_one by conn b)).links
      (λ l m n f g. (g.0 ∙ f.0, g.1 ∙ ap (λ v. v || contains conns m.conn) f.1 ∙ ap (λ c. (l.closed || (conn == l.conn || false)) || contains conns c) f.0 ∙ or_more l.closed (conn == l.conn) (contains conns l.conn)))
      (closed_one by conn b) (closed_all by conns (close_one by conn b))

  -- while a request executes
  closed_executed : (b : Box) (item : List Effect) (r : Request) → executing item ≡ Some r → Moves (Closing (newly_closed b (closed_in b item))) b.links (after_item o b item).links
  closed_executed b item r is =
      let conns : List ℕ = newly_closed b (closed_in b item) in
      let behind : Box = behind_close b item in
      moved_then (Closing conns) SameClosed (Closing conns) b.links behind.links (after_item o b item).links (λ l m n f g. (g.0 ∙ f.0, g.1 ∙ f.1))
      (moved_then SameClosed (Closing conns) (Closing conns) b.links (before_close b item).links behind.links (λ l m n f g. (g.0 ∙ f.0, g.1 ∙ ap (λ v. v || contains conns m.conn) f.1 ∙ ap (λ c. l.closed || contains conns c) f.0))
      (moved_before o SameClosed same_closed b item)
      (subst (λ x. Moves (Closing conns) (before_close b item).links (close x conns (before_close b item)).links) (sym is) (closed_all (connection_of r) conns (before_close b item))))
      (moved_behind o SameClosed same_closed b item)

  -- and while none does
  closed_none : (b : Box) (item : List Effect) → executing item ≡ None → Moves SameClosed b.links (after_item o b item).links
  closed_none b item is =
      let conns : List ℕ = newly_closed b (closed_in b item) in
      let behind : Box = behind_close b item in
      moved_by o SameClosed same_closed b.links behind.links (after_item o b item).links
      (moved_by o SameClosed same_closed b.links (before_close b item).links behind.links (moved_before o SameClosed same_closed b item)
      (subst (λ x. Moves SameClosed (before_close b item).links (close x conns (before_close b item)).links) (sym is) (moved_none o SameClosed same_closed (before_close b item).links)))
      (moved_behind o SameClosed same_closed b item)

-- ---- what the marks say

-- the effect closes a connection of these
abbrev closes_one : ℕ → Effect → Bool
closes_one c (CloseConn conn) = conn == c
closes_one c CloseSession = true
closes_one c _ = false

closes_effect : (links : List Link) (c : ℕ) → contains (conns_of links) c ≡ true → (e : Effect) → contains (conns_closed links e) c ≡ closes_one c e
closes_effect links c there (CloseConn conn) = sym (or_same (conn == c))
closes_effect links c there CloseSession = there
closes_effect links c there (Deliver r) = refl
closes_effect links c there (Immediate r) = refl
closes_effect links c there (Wait r) = refl
closes_effect links c there (Void n) = refl
closes_effect links c there (Empty n) = refl
closes_effect links c there (Enter k u a) = refl
closes_effect links c there (Enable k u) = refl
closes_effect links c there (Leave k u) = refl
closes_effect links c there (Send conn n reply) = refl
closes_effect links c there (Ignore why) = refl

closed_effects : (links : List Link) (c : ℕ) → contains (conns_of links) c ≡ true → (es : List Effect) → contains (flat_map (conns_closed links) es) c ≡ list_any (closes_one c) es
closed_effects links c there es = any_flat_map (λ k. k == c) (conns_closed links) es ∙ same es
  where
    same : (xs : List Effect) → list_any (λ e. contains (conns_closed links e) c) xs ≡ list_any (closes_one c) xs
    same [] = refl
    same (e ∷ xs) = ap (λ v. v || list_any (λ x. contains (conns_closed links x) c) xs) (closes_effect links c there e) ∙ ap (λ v. closes_one c e || v) (same xs)

abbrev closed_by : ℕ → List Mark → Bool
closed_by c ms = list_any closes_session ms || list_any (closes_conn c) ms

closed_marks : (o : Setting) (t : Trace) (c : ℕ) (ms : List Mark) (cs : List Command) → list_any (closes_one c) (flat_map (effects_of_mark o t) ms ++ map (λ (x : Command). Enable x.ticket x.unit) cs) ≡ closed_by c ms
closed_marks o t c [] cs = none cs
  where
    none : (xs : List Command) → list_any (closes_one c) (map (λ (x : Command). Enable x.ticket x.unit) xs) ≡ false
    none [] = refl
    none (x ∷ xs) = none xs
closed_marks o t c (Admits a ∷ ms) cs = closed_marks o t c ms cs
closed_marks o t c (Delivers a ∷ ms) cs = closed_marks o t c ms cs
closed_marks o t c (Executes a ∷ ms) cs = closed_marks o t c ms cs
closed_marks o t c (Voids n ∷ ms) cs = closed_marks o t c ms cs
closed_marks o t c (Empties a ∷ ms) cs = closed_marks o t c ms cs
closed_marks o t c (Waits a ∷ ms) cs = closed_marks o t c ms cs
closed_marks o t c (Leaves d ∷ ms) cs = closed_marks o t c ms cs
closed_marks o t c (Enters d ∷ ms) cs = closed_marks o t c ms cs
closed_marks o t c (Sends conn reply ∷ ms) cs = closed_marks o t c ms cs
closed_marks o t c (ClosesConn conn ∷ ms) cs = ap (λ v. (conn == c) || v) (closed_marks o t c ms cs) ∙ swapped (conn == c) (list_any closes_session ms) (list_any (closes_conn c) ms)
  where
    swapped : (u v w : Bool) → (u || (v || w)) ≡ (v || (u || w))
    swapped true true w = refl
    swapped true false w = refl
    swapped false v w = refl
closed_marks o t c (ClosesSession ∷ ms) cs = refl
closed_marks o t c (Ignores why ∷ ms) cs = closed_marks o t c ms cs

-- ---- the same as in the session

-- as the session has it
abbrev pub AsIn : Trace → Link → Type 0
AsIn t l = l.closed ≡ is_closed l.conn t

-- a connection of these that is closed is closed as the session has it
any_closed : (t : Trace) (c : ℕ) (links : List Link) → EachOf (AsIn t) links → list_any (λ (l : Link). l.conn == c && l.closed) links ≡ (contains (conns_of links) c && is_closed c t)
any_closed t c [] h = refl
any_closed t c (l ∷ links) h = ap (λ v. (l.conn == c && l.closed) || v) (any_closed t c links h.1) ∙ by_first (l.conn == c) refl
  where
    both : (u v : Bool) → (v || (u && v)) ≡ v
    both true true = refl
    both true false = refl
    both false true = refl
    both false false = refl

    by_first : (v : Bool) → (l.conn == c) ≡ v → ((v && l.closed) || (contains (conns_of links) c && is_closed c t)) ≡ ((v || contains (conns_of links) c) && is_closed c t)
    by_first true is = let same : l.closed ≡ is_closed c t = h.0 ∙ ap (λ n. is_closed n t) (eqb-true l.conn c is) in ap (λ v. v || (contains (conns_of links) c && is_closed c t)) same ∙ both (contains (conns_of links) c) (is_closed c t)
    by_first false is = refl

each_there : (links : List Link) → EachOf (λ (l : Link). contains (conns_of links) l.conn ≡ true) links
each_there links = inner links links (λ (c : ℕ) h. h)
  where
    inner : (all ls : List Link) → ((c : ℕ) → contains (conns_of ls) c ≡ true → contains (conns_of all) c ≡ true) → EachOf (λ (l : Link). contains (conns_of all) l.conn ≡ true) ls
    inner all [] f = tt
    inner all (l ∷ ls) f = (f l.conn (ap (λ v. v || contains (conns_of ls) l.conn) (eq-eqb l.conn l.conn refl)), inner all ls (λ c h. f c (later (l.conn == c) (contains (conns_of ls) c) h)))
      where
        later : (u v : Bool) → v ≡ true → (u || v) ≡ true
        later true v h = refl
        later false v h = h

module _ (o : Opening) (t : Trace) (ms : List Mark) (b : Box) (h : EachOf (AsIn t) b.links) where
  abbrev es : List Effect
  es = effects_of_item o.session t ms

  -- what an item closes
  closing_is : (c : ℕ) → contains (conns_of b.links) c ≡ true → contains (newly_closed b (closed_in b (effects_of_item o.session t ms))) c ≡ (closed_by c ms && not (is_closed c t))
  closing_is c there =
      filtered_among (λ conn. not (list_any (λ (l : Link). l.conn == conn && l.closed) b.links)) c (closed_in b (effects_of_item o.session t ms))
      ∙ ap (λ v. v && not (list_any (λ (l : Link). l.conn == c && l.closed) b.links)) (closed_effects b.links c there (effects_of_item o.session t ms) ∙ closed_marks o.session t c ms (newly_enabled o.session t ms))
      ∙ ap (λ v. closed_by c ms && not v) (any_closed t c b.links h ∙ ap (λ v. v && is_closed c t) there)

  -- which are closed behind it
  by_bools : (s n e k : Bool) → ((e || k) || ((s || n) && not (e || k))) ≡ ((s || e) || (n || k))
  by_bools true true true k = refl
  by_bools true true false true = refl
  by_bools true true false false = refl
  by_bools true false true k = refl
  by_bools true false false true = refl
  by_bools true false false false = refl
  by_bools false true true k = refl
  by_bools false true false true = refl
  by_bools false true false false = refl
  by_bools false false true k = refl
  by_bools false false false true = refl
  by_bools false false false false = refl

  closed_more : (r : Request) → executing (effects_of_item o.session t ms) ≡ Some r → EachOf (AsIn (ms ∷ t)) (after_item o b (effects_of_item o.session t ms)).links
  closed_more r is =
      let conns : List ℕ = newly_closed b (closed_in b (effects_of_item o.session t ms)) in
      moved_each (Closing conns) (λ (l : Link). AsIn t l × (contains (conns_of b.links) l.conn ≡ true)) (AsIn (ms ∷ t)) b.links (after_item o b (effects_of_item o.session t ms)).links (closed_executed o b (effects_of_item o.session t ms) r is)
      (λ l m v k.
      v.1 ∙ ap (λ x. l.closed || x) (closing_is l.conn k.1) ∙ ap (λ x. x || (closed_by l.conn ms && not (is_closed l.conn t))) k.0
      ∙ by_bools (list_any closes_session ms) (list_any (closes_conn l.conn) ms) (is_ended t) (has (closes_conn l.conn) t)
      ∙ ap (λ c. is_closed c (ms ∷ t)) (sym v.0))
      (each-both (AsIn t) (λ (l : Link). contains (conns_of b.links) l.conn ≡ true) b.links h (each_there b.links))

  closed_still : executing (effects_of_item o.session t ms) ≡ None → ((c : ℕ) → closed_by c ms ≡ false) → EachOf (AsIn (ms ∷ t)) (after_item o b (effects_of_item o.session t ms)).links
  closed_still is none =
      moved_each SameClosed (AsIn t) (AsIn (ms ∷ t)) b.links (after_item o b (effects_of_item o.session t ms)).links (closed_none o b (effects_of_item o.session t ms) is)
      (λ l m v k. v.1 ∙ k ∙ unchanged l.conn (list_any closes_session ms) (list_any (closes_conn l.conn) ms) (none l.conn) ∙ ap (λ c. is_closed c (ms ∷ t)) (sym v.0)) h
    where
      unchanged : (c : ℕ) (s n : Bool) → (s || n) ≡ false → (is_ended t || has (closes_conn c) t) ≡ ((s || is_ended t) || (n || has (closes_conn c) t))
      unchanged c true n e = absurd (false≢true (sym e))
      unchanged c false true e = absurd (false≢true (sym e))
      unchanged c false false e = refl

-- an item of a session
pub closed_item : (o : Opening) (now : ℕ) (t : Trace) (item : List Mark) (b : Box) → HasForm o.session now t item → EachOf (AsIn t) b.links → EachOf (AsIn (item ∷ t)) (after_item o b (effects_of_item o.session t item)).links
closed_item o now t item b f h = subst (λ ms. EachOf (AsIn (ms ∷ t)) (after_item o b (effects_of_item o.session t ms)).links) (sym f.is) (by_form f.form)
  where
    none_executing : (cs : List Command) → executing (map (λ (c : Command). Enable c.ticket c.unit) cs) ≡ None
    none_executing [] = refl
    none_executing (c ∷ cs) = refl

    by_form : (form : Form) → EachOf (AsIn (marks_of_form form ∷ t)) (after_item o b (effects_of_item o.session t (marks_of_form form))).links
    by_form (Ignored why) = closed_still o t (marks_of_form (Ignored why)) b h refl (λ c. refl)
    by_form (Rejected a) = closed_still o t (marks_of_form (Rejected a)) b h refl (λ c. refl)
    by_form (Received a) = closed_still o t (marks_of_form (Received a)) b h (none_executing (newly_enabled o.session t (marks_of_form (Received a)))) (λ c. refl)
    by_form (Postponed a) = closed_still o t (marks_of_form (Postponed a)) b h refl (λ c. refl)
    by_form (Completed c status) = closed_still o t (marks_of_form (Completed c status)) b h refl (λ k. refl)
    by_form (Executed AtTurn a d) = closed_more o t (marks_of_form (Executed AtTurn a d)) b h a.request refl
    by_form (Executed AtArrival a d) = closed_more o t (marks_of_form (Executed AtArrival a d)) b h a.request refl
    by_form (Executed AfterWaiting a d) = closed_more o t (marks_of_form (Executed AfterWaiting a d)) b h a.request refl

-- an empty part of an event
pub closed_empty : (o : Opening) (t : Trace) (b : Box) → EachOf (AsIn t) b.links → EachOf (AsIn t) (after_item o b []).links
closed_empty o t b h = moved_each SameClosed (AsIn t) (AsIn t) b.links (after_item o b []).links (closed_none o b [] refl) (λ l m v k. v.1 ∙ k ∙ ap (λ c. is_closed c t) (sym v.0)) h
