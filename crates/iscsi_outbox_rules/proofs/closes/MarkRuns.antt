-- Which connections are closed, and which of them by another one's Logout, against the items that were taken.
use Rattle.std.proofs.Common.{◌≡◌, ℕ, ◌==◌, ◌||◌, ◌&&◌, ◌+◌, not, cond, Bool, true, false, List, [], ◌∷◌, ◌++◌, map, filter, Option, Some, None, refl, ap, sym, subst, ◌∙◌, eq-eqb, ne_eqb}
use Rattle.std.specs.List.{list_any}
use Rattle.std.proofs.lemmas.Bool.{cond_both, false≢true, eqb-true, eqb-false}
use Rattle.std.proofs.lemmas.List.Folds.{list_any-append}
use Rattle.iscsi_wire.specs.declared.reply.Reply.{Reply}
use Rattle.iscsi_wire.specs.declared.request.Request.{Request}
use Rattle.iscsi_rules.specs.declared.effect.Effect.{Effect}
use Rattle.iscsi_outbox_rules.specs.rules.Calls.{Opening}
use Rattle.iscsi_outbox_rules.specs.rules.Boxes.{Outgoing, Aim, Answer, Link, Box}
use Rattle.iscsi_outbox_rules.specs.rules.Words.{contains}
use Rattle.iscsi_outbox_rules.specs.rules.Queues.{at_link, takes_more, append, enter, without, emptied}
use Rattle.iscsi_outbox_rules.specs.rules.Due.{is_due, settle_from}
use Rattle.iscsi_outbox_rules.specs.rules.Items.{executing, leave, enter_tasks, close_one, close_all, outgoing, answer, send_as, aim, send}
pub use Rattle.iscsi_outbox_rules.specs.promises.Scope.{closes_as, is_closing, by_another, cut_by}
use Rattle.iscsi_outbox_rules.proofs.general.EachLemmas.{EachOf, each-map, each-weaken}

-- ---- what the items say

abbrev pub closed_by : List (List Effect) → ℕ → Bool
closed_by items c = list_any (is_closing c) items

or_false : (v : Bool) → (v || false) ≡ v
or_false true = refl
or_false false = refl

pub closed_by-more : (items : List (List Effect)) (item : List Effect) (c : ℕ) → closed_by (items ++ item ∷ []) c ≡ (closed_by items c || is_closing c item)
closed_by-more items item c = list_any-append (is_closing c) items (item ∷ []) ∙ ap (λ v. closed_by items c || v) (or_false (is_closing c item))

none_more : (v b : Bool) → (v || ((b && not true) && v)) ≡ v
none_more true b = refl
none_more false true = refl
none_more false false = refl

pub cut_by-more : (items : List (List Effect)) (item : List Effect) (c : ℕ)
    → cut_by (items ++ item ∷ []) c ≡ (cut_by items c || ((is_closing c item && not (closed_by items c)) && by_another c (executing item)))
cut_by-more [] item c = by_test (is_closing c item)
  where
    by_test : (v : Bool) → cond v (by_another c (executing item)) false ≡ (false || ((v && not false) && by_another c (executing item)))
    by_test true = refl
    by_test false = refl
cut_by-more (x ∷ items) item c = by_test (is_closing c x) (cut_by-more items item c)
  where
    same : (v w u : Bool) → v ≡ (v || ((w && not true) && u))
    same true w u = refl
    same false true u = refl
    same false false u = refl

    by_test : (v : Bool) → cut_by (items ++ item ∷ []) c ≡ (cut_by items c || ((is_closing c item && not (closed_by items c)) && by_another c (executing item)))
        → cond v (by_another c (executing x)) (cut_by (items ++ item ∷ []) c)
        ≡ (cond v (by_another c (executing x)) (cut_by items c) || ((is_closing c item && not (v || closed_by items c)) && by_another c (executing item)))
    by_test true rest = same (by_another c (executing x)) (is_closing c item) (by_another c (executing item))
    by_test false rest = rest

-- ---- a link's marks

pub record Marked (cs : List ℕ) (f g : ℕ → Bool) (l : Link) : Type 0 where
  pub known : list_any (λ k. k == l.conn) cs ≡ true
  pub closed : l.closed ≡ f l.conn
  pub cut : l.cut ≡ g l.conn
  pub empty : l.cut ≡ true → l.queue ≡ []
  pub idle : l.joined ≡ false → l.queue ≡ []

-- what leaves them as they are
pub record Keeps (change : Link → Link) : Type 0 where
  pub conn : (l : Link) → (change l).conn ≡ l.conn
  pub closed : (l : Link) → (change l).closed ≡ l.closed
  pub cut : (l : Link) → (change l).cut ≡ l.cut
  pub empty : (l : Link) → l.cut ≡ true → l.queue ≡ [] → (change l).queue ≡ []
  pub idle : (l : Link) → (l.joined ≡ false → l.queue ≡ []) → (change l).joined ≡ false → (change l).queue ≡ []

module _ (cs : List ℕ) (f g : ℕ → Bool) where
  pub kept_marked : (change : Link → Link) → Keeps change → (l : Link) → Marked cs f g l → Marked cs f g (change l)
  kept_marked change k l m = record {
    known = ap (λ c. list_any (λ n. n == c) cs) (k.conn l) ∙ m.known;
    closed = k.closed l ∙ m.closed ∙ ap f (sym (k.conn l));
    cut = k.cut l ∙ m.cut ∙ ap g (sym (k.conn l));
    empty = λ is. k.empty l (sym (k.cut l) ∙ is) (m.empty (sym (k.cut l) ∙ is));
    idle = k.idle l m.idle;
  }

  pub marks_map : (change : Link → Link) → Keeps change → (links : List Link) → EachOf (Marked cs f g) links → EachOf (Marked cs f g) (map change links)
  marks_map change k links h = each-map (Marked cs f g) (Marked cs f g) change links (kept_marked change k) h

  pub marks_at : (conn : ℕ) (change : Link → Link) → Keeps change → (links : List Link) → EachOf (Marked cs f g) links → EachOf (Marked cs f g) (at_link conn change links)
  marks_at conn change k links h =
      each-map (Marked cs f g) (Marked cs f g) (λ (l : Link). cond (l.conn == conn) (change l) l) links
      (λ l m. cond_both (l.conn == conn) (change l) l (Marked cs f g) (λ is. kept_marked change k l m) (λ is. m)) h

  -- ---- steps

  taken : (out : Outgoing) (l : Link) → l.cut ≡ true → takes_more l ≡ true → ⊥
  taken out l is more = no (l.joined && not l.lost) (ap (λ v. (l.joined && not l.lost) && not v) (sym is) ∙ more)
    where
      no : (v : Bool) → (v && false) ≡ true → ⊥
      no true e = false≢true e
      no false e = false≢true e

  -- a connection that hasn't joined takes nothing
  taken_unjoined : (l : Link) → l.joined ≡ false → takes_more l ≡ true → ⊥
  taken_unjoined l is more = false≢true (ap (λ v. (v && not l.lost) && not l.cut) (sym is) ∙ more)

  pub keeps_append : (out : Outgoing) → Keeps (append out)
  keeps_append out = record {
    conn = λ l. cond_both (takes_more l) (record l { queue = l.queue ++ out ∷ [] }) l (λ (m : Link). m.conn ≡ l.conn) (λ is. refl) (λ is. refl);
    closed = λ l. cond_both (takes_more l) (record l { queue = l.queue ++ out ∷ [] }) l (λ (m : Link). m.closed ≡ l.closed) (λ is. refl) (λ is. refl);
    cut = λ l. cond_both (takes_more l) (record l { queue = l.queue ++ out ∷ [] }) l (λ (m : Link). m.cut ≡ l.cut) (λ is. refl) (λ is. refl);
    empty = λ l cut none. cond_both (takes_more l) (record l { queue = l.queue ++ out ∷ [] }) l (λ (m : Link). m.queue ≡ []) (λ more. absurd (taken out l cut more)) (λ no. none);
    idle = λ l none. cond_both (takes_more l) (record l { queue = l.queue ++ out ∷ [] }) l (λ (m : Link). m.joined ≡ false → m.queue ≡ []) (λ more is. absurd (taken_unjoined l is more)) (λ no. none);
  }

  pub keeps_without : (these : ℕ → Bool) → Keeps (without these)
  keeps_without these = record {
    conn = λ l. refl;
    closed = λ l. refl;
    cut = λ l. refl;
    empty = λ l cut none. ap (λ q. (without these (record l { queue = q })).queue) none;
    idle = λ l none is. ap (λ q. (without these (record l { queue = q })).queue) (none is);
  }

  pub keeps_emptied : Keeps emptied
  keeps_emptied = record { conn = λ l. refl; closed = λ l. refl; cut = λ l. refl; empty = λ l cut none. refl; idle = λ l none is. refl }

  pub marks_settle : (o : Opening) (before rest : List Answer) (b : Box) → EachOf (Marked cs f g) b.links → EachOf (Marked cs f g) (settle_from o before rest b).links
  marks_settle o before [] b h = h
  marks_settle o before (a ∷ rest) b h =
      cond_both (is_due o b before a) (settle_from o before rest (enter a.conn a.out b)) (settle_from o (before ++ a ∷ []) rest b) (λ (x : Box). EachOf (Marked cs f g) x.links)
      (λ due. marks_settle o before rest (enter a.conn a.out b) (marks_at a.conn (append (record (a.out) { time = b.time })) (keeps_append (record (a.out) { time = b.time })) b.links h))
      (λ due. marks_settle o (before ++ a ∷ []) rest b h)

  pub marks_leave : (r : Option Request) (tickets : List ℕ) (b : Box) → EachOf (Marked cs f g) b.links → EachOf (Marked cs f g) (leave r tickets b).links
  marks_leave (Some r) tickets b h = marks_map (without (contains tickets)) (keeps_without (contains tickets)) b.links h
  marks_leave None tickets b h = h

  pub marks_entered : (r : Option Request) (item : List Effect) (b : Box) → EachOf (Marked cs f g) b.links → EachOf (Marked cs f g) (enter_tasks r item b).links
  marks_entered (Some r) item b h = h
  marks_entered None item b h = h

  pub marks_send : (o : Opening) (b : Box) (r : Option Request) (tickets conns closes : List ℕ) (x : Option (ℕ × Reply)) → EachOf (Marked cs f g) b.links → EachOf (Marked cs f g) (send o r tickets conns closes x b).links
  marks_send o b r tickets conns closes None h = h
  marks_send o b None tickets conns closes (Some s) h = marks_at s.0 (append (record (outgoing b None tickets s.1) { time = b.time })) (keeps_append (record (outgoing b None tickets s.1) { time = b.time })) b.links h
  marks_send o b (Some r) tickets conns closes (Some s) h = by_aim (aim o (Some r) s.1)
    where
      by_aim : (x : Option Aim) → EachOf (Marked cs f g) (let b' = send_as o (Some r) x conns closes s.0 (outgoing b (Some r) tickets s.1) b in record b' { sent = b'.sent + 1 }).links
      by_aim None = marks_at s.0 (append (record (outgoing b (Some r) tickets s.1) { time = b.time })) (keeps_append (record (outgoing b (Some r) tickets s.1) { time = b.time })) b.links h
      by_aim (Some about) =
          let a : Answer = answer o b r conns closes s.0 (outgoing b (Some r) tickets s.1) about in
          cond_both (list_any (λ (l : Link). (l.conn == a.conn) && takes_more l) b.links) (record b { undue = b.undue ++ a ∷ [] }) b (λ (b' : Box). EachOf (Marked cs f g) (record b' { sent = b'.sent + 1 }).links) (λ may. h) (λ may. h)

-- ---- closing

-- one more is closed
closed_link : (cs : List ℕ) (f g : ℕ → Bool) (by conn : ℕ) (l : Link) → Marked cs f g l → (l.conn == conn) ≡ true → (conn == by) ≡ true
    → Marked cs (λ c. f c || (conn == c)) (λ c. g c || ((conn == c) && not (c == by))) (record l { closed = true })
closed_link cs f g by conn l m here own = record {
  known = m.known;
  closed = sym (second (f l.conn) (conn == l.conn) (eq-eqb conn l.conn (sym (eqb-true l.conn conn here))));
  cut = m.cut ∙ sym (none (g l.conn) (conn == l.conn) (l.conn == by) (ap (λ c. c == by) (eqb-true l.conn conn here) ∙ own));
  empty = m.empty;
  idle = m.idle;
}
  where
    second : (x y : Bool) → y ≡ true → (x || y) ≡ true
    second true y is = refl
    second false y is = is

    none : (x y z : Bool) → z ≡ true → (x || (y && not z)) ≡ x
    none x y false is = absurd (false≢true is)
    none true y true is = refl
    none false true true is = refl
    none false false true is = refl

cut_link : (cs : List ℕ) (f g : ℕ → Bool) (by conn : ℕ) (l : Link) → Marked cs f g l → (l.conn == conn) ≡ true → (conn == by) ≡ false
    → Marked cs (λ c. f c || (conn == c)) (λ c. g c || ((conn == c) && not (c == by))) (emptied (record l { closed = true; cut = true }))
cut_link cs f g by conn l m here own = record {
  known = m.known;
  closed = sym (second (f l.conn) (conn == l.conn) same);
  cut = sym (second (g l.conn) ((conn == l.conn) && not (l.conn == by)) (both (conn == l.conn) (l.conn == by) same (ap (λ c. c == by) (eqb-true l.conn conn here) ∙ own)));
  empty = λ is. refl;
  idle = λ is. refl;
}
  where
    second : (x y : Bool) → y ≡ true → (x || y) ≡ true
    second true y is = refl
    second false y is = is

    both : (x y : Bool) → x ≡ true → y ≡ false → (x && not y) ≡ true
    both true false is isnt = refl
    both true true is isnt = absurd (false≢true (sym isnt))
    both false y is isnt = absurd (false≢true is)

    same : (conn == l.conn) ≡ true
    same = eq-eqb conn l.conn (sym (eqb-true l.conn conn here))

other_link : (cs : List ℕ) (f g : ℕ → Bool) (by conn : ℕ) (l : Link) → Marked cs f g l → (l.conn == conn) ≡ false → Marked cs (λ c. f c || (conn == c)) (λ c. g c || ((conn == c) && not (c == by))) l
other_link cs f g by conn l m there = record {
  known = m.known;
  closed = m.closed ∙ sym (first (f l.conn) (conn == l.conn) isnt);
  cut = m.cut ∙ sym (none (g l.conn) (conn == l.conn) (not (l.conn == by)) isnt);
  empty = m.empty;
  idle = m.idle;
}
  where
    isnt : (conn == l.conn) ≡ false
    isnt = ne_eqb conn l.conn (λ same. eqb-false l.conn conn there (sym same))

    first : (x y : Bool) → y ≡ false → (x || y) ≡ x
    first x true is = absurd (false≢true (sym is))
    first x false is = or_false x

    none : (x y z : Bool) → y ≡ false → (x || (y && z)) ≡ x
    none x true z is = absurd (false≢true (sym is))
    none x false z is = or_false x

marks_close_one : (cs : List ℕ) (f g : ℕ → Bool) (by conn : ℕ) (b : Box) → EachOf (Marked cs f g) b.links
    → EachOf (Marked cs (λ c. f c || (conn == c)) (λ c. g c || ((conn == c) && not (c == by)))) (close_one by conn b).links
marks_close_one cs f g by conn b h = by_own (conn == by) refl
  where
    M : Link → Type 0
    M = Marked cs (λ c. f c || (conn == c)) (λ c. g c || ((conn == c) && not (c == by)))

    -- the links are changed twice, each time where the CID is this one
    twice : (links : List Link) → (conn == by) ≡ false → EachOf (Marked cs f g) links → EachOf M (at_link conn emptied (at_link conn (λ l. record l { closed = true; cut = true }) links))
    twice [] own e = tt
    twice (l ∷ links) own e = (
      elim (l.conn == conn) as (λ v. (l.conn == conn) ≡ v → M (let m : Link = cond v (record l { closed = true; cut = true }) l in cond (m.conn == conn) (emptied m) m)) [
        | true ↦ λ is. subst (λ v. M (cond v (emptied (record l { closed = true; cut = true })) (record l { closed = true; cut = true }))) (sym is) (cut_link cs f g by conn l e.0 is own)
        | false ↦ λ isnt. subst (λ v. M (cond v (emptied l) l)) (sym isnt) (other_link cs f g by conn l e.0 isnt)
      ] refl,
      twice links own e.1,
    )

    once : (links : List Link) → (conn == by) ≡ true → EachOf (Marked cs f g) links → EachOf M (at_link conn (λ l. record l { closed = true }) links)
    once links own e =
        each-map (Marked cs f g) M (λ (l : Link). cond (l.conn == conn) (record l { closed = true }) l) links
        (λ l m. cond_both (l.conn == conn) (record l { closed = true }) l M (λ is. closed_link cs f g by conn l m is own) (λ isnt. other_link cs f g by conn l m isnt)) e

    by_own : (v : Bool) → (conn == by) ≡ v → EachOf M (close_one by conn b).links
    by_own true own = subst (λ v. EachOf M (cond v (record b { links = at_link conn (λ l. record l { closed = true }) b.links }) (record b { links = at_link conn emptied (at_link conn (λ l. record l { closed = true; cut = true }) b.links); undue = filter (λ (a : Answer). not (a.conn == conn)) b.undue })).links) (sym own) (once b.links own h)
    by_own false own = subst (λ v. EachOf M (cond v (record b { links = at_link conn (λ l. record l { closed = true }) b.links }) (record b { links = at_link conn emptied (at_link conn (λ l. record l { closed = true; cut = true }) b.links); undue = filter (λ (a : Answer). not (a.conn == conn)) b.undue })).links) (sym own) (twice b.links own h)

or_assoc : (x y z : Bool) → (x || (y || z)) ≡ ((x || y) || z)
or_assoc true y z = refl
or_assoc false y z = refl

or_parts : (x a b n : Bool) → (x || ((a || b) && n)) ≡ ((x || (a && n)) || (b && n))
or_parts true a b n = refl
or_parts false true b true = refl
or_parts false true true false = refl
or_parts false true false false = refl
or_parts false false b n = refl

pub marks_as : (cs : List ℕ) (f g f' g' : ℕ → Bool) (links : List Link) → ((c : ℕ) → list_any (λ k. k == c) cs ≡ true → f c ≡ f' c) → ((c : ℕ) → list_any (λ k. k == c) cs ≡ true → g c ≡ g' c)
    → EachOf (Marked cs f g) links → EachOf (Marked cs f' g') links
marks_as cs f g f' g' links closed cut h =
    each-weaken (Marked cs f g) (Marked cs f' g') links (λ l m. record { known = m.known; closed = m.closed ∙ closed l.conn m.known; cut = m.cut ∙ cut l.conn m.known; empty = m.empty; idle = m.idle }) h

pub marks_close_all : (cs : List ℕ) (f g : ℕ → Bool) (by : ℕ) (conns : List ℕ) (b : Box) → EachOf (Marked cs f g) b.links
    → EachOf (Marked cs (λ c. f c || contains conns c) (λ c. g c || (contains conns c && not (c == by)))) (close_all by conns b).links
marks_close_all cs f g by [] b h = marks_as cs f g (λ c. f c || false) (λ c. g c || (false && not (c == by))) b.links (λ c known. sym (or_false (f c))) (λ c known. sym (or_false (g c))) h
marks_close_all cs f g by (conn ∷ conns) b h =
    let f' : ℕ → Bool = λ c. f c || (conn == c) in
    let g' : ℕ → Bool = λ c. g c || ((conn == c) && not (c == by)) in
    marks_as cs (λ c. f' c || contains conns c) (λ c. g' c || (contains conns c && not (c == by))) (λ c. f c || contains (conn ∷ conns) c) (λ c. g c || (contains (conn ∷ conns) c && not (c == by)))
    (close_all by conns (close_one by conn b)).links
    (λ c known. sym (or_assoc (f c) (conn == c) (contains conns c))) (λ c known. sym (or_parts (g c) (conn == c) (contains conns c) (not (c == by))))
    (marks_close_all cs f' g' by conns (close_one by conn b) (marks_close_one cs f g by conn b h))
